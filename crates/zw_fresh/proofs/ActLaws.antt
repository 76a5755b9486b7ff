-- Acts in a row, at points alike.
use Rattle.std.specs.Prelude.{◌≡◌, ℕ, ◌-◌, ◌++◌, codes, Bool, true, false, nat_lt, Option, Some, None, if◌then◌else◌}
use Rattle.std.proofs.Common.{refl, sym, ap, ◌∙◌, subst, inl, inr, arith, ltb-true, ltb-false, append_assoc}
use Rattle.zw_def.specs.Text.{Text}
use Rattle.zw_def_world.specs.Value.{Value}
use Rattle.zw_def_world.specs.World.{World}
use Rattle.zw_def_world.specs.Frame.{Frame}
use Rattle.zw_def_world.specs.Act.{Point, Flow, gave, raised, broken, skipped, returned, out_of_steps, too_deep, lost, Act, ends, gives, ◌>>>◌, ◌>>=◌, ◌>>◌, go_on, read, in_world, reading, in_frame, writes, framed, paid, spending}
use Rattle.zw_def_world.proofs.EvolutionLaws.{ends_keeps, then_keeps, go_on_keeps, in_world_keeps, reading_keeps, in_frame_keeps, framed_keeps, paid_keeps, writes_keeps}
use Rattle.zw_fresh.specs.CalmCode.{PlainRunning}
use Rattle.zw_fresh.specs.Renaming.{ren, ren_flow}
use Rattle.zw_fresh.proofs.EndLaws.{Spends, Grows, choose, verdict_map, Passes, go_on_passes, ends_at, verdict_on}
use Rattle.zw_fresh.specs.Alike.{Setting, When, Renamed, Found, Worlds, Frames, Points, EndsAlike, Ends, Acts}

-- two acts that keep points alike; the first one loses no module, and the second one makes no steps
pub record Alike {calm : Bool} (S : Setting calm) (old : Text → Bool) (m m' : Act) : Type 0 where
  pub acts : Acts calm S old m m'
  pub grows : Grows m
  pub spends : Spends m'

module _ {calm : Bool} {S : Setting calm} {old : Text → Bool} where
  pub ends_alike : (f : Flow) → Alike S old (ends f) (ends (ren_flow S.lift f))
  ends_alike f = record { acts = ends_at calm S old f; grows = ends_keeps f; spends = ends_keeps _ }

  pub gives_alike : (v : Value) → Alike S old (gives v) (gives (ren S.lift v))
  gives_alike v = ends_alike (gave v)

  -- ---- acts in a row

  -- after any end
  pub then_alike : {m m' : Act} {k k' : Flow → Act} → When calm (Passes k × Passes k') (Unit {0}) → Alike S old m m'
      → ((f : Flow) → Alike S old (k f) (k' (ren_flow S.lift f))) → ((f : Flow) → Spends (k' f))
      → Alike S old (m >>> k) (m' >>> k')
  then_alike {m} {m'} {k} {k'} c a b l = record {
    acts = λ p p' P inside. verdict_on calm S old k k' (λ f. (b f).acts) c l (m p).flow (m p).at (m' p')
        (a.acts p p' P (S.within_before _ _ ((b (m p).flow).grows.kept (m p).at) inside)) inside;
    grows = then_keeps a.grows (λ f. (b f).grows);
    spends = then_keeps a.spends l;
  }

  go_on_acts : (k k' : Value → Act) → ((v : Value) → Alike S old (k v) (k' (ren S.lift v)))
      → (f : Flow) → Alike S old (go_on k f) (go_on k' (ren_flow S.lift f))
  go_on_acts k k' h (gave v) = h v
  go_on_acts k k' h (raised i) = ends_alike (raised i)
  go_on_acts k k' h broken = ends_alike broken
  go_on_acts k k' h skipped = ends_alike skipped
  go_on_acts k k' h (returned v) = ends_alike (returned v)
  go_on_acts k k' h out_of_steps = ends_alike out_of_steps
  go_on_acts k k' h too_deep = ends_alike too_deep
  go_on_acts k k' h lost = ends_alike lost

  -- after a value
  pub on_alike : {m m' : Act} {k k' : Value → Act} → Alike S old m m'
      → ((v : Value) → Alike S old (k v) (k' (ren S.lift v))) → ((v : Value) → Spends (k' v))
      → Alike S old (m >>= k) (m' >>= k')
  on_alike {m} {m'} {k} {k'} a b l =
      then_alike (choose calm (go_on_passes k, go_on_passes k') tt) a (go_on_acts k k' b) (go_on_keeps l)

  pub both_alike : {m m' n n' : Act} → Alike S old m m' → Alike S old n n' → Alike S old (m >> n) (m' >> n')
  both_alike a b = on_alike a (λ v. b) (λ v. b.spends)

  pub if_alike : (b : Bool) {m m' n n' : Act} → Alike S old m m' → Alike S old n n'
      → Alike S old (if b then m else n) (if b then m' else n')
  if_alike true a c = a
  if_alike false a c = c

  -- a test that is made there of what is alike
  pub if_same_alike : {b b' : Bool} {m m' n n' : Act} → b' ≡ b → Alike S old m m' → Alike S old n n'
      → Alike S old (if b then m else n) (if b' then m' else n')
  if_same_alike {b} {b'} {m} {m'} {n} {n'} e a c =
      subst (λ d. Alike S old (if b then m else n) (if d then m' else n')) (sym e) (if_alike b a c)

  -- ---- what is read

  -- nothing is found here
  none_read : {X Y : Type 0} (g : X → Y) (k' : Y → Act) (o' : Option Y) → Renamed calm g None o' → (p p' : Point)
      → Points calm S old p p' → Ends calm S old (ends lost p) (read o' k' p')
  none_read {X} {Y} g k' o' e p p' P = at calm S e P
    where
      at : (c : Bool) (T : Setting c) → Renamed c g None o' → Points c T old p p'
          → Ends c T old (ends lost p) (read o' k' p')
      at true T e Q = λ inside. tt
      at false T e Q = subst (λ z. Ends false T old (ends lost p) (read z k' p')) (sym e) (ends_at false T old lost p p' Q)

  pub read_alike : {X Y : Type 0} (g : X → Y) (o : Option X) (o' : Option Y) {k : X → Act} {k' : Y → Act}
      → Renamed calm g o o' → ((x : X) → Alike S old (k x) (k' (g x))) → ((y : Y) → Spends (k' y))
      → (p p' : Point) → Points calm S old p p' → Ends calm S old (read o k p) (read o' k' p')
  read_alike g (Some x) o' {k} {k'} e b l p p' P =
      subst (λ z. Ends calm S old (k x p) (read z k' p')) (sym e) ((b x).acts p p' P)
  read_alike g None o' {k} {k'} e b l p p' P = none_read g k' o' e p p' P

  pub reading_alike : {X Y : Type 0} {g : X → Y} {f : World → Option X} {f' : World → Option Y} {k : X → Act} {k' : Y → Act}
      → ((w w' : World) → Worlds calm S w w' → Found calm g (f w) (f' w')) → ((x : X) → Alike S old (k x) (k' (g x)))
      → ((y : Y) → Spends (k' y)) → Alike S old (reading f k) (reading f' k')
  reading_alike {X} {Y} {g} {f} {f'} {k} {k'} h b l = record {
    acts = λ p p' P. read_alike g (f p.world) (f' p'.world) (h p.world p'.world P.world).so b l p p' P;
    grows = reading_keeps f (λ x. (b x).grows);
    spends = reading_keeps f' l;
  }

  -- where what is found here is known to be as the rest asks for
  pub reading_known : {X Y : Type 0} {g : X → Y} {f : World → Option X} {f' : World → Option Y} {k : X → Act} {k' : Y → Act}
      (Q : X → Type 0) → ((w w' : World) → Worlds calm S w w' → Found calm g (f w) (f' w'))
      → ((w w' : World) → Worlds calm S w w' → (x : X) → f w ≡ Some x → Q x)
      → ((x : X) → Q x → Alike S old (k x) (k' (g x))) → ((x : X) → Grows (k x)) → ((y : Y) → Spends (k' y))
      → Alike S old (reading f k) (reading f' k')
  reading_known {X} {Y} {g} {f} {f'} {k} {k'} Q h q b grows l = record {
    acts = λ p p' P. at p p' P (f p.world) refl;
    grows = reading_keeps f grows;
    spends = reading_keeps f' l;
  }
    where
      at : (p p' : Point) → Points calm S old p p' → (o : Option X) → f p.world ≡ o
          → Ends calm S old (read (f p.world) k p) (read (f' p'.world) k' p')
      at p p' P None e =
          subst (λ o. Ends calm S old (read o k p) (read (f' p'.world) k' p')) (sym e)
          (none_read g k' (f' p'.world) (subst (λ o. Renamed calm g o (f' p'.world)) e (h p.world p'.world P.world).so) p p' P)
      at p p' P (Some x) e =
          subst (λ o. Ends calm S old (read o k p) (read (f' p'.world) k' p')) (sym e)
          (subst (λ o. Ends calm S old (k x p) (read o k' p'))
          (sym (subst (λ o. Renamed calm g o (f' p'.world)) e (h p.world p'.world P.world).so))
          ((b x (q p.world p'.world P.world x e)).acts p p' P))

  pub in_world_alike : {X Y : Type 0} (g : X → Y) {f : World → X} {f' : World → Y} {k : X → Act} {k' : Y → Act}
      → ((w w' : World) → Worlds calm S w w' → f' w' ≡ g (f w)) → ((x : X) → Alike S old (k x) (k' (g x)))
      → ((y : Y) → Spends (k' y)) → Alike S old (in_world f k) (in_world f' k')
  in_world_alike g {f} {f'} {k} {k'} h b l = record {
    acts = λ p p' P. subst (λ z. Ends calm S old (k (f p.world) p) (k' z p')) (sym (h p.world p'.world P.world))
        ((b (f p.world)).acts p p' P);
    grows = in_world_keeps f (λ x. (b x).grows);
    spends = in_world_keeps f' l;
  }

  pub in_frame_alike : {X Y : Type 0} (g : X → Y) {f : Frame → X} {f' : Frame → Y} {k : X → Act} {k' : Y → Act}
      → ((a b : Frame) → Frames S.lift old a b → f' b ≡ g (f a)) → ((x : X) → Alike S old (k x) (k' (g x)))
      → ((y : Y) → Spends (k' y)) → Alike S old (in_frame f k) (in_frame f' k')
  in_frame_alike g {f} {f'} {k} {k'} h b l = record {
    acts = λ p p' P. subst (λ z. Ends calm S old (k (f p.frame) p) (k' z p')) (sym (h p.frame p'.frame P.frame))
        ((b (f p.frame)).acts p p' P);
    grows = in_frame_keeps f (λ x. (b x).grows);
    spends = in_frame_keeps f' l;
  }

  -- ---- frames and lines

  pub framed_alike : {new : Text → Bool} {a b : Frame} {m m' : Act} → Frames S.lift new a b
      → PlainRunning calm a.running → Alike S new m m' → Alike S old (framed a m) (framed b m')
  framed_alike {new} {a} {b} {m} {m'} F plain h = record { acts = at; grows = framed_keeps a h.grows; spends = framed_keeps b h.spends }
    where
      at : Acts calm S old (framed a m) (framed b m')
      at p p' P = λ inside. verdict_map calm (m (record p { frame = a })).flow (λ z. z) back
          (h.acts (record p { frame = a }) (record p' { frame = b })
          (record { world = P.world; frame = F; plain = plain; left = P.left; out = P.out }) inside)
        where
          back : EndsAlike calm S new (m (record p { frame = a })) (m' (record p' { frame = b }))
              → EndsAlike calm S old (framed a m p) (framed b m' p')
          back A = record {
            flow = A.flow;
            at = record { world = A.at.world; frame = P.frame; plain = P.plain; left = A.at.left; out = A.at.out };
          }

  pub writes_alike : (line : Text) → Alike S old (writes line) (writes line)
  writes_alike line = record { acts = at; grows = writes_keeps line; spends = writes_keeps line }
    where
      all_of : (a o : Text) → a ++ o ++ line ++ codes "\n" ≡ a ++ (o ++ line ++ codes "\n")
      all_of a o = ap (λ t. t ++ codes "\n") (append_assoc a o line) ∙ append_assoc a (o ++ line) (codes "\n")

      at : Acts calm S old (writes line) (writes line)
      at p p' P = (gives_alike _).acts _ _ (record {
        world = P.world;
        frame = P.frame;
        plain = P.plain;
        left = P.left;
        out = (
          P.out.0 ++ line ++ codes "\n",
          ap (λ t. t ++ line ++ codes "\n") P.out.1 ∙ all_of S.front P.out.0,
          ap (λ t. t ++ line ++ codes "\n") P.out.2 ∙ all_of S.front' P.out.0,
        );
      })

  -- ---- steps

  pub paid_alike : (n : ℕ) {m m' : Act} → Alike S old m m' → Alike S old (paid n m) (paid n m')
  paid_alike n {m} {m'} h = record { acts = paid_acts; grows = paid_keeps n h.grows; spends = paid_keeps n h.spends }
    where
      paid_acts : Acts calm S old (paid n m) (paid n m')
      paid_acts p p' P =
          at calm S P (h.acts (record p { left = p.left - n }) (record p' { left = p'.left - n })) (nat_lt p.left n)
          (nat_lt p'.left n) refl refl
        where
          at : (c : Bool) (T : Setting c) → Points c T old p p'
              → (Points c T old (record p { left = p.left - n }) (record p' { left = p'.left - n })
              → Ends c T old (m (record p { left = p.left - n })) (m' (record p' { left = p'.left - n })))
              → (b b' : Bool) → nat_lt p.left n ≡ b → nat_lt p'.left n ≡ b'
              → Ends c T old ((if b then ends out_of_steps else spending n m) p)
              ((if b' then ends out_of_steps else spending n m') p')
          at true T P h true true e e' = λ inside. inl tt
          at true T P g true false e e' =
              let lt = ltb-true p.left n e in
              let le = ltb-false p'.left n e' in
              let o = P.left in
              let d = h.spends.kept (record p' { left = p'.left - n }) in
              λ inside. inr (omega (arith, lt, le, o, d))
          at false T P h true true e e' = ends_at false T old out_of_steps p p' P
          at false T P h true false e e' =
              let lt = ltb-true p.left n e in
              let le = ltb-false p'.left n e' in
              let o = T.exact refl p.world.states in
              let d = P.left in
              absurd (omega (arith, lt, le, o, d))
          at c T P h false true e e' =
              let le = ltb-false p.left n e in
              let lt = ltb-true p'.left n e' in
              let o = T.bounded p.world.states in
              let d = P.left in
              absurd (omega (arith, le, lt, o, d))
          at c T P h false false e e' =
              let le = ltb-false p.left n e in
              let le' = ltb-false p'.left n e' in
              let d = P.left in
              h (record { world = P.world; frame = P.frame; plain = P.plain; left = omega (arith, le, le', d); out = P.out })
