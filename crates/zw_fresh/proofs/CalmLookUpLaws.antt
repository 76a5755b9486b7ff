-- Where a constant is asked for in a calm setting: what is there here is there too; a stated key that is idle here is
-- loaded here alone, and its load is owed; and where none would be loaded here, none is there.
use Rattle.std.specs.Prelude.{◌≡◌, Bool, true, false, Option, Some, None}
use Rattle.std.specs.Option.{option_map, option_map_or}
use Rattle.std.proofs.Common.{refl, sym, ap, ◌∙◌, subst, inl, inr, arith}
use Rattle.zw_def.specs.Text.{Text}
use Rattle.zw_def.specs.Map.{Key}
use Rattle.zw_def_syntax.specs.Tree.{Tree}
use Rattle.zw_def_world.specs.Id.{Id}
use Rattle.zw_def_world.specs.Value.{Value, nil}
use Rattle.zw_def_world.specs.Table.{at}
use Rattle.zw_def_world.specs.Record.{Module}
use Rattle.zw_def_world.specs.Meeting.{with_meeting}
use Rattle.zw_def_world.specs.LookUp.{loadable}
use Rattle.zw_def_world.specs.Load.{loads, sought, known, asks}
use Rattle.zw_def_world.specs.Act.{Act, Point, Flow, gave, raised, broken, skipped, returned, out_of_steps, too_deep, lost, gives, ends, go_on, read, in_module, changing, ◌>>◌}
use Rattle.zw_def_world.proofs.EvolutionLaws.{in_module_keeps, go_on_keeps}
use Rattle.zw_def_world.proofs.LoadLaws.{asks_keeps}
use Rattle.zw_fresh.specs.Renaming.{lifted, ren, ren_flow}
use Rattle.zw_fresh.specs.Alike.{Setting, IsThere, Met, Constant, Modules, shows, Points, Short, EndsAlike, Ends}
use Rattle.zw_fresh.specs.Calm.{IsOwed, LoadsAreOwed}
use Rattle.zw_fresh.proofs.OptionLemmas.{some_same}
use Rattle.zw_fresh.proofs.EndLaws.{Grows, Spends, ends_at}
use Rattle.zw_fresh.proofs.ActLaws.{Alike}
use Rattle.zw_fresh.proofs.WorldLaws.{met_same}
use Rattle.zw_fresh.proofs.CalmKeyLaws.{loadable_not_shown}
use Rattle.zw_fresh.proofs.NameLemmas.{apart}

abbrev is_gave : Flow → Bool
is_gave (gave v) = true
is_gave (raised i) = false
is_gave broken = false
is_gave skipped = false
is_gave (returned v) = false
is_gave out_of_steps = false
is_gave too_deep = false
is_gave lost = false

module _ (S : Setting true) (go : Tree → Act) (L : LoadsAreOwed S go) (old : Text → Bool) (i : Id) (n : Text)
    (k k' : Option Value → Act) (b : (o : Option Value) → Alike S old (k o) (k' (option_map (ren S.lift) o)))
    (l : (o : Option Value) → Spends (k' o)) where
  -- the constant that is there now, beside the one that is there
  now_found : (o : Option Value) (v : Value) (shown : Bool) → Constant shown S.lift o (Some v) → IsThere o → (q p' : Point)
      → Points true S old q p' → Ends true S old (k o q) (k' (Some v) p')
  now_found (Some u) v shown c there q p' P =
      subst (λ x. Ends true S old (k (Some u) q) (k' (Some x) p')) (sym (some_same c)) ((b (Some u)).acts q p' P)
  now_found None v shown c there q p' P = absurd there

  in_module_now : (m' : Module) (v : Value) → at n m'.constants ≡ Some v → (q p' : Point) → Points true S old q p'
      → (o o' : Option Module) → (o' ≡ Some m') → Met true (Modules true S.lift (shows true S q.world)) o o'
      → ((m : Module) → o ≡ Some m → IsThere (at n m.constants))
      → Ends true S old (read o (λ m. k (at n m.constants)) q) (k' (Some v) p')
  in_module_now m' v f q p' P None o' g M there = λ inside. tt
  in_module_now m' v f q p' P (Some m) None g M there = absurd M
  in_module_now m' v f q p' P (Some m) (Some m₂) g M there = now_found (at n m.constants) v (shows true S q.world m.home n)
      (subst (Constant (shows true S q.world m.home n) S.lift (at n m.constants)) (ap (λ x. at n x.constants) (some_same g) ∙ f) (M.constants n))
      (there m refl) q p' P

  -- what comes after the load, here
  abbrev rest : Flow → Act
  rest = go_on (λ u. in_module i (λ m. k (at n m.constants)))

  rest_grows : (f : Flow) → Grows (rest f)
  rest_grows = go_on_keeps (λ u. in_module_keeps i (λ m. (b (at n m.constants)).grows))

  no_value : {A : Type 0} (f : Flow) (q p' : Point) → is_gave f ≡ false → is_gave (ren_flow S.lift f) ≡ is_gave f
      → EndsAlike true S old (ends f q) (gives nil p') → A
  no_value f q p' e same A = absurd (apart (ap is_gave A.flow ∙ (same ∙ e)))

  after_load : (m' : Module) (v : Value) (p' : Point) → p'.world.modules (lifted S.lift i) ≡ Some m' → at n m'.constants ≡ Some v
      → (f : Flow) (q : Point) → IsOwed S old i n (ends f q) p' → Ends true S old (rest f q) (k' (Some v) p')
  after_load m' v p' g c (gave u) q O = λ inside.
      let A = O.ends (S.within_before _ _ ((rest_grows (gave u)).kept q) inside) in
      in_module_now m' v c q p' A.at (q.world.modules i) (p'.world.modules (lifted S.lift i)) g (A.at.world.modules i)
      (O.there u refl) inside
  after_load m' v p' g c (raised r) q O = λ inside. no_value (raised r) q p' refl refl (O.ends inside)
  after_load m' v p' g c broken q O = λ inside. no_value broken q p' refl refl (O.ends inside)
  after_load m' v p' g c skipped q O = λ inside. no_value skipped q p' refl refl (O.ends inside)
  after_load m' v p' g c (returned u) q O = λ inside. no_value (returned u) q p' refl refl (O.ends inside)
  after_load m' v p' g c out_of_steps q O = λ inside. short (O.ends inside)
    where
      short : Short S.total (gives nil p') → Short S.total (k' (Some v) p')
      short (inl o) = absurd o
      short (inr s) = let m = (l (Some v)).kept p' in inr (omega (arith, s, m))
  after_load m' v p' g c too_deep q O = λ inside. tt
  after_load m' v p' g c lost q O = λ inside. tt

  -- with what a module has here and there; the loadable key there is that of a module of the same home
  known_calmly : (p p' : Point) → Points true S old p p' → (m m' : Module) → p.world.modules i ≡ Some m
      → p'.world.modules (lifted S.lift i) ≡ Some m' → m'.home ≡ m.home → (o o' : Option Value) → at n m.constants ≡ o
      → at n m'.constants ≡ o' → Constant (shows true S p.world m.home n) S.lift o o'
      → Ends true S old (known go i n k m o p) (known go (lifted S.lift i) n k' m' o' p')
  known_calmly p p' P m m' e e' h (Some v) o' f f' c =
      subst (λ x. Ends true S old (k (Some v) p) (known go (lifted S.lift i) n k' m' x p')) (sym c) ((b (Some v)).acts p p' P)
  known_calmly p p' P m m' e e' h None o' f f' c = by (loadable p.world m.home n) refl
    where
      none_there : shows true S p.world m.home n ≡ false → loadable p'.world m'.home n ≡ loadable p.world m.home n
      none_there g = ap (λ x. loadable p'.world x n) h ∙ loadable_not_shown S p.world p'.world P.world m.home n g

      by : (key : Option Key) → loadable p.world m.home n ≡ key
          → Ends true S old (sought go i n k (loadable p.world m.home n) p) (known go (lifted S.lift i) n k' m' o' p')
      by None g =
          let hidden : shows true S p.world m.home n ≡ false = ap (λ x. option_map_or (λ y. S.stated y.path) x false) g in
          let gone : o' ≡ None = subst (λ x. Constant x S.lift None o') hidden c in
          subst (λ x. Ends true S old (sought go i n k x p) (known go (lifted S.lift i) n k' m' o' p')) (sym g)
          (subst (λ x. Ends true S old (k None p) (known go (lifted S.lift i) n k' m' x p')) (sym gone)
          (subst (λ x. Ends true S old (k None p) (sought go (lifted S.lift i) n k' x p')) (sym (none_there hidden ∙ g))
          ((b None).acts p p' P)))
      by (Some key) g =
          let owed = L old p p' P i m n key e f g in
          let shown : shows true S p.world m.home n ≡ true = ap (λ x. option_map_or (λ y. S.stated y.path) x false) g ∙ owed.0 in
          let there = subst (λ x. Constant x S.lift None o') shown c in
          subst (λ x. Ends true S old (sought go i n k x p) (known go (lifted S.lift i) n k' m' o' p')) (sym g)
          (subst (λ x. Ends true S old (sought go i n k (Some key) p) (known go (lifted S.lift i) n k' m' x p')) (sym there.1)
          (after_load m' there.0 p' e' (f' ∙ there.1) (loads go key i n p).flow (loads go key i n p).at owed.1))

  abbrev asked_here : Module → Act
  asked_here m = changing (with_meeting m.home n) nil >> known go i n k m (at n m.constants)

  abbrev asked_there : Module → Act
  asked_there m = changing (with_meeting m.home n) nil >> known go (lifted S.lift i) n k' m (at n m.constants)

  asked : (p p' : Point) → Points true S old p p' → (o o' : Option Module) → p.world.modules i ≡ o
      → p'.world.modules (lifted S.lift i) ≡ o' → Met true (Modules true S.lift (shows true S p.world)) o o'
      → Ends true S old (read o asked_here p) (read o' asked_there p')
  asked p p' P None None e e' M = ends_at true S old lost p p' P
  asked p p' P None (Some m') e e' M = λ inside. tt
  asked p p' P (Some m) None e e' M = absurd M
  asked p p' P (Some m) (Some m') e e' M =
      let h : m'.home ≡ m.home = ap (λ x. x.home) M.others in
      let P₁ = subst (λ x. Points true S old (record p { world = with_meeting m.home n p.world })
      (record p' { world = with_meeting x n p'.world })) (sym h) (record {
        world = met_same P.world m.home n;
        frame = P.frame;
        plain = P.plain;
        left = P.left;
        out = P.out;
      }) in
      known_calmly (record p { world = with_meeting m.home n p.world }) (record p' { world = with_meeting m'.home n p'.world }) P₁ m m'
      e e' h (at n m.constants) (at n m'.constants) refl refl (M.constants n)

  pub asks_calmly : ((t : Tree) → Grows (go t)) → ((t : Tree) → Spends (go t))
      → Alike S old (asks go i n k) (asks go (lifted S.lift i) n k')
  asks_calmly grows spends = record {
    acts = λ p p' P. asked p p' P (p.world.modules i) (p'.world.modules (lifted S.lift i)) refl refl (P.world.modules i);
    grows = asks_keeps grows i n (λ o. (b o).grows);
    spends = asks_keeps spends (lifted S.lift i) n l;
  }
