-- Turns of a loop: the loop does what is left of it to do, from each turn on.
use Rattle.std.proofs.Common.{◌≡◌, ℕ, zero, suc, ◌+◌, ◌-◌, ◌<◌, ◌≤◌, Bool, true, false, cond, ◌++◌, Option, Some, None, Result, Ok, Err, refl, ap, sym, ◌∙◌, subst, arith, append_assoc}
use Rattle.zw_def_world.specs.Act as told
use Rattle.zw_def_world.specs.Act.{Act, End, Point, continued, ends, gives, go_on, ◌>>>◌, ◌>>=◌}
use Rattle.zw_def_world.specs.Control.{after_turn, turns}
use Rattle.zw_def_world.specs.Value as told_value
use Rattle.zw_def_world.specs.Value.{is_true}
use Rattle.zw_def_world.proofs.EvaluationLaws.{IsMore, writing_evolves}
use Rattle.zw_def_world.proofs.EvolutionLaws.{Keeps, keeping, gives_keeps, go_on_keeps, if_keeps, then_keeps}
use Rattle.zw_def_world.proofs.NodeLaws.{after_turn_keeps, turns_keeps}
use Rattle.zw_flow.proofs.EnterLemmas.{paid_short, spent}
use Rattle.zw_flow.proofs.FollowLemmas.{Grows, IsOther, front-more}
use Rattle.zw_flow.specs.Follow.{Follows, IsFront, flow_told}
use Rattle.zw_flow.specs.declared.fault.RunFault.{RunFault}
use Rattle.zw_flow.specs.declared.flow.Flow.{Flow}
use Rattle.zw_flow.specs.declared.flow.Flow.TheVariants as f
use Rattle.zw_heap.specs.Telling.{Telling, tell}
use Rattle.zw_heap.specs.declared.value.Value.{Value}
use Rattle.zw_heap.specs.declared.value.Value.TheVariants as v

-- the loop that began at the one point goes on at the other
abbrev pub Turning : (ℕ → Act) → (ℕ → Act) → Point → Point → Type 0
Turning test body start now = (n : ℕ) → start.left ≤ n
    → (m : ℕ) × (now.left ≤ m) × (turns n (test n) (body n) start ≡ turns m (test n) (body n) now)

-- without a step left a test has none
abbrev pub IsIdle : (ℕ → Act) → Type 0
IsIdle test = (n : ℕ) (p : Point) → p.left ≡ 0 → test n p ≡ ends told.out_of_steps p

-- how the loop ends with the end of a body
abbrev pub left_by : Flow → Option Flow
left_by (f.Value w) = None
left_by f.Next = None
left_by f.Break = Some (f.Value v.Nil)
left_by flow = Some flow

module _ (I : Telling) (test body : ℕ → Act) (idle : IsIdle test) (test_grows : (n : ℕ) → Grows (test n)) (body_grows : (n : ℕ) → Grows (body n)) where
  -- after the test, with so many turns left
  abbrev turn : ℕ → ℕ → told_value.Value → Act
  turn n m u = cond (is_true u) (body n >>> after_turn (turns m (test n) (body n))) (gives told_value.nil)

  turn_grows : (n m : ℕ) (u : told_value.Value) → Grows (turn n m u)
  turn_grows n m u =
      if_keeps (is_true u) (then_keeps (body_grows n) (after_turn_keeps (turns_keeps m (test_grows n) (body_grows n)))) (gives_keeps told_value.nil)

  pub turning_at_first : (p : Point) → Turning test body p p
  turning_at_first p = λ n h. (n, h, refl)

  module _ (start now q : Point) (turning : Turning test body start now) where
    -- ---- the test

    pub test_breaks : (fault other : RunFault) → Follows I test now q (Err fault) → now.left ≤ start.left → Follows I (λ n. turns n (test n) (body n)) start q (Err other)
    test_breaks fault other first le = λ n h. let here = turning n h in subst (λ (e : End). IsFront q e.at) (sym here.2) (at n here.0 here.1 (first n (omega (arith, le, h))))
      where
        at : (n m : ℕ) → now.left ≤ m → IsFront q (test n now).at → IsFront q (turns m (test n) (body n) now).at
        at n zero none made =
            let over = idle n now (omega (arith, none)) in
            subst (λ (e : End). IsFront q e.at) (sym (paid_short 1 (ends told.lost) now (omega (arith, none)))) (subst (λ (e : End). IsFront q e.at) over made)
        at n (suc m) le made = front-more q (test n now).at ((test n >>= turn n m) now).at made ((go_on_keeps (turn_grows n m) (test n now).flow).kept (test n now).at)

    pub test_stops : (flow : Flow) → IsOther flow → Follows I test now q (Ok flow) → now.left ≤ start.left → Follows I (λ n. turns n (test n) (body n)) start q (Ok flow)
    test_stops flow other first le = λ n h. let here = turning n h in here.2 ∙ at n here.0 flow other here.1 (first n (omega (arith, le, h)))
      where
        at : (n m : ℕ) (flow : Flow) → IsOther flow → now.left ≤ m → test n now ≡ ends (flow_told I flow) q → turns m (test n) (body n) now ≡ ends (flow_told I flow) q
        at n zero flow other none made = paid_short 1 (ends told.lost) now (omega (arith, none)) ∙ sym (idle n now (omega (arith, none))) ∙ made
        at n (suc m) (f.Value u) other le made = absurd other
        at n (suc m) (f.Raised o) other le made = ap (continued (go_on (turn n m))) made
        at n (suc m) f.Break other le made = ap (continued (go_on (turn n m))) made
        at n (suc m) f.Next other le made = ap (continued (go_on (turn n m))) made
        at n (suc m) (f.Return u) other le made = ap (continued (go_on (turn n m))) made
        at n (suc m) f.Budget other le made = ap (continued (go_on (turn n m))) made
        at n (suc m) f.Depth other le made = ap (continued (go_on (turn n m))) made

    -- the value of a test that was made: a step was left for it
    module _ (u : Value) (made : Follows I test now q (Ok (f.Value u))) (le : now.left ≤ start.left) where
      tested : (n m : ℕ) → start.left ≤ n → now.left ≤ m → turns n (test n) (body n) start ≡ turns m (test n) (body n) now → (k : ℕ) × (m ≡ suc k) × (turns n (test n) (body n) start ≡ turn n k (tell I u) q)
      tested n zero h none same =
          let bad : told.gave (tell I u) ≡ told.out_of_steps = ap (λ (e : End). e.flow) (sym (made n (omega (arith, le, h))) ∙ idle n now (omega (arith, none))) in
          absurd (cc)
      tested n (suc m) h some same = (m, refl, same ∙ ap (continued (go_on (turn n m))) (made n (omega (arith, le, h))))

      pub turn_ends : is_true (tell I u) ≡ false → Follows I (λ n. turns n (test n) (body n)) start q (Ok (f.Value v.Nil))
      turn_ends off = λ n h.
          let here = turning n h in
          let after = tested n here.0 h here.1 here.2 in
          after.2 ∙ ap (λ b. cond b (body n >>> after_turn (turns after.0 (test n) (body n))) (gives told_value.nil) q) off

      -- ---- the body

      module _ (on : is_true (tell I u) ≡ true) (r : Point) (fewer : q.left ≤ now.left) where
        bodied : (n : ℕ) → start.left ≤ n → (k : ℕ) × (now.left ≤ suc k) × (turns n (test n) (body n) start ≡ (body n >>> after_turn (turns k (test n) (body n))) q)
        bodied n h =
            let here = turning n h in
            let after = tested n here.0 h here.1 here.2 in
            (after.0, subst (λ m. now.left ≤ m) after.1 here.1, after.2 ∙ ap (λ b. cond b (body n >>> after_turn (turns after.0 (test n) (body n))) (gives told_value.nil) q) on)

        pub body_breaks : (fault other : RunFault) → Follows I body q r (Err fault) → Follows I (λ n. turns n (test n) (body n)) start r (Err other)
        body_breaks fault other second = λ n h.
            let after = bodied n h in
            subst (λ (e : End). IsFront r e.at) (sym after.2)
            (front-more r (body n q).at ((body n >>> after_turn (turns after.0 (test n) (body n))) q).at (second n (omega (arith, le, fewer, h)))
            ((after_turn_keeps (turns_keeps after.0 (test_grows n) (body_grows n)) (body n q).flow).kept (body n q).at))

        pub body_stops : (flow last : Flow) → left_by flow ≡ Some last → Follows I body q r (Ok flow) → Follows I (λ n. turns n (test n) (body n)) start r (Ok last)
        body_stops flow last is second = λ n h.
            let after = bodied n h in
            after.2 ∙ ap (continued (after_turn (turns after.0 (test n) (body n)))) (second n (omega (arith, le, fewer, h))) ∙ at flow last is (turns after.0 (test n) (body n))
          where
            at : (flow last : Flow) → left_by flow ≡ Some last → (again : Act) → after_turn again (flow_told I flow) r ≡ ends (flow_told I last) r
            at (f.Value w) last is again = absurd (cc)
            at f.Next last is again = absurd (cc)
            at f.Break last is again = let same : f.Value v.Nil ≡ last = cc in ap (λ x. ends (flow_told I x) r) same
            at (f.Raised o) last is again = let same : f.Raised o ≡ last = cc in ap (λ x. ends (flow_told I x) r) same
            at (f.Return w) last is again = let same : f.Return w ≡ last = cc in ap (λ x. ends (flow_told I x) r) same
            at f.Budget last is again = let same : f.Budget ≡ last = cc in ap (λ x. ends (flow_told I x) r) same
            at f.Depth last is again = let same : f.Depth ≡ last = cc in ap (λ x. ends (flow_told I x) r) same

        pub body_goes : (flow : Flow) → left_by flow ≡ None → Follows I body q r (Ok flow) → r.left < now.left → Turning test body start r
        body_goes flow is second less = λ n h.
            let after = bodied n h in
            (after.0, omega (arith, less, after.1), after.2 ∙ ap (continued (after_turn (turns after.0 (test n) (body n)))) (second n (omega (arith, le, fewer, h))) ∙ at flow is (turns after.0 (test n) (body n)))
          where
            at : (flow : Flow) → left_by flow ≡ None → (again : Act) → after_turn again (flow_told I flow) r ≡ again r
            at (f.Value w) is again = refl
            at f.Next is again = refl
            at f.Break is again = absurd (cc)
            at (f.Raised o) is again = absurd (cc)
            at (f.Return w) is again = absurd (cc)
            at f.Budget is again = absurd (cc)
            at f.Depth is again = absurd (cc)
