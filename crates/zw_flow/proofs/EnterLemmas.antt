-- A step, a level, and the row of a node.
use Rattle.std.proofs.Common.{◌≡◌, ℕ, zero, suc, ◌+◌, ◌-◌, ◌<◌, ◌≤◌, Bool, true, false, cond, ◌==◌, nat_lt, Result, Ok, Err, refl, ap, sym, ◌∙◌, subst, arith, eq-eqb, ne_eqb}
use Rattle.std.proofs.lemmas.Bool.{le-ltb, lt-ltb}
use Rattle.zw_def_syntax.specs.Tree.{Tree}
use Rattle.zw_def_world.specs.Act as told
use Rattle.zw_def_world.specs.Act.{Act, End, Point, ends, paid, spending}
use Rattle.zw_def_world.specs.Evaluation.{enters, max_level, row_of, run}
use Rattle.zw_flow.specs.Follow.{Follows, IsFront, flow_told}
use Rattle.zw_flow.specs.declared.fault.RunFault.{RunFault}
use Rattle.zw_flow.specs.declared.flow.Flow.{Flow}
use Rattle.zw_flow.specs.declared.flow.Flow.TheVariants as f
use Rattle.zw_heap.specs.Telling.{Telling}

-- so many steps later
abbrev pub spent : ℕ → Point → Point
spent n p = record p { left = p.left - n }

-- ---- what is paid

pub paid_short : (n : ℕ) (act : Act) (p : Point) → p.left < n → paid n act p ≡ ends told.out_of_steps p
paid_short n act p lt = ap (λ b. cond b (ends told.out_of_steps) (spending n act) p) (lt-ltb p.left n lt)

pub paid_whole : (n : ℕ) (act : Act) (p : Point) → n ≤ p.left → paid n act p ≡ act (spent n p)
paid_whole n act p le = ap (λ b. cond b (ends told.out_of_steps) (spending n act) p) (le-ltb p.left n le)

-- ---- nodes

pub run_spent : (n level : ℕ) (node : Tree) (p : Point) → p.left ≡ 0 → run n level node p ≡ ends told.out_of_steps p
unfolding run
run_spent zero level node p none = paid_short 1 (ends told.lost) p (omega (arith, none))
run_spent (suc n) level node p none = paid_short 1 (enters level (row_of n (run n (level + 1)) node)) p (omega (arith, none))

run_row : (n level : ℕ) (node : Tree) (p : Point) → 0 < p.left → run (suc n) level node p ≡ enters level (row_of n (run n (level + 1)) node) (spent 1 p)
unfolding run
run_row n level node p some = paid_whole 1 (enters level (row_of n (run n (level + 1)) node)) p (omega (arith, some))

module _ (I : Telling) (level : ℕ) (node : Tree) (p : Point) where
  pub budget_follows : p.left ≡ 0 → Follows I (λ n. run n level node) p p (Ok f.Budget)
  budget_follows none = λ n h. run_spent n level node p none

  pub depth_follows : 0 < p.left → level ≡ max_level → Follows I (λ n. run n level node) p (spent 1 p) (Ok f.Depth)
  depth_follows some deep = λ n h. at n h
    where
      at : (n : ℕ) → p.left ≤ n → run n level node p ≡ ends told.too_deep (spent 1 p)
      at zero h = absurd (omega (arith, some, h))
      at (suc n) h = run_row n level node p some ∙ ap (λ b. cond b (ends told.too_deep) (row_of n (run n (level + 1)) node) (spent 1 p)) (eq-eqb level max_level deep)

  pub row_follows : (q : Point) (r : Result Flow RunFault) → 0 < p.left → level < max_level → Follows I (λ n. row_of n (run n (level + 1)) node) (spent 1 p) q r → Follows I (λ n. run n level node) p q r
  row_follows q (Ok flow) some shallow follows = λ n h. at n h
    where
      at : (n : ℕ) → p.left ≤ n → run n level node p ≡ ends (flow_told I flow) q
      at zero h = absurd (omega (arith, some, h))
      at (suc n) h =
          run_row n level node p some
          ∙ ap (λ b. cond b (ends told.too_deep) (row_of n (run n (level + 1)) node) (spent 1 p)) (ne_eqb level max_level (λ e. omega (arith, e, shallow)))
          ∙ follows n (omega (arith, h))
  row_follows q (Err fault) some shallow follows = λ n h. at n h
    where
      at : (n : ℕ) → p.left ≤ n → IsFront q (run n level node p).at
      at zero h = absurd (omega (arith, some, h))
      at (suc n) h =
          subst (λ (e : End). IsFront q e.at)
          (sym (run_row n level node p some ∙ ap (λ b. cond b (ends told.too_deep) (row_of n (run n (level + 1)) node) (spent 1 p)) (ne_eqb level max_level (λ e. omega (arith, e, shallow)))))
          (follows n (omega (arith, h)))
