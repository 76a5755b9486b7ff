-- A call after a call does what an act after an act does.
use Rattle.std.proofs.Common.{◌≡◌, ℕ, zero, suc, ◌+◌, ◌-◌, ◌<◌, ◌≤◌, Bool, true, false, cond, ◌++◌, nat_lt, Result, Ok, Err, refl, ap, sym, ◌∙◌, subst, arith, append_assoc}
use Rattle.std.proofs.Common.{IsErrAnd}
use Rattle.std.proofs.lemmas.Result.{err_from_is_err_and}
use Rattle.zw_def_syntax.specs.Tree.{Tree}
use Rattle.zw_def_world.specs.Act as told
use Rattle.zw_def_world.specs.Act.{Act, End, Point, continued, ends, gives, go_on, ◌>>>◌, ◌>>=◌}
use Rattle.zw_def_world.specs.Value as told_value
use Rattle.zw_def_world.proofs.EvaluationLaws.{IsMore, writing_evolves}
use Rattle.zw_def_world.proofs.EvolutionLaws.{Keeps, go_on_keeps}
use Rattle.zw_flow.specs.Follow.{Follows, IsFront, flow_told}
use Rattle.zw_flow.specs.declared.fault.RunFault.{RunFault}
use Rattle.zw_flow.specs.declared.flow.Flow.{Flow}
use Rattle.zw_flow.specs.declared.flow.Flow.TheVariants as f
use Rattle.zw_heap.specs.Telling.{Telling, tell}
use Rattle.zw_heap.specs.declared.value.Value.{Value}

-- an act writes, and takes nothing back
abbrev pub Grows : Act → Type 0
Grows m = Keeps writing_evolves m

pub front-more : (p q r : Point) → IsFront p q → IsMore q r → IsFront p r
front-more p q r a b = (a.0 ++ b.0, b.1 ∙ ap (λ t. t ++ b.0) a.1 ∙ append_assoc p.out a.0 b.0)

-- no value
abbrev pub IsOther : Flow → Type 0
IsOther (f.Value v) = ⊥
IsOther _ = Unit {0}

-- the act that began at the one point goes on at the other as another act
abbrev pub Going : (ℕ → Act) → (ℕ → Act) → Point → Point → Type 0
Going act later start now = (n : ℕ) → start.left ≤ n → act n start ≡ later n now

module _ (I : Telling) where
  -- ---- what was said of another act

  -- an act that does what another does from where that begins
  pub alike : (act other : ℕ → Act) (p o q : Point) (r : Result Flow RunFault) → o.left ≤ p.left → ((n : ℕ) → p.left ≤ n → act n p ≡ other n o) → Follows I other o q r → Follows I act p q r
  alike act other p o q (Ok flow) le same follows = λ n h. same n h ∙ follows n (omega (arith, le, h))
  alike act other p o q (Err fault) le same follows = λ n h. subst (λ (e : End). IsFront q e.at) (sym (same n h)) (follows n (omega (arith, le, h)))

  -- by another name of where it begins and ends
  pub moved : (act : ℕ → Act) (p o q s : Point) (r : Result Flow RunFault) → p ≡ o → q ≡ s → Follows I act o s r → Follows I act p q r
  moved act p o q s r from to follows = subst (λ x. Follows I act x q r) (sym from) (subst (λ x. Follows I act o x r) (sym to) follows)

  -- the exit of a `?`
  pub fails : (act : ℕ → Act) (p q : Point) (r : Result Flow RunFault) (fault : RunFault) (Q : RunFault → Type 0) → IsErrAnd r Q → Follows I act p q (Err fault) → Follows I act p q r
  fails act p q r fault Q is follows = let e = err_from_is_err_and r is in subst (λ s. Follows I act p q s) (sym e.1) follows

  -- nothing more was written
  pub stands : (act : ℕ → Act) (p q : Point) (fault : RunFault) → ((n : ℕ) → Grows (act n)) → q.out ≡ p.out → Follows I act p q (Err fault)
  stands act p q fault grows same = λ n h. let more = (grows n).kept p in (more.0, more.1 ∙ ap (λ t. t ++ more.0) (sym same))

  -- ---- an act after an act

  pub goes : (m : ℕ → Act) (k : ℕ → told.Flow → Act) (flow : Flow) (p q r : Point) (res : Result Flow RunFault)
      → Follows I m p q (Ok flow) → q.left ≤ p.left → Follows I (λ n. k n (flow_told I flow)) q r res → Follows I (λ n. m n >>> k n) p r res
  goes m k flow p q r (Ok end) first le later = λ n h. ap (continued (k n)) (first n h) ∙ later n (omega (arith, le, h))
  goes m k flow p q r (Err fault) first le later = λ n h. subst (λ (e : End). IsFront r (continued (k n) e).at) (sym (first n h)) (later n (omega (arith, le, h)))

  -- a fault on the way
  pub breaks : (m : ℕ → Act) (k : ℕ → told.Flow → Act) (p q : Point) (fault other : RunFault)
      → ((n : ℕ) (flow : told.Flow) → Grows (k n flow)) → Follows I m p q (Err fault) → Follows I (λ n. m n >>> k n) p q (Err other)
  breaks m k p q fault other grows first = λ n h. front-more q (m n p).at ((m n >>> k n) p).at (first n h) ((grows n (m n p).flow).kept (m n p).at)

  module _ (m : ℕ → Act) (k : ℕ → told_value.Value → Act) (p q : Point) where
    -- a value, and what comes after it
    pub gives_on : (v : Value) (r : Point) (res : Result Flow RunFault) → Follows I m p q (Ok (f.Value v)) → q.left ≤ p.left → Follows I (λ n. k n (tell I v)) q r res → Follows I (λ n. m n >>= k n) p r res
    gives_on v r res first le later = goes m (λ n. go_on (k n)) (f.Value v) p q r res first le later

    -- an end that is no value stays
    pub stops : (flow : Flow) → IsOther flow → Follows I m p q (Ok flow) → Follows I (λ n. m n >>= k n) p q (Ok flow)
    stops (f.Value v) other first = absurd other
    stops (f.Raised o) other first = λ n h. ap (continued (go_on (k n))) (first n h)
    stops f.Break other first = λ n h. ap (continued (go_on (k n))) (first n h)
    stops f.Next other first = λ n h. ap (continued (go_on (k n))) (first n h)
    stops (f.Return v) other first = λ n h. ap (continued (go_on (k n))) (first n h)
    stops f.Budget other first = λ n h. ap (continued (go_on (k n))) (first n h)
    stops f.Depth other first = λ n h. ap (continued (go_on (k n))) (first n h)

    pub breaks_on : (fault other : RunFault) → ((n : ℕ) (v : told_value.Value) → Grows (k n v)) → Follows I m p q (Err fault) → Follows I (λ n. m n >>= k n) p q (Err other)
    breaks_on fault other grows first = breaks m (λ n. go_on (k n)) p q fault other (λ n. go_on_keeps (grows n)) first

    -- a value, and then an end that was made of it at once
    pub leads : (v : Value) (r : Point) (flow : Flow) → Follows I m p q (Ok (f.Value v)) → q.left ≤ p.left → ((n : ℕ) → k n (tell I v) q ≡ ends (flow_told I flow) r) → Follows I (λ n. m n >>= k n) p r (Ok flow)
    leads v r flow first le later = gives_on v r (Ok flow) first le (λ n h. later n)

    -- what goes on there with a value
    pub goes_further : (act : ℕ → Act) (start : Point) (v : Value) → Going act (λ n. m n >>= k n) start p → p.left ≤ start.left → Follows I m p q (Ok (f.Value v)) → Going act (λ n. k n (tell I v)) start q
    goes_further act start v going le first = λ n h. going n h ∙ ap (continued (go_on (k n))) (first n (omega (arith, le, h)))
