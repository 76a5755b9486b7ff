-- Verdicts and ends, at points alike.
use Rattle.std.specs.Prelude.{◌≡◌, ℕ, Bool, true, false}
use Rattle.std.proofs.Common.{refl, sym, subst, inl, inr, arith}
use Rattle.zw_def.specs.Text.{Text}
use Rattle.zw_def_world.specs.Value.{Value}
use Rattle.zw_def_world.specs.Act.{Point, End, Flow, gave, raised, broken, skipped, returned, out_of_steps, too_deep, lost, Act, ends, go_on}
use Rattle.zw_def_world.proofs.EvolutionLaws.{Keeps}
use Rattle.zw_def_world.proofs.EvaluationLaws.{spending_evolves}
use Rattle.zw_fresh.specs.Renaming.{ren_flow}
use Rattle.zw_fresh.proofs.GrowingLaws.{growing}
use Rattle.zw_fresh.specs.Alike.{Setting, When, Points, IsOver, Short, EndsAlike, Verdict, Ends, Acts}

abbrev pub Spends : Act → Type 0
Spends m = Keeps spending_evolves m

-- no module is lost
abbrev pub Grows : Act → Type 0
Grows m = Keeps growing m

-- ---- verdicts

pub choose : {A B : Type 0} (calm : Bool) → A → B → When calm A B
choose true a b = a
choose false a b = b

when_map : {A B C D : Type 0} (calm : Bool) → (A → C) → (B → D) → When calm A B → When calm C D
when_map true f g a = f a
when_map false f g b = g b

pub verdict_map : {A B C D : Type 0} (calm : Bool) (f : Flow) → (A → C) → (B → D) → Verdict calm f A B
    → Verdict calm f C D
verdict_map calm (gave v) g h x = h x
verdict_map calm (raised i) g h x = h x
verdict_map calm broken g h x = h x
verdict_map calm skipped g h x = h x
verdict_map calm (returned v) g h x = h x
verdict_map calm out_of_steps g h x = when_map calm g h x
verdict_map calm too_deep g h x = when_map calm (λ z. z) h x
verdict_map calm lost g h x = when_map calm (λ z. z) h x

-- what comes after an end that is no answer, keeps it
pub record Passes (k : Flow → Act) : Type 0 where
  pub same : (f : Flow) (p : Point) → IsOver f → (k f p).flow ≡ f

pub go_on_passes : (k : Value → Act) → Passes (go_on k)
go_on_passes k = record { same = at }
  where
    at : (f : Flow) (p : Point) → IsOver f → (go_on k f p).flow ≡ f
    at (gave v) p o = absurd o
    at (raised i) p o = absurd o
    at broken p o = absurd o
    at skipped p o = absurd o
    at (returned v) p o = absurd o
    at out_of_steps p o = refl
    at too_deep p o = refl
    at lost p o = refl

short_on : (n : ℕ) (k : Flow → Act) (e : End) → Passes k → ((f : Flow) → Spends (k f)) → Short n e
    → Short n (k e.flow e.at)
short_on n k e c l (inl o) = inl (subst IsOver (sym (c.same e.flow e.at o)) o)
short_on n k e c l (inr s) = let m = (l e.flow).kept e.at in inr (omega (arith, s, m))

-- ---- ends

pub ends_at : (calm : Bool) (S : Setting calm) (old : Text → Bool) (f : Flow) (p p' : Point) → Points calm S old p p'
    → Ends calm S old (ends f p) (ends (ren_flow S.lift f) p')
ends_at calm S old f p p' P = λ inside. at f (record { flow = refl; at = P })
  where
    at : (f : Flow) → EndsAlike calm S old (ends f p) (ends (ren_flow S.lift f) p')
        → Verdict calm f (Short S.total (ends (ren_flow S.lift f) p'))
        (EndsAlike calm S old (ends f p) (ends (ren_flow S.lift f) p'))
    at (gave v) A = A
    at (raised i) A = A
    at broken A = A
    at skipped A = A
    at (returned v) A = A
    at out_of_steps A = choose calm (inl tt) A
    at too_deep A = choose calm tt A
    at lost A = choose calm tt A

abbrev pub After : (calm : Bool) → Setting calm → (Text → Bool) → (Flow → Act) → (Flow → Act) → Type 0
After calm S old k k' = (f : Flow) → Acts calm S old (k f) (k' (ren_flow S.lift f))

-- any end: one that is no answer stays
alike_on : (calm : Bool) (S : Setting calm) (old : Text → Bool) (k k' : Flow → Act) → After calm S old k k'
    → (f : Flow) (q : Point) (e' : End) → EndsAlike calm S old (record { flow = f; at = q }) e'
    → Ends calm S old (k f q) (k' e'.flow e'.at)
alike_on calm S old k k' b f q e' h = subst (λ g. Ends calm S old (k f q) (k' g e'.at)) (sym h.flow) (b f q e'.at h.at)

pub verdict_on : (calm : Bool) (S : Setting calm) (old : Text → Bool) (k k' : Flow → Act) → After calm S old k k'
    → When calm (Passes k × Passes k') (Unit {0}) → ((f : Flow) → Spends (k' f)) → (f : Flow) (q : Point) (e' : End)
    → Verdict calm f (Short S.total e') (EndsAlike calm S old (record { flow = f; at = q }) e')
    → Ends calm S old (k f q) (k' e'.flow e'.at)
verdict_on calm S old k k' b c l (gave v) q e' h = alike_on calm S old k k' b (gave v) q e' h
verdict_on calm S old k k' b c l (raised i) q e' h = alike_on calm S old k k' b (raised i) q e' h
verdict_on calm S old k k' b c l broken q e' h = alike_on calm S old k k' b broken q e' h
verdict_on calm S old k k' b c l skipped q e' h = alike_on calm S old k k' b skipped q e' h
verdict_on calm S old k k' b c l (returned v) q e' h = alike_on calm S old k k' b (returned v) q e' h
verdict_on true S old k k' b c l out_of_steps q e' h = λ inside.
    subst (λ g. Verdict true g (Short S.total (k' e'.flow e'.at))
    (EndsAlike true S old (k out_of_steps q) (k' e'.flow e'.at))) (sym (c.0.same out_of_steps q tt))
    (short_on S.total k' e' c.1 l h)
verdict_on true S old k k' b c l too_deep q e' h = λ inside.
    subst (λ g. Verdict true g (Short S.total (k' e'.flow e'.at))
    (EndsAlike true S old (k too_deep q) (k' e'.flow e'.at))) (sym (c.0.same too_deep q tt)) tt
verdict_on true S old k k' b c l lost q e' h = λ inside.
    subst (λ g. Verdict true g (Short S.total (k' e'.flow e'.at))
    (EndsAlike true S old (k lost q) (k' e'.flow e'.at))) (sym (c.0.same lost q tt)) tt
verdict_on false S old k k' b c l out_of_steps q e' h = alike_on false S old k k' b out_of_steps q e' h
verdict_on false S old k k' b c l too_deep q e' h = alike_on false S old k k' b too_deep q e' h
verdict_on false S old k k' b c l lost q e' h = alike_on false S old k k' b lost q e' h
