use Rattle.std.proofs.Common.{rules, ◌≡◌, ◌<◌, ◌≤◌, ◌+◌, ◌++◌, [], ◌∷◌, ℕ, Bool, true, false, get_or, length, List, drop, take, map, nat_eq, Option, Some, None, refl, ap, sym, subst, ◌∙◌, arith, append_assoc}
use Rattle.std.specs.List.{All}
use Rattle.zw_code.specs.Code.{code_names}
use Rattle.zw_code.specs.declared.code.Code.{Code}
use Rattle.zw_heap.specs.Sound.{IsIn}
use Rattle.zw_heap.specs.Telling.{tell, told_variables}
use Rattle.zw_def_world.specs.Control.{values_at}
use Rattle.zw_frames.specs.Frame.{CodeNamed, frame_told, parameters_told}
use Rattle.std.specs.Option.{option_map_or}
use Rattle.zw_frames.specs.Locals.{value_or_nil}
use Rattle.zw_frames.proofs.FrameLemmas.{parameters-in, parameters-told}
use Rattle.zw_frames.proofs.frame.Frame.parameter_values.Goals as goal

pub returns-clause-held : goal.returns-clause-held
returns-clause-held c = λ s frame.
    subst (All (IsIn s)) (sym (c.in_ok-push_optional.ensures ∙ ap (λ l. l ++ map (λ d. value_or_nil c.args.self.now.locals d.name) c.as_slice-2.result.now) (c.in_ok-push_required.ensures ∙ ap (λ l. l ++ map (value_or_nil c.args.self.now.locals) c.as_slice.result.now) c.new-values.ensures.items)))
    (parameters-in s c.args.self.now.locals frame.locals_in c.as_slice.result.now c.as_slice-2.result.now)

pub returns-clause-values : goal.returns-clause-values
returns-clause-values c = λ I names told few.
    let locals = c.args.self.now.locals in
    let named : code_names c.in-Some.code ≤ length names = subst (CodeNamed (length names)) c.in-Some.is few in
    let required = c.as_slice.ensures ∙ ap (λ (x : Code). x.required) c.get-code.ensures in
    let optional = c.as_slice-2.ensures ∙ ap (λ (x : Code). x.optional) c.get-code.ensures in
    let values = c.in_ok-push_optional.ensures ∙ (λ i. (c.in_ok-push_required.ensures ∙ ap (λ l. l ++ map (value_or_nil locals) c.as_slice.result.now) c.new-values.ensures.items) i ++ map (λ d. value_or_nil locals d.name) c.as_slice-2.result.now) in
    ap (λ o. values_at (told_variables I locals) (option_map_or (parameters_told I names) o [])) c.in-Some.is
    ∙ parameters-told I names told locals c.in-Some.code named
    ∙ (λ i. map (tell I) (map (value_or_nil locals) (sym required i) ++ map (λ d. value_or_nil locals d.name) (sym optional i)))
    ∙ ap (map (tell I)) (sym values)
