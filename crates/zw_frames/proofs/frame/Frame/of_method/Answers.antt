use Rattle.std.proofs.Common.{rules, ◌≡◌, ◌<◌, ◌≤◌, ◌+◌, ◌++◌, [], ◌∷◌, ℕ, Bool, true, false, get_or, length, List, drop, take, map, nat_eq, Option, Some, None, refl, ap, sym, subst, ◌∙◌, arith, append_assoc}
use Rattle.std.specs.List.{All}
use Rattle.zw_code.specs.Code.{code_names, told_code}
use Rattle.zw_code.specs.declared.code.Code.{Code}
use Rattle.zw_def_world.specs.Call.{method_frame}
use Rattle.zw_heap.specs.Sound.{EntryIn}
use Rattle.zw_heap.specs.Telling.{tell, told_ids, told_variables}
use Rattle.zw_heap.specs.declared.value.ModuleId.{ModuleId}
use Rattle.zw_ops.specs.Choice.{told_running}
use Rattle.zw_frames.specs.Frame.{FrameIn, frame_told, parameters_told}
use Rattle.zw_frames.specs.Locals.{required_locals}
use Rattle.zw_frames.specs.declared.frame.Frame.{Frame}
use Rattle.zw_frames.proofs.FrameLemmas.{required-in, required-told}
use Rattle.zw_frames.proofs.frame.Frame.of_method.Goals as goal

pub returns-clause-held : goal.returns-clause-held
returns-clause-held c = λ s receiver named few scopes values.
    let locals = c.in_ok-locals.ensures ∙ ap (λ xs. required_locals xs c.args.values.now) (c.as_slice.ensures ∙ ap (λ (x : Code). x.required) c.get-method.ensures) in
    subst (λ (f : Frame). FrameIn s (record f { running = Some c.args.running; code = Some c.in_ok-share-2.field-0 })) (sym c.with_scopes-frame.ensures) (record {
      self_in = receiver;
      scopes_in = subst (All (λ (m : ModuleId). m.0 < s.modules)) (sym (ap (λ v. v.items) (c.in_ok-share.ensures ∙ ap (λ (x : Code). x.scopes) c.get-method.ensures))) scopes;
      locals_in = subst (All (EntryIn s)) (sym locals) (required-in s c.args.code.now.required c.args.values.now (omega (arith, few)) values);
      running_in = named;
      code_in = subst (λ (x : Code). code_names x ≤ s.names) (sym c.in_ok-share-2.ensures) few;
    })

pub returns-clause-method : goal.returns-clause-method
returns-clause-method c = λ I names told few.
    let locals = c.in_ok-locals.ensures ∙ ap (λ xs. required_locals xs c.args.values.now) (c.as_slice.ensures ∙ ap (λ (x : Code). x.required) c.get-method.ensures) in
    ap (λ (f : Frame). frame_told I names (record f { running = Some c.args.running; code = Some c.in_ok-share-2.field-0 })) c.with_scopes-frame.ensures
    ∙ (λ i. record (method_frame (tell I c.args.receiver) (told_running I c.args.running) (told_code names I.module_id c.args.code.now) (map (tell I) c.args.values.now)) {
      scopes = told_ids I (ap (λ v. v.items) (c.in_ok-share.ensures ∙ ap (λ (x : Code). x.scopes) c.get-method.ensures) i);
      locals = (ap (told_variables I) locals ∙ required-told I names told c.args.code.now.required c.args.values.now (omega (arith, few))) i;
      parameters = parameters_told I names (c.in_ok-share-2.ensures i);
    })
