use Rattle.std.proofs.Common.{rules, ◌≡◌, ◌<◌, ◌≤◌, ◌+◌, ◌++◌, [], ◌∷◌, ℕ, Bool, true, false, get_or, length, List, drop, take, map, nat_eq, Option, Some, None, refl, ap, sym, subst, ◌∙◌, arith, append_assoc}
use Rattle.std.specs.List.{All}
use Rattle.std.proofs.lemmas.List.Elements.{All-cons, All-nil}
use Rattle.zw_def_world.specs.Definition.{body_frame}
use Rattle.zw_heap.specs.Sound.{EntryIn}
use Rattle.zw_heap.specs.Telling.{told_ids, told_variables}
use Rattle.zw_heap.specs.declared.value.ModuleId.{ModuleId}
use Rattle.zw_frames.specs.Frame.{FrameIn, frame_told}
use Rattle.zw_frames.specs.declared.frame.Frame.{Frame}
use Rattle.zw_frames.proofs.LocalLemmas.{taken-all, taken-next}
use Rattle.zw_frames.proofs.frame.Frame.of_body.Goals as goal

pub loop-scope-preserved : goal.loop-scope-preserved
loop-scope-preserved c =
    let items = c.deref-scope-items.ensures.value ∙ ap (λ v. v.items) c.get-outer.ensures in
    subst (λ l. c.push-in-loop-scope.new.self.items ≡ c.args.of ∷ take (c.loop-scope.scope-index + 1) l) items
    (taken-next (c.args.of ∷ []) c.loop-scope.inner.items c.push-in-loop-scope.new.self.items c.deref-scope-items.result.now c.loop-scope.scope-index _ _ c.loop-scope-test.true
    (subst (λ l. c.loop-scope.inner.items ≡ c.args.of ∷ take c.loop-scope.scope-index l) (sym items) c.loop-scope.invariant) c.in_ok-push-2.ensures.items refl)

pub returns-clause-held : goal.returns-clause-held
returns-clause-held c = λ s within all.
    let items = c.deref-scope-items.ensures.value ∙ ap (λ v. v.items) c.get-outer.ensures in
    let whole = taken-all (c.args.of ∷ []) c.loop-scope.inner.items c.args.scopes.now.items c.loop-scope.scope-index (subst (λ l. length l ≤ c.loop-scope.scope-index) items c.loop-scope-test.false) c.loop-scope.invariant in
    subst (λ (f : Frame). FrameIn s (record f { is_body = true })) (sym c.with_scopes-frame.ensures) (record {
      self_in = within;
      scopes_in = subst (All (λ (m : ModuleId). m.0 < s.modules)) (sym (ap (λ v. v.items) c.in_ok-new.ensures ∙ whole)) (All-cons (λ (m : ModuleId). m.0 < s.modules) c.args.of c.args.scopes.now.items within all);
      locals_in = subst (All (EntryIn s)) (sym c.new-2.ensures) (All-nil (EntryIn s));
      running_in = tt;
      code_in = tt;
    })

pub returns-clause-body : goal.returns-clause-body
returns-clause-body c = λ I names.
    let items = c.deref-scope-items.ensures.value ∙ ap (λ v. v.items) c.get-outer.ensures in
    let whole = taken-all (c.args.of ∷ []) c.loop-scope.inner.items c.args.scopes.now.items c.loop-scope.scope-index (subst (λ l. length l ≤ c.loop-scope.scope-index) items c.loop-scope-test.false) c.loop-scope.invariant in
    ap (λ (f : Frame). frame_told I names (record f { is_body = true })) c.with_scopes-frame.ensures
    ∙ (λ i. record (body_frame (I.module_id c.args.of.0) (told_ids I c.args.scopes.now.items)) {
      scopes = told_ids I ((ap (λ v. v.items) c.in_ok-new.ensures ∙ whole) i);
      locals = told_variables I (c.new-2.ensures i);
    })
