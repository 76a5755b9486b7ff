use Rattle.std.proofs.Common.{◌<◌, ◌++◌, length, IfSome, ap, sym, ◌∙◌, subst}
use Rattle.std.specs.List.{All}
use Rattle.std.specs.Option.{option_map}
use Rattle.zw_heap.specs.declared.value.ModuleId.{ModuleId}
use Rattle.zw_consts.specs.Ancestor.{numbers_of, above_of, superclasses_of}
use Rattle.zw_consts.proofs.ListLemmas.{All-pushed}
use Rattle.zw_consts.proofs.ClassLemmas.{IfSome-below, superclasses-next, numbers_of-pushed}
use Rattle.zw_consts.proofs.ancestor.superclasses.Goals as goal

pub loop-next-preserved : goal.loop-next-preserved
loop-next-preserved c =
    let ms = c.args.heap.now.modules in
    let i = c.in-Some.class in
    let lt : i.0 < length ms = subst (λ o. IfSome o (λ m. m.0 < length ms)) c.in-Some.is c.loop-next.invariant.within in
    let later = above_of (superclasses_of ms) (option_map (λ (m : ModuleId). m.0) c.superclass-next.result) in
    record {
      within = IfSome-below c.superclass-next.result i.0 (length ms) c.superclass-next.ensures.first lt;
      held = subst (All (λ (j : ModuleId). j.0 < length ms)) (sym c.in_ok-push.ensures.items) (All-pushed (λ (j : ModuleId). j.0 < length ms) c.loop-next.line.items i c.loop-next.invariant.held lt);
      line = numbers_of-pushed c.loop-next.line.items c.push.new.self.items i later c.in_ok-push.ensures.items
          ∙ ap (λ l. numbers_of c.loop-next.line.items ++ l) (sym (superclasses-next c.args.heap.now c.is_sound.ensures.sound c.is_sound.ensures.few i.0 c.superclass-next.result lt c.superclass-next.ensures.class))
          ∙ ap (λ o. numbers_of c.loop-next.line.items ++ above_of (superclasses_of ms) (option_map (λ (m : ModuleId). m.0) o)) (sym c.in-Some.is) ∙ c.loop-next.invariant.line;
    }
