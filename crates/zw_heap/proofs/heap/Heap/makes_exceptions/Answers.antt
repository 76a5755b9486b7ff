use Rattle.std.proofs.Common.{◌<◌, ap, sym, ◌∙◌, subst, length, IfSome}
use Rattle.std.specs.Option.{option_map}
use Rattle.std.proofs.lemmas.Bool.{eqb-true, eq-eqb}
use Rattle.std.proofs.lemmas.Bool.{false≢true}
use Rattle.zw_def_world.specs.CoreClass.{Exception}
use Rattle.zw_heap.specs.declared.value.ModuleId.{ModuleId}
use Rattle.zw_heap.specs.Superclass.{is_above, descends}
use Rattle.zw_heap.proofs.SuperclassLemmas.{IfSome-below, descends-here, descends-above}
use Rattle.zw_heap.proofs.heap.Heap.makes_exceptions.Goals as goal

pub returns-then-eq : goal.returns-then-eq
returns-then-eq c =
    let ms = c.args.self.now.modules in
    let lt : c.in-Some.module.0 < length ms = subst (λ o. IfSome o (λ m. m.0 < length ms)) c.in-Some.is c.loop-next.invariant.within in
    let here = descends-here ms c.is_sound.ensures.sound.founded Exception.count c.in-Some.module.0 lt (eqb-true _ _ (sym c.if-eq.ensures) ∙ c.module-exception.ensures.number) in
    sym here ∙ ap (λ o. is_above (descends ms Exception.count) (option_map (λ (m : ModuleId). m.0) o)) (sym c.in-Some.is) ∙ c.loop-next.invariant.same

pub loop-next-preserved : goal.loop-next-preserved
loop-next-preserved c =
    let ms = c.args.self.now.modules in
    let lt : c.in-Some.module.0 < length ms = subst (λ o. IfSome o (λ m. m.0 < length ms)) c.in-Some.is c.loop-next.invariant.within in
    record {
      within = IfSome-below c.superclass-next.result c.in-Some.module.0 (length ms) c.superclass-next.ensures.first lt;
      same = descends-above ms c.is_sound.ensures.sound.founded Exception.count c.in-Some.module.0 c.superclass-next.result lt
          (λ e. false≢true (c.if-eq.ensures ∙ eq-eqb _ _ (e ∙ sym c.module-exception.ensures.number))) c.superclass-next.ensures.class
          ∙ ap (λ o. is_above (descends ms Exception.count) (option_map (λ (m : ModuleId). m.0) o)) (sym c.in-Some.is) ∙ c.loop-next.invariant.same;
    }
