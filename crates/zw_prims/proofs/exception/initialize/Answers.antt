use Rattle.std.proofs.Common.{◌≡◌, [], true, false, Some, refl, ap, sym, subst, ◌∙◌, rules}
use Rattle.zw_def_world.specs.Act.{gives}
use Rattle.zw_def_world.specs.Fault.{frozen_fault}
use Rattle.zw_def_world.specs.Value as told
use Rattle.zw_heap.specs.Change.{message_set}
use Rattle.zw_heap.specs.Heap.{is_frozen_in}
use Rattle.zw_heap.specs.Telling.{OnlyAdds, tell}
use Rattle.zw_heap.specs.declared.value.Value.TheVariants as v
use Rattle.zw_calls.specs.declared.end.PrimEnd.TheVariants as e
use Rattle.zw_prims.proofs.EndLemmas.{adds_none, all_like, once_like}
use Rattle.zw_prims.proofs.DoesLemmas.{adds_named, all_perform, does_perform}
use Rattle.zw_prims.proofs.KeptLemmas.{initializes, initialize-frozen, keeps_nothing, keeps_text, no_items}
use Rattle.zw_prims.proofs.exception.initialize.Goals as goal

pub returns-then-is_frozen-clause-does : goal.returns-then-is_frozen-clause-does
returns-then-is_frozen-clause-does c = λ left.
    let h = c.args.heap.now in
    let names = c.args.names.now in
    let frozen : is_frozen_in h (v.Object c.args.object) ≡ Some true = c.is_frozen.ensures ∙ ap Some c.if-is_frozen.true in
    all_perform (initializes c.args.object c.args.args.now) h h names left left (adds_named h h (adds_none h)) c.frozen_fault.result
    (all_like h h names left left (λ s I. frozen_fault (tell I (v.Object c.args.object))) (initializes c.args.object c.args.args.now) (adds_none h)
    (λ s I p fit agrees. initialize-frozen I h s c.args.object c.args.args.now p agrees frozen) c.frozen_fault.result (c.frozen_fault.ensures left))

pub returns-then-is_empty-clause-does : goal.returns-then-is_empty-clause-does
returns-then-is_empty-clause-does c = λ left.
    let h = c.args.heap.now in
    let names = c.args.names.now in
    let free : is_frozen_in h (v.Object c.args.object) ≡ Some false = c.is_frozen.ensures ∙ ap Some c.if-is_frozen.false in
    let none = no_items c.args.args.now (sym c.is_empty.ensures ∙ c.if-is_empty.true) in
    does_perform (initializes c.args.object c.args.args.now) h h names left left (adds_named h h (adds_none h)) (e.Value v.Nil)
    (once_like h names left (λ I. gives told.nil) (initializes c.args.object c.args.args.now)
    (λ s I p fit agrees. keeps_nothing h I s c.args.object c.args.args.now p agrees free none) (e.Value v.Nil) (record { told = λ I call. refl; held = λ s. tt; done = tt }))

pub returns-in-Ok-clause-only_adds : goal.returns-in-Ok-clause-only_adds
returns-in-Ok-clause-only_adds c =
    subst (OnlyAdds c.args.heap.now) (sym c.in-Ok.ensures.set) (c.only_adds.ensures (message_set c.args.object.0 c.as_str.result.now))

pub returns-in-Ok-clause-does : goal.returns-in-Ok-clause-does
returns-in-Ok-clause-does c = λ left.
    let h = c.args.heap.now in
    let text = c.as_str.result.now in
    let adds = subst (OnlyAdds h) (sym c.in-Ok.ensures.set) (c.only_adds.ensures (message_set c.args.object.0 text)) in
    let free : is_frozen_in h (v.Object c.args.object) ≡ Some false = c.is_frozen.ensures ∙ ap Some c.if-is_frozen.false in
    let some : c.args.args.now ≡ [] → ⊥ = search rules in
    let same : c.text_at.result.now ≡ text = search rules in
    keeps_text h c.set_message.new.self c.args.names.now left c.args.object c.args.args.now text adds c.in-Ok.ensures.set free some (λ I fit. c.text_at.ensures I fit ∙ same)
