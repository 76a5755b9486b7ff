use Rattle.std.proofs.Common.{◌≡◌, Some, ap, sym, ◌∙◌, subst}
use Rattle.zw_base.specs.Fault.{IfReason}
use Rattle.zw_def_world.specs.Value as told
use Rattle.zw_heap.specs.Refusal.{array_refusal}
use Rattle.zw_calls.proofs.MakingLemmas.{array_adds, array_made-told, flat-refusal}
use Rattle.zw_calls.proofs.making.new_array.Goals as goal

pub unreachable-requires : goal.unreachable-requires
unreachable-requires c =
    let none = flat-refusal c.args.heap.now c.args.items.now c.requires.flat c.requires.few in
    let is = subst (λ f. IfReason f (λ refusal. array_refusal c.args.heap.now c.args.items.now ≡ Some refusal)) c.in-Err-Refused.field-0-is c.in-Err-Refused.ensures.refused in
    let both = sym none ∙ is in cc

pub returns-in-Ok-clause-adds : goal.returns-in-Ok-clause-adds
returns-in-Ok-clause-adds c = array_adds c.args.items.now c.args.heap.now c.make_array.new.self c.in-Ok.ensures.made c.only_adds.ensures c.in-Ok.ensures.stays

pub returns-in-Ok-clause-told : goal.returns-in-Ok-clause-told
returns-in-Ok-clause-told c = λ I names fit.
    ap told.array (array_made-told I names c.args.items.now c.args.heap.now c.make_array.new.self c.in-Ok.made.0 c.in-Ok.ensures.made c.in-Ok.ensures.number fit)
