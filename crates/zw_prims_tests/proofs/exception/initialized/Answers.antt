use Rattle.zw_heap.specs.declared.value.Value.TheVariants as v
use Rattle.zw_prims_tests.proofs.exception.initialized.Goals as goal

pub told-requires-clause-receiver : goal.told-requires-clause-receiver
told-requires-clause-receiver g c = c.in_ok-args.ensures.stays (v.Object c.in_ok-object.object) c.in_ok-object.ensures.held

pub told-requires-2-clause-receiver : goal.told-requires-2-clause-receiver
told-requires-2-clause-receiver g c =
    c.told.ensures.stays (v.Object c.in_ok-object.object) (c.in_ok-args.ensures.stays (v.Object c.in_ok-object.object) c.in_ok-object.ensures.held)
