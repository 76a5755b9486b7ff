use Rattle.std.proofs.Common.{◌≡◌, Bool, true, false, Ok, refl, sym, subst}
use Rattle.zw_heap.specs.Heap.{sizes_of}
use Rattle.zw_calls.specs.End.{EndIn}
use Rattle.zw_calls.specs.declared.end.PrimEnd.TheVariants as e
use Rattle.zw_prims.specs.Marked.{is_marked}
use Rattle.zw_prims_tests.proofs.call.answered.Goals as goal

pub outcome-requires-clause-held : goal.outcome-requires-clause-held
outcome-requires-clause-held c = by (is_marked c.args.prim) refl
  where
    by : (b : Bool) → is_marked c.args.prim ≡ b → EndIn (sizes_of c.apply.new.heap) c.in_ok-end.end
    by true is =
        let again = (c.in_ok-end.ensures.again is).0 in
        let same : c.in_ok-end.end ≡ e.Again c.args.prim = cc in
        subst (EndIn (sizes_of c.apply.new.heap)) (sym same) tt
    by false is = (c.in_ok-end.ensures.does is).held
