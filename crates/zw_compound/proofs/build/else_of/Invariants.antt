use Rattle.std.proofs.Common.{◌≡◌, ◌≤◌, length}
use Rattle.zw_ast.specs.Grown.{all_seen}
use Rattle.zw_ast.specs.Named.{AreNamed, greatest}
use Rattle.zw_compound.specs.Arm.{arm_names, arms_seen}
use Rattle.zw_compound.specs.Part.{else_of}
use Rattle.zw_compound.proofs.build.else_of.Given as goal

abbrev pub invariant-arms : goal.invariant-arms
invariant-arms l =
    let names = l.maker.names.now in
    (else_of (arms_seen names l.fn.arms.items) (all_seen names l.fn.other.items)
    ≡ else_of (arms_seen names l.arms.items) (all_seen names l.other.items))
    × (greatest arm_names l.arms.items ≤ length names)
    × AreNamed names l.other.items

abbrev pub decreases-arms : goal.decreases-arms
decreases-arms l = length l.arms.items
