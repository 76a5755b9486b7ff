use Rattle.std.proofs.Common.{◌+◌, ◌*◌, take}
use Rattle.zw_copy.specs.Copy.{AreCopies, ArePartCopies, AreRescueCopies, AreDefaultCopies}
use Rattle.zw_copy.proofs.node.+copy.Given as goal

abbrev pub decreases-copy : goal.decreases-copy
decreases-copy l = 6 * goal.size-copy l

abbrev pub decreases-copy_boxed : goal.decreases-copy_boxed
decreases-copy_boxed l = 6 * goal.size-copy_boxed l + 1

abbrev pub decreases-copy_option : goal.decreases-copy_option
decreases-copy_option l = 6 * goal.size-copy_option l + 2

abbrev pub decreases-copy_row : goal.decreases-copy_row
decreases-copy_row l = 6 * goal.size-copy_row l + 2

abbrev pub decreases-copy_branch : goal.decreases-copy_branch
decreases-copy_branch l = 6 * goal.size-copy_branch l + 3

abbrev pub decreases-copy_part : goal.decreases-copy_part
decreases-copy_part l = 6 * goal.size-copy_part l + 3

abbrev pub decreases-copy_parts : goal.decreases-copy_parts
decreases-copy_parts l = 6 * goal.size-copy_parts l + 4

abbrev pub decreases-copy_rescue : goal.decreases-copy_rescue
decreases-copy_rescue l = 6 * goal.size-copy_rescue l + 3

abbrev pub decreases-copy_rescues : goal.decreases-copy_rescues
decreases-copy_rescues l = 6 * goal.size-copy_rescues l + 4

abbrev pub decreases-copy_default : goal.decreases-copy_default
decreases-copy_default l = 6 * goal.size-copy_default l + 1

abbrev pub decreases-copy_defaults : goal.decreases-copy_defaults
decreases-copy_defaults l = 6 * goal.size-copy_defaults l + 2

abbrev pub decreases-copy_base : goal.decreases-copy_base
decreases-copy_base l = 6 * goal.size-copy_base l + 2

abbrev pub invariant-copy_row-nodes : goal.invariant-copy_row-nodes
invariant-copy_row-nodes l = AreCopies (take l.node-index l.nodes) l.copies

abbrev pub invariant-copy_parts-parts : goal.invariant-copy_parts-parts
invariant-copy_parts-parts l = ArePartCopies (take l.part-index l.parts) l.copies

abbrev pub invariant-copy_rescues-rescues : goal.invariant-copy_rescues-rescues
invariant-copy_rescues-rescues l = AreRescueCopies (take l.rescue-index l.rescues) l.copies

abbrev pub invariant-copy_defaults-defaults : goal.invariant-copy_defaults-defaults
invariant-copy_defaults-defaults l = AreDefaultCopies (take l.default-index l.defaults) l.copies
