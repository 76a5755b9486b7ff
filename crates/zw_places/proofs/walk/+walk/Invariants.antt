use Rattle.std.proofs.Common.{◌≡◌, ◌+◌, ◌*◌, drop}
use Rattle.zw_ast.specs.Named.{all_names, greatest, part_names, rescue_names, default_names}
use Rattle.zw_places.specs.Place.{place_seen}
use Rattle.zw_places.specs.Tells.{Always}
use Rattle.zw_places.specs.Walk as spec
use Rattle.zw_places.proofs.walk.+walk.Given as goal

abbrev pub decreases-in_node : goal.decreases-in_node
decreases-in_node l = 5 * goal.size-in_node l + 1

abbrev pub decreases-within : goal.decreases-within
decreases-within l = 5 * goal.size-within l

abbrev pub decreases-in_row : goal.decreases-in_row
decreases-in_row l = 5 * goal.size-in_row l + 2

abbrev pub decreases-in_defaults : goal.decreases-in_defaults
decreases-in_defaults l = 5 * goal.size-in_defaults l + 2

abbrev pub decreases-in_base : goal.decreases-in_base
decreases-in_base l = 5 * goal.size-in_base l + 2

abbrev pub decreases-in_option : goal.decreases-in_option
decreases-in_option l = 5 * goal.size-in_option l + 2

abbrev pub decreases-in_part : goal.decreases-in_part
decreases-in_part l = 5 * goal.size-in_part l + 3

abbrev pub decreases-in_rescue : goal.decreases-in_rescue
decreases-in_rescue l = 5 * goal.size-in_rescue l + 3

abbrev pub decreases-in_parts : goal.decreases-in_parts
decreases-in_parts l = 5 * goal.size-in_parts l + 4

abbrev pub decreases-in_rescues : goal.decreases-in_rescues
decreases-in_rescues l = 5 * goal.size-in_rescues l + 4

abbrev pub decreases-in_branch : goal.decreases-in_branch
decreases-in_branch l = 5 * goal.size-in_branch l + 3

abbrev pub invariant-in_row-nodes : goal.invariant-in_row-nodes
invariant-in_row-nodes l = Always (all_names l.nodes)
    (λ names. spec.in_row l.walk.check (place_seen l.place) names l.nodes
    ≡ spec.in_row l.walk.check (place_seen l.place) names (drop l.node-index l.nodes))

abbrev pub invariant-in_defaults-defaults : goal.invariant-in_defaults-defaults
invariant-in_defaults-defaults l = Always (greatest default_names l.defaults)
    (λ names. spec.in_defaults l.walk.check (place_seen l.place) names l.defaults
    ≡ spec.in_defaults l.walk.check (place_seen l.place) names (drop l.default-index l.defaults))

abbrev pub invariant-in_parts-parts : goal.invariant-in_parts-parts
invariant-in_parts-parts l = Always (greatest part_names l.parts)
    (λ names. spec.in_parts l.walk.check (place_seen l.place) names l.parts
    ≡ spec.in_parts l.walk.check (place_seen l.place) names (drop l.part-index l.parts))

abbrev pub invariant-in_rescues-rescues : goal.invariant-in_rescues-rescues
invariant-in_rescues-rescues l = Always (greatest rescue_names l.rescues)
    (λ names. spec.in_rescues l.walk.check (place_seen l.place) names l.rescues
    ≡ spec.in_rescues l.walk.check (place_seen l.place) names (drop l.rescue-index l.rescues))
