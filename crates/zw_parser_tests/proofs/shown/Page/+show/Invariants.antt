use Rattle.std.proofs.Common.{◌+◌, ◌*◌}
use Rattle.zw_parser_tests.proofs.shown.Page.+show.Given as goal

abbrev pub decreases-put_method_node : goal.decreases-put_method_node
decreases-put_method_node l = 8 * goal.size-put_method_node l + 2

abbrev pub decreases-put_assignment : goal.decreases-put_assignment
decreases-put_assignment l = 8 * goal.size-put_assignment l + 3

abbrev pub decreases-put_call : goal.decreases-put_call
decreases-put_call l = 8 * goal.size-put_call l + 3

abbrev pub decreases-put_control : goal.decreases-put_control
decreases-put_control l = 8 * goal.size-put_control l + 3

abbrev pub decreases-put_definition : goal.decreases-put_definition
decreases-put_definition l = 8 * goal.size-put_definition l + 3

abbrev pub decreases-put_logic : goal.decreases-put_logic
decreases-put_logic l = 8 * goal.size-put_logic l + 3

abbrev pub decreases-put_node : goal.decreases-put_node
decreases-put_node l = 8 * goal.size-put_node l + 4

abbrev pub decreases-put_set : goal.decreases-put_set
decreases-put_set l = 8 * goal.size-put_set l + 5

abbrev pub decreases-put_test : goal.decreases-put_test
decreases-put_test l = 8 * goal.size-put_test l + 5

abbrev pub decreases-put_row : goal.decreases-put_row
decreases-put_row l = 8 * goal.size-put_row l + 5

abbrev pub decreases-put_defaults : goal.decreases-put_defaults
decreases-put_defaults l = 8 * goal.size-put_defaults l + 5

abbrev pub decreases-put_base : goal.decreases-put_base
decreases-put_base l = 8 * goal.size-put_base l + 5

abbrev pub decreases-put_branch : goal.decreases-put_branch
decreases-put_branch l = 8 * goal.size-put_branch l + 6

abbrev pub decreases-put_parts : goal.decreases-put_parts
decreases-put_parts l = 8 * goal.size-put_parts l + 6

abbrev pub decreases-put_rescues : goal.decreases-put_rescues
decreases-put_rescues l = 8 * goal.size-put_rescues l + 6
