-- One name to unfold where a configuration is computed, with the programs in it.
use Rattle.std.specs.Char.{encode_utf8}
use Rattle.std.specs.Fmt.{digits}
use Rattle.std.specs.Str.{chars, is_utf8}
use Rattle.unicode_ident.proofs.Computing.{unicode_ident}
use Rattle.zw_def_syntax.specs.Lexed.{lexed, settled, without_ends_before, keywords, outside_words}
use Rattle.zw_def_syntax.specs.Scan.{scanned, piece_at, sign_at, signs}
use Rattle.zw_def_syntax.specs.Number.{greatest_integer}
use Rattle.zw_def_syntax.specs.Content.{content}
use Rattle.zw_def_syntax.specs.Tree.{node}
use Rattle.zw_def_syntax.specs.Input.{token_at, is_known, turns, next, open_bracket, close_bracket, learn, know, apart}
use Rattle.zw_def_syntax.specs.Levels.{joined_from, folded}
use Rattle.zw_def_syntax.specs.Compound.{skip_separators, separators, then_word, do_word, longer_path, cpath, path, paths, word_method, method_name, arm, if_rule, unless_rule, loop_rule, rescue_variable, rescue_clause, clauses, begin_rule, param, plist, optional_params, method, on_self, def_rule, superclass, class_rule, module_rule, compound}
use Rattle.zw_def_syntax.specs.Expression.{take_integer, close_text, arguments, parens, items, array, grouped, named, super_rule, top_constant, segment, interpolation, primary, called, scoped, indexed, suffixes, postfix, negative, unary, operand, operation_from, alternatives, ternary_from, ternary}
use Rattle.zw_def_syntax.specs.Grammar.{assigned, assignment, updated, update, return_rule, command, super_command, scoped_assignment, attribute_assignment, call_command, postfix_value, value, inverse, logic, line, modifier, statement, separated, program, within}
use Rattle.zw_def_syntax.specs.Places.{some_node, some_tree, some_perhaps, some_branch, some_base, some_part, some_rescue, some_default}
use Rattle.zw_def_syntax.specs.Program.{top_statement, parsed_from, parsed, program_of}
use Rattle.zw_def_syntax.specs.Show.{spelled, spelled_path, spelled_body, spelled_each, spelled_paths, spelled_value, spelled_superclass, spelled_branch, spelled_base, spelled_first, spelled_rest, spelled_clauses, spelled_defaults, show}
use Rattle.toml.proofs.OnLiterals.{toml_on_literals}
use Rattle.zw_def_config.specs.Root.{root_of_table}
use Rattle.zw_def_config.specs.Inflection.{inflector}
use Rattle.zw_def_config.specs.Callback.{callback_of_table}
use Rattle.zw_def_config.specs.Configuration.{layout, settings, configuration_in, configuration_of}

unfoldable pub reading : Unit {0}
unfolding toml_on_literals root_of_table inflector callback_of_table layout settings configuration_in configuration_of encode_utf8 digits chars is_utf8 unicode_ident lexed settled without_ends_before keywords outside_words scanned piece_at sign_at signs greatest_integer content node token_at is_known turns next open_bracket close_bracket learn know apart joined_from folded skip_separators separators then_word do_word longer_path cpath path paths word_method method_name arm if_rule unless_rule loop_rule rescue_variable rescue_clause clauses begin_rule param plist optional_params method on_self def_rule superclass class_rule module_rule compound take_integer close_text arguments parens items array grouped named super_rule top_constant segment interpolation primary called scoped indexed suffixes postfix negative unary operand operation_from alternatives ternary_from ternary assigned assignment updated update return_rule command super_command scoped_assignment attribute_assignment call_command postfix_value value inverse logic line modifier statement separated program within some_node some_tree some_perhaps some_branch some_base some_part some_rescue some_default top_statement parsed_from parsed program_of spelled spelled_path spelled_body spelled_each spelled_paths spelled_value spelled_superclass spelled_branch spelled_base spelled_first spelled_rest spelled_clauses spelled_defaults show
reading = tt
