use Rattle.std.proofs.Common.{◌≡◌, ◌-◌, ◌≤◌, length}
use Rattle.zw_def_syntax.specs.Grammar.{within}
use Rattle.zw_def_syntax.specs.Input.{repeated, sign_next, turns}
use Rattle.zw_ast.specs.Part.{params_names, params_seen}
use Rattle.zw_compound.specs.Part.{one_more_param}
use Rattle.zw_compound.proofs.param.more_params.Given as goal

abbrev pub invariant-turn : goal.invariant-turn
invariant-turn g l =
    let names = l.grammar.maker.names.now in
    let turn = one_more_param (within l.grammar.depth) in
    (repeated (sign_next ",") turn (params_seen names l.fn.params) l.fn.tokens.input
    ≡ turns (l._turn-end - l._turn) (sign_next ",") turn (params_seen names l.params) l.tokens.input)
    × (params_names l.params ≤ length names)
    × (l.tokens.names ≡ names)
