use Rattle.std.proofs.Common.{◌≡◌, ◌-◌, ◌≤◌, length}
use Rattle.zw_def_syntax.specs.Compound.{longer_path}
use Rattle.zw_def_syntax.specs.Input.{repeated, sign_next, turns}
use Rattle.zw_ast.specs.Part.{path_names, path_seen}
use Rattle.zw_compound.proofs.path.longer_paths.Given as goal

abbrev pub invariant-turn : goal.invariant-turn
invariant-turn l =
    let names = l.maker.names.now in
    (repeated (sign_next "::") longer_path (path_seen names l.fn.path) l.fn.tokens.input
    ≡ turns (l._turn-end - l._turn) (sign_next "::") longer_path (path_seen names l.path) l.tokens.input)
    × (path_names l.path ≤ length names)
    × (l.tokens.names ≡ names)
