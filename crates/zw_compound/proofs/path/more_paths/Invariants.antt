use Rattle.std.proofs.Common.{◌≡◌, ◌-◌}
use Rattle.zw_def_syntax.specs.Input.{repeated, sign_next, turns}
use Rattle.zw_ast.specs.Grown.{all_seen}
use Rattle.zw_ast.specs.Named.{AreNamed}
use Rattle.zw_compound.specs.Part.{one_more_path}
use Rattle.zw_compound.proofs.path.more_paths.Given as goal

abbrev pub invariant-turn : goal.invariant-turn
invariant-turn l =
    let names = l.maker.names.now in
    (repeated (sign_next ",") one_more_path (all_seen names l.fn.found.items) l.fn.tokens.input
    ≡ turns (l._turn-end - l._turn) (sign_next ",") one_more_path (all_seen names l.found.items) l.tokens.input)
    × AreNamed names l.found.items
    × (l.tokens.names ≡ names)
