-- Two bodies, as the definitions have them.
use Rattle.std.specs.Prelude.{List}
use Rattle.zw_def.specs.Text.{Text}
use Rattle.zw_ast.specs.Grown.{all_seen}
use Rattle.zw_grammar.specs.Part as part
use Rattle.zw_grammar.specs.declared.operation.Bodies.{Bodies}

abbrev pub bodies_seen : List Text → Bodies → part.Bodies
bodies_seen names both = record { body = all_seen names both.body.items; other = all_seen names both.other.items }
