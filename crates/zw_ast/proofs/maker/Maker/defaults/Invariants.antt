use Rattle.std.proofs.Common.{◌≡◌, ◌++◌, max, map}
use Rattle.zw_ast.specs.Part.{default_form, defaults_height}
use Rattle.zw_ast.proofs.maker.Maker.defaults.Given as goal

abbrev pub invariant-optional : goal.invariant-optional
invariant-optional l =
    (l.defaults ++ map default_form l.one-iterator.rest.items ≡ map default_form l.fn.optional.items)
    × (max l.height (defaults_height l.one-iterator.rest.items) ≡ defaults_height l.fn.optional.items)
