use Rattle.std.proofs.Common.{◌≡◌, ◌-◌}
use Rattle.zw_def_syntax.specs.Compound.{separator_next}
use Rattle.zw_def_syntax.specs.Input.{repeated, take_token, turns}
use Rattle.zw_compound.proofs.separator.skip_separators.Given as goal

abbrev pub invariant-turn : goal.invariant-turn
invariant-turn l =
    (repeated separator_next (λ _. take_token) tt l.fn.tokens.input
    ≡ turns (l._turn-end - l._turn) separator_next (λ _. take_token) tt l.tokens.input)
    × (l.tokens.names ≡ l.fn.tokens.names)
