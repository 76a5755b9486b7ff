use Rattle.std.proofs.Common.{◌≡◌, map, length}
use Rattle.zw_def_syntax.specs.Lexed.{without_ends_before}
use Rattle.zw_lexer.specs.Scan.{raw_seen}
use Rattle.zw_lexer.specs.Scan.{turned}
use Rattle.zw_lexer.proofs.SettleLemmas.{fronted}
use Rattle.zw_lexer.proofs.settle.without_ends_before.Given as goal

abbrev pub invariant-tokens : goal.invariant-tokens
invariant-tokens l = fronted (map raw_seen l.tokens.items) (turned l.kept.items) ≡ without_ends_before (map raw_seen l.fn.tokens.items)

abbrev pub decreases-tokens : goal.decreases-tokens
decreases-tokens l = length l.tokens.items
