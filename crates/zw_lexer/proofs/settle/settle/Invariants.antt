use Rattle.std.proofs.Common.{◌≡◌, map, length, None, List, ℕ}
use Rattle.zw_def_syntax.specs.Lexed.{settled}
use Rattle.zw_def.specs.Names.{OnlyGrows}
use Rattle.zw_lexer.specs.Token.{token_seen}
use Rattle.zw_lexer.specs.Settle.{last_kind}
use Rattle.zw_lexer.specs.Scan.{turned}
use Rattle.zw_lexer.proofs.SettleLemmas.{joined}
use Rattle.zw_lexer.proofs.settle.settle.Given as goal

abbrev pub invariant-tokens : goal.invariant-tokens
invariant-tokens l = record {
  grows : OnlyGrows l.fn.names l.names;
  read : (all : List (List ℕ)) → OnlyGrows l.names all → joined (map (token_seen all) l.settled.items) (settled (last_kind all l.settled.items) (turned l.left.items)) ≡ settled None (turned l.fn.left.items);
}

abbrev pub decreases-tokens : goal.decreases-tokens
decreases-tokens l = length l.left.items
