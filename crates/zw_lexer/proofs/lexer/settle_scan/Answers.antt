use Rattle.std.proofs.Common.{option_map, None, ap, sym, ◌∙◌}
use Rattle.zw_def_syntax.specs.Lexed.{up_to_fault, settled}
use Rattle.zw_def.proofs.NameLemmas.{OnlyGrows-same}
use Rattle.zw_lexer.specs.Fault.{fault_seen}
use Rattle.zw_lexer.proofs.lexer.settle_scan.Goals as goal

pub returns-in-Some-clause-fault : goal.returns-in-Some-clause-fault
returns-in-Some-clause-fault c =
    let names = c.settle.new.names in
    let tokens = ap (settled None) (sym c.in_ok-left.ensures) ∙ c.in_ok-tokens.ensures.told names (OnlyGrows-same names) in
    (λ i. up_to_fault (option_map fault_seen (c.in-Some.is i)) (tokens i))
