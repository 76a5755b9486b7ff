use Rattle.std.proofs.Common.{sym, ◌∙◌, Some, None, ◌+◌, arith}
use Rattle.std.proofs.lemmas.List.{take_all, length-drop}
use Rattle.zw_cmd.proofs.PartLemmas.{first_line}
use Rattle.zw_cmd.proofs.line.first_line.Goals as goal

pub returns-in-Some-clause-line : goal.returns-in-Some-clause-line
returns-in-Some-clause-line c = sym (first_line c.args.bytes.now (Some c.in-Some.at) (sym c.in-Some.is ∙ c.line_end.ensures)).0

pub returns-in-Some-clause-after : goal.returns-in-Some-clause-after
returns-in-Some-clause-after c =
    take_all _ _ (omega (arith, length-drop (c.in-Some.at + 1) c.args.bytes.now)) ∙ sym (first_line c.args.bytes.now (Some c.in-Some.at) (sym c.in-Some.is ∙ c.line_end.ensures)).1

pub returns-in-None-clause-line : goal.returns-in-None-clause-line
returns-in-None-clause-line c = sym (first_line c.args.bytes.now None (sym c.in-None.is ∙ c.line_end.ensures)).0

pub returns-in-None-clause-after : goal.returns-in-None-clause-after
returns-in-None-clause-after c = sym (first_line c.args.bytes.now None (sym c.in-None.is ∙ c.line_end.ensures)).1
