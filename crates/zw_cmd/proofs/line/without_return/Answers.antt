use Rattle.std.proofs.Common.{sym, ap, ◌∙◌, lit<, Some, None}
use Rattle.std.proofs.lemmas.Str.Pattern.{strip_suffix_char}
use Rattle.zw_def_session.specs.Commands.{without_return}
use Rattle.zw_cmd.proofs.PartLemmas.{without_return-cr, without_return-none}
use Rattle.zw_cmd.proofs.line.without_return.Goals as goal

pub returns-in-Some : goal.returns-in-Some
returns-in-Some c =
    let cut = strip_suffix_char 13 c.args.line.now (Some c.in-Some.front) c.in-Some.ensures.cases (lit< tt) in
    sym (ap without_return cut ∙ without_return-cr c.in-Some.front.now)

pub returns-in-None : goal.returns-in-None
returns-in-None c =
    sym (without_return-none c.args.line.now (strip_suffix_char 13 c.args.line.now None c.in-None.ensures.cases (lit< tt)))
