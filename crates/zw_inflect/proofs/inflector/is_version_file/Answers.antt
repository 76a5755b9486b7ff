use Rattle.std.proofs.Common.{rules, ◌∙◌, sym}
use Rattle.zw_inflect.proofs.GemLemmas.{no_version_file, version_file_by_last}
use Rattle.zw_inflect.proofs.inflector.is_version_file.Goals as goal

pub returns-in_default : goal.returns-in_default
returns-in_default c = c.is_empty.ensures ∙ sym (no_version_file c.args.main.now c.args.path.now c.in_default.ensures.cases)

pub returns-then-eq : goal.returns-then-eq
returns-then-eq c =
    let last = version_file_by_last c.args.main.now c.args.path.now c.in-Some.directory.now c.in-Some.file.now c.in-Some.ensures.cases.0 in
    search (rules, last)

pub returns-else-eq : goal.returns-else-eq
returns-else-eq c =
    let last = version_file_by_last c.args.main.now c.args.path.now c.in-Some.directory.now c.in-Some.file.now c.in-Some.ensures.cases.0 in
    search (rules, last)
