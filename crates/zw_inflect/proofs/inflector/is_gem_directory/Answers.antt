use Rattle.std.proofs.Common.{rules, sym}
use Rattle.zw_inflect.proofs.GemLemmas.{no_gem_directory, gem_directory_by_last}
use Rattle.zw_inflect.proofs.inflector.is_gem_directory.Goals as goal

pub returns-in_default-split_last : goal.returns-in_default-split_last
returns-in_default-split_last c = sym (no_gem_directory c.args.main.now c.args.directory.now c.in_default-split_last.ensures.cases)

pub returns-then-eq : goal.returns-then-eq
returns-then-eq c =
    let last = gem_directory_by_last c.args.main.now c.args.directory.now c.in-Some.above.now c.in-Some-split_last.others.now c.in-Some.file.now c.in-Some-split_last.name.now c.in-Some.ensures.cases.0 c.in-Some-split_last.ensures.cases.0 in
    search (rules, last)

pub returns-else-eq : goal.returns-else-eq
returns-else-eq c =
    let last = gem_directory_by_last c.args.main.now c.args.directory.now c.in-Some.above.now c.in-Some-split_last.others.now c.in-Some.file.now c.in-Some-split_last.name.now c.in-Some.ensures.cases.0 c.in-Some-split_last.ensures.cases.0 in
    search (rules, last)
