use Rattle.std.proofs.Common.{rules, ◌≡◌, None, Some}
use Rattle.zw_def.specs.Path.{path_of}
use Rattle.zw_path.specs.BadPath.{bad_path}
use Rattle.zw_path.proofs.BadPathLemmas.{no_path}
use Rattle.zw_config.proofs.patterns.pattern_in.Goals as goal

pub returns-in-Err-Refused : goal.returns-in-Err-Refused
returns-in-Err-Refused c =
    let refused : bad_path c.in_ok-text.text.now ≡ Some c.in-Err-Refused.field-0-0 = search rules in
    let none : path_of c.in_ok-text.text.now ≡ None = no_path c.in_ok-text.text.now c.in-Err-Refused.field-0-0 refused in
    search (rules, none)
