use Rattle.std.proofs.Common.{◌≡◌, None, rules, subst}
use Rattle.zw_base.specs.Fault.{IfReason}
use Rattle.zw_def.specs.Path.{path_of}
use Rattle.zw_args.proofs.words.config.Goals as goal

pub returns-in-Err-Refused : goal.returns-in-Err-Refused
returns-in-Err-Refused c =
    let text = c.in-Some.text.now in
    let none : path_of text ≡ None = subst (λ fault. IfReason fault (λ _. path_of text ≡ None)) c.in-Err-Refused.field-0-is c.in-Err-Refused.ensures.none in
    search (rules, none)
