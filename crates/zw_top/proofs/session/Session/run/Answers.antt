use Rattle.std.proofs.lemmas.Result.{IfOk-weaker}
use Rattle.std.proofs.Common.{Some, None, string_bytes}
use Rattle.zw_top.proofs.SessionLemmas.{runs_line}
use Rattle.zw_top.proofs.session.Session.run.Goals as goal

pub returns-in-Some-2-clause-told : goal.returns-in-Some-2-clause-told
returns-in-Some-2-clause-told c = IfOk-weaker c.alone.result _ _ (λ lines is s stands.
    runs_line s c.args.self.now.view c.in-Some.console c.run.new.self c.args.self.now.console c.args.text.now (Some (string_bytes c.in-Some-2.line)) _ c.in-Some.is stands (rw (c.in-Some-2.is, c.as_bytes.ensures.value) at c.in_ok-line.ensures) is)
    c.alone.ensures

pub returns-in-None-clause-told : goal.returns-in-None-clause-told
returns-in-None-clause-told c = IfOk-weaker c.not_built-in-None.result _ _ (λ lines is s stands.
    runs_line s c.args.self.now.view c.in-Some.console c.run.new.self c.args.self.now.console c.args.text.now None _ c.in-Some.is stands (rw (c.in-None.is, c.as_bytes.ensures.value) at c.in_ok-line.ensures) is)
    c.not_built-in-None.ensures
