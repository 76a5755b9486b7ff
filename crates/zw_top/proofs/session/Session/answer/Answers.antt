use Rattle.std.proofs.Common.{IfOk, ◌∷◌, [], false, ap, sym, subst, ◌∙◌}
use Rattle.std.proofs.lemmas.Result.{IfOk-weaker}
use Rattle.zw_cmd.specs.Seen.{command_seen}
use Rattle.zw_cmd.specs.declared.command.Command as commands
use Rattle.zw_def_thin.specs.Session.{answer}
use Rattle.zw_top.specs.Reply.{AnswersTo, lines_seen}
use Rattle.zw_top.proofs.session.Session.answer.Goals as goal

pub returns-in_ok-expect-in-Expect-clause-told : goal.returns-in_ok-expect-in-Expect-clause-told
returns-in_ok-expect-in-Expect-clause-told c =
    subst (λ (o : commands.Command). IfOk c.alone.result (λ lines. AnswersTo c.args.self.now (record { view = c.expect.new.self; console = c.args.self.now.console }) (answer (command_seen o)) (lines_seen lines))) (sym c.in-Expect.is)
    (IfOk-weaker c.alone.result _ _ (λ lines is s stands. record {
      told = is ∙ ap (λ t. t ∷ []) (c.in_ok-expect-in-Expect.ensures.told s.layout s.tree stands.view);
      stands = record { view = c.expect.ensures.kept s.layout s.tree stands.view; console = stands.console };
    }) c.alone.ensures)

pub returns-in-Shadows-clause-told : goal.returns-in-Shadows-clause-told
returns-in-Shadows-clause-told c =
    subst (λ (o : commands.Command). IfOk c.shadows.result (λ lines. AnswersTo c.args.self.now c.args.self.now (answer (command_seen o)) (lines_seen lines))) (sym c.in-Shadows.is)
    (IfOk-weaker c.shadows.result _ _ (λ lines is s stands. record {
      told = is s.layout s.tree (record { layout = s.layout; callbacks = []; logs = false }) stands.view;
      stands = stands;
    }) c.shadows.ensures)
