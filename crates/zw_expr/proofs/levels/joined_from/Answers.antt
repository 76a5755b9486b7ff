use Rattle.std.proofs.Common.{◌≡◌, ◌∷◌, rules, ◌∙◌}
use Rattle.zw_expr.specs.Operand.{AreNamedOperands, level_seen}
use Rattle.zw_expr.proofs.JoinLemmas.{turned_goes, turned_fails}
use Rattle.zw_expr.proofs.levels.joined_from.Goals as goal

pub returns-in_err-made-clause-told : goal.returns-in_err-made-clause-told
returns-in_err-made-clause-told c =
    let names = c.args.maker.now.names.now in
    let split : c.turns.rest.items ≡ c.in-Some.operand ∷ c.pop_front.new.self.items = search rules in
    let none = turned_fails names (level_seen c.args.level) c.turns.made c.turns.done.items _ _ c.in-Some.operand split c.turns.invariant.some in
    search (rules, none)

pub turns-preserved : goal.turns-preserved
turns-preserved c =
    let names = c.args.maker.now.names.now in
    let split : c.turns.rest.items ≡ c.in-Some.operand ∷ c.pop_front.new.self.items = search rules in
    let goes = turned_goes names (level_seen c.args.level) c.turns.made c.in_ok-made.made c.turns.done.items c.turned.new.done.items _ _ c.in-Some.operand split c.turns.invariant.some c.in_ok-made.ensures.told in
    let left : AreNamedOperands names c.pop_front.new.self.items = search rules in
    record {
      same = c.turns.invariant.same ∙ goes;
      done = c.turned.ensures.named;
      rest = left;
      some = c.in_ok-made.ensures.some;
    }
