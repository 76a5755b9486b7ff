use Rattle.std.proofs.Common.{◌≡◌, ◌<◌, length, false}
use Rattle.zw_expr.specs.Joined.{resumed}
use Rattle.zw_expr.specs.Operand.{AreNamedOperands, level_seen, operands_seen}
use Rattle.zw_expr.proofs.levels.joined_from.Given as goal

abbrev pub invariant-turns : goal.invariant-turns
invariant-turns l =
    let names = l.maker.names.now in
    let level = level_seen l.level in
    record {
      same : resumed level false (operands_seen names l.fn.done.items) (operands_seen names l.fn.rest.items)
          ≡ resumed level l.made (operands_seen names l.done.items) (operands_seen names l.rest.items);
      done : AreNamedOperands names l.done.items;
      rest : AreNamedOperands names l.rest.items;
      some : 0 < length l.done.items;
    }

abbrev pub decreases-turns : goal.decreases-turns
decreases-turns l = length l.rest.items
