use Rattle.std.proofs.Common.{◌≡◌, map, string_bytes}
use Rattle.zw_strings.proofs.PieceLemmas.{PaidFor}
use Rattle.zw_strings.proofs.texts.pay_texts.Given as goal

abbrev pub invariant-loop-text : goal.invariant-loop-text
invariant-loop-text l = record {
  paid : PaidFor (map string_bytes l.texts) l.text-index l.fn.meter.left l.meter.left;
  depth : l.meter.depth ≡ l.fn.meter.depth;
}
