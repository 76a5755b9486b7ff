use Rattle.std.proofs.Common.{◌++◌, codes, refl, ap, sym, ◌∙◌, append_assoc, string_bytes}
use Rattle.zw_show.specs.Shown.{items_from, items_in, array_shown, shown}
use Rattle.zw_show.proofs.QuoteLemmas.{stops, err_is}
use Rattle.zw_show.proofs.ShownLemmas.{array_shown-is, items_in-is}
use Rattle.zw_show.proofs.items.+inspect.Goals as goal

pub push_array-returns-in_err-push : goal.push_array-returns-in_err-push
push_array-returns-in_err-push t c =
    let names = c.args.names.now in
    let h = c.args.heap.now in
    let n = c.args.array.0 in
    stops (Unit {0}) c.args.writer.now c.args.writer.now c.push.new.writer (array_shown names h n) (array_shown names h n) (codes "[") (items_from (shown names h) 0 (items_in h n))
    refl refl (array_shown-is names h c.holds_earlier.ensures n c.requires.held) c.in_err-push.field-0.0 c.from_residual.result (err_is _ _ c.from_residual.ensures.1) c.in_err-push.ensures

pub push_array-loop-index-init : goal.push_array-loop-index-init
push_array-loop-index-init t c =
    let names = c.args.names.now in
    let h = c.args.heap.now in
    let n = c.args.array.0 in
    let start = string_bytes c.args.writer.now.text in
    record {
      most = c.in_ok-push.ensures.1;
      written = ap (λ t. t ++ items_from (shown names h) 0 c.items-items.result.now) c.in_ok-push.ensures.0
          ∙ append_assoc start (codes "[") (items_from (shown names h) 0 c.items-items.result.now)
          ∙ ap (λ xs. start ++ (codes "[" ++ items_from (shown names h) 0 xs)) (sym (items_in-is h n c.items-items.result.now c.items-items.ensures.items))
          ∙ ap (λ t. start ++ t) (sym (array_shown-is names h c.holds_earlier.ensures n c.requires.held));
    }
