use Rattle.std.proofs.Common.{◌≡◌, ℕ, ◌+◌, ◌-◌, cond, length, take, string_bytes, ap, sym, ◌∙◌, arith}
use Rattle.std.proofs.lemmas.List.{length-map}
use Rattle.zw_def.specs.Path.{Path, same_path}
use Rattle.zw_scan.specs.FileCount.{count_of}
use Rattle.zw_scan.proofs.BeginningLemmas.{run}
use Rattle.zw_scan.proofs.CountLemmas.{same_count, above_first, above_more, above_once}
use Rattle.zw_scan.proofs.file_count.FileCounts.add_above.Goals as goal

pub loop-depth-init : goal.loop-depth-init
loop-depth-init c = record {
  counted = λ d. omega arith;
  at = omega (arith, c.components-depth-end.ensures.whole.nonempty);
}

pub add-requires : goal.add-requires
add-requires c =
    let f = c.args.file.now in
    let depth = c.loop-depth.depth in
    let size : length c.components-depth-end.result.now ≡ length f = sym (length-map c.components-depth-end.result.now string_bytes) ∙ ap length c.components-depth-end.ensures.value in
    let none = above_first f depth c.loop-depth.auto.depth (omega (arith, size, c.loop-depth-test.true)) in
    omega (arith, ap (count_of c.loop-depth.self) c.in_ok-beginning.ensures, c.loop-depth.invariant.counted (take depth f), none, c.requires (take depth f))

abbrev one : Path → Path → ℕ
one d p = cond (same_path d p) 1 0

pub loop-depth-preserved : goal.loop-depth-preserved
loop-depth-preserved c =
    let f = c.args.file.now in
    let depth = c.loop-depth.depth in
    let size : length c.components-depth-end.result.now ≡ length f = sym (length-map c.components-depth-end.result.now string_bytes) ∙ ap length c.components-depth-end.ensures.value in
    record {
      counted = λ d. omega (arith, c.in_ok-add.ensures d, c.loop-depth.invariant.counted d, ap (one d) c.in_ok-beginning.ensures, above_more f d depth c.loop-depth.auto.depth);
      at = omega (arith, size, c.loop-depth-test.true);
    }

pub returns : goal.returns
returns c d =
    let f = c.args.file.now in
    let size : length c.components-depth-end.result.now ≡ length f = sym (length-map c.components-depth-end.result.now string_bytes) ∙ ap length c.components-depth-end.ensures.value in
    let end : c.loop-depth.depth ≡ length f = omega (arith, size, c.loop-depth-test.false, c.loop-depth.invariant.at) in
    c.loop-depth.invariant.counted d
    ∙ ap (λ n. count_of c.args.self.now d + same_count d (run f 1 (n - 1))) end
    ∙ ap (λ n. count_of c.args.self.now d + n) (above_once f d)
