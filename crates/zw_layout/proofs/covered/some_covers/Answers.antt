use Rattle.std.proofs.Common.{◌+◌, sym, ◌∙◌, ap, map, take, string_bytes, arith}
use Rattle.std.proofs.lemmas.List.{length-map}
use Rattle.zw_layout.specs.Progress.{some_whole}
use Rattle.zw_layout.proofs.ProgressLemmas.{some_whole-is, covers_hit, covers_past}
use Rattle.zw_layout.proofs.covered.some_covers.Goals as goal

pub returns-then-is_match : goal.returns-then-is_match
returns-then-is_match c =
    let path = map string_bytes c.args.components.now in
    let size = length-map c.args.components.now (λ s. string_bytes s) in
    let n = c.loop-depth.depth in
    let is = sym (some_whole-is c.args.patterns.now (take (n + 1) path)) ∙ ap some_whole (sym c.in_ok-progress-2.ensures) ∙ sym c.is_match.ensures ∙ c.if-is_match.true in
    sym (covers_hit c.args.patterns.now path n (omega (arith, size, c.loop-depth-test.true)) is)

pub loop-depth-preserved : goal.loop-depth-preserved
loop-depth-preserved c =
    let path = map string_bytes c.args.components.now in
    let size = length-map c.args.components.now (λ s. string_bytes s) in
    let n = c.loop-depth.depth in
    let is = sym (some_whole-is c.args.patterns.now (take (n + 1) path)) ∙ ap some_whole (sym c.in_ok-progress-2.ensures) ∙ sym c.is_match.ensures ∙ c.if-is_match.false in
    (c.in_ok-progress-2.ensures, covers_past c.args.patterns.now path n (omega (arith, size, c.loop-depth-test.true)) is c.loop-depth.invariant.1)
