use Rattle.std.proofs.Common.{arith}
use Rattle.zw_scan.proofs.CountLemmas.{below_more, below_within}
use Rattle.zw_scan.proofs.file_count.FileCounts.of.Goals as goal

pub add_above-requires : goal.add_above-requires
add_above-requires c d =
    omega (arith, c.loop-file.invariant d, below_within (λ f. f.path) c.args.files.now c.loop-file.file-index 18446744073709551615 d c.loop-file-test.true (omega arith))

pub loop-file-preserved : goal.loop-file-preserved
loop-file-preserved c d =
    omega (arith, c.in_ok-add_above.ensures d, c.loop-file.invariant d, below_more (λ f. f.path) c.args.files.now c.loop-file.file-index c.file-item.result d c.loop-file-test.true c.file-item.is)
