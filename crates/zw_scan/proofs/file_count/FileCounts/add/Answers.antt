use Rattle.std.proofs.Common.{◌+◌, refl}
use Rattle.zw_scan.proofs.CountLemmas.{kept_at}
use Rattle.zw_scan.proofs.file_count.FileCounts.add.Goals as goal

pub returns : goal.returns
returns c d =
    let count = c.at-count.result in
    kept_at c.args.self.now c.insert.new.self c.args.directory d count (count + 1) c.in_ok-insert.ensures.updates.0 c.at-count.ensures refl
