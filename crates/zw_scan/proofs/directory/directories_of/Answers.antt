use Rattle.std.proofs.Common.{◌+◌, ◌++◌, map, drop, ◌∙◌, sym}
use Rattle.std.specs.List.{filter}
use Rattle.zw_def.specs.Layout.{belongs_to}
use Rattle.zw_inflect.specs.Layout.{layout_seen, root_seen}
use Rattle.zw_scan.specs.Directories.{all_above}
use Rattle.zw_scan.proofs.SharedLemmas.{own_file, other_file, no_more}
use Rattle.zw_scan.proofs.directory.directories_of.Goals.{then-belongs_to+in_ok-push_above, else-belongs_to}
use Rattle.zw_scan.proofs.directory.directories_of.Goals as goal

pub loop-file-preserved : goal.loop-file-preserved
loop-file-preserved c names =
    let own = belongs_to (layout_seen names c.args.layout.now) (root_seen names c.args.root.now) in
    let rest = filter own (map (λ f. f.path) (drop (c.loop-file.file-index + 1) c.args.files.now)) in
    elim c.if-belongs_to.branch [
      | then-belongs_to+in_ok-push_above w ↦
          (λ i. (w.directories-is i).items ++ all_above (w.previous-is i).now rest)
          ∙ own_file (λ f. f.path) own c.args.files.now c.loop-file.file-index c.file-item.result c.loop-file-test.true c.file-item.is c.loop-file.previous.now c.loop-file.directories.items _ (c.loop-file.invariant names) (sym (c.belongs_to.ensures names) ∙ w.if-belongs_to.true) w.push_above.new.directories.items w.in_ok-push_above.ensures
      | else-belongs_to w ↦
          (λ i. (w.directories-is i).items ++ all_above (w.previous-is i).now rest)
          ∙ other_file (λ f. f.path) own c.args.files.now c.loop-file.file-index c.file-item.result c.loop-file-test.true c.file-item.is c.loop-file.previous.now c.loop-file.directories.items _ (c.loop-file.invariant names) (sym (c.belongs_to.ensures names) ∙ w.if-belongs_to.false)
    ]

pub returns : goal.returns
returns c names =
    no_more (λ f. f.path) (belongs_to (layout_seen names c.args.layout.now) (root_seen names c.args.root.now)) c.args.files.now c.loop-file.file-index c.loop-file.previous.now c.loop-file.directories.items _ c.loop-file-test.false (c.loop-file.invariant names)
