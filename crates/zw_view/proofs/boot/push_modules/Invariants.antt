use Rattle.std.proofs.Common.{◌≡◌, ◌++◌, map, take}
use Rattle.zw_def.specs.Names.{AreNamed, OnlyGrows, texts_of}
use Rattle.zw_map.specs.BootSeen.{AreBootNamed}
use Rattle.zw_view.specs.Core.{own_rows, rows_told}
use Rattle.zw_view.proofs.boot.push_modules.Given as goal

abbrev pub invariant-loop-text : goal.invariant-loop-text
invariant-loop-text l = record {
  told : rows_told l.names l.rows.items ≡ rows_told l.fn.names l.fn.rows.items ++ own_rows (texts_of l.fn.names l.above) (map (λ t. t.now) (take l.text-index l.texts));
  above : AreNamed l.names l.above;
  named : AreBootNamed l.names l.rows.items;
  grows : OnlyGrows l.fn.names l.names;
}
