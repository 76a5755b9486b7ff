use Rattle.std.proofs.Common.{◌≡◌, ℕ, List, map, take}
use Rattle.std.specs.List.{fold}
use Rattle.zw_def.specs.Text.{Text}
use Rattle.zw_def.specs.Names.{AreNamed, IsDistinct, OnlyGrows, texts_of}
use Rattle.zw_scan.specs.Children.{below_more}
use Rattle.zw_scan.specs.NameTable.{AreEntries, texts_at}
use Rattle.zw_scan.proofs.name_table.NameTable.add_all.Given as goal

abbrev pub invariant-loop-one : goal.invariant-loop-one
invariant-loop-one l =
    ((later : List Text) → OnlyGrows l.names later → IsDistinct later → (q : List ℕ) → AreNamed later q → texts_at q l.self ≡ fold (below_more (texts_of later q)) (texts_at q l.fn.self) (map (λ f. texts_of later f.names) (take l.one-index l.found)))
    × (AreEntries l.names l.fn.self → AreEntries l.names l.self)
