use Rattle.std.proofs.Common.{◌≡◌, ℕ, List, None, map, take}
use Rattle.zw_def.specs.Text.{Text}
use Rattle.zw_def.specs.Names.{AreNamed, IsDistinct, OnlyGrows, texts_of}
use Rattle.zw_inflect.specs.Layout.{layout_seen, root_seen}
use Rattle.zw_scan.specs.Wrong.{first_below, misnamed_all}
use Rattle.zw_scan.specs.WrongTable.{first_at}
use Rattle.zw_scan.specs.ClaimSeen.{claim_seen}
use Rattle.zw_scan.proofs.wrong.WrongTable.of.Given as goal

abbrev pub invariant-loop-place : goal.invariant-loop-place
invariant-loop-place l =
    ((later : List Text) → OnlyGrows l.names later → IsDistinct later → (q : List ℕ) → AreNamed later q →
    first_at q l.table ≡ first_below (texts_of later q) 0 None (map (misnamed_all (layout_seen later l.layout) (map (claim_seen later) l.files) (map (claim_seen later) l.directories)) (map (root_seen later) (take l.place l.layout.roots.items)))) ×
    OnlyGrows l.fn.names l.names
