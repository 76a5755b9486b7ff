use Rattle.std.proofs.Common.{◌≡◌, ◌∷◌, drop, map, [], IfSome}
use Rattle.zw_def_thin.specs.Mount.{mounted}
use Rattle.zw_top.proofs.mount.mount.Given as goal

abbrev pub invariant-paths : goal.invariant-paths
invariant-paths g l = record {
  counts : g.F.Folder.faults l.folder ≡ g.F.Folder.faults l.fn.folder;
  same : g.F.Folder.listing l.folder ≡ g.F.Folder.listing l.fn.folder;
  fixed : l.mounting.fixed ≡ l.fixed ∷ [];
  told : IfSome (g.F.Folder.listing l.fn.folder) (λ m. mounted l.fixed m.files l.mounting.staged (map (λ v. v.items) (drop l.bytes-index l.listing)) ≡ mounted l.fixed m.files [] (map (λ v. v.items) l.listing));
}
