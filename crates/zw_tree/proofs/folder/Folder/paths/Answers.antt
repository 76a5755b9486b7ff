use Rattle.std.proofs.Common.{◌≡◌, [], ◌∷◌, ◌++◌, Bor, List, ℕ, length, map, string_bytes, refl, subst, ap, sym, ◌∙◌, arith, rules}
use Rattle.std.specs.Global.{Box}
use Rattle.zw_path.specs.Shape.{IsPath}
use Rattle.zw_tree.specs.Row.{Row, folder, rows_of, told}
use Rattle.zw_tree.specs.Seen.{rows_seen, node_seen}
use Rattle.zw_tree.specs.Walk.{to_come, left_seen}
use Rattle.zw_tree.specs.declared.folder.Entry.{Entry}
use Rattle.zw_tree.specs.declared.folder.Node.{Node}
use Rattle.zw_tree.proofs.SeenLemmas.{rows-length}
use Rattle.zw_tree.proofs.WalkLemmas.{walk_done, walk_up-level, walk_up, walk_up-falls, walk_path, walk_file-level, walk_file, walk_file-falls, walk_down-level, walk_down, walk_down-falls}
use Rattle.zw_tree.proofs.folder.Folder.paths.Goals as goal

abbrev name_of : Bor (List ℕ) → List ℕ
name_of n = n.now

abbrev left_of : Bor (List (Box Entry)) → List Row
left_of es = rows_seen es.now

pub walk-init : goal.walk-init
walk-init c = record {
  level = ap length c.new-names.ensures.items ∙ sym (ap length c.new-above.ensures.items);
  found = λ i. c.new-paths.ensures.items i ++ to_come (left_seen (c.new-above.ensures.items i)) (map name_of (c.new-names.ensures.items i)) (c.entries-here.ensures i);
}

pub returns-in_default-pop : goal.returns-in_default-pop
returns-in_default-pop c =
    let no_row : length c.walk.here.now ≡ 0 = search rules in
    let no_level : length c.walk.above.items ≡ 0 = omega (arith, c.walk.above.ok, c.in_default-pop.ensures.cases.0) in
    walk_done name_of left_of c.walk.paths.items c.walk.above.items c.walk.names.items (rows_seen c.walk.here.now) _ (rows-length c.walk.here.now ∙ no_row) no_level c.walk.invariant.level c.walk.invariant.found

pub walk-smaller-in_default : goal.walk-smaller-in_default
walk-smaller-in_default c =
    let no_row : length c.walk.here.now ≡ 0 = search rules in
    walk_up-falls name_of left_of c.walk.above.items c.pop.new.self.items c.in-Some-pop.rest c.walk.names.items c.pop-in_default.new.self.items (rows_seen c.walk.here.now) _ (rows-length c.walk.here.now ∙ no_row) c.walk.invariant.level c.in-Some-pop.ensures.items (omega (arith, c.walk.names.ok)) c.pop-in_default.ensures.rest

pub walk-preserved-in_default : goal.walk-preserved-in_default
walk-preserved-in_default c =
    let no_row : length c.walk.here.now ≡ 0 = search rules in
    record {
      level = walk_up-level name_of left_of c.walk.above.items c.pop.new.self.items c.in-Some-pop.rest c.walk.names.items c.pop-in_default.new.self.items (rows_seen c.walk.here.now) _ (rows-length c.walk.here.now ∙ no_row) c.walk.invariant.level c.in-Some-pop.ensures.items (omega (arith, c.walk.names.ok)) c.pop-in_default.ensures.rest;
      found = walk_up name_of left_of c.walk.above.items c.pop.new.self.items c.in-Some-pop.rest c.walk.names.items c.pop-in_default.new.self.items (rows_seen c.walk.here.now) _ (rows-length c.walk.here.now ∙ no_row) c.walk.invariant.level c.in-Some-pop.ensures.items (omega (arith, c.walk.names.ok)) c.pop-in_default.ensures.rest c.walk.paths.items _ c.walk.invariant.found;
    }

-- the row of the entry here, before those that are left
row_here : (es : List (Box Entry)) (e : Box Entry) (rest : List (Box Entry)) (x y : Entry) (node : Node) → es ≡ e ∷ rest → x ≡ e.value → y ≡ e.value → y.node ≡ node
    → rows_seen es ≡ record { name = string_bytes x.name; node = node_seen node } ∷ rows_seen rest
row_here es e rest x y node is named noted at =
    ap rows_seen is ∙ (λ i. record { name = string_bytes (sym named i).name; node = node_seen (((ap (λ (z : Entry). z.node) (sym noted)) ∙ at) i) } ∷ rows_seen rest)

pub path_of-requires : goal.path_of-requires
path_of-requires c =
    let row = row_here c.walk.here.now c.in-Some.entry.now c.in-Some.rest.now c.deref.result.now c.deref-in-walk.result.now _ c.in-Some.ensures.cases.0 c.deref.ensures c.deref-in-walk.ensures c.in-File.is in
    subst (λ ns. IsPath (map name_of ns)) (sym c.as_slice.ensures.value) (walk_path name_of left_of c.walk.above.items c.walk.names.items c.push.new.self.items c.as_str.result _ _ (rows_seen c.walk.here.now) (rows_seen c.in-Some.rest.now) c.walk.invariant.level row c.as_str.ensures.value c.in_ok-push.ensures.items c.walk.paths.items _ c.walk.invariant.found (told c.args.self.now) c.requires refl)

pub walk-smaller-in-File : goal.walk-smaller-in-File
walk-smaller-in-File c =
    let row = row_here c.walk.here.now c.in-Some.entry.now c.in-Some.rest.now c.deref.result.now c.deref-in-walk.result.now _ c.in-Some.ensures.cases.0 c.deref.ensures c.deref-in-walk.ensures c.in-File.is in
    walk_file-falls name_of left_of c.walk.above.items c.walk.names.items c.push.new.self.items c.as_str.result _ _ (rows_seen c.walk.here.now) (rows_seen c.in-Some.rest.now) c.walk.invariant.level row c.as_str.ensures.value c.in_ok-push.ensures.items c.walk.paths.items _ c.walk.invariant.found

pub walk-preserved-in-File : goal.walk-preserved-in-File
walk-preserved-in-File c =
    let row = row_here c.walk.here.now c.in-Some.entry.now c.in-Some.rest.now c.deref.result.now c.deref-in-walk.result.now _ c.in-Some.ensures.cases.0 c.deref.ensures c.deref-in-walk.ensures c.in-File.is in
    record {
      level = walk_file-level name_of left_of c.walk.above.items c.walk.names.items c.push.new.self.items c.as_str.result _ _ (rows_seen c.walk.here.now) (rows_seen c.in-Some.rest.now) c.walk.invariant.level row c.as_str.ensures.value c.in_ok-push.ensures.items c.walk.paths.items _ c.walk.invariant.found c.pop-in-File.new.self.items _ (omega (arith, c.push.new.self.ok)) c.pop-in-File.ensures.rest;
      found = walk_file name_of left_of c.walk.above.items c.walk.names.items c.push.new.self.items c.as_str.result _ _ (rows_seen c.walk.here.now) (rows_seen c.in-Some.rest.now) c.walk.invariant.level row c.as_str.ensures.value c.in_ok-push.ensures.items c.walk.paths.items _ c.walk.invariant.found c.pop-in-File.new.self.items _ (omega (arith, c.push.new.self.ok)) c.pop-in-File.ensures.rest c.push-in-File.new.self.items (c.in_ok-push-in-File.ensures.items ∙ ap (λ p. c.walk.paths.items ++ p ∷ []) (c.in_ok-path_of-in-File.ensures ∙ ap (map name_of) c.as_slice.ensures.value));
    }

pub walk-smaller : goal.walk-smaller
walk-smaller c =
    let row = row_here c.walk.here.now c.in-Some.entry.now c.in-Some.rest.now c.deref.result.now c.deref-in-walk.result.now _ c.in-Some.ensures.cases.0 c.deref.ensures c.deref-in-walk.ensures c.in-Directory.is in
    walk_down-falls name_of left_of c.walk.above.items c.push-in-Directory.new.self.items c.walk.names.items c.push.new.self.items c.as_str.result _ (rows_seen c.entries-here-in-Directory.result.now) (rows_seen c.walk.here.now) c.in-Some.rest c.walk.invariant.level (row ∙ ap (λ rs. record { name = string_bytes c.deref.result.now.name; node = folder (rows_of rs) } ∷ rows_seen c.in-Some.rest.now) (sym c.entries-here-in-Directory.ensures)) c.as_str.ensures.value c.in_ok-push.ensures.items c.in_ok-push-in-Directory.ensures.items

pub walk-preserved : goal.walk-preserved
walk-preserved c =
    let row = row_here c.walk.here.now c.in-Some.entry.now c.in-Some.rest.now c.deref.result.now c.deref-in-walk.result.now _ c.in-Some.ensures.cases.0 c.deref.ensures c.deref-in-walk.ensures c.in-Directory.is in
    record {
      level = walk_down-level name_of left_of c.walk.above.items c.push-in-Directory.new.self.items c.walk.names.items c.push.new.self.items c.as_str.result _ (rows_seen c.entries-here-in-Directory.result.now) (rows_seen c.walk.here.now) c.in-Some.rest c.walk.invariant.level (row ∙ ap (λ rs. record { name = string_bytes c.deref.result.now.name; node = folder (rows_of rs) } ∷ rows_seen c.in-Some.rest.now) (sym c.entries-here-in-Directory.ensures)) c.as_str.ensures.value c.in_ok-push.ensures.items c.in_ok-push-in-Directory.ensures.items;
      found = walk_down name_of left_of c.walk.above.items c.push-in-Directory.new.self.items c.walk.names.items c.push.new.self.items c.as_str.result _ (rows_seen c.entries-here-in-Directory.result.now) (rows_seen c.walk.here.now) c.in-Some.rest c.walk.invariant.level (row ∙ ap (λ rs. record { name = string_bytes c.deref.result.now.name; node = folder (rows_of rs) } ∷ rows_seen c.in-Some.rest.now) (sym c.entries-here-in-Directory.ensures)) c.as_str.ensures.value c.in_ok-push.ensures.items c.in_ok-push-in-Directory.ensures.items c.walk.paths.items _ c.walk.invariant.found;
    }
