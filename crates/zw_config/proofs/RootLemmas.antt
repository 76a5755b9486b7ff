-- Roots: the path that no root before has, the paths of those before, and names that stay as they are.
use Rattle.std.proofs.Common.{◌≡◌, ◌||◌, Bool, true, false, cond, List, [], ◌∷◌, ◌++◌, codes, map, Some, Ok, Err, refl, ap, sym, ◌∙◌}
use Rattle.std.specs.BTreeMap.{is_at}
use Rattle.std.specs.BTreeSet.{BTreeSet, contains}
use Rattle.std.specs.List.{All, list_any}
use Rattle.std.proofs.lemmas.List.{map-append}
use Rattle.std.proofs.lemmas.List.Elements.{All-push}
use Rattle.toml.specs.Data.{Data, Members}
use Rattle.zw_lemmas.proofs.ListLemmas.{map-same}
use Rattle.zw_def.specs.Text.{Text}
use Rattle.zw_def.specs.Path.{Path, path_cmp, path_text, same_path}
use Rattle.zw_def.specs.Layout as defined
use Rattle.zw_def.specs.Names.{OnlyGrows}
use Rattle.zw_def.proofs.NameLemmas.{AreNamed-grown, texts_of-grown}
use Rattle.zw_def.proofs.PathOrderLemmas.{same_tied}
use Rattle.zw_inflect.specs.declared.layout.Root.{Root}
use Rattle.zw_inflect.specs.declared.layout.Layout.{Layout}
use Rattle.zw_inflect.specs.Inflector.{inflector_seen}
use Rattle.zw_inflect.specs.Layout.{layout_seen, root_seen}
use Rattle.zw_def_config.specs.Fault.{◌>>=◌, double_root}
use Rattle.zw_def_config.specs.Value.{path_in, required}
use Rattle.zw_def_config.specs.Key.{at}
use Rattle.zw_def_config.specs.Root.{root_path, new_path}
use Rattle.zw_config.specs.Root.{HasPaths, IsNamed}

-- ---- the path of a root

module _ (before : List defined.Root) (table : Members) (value : Data) (path : Path)
    (found : Some value ≡ at (codes "path") table) (read : path_in (codes "root.path") value ≡ Ok path) where
  path_tried : (b : Bool) → list_any (λ r. same_path r.path path) before ≡ b
      → root_path before table ≡ cond b (Err (double_root (path_text path))) (Ok path)
  path_tried b any =
      ap (λ o. required (codes "root.path") (path_in (codes "root.path")) o >>= new_path before) (sym found)
      ∙ ap (λ r. r >>= new_path before) read
      ∙ ap (λ b. cond b (Err (double_root (path_text path))) (Ok path)) any

  pub path_new : list_any (λ r. same_path r.path path) before ≡ false → root_path before table ≡ Ok path
  path_new any = path_tried false any

  pub path_double : list_any (λ r. same_path r.path path) before ≡ true
      → root_path before table ≡ Err (double_root (path_text path))
  path_double any = path_tried true any

-- ---- the paths of roots

any_pushed : (t : defined.Root → Bool) (before : List defined.Root) (root : defined.Root)
    → list_any t (before ++ root ∷ []) ≡ cond (t root) true (list_any t before)
any_pushed t [] root = by (t root) where
  by : (b : Bool) → (b || false) ≡ cond b true false
  by true = refl
  by false = refl
any_pushed t (r ∷ rs) root = ap (λ b. t r || b) (any_pushed t rs root) ∙ by (t r) (t root) (list_any t rs) where
  by : (a b c : Bool) → (a || cond b true c) ≡ cond b true (a || c)
  by true true c = refl
  by true false c = refl
  by false b c = refl

pub paths_pushed : (old new : BTreeSet Path) (before : List defined.Root) (path : Path) (root : defined.Root)
    → HasPaths old before → path ≡ root.path
    → ((q : Path) → contains path_cmp new q ≡ cond (is_at (path_cmp path) q) true (contains path_cmp old q))
    → HasPaths new (before ++ root ∷ [])
paths_pushed old new before path root has is updates q =
    updates q
    ∙ (λ i. cond ((sym (same_tied path q) ∙ ap (λ p. same_path p q) is) i) true (has q i))
    ∙ sym (any_pushed (λ r. same_path r.path q) before root)

-- ---- names that grow

module _ (old new : List Text) (grows : OnlyGrows old new) where
  pub root_grown : (root : Root) → IsNamed old root → root_seen new root ≡ root_seen old root
  root_grown root named = ap (λ n. record { path = root.path; namespace = n }) (texts_of-grown old new root.namespace grows named)

  pub roots_grown : (roots : List Root) → All (IsNamed old) roots → map (root_seen new) roots ≡ map (root_seen old) roots
  roots_grown roots named = map-same (root_seen new) (root_seen old) (IsNamed old) roots root_grown named

  pub named_grown : (roots : List Root) → All (IsNamed old) roots → All (IsNamed new) roots
  named_grown roots named k d lt = AreNamed-grown old new _ grows (named k d lt)

  -- one root more
  pub roots_pushed : (roots all : List Root) (root : Root) → all ≡ roots ++ root ∷ [] → All (IsNamed old) roots → map (root_seen new) all ≡ map (root_seen old) roots ++ root_seen new root ∷ []
  roots_pushed roots all root is named =
      ap (map (root_seen new)) is ∙ map-append (root_seen new) roots (root ∷ []) ∙ ap (λ rs. rs ++ root_seen new root ∷ []) (roots_grown roots named)

  pub named_pushed : (roots all : List Root) (root : Root) → all ≡ roots ++ root ∷ [] → All (IsNamed old) roots → IsNamed new root → All (IsNamed new) all
  named_pushed roots all root is named one = rw is (All-push (IsNamed new) roots root (named_grown roots named) one)

  pub layout_grown : (layout : Layout) → All (IsNamed old) layout.roots.items → layout_seen new layout ≡ layout_seen old layout
  layout_grown layout named =
      ap (λ roots. record {
        roots = roots;
        ignore = layout.ignore.items;
        collapse = layout.collapse.items;
        no_eager = layout.no_eager.items;
        inflector = inflector_seen layout.inflector;
      }) (roots_grown layout.roots.items named)
