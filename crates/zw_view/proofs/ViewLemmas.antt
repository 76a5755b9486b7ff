-- Views whose table of names grows, and what they show.
use Rattle.std.proofs.Common.{◌≡◌, ◌<◌, get_or, drop, ◌++◌, ◌==◌, ℕ, Bool, true, false, not, ◌&&◌, ◌+◌, cond, suc, List, [], ◌∷◌, map, filter, length, is_some, slice_get, Option, Some, None, Result, codes, refl, ap, sym, subst, ◌∙◌, append_assoc, arith}
use Rattle.std.specs.List.{All, find, cons_option}
use Rattle.std.specs.Option.{option_map}
use Rattle.std.proofs.lemmas.List.{length-map, map-append}
use Rattle.std.proofs.lemmas.List.Elements.{All-append, All-cons, All-head, All-nil, All-tail}
use Rattle.zw_lemmas.proofs.FindLemmas.{find-map}
use Rattle.zw_lemmas.proofs.ListLemmas.{drop-at}
use Rattle.zw_def.specs.Text.{Text}
use Rattle.zw_def.specs.Path.{Path}
use Rattle.zw_def.specs.Layout.{Layout, Root, root_of, is_ignored}
use Rattle.zw_def.specs.Expected.{expected_of_file}
use Rattle.zw_def.specs.Names.{AreNamed, OnlyGrows, text_of, texts_of}
use Rattle.zw_def.specs.Nesting.{child}
use Rattle.zw_def.specs.Tree.{Tree}
use Rattle.zw_def.specs.Visible.{keys_of, is_visible, visible_files}
use Rattle.zw_def.proofs.NameLemmas.{OnlyGrows-same, OnlyGrows-trans, AreNamed-grown, texts_of-grown, texts_of-pushed, AreNamed-pushed, text_later}
use Rattle.zw_def_world.specs.CoreWorld.{core_world}
use Rattle.zw_def_world.specs.World.{Setting}
use Rattle.zw_def_session.specs.Opening.{leads}
use Rattle.zw_inflect.specs.Layout.{layout_seen, root_seen}
use Rattle.zw_inflect.specs.declared.layout.Layout as inflect
use Rattle.zw_inflect.specs.declared.layout.Root as roots
use Rattle.zw_base.specs.declared.fault.Fault.{Fault}
use Rattle.zw_layout.specs.Expects.{AreNamespacesNamed, ExpectsAny}
use Rattle.zw_layout.specs.declared.expected.WrongName.{WrongName}
use Rattle.zw_map.specs.Expected.{expected_of}
use Rattle.zw_map.specs.BootSeen.{AreBootNamed, boot_seen, is_own}
use Rattle.zw_scan.specs.ClaimTold.{ClaimTold, files_told, told_with}
use Rattle.zw_scan.specs.IsScan.{IsScan}
use Rattle.zw_view.specs.Core.{IsCore, names_of_object, names_of_zeitwerk, own_rows, rows_told}
use Rattle.zw_view.specs.View.{IsView}
use Rattle.zw_view.specs.declared.view.View.{View}
use Rattle.zw_view.proofs.BootLemmas.{core_seen, leads_own}

-- ---- more names

pub rows_grown : (old new : List Text) (rows : List (List ℕ × Bool)) → OnlyGrows old new → AreBootNamed old rows → rows_told new rows ≡ rows_told old rows
rows_grown old new [] grows named = refl
rows_grown old new (row ∷ rows) grows named =
    ap (λ p. (p, row.1) ∷ rows_told new rows) (texts_of-grown old new row.0 grows (All-head (λ r. AreNamed old r.0) row rows named))
    ∙ ap (λ l. (texts_of old row.0, row.1) ∷ l) (rows_grown old new rows grows (All-tail (λ r. AreNamed old r.0) row rows named))

pub boot_grown : (old new : List Text) (rows : List (List ℕ × Bool)) → OnlyGrows old new → AreBootNamed old rows → AreBootNamed new rows
boot_grown old new rows grows named = λ k d lt. AreNamed-grown old new _ grows (named k d lt)

roots_grown : (old new : List Text) (all : List roots.Root) → OnlyGrows old new → All (λ r. AreNamed old r.namespace) all → map (root_seen new) all ≡ map (root_seen old) all
roots_grown old new [] grows named = refl
roots_grown old new (r ∷ rs) grows named =
    ap (λ p. record { path = r.path; namespace = p } ∷ map (root_seen new) rs) (texts_of-grown old new r.namespace grows (All-head (λ x. AreNamed old x.namespace) r rs named))
    ∙ ap (λ l. root_seen old r ∷ l) (roots_grown old new rs grows (All-tail (λ x. AreNamed old x.namespace) r rs named))

pub layout_grown : (old new : List Text) (layout : inflect.Layout) → OnlyGrows old new → AreNamespacesNamed old layout → layout_seen new layout ≡ layout_seen old layout
layout_grown old new layout grows named = ap (λ rs. record (layout_seen old layout) { roots = rs }) (roots_grown old new layout.roots.items grows named)

pub view_grown : (layout : Layout) (tree : Tree) (v : View) (names : List Text) → OnlyGrows v.names names → IsView layout tree v → IsView layout tree (record v { names = names })
view_grown layout tree v names grows is = record {
  under = λ later more. is.under later (OnlyGrows-trans v.names names later grows more);
  scan = λ later more. is.scan later (OnlyGrows-trans v.names names later grows more);
  boot = record {
    named = boot_grown v.names names v.boot.items grows is.boot.named;
    told = rows_grown v.names names v.boot.items grows is.boot.named ∙ is.boot.told;
  };
}

pub namespaces_grown : (old new : List Text) (layout : inflect.Layout) → OnlyGrows old new → AreNamespacesNamed old layout → AreNamespacesNamed new layout
namespaces_grown old new layout grows named = λ k d lt. AreNamed-grown old new _ grows (named k d lt)

-- what a file is expected to define, by the names that are there then
pub expects_in : (layout : Layout) (tree : Tree) (v : View) (names : List Text) (path : Path) (result : Result (Option (List ℕ)) (Fault WrongName)) → OnlyGrows v.names names → IsView layout tree v
    → ((later : List Text) (t : Tree) → OnlyGrows names later → IsScan later (layout_seen later v.layout) t v.scan → ExpectsAny later result (expected_of (layout_seen later v.layout) t path)) → ExpectsAny names result (expected_of layout tree path)
expects_in layout tree v names path result grows is told =
    subst (λ l. ExpectsAny names result (expected_of l tree path)) (is.under names grows)
    (told names tree (OnlyGrows-same names) (subst (λ l. IsScan names l tree v.scan) (sym (is.under names grows)) (is.scan names grows)))

-- ---- the core constants

-- one name more of the module
pub one_more : (fn old new : List Text) (rows more : List (List ℕ × Bool)) (above : List ℕ) (n : ℕ) (text : Text) (before : List Text) (first : List (List Text × Bool)) → OnlyGrows fn old → OnlyGrows old new → AreNamed fn above → AreBootNamed old rows → slice_get new n ≡ Some text
    → more ≡ rows ++ (above ++ n ∷ [], true) ∷ [] → rows_told old rows ≡ first ++ own_rows (texts_of fn above) before → rows_told new more ≡ first ++ own_rows (texts_of fn above) (before ++ text ∷ [])
one_more fn old new rows more above n text before first grown grows named rows_named there is told =
    ap (rows_told new) is ∙ rows_append new rows ((above ++ n ∷ [], true) ∷ [])
    ∙ ap (λ l. l ++ rows_told new ((above ++ n ∷ [], true) ∷ [])) (rows_grown old new rows grows rows_named ∙ told)
    ∙ append_assoc first (own_rows (texts_of fn above) before) (rows_told new ((above ++ n ∷ [], true) ∷ []))
    ∙ ap (λ l. first ++ l) (ap (λ p. own_rows (texts_of fn above) before ++ (p, true) ∷ []) (texts_of-pushed new above n text there ∙ ap (λ q. q ++ text ∷ []) (texts_of-grown fn new above (OnlyGrows-trans fn old new grown grows) named)) ∙ sym (map-append (λ m. (child (texts_of fn above) m, true)) before (text ∷ [])))
  where
    rows_append : (names : List Text) (xs ys : List (List ℕ × Bool)) → rows_told names (xs ++ ys) ≡ rows_told names xs ++ rows_told names ys
    rows_append names xs ys = map-append (λ row. (texts_of names row.0, row.1)) xs ys

pub named_more : (old new : List Text) (rows more : List (List ℕ × Bool)) (above : List ℕ) (n : ℕ) (text : Text) → OnlyGrows old new → AreNamed old above → AreBootNamed old rows → slice_get new n ≡ Some text → more ≡ rows ++ (above ++ n ∷ [], true) ∷ [] → AreBootNamed new more
named_more old new rows more above n text grows named rows_named there is =
    subst (AreBootNamed new) (sym is)
    (All-append (λ (r : List ℕ × Bool). AreNamed new r.0) rows ((above ++ n ∷ [], true) ∷ []) (boot_grown old new rows grows rows_named)
    (All-cons (λ (r : List ℕ × Bool). AreNamed new r.0) (above ++ n ∷ [], true) [] (AreNamed-pushed new above n text there (AreNamed-grown old new above grows named)) (All-nil (λ (r : List ℕ × Bool). AreNamed new r.0))))

-- the rows of the core constants, as they are made
pub core_made : (n1 n2 n3 n4 : List Text) (o z : ℕ) (a b : List ℕ) (r0 r1 r2 : List (List ℕ × Bool)) → slice_get n1 o ≡ Some (codes "Object") → OnlyGrows n1 n2 → slice_get n2 z ≡ Some (codes "Zeitwerk") → OnlyGrows n2 n3
    → a ≡ [] → b ≡ z ∷ [] → r0 ≡ ([], true) ∷ (o ∷ [], false) ∷ [] → rows_told n3 r1 ≡ rows_told n2 r0 ++ own_rows (texts_of n2 a) names_of_object
    → rows_told n4 r2 ≡ rows_told n3 r1 ++ own_rows (texts_of n3 b) names_of_zeitwerk → AreBootNamed n4 r2 → IsCore n4 r2
core_made n1 n2 n3 n4 o z a b r0 r1 r2 object grows1 zeitwerk grows2 none below first objects nested named = record {
  named = named;
  told =
      nested
      ∙ ap (λ l. l ++ own_rows (texts_of n3 b) names_of_zeitwerk) (objects
      ∙ ap (λ r. rows_told n2 r ++ own_rows (texts_of n2 a) names_of_object) first
      ∙ ap (λ p. (([], true) ∷ (text_of n2 o ∷ [], false) ∷ []) ++ own_rows (texts_of n2 p) names_of_object) none
      ∙ ap (λ t. (([], true) ∷ (t ∷ [], false) ∷ []) ++ own_rows [] names_of_object) (text_later n1 n2 o (codes "Object") grows1 object))
      ∙ ap (λ p. ((([], true) ∷ (codes "Object" ∷ [], false) ∷ []) ++ own_rows [] names_of_object) ++ own_rows (texts_of n3 p) names_of_zeitwerk) below
      ∙ ap (λ t. ((([], true) ∷ (codes "Object" ∷ [], false) ∷ []) ++ own_rows [] names_of_object) ++ own_rows (t ∷ []) names_of_zeitwerk) (text_later n2 n3 z (codes "Zeitwerk") grows2 zeitwerk);
}

-- ---- what is visible

-- each visible file lies below a root, and so it has a claim
claims_count : (layout : Layout) (paths : List Path) → length (files_told layout paths) ≡ length (filter (is_visible layout) paths)
claims_count layout [] = refl
claims_count layout (path ∷ paths) = by (root_of layout path) (is_ignored layout path) (claims_count layout paths) where
  by : (o : Option Root) (ignored : Bool) → length (files_told layout paths) ≡ length (filter (is_visible layout) paths)
      → length (cons_option (cond (is_some o && not ignored) (option_map (told_with path) (option_map (λ root. expected_of_file layout root path) o)) None) (files_told layout paths)) ≡ length (cond (is_some o && not ignored) (path ∷ filter (is_visible layout) paths) (filter (is_visible layout) paths))
  by None ignored same = same
  by (Some root) true same = same
  by (Some root) false same = ap suc same

-- the claims of a tree are none where no file is visible
pub claims_none : {A : Type 0} (f : A → ClaimTold) (layout : Layout) (tree : Tree) (claims : List A) → map f claims ≡ files_told layout (keys_of tree) → (length claims == 0) ≡ (length (visible_files layout tree) == 0)
claims_none f layout tree claims told =
    ap (λ n. n == 0) (sym (length-map claims f) ∙ ap length told ∙ claims_count layout (keys_of tree))

-- ---- namespaces

pub leads_seen : (names : List Text) (rows : List (List ℕ × Bool)) (setting : Setting) (p : List ℕ) → IsCore names rows → is_own (boot_seen names rows (texts_of names p)) ≡ leads (core_world setting) (texts_of names p)
leads_seen names rows setting p is = ap is_own (core_seen names rows setting (texts_of names p) is) ∙ leads_own (core_world setting) (texts_of names p)

-- ---- lines

pub map_after : {A B C : Type 0} (f : A → B) (g : B → C) (xs : List A) → map (λ x. g (f x)) xs ≡ map g (map f xs)
map_after f g [] = refl
map_after f g (x ∷ xs) = ap (λ l. g (f x) ∷ l) (map_after f g xs)

-- the first root whose namespace leads nowhere, by the code's roots
abbrev pub IsStray : Setting → List Text → roots.Root → Bool
IsStray setting names root = not (leads (core_world setting) (texts_of names root.namespace))

module _ (setting : Setting) (names : List Text) (all : List roots.Root) where
  pub at_stray : (i : ℕ) (root : roots.Root) → i < length all → root ≡ get_or all i root → find (IsStray setting names) (drop i all) ≡ find (IsStray setting names) all
      → find (IsStray setting names) all ≡ cond (IsStray setting names root) (Some root) (find (IsStray setting names) (drop (i + 1) all))
  at_stray i root lt is same = sym same ∙ ap (find (IsStray setting names)) (drop-at all i (i + 1) root lt (omega arith) ∙ ap (λ r. r ∷ drop (i + 1) all) (sym is))

  pub stray_told : (layout : Layout) (v : inflect.Layout) → layout_seen names v ≡ layout → v.roots.items ≡ all → find (λ root. not (leads (core_world setting) root.namespace)) layout.roots ≡ option_map (root_seen names) (find (IsStray setting names) all)
  stray_told layout v seen is =
      ap (λ l. find (λ root. not (leads (core_world setting) root.namespace)) l.roots) (sym seen)
      ∙ ap (λ l. find (λ root. not (leads (core_world setting) root.namespace)) (map (root_seen names) l)) is
      ∙ find-map (root_seen names) (λ root. not (leads (core_world setting) root.namespace)) all
