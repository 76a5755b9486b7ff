-- What is found by numbers, as what is expecting by texts.
use Rattle.std.proofs.Common.{◌≡◌, ℕ, ◌+◌, ◌<◌, Bool, true, false, ◌&&◌, ◌||◌, cond, List, [], ◌∷◌, ◌++◌, map, length, take, get_or, refl, ap, sym, ◌∙◌}
use Rattle.std.specs.List.{All, list_any, filter}
use Rattle.std.specs.Str.{bytes_eq}
use Rattle.std.specs.Cmp.Lexicographic.{lists_equiv, nat_list_eq_equiv, texts_ties}
use Rattle.std.proofs.lemmas.List.{map-append, take_more}
use Rattle.std.proofs.lemmas.List.Elements.{All-head, All-tail}
use Rattle.zw_def.specs.Text.{Text}
use Rattle.zw_def.specs.Path.{Path, same_path}
use Rattle.zw_def.specs.Names.{AreNamed, IsDistinct, OnlyGrows, texts_of}
use Rattle.zw_def.specs.Nesting.{same_names}
use Rattle.zw_def.specs.Map.{Expecting, all_expecting, names_of, paths_of}
use Rattle.zw_def.proofs.NameLemmas.{text_as, name_stays, AreNamed-grown}
use Rattle.zw_scan.specs.Table.{same_numbers, paths_found}
use Rattle.zw_scan.specs.FoundSeen.{IsFoundNamed, found_seen}
use Rattle.zw_scan.specs.NameTable.{AreEntries, names_at}
use Rattle.zw_scan.specs.IsScan.{IsScanNamed}
use Rattle.zw_scan.specs.declared.found.Found.{Found}
use Rattle.zw_scan.specs.declared.scan.Scan.{Scan}
use Rattle.zw_scan.specs.declared.name_table.NameTable.{NameTable}
use Rattle.zw_scan.proofs.ClaimLemmas.{all_later}

module _ (names : List Text) (distinct : IsDistinct names) where
  -- constant paths are the same exactly where their numbers are
  names_by_bytes : (p q : List ℕ) → AreNamed names p → AreNamed names q → same_names (texts_of names p) (texts_of names q) ≡ bytes_eq q p
  names_by_bytes [] [] np nq = refl
  names_by_bytes [] (m ∷ q) np nq = refl
  names_by_bytes (n ∷ p) [] np nq = refl
  names_by_bytes (n ∷ p) (m ∷ q) np nq =
      λ i. text_as names m n distinct (All-head (λ k. k < length names) m q nq) (All-head (λ k. k < length names) n p np) i
      && names_by_bytes p q (All-tail (λ k. k < length names) n p np) (All-tail (λ k. k < length names) m q nq) i

  pub names_by_numbers : (p q : List ℕ) → AreNamed names p → AreNamed names q → same_names (texts_of names p) (texts_of names q) ≡ same_numbers q p
  names_by_numbers p q np nq = names_by_bytes p q np nq ∙ texts_ties q p

  pub found_expecting : (q : List ℕ) → AreNamed names q → (found : List Found) → All (IsFoundNamed names) found → paths_found q found ≡ paths_of (all_expecting (texts_of names q) (map (found_seen names) found))
  found_expecting q named [] all = refl
  found_expecting q named (f ∷ found) all = by (same_numbers q f.names) refl (found_expecting q named found (All-tail (IsFoundNamed names) f found all)) where
    same : same_names (texts_of names f.names) (texts_of names q) ≡ same_numbers q f.names
    same = names_by_numbers f.names q (All-head (IsFoundNamed names) f found all) named

    by : (b : Bool) → same_numbers q f.names ≡ b → paths_found q found ≡ paths_of (all_expecting (texts_of names q) (map (found_seen names) found)) → map (λ (g : Found). g.path) (cond b (f ∷ filter (λ g. same_numbers q g.names) found) (filter (λ g. same_numbers q g.names) found)) ≡ paths_of (cond (same_names (texts_of names f.names) (texts_of names q)) (found_seen names f ∷ all_expecting (texts_of names q) (map (found_seen names) found)) (all_expecting (texts_of names q) (map (found_seen names) found)))
    by true e more = ap (λ l. f.path ∷ l) more ∙ ap (λ b. paths_of (cond b (found_seen names f ∷ all_expecting (texts_of names q) (map (found_seen names) found)) (all_expecting (texts_of names q) (map (found_seen names) found)))) (sym (same ∙ e))
    by false e more = more ∙ ap (λ b. paths_of (cond b (found_seen names f ∷ all_expecting (texts_of names q) (map (found_seen names) found)) (all_expecting (texts_of names q) (map (found_seen names) found)))) (sym (same ∙ e))

  pub found_among : (q : List ℕ) → AreNamed names q → (found : List Found) (expecting : List Expecting) → All (IsFoundNamed names) found → map (found_seen names) found ≡ expecting → paths_found q found ≡ paths_of (all_expecting (texts_of names q) expecting)
  found_among q named found expecting all told = found_expecting q named found all ∙ ap (λ es. paths_of (all_expecting (texts_of names q) es)) told

-- ---- the paths that are kept

any_pushed : (p : Path) (ps : List Path) (x : Path) → list_any (same_path p) (ps ++ x ∷ []) ≡ cond (same_path x p) true (list_any (same_path p) ps)
any_pushed p [] x = ap (λ b. b || false) ((lists_equiv nat_list_eq_equiv).symm p x) ∙ by (same_path x p) where
  by : (b : Bool) → (b || false) ≡ cond b true false
  by true = refl
  by false = refl
any_pushed p (y ∷ ps) x = ap (λ b. same_path p y || b) (any_pushed p ps x) ∙ by (same_path p y) (same_path x p) (list_any (same_path p) ps) where
  by : (a b c : Bool) → (a || cond b true c) ≡ cond b true (a || c)
  by true true c = refl
  by true false c = refl
  by false true c = refl
  by false false c = refl

pub any_more : {A : Type 0} (path : A → Path) (xs : List A) (i : ℕ) (x : A) (p : Path) → i < length xs → x ≡ get_or xs i x → list_any (same_path p) (map path (take (i + 1) xs)) ≡ cond (same_path (path x) p) true (list_any (same_path p) (map path (take i xs)))
any_more path xs i x p lt is =
    ap (λ l. list_any (same_path p) (map path l)) (take_more xs i x lt)
    ∙ ap (list_any (same_path p)) (map-append path (take i xs) (get_or xs i x ∷ []))
    ∙ any_pushed p (map path (take i xs)) (path (get_or xs i x))
    ∙ ap (λ y. cond (same_path (path y) p) true (list_any (same_path p) (map path (take i xs)))) (sym is)

-- ---- names that are made later

pub found_later : (old new : List Text) → OnlyGrows old new → (found : List Found) → All (IsFoundNamed old) found → All (IsFoundNamed new) found
found_later old new grows found all k f lt = AreNamed-grown old new (get_or found k f).names grows (all k f lt)

pub named_later : (old new : List Text) → OnlyGrows old new → (scan : Scan) → IsScanNamed old scan → IsScanNamed new scan
named_later old new grows scan named = record {
  claims = all_later old new grows scan.claims.items named.claims;
  files = found_later old new grows scan.files.items named.files;
  directories = found_later old new grows scan.directories.items named.directories;
}

pub entries_later : (old new : List Text) → OnlyGrows old new → (table : NameTable) → AreEntries old table → AreEntries new table
entries_later old new grows table all q k e lt = name_stays old new (get_or (names_at q table) k e).1 (get_or (names_at q table) k e).0 grows (all q k e lt)

pub names_found : (names : List Text) (found : List Found) → map (λ f. texts_of names f.names) found ≡ names_of (map (found_seen names) found)
names_found names [] = refl
names_found names (f ∷ found) = ap (λ ps. texts_of names f.names ∷ ps) (names_found names found)
