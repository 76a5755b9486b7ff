-- The first wrong name of a namespace, from rows of files and directories with wrong names.
use Rattle.std.proofs.Common.{◌≡◌, ℕ, suc, ◌+◌, ◌<◌, ◌≤◌, Bool, true, false, not, ◌||◌, cond, nat_eq, List, [], ◌∷◌, ◌++◌, map, filter_map, length, take, drop, get_or, Option, Some, None, option_map, Result, Ok, Err, refl, ap, sym, ◌∙◌, arith, append_assoc, length-append, length-take-le}
use Rattle.std.specs.List.{list_any, fold, filter, flat_map, cons_option}
use Rattle.std.specs.Option.{option_map_or, option_and_then, option_or}
use Rattle.std.specs.Cmp.Lexicographic.{lists_equiv, nat_list_eq_equiv}
use Rattle.std.proofs.lemmas.Bool.{eqb-true, eq-eqb, false_from_ne_true}
use Rattle.std.proofs.lemmas.List.{map-append, take_more, length-map, drop-append-le, take-append-le, take-append-drop}
use Rattle.std.proofs.lemmas.List.Elements.{filter-append}
use Rattle.zw_def.specs.Text.{Text}
use Rattle.zw_def.specs.Path.{Path, same_path, is_below, precedes}
use Rattle.zw_def.specs.Tree.{Tree}
use Rattle.zw_def.specs.Base.{base_of}
use Rattle.zw_def.specs.ConstantPath.{ConstantPath}
use Rattle.zw_def.specs.Nesting.{same_names, parent_of}
use Rattle.zw_def.specs.Inflector.{constant_inflected}
use Rattle.zw_def.specs.Layout.{Layout, Root, root_of, belongs_to, is_collapsed}
use Rattle.zw_def.specs.Visible.{keys_of, is_visible, visible_files, counting_directories, in_root_order}
use Rattle.zw_def.specs.Expected.{Expected, WrongName, named, named_by, named_directory, then_named, namespace_from, namespace_of, last_part, expected_path, directory_path}
use Rattle.zw_def.specs.Map.{Expecting, expecting_at, all_expecting, paths_of}
use Rattle.zw_def.specs.Wrong.{is_namespace_path, is_directly_below, wrong_name_of, wrong_name_at, wrong_names, earlier, first_of_root, first_wrong, wrong_below}
use Rattle.zw_def.proofs.PathLemmas.{same_path-Decides}
use Rattle.zw_layout.specs.Above.{namespace_above}
use Rattle.zw_scan.specs.ClaimTold.{ClaimTold, told_with, told_at, files_told, directories_told}
use Rattle.zw_scan.specs.Children.{wrong_of}
use Rattle.zw_scan.specs.Wrong.{Ranked, ranked, better, first_below, misnamed, misnamed_in, misnamed_all}
use Rattle.zw_scan.proofs.BeginningLemmas.{below_shorter, below_take}
use Rattle.zw_scan.proofs.ClaimDirectoryLemmas.{filter_map-flat}
use Rattle.zw_scan.proofs.FirstLemmas.{first_path, first_some, absorbed}
use Rattle.zw_scan.proofs.NameTableLemmas.{fold_append}
use Rattle.zw_scan.proofs.RootLemmas.{root_is, belongs, belongs_same}

-- ---- rows, one for each root

module _ (k : ℕ) where
  better_one : (first : Option Path) (x : Path) → better k (option_map (ranked k) first) x ≡ option_map (ranked k) (first_path first x)
  better_one None x = refl
  better_one (Some f) x = ap (λ b. cond (cond b (precedes f x) true) (Some (ranked k f)) (Some (ranked k x))) (eq-eqb k k refl) ∙ by (precedes f x) where
    by : (b : Bool) → cond b (Some (ranked k f)) (Some (ranked k x)) ≡ option_map (ranked k) (cond b (Some f) (Some x))
    by true = refl
    by false = refl

  better_all : (first : Option Path) (xs : List Path) → fold (better k) (option_map (ranked k) first) xs ≡ option_map (ranked k) (fold first_path first xs)
  better_all first [] = refl
  better_all first (x ∷ xs) = ap (λ o. fold (better k) o xs) (better_one first x) ∙ better_all (first_path first x) xs

  settled_row : (f : Ranked) → nat_eq f.root k ≡ false → (xs : List Path) → fold (better k) (Some f) xs ≡ Some f
  settled_row f other [] = refl
  settled_row f other (x ∷ xs) = ap (λ b. fold (better k) (cond (cond b (precedes f.path x) true) (Some f) (Some (ranked k x))) xs) other ∙ settled_row f other xs

module _ (p : ConstantPath) where
  abbrev row_first : List Expecting → Option Path
  row_first row = fold first_path None (paths_of (all_expecting p row))

  settled : (k : ℕ) (f : Ranked) → f.root < k → (rows : List (List Expecting)) → first_below p k (Some f) rows ≡ Some f
  settled k f lt [] = refl
  settled k f lt (row ∷ rows) = ap (λ o. first_below p (suc k) o rows) (settled_row k f (false_from_ne_true (nat_eq f.root k) (λ e. omega (arith, lt, eqb-true f.root k e))) (paths_of (all_expecting p row))) ∙ settled (suc k) f (omega (arith, lt)) rows

  below_first : (k : ℕ) (rows : List (List Expecting)) → option_map (λ (f : Ranked). f.path) (first_below p k None rows) ≡ first_some (map row_first rows)
  below_first k [] = refl
  below_first k (row ∷ rows) = ap (λ o. option_map (λ (f : Ranked). f.path) (first_below p (suc k) o rows)) (better_all k None (paths_of (all_expecting p row))) ∙ by (row_first row) (below_first (suc k) rows) where
    by : (o : Option Path) → option_map (λ (f : Ranked). f.path) (first_below p (suc k) None rows) ≡ first_some (map row_first rows) → option_map (λ (f : Ranked). f.path) (first_below p (suc k) (option_map (ranked k) o) rows) ≡ option_or o (first_some (map row_first rows))
    by None more = more
    by (Some f) more = ap (option_map (λ (g : Ranked). g.path)) (settled (suc k) (ranked k f) (omega arith) rows)

  row_pushed : (k : ℕ) (first : Option Ranked) (rows : List (List Expecting)) (row : List Expecting) → first_below p k first (rows ++ row ∷ []) ≡ fold (better (k + length rows)) (first_below p k first rows) (paths_of (all_expecting p row))
  row_pushed k first [] row = ap (λ n. fold (better n) first (paths_of (all_expecting p row))) (let e : k ≡ k + 0 = omega arith in e)
  row_pushed k first (r ∷ rows) row =
      row_pushed (suc k) (fold (better k) first (paths_of (all_expecting p r))) rows row
      ∙ ap (λ n. fold (better n) (first_below p (suc k) (fold (better k) first (paths_of (all_expecting p r))) rows) (paths_of (all_expecting p row))) (let e : suc k + length rows ≡ k + suc (length rows) = omega arith in e)

  -- one more of the rows
  pub rows_more : {A X : Type 0} (f : X → List Expecting) (g : A → X) (xs : List A) (i : ℕ) (x : A) → i < length xs → x ≡ get_or xs i x → first_below p 0 None (map f (map g (take (i + 1) xs))) ≡ fold (better i) (first_below p 0 None (map f (map g (take i xs)))) (paths_of (all_expecting p (f (g x))))
  rows_more f g xs i x lt at =
      let before = map f (map g (take i xs)) in
      let size : 0 + length before ≡ i = omega (arith, lt, length-map (map g (take i xs)) f, length-map (take i xs) g, length-take-le i xs (omega (arith, lt))) in
      ap (λ l. first_below p 0 None (map f (map g l))) (take_more xs i x lt)
      ∙ ap (λ l. first_below p 0 None (map f l)) (map-append g (take i xs) (get_or xs i x ∷ []))
      ∙ ap (first_below p 0 None) (map-append f (map g (take i xs)) (g (get_or xs i x) ∷ []))
      ∙ row_pushed 0 None before (f (g (get_or xs i x)))
      ∙ ap (λ n. fold (better n) (first_below p 0 None before) (paths_of (all_expecting p (f (g (get_or xs i x)))))) size
      ∙ ap (λ y. fold (better i) (first_below p 0 None before) (paths_of (all_expecting p (f (g y))))) (sym at)

-- a claim with a wrong name
pub misnamed_claim : (layout : Layout) (root : Root) (claim : ClaimTold) (wrong : WrongName) → claim.expected ≡ Err wrong → misnamed layout root claim ≡ cond (belongs_to layout root claim.path) (misnamed_in layout claim.path wrong) None
misnamed_claim layout root claim wrong is = ap (λ e. option_and_then (λ (w : WrongName). cond (belongs_to layout root claim.path) (misnamed_in layout claim.path w) None) (wrong_name_of e)) is

-- the same, by whether it belongs to the root and by the namespace above it
pub misnamed_here : (layout : Layout) (root : Root) (claim : ClaimTold) (wrong : WrongName) (above : Option Expected) → claim.expected ≡ Err wrong → belongs_to layout root claim.path ≡ true → namespace_above layout claim.path ≡ above → misnamed layout root claim ≡ option_and_then (expecting_at wrong.path) above
misnamed_here layout root claim wrong above is own told =
    misnamed_claim layout root claim wrong is ∙ (λ i. cond (own i) (option_and_then (expecting_at wrong.path) (told i)) None)

-- one more of what is kept
pub folded_more : {X Y : Type 0} (f : X → Y → X) (first : X) (b : Bool) (ys : List Y) (y : Y) → cond b (f (fold f first ys) y) (fold f first ys) ≡ fold f first (cond b (ys ++ y ∷ []) ys)
folded_more f first true ys y = sym (fold_append f first ys (y ∷ []))
folded_more f first false ys y = refl

-- ---- the definition, by paths alone

earlier_path : (first : Option WrongName) (wrongs : List WrongName) → option_map (λ (w : WrongName). w.path) (fold earlier first wrongs) ≡ fold first_path (option_map (λ (w : WrongName). w.path) first) (map (λ w. w.path) wrongs)
earlier_path first [] = refl
earlier_path first (w ∷ ws) = earlier_path (earlier first w) ws ∙ ap (λ o. fold first_path o (map (λ v. v.path) ws)) (one first) where
  one : (first : Option WrongName) → option_map (λ (v : WrongName). v.path) (earlier first w) ≡ first_path (option_map (λ (v : WrongName). v.path) first) w.path
  one None = refl
  one (Some f) = by (precedes f.path w.path) where
    by : (b : Bool) → option_map (λ (v : WrongName). v.path) (cond b (Some f) (Some w)) ≡ cond b (Some f.path) (Some w.path)
    by true = refl
    by false = refl

abbrev root_first : Layout → List WrongName → Root → Option Path
root_first layout wrongs root = option_map (λ (w : WrongName). w.path) (first_of_root layout wrongs root)

wrong_rows : (layout : Layout) (wrongs : List WrongName) (roots : List Root) → option_map (λ (w : WrongName). w.path) (first_wrong layout wrongs roots) ≡ first_some (map (root_first layout wrongs) roots)
wrong_rows layout wrongs [] = refl
wrong_rows layout wrongs (r ∷ roots) = by (first_of_root layout wrongs r) (wrong_rows layout wrongs roots) where
  by : (o : Option WrongName) → option_map (λ (w : WrongName). w.path) (first_wrong layout wrongs roots) ≡ first_some (map (root_first layout wrongs) roots) → option_map (λ (w : WrongName). w.path) (option_or o (first_wrong layout wrongs roots)) ≡ option_or (option_map (λ (w : WrongName). w.path) o) (first_some (map (root_first layout wrongs) roots))
  by None more = more
  by (Some w) more = refl

-- ---- lists

onto : {X Y : Type 0} (g : X → Option Y) (o : Option X) (xs : List X) → filter_map g (cons_option o xs) ≡ cons_option (option_and_then g o) (filter_map g xs)
onto g None xs = refl
onto g (Some x) xs = refl

filter_map-twice : {A X Y : Type 0} (g : X → Option Y) (f : A → Option X) (xs : List A) → filter_map g (filter_map f xs) ≡ filter_map (λ x. option_and_then g (f x)) xs
filter_map-twice g f [] = refl
filter_map-twice g f (x ∷ xs) = onto g (f x) (filter_map f xs) ∙ ap (cons_option (option_and_then g (f x))) (filter_map-twice g f xs)

filter_map-same : {X Y : Type 0} (keep : X → Bool) (f g : X → Option Y) → ((x : X) → keep x ≡ true → f x ≡ g x) → (xs : List X) → filter_map f (filter keep xs) ≡ filter_map g (filter keep xs)
filter_map-same keep f g same [] = refl
filter_map-same keep f g same (x ∷ xs) = by (keep x) refl (filter_map-same keep f g same xs) where
  by : (b : Bool) → keep x ≡ b → filter_map f (filter keep xs) ≡ filter_map g (filter keep xs) → filter_map f (cond b (x ∷ filter keep xs) (filter keep xs)) ≡ filter_map g (cond b (x ∷ filter keep xs) (filter keep xs))
  by true e more = λ i. cons_option (same x e i) (more i)
  by false e more = more

-- ---- what is chosen of the rows

abbrev chosen : ConstantPath → Option Expecting → Option Path
chosen p found = option_and_then (λ (m : Expecting). cond (same_names m.names p) (Some m.path) None) found

chosen_all : {X : Type 0} (p : ConstantPath) (f : X → Option Expecting) (xs : List X) → paths_of (all_expecting p (filter_map f xs)) ≡ filter_map (λ x. chosen p (f x)) xs
chosen_all p f [] = refl
chosen_all p f (x ∷ xs) = by (f x) (chosen_all p f xs) where
  by : (o : Option Expecting) → paths_of (all_expecting p (filter_map f xs)) ≡ filter_map (λ y. chosen p (f y)) xs → paths_of (all_expecting p (cons_option o (filter_map f xs))) ≡ cons_option (chosen p o) (filter_map (λ y. chosen p (f y)) xs)
  by None more = more
  by (Some m) more = at (same_names m.names p) where
    at : (b : Bool) → paths_of (cond b (m ∷ all_expecting p (filter_map f xs)) (all_expecting p (filter_map f xs))) ≡ cons_option (cond b (Some m.path) None) (filter_map (λ y. chosen p (f y)) xs)
    at true = ap (λ l. m.path ∷ l) more
    at false = more

module _ (layout : Layout) (root : Root) where
  abbrev own_path : Option WrongName → Option Path
  own_path wrong = option_and_then (λ (w : WrongName). cond (belongs_to layout root w.path) (Some w.path) None) wrong

  own_paths : {X : Type 0} (f : X → Option WrongName) (xs : List X) → map (λ (w : WrongName). w.path) (filter (λ w. belongs_to layout root w.path) (filter_map f xs)) ≡ filter_map (λ x. own_path (f x)) xs
  own_paths f [] = refl
  own_paths f (x ∷ xs) = by (f x) (own_paths f xs) where
    by : (o : Option WrongName) → map (λ (w : WrongName). w.path) (filter (λ w. belongs_to layout root w.path) (filter_map f xs)) ≡ filter_map (λ y. own_path (f y)) xs → map (λ (w : WrongName). w.path) (filter (λ w. belongs_to layout root w.path) (cons_option o (filter_map f xs))) ≡ cons_option (own_path o) (filter_map (λ y. own_path (f y)) xs)
    by None more = more
    by (Some w) more = at (belongs_to layout root w.path) where
      at : (b : Bool) → map (λ (v : WrongName). v.path) (cond b (w ∷ filter (λ v. belongs_to layout root v.path) (filter_map f xs)) (filter (λ v. belongs_to layout root v.path) (filter_map f xs))) ≡ cons_option (cond b (Some w.path) None) (filter_map (λ y. own_path (f y)) xs)
      at true = ap (λ l. w.path ∷ l) more
      at false = more

-- ---- one file or directory

module _ (layout : Layout) (root : Root) (p : ConstantPath) (x : Path) (made : Result Text Text) where
  abbrev above : Root → Expected
  above r = namespace_of layout r (parent_of x)

  abbrev told : Expected → Expected
  told namespace = then_named (λ q. named_by q x made) namespace

  none_of : (b : Bool) → chosen p (cond b None None) ≡ None
  none_of true = refl
  none_of false = refl

  no_wrong : (b : Bool) → own_path layout root (cond b None None) ≡ None
  no_wrong true = refl
  no_wrong false = refl

  swap : (a b : Bool) → cond a (cond b (Some x) None) None ≡ cond b (cond a (Some x) None) None
  swap true true = refl
  swap true false = refl
  swap false true = refl
  swap false false = refl

  chosen_if : (a : Bool) (m : Expecting) → chosen p (cond a (Some m) None) ≡ cond a (cond (same_names m.names p) (Some m.path) None) None
  chosen_if true m = refl
  chosen_if false m = refl

  own_if : (a : Bool) (w : WrongName) → own_path layout root (cond a (Some w) None) ≡ cond a (cond (belongs_to layout root w.path) (Some w.path) None) None
  own_if true w = refl
  own_if false w = refl

  named_case : (q : ConstantPath) → namespace_above layout x ≡ Some (Ok q) → (made' : Result Text Text)
      → chosen p (option_and_then (λ (w : WrongName). cond (belongs_to layout root x) (misnamed_in layout x w) None) (wrong_name_of (named_by q x made')))
      ≡ own_path layout root (cond (same_names p q) (wrong_name_of (named_by q x made')) None)
  named_case q is (Ok name) = sym (no_wrong (same_names p q))
  named_case q is (Err name) =
      let m : Expecting = record { path = x; names = q } in
      let w : WrongName = record { name = name; path = x } in
      ap (λ a. chosen p (cond (belongs_to layout root x) (option_and_then (expecting_at x) a) None)) is
      ∙ chosen_if (belongs_to layout root x) m
      ∙ swap (belongs_to layout root x) (same_names q p)
      ∙ ap (λ b. cond b (cond (belongs_to layout root x) (Some x) None) None) ((lists_equiv nat_list_eq_equiv).symm q p)
      ∙ sym (own_if (same_names p q) w)

  namespace_case : (n : Expected) → namespace_above layout x ≡ Some n
      → chosen p (option_and_then (λ (w : WrongName). cond (belongs_to layout root x) (misnamed_in layout x w) None) (wrong_name_of (told n)))
      ≡ own_path layout root (cond (is_namespace_path p n) (wrong_name_of (told n)) None)
  namespace_case (Err v) is = ap (λ a. chosen p (cond (belongs_to layout root x) (option_and_then (expecting_at v.path) a) None)) is ∙ none_of (belongs_to layout root x)
  namespace_case (Ok q) is = named_case q is made

  -- what the row has of it is what the definition has
  one_path : (expected : Option Expected) → expected ≡ option_map (λ r. told (above r)) (root_of layout x)
      → option_and_then (λ c. chosen p (misnamed layout root c)) (option_map (told_with x) expected)
      ≡ own_path layout root (cond (is_directly_below layout p x) (option_and_then wrong_name_of expected) None)
  one_path expected is =
      ap (λ e. option_and_then (λ c. chosen p (misnamed layout root c)) (option_map (told_with x) e)) is
      ∙ by (root_of layout x) refl
      ∙ ap (λ e. own_path layout root (cond (is_directly_below layout p x) (option_and_then wrong_name_of e) None)) (sym is)
    where
      by : (o : Option Root) → root_of layout x ≡ o → option_and_then (λ c. chosen p (misnamed layout root c)) (option_map (told_with x) (option_map (λ r. told (above r)) o)) ≡ own_path layout root (cond (option_map_or (λ r. is_namespace_path p (above r)) o false) (option_and_then wrong_name_of (option_map (λ r. told (above r)) o)) None)
      by None e = refl
      by (Some r) e = namespace_case (above r) (ap (option_map above) e)

-- ---- a directory's name

module _ (layout : Layout) where
  last_apart : (x : Path) → 0 < length x → x ≡ parent_of x ++ last_part x ∷ []
  last_apart [] some = absurd (omega (arith, some))
  last_apart (a ∷ []) some = refl
  last_apart (a ∷ b ∷ more) some = ap (λ l. a ∷ l) (last_apart (b ∷ more) (omega arith))

  from_more : (d cs : Path) (c : Text) (q : ConstantPath) → namespace_from layout d (cs ++ c ∷ []) q ≡ then_named (named_directory layout (d ++ (cs ++ c ∷ []))) (namespace_from layout d cs q)
  from_more d [] c q = by (named_directory layout (d ++ c ∷ []) q) where
    by : (n : Expected) → then_named (namespace_from layout (d ++ c ∷ []) []) n ≡ n
    by (Ok m) = refl
    by (Err w) = refl
  from_more d (b ∷ cs) c q = by (named_directory layout (d ++ b ∷ []) q) (from_more (d ++ b ∷ []) cs c) where
    by : (n : Expected) → ((m : ConstantPath) → namespace_from layout (d ++ b ∷ []) (cs ++ c ∷ []) m ≡ then_named (named_directory layout ((d ++ b ∷ []) ++ (cs ++ c ∷ []))) (namespace_from layout (d ++ b ∷ []) cs m)) → then_named (namespace_from layout (d ++ b ∷ []) (cs ++ c ∷ [])) n ≡ then_named (named_directory layout (d ++ (b ∷ (cs ++ c ∷ [])))) (then_named (namespace_from layout (d ++ b ∷ []) cs) n)
    by (Ok m) more = more m ∙ ap (λ h. then_named (named_directory layout h) (namespace_from layout (d ++ b ∷ []) cs m)) (append_assoc d (b ∷ []) (cs ++ c ∷ []))
    by (Err w) more = refl

  -- that of the directory itself, in the namespace above it
  directory_named : (r : Root) (x : Path) → is_below x r.path ≡ true → is_collapsed layout x ≡ false → namespace_of layout r x ≡ then_named (named layout (last_part x) x) (namespace_of layout r (parent_of x))
  directory_named r x below plain =
      let n = length r.path in
      let u = parent_of x in
      let c = last_part x in
      let longer = below_shorter x r.path below in
      let apart : x ≡ u ++ c ∷ [] = last_apart x (omega (arith, longer)) in
      let size : n ≤ length u = omega (arith, longer, ap length apart, length-append u (c ∷ [])) in
      let cut : drop n x ≡ drop n u ++ c ∷ [] = ap (drop n) apart ∙ drop-append-le n u (c ∷ []) size in
      let front : r.path ≡ take n u = sym (below_take x r.path below) ∙ ap (take n) apart ∙ take-append-le n u (c ∷ []) size in
      let whole : r.path ++ (drop n u ++ c ∷ []) ≡ x = ap (λ l. l ++ (drop n u ++ c ∷ [])) front ∙ sym (append_assoc (take n u) (drop n u) (c ∷ [])) ∙ ap (λ l. l ++ c ∷ []) (take-append-drop n u) ∙ sym apart in
      ap (λ l. namespace_from layout r.path l r.namespace) cut
      ∙ from_more r.path (drop n u) c r.namespace
      ∙ ap (λ l. then_named (named_directory layout l) (namespace_from layout r.path (drop n u) r.namespace)) whole
      ∙ by (namespace_from layout r.path (drop n u) r.namespace)
    where
      by : (e : Expected) → then_named (named_directory layout x) e ≡ then_named (named layout (last_part x) x) e
      by (Ok q) = ap (λ b. cond b (Ok q) (named layout (last_part x) x q)) plain
      by (Err w) = refl

  directory_told : (x : Path) → is_collapsed layout x ≡ false → directory_path layout x ≡ option_map (λ r. then_named (named layout (last_part x) x) (namespace_of layout r (parent_of x))) (root_of layout x)
  directory_told x plain = by (root_of layout x) refl where
    by : (o : Option Root) → root_of layout x ≡ o → option_map (λ r. namespace_of layout r x) o ≡ option_map (λ r. then_named (named layout (last_part x) x) (namespace_of layout r (parent_of x))) o
    by None e = refl
    by (Some r) e = ap Some (directory_named r x (root_is layout x r e).below plain)

-- ---- the rows of one root

module _ (layout : Layout) (root : Root) (p : ConstantPath) where
  abbrev picked : ClaimTold → Option Path
  picked c = chosen p (misnamed layout root c)

  files_same : (keys : List Path) → filter_map picked (files_told layout keys) ≡ filter_map (λ x. own_path layout root (wrong_name_at layout p (expected_path layout) x)) (filter (is_visible layout) keys)
  files_same [] = refl
  files_same (x ∷ keys) = by (is_visible layout x) (files_same keys) where
    by : (b : Bool) → filter_map picked (files_told layout keys) ≡ filter_map (λ y. own_path layout root (wrong_name_at layout p (expected_path layout) y)) (filter (is_visible layout) keys)
        → filter_map picked (cons_option (cond b (option_map (told_with x) (expected_path layout x)) None) (files_told layout keys)) ≡ filter_map (λ y. own_path layout root (wrong_name_at layout p (expected_path layout) y)) (cond b (x ∷ filter (is_visible layout) keys) (filter (is_visible layout) keys))
    by false more = more
    by true more =
        onto picked (option_map (told_with x) (expected_path layout x)) (files_told layout keys)
        ∙ (λ i. cons_option (one_path layout root p x (constant_inflected layout.inflector (base_of x) x) (expected_path layout x) refl i) (more i))

  abbrev seen : Path → Option Path
  seen x = option_and_then picked (told_at (directory_path layout) x)

  -- a directory of another root is not picked
  not_own : (x : Path) → belongs_to layout root x ≡ false → seen x ≡ None
  not_own x other = by (directory_path layout x) where
    at : (o : Option WrongName) → chosen p (option_and_then (λ (w : WrongName). cond (belongs_to layout root x) (misnamed_in layout x w) None) o) ≡ None
    at None = refl
    at (Some w) = ap (λ b. chosen p (cond b (misnamed_in layout x w) None)) other

    by : (e : Option Expected) → option_and_then picked (option_map (told_with x) e) ≡ None
    by None = refl
    by (Some e) = at (wrong_name_of e)

  same_row : (s : Root) → s.path ≡ root.path → (xs : List Path) → filter_map seen (filter (belongs_to layout s) xs) ≡ filter_map seen xs
  same_row s e [] = refl
  same_row s e (x ∷ xs) = by (belongs_to layout s x) refl (same_row s e xs) where
    by : (b : Bool) → belongs_to layout s x ≡ b → filter_map seen (filter (belongs_to layout s) xs) ≡ filter_map seen xs → filter_map seen (cond b (x ∷ filter (belongs_to layout s) xs) (filter (belongs_to layout s) xs)) ≡ cons_option (seen x) (filter_map seen xs)
    by true h more = ap (cons_option (seen x)) more
    by false h more = more ∙ ap (λ o. cons_option o (filter_map seen xs)) (sym (not_own x (sym (belongs_same layout s root x e) ∙ h)))

  other_row : (s : Root) → same_path s.path root.path ≡ false → (xs : List Path) → filter_map seen (filter (belongs_to layout s) xs) ≡ []
  other_row s e [] = refl
  other_row s e (x ∷ xs) = by (belongs_to layout s x) refl (other_row s e xs) where
    apart : belongs_to layout s x ≡ true → belongs_to layout root x ≡ false
    apart h =
        let (t, is, same) = belongs layout s x h in
        ap (λ o. option_map_or (λ (r : Root). same_path r.path root.path) o false) is.is ∙ ap (λ q. same_path q root.path) same ∙ e

    by : (b : Bool) → belongs_to layout s x ≡ b → filter_map seen (filter (belongs_to layout s) xs) ≡ [] → filter_map seen (cond b (x ∷ filter (belongs_to layout s) xs) (filter (belongs_to layout s) xs)) ≡ []
    by true h more = (λ i. cons_option (not_own x (apart h) i) (more i))
    by false h more = more

  row_of : (s : Root) (xs : List Path) → filter_map seen (filter (belongs_to layout s) xs) ≡ cond (same_path s.path root.path) (filter_map seen xs) []
  row_of s xs = by (same_path s.path root.path) refl where
    by : (b : Bool) → same_path s.path root.path ≡ b → filter_map seen (filter (belongs_to layout s) xs) ≡ cond b (filter_map seen xs) []
    by true e = same_row s ((same_path-Decides s.path root.path).0 e) xs
    by false e = other_row s e xs

  -- a row that comes again adds nothing
  repeated : (o : Option Path) (xs : List Path) (roots : List Root) → fold first_path o (flat_map (λ (s : Root). cond (same_path s.path root.path) xs []) roots) ≡ cond (list_any (λ (s : Root). same_path s.path root.path) roots) (fold first_path o xs) o
  repeated o xs [] = refl
  repeated o xs (s ∷ roots) =
      fold_append first_path o (cond (same_path s.path root.path) xs []) (flat_map (λ (r : Root). cond (same_path r.path root.path) xs []) roots)
      ∙ by (same_path s.path root.path) (λ first. repeated first xs roots)
    where
      at : (b : Bool) → cond b (fold first_path (fold first_path o xs) xs) (fold first_path o xs) ≡ fold first_path o xs
      at true = absorbed o xs
      at false = refl

      by : (b : Bool) → ((first : Option Path) → fold first_path first (flat_map (λ (r : Root). cond (same_path r.path root.path) xs []) roots) ≡ cond (list_any (λ (r : Root). same_path r.path root.path) roots) (fold first_path first xs) first)
          → fold first_path (fold first_path o (cond b xs [])) (flat_map (λ (r : Root). cond (same_path r.path root.path) xs []) roots) ≡ cond (b || list_any (λ (r : Root). same_path r.path root.path) roots) (fold first_path o xs) o
      by true more = more (fold first_path o xs) ∙ at (list_any (λ (r : Root). same_path r.path root.path) roots)
      by false more = more o

  abbrev plain : Path → Bool
  plain d = not (is_collapsed layout d)

  plain_is : (b : Bool) → not b ≡ true → b ≡ false
  plain_is true h = cc
  plain_is false h = refl

  directories_same : (ds : List Path) → filter_map seen (filter plain ds) ≡ filter_map (λ x. own_path layout root (wrong_name_at layout p (directory_path layout) x)) (filter plain ds)
  directories_same ds = filter_map-same plain seen (λ x. own_path layout root (wrong_name_at layout p (directory_path layout) x)) (λ x h. one_path layout root p x (constant_inflected layout.inflector (last_part x) x) (directory_path layout x) (directory_told layout x (plain_is (is_collapsed layout x) h))) ds

  directories_first : (o : Option Path) (tree : Tree) → list_any (λ (s : Root). same_path s.path root.path) layout.roots ≡ true → fold first_path o (filter_map picked (directories_told layout tree)) ≡ fold first_path o (filter_map (λ x. own_path layout root (wrong_name_at layout p (directory_path layout) x)) (filter plain (counting_directories layout tree)))
  directories_first o tree there =
      let ds = filter plain (counting_directories layout tree) in
      ap (fold first_path o) (filter_map-twice picked (told_at (directory_path layout)) (in_root_order layout ds) ∙ filter_map-flat seen (λ s. filter (belongs_to layout s) ds) layout.roots ∙ (λ i. flat_map (λ s. row_of s ds i) layout.roots))
      ∙ repeated o (filter_map seen ds) layout.roots
      ∙ ap (λ b. cond b (fold first_path o (filter_map seen ds)) o) there
      ∙ ap (fold first_path o) (directories_same (counting_directories layout tree))

  paths_append : (es fs : List Expecting) → paths_of (all_expecting p (es ++ fs)) ≡ paths_of (all_expecting p es) ++ paths_of (all_expecting p fs)
  paths_append es fs = ap paths_of (filter-append (λ (e : Expecting). same_names e.names p) es fs) ∙ map-append (λ (e : Expecting). e.path) (all_expecting p es) (all_expecting p fs)

  root_same : (tree : Tree) → list_any (λ (s : Root). same_path s.path root.path) layout.roots ≡ true → row_first p (misnamed_all layout (files_told layout (keys_of tree)) (directories_told layout tree) root) ≡ root_first layout (wrong_names layout tree p) root
  root_same tree there =
      let files = files_told layout (keys_of tree) in
      let directories = directories_told layout tree in
      let ws = filter_map (wrong_name_at layout p (expected_path layout)) (visible_files layout tree) in
      let vs = filter_map (wrong_name_at layout p (directory_path layout)) (filter plain (counting_directories layout tree)) in
      let own : WrongName → Bool = λ w. belongs_to layout root w.path in
      let first = fold first_path None (filter_map (λ x. own_path layout root (wrong_name_at layout p (expected_path layout) x)) (visible_files layout tree)) in
      ap (fold first_path None) (paths_append (filter_map (misnamed layout root) files) (filter_map (misnamed layout root) directories) ∙ (λ i. chosen_all p (misnamed layout root) files i ++ chosen_all p (misnamed layout root) directories i))
      ∙ fold_append first_path None (filter_map picked files) (filter_map picked directories)
      ∙ ap (λ l. fold first_path (fold first_path None l) (filter_map picked directories)) (files_same (keys_of tree))
      ∙ directories_first first tree there
      ∙ (λ i. fold first_path (fold first_path None (sym (own_paths layout root (wrong_name_at layout p (expected_path layout)) (visible_files layout tree)) i)) (sym (own_paths layout root (wrong_name_at layout p (directory_path layout)) (filter plain (counting_directories layout tree))) i))
      ∙ sym (fold_append first_path None (map (λ w. w.path) (filter own ws)) (map (λ w. w.path) (filter own vs)))
      ∙ ap (fold first_path None) (sym (map-append (λ (w : WrongName). w.path) (filter own ws) (filter own vs)) ∙ ap (map (λ (w : WrongName). w.path)) (sym (filter-append own ws vs)))
      ∙ sym (earlier_path None (filter own (ws ++ vs)))

-- ---- all roots

module _ (layout : Layout) (tree : Tree) (p : ConstantPath) where
  abbrev row : Root → List Expecting
  row root = misnamed_all layout (files_told layout (keys_of tree)) (directories_told layout tree) root

  any_there : (before after : List Root) (r : Root) → list_any (λ (s : Root). same_path s.path r.path) (before ++ r ∷ after) ≡ true
  any_there [] after r = ap (λ b. b || list_any (λ (s : Root). same_path s.path r.path) after) ((same_path-Decides r.path r.path).1 refl)
  any_there (s ∷ before) after r = ap (λ b. same_path s.path r.path || b) (any_there before after r) ∙ by (same_path s.path r.path) where
    by : (b : Bool) → (b || true) ≡ true
    by true = refl
    by false = refl

  rows_same : (before after : List Root) → layout.roots ≡ before ++ after → map (λ r. row_first p (row r)) after ≡ map (root_first layout (wrong_names layout tree p)) after
  rows_same before [] e = refl
  rows_same before (r ∷ after) e = λ i. root_same layout r p tree (ap (list_any (λ (s : Root). same_path s.path r.path)) e ∙ any_there before after r) i ∷ rows_same (before ++ r ∷ []) after (e ∙ sym (append_assoc before (r ∷ []) after)) i

  rows_map : (roots : List Root) → map (row_first p) (map row roots) ≡ map (λ r. row_first p (row r)) roots
  rows_map [] = refl
  rows_map (r ∷ roots) = ap (λ l. row_first p (row r) ∷ l) (rows_map roots)

  -- the first of the rows is the definition's
  pub first_is : option_map (λ (f : Ranked). f.path) (first_below p 0 None (map row layout.roots)) ≡ wrong_of layout tree p
  unfolding wrong_below
  first_is =
      below_first p 0 (map row layout.roots)
      ∙ ap first_some (rows_map layout.roots ∙ rows_same [] layout.roots refl)
      ∙ sym (wrong_rows layout (wrong_names layout tree p) layout.roots)
