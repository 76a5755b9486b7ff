-- A walk from file to file: what is still to come, step by step.
use Rattle.std.proofs.Common.{◌≡◌, ℕ, ◌+◌, ◌-◌, ◌*◌, ◌&&◌, not, cond, eqb, leb, suc, ◌<◌, Bool, true, false, List, [], ◌∷◌, ◌++◌, length, get_or, take, map, zero, add-one, refl, ap, sym, ◌∙◌, subst, arith, append_assoc, append-nil, length-append, Some, None, Result, Ok, Err, OnOk, OnErr}
use Rattle.std.specs.List.{All, list_all}
use Rattle.std.proofs.lemmas.Bool.{and_parts}
use Rattle.std.proofs.lemmas.List.{map-append, length-map, get_or-map}
use Rattle.std.proofs.lemmas.List.Splits.{slice_split_none, slice_split_at}
use Rattle.std.proofs.lemmas.List.Elements.{All-nil, All-cons}
use Rattle.zw_def.specs.Text.{Text, pieces, joined}
use Rattle.zw_def.specs.Path.{Path, is_component, is_component_byte, is_dots, path_of, path_text, precedes, same_path}
use Rattle.zw_def.specs.Tree.{File, Tree, with_file}
use Rattle.zw_def.specs.Visible.{keys_of}
use Rattle.zw_def.proofs.PieceLemmas.{joined_more}
use Rattle.zw_path.specs.Shape.{IsPath}
use Rattle.zw_tree.specs.Row.{Row, file, folder, rows_of, below, told, told_rows, count}
use Rattle.zw_tree.specs.Strict.{ArePaths}
use Rattle.zw_tree.specs.Edit.{without_file, tree_with}
use Rattle.zw_tree.specs.Falls.{count_rows-of}
use Rattle.zw_tree.specs.Walk.{to_come, count_all}
use Rattle.zw_tree.proofs.RowLemmas.{told_rows-of}

-- ---- a path's text tells the path

no_slash : (b : ℕ) → is_component_byte b ≡ true → eqb b 47 ≡ false
no_slash b h = by (eqb b 47) (leb 32 b) (not (eqb b 127)) h where
  by : (e f g : Bool) → (not e && f && g) ≡ true → e ≡ false
  by false f g h = refl
  by true f g h = cc

no_slashes : (text : Text) → list_all is_component_byte text ≡ true → All (λ b. eqb b 47 ≡ false) text
no_slashes [] h = All-nil (λ b. eqb b 47 ≡ false)
no_slashes (b ∷ bs) h =
    let parts = and_parts (is_component_byte b) (list_all is_component_byte bs) h in
    All-cons (λ x. eqb x 47 ≡ false) b bs (no_slash b parts.0) (no_slashes bs parts.1)

bytes_of : (text : Text) → is_component text ≡ true → list_all is_component_byte text ≡ true
bytes_of text h = by (leb 1 (length text)) (leb (length text) 255) (not (is_dots text)) (list_all is_component_byte text) h where
  by : (a b c d : Bool) → (a && b && c && d) ≡ true → d ≡ true
  by true true true d h = h
  by true true false d h = cc
  by true false c d h = cc
  by false b c d h = cc

pieces_joined : (p : Text) (ps : Path) → list_all is_component (p ∷ ps) ≡ true → pieces 47 (joined 47 (p ∷ ps)) ≡ p ∷ ps
pieces_joined p [] h = slice_split_none (λ b. eqb b 47) p (no_slashes p (bytes_of p (and_parts (is_component p) true h).0))
pieces_joined p (q ∷ qs) h =
    let parts = and_parts (is_component p) (list_all is_component (q ∷ qs)) h in
    slice_split_at (λ b. eqb b 47) p 47 (joined 47 (q ∷ qs)) (no_slashes p (bytes_of p parts.0)) refl ∙ ap (λ ps. p ∷ ps) (pieces_joined q qs parts.1)

pub path_read : (p q : Path) → IsPath p → path_of (path_text p) ≡ Some q → q ≡ p
path_read [] q whole read = absurd (omega (arith, whole.nonempty))
path_read (p ∷ ps) q whole read =
    let same = pieces_joined p ps whole.whole in
    let told : path_of (path_text (p ∷ ps)) ≡ Some (p ∷ ps) =
    (λ i. cond (list_all is_component (same i)) (Some (same i)) None) ∙ ap (λ b. cond b (Some (p ∷ ps)) None) whole.whole in
    let both : Some q ≡ Some (p ∷ ps) = sym read ∙ told in
    cc

-- one component more, after a slash
pub joined_next : {A : Type 0} (f : A → Text) (all : List A) (place : ℕ) (d : A) → 0 < place → place < length all → (text : Text)
    → text ≡ path_text (take place (map f all)) → (text ++ 47 ∷ []) ++ f (get_or all place d) ≡ path_text (take (place + 1) (map f all))
joined_next f all zero d some within text is = absurd (omega (arith, some))
joined_next f all (suc n) d some within text is =
    let at = sym (get_or-map f all (suc n) d (f (get_or all (suc n) d)) within) in
    append_assoc text (47 ∷ []) (f (get_or all (suc n) d))
    ∙ ap (λ t. t ++ 47 ∷ f (get_or all (suc n) d)) (is ∙ ap (λ k. path_text (take k (map f all))) (sym (add-one n)))
    ∙ sym (joined_more 47 n (map f all) (f (get_or all (suc n) d)) (omega (arith, within, length-map all f)) (at ∙ ap (λ k. get_or (map f all) k (f (get_or all (suc n) d))) (sym (add-one n))))
    ∙ ap (λ k. path_text (take (k + 1) (map f all))) (add-one n)

-- ---- the steps of the walk

keys-append : (xs ys : Tree) → keys_of (xs ++ ys) ≡ keys_of xs ++ keys_of ys
keys-append xs ys = map-append (λ (f : File). f.path) xs ys

keys-below : (name : Text) (tree : Tree) → keys_of (map (below name) tree) ≡ map (λ p. name ∷ p) (keys_of tree)
keys-below name [] = refl
keys-below name (f ∷ fs) = ap (λ ps. (name ∷ f.path) ∷ ps) (keys-below name fs)

-- a file
pub to_come-file : (above : List (List Row)) (names : Path) (name text : Text) (rest : List Row) → length names ≡ length above
    → to_come above names (record { name = name; node = file text } ∷ rest) ≡ (names ++ name ∷ []) ∷ to_come above names rest
to_come-file [] [] name text rest len = refl
to_come-file [] (n ∷ names) name text rest len = absurd (omega (arith, len))
to_come-file (rows ∷ above) [] name text rest len = absurd (omega (arith, len))
to_come-file (rows ∷ above) (n ∷ names) name text rest len =
    ap (λ ps. map (λ p. n ∷ p) ps ++ keys_of (told rows)) (to_come-file above names name text rest (omega (arith, len)))

-- down into a directory
pub to_come-down : (above : List (List Row)) (names : Path) (name : Text) (inside : List Row) (rest : List Row) → length names ≡ length above
    → to_come above names (record { name = name; node = folder (rows_of inside) } ∷ rest) ≡ to_come (above ++ rest ∷ []) (names ++ name ∷ []) inside
to_come-down [] [] name inside rest len =
    keys-append (map (below name) (told_rows (rows_of inside))) (told rest)
    ∙ ap (λ ps. ps ++ keys_of (told rest)) (keys-below name (told_rows (rows_of inside)) ∙ ap (λ t. map (λ p. name ∷ p) (keys_of t)) (told_rows-of inside))
to_come-down [] (n ∷ names) name inside rest len = absurd (omega (arith, len))
to_come-down (rows ∷ above) [] name inside rest len = absurd (omega (arith, len))
to_come-down (rows ∷ above) (n ∷ names) name inside rest len =
    ap (λ ps. map (λ p. n ∷ p) ps ++ keys_of (told rows)) (to_come-down above names name inside rest (omega (arith, len)))

-- back to the directory above
pub to_come-up : (above : List (List Row)) (names : Path) (name : Text) (rest : List Row) → length names ≡ length above
    → to_come (above ++ rest ∷ []) (names ++ name ∷ []) [] ≡ to_come above names rest
to_come-up [] [] name rest len = refl
to_come-up [] (n ∷ names) name rest len = absurd (omega (arith, len))
to_come-up (rows ∷ above) [] name rest len = absurd (omega (arith, len))
to_come-up (rows ∷ above) (n ∷ names) name rest len =
    ap (λ ps. map (λ p. n ∷ p) ps ++ keys_of (told rows)) (to_come-up above names name rest (omega (arith, len)))

-- ---- what is left grows smaller

pub count_all-more : (above : List (List Row)) (rows : List Row) → count_all (above ++ rows ∷ []) ≡ count_all above + count rows
count_all-more [] rows = omega arith
count_all-more (x ∷ above) rows = omega (arith, count_all-more above rows)

pub count-folder : (name : Text) (inside rest : List Row) → count (record { name = name; node = folder (rows_of inside) } ∷ rest) ≡ suc (count inside + count rest)
count-folder name inside rest = omega (arith, count_rows-of inside)

-- ---- all paths of the tree are paths

pub next_is_path : (front : List Path) (p : Path) (back : List Path) (tree : Tree) → ArePaths tree → front ++ p ∷ back ≡ keys_of tree → IsPath p
next_is_path [] p back [] all is = (let h : p ∷ back ≡ [] = is in cc)
next_is_path [] p back (f ∷ fs) all is = (let h : p ∷ back ≡ f.path ∷ keys_of fs = is in let same : p ≡ f.path = cc in subst IsPath (sym same) all.0)
next_is_path (x ∷ front) p back [] all is = (let h : x ∷ front ++ p ∷ back ≡ [] = is in cc)
next_is_path (x ∷ front) p back (f ∷ fs) all is = (let h : x ∷ (front ++ p ∷ back) ≡ f.path ∷ keys_of fs = is in let rest : front ++ p ∷ back ≡ keys_of fs = cc in next_is_path front p back fs all.1 rest)

-- ---- paths after an edit

put_paths : (tree : Tree) (path : Path) (text : Text) → IsPath path → ArePaths tree → ArePaths (with_file tree path text)
put_paths [] path text is all = (is, tt)
put_paths (f ∷ fs) path text is all = by (precedes path f.path) (put_paths fs path text is all.1) where
  by : (b : Bool) → ArePaths (with_file fs path text) → ArePaths (cond b (record { path = path; text = text } ∷ f ∷ fs) (f ∷ with_file fs path text))
  by true more = (is, all)
  by false more = (all.0, more)

pub paths_without : (tree : Tree) (path : Path) → ArePaths tree → ArePaths (without_file tree path)
paths_without [] path all = tt
paths_without (f ∷ fs) path all = by (same_path f.path path) (paths_without fs path all.1) where
  by : (b : Bool) → ArePaths (without_file fs path) → ArePaths (cond (not b) (f ∷ without_file fs path) (without_file fs path))
  by true more = more
  by false more = (all.0, more)

pub paths_with : (tree : Tree) (path : Path) (text : Text) → IsPath path → ArePaths tree → ArePaths (tree_with tree path text)
paths_with tree path text is all = put_paths (without_file tree path) path text is (paths_without tree path all)

-- after an edit that may be refused
pub paths_after : {X E : Type 0} (r : Result X E) (rows old : List Row) (tree : Tree) → OnOk r (told rows ≡ tree) → OnErr r (rows ≡ old) → ArePaths tree → ArePaths (told old) → ArePaths (told rows)
paths_after (Ok x) rows old tree ok err new all = subst ArePaths (sym ok) new
paths_after (Err e) rows old tree ok err new all = subst (λ rs. ArePaths (told rs)) (sym err) all

-- ---- the same of what the code keeps: f tells a name, and g the rows that are left of a directory

-- all but the last
record Split {A : Type 0} (xs : List A) : Type 0 where
  pub front : List A
  pub last : A
  pub is : xs ≡ front ++ last ∷ []

split : {A : Type 0} (xs : List A) → 0 < length xs → Split xs
split [] some = absurd (omega (arith, some))
split (x ∷ []) some = record { front = []; last = x; is = refl }
split (x ∷ y ∷ xs) some =
    let more = split (y ∷ xs) (omega arith) in
    record { front = x ∷ more.front; last = more.last; is = ap (λ ys. x ∷ ys) more.is }

taken : {A : Type 0} (xs : List A) (x : A) → take (length xs) (xs ++ x ∷ []) ≡ xs
taken [] x = refl
taken (y ∷ xs) x = ap (λ ys. y ∷ ys) (taken xs x)

popped : {A : Type 0} (xs : List A) (x : A) (m : ℕ) → m ≡ length (xs ++ x ∷ []) → take (m - 1) (xs ++ x ∷ []) ≡ xs
popped xs x m is =
    let n : m - 1 ≡ length xs = omega (arith, is, length-append xs (x ∷ [])) in
    ap (λ k. take k (xs ++ x ∷ [])) n ∙ taken xs x

module _ {A B : Type 0} (f : A → Text) (g : B → List Row) where
  abbrev coming : List B → List A → List Row → List Path
  coming above names here = to_come (map g above) (map f names) here

  levels : (above : List B) (names : List A) → length names ≡ length above → length (map f names) ≡ length (map g above)
  levels above names len = length-map names f ∙ len ∙ sym (length-map above g)

  pub walk_done : (paths : List Path) (above : List B) (names : List A) (here : List Row) (all : List Path) → length here ≡ 0 → length above ≡ 0 → length names ≡ length above → paths ++ coming above names here ≡ all → paths ≡ all
  walk_done paths [] [] [] all no_row no_level len found = sym (append-nil paths) ∙ found
  walk_done paths [] [] (r ∷ here) all no_row no_level len found = absurd (omega (arith, no_row))
  walk_done paths [] (n ∷ names) here all no_row no_level len found = absurd (omega (arith, len))
  walk_done paths (b ∷ above) names here all no_row no_level len found = absurd (omega (arith, no_level))

  -- up
  module _ (above left : List B) (rest : B) (names fewer : List A) (here : List Row) (m : ℕ) (no_row : length here ≡ 0) (level : length names ≡ length above) (is : above ≡ left ++ rest ∷ []) (size : m ≡ length names) (less : fewer ≡ take (m - 1) names) where
    count_of : length above ≡ length left + 1
    count_of = omega (arith, ap length is, length-append left (rest ∷ []))

    parts : Split names
    parts = split names (omega (arith, level, count_of))

    are : fewer ≡ parts.front
    are = less ∙ ap (λ ns. take (m - 1) ns) parts.is ∙ popped parts.front parts.last m (size ∙ ap length parts.is)

    level_up : length parts.front ≡ length left
    level_up = omega (arith, level, count_of, ap length parts.is, length-append parts.front (parts.last ∷ []))

    pub walk_up-level : length fewer ≡ length left
    walk_up-level = ap length are ∙ level_up

    nothing : (rows : List Row) → length rows ≡ 0 → rows ≡ []
    nothing [] none = refl
    nothing (r ∷ rows) none = absurd (omega (arith, none))

    pub walk_up : (paths all : List Path) → paths ++ coming above names here ≡ all → paths ++ coming left fewer (g rest) ≡ all
    walk_up paths all found =
        (λ i. paths ++ to_come (map g left) (map f (are i)) (g rest))
        ∙ ap (λ ps. paths ++ ps) (sym (to_come-up (map g left) (map f parts.front) (f parts.last) (g rest) (levels left parts.front level_up)))
        ∙ (λ i. paths ++ to_come (sym (map-append g left (rest ∷ [])) i) (sym (map-append f parts.front (parts.last ∷ [])) i) (sym (nothing here no_row) i))
        ∙ (λ i. paths ++ to_come (map g (sym is i)) (map f (sym parts.is i)) here)
        ∙ found

    pub walk_up-falls : 2 * (count (g rest) + count_all (map g left)) + length left < 2 * (count here + count_all (map g above)) + length above
    walk_up-falls = omega (arith, count_of, ap (λ bs. count_all (map g bs)) is, ap count_all (map-append g left (rest ∷ [])), count_all-more (map g left) (g rest))

  -- a file
  module _ (above : List B) (names more : List A) (name : A) (row : Text) (text : Text) (here rest : List Row) (level : length names ≡ length above) (is : here ≡ record { name = row; node = file text } ∷ rest) (named : f name ≡ row) (longer : more ≡ names ++ name ∷ []) (paths all : List Path) (found : paths ++ coming above names here ≡ all) where
    path_is : map f more ≡ map f names ++ row ∷ []
    path_is = ap (map f) longer ∙ map-append f names (name ∷ []) ∙ ap (λ c. map f names ++ c ∷ []) named

    next : paths ++ map f more ∷ coming above names rest ≡ all
    next =
        ap (λ p. paths ++ p ∷ coming above names rest) path_is
        ∙ ap (λ ps. paths ++ ps) (sym (to_come-file (map g above) (map f names) row text rest (levels above names level)))
        ∙ ap (λ rows. paths ++ coming above names rows) (sym is)
        ∙ found

    pub walk_path : (tree : Tree) → ArePaths tree → all ≡ keys_of tree → IsPath (map f more)
    walk_path tree are told = next_is_path paths (map f more) (coming above names rest) tree are (next ∙ told)

    module _ (fewer : List A) (m : ℕ) (size : m ≡ length more) (less : fewer ≡ take (m - 1) more) where
      back : fewer ≡ names
      back = less ∙ ap (λ ns. take (m - 1) ns) longer ∙ popped names name m (size ∙ ap length longer)

      pub walk_file-level : length fewer ≡ length above
      walk_file-level = ap length back ∙ level

      pub walk_file : (paths' : List Path) → paths' ≡ paths ++ map f more ∷ [] → paths' ++ coming above fewer rest ≡ all
      walk_file paths' pushed =
          (λ i. pushed i ++ coming above (back i) rest) ∙ append_assoc paths (map f more ∷ []) (coming above names rest) ∙ next

    pub walk_file-falls : 2 * (count rest + count_all (map g above)) + length above < 2 * (count here + count_all (map g above)) + length above
    walk_file-falls = omega (arith, ap count is)

  -- down
  module _ (above deeper : List B) (names more : List A) (name : A) (row : Text) (inside here : List Row) (rest : B) (level : length names ≡ length above) (is : here ≡ record { name = row; node = folder (rows_of inside) } ∷ g rest) (named : f name ≡ row) (longer : more ≡ names ++ name ∷ []) (kept : deeper ≡ above ++ rest ∷ []) where
    pub walk_down-level : length more ≡ length deeper
    walk_down-level = omega (arith, level, ap length longer, ap length kept, length-append names (name ∷ []), length-append above (rest ∷ []))

    pub walk_down : (paths all : List Path) → paths ++ coming above names here ≡ all → paths ++ coming deeper more inside ≡ all
    walk_down paths all found =
        (λ i. paths ++ to_come (map g (kept i)) (map f (longer i)) inside)
        ∙ (λ i. paths ++ to_come (map-append g above (rest ∷ []) i) (map-append f names (name ∷ []) i) inside)
        ∙ ap (λ c. paths ++ to_come (map g above ++ g rest ∷ []) (map f names ++ c ∷ []) inside) named
        ∙ ap (λ ps. paths ++ ps) (sym (to_come-down (map g above) (map f names) row inside (g rest) (levels above names level)))
        ∙ ap (λ rows. paths ++ coming above names rows) (sym is)
        ∙ found

    pub walk_down-falls : 2 * (count inside + count_all (map g deeper)) + length deeper < 2 * (count here + count_all (map g above)) + length above
    walk_down-falls = omega (arith, ap count is, count-folder row inside (g rest), ap length kept, length-append above (rest ∷ []), ap (λ bs. count_all (map g bs)) kept, ap count_all (map-append g above (rest ∷ [])), count_all-more (map g above) (g rest))
