-- A folder that lists the files of a tree in their order mounts the tree.
use Rattle.std.specs.Prelude.{◌≡◌, ℕ, suc, ◌≤◌, ◌&&◌, ◌||◌, ◌++◌, Bool, true, false, not, nat_lt, List, [], ◌∷◌, length, map, Some, None, Result, Ok, Err, codes, if◌then◌else◌}
use Rattle.std.specs.List.{AllByRecursion}
use Rattle.std.specs.Str.{bytes_eq}
use Rattle.std.proofs.Common.{refl, sym, ap, ◌∙◌, subst, arith, ltb-true, append_assoc, append-nil, length-append}
use Rattle.std.proofs.lemmas.Slice.Eq.{bytes_eq-Decides}
use Rattle.std.proofs.lemmas.List.Sums.{sum_by-append}
use Rattle.zw_def.specs.Text.{Text}
use Rattle.zw_def.specs.Path.{Path, path_text, precedes}
use Rattle.zw_def.specs.Tree.{File, Tree, is_in_the_way, admits, with_file, size_of}
use Rattle.zw_def.specs.Folder.{Listing, bytes_at}
use Rattle.zw_def.proofs.PathOrderLemmas.{precedes_back, same_behind}
use Rattle.zw_def_session.specs.Answers.{max_files, max_file, max_tree}
use Rattle.zw_def_session.specs.Opening.{Refusal, listed_path, past_tree_limit, unless_past, mounted_file, mounted_path, mounted_from, max_listed, past_limit, listed_tree}
use Rattle.zw_fresh.specs.Mountable.{IsListed, StandsBefore, InOrder, MountableIsMounted}
use Rattle.zw_fresh.proofs.NameLemmas.{apart}
use Rattle.zw_fresh.proofs.OptionLemmas.{some_same}

-- ---- lists

all_with : {X : Type 0} {P Q R : X → Type 0} → ((x : X) → P x → Q x → R x) → (xs : List X) → AllByRecursion P xs
    → AllByRecursion Q xs → AllByRecursion R xs
all_with f [] p q = tt
all_with f (x ∷ xs) p q = (f x p.0 q.0, all_with f xs p.1 q.1)

all_none : {X : Type 0} (xs : List X) → AllByRecursion (λ x. Unit {0}) xs
all_none [] = tt
all_none (x ∷ xs) = (tt, all_none xs)

all_last : {X : Type 0} (P : X → Type 0) (xs : List X) (x : X) → AllByRecursion P xs → P x → AllByRecursion P (xs ++ x ∷ [])
all_last P [] x p h = (h, tt)
all_last P (y ∷ ys) x p h = (p.0, all_last P ys x p.1 h)

not_past : (m n : ℕ) → n ≤ m → nat_lt m n ≡ false
not_past m n h = by (nat_lt m n) refl
  where
    by : (b : Bool) → nat_lt m n ≡ b → b ≡ false
    by true e = let past = ltb-true m n e in absurd (omega (arith, past, h))
    by false e = refl

-- ---- the listing

abbrev text_of_path : File → Text
text_of_path f = path_text f.path

abbrev pairs : Tree → List (Text × Text)
pairs tree = map (λ f. (path_text f.path, f.text)) tree

abbrev listing : Tree → Listing
listing tree = record { files = pairs tree; place = 0 }

texts_listed : (tree : Tree) → map (λ p. p.0) (pairs tree) ≡ map text_of_path tree
texts_listed [] = refl
texts_listed (f ∷ fs) = ap (λ l. path_text f.path ∷ l) (texts_listed fs)

length_listed : (tree : Tree) → length (map text_of_path tree) ≡ length tree
length_listed [] = refl
length_listed (f ∷ fs) = ap (λ n. suc n) (length_listed fs)

-- files before one another have other texts of paths
other_text : (fixed : List Path) (f g : File) → IsListed fixed f → IsListed fixed g → StandsBefore f g
    → bytes_eq (path_text f.path) (path_text g.path) ≡ false
other_text fixed f g F G B = by (bytes_eq (path_text f.path) (path_text g.path)) refl
  where
    by : (b : Bool) → bytes_eq (path_text f.path) (path_text g.path) ≡ b → b ≡ false
    by true e =
        let same = some_same (sym F.told ∙ (ap listed_path ((bytes_eq-Decides (path_text f.path) (path_text g.path)).0 e) ∙ G.told)) in
        absurd (apart (sym B.earlier ∙ (ap (λ p. precedes p g.path) same ∙ (ap (precedes g.path) (sym same) ∙ precedes_back f.path g.path B.earlier))))
    by false e = refl

bytes_listed : (fixed : List Path) (tree : Tree) → AllByRecursion (IsListed fixed) tree → InOrder tree
    → AllByRecursion (λ f. bytes_at (path_text f.path) (pairs tree) ≡ Some f.text) tree
bytes_listed fixed [] h o = tt
bytes_listed fixed (f ∷ fs) h o = (
  ap (λ b. if b then Some f.text else bytes_at (path_text f.path) (pairs fs)) ((bytes_eq-Decides (path_text f.path) (path_text f.path)).1 refl),
  all_with {Q = λ g. bytes_at (path_text g.path) (pairs fs) ≡ Some g.text} (λ g differs found.
      ap (λ b. if b then Some f.text else bytes_at (path_text g.path) (pairs fs)) differs ∙ found) fs
      (all_with {Q = StandsBefore f} (λ g listed before. other_text fixed f g h.0 listed before) fs h.1 o.0)
      (bytes_listed fixed fs h.1 o.1),
)

-- ---- one file more

last_put : (earlier : Tree) (g : File) → AllByRecursion (λ f. StandsBefore f g) earlier
    → with_file earlier g.path g.text ≡ earlier ++ g ∷ []
last_put [] g h = refl
last_put (f ∷ fs) g h =
    ap (λ b. if b then g ∷ f ∷ fs else f ∷ with_file fs g.path g.text) (precedes_back f.path g.path h.0.earlier)
    ∙ ap (λ l. f ∷ l) (last_put fs g h.1)

none_in_the_way : (earlier : Tree) (g : File) → AllByRecursion (λ f. StandsBefore f g) earlier
    → is_in_the_way earlier g.path ≡ false
none_in_the_way [] g h = refl
none_in_the_way (f ∷ fs) g h = λ k.
    ((same_behind g.path f.path h.0.earlier k || h.0.below k) || h.0.above k) || none_in_the_way fs g h.1 k

within_limits : (tree : Tree) (path : Path) (text : Text) → length tree ≤ max_files → length text ≤ max_file
    → size_of tree ≤ max_tree → past_tree_limit tree path text ≡ None
within_limits tree path text a b c = λ k.
    if not_past max_files (length tree) a k then Some (codes "files")
    else if not_past max_file (length text) b k then Some (codes "file " ++ path_text path)
    else if not_past max_tree (size_of tree) c k then Some (codes "tree")
    else None

-- ---- the mount

module _ (fixed : List Path) (folder : Listing) where
  mounts : (rest earlier : Tree) → AllByRecursion (λ f. bytes_at (path_text f.path) folder.files ≡ Some f.text) rest
      → AllByRecursion (IsListed fixed) rest → InOrder rest
      → AllByRecursion (λ g. AllByRecursion (λ f. StandsBefore f g) earlier) rest
      → length (earlier ++ rest) ≤ max_files → size_of (earlier ++ rest) ≤ max_tree
      → mounted_from fixed folder (map text_of_path rest) earlier ≡ Ok (earlier ++ rest)
  mounts [] earlier found listed order before count size = ap Ok (sym (append-nil earlier))
  mounts (g ∷ rest) earlier found listed order before count size =
      ap (mounted_path fixed folder more earlier (path_text g.path)) listed.0.told
      ∙ (ap (λ b. if b then mounted_file more earlier g.path (bytes_at (path_text g.path) folder.files) else more earlier) admitted
      ∙ (ap (mounted_file more earlier g.path) found.0
      ∙ (ap (λ t. unless_past t (past_tree_limit t g.path g.text) more) (last_put earlier g before.0)
      ∙ (ap (λ o. unless_past (earlier ++ g ∷ []) o more) (within_limits (earlier ++ g ∷ []) g.path g.text count_now listed.0.small size_now)
      ∙ (mounts rest (earlier ++ g ∷ []) found.1 listed.1 order.1 later (subst (λ t. length t ≤ max_files) (sym joined) count)
      (subst (λ t. size_of t ≤ max_tree) (sym joined) size) ∙ ap Ok joined)))))
    where
      more : Tree → Result Tree Refusal
      more = mounted_from fixed folder (map text_of_path rest)

      joined : (earlier ++ g ∷ []) ++ rest ≡ earlier ++ g ∷ rest
      joined = append_assoc earlier (g ∷ []) rest

      admitted : admits fixed earlier g.path ≡ true
      admitted = λ k. listed.0.ruby k && not (listed.0.free k) && not (none_in_the_way earlier g before.0 k)

      later : AllByRecursion (λ h. AllByRecursion (λ f. StandsBefore f h) (earlier ++ g ∷ [])) rest
      later = all_with {Q = StandsBefore g} (λ h all one. all_last (λ f. StandsBefore f h) earlier g all one) rest before.1 order.0

      count_now : length (earlier ++ g ∷ []) ≤ max_files
      count_now =
          let whole : length ((earlier ++ g ∷ []) ++ rest) ≤ max_files = subst (λ t. length t ≤ max_files) (sym joined) count in
          let parts = length-append (earlier ++ g ∷ []) rest in
          omega (arith, whole, parts)

      size_now : size_of (earlier ++ g ∷ []) ≤ max_tree
      size_now =
          let whole : size_of ((earlier ++ g ∷ []) ++ rest) ≤ max_tree = subst (λ t. size_of t ≤ max_tree) (sym joined) size in
          let parts = sum_by-append (λ f. length f.text) (earlier ++ g ∷ []) rest in
          omega (arith, whole, parts)

pub mountable_is_mounted : MountableIsMounted
mountable_is_mounted fixed tree M = (listing tree, by)
  where
    few : nat_lt max_listed (length (map text_of_path tree)) ≡ false
    few = not_past max_listed (length (map text_of_path tree))
        (let n = length_listed tree in let few = M.count in omega (arith, n, few))

    by : listed_tree fixed (listing tree) ≡ Ok tree
    by = ap (λ texts. if nat_lt max_listed (length texts) then Err (past_limit (codes "listing"))
        else mounted_from fixed (listing tree) texts []) (texts_listed tree)
        ∙ (ap (λ b. if b then Err (past_limit (codes "listing")) else mounted_from fixed (listing tree) (map text_of_path tree) []) few
        ∙ mounts fixed (listing tree) tree [] (bytes_listed fixed tree M.files M.order) M.files M.order (all_none tree) M.count M.size)
