-- The directories above files in path order, each once.
use Rattle.std.proofs.Common.{◌≡◌, ◌⊎◌, inl, inr, ℕ, zero, suc, ◌+◌, ◌-◌, ◌<◌, ◌≤◌, Bool, true, false, cond, List, [], ◌∷◌, ◌++◌, length, take, refl, ap, sym, ◌∙◌, subst, arith, append_assoc, append-nil, length-take-le}
use Rattle.std.specs.List.{AllByRecursion, list_any, fold, flat_map}
use Rattle.std.proofs.lemmas.Bool.{cases_lt, false_from_ne_true}
use Rattle.std.proofs.lemmas.List.{take_all}
use Rattle.std.specs.Str.{bytes_eq}
use Rattle.zw_lemmas.proofs.TextLemmas.{same_text}
use Rattle.zw_def.specs.Path.{Path, same_path, is_below}
use Rattle.zw_def.specs.Nesting.{proper_beginnings}
use Rattle.zw_def.specs.Visible.{with_new, directories_above}
use Rattle.zw_def.proofs.PathLemmas.{same_path-Decides}
use Rattle.zw_scan.specs.Among.{Among, Rising}
use Rattle.zw_scan.specs.Directories.{shared, new_above, all_above}
use Rattle.zw_scan.proofs.AmongLemmas.{among_left, among_right, among_parts, all_at, all_append, all_weaker, any_among, among_any}
use Rattle.zw_scan.proofs.BeginningLemmas.{Before, before_trans, before_self, below_after, below_shorter, below_take, take_below, shared_take, new_after, run, run_split, beginnings-run, new_above-run, take_less, shared_short, run_before, AllAfter, after_run, rising_run, among_run, run_among}

-- paths in path order, none below another
abbrev pub Apart : Path → Path → Type 0
Apart f g = Before f g × (is_below g f ≡ false)

abbrev pub Spread : List Path → Type 0
Spread = Rising Apart

abbrev pub Follow : Path → List Path → Type 0
Follow previous files = AllByRecursion (Before previous) files

follow : (f : Path) (fs : List Path) → AllByRecursion (Apart f) fs → Follow f fs
follow f fs all = all_weaker (Apart f) (Before f) (λ g a. a.0) fs all

-- ---- they rise

within_run : (previous f : Path) → 0 < length f - 1 - shared previous f → 1 + shared previous f + (length f - 1 - shared previous f) ≤ length f
within_run previous f some = omega (arith, some)

first_after : (p previous f : Path) → Before p previous ⊎ (p ≡ previous) → Before previous f → 0 < length f - 1 - shared previous f → Before p (take (1 + shared previous f) f)
first_after p previous f (inl h) before some = before_trans p previous (take (1 + shared previous f) f) h (new_after previous f (1 + shared previous f) before (omega arith) (omega (arith, some)))
first_after p previous f (inr e) before some = subst (λ q. Before q (take (1 + shared previous f) f)) (sym e) (new_after previous f (1 + shared previous f) before (omega arith) (omega (arith, some)))

reaches : (p previous f : Path) → Before p previous ⊎ (p ≡ previous) → Before previous f → Before p f
reaches p previous f (inl h) before = before_trans p previous f h before
reaches p previous f (inr e) before = subst (λ q. Before q f) (sym e) before

pub after_all : (p previous : Path) (files : List Path) → Before p previous ⊎ (p ≡ previous) → Follow previous files → Spread files → AllAfter p (all_above previous files)
after_all p previous [] at follows spread = tt
after_all p previous (f ∷ fs) at follows spread =
    all_append (Before p) (new_above previous f) (all_above f fs)
    (subst (AllAfter p) (sym (new_above-run previous f)) (after_run p f (1 + shared previous f) (length f - 1 - shared previous f) (first_after p previous f at follows.0) (within_run previous f)))
    (after_all p f fs (inl (reaches p previous f at follows.0)) (follow f fs spread.0) spread.1)

pub rising_above : (previous : Path) (files : List Path) → Follow previous files → Spread files → Rising Before (all_above previous files)
rising_above previous [] follows spread = tt
rising_above previous (f ∷ fs) follows spread =
    subst (λ ps. Rising Before (ps ++ all_above f fs)) (sym (new_above-run previous f))
    (rising_run f (1 + shared previous f) (length f - 1 - shared previous f) (all_above f fs) (within_run previous f)
    (λ j lt. after_all (take j f) f fs (inl (below_after f (take j f) (take_below f j lt))) (follow f fs spread.0) spread.1)
    (rising_above f fs (follow f fs spread.0) spread.1))

-- ---- they are those above the files that do not begin the path before

abbrev pub Begins : Path → Path → Type 0
Begins d p = take (length d) p ≡ d

new_has : (d previous f : Path) → is_below f d ≡ true → Among d (new_above previous f) ⊎ Begins d previous
new_has d previous f below = by (cases_lt (shared previous f) (length d)) where
  by : (shared previous f < length d) ⊎ (length d ≤ shared previous f) → Among d (new_above previous f) ⊎ Begins d previous
  by (inl lt) =
      let short = below_shorter f d below in
      inl (subst (Among d) (sym (new_above-run previous f)) (subst (λ x. Among x (run f (1 + shared previous f) (length f - 1 - shared previous f))) (below_take f d below) (among_run f (1 + shared previous f) (length f - 1 - shared previous f) (length d) (omega (arith, lt)) (omega (arith, lt, short)))))
  by (inr le) = inr (shared_take previous f (length d) le ∙ below_take f d below)

-- what begins a path is above it, or the path itself
pub begins_below : (d f : Path) → Begins d f → (is_below f d ≡ true) ⊎ (d ≡ f)
begins_below d f begins = by (cases_lt (length d) (length f)) where
  by : (length d < length f) ⊎ (length f ≤ length d) → (is_below f d ≡ true) ⊎ (d ≡ f)
  by (inl lt) = inl (ap (is_below f) (sym begins) ∙ take_below f (length d) lt)
  by (inr le) = inr (sym begins ∙ take_all (length d) f le)

pub above_has : (d previous : Path) (files : List Path) → Spread files → (f : Path) → Among f files → is_below f d ≡ true → Among d (all_above previous files) ⊎ Begins d previous
above_has d previous [] spread f among below = absurd among
above_has d previous (g ∷ gs) spread f (inl e) below = by (new_has d previous g (ap (λ x. is_below x d) (sym e) ∙ below)) where
  by : Among d (new_above previous g) ⊎ Begins d previous → Among d (all_above previous (g ∷ gs)) ⊎ Begins d previous
  by (inl a) = inl (among_left d (new_above previous g) (all_above g gs) a)
  by (inr b) = inr b
above_has d previous (g ∷ gs) spread f (inr later) below = by (above_has d g gs spread.1 f later below) where
  here : Among d (new_above previous g) ⊎ Begins d previous → Among d (all_above previous (g ∷ gs)) ⊎ Begins d previous
  here (inl a) = inl (among_left d (new_above previous g) (all_above g gs) a)
  here (inr b) = inr b

  at : (is_below g d ≡ true) ⊎ (d ≡ g) → Among d (all_above previous (g ∷ gs)) ⊎ Begins d previous
  at (inl b) = here (new_has d previous g b)
  at (inr e) = (let bad : true ≡ false = sym below ∙ ap (is_below f) e ∙ (all_at (Apart g) f gs spread.0 later).1 in cc)

  by : Among d (all_above g gs) ⊎ Begins d g → Among d (all_above previous (g ∷ gs)) ⊎ Begins d previous
  by (inl a) = inl (among_right d (new_above previous g) (all_above g gs) a)
  by (inr b) = at (begins_below d g b)

pub above_of : (d previous : Path) (files : List Path) → Among d (all_above previous files) → (f : Path) × Among f files × (is_below f d ≡ true)
above_of d previous [] h = absurd h
above_of d previous (g ∷ gs) h = by (among_parts d (new_above previous g) (all_above g gs) h) (above_of d g gs) where
  by : Among d (new_above previous g) ⊎ Among d (all_above g gs) → (Among d (all_above g gs) → (f : Path) × Among f gs × (is_below f d ≡ true)) → (f : Path) × Among f (g ∷ gs) × (is_below f d ≡ true)
  by (inl a) more =
      let r = run_among g d (1 + shared previous g) (length g - 1 - shared previous g) (subst (Among d) (new_above-run previous g) a) in
      (g, inl refl, ap (is_below g) r.3 ∙ take_below g r.0 (omega (arith, r.1, r.2)))
  by (inr a) more = (let m = more a in (m.0, inr m.1, m.2))

-- ---- they are the directories above the files, each once

abbrev knows : List Path → Path → Bool
knows paths path = list_any (same_path path) paths

known : (d : Path) (paths : List Path) → Among d paths → knows paths d ≡ true
known d paths h = among_any (same_path d) d paths h ((same_path-Decides d d).1 refl)

unknown : (d : Path) (paths : List Path) → AllByRecursion (λ a. Before a d) paths → knows paths d ≡ false
unknown d paths all = false_from_ne_true (knows paths d) none where
  none : knows paths d ≡ true → ⊥
  none h =
      let (a, among, same) = any_among (same_path d) paths h in
      before_self d (subst (λ x. Before x d) (sym ((same_path-Decides d a).0 same)) (all_at (λ x. Before x d) a paths all among))

fold-append : (acc xs ys : List Path) → fold with_new acc (xs ++ ys) ≡ fold with_new (fold with_new acc xs) ys
fold-append acc [] ys = refl
fold-append acc (x ∷ xs) ys = fold-append (with_new acc x) xs ys

-- what is known adds nothing
fold_known : (f : Path) (acc : List Path) (k n : ℕ) → ((j : ℕ) → k ≤ j → j < k + n → knows acc (take j f) ≡ true) → fold with_new acc (run f k n) ≡ acc
fold_known f acc k zero all = refl
fold_known f acc k (suc n) all =
    ap (λ b. fold with_new (cond b acc (acc ++ take k f ∷ [])) (run f (suc k) n)) (all k (omega arith) (omega arith))
    ∙ fold_known f acc (suc k) n (λ j low high. all j (omega (arith, low)) (omega (arith, high)))

-- what stands after all that is known is added
fold_new : (f : Path) (acc : List Path) (k n : ℕ) → (0 < n → k + n ≤ length f) → (0 < n → AllByRecursion (λ a. Before a (take k f)) acc) → fold with_new acc (run f k n) ≡ acc ++ run f k n
fold_new f acc k zero within all = sym (append-nil acc)
fold_new f acc k (suc n) within all =
    let lt : k + suc n ≤ length f = within (omega arith) in
    let here = all (omega arith) in
    ap (λ b. fold with_new (cond b acc (acc ++ take k f ∷ [])) (run f (suc k) n)) (unknown (take k f) acc here)
    ∙ fold_new f (acc ++ take k f ∷ []) (suc k) n (λ some. omega (arith, lt)) (λ some. (let step = take_less f k (omega (arith, lt)) in all_append (λ a. Before a (take (suc k) f)) acc (take k f ∷ []) (all_weaker (λ a. Before a (take k f)) (λ a. Before a (take (suc k) f)) (λ a h. before_trans a (take k f) (take (suc k) f) h step) acc here) (step, tt)))
    ∙ append_assoc acc (take k f ∷ []) (run f (suc k) n)

-- a path that does not begin the next one shares less than it has
shared_less : (p f : Path) → Begins p f ⊎ (shared p f < length p)
shared_less [] f = inl (zero_of f) where
  zero_of : (f : Path) → take 0 f ≡ []
  zero_of [] = refl
  zero_of (c ∷ f) = refl
shared_less (c ∷ p) [] = inr (omega arith)
shared_less (c ∷ p) (d ∷ f) = by (bytes_eq c d) refl (shared_less p f) where
  by : (b : Bool) → bytes_eq c d ≡ b → Begins p f ⊎ (shared p f < length p) → Begins (c ∷ p) (d ∷ f) ⊎ (cond b (suc (shared p f)) 0 < suc (length p))
  by false e more = inr (omega arith)
  by true e (inl b) = inl (λ i. sym (same_text c d e) i ∷ b i)
  by true e (inr lt) = inr (omega (arith, lt))

module _ (acc : List Path) (previous f : Path) (before : Before previous f) (apart : 0 < length previous → is_below f previous ≡ false) (earlier : AllByRecursion (λ a. Before a previous) acc) (has : (d : Path) → is_below previous d ≡ true → 0 < length d → Among d acc) where
  abbrev m : ℕ
  m = shared previous f

  abbrev n : ℕ
  n = length f - 1 - shared previous f

  count : m + n ≡ length f - 1
  count = omega (arith, shared_short previous f before)

  no_begin : 0 < length previous → Begins previous f → ⊥
  no_begin some begins = by (begins_below previous f begins) where
    by : (is_below f previous ≡ true) ⊎ (previous ≡ f) → ⊥
    by (inl h) = (let bad : true ≡ false = sym h ∙ apart some in cc)
    by (inr e) = before_self f (subst (λ p. Before p f) e before)

  fewer : (j : ℕ) → 1 ≤ j → j < 1 + m → j < length previous
  fewer j low high = by (shared_less previous f) where
    at : (k : ℕ) → length previous ≡ k → Begins previous f → j < length previous
    at zero e begins = absurd (omega (arith, low, high, nothing previous e)) where
      nothing : (p : Path) → length p ≡ 0 → shared p f ≡ 0
      nothing [] h = refl
      nothing (c ∷ p) h = absurd (omega (arith, h))
    at (suc k) e begins = absurd (no_begin (omega (arith, e)) begins)

    by : Begins previous f ⊎ (shared previous f < length previous) → j < length previous
    by (inl begins) = at (length previous) refl begins
    by (inr lt) = omega (arith, lt, high)

  is_known : (j : ℕ) → 1 ≤ j → j < 1 + m → knows acc (take j f) ≡ true
  is_known j low high =
      let lt = fewer j low high in
      subst (λ d. knows acc d ≡ true) (shared_take previous f j (omega (arith, high)))
      (known (take j previous) acc (has (take j previous) (take_below previous j lt) (omega (arith, low, length-take-le j previous (omega (arith, lt))))))

  is_new : 0 < n → AllByRecursion (λ a. Before a (take (1 + m) f)) acc
  is_new some = all_weaker (λ a. Before a previous) (λ a. Before a (take (1 + m) f)) (λ a h. first_after a previous f (inl h) before some) acc earlier

  pub fold_one : fold with_new acc (proper_beginnings f) ≡ acc ++ new_above previous f
  fold_one =
      ap (fold with_new acc) (beginnings-run f ∙ ap (run f 1) (sym count) ∙ run_split f 1 m n)
      ∙ fold-append acc (run f 1 m) (run f (1 + m) n)
      ∙ ap (λ ps. fold with_new ps (run f (1 + m) n)) (fold_known f acc 1 m is_known)
      ∙ fold_new f acc (1 + m) n (within_run previous f) is_new
      ∙ ap (λ ps. acc ++ ps) (sym (new_above-run previous f))

  pub earlier_next : AllByRecursion (λ a. Before a f) (acc ++ new_above previous f)
  earlier_next =
      all_append (λ a. Before a f) acc (new_above previous f)
      (all_weaker (λ a. Before a previous) (λ a. Before a f) (λ a h. before_trans a previous f h before) acc earlier)
      (subst (AllByRecursion (λ a. Before a f)) (sym (new_above-run previous f)) (run_before f (1 + m) n (within_run previous f)))

  pub has_next : (d : Path) → is_below f d ≡ true → 0 < length d → Among d (acc ++ new_above previous f)
  has_next d below some = by (new_has d previous f below) where
    at : (is_below previous d ≡ true) ⊎ (d ≡ previous) → Among d (acc ++ new_above previous f)
    at (inl h) = among_left d acc (new_above previous f) (has d h some)
    at (inr e) = (let bad : true ≡ false = sym below ∙ ap (is_below f) e ∙ apart (subst (λ p. 0 < length p) e some) in cc)

    by : Among d (new_above previous f) ⊎ Begins d previous → Among d (acc ++ new_above previous f)
    by (inl a) = among_right d acc (new_above previous f) a
    by (inr b) = at (begins_below d previous b)

fold_above : (acc : List Path) (previous : Path) (files : List Path) → Follow previous files → Spread files → (0 < length previous → AllByRecursion (λ f. is_below f previous ≡ false) files) → AllByRecursion (λ a. Before a previous) acc → ((d : Path) → is_below previous d ≡ true → 0 < length d → Among d acc) → fold with_new acc (flat_map proper_beginnings files) ≡ acc ++ all_above previous files
fold_above acc previous [] follows spread apart earlier has = sym (append-nil acc)
fold_above acc previous (f ∷ fs) follows spread apart earlier has =
    let here : 0 < length previous → is_below f previous ≡ false = λ some. (apart some).0 in
    fold-append acc (proper_beginnings f) (flat_map proper_beginnings fs)
    ∙ ap (λ ps. fold with_new ps (flat_map proper_beginnings fs)) (fold_one acc previous f follows.0 here earlier has)
    ∙ fold_above (acc ++ new_above previous f) f fs (follow f fs spread.0) spread.1 (λ some. all_weaker (Apart f) (λ g. is_below g f ≡ false) (λ g a. a.1) fs spread.0) (earlier_next acc previous f follows.0 here earlier has) (has_next acc previous f follows.0 here earlier has)
    ∙ append_assoc acc (new_above previous f) (all_above f fs)

pub directories_above-is : (files : List Path) → Follow [] files → Spread files → directories_above files ≡ all_above [] files
directories_above-is files follows spread = fold_above [] [] files follows spread (λ some. absurd (omega (arith, some))) tt (λ d below some. (let h : false ≡ true = below in cc))
