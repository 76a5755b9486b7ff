-- Each directory above a file stands above it once.
use Rattle.std.proofs.Common.{◌≡◌, ℕ, suc, ◌+◌, ◌-◌, ◌<◌, ◌≤◌, Bool, true, false, ◌||◌, cond, List, [], ◌∷◌, ◌++◌, length, take, map, get_or, Option, Some, refl, ap, sym, ◌∙◌, subst, arith, append-nil, length-take-le}
use Rattle.std.specs.List.{AllByRecursion, list_any, count_by}
use Rattle.std.specs.Option.{unwrap_or}
use Rattle.std.specs.BTreeMap.{BTreeMap, get, is_at}
use Rattle.std.specs.Cmp.Lexicographic.{lists_equiv, nat_list_eq_equiv}
use Rattle.std.proofs.lemmas.List.{take_more, map-append, length-map}
use Rattle.std.proofs.lemmas.Bool.{false_from_ne_true}
use Rattle.std.proofs.lemmas.List.Sums.{sum_by-cons, sum_by-append, length-filter, count_by-le-length}
use Rattle.zw_def.specs.Path.{Path, same_path, path_cmp}
use Rattle.zw_def.specs.Nesting.{proper_beginnings}
use Rattle.zw_def.proofs.PathLemmas.{same_path-Decides}
use Rattle.zw_def.proofs.PathOrderLemmas.{same_tied}
use Rattle.zw_scan.specs.Among.{Rising}
use Rattle.zw_scan.specs.FileCount.{is_above, count_below, count_of}
use Rattle.zw_scan.specs.declared.file_count.FileCounts.{FileCounts}
use Rattle.zw_scan.proofs.BeginningLemmas.{Before, before_self, run, run_split, beginnings-run, rising_run}

abbrev pub same_count : Path → List Path → ℕ
same_count d = count_by (same_path d)

count_cons : (d p : Path) (ps : List Path) → same_count d (p ∷ ps) ≡ cond (same_path d p) 1 0 + same_count d ps
count_cons d p ps = sum_by-cons (λ q. cond (same_path d q) 1 0) p ps

count_append : (d : Path) (ps qs : List Path) → same_count d (ps ++ qs) ≡ same_count d ps + same_count d qs
count_append d ps qs = sum_by-append (λ q. cond (same_path d q) 1 0) ps qs

none_after : (d p : Path) (ps : List Path) → d ≡ p → AllByRecursion (Before p) ps → same_count d ps ≡ 0
none_after d p [] is after = refl
none_after d p (q ∷ ps) is after = count_cons d q ps ∙ (λ i. cond (differs i) 1 0 + none_after d p ps is after.1 i) where
  differs : same_path d q ≡ false
  differs = false_from_ne_true (same_path d q) (λ e. before_self p (subst (Before p) (sym ((same_path-Decides d q).0 e) ∙ is) after.0))

once : (d : Path) (ps : List Path) → Rising Before ps → same_count d ps ≡ cond (list_any (same_path d) ps) 1 0
once d [] up = refl
once d (p ∷ ps) up = count_cons d p ps ∙ by (same_path d p) refl (once d ps up.1) where
  by : (b : Bool) → same_path d p ≡ b → same_count d ps ≡ cond (list_any (same_path d) ps) 1 0 → cond b 1 0 + same_count d ps ≡ cond (b || list_any (same_path d) ps) 1 0
  by true e more = ap (λ n. 1 + n) (none_after d p ps ((same_path-Decides d p).0 e) up.0)
  by false e more = omega (arith, more)

-- ---- the directories above one file

pub above_once : (f d : Path) → same_count d (run f 1 (length f - 1)) ≡ cond (is_above d f) 1 0
above_once f d =
    ap (same_count d) (sym (beginnings-run f))
    ∙ once d (proper_beginnings f) (subst (Rising Before) (append-nil (run f 1 (length f - 1)) ∙ sym (beginnings-run f)) (rising_run f 1 (length f - 1) [] (λ some. omega (arith, some)) (λ j lt. tt) tt))

pub above_more : (f d : Path) (depth : ℕ) → 1 ≤ depth → same_count d (run f 1 (depth + 1 - 1)) ≡ same_count d (run f 1 (depth - 1)) + cond (same_path d (take depth f)) 1 0
above_more f d depth some =
    ap (λ n. same_count d (run f 1 n)) count
    ∙ ap (same_count d) (run_split f 1 (depth - 1) 1)
    ∙ count_append d (run f 1 (depth - 1)) (take (1 + (depth - 1)) f ∷ [])
    ∙ ap (λ k. same_count d (run f 1 (depth - 1)) + same_count d (take k f ∷ [])) place
    ∙ ap (λ n. same_count d (run f 1 (depth - 1)) + n) last where
      count : depth + 1 - 1 ≡ (depth - 1) + 1
      count = omega (arith, some)

      place : 1 + (depth - 1) ≡ depth
      place = omega (arith, some)

      last : same_count d (take depth f ∷ []) ≡ cond (same_path d (take depth f)) 1 0
      last = omega (arith, count_cons d (take depth f) [])

-- a directory is not counted before its turn
pub above_first : (f : Path) (depth : ℕ) → 1 ≤ depth → depth < length f → same_count (take depth f) (run f 1 (depth - 1)) ≡ 0
above_first f depth some lt = omega (arith, all, above_once f d, small (is_above d f)) where
  d : Path
  d = take depth f

  rest : ℕ
  rest = length f - 1 - depth

  count : length f - 1 ≡ (depth - 1) + suc rest
  count = omega (arith, some, lt)

  place : 1 + (depth - 1) ≡ depth
  place = omega (arith, some)

  all : same_count d (run f 1 (length f - 1)) ≡ same_count d (run f 1 (depth - 1)) + (1 + same_count d (run f (suc depth) rest))
  all =
      ap (λ n. same_count d (run f 1 n)) count
      ∙ ap (same_count d) (run_split f 1 (depth - 1) (suc rest))
      ∙ count_append d (run f 1 (depth - 1)) (run f (1 + (depth - 1)) (suc rest))
      ∙ ap (λ k. same_count d (run f 1 (depth - 1)) + same_count d (run f k (suc rest))) place
      ∙ ap (λ n. same_count d (run f 1 (depth - 1)) + n) (count_cons d (take depth f) (run f (suc depth) rest))
      ∙ ap (λ b. same_count d (run f 1 (depth - 1)) + (cond b 1 0 + same_count d (run f (suc depth) rest))) ((same_path-Decides d d).1 refl)

  small : (b : Bool) → cond b 1 0 ≤ 1
  small true = omega arith
  small false = omega arith

-- ---- one file after the other

pub below_more : {A : Type 0} (g : A → Path) (xs : List A) (i : ℕ) (x : A) (d : Path) → i < length xs → x ≡ get_or xs i x → count_below (map g (take (i + 1) xs)) d ≡ count_below (map g (take i xs)) d + cond (is_above d (g x)) 1 0
below_more g xs i x d lt is =
    ap (λ l. count_below (map g l) d) (take_more xs i x lt)
    ∙ ap (λ l. count_below l d) (map-append g (take i xs) (get_or xs i x ∷ []))
    ∙ pushed (map g (take i xs)) (g (get_or xs i x))
    ∙ ap (λ y. count_below (map g (take i xs)) d + cond (is_above d (g y)) 1 0) (sym is) where
      pushed : (ps : List Path) (p : Path) → count_below (ps ++ p ∷ []) d ≡ count_below ps d + cond (is_above d p) 1 0
      pushed ps p =
          let one : count_by (is_above d) (p ∷ []) ≡ cond (is_above d p) 1 0 = omega (arith, sum_by-cons (λ q. cond (is_above d q) 1 0) p []) in
          omega (arith, length-filter (is_above d) (ps ++ p ∷ []), length-filter (is_above d) ps, sum_by-append (λ q. cond (is_above d q) 1 0) ps (p ∷ []), one)

pub below_within : {A : Type 0} (g : A → Path) (xs : List A) (i m : ℕ) (d : Path) → i < length xs → length xs ≤ m → count_below (map g (take i xs)) d < m
below_within g xs i m d lt le =
    omega (arith, length-filter (is_above d) (map g (take i xs)), count_by-le-length (is_above d) (map g (take i xs)), length-map (take i xs) g, length-take-le i xs, lt, le)

-- ---- the numbers that are kept

pub kept_more : (old : Option ℕ) (b : Bool) (n m : ℕ) → (b ≡ true → n ≡ unwrap_or old 0) → m ≡ n + 1 → unwrap_or (cond b (Some m) old) 0 ≡ unwrap_or old 0 + cond b 1 0
kept_more old true n m is more = omega (arith, more, is refl)
kept_more old false n m is more = omega arith

turned : (k d : Path) → is_at (path_cmp k) d ≡ same_path d k
turned k d = sym (same_tied k d) ∙ (lists_equiv nat_list_eq_equiv).symm k d

pub kept_at : (old : FileCounts) (rows : BTreeMap Path ℕ) (k d : Path) (n m : ℕ) → ((q : Path) → get path_cmp rows q ≡ cond (is_at (path_cmp k) q) (Some m) (get path_cmp old.rows q)) → n ≡ count_of old k → m ≡ n + 1 → unwrap_or (get path_cmp rows d) 0 ≡ count_of old d + cond (same_path d k) 1 0
kept_at old rows k d n m updates is more =
    ap (λ o. unwrap_or o 0) (updates d ∙ ap (λ b. cond b (Some m) (get path_cmp old.rows d)) (turned k d))
    ∙ kept_more (get path_cmp old.rows d) (same_path d k) n m (λ e. is ∙ ap (count_of old) (sym ((same_path-Decides d k).0 e))) more
