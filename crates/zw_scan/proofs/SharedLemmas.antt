-- What is shared by the components of two paths, and the directories above one, step by step.
use Rattle.std.proofs.Common.{◌≡◌, ℕ, suc, ◌+◌, ◌-◌, ◌<◌, ◌≤◌, ◌⊎◌, inl, inr, Bool, true, false, cond, List, [], ◌∷◌, ◌++◌, length, take, drop, get_or, map, refl, ap, sym, ◌∙◌, arith, append_assoc, append-nil}
use Rattle.std.specs.Str.{bytes_eq}
use Rattle.std.specs.List.{filter}
use Rattle.std.proofs.lemmas.List.{drop_all}
use Rattle.zw_lemmas.proofs.ListLemmas.{drop-at}
use Rattle.zw_def.specs.Text.{Text}
use Rattle.zw_def.specs.Path.{Path}
use Rattle.zw_scan.specs.Directories.{shared, new_above, all_above}
use Rattle.zw_scan.proofs.BeginningLemmas.{run, run_split, new_above-run}

-- ---- one component after the other

module _ {A : Type 0} (f : A → Text) (ps qs : List A) (i : ℕ) (d : A) (within : i < length ps) (within' : i < length qs) where
  split : shared (map f (drop i ps)) (map f (drop i qs)) ≡ cond (bytes_eq (f (get_or ps i d)) (f (get_or qs i d))) (suc (shared (map f (drop (suc i) ps)) (map f (drop (suc i) qs)))) 0
  split = λ j. shared (map f (drop-at ps i (suc i) d within refl j)) (map f (drop-at qs i (suc i) d within' refl j))

  pub shared_ends : (n : ℕ) → n ≡ i + shared (map f (drop i ps)) (map f (drop i qs)) → bytes_eq (f (get_or ps i d)) (f (get_or qs i d)) ≡ false → i ≡ n
  shared_ends n is differ = omega (arith, is, split ∙ ap (λ b. cond b (suc (shared (map f (drop (suc i) ps)) (map f (drop (suc i) qs)))) 0) differ)

  pub shared_goes : (n : ℕ) → n ≡ i + shared (map f (drop i ps)) (map f (drop i qs)) → bytes_eq (f (get_or ps i d)) (f (get_or qs i d)) ≡ true → n ≡ (i + 1) + shared (map f (drop (i + 1) ps)) (map f (drop (i + 1) qs))
  shared_goes n is same =
      let next : i + shared (map f (drop i ps)) (map f (drop i qs)) ≡ (i + 1) + shared (map f (drop (suc i) ps)) (map f (drop (suc i) qs)) = omega (arith, split ∙ ap (λ b. cond b (suc (shared (map f (drop (suc i) ps)) (map f (drop (suc i) qs)))) 0) same) in
      is ∙ next ∙ ap (λ k. (i + 1) + shared (map f (drop k ps)) (map f (drop k qs))) (sym (plus_one i)) where
        plus_one : (k : ℕ) → k + 1 ≡ suc k
        plus_one k = omega arith

none_shared : (p : Path) → shared p [] ≡ 0
none_shared [] = refl
none_shared (c ∷ p) = refl

pub shared_end : {A : Type 0} (f : A → Text) (ps qs : List A) (i n : ℕ) → n ≡ i + shared (map f (drop i ps)) (map f (drop i qs)) → i ≡ length qs → i ≡ n
shared_end f ps qs i n is end =
    omega (arith, is, ap (λ l. shared (map f (drop i ps)) (map f l)) (drop_all i qs (omega (arith, end))) ∙ none_shared (map f (drop i ps)))

-- ---- one directory after the other

pub run_pushed : (f : Path) (start depth : ℕ) (old now new : List Path) → start ≤ depth → now ≡ old ++ run f (1 + start) (depth - start) → new ≡ now ++ take (depth + 1) f ∷ [] → new ≡ old ++ run f (1 + start) (depth + 1 - start)
run_pushed f start depth old now new le is pushed =
    pushed ∙ ap (λ ps. ps ++ take (depth + 1) f ∷ []) is
    ∙ append_assoc old (run f (1 + start) (depth - start)) (take (depth + 1) f ∷ [])
    ∙ ap (λ ps. old ++ ps) (ap (λ k. run f (1 + start) (depth - start) ++ take k f ∷ []) place ∙ sym (run_split f (1 + start) (depth - start) 1) ∙ ap (run f (1 + start)) count) where
      place : depth + 1 ≡ (1 + start) + (depth - start)
      place = omega (arith, le)

      count : depth - start + 1 ≡ depth + 1 - start
      count = omega (arith, le)

pub run_place : (start depth end : ℕ) → depth < end → (depth + 1 ≡ start) ⊎ (depth + 1 ≤ end)
run_place start depth end lt = inr (omega (arith, lt))

pub run_whole : (p f : Path) (start depth : ℕ) (old now : List Path) → start ≡ shared p f → start ≤ depth → length f - 1 ≤ depth → (depth ≡ start) ⊎ (depth ≤ length f - 1) → now ≡ old ++ run f (1 + start) (depth - start) → now ≡ old ++ new_above p f
run_whole p f start depth old now is le end at all =
    all ∙ ap (λ n. old ++ run f (1 + start) n) (by at) ∙ ap (λ k. old ++ run f (1 + k) (length f - 1 - k)) is ∙ ap (λ ps. old ++ ps) (sym (new_above-run p f)) where
      by : (depth ≡ start) ⊎ (depth ≤ length f - 1) → depth - start ≡ length f - 1 - start
      by (inl e) = omega (arith, e, end)
      by (inr l) = omega (arith, l, end)

-- ---- one file after the other

module _ {A : Type 0} (g : A → Path) (test : Path → Bool) (fs : List A) (i : ℕ) (x : A) (within : i < length fs) (is : x ≡ get_or fs i x) (previous : Path) (before all : List Path) (found : before ++ all_above previous (filter test (map g (drop i fs))) ≡ all) where
  next : map g (drop i fs) ≡ g x ∷ map g (drop (i + 1) fs)
  next = ap (map g) (drop-at fs i (i + 1) x within (omega arith)) ∙ ap (λ y. g y ∷ map g (drop (i + 1) fs)) (sym is)

  pub own_file : test (g x) ≡ true → (now : List Path) → now ≡ before ++ new_above previous (g x) → now ++ all_above (g x) (filter test (map g (drop (i + 1) fs))) ≡ all
  own_file own now pushed =
      ap (λ ps. ps ++ all_above (g x) (filter test (map g (drop (i + 1) fs)))) pushed
      ∙ append_assoc before (new_above previous (g x)) (all_above (g x) (filter test (map g (drop (i + 1) fs))))
      ∙ ap (λ b. before ++ all_above previous (cond b (g x ∷ filter test (map g (drop (i + 1) fs))) (filter test (map g (drop (i + 1) fs))))) (sym own)
      ∙ ap (λ ps. before ++ all_above previous (filter test ps)) (sym next)
      ∙ found

  pub other_file : test (g x) ≡ false → before ++ all_above previous (filter test (map g (drop (i + 1) fs))) ≡ all
  other_file other =
      ap (λ b. before ++ all_above previous (cond b (g x ∷ filter test (map g (drop (i + 1) fs))) (filter test (map g (drop (i + 1) fs))))) (sym other)
      ∙ ap (λ ps. before ++ all_above previous (filter test ps)) (sym next)
      ∙ found

pub no_more : {A : Type 0} (g : A → Path) (test : Path → Bool) (fs : List A) (i : ℕ) (previous : Path) (before all : List Path) → length fs ≤ i → before ++ all_above previous (filter test (map g (drop i fs))) ≡ all → before ≡ all
no_more g test fs i previous before all end found = sym (append-nil before) ∙ ap (λ ps. before ++ all_above previous (filter test (map g ps))) (sym (drop_all i fs end)) ∙ found
