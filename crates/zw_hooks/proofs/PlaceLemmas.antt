-- Places of callbacks, one by one.
use Rattle.std.proofs.Common.{◌≡◌, ℕ, ◌+◌, ◌<◌, Bool, true, false, ◌&&◌, cond, nat_eq, List, [], ◌∷◌, ◌++◌, map, length, take, get_or, slice_get, Some, refl, ap, sym, subst, ◌∙◌, arith}
use Rattle.std.specs.List.{All, filter}
use Rattle.std.specs.Str.{bytes_eq}
use Rattle.std.specs.Cmp.Lexicographic.{pointwise}
use Rattle.std.proofs.lemmas.List.{map-append}
use Rattle.std.proofs.lemmas.List.Elements.{All-head, All-tail, filter_more}
use Rattle.std.proofs.lemmas.Option.{slice_get_read}
use Rattle.zw_lemmas.proofs.ListLemmas.{read_at}
use Rattle.zw_def.specs.Text.{Text}
use Rattle.zw_def.specs.ConstantPath.{ConstantPath}
use Rattle.zw_def.specs.Names.{AreNamed, IsDistinct, texts_of}
use Rattle.zw_def.specs.Nesting.{same_names}
use Rattle.zw_def.proofs.NameLemmas.{text_as}
use Rattle.zw_def_world.specs.Callback.{Callback, Moment, callbacks_for, is_for, is_for_any, same_moment}
use Rattle.zw_hooks.specs.Runs.{runs_for, runs_for_any}

pub pointwise_told : {A : Type 0} (f : A → ℕ) (eq : A → A → Bool) → ((x y : A) → eq x y ≡ nat_eq (f x) (f y)) → (xs ys : List A) → pointwise eq xs ys ≡ bytes_eq (map f xs) (map f ys)
pointwise_told f eq same [] [] = refl
pointwise_told f eq same [] (y ∷ ys) = refl
pointwise_told f eq same (x ∷ xs) [] = refl
pointwise_told f eq same (x ∷ xs) (y ∷ ys) = λ i. same x y i && pointwise_told f eq same xs ys i

-- constant paths are the same exactly where their numbers are
pub same_by_numbers : (names : List Text) → IsDistinct names → (p q : List ℕ) → AreNamed names p → AreNamed names q → same_names (texts_of names p) (texts_of names q) ≡ bytes_eq q p
same_by_numbers names distinct [] [] np nq = refl
same_by_numbers names distinct [] (m ∷ q) np nq = refl
same_by_numbers names distinct (n ∷ p) [] np nq = refl
same_by_numbers names distinct (n ∷ p) (m ∷ q) np nq =
    λ i. text_as names m n distinct (All-head (λ k. k < length names) m q nq) (All-head (λ k. k < length names) n p np) i
    && same_by_numbers names distinct p q (All-tail (λ k. k < length names) n p np) (All-tail (λ k. k < length names) m q nq) i

-- one more of the places
pub one_more : {H : Type 0} (seen : H → Callback) (all : List H) (test : Callback → Bool) (i : ℕ) (h : H) (b : Bool) → i < length all → h ≡ get_or all i h → b ≡ test (seen h)
    → map (λ c. Some c) (filter test (take i (map seen all))) ++ map (slice_get (map seen all)) (cond b (i ∷ []) []) ≡ map (λ c. Some c) (filter test (take (i + 1) (map seen all)))
one_more seen all test i h b lt is told =
    let cs = map seen all in
    let at = read_at seen all cs refl i h lt is in
    ap (λ l. map (λ c. Some c) (filter test (take i cs)) ++ l) (by b (test (seen h)) told (slice_get_read cs (length cs) i (seen h) refl at.0 at.1))
    ∙ sym (ap (map (λ c. Some c)) (filter_more test cs i (seen h) at.0 ∙ ap (λ c. filter test (take i cs) ++ cond (test c) (c ∷ []) []) (sym at.1)) ∙ map-append (λ c. Some c) (filter test (take i cs)) (cond (test (seen h)) (seen h ∷ []) []))
  where
    by : (b t : Bool) → b ≡ t → slice_get (map seen all) i ≡ Some (seen h) → map (slice_get (map seen all)) (cond b (i ∷ []) []) ≡ map (λ c. Some c) (cond t (seen h ∷ []) [])
    by true true e got = ap (λ o. o ∷ []) got
    by false false e got = refl
    by true false e got = cc
    by false true e got = cc

-- ---- the definition's own list

filtered_twice : {X : Type 0} (f g : X → Bool) (xs : List X) → filter f (filter g xs) ≡ filter (λ x. g x && f x) xs
filtered_twice f g [] = refl
filtered_twice f g (x ∷ xs) = by (g x) (filtered_twice f g xs) where
  at : (b : Bool) → filter f (filter g xs) ≡ filter (λ y. g y && f y) xs → cond b (x ∷ filter f (filter g xs)) (filter f (filter g xs)) ≡ cond b (x ∷ filter (λ y. g y && f y) xs) (filter (λ y. g y && f y) xs)
  at b more = ap (λ l. cond b (x ∷ l) l) more

  by : (a : Bool) → filter f (filter g xs) ≡ filter (λ y. g y && f y) xs → filter f (cond a (x ∷ filter g xs) (filter g xs)) ≡ cond (a && f x) (x ∷ filter (λ y. g y && f y) xs) (filter (λ y. g y && f y) xs)
  by false more = more
  by true more = at (f x) more

pub runs_all : (moment : Moment) (p : ConstantPath) (cs : List Callback) → filter (runs_for moment p) cs ++ filter (runs_for_any moment) cs ≡ callbacks_for moment p cs
runs_all moment p cs = λ i. sym (filtered_twice (λ (c : Callback). is_for p c.target) (λ (c : Callback). same_moment c.moment moment) cs) i ++ sym (filtered_twice (λ (c : Callback). is_for_any c.target) (λ (c : Callback). same_moment c.moment moment) cs) i

pub item_named : {X : Type 0} (P : X → Type 0) (xs : List X) (i : ℕ) (x : X) → All P xs → i < length xs → x ≡ get_or xs i x → P x
item_named P xs i x all lt is = subst P (sym is) (all i x lt)
