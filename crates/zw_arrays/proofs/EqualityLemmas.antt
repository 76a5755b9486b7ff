-- Comparisons of values: by what names are told, and step by step.
use Rattle.std.proofs.Common.{◌≡◌, ℕ, ◌+◌, ◌-◌, ◌<◌, ◌≤◌, ◌&&◌, pos, Bool, true, false, nat_lt, ◌==◌, List, ◌∷◌, length, map, drop, get_or, slice_get, Option, Some, None, ◌⊎◌, inl, inr, ◌↔◌, IsTrue, refl, sym, ap, cond, ◌∙◌, arith, Decides}
use Rattle.std.specs.Option.{option_map}
use Rattle.std.specs.Str.{bytes_eq}
use Rattle.std.specs.Cmp.Lexicographic.{pointwise_decides}
use Rattle.std.proofs.lemmas.Bool.{eqb-true, eq-eqb, ne_eqb, le-ltb, cases_lt}
use Rattle.std.proofs.lemmas.Bool.Decides.{same_from_decides, Decides-like, Decides-eqb}
use Rattle.std.proofs.lemmas.List.{drop_more, length-map}
use Rattle.std.proofs.lemmas.Slice.Eq.{bytes_eq-Decides}
use Rattle.zw_def.specs.ConstantPath.{ConstantPath}
use Rattle.zw_def.specs.Nesting.{same_names}
use Rattle.zw_def.specs.Text.{Text}
use Rattle.zw_def_world.specs.Act.{Act, Point, ends, gives, out_of_steps, ◌>>=◌, go_on, continued, paid, spending}
use Rattle.zw_def_world.specs.ArrayRows.{index_from}
use Rattle.zw_def_world.specs.Equality.{same, among, same_items, if_same, if_lengths}
use Rattle.zw_def_world.specs.Id.{Id, id_eq, same_load}
use Rattle.zw_def_world.specs.Value.{Value, truth, int, array, array_of, is_true}
use Rattle.zw_heap.specs.Heap.{Held, Row}
use Rattle.zw_heap.specs.Telling.{Telling, Fits, tell}
use Rattle.zw_heap.specs.Sound.{IsBelow}
use Rattle.zw_heap.specs.declared.value.Value.{Value as Item}
use Rattle.zw_heap.specs.declared.value.Value.TheVariants as v
use Rattle.zw_arrays.specs.Answer.{answer_seen}
use Rattle.zw_arrays.proofs.ItemLemmas.{items-array}

-- ---- heights, for which an array that is made later is higher

abbrev pub height : Item → ℕ
height (v.Array a) = a.0 + 1
height _ = 0

pub height-below : (n : ℕ) (x : Item) → IsBelow n x → height x ≤ n
height-below n (v.Array a) below = omega (arith, below)
height-below n v.Nil below = omega arith
height-below n v.True below = omega arith
height-below n v.False below = omega arith
height-below n (v.Int z) below = omega arith
height-below n (v.Text t) below = omega arith
height-below n (v.Sym x) below = omega arith
height-below n (v.Object o) below = omega arith
height-below n (v.Module m) below = omega arith

-- ---- steps that are paid

pub ticked : (b : Bool) (left n later : ℕ) → (IsTrue b ↔ (n ≤ left)) → later ≡ cond b (left - n) left → b ≡ true → (n ≤ left) × (later ≡ left - n)
ticked b left n later answer is ticks = (answer.0 ticks, is ∙ ap (λ a. cond a (left - n) left) ticks)

pub unticked : (b : Bool) (left n later : ℕ) → (IsTrue b ↔ (n ≤ left)) → later ≡ cond b (left - n) left → b ≡ false → (left < n) × (later ≡ left)
unticked b left n later answer is stays = (by (cases_lt left n), is ∙ ap (λ a. cond a (left - n) left) stays)
  where
    by : (left < n) ⊎ (n ≤ left) → left < n
    by (inl l) = l
    by (inr g) = let both : true ≡ false = sym (answer.1 g) ∙ stays in absurd (cc)

-- ---- one step, and then an act

module _ (act : Act) (k : Value → Act) (p : Point) where
  pub unpaid : p.left ≡ 0 → (paid 1 act >>= k) p ≡ ends out_of_steps p
  unpaid none = ap (λ n. continued (go_on k) (cond (nat_lt n 1) (ends out_of_steps) (spending 1 act) p)) none

  pub paid-then : (left later : ℕ) (answer : Option Bool) → 1 ≤ p.left → left ≡ p.left - 1 → act (record p { left = left }) ≡ answer_seen answer (record p { left = later }) → (paid 1 act >>= k) p ≡ continued (go_on k) (answer_seen answer (record p { left = later }))
  paid-then left later answer enough is ends_so =
      ap (λ b. continued (go_on k) (cond b (ends out_of_steps) (spending 1 act) p)) (le-ltb p.left 1 enough)
      ∙ ap (λ n. continued (go_on k) (act (record p { left = n }))) (sym is)
      ∙ ap (continued (go_on k)) ends_so

-- ---- lists that are walked

-- what is left of a list, at a place that was read
pub drop-read : (xs : List Item) (i : ℕ) (x : Item) → i < length xs → x ≡ get_or xs i v.Nil → drop i xs ≡ x ∷ drop (i + 1) xs
drop-read xs i x lt is = drop_more xs i v.Nil lt ∙ ap (λ y. y ∷ drop (i + 1) xs) (sym is)

pub at-pair : (I : Telling) (xs ys : List Item) (i : ℕ) (x y : Item) → i < length xs → i < length ys → x ≡ get_or xs i v.Nil → y ≡ get_or ys i v.Nil → same_items (array_of (map (tell I) (drop i xs))) (array_of (map (tell I) (drop i ys))) ≡ (paid 1 (same (tell I x) (tell I y)) >>= if_same (same_items (array_of (map (tell I) (drop (i + 1) xs))) (array_of (map (tell I) (drop (i + 1) ys)))))
at-pair I xs ys i x y less fewer one other = λ j.
    same_items (array_of (map (tell I) (drop-read xs i x less one j))) (array_of (map (tell I) (drop-read ys i y fewer other j)))

-- the whole act of a comparison of two arrays of equal sizes
pub same-arrays : (I : Telling) (names : List Text) (h : Held) (m n : ℕ) (xs ys : List Item) → Fits I names h → option_map (λ (r : Row). r.items) (slice_get h.arrays m) ≡ Some xs → option_map (λ (r : Row). r.items) (slice_get h.arrays n) ≡ Some ys → same (array (I.array m)) (array (I.array n)) ≡ cond (length xs == length ys) (same_items (array_of (map (tell I) xs)) (array_of (map (tell I) ys))) (gives (truth false))
same-arrays I names h m n xs ys fit one other =
    (λ j. same (array (fit.arrays_told m xs one j)) (array (fit.arrays_told n ys other j)))
    ∙ (λ j. if_lengths (items-array (map (tell I) xs) j) (items-array (map (tell I) ys) j) (same_items (array_of (map (tell I) xs)) (array_of (map (tell I) ys))))
    ∙ (λ j. cond (length-map xs (tell I) j == length-map ys (tell I) j) (same_items (array_of (map (tell I) xs)) (array_of (map (tell I) ys))) (gives (truth false)))

module _ (I : Telling) (names : List Text) (h : Held) (m n : ℕ) (xs ys : List Item) (fit : Fits I names h) (one : option_map (λ (r : Row). r.items) (slice_get h.arrays m) ≡ Some xs) (other : option_map (λ (r : Row). r.items) (slice_get h.arrays n) ≡ Some ys) where
  pub same-sized : length xs ≡ length ys → same (array (I.array m)) (array (I.array n)) ≡ same_items (array_of (map (tell I) xs)) (array_of (map (tell I) ys))
  same-sized sizes =
      same-arrays I names h m n xs ys fit one other
      ∙ ap (λ b. cond b (same_items (array_of (map (tell I) xs)) (array_of (map (tell I) ys))) (gives (truth false))) (eq-eqb (length xs) (length ys) sizes)

  pub other-sized : (length xs ≡ length ys → ⊥) → same (array (I.array m)) (array (I.array n)) ≡ gives (truth false)
  other-sized sizes =
      same-arrays I names h m n xs ys fit one other
      ∙ ap (λ b. cond b (same_items (array_of (map (tell I) xs)) (array_of (map (tell I) ys))) (gives (truth false))) (ne_eqb (length xs) (length ys) sizes)

-- ---- names of records

both : (a b : Bool) → (a && b) ≡ true → (a ≡ true) × (b ≡ true)
both true b e = (refl, e)
both false b e = absurd (cc)

same_names-Decides : (p q : ConstantPath) → Decides (same_names p q) (p ≡ q)
same_names-Decides = pointwise_decides bytes_eq-Decides

same_load-Decides : (a b : Option ConstantPath) → Decides (same_load a b) (a ≡ b)
same_load-Decides None None = (λ e. refl, λ e. refl)
same_load-Decides None (Some q) = (λ e. absurd (cc), λ e. absurd (cc))
same_load-Decides (Some p) None = (λ e. absurd (cc), λ e. absurd (cc))
same_load-Decides (Some p) (Some q) = (λ e. ap Some ((same_names-Decides p q).0 e), λ e. (same_names-Decides p q).1 (cc e))

id_eq-Decides : (i j : Id) → Decides (id_eq i j) (i ≡ j)
id_eq-Decides i j = (there, λ e. ap (id_eq i) (sym e) ∙ self i)
  where
    there : id_eq i j ≡ true → i ≡ j
    there e =
        let outer = both (i.count == j.count && i.setup == j.setup) (same_load i.load j.load) e in
        let inner = both (i.count == j.count) (i.setup == j.setup) outer.0 in
        let count = eqb-true i.count j.count inner.0 in
        let setup = eqb-true i.setup j.setup inner.1 in
        let load = (same_load-Decides i.load j.load).0 outer.1 in
        λ k. record { setup = setup k; load = load k; count = count k }

    self : (i : Id) → id_eq i i ≡ true
    self i = λ k. eq-eqb i.count i.count refl k && eq-eqb i.setup i.setup refl k && (same_load-Decides i.load i.load).1 refl k

-- names that differ for numbers that do
pub ids-same : (ids : ℕ → Id) → ((m n : ℕ) → ids m ≡ ids n → m ≡ n) → (m n : ℕ) → id_eq (ids m) (ids n) ≡ (m == n)
ids-same ids apart m n =
    same_from_decides (id_eq (ids m) (ids n)) (m == n) (id_eq-Decides (ids m) (ids n))
    (Decides-like (m == n) (λ e. ap ids e) (apart m n) (Decides-eqb m n))

pub names-same : (names : ℕ → Text) → ((m n : ℕ) → names m ≡ names n → m ≡ n) → (m n : ℕ) → bytes_eq (names m) (names n) ≡ (m == n)
names-same names apart m n =
    same_from_decides (bytes_eq (names m) (names n)) (m == n) (bytes_eq-Decides (names m) (names n))
    (Decides-like (m == n) (λ e. ap names e) (apart m n) (Decides-eqb m n))

-- ---- points

pub at-left : (act : Act) (p : Point) (n : ℕ) → p.left ≡ n → act p ≡ act (record p { left = n })
at-left act p n e = ap (λ m. act (record p { left = m })) e

-- a step and a comparison, by what the comparison answered
module _ (act : Act) (k : Value → Act) (p : Point) (left later : ℕ) (answer : Option Bool) (enough : 1 ≤ p.left) (is : left ≡ p.left - 1) (ends_so : act (record p { left = left }) ≡ answer_seen answer (record p { left = later })) where
  pub then-none : answer ≡ None → (paid 1 act >>= k) p ≡ ends out_of_steps (record p { left = later })
  then-none none = paid-then act k p left later answer enough is ends_so ∙ ap (λ a. continued (go_on k) (answer_seen a (record p { left = later }))) none

  pub then-some : (b : Bool) → answer ≡ Some b → (paid 1 act >>= k) p ≡ k (truth b) (record p { left = later })
  then-some b some = paid-then act k p left later answer enough is ends_so ∙ ap (λ a. continued (go_on k) (answer_seen a (record p { left = later }))) some

-- ---- items that are looked at

module _ (I : Telling) (xs : List Item) (i : ℕ) (x : Item) (lt : i < length xs) (at : x ≡ get_or xs i v.Nil) (v : Value) where
  pub among-at : among v (map (tell I) (drop i xs)) ≡ (paid 1 (same (tell I x) v) >>= (λ found. cond (is_true found) (gives (truth true)) (among v (map (tell I) (drop (i + 1) xs)))))
  among-at = ap (λ ys. among v (map (tell I) ys)) (drop-read xs i x lt at)

  pub index-at : (n : ℕ) → index_from n v (map (tell I) (drop i xs)) ≡ (paid 1 (same (tell I x) v) >>= (λ found. cond (is_true found) (gives (int (pos n))) (index_from (n + 1) v (map (tell I) (drop (i + 1) xs)))))
  index-at n = ap (λ ys. index_from n v (map (tell I) ys)) (drop-read xs i x lt at)
