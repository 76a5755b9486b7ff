-- What methods of Array do: by the items of an array, and act after act.
use Rattle.std.proofs.Common.{◌≡◌, ℕ, ◌+◌, ◌-◌, ◌<◌, ◌≤◌, Bool, true, false, ℤ, pos, negsuc, ◌<ℤ◌, unsigned_abs, zero, suc, List, [], ◌∷◌, ◌++◌, length, map, take, drop, filter, get_or, reverse, min, not, codes, Option, Result, Ok, Err, IfOk, FitsSigned, refl, sym, ap, cond, ◌∙◌, arith}
use Rattle.std.proofs.lemmas.Bool.{le-ltb, lt-ltb}
use Rattle.std.proofs.lemmas.Int.{ints}
use Rattle.std.specs.Int.{FitsUnsignedBits, w64}
use Rattle.std.specs.Result.{OkIff, result_ok}
use Rattle.std.specs.List.{All}
use Rattle.std.proofs.lemmas.List.{map-append, append_assoc, take-map, take_min, drop_min}
use Rattle.zw_lemmas.proofs.ListLemmas.{reverse-map}
use Rattle.std.proofs.lemmas.List.Elements.{All-push}
use Rattle.std.specs.declared.alloc.AllocError.{AllocError}
use Rattle.zw_def.specs.Text.{Text}
use Rattle.zw_def_world.specs.Act.{Act, Point, go_on, continued, gives}
use Rattle.zw_def_world.specs.ArrayRows.{array_act, item_at, last_value, is_some_value, uniques, without_items, kept_unless}
use Rattle.zw_def_world.specs.CoreClass.{ArgumentError}
use Rattle.zw_def_world.specs.Equality.{among}
use Rattle.zw_def_world.specs.IntegerRows.{counted}
use Rattle.zw_def_world.specs.Making.{fails}
use Rattle.zw_def_world.specs.Site.{Site}
use Rattle.zw_def_world.specs.Value as told
use Rattle.zw_heap.specs.Heap.{Held, sizes_of}
use Rattle.zw_heap.specs.Sound.{IsIn}
use Rattle.zw_heap.specs.Telling.{Telling, Fits, Agrees, tell}
use Rattle.zw_heap.specs.declared.value.Value.{Value}
use Rattle.zw_heap.specs.declared.value.Value.TheVariants as v
use Rattle.zw_heap.specs.declared.value.ArrayRef.{ArrayRef}
use Rattle.zw_arrays.specs.Answer.{answer_seen}
use Rattle.zw_calls.specs.ArrayRow.{array_row_seen}
use Rattle.zw_calls.specs.End.{Performs, IsDone, end_seen}
use Rattle.zw_calls.specs.Integer.{IsInRange}
use Rattle.zw_calls.specs.declared.end.PrimEnd.{PrimEnd}
use Rattle.zw_calls.specs.declared.end.PrimEnd.TheVariants as e
use Rattle.zw_calls.specs.declared.array_row.ArrayRow.{ArrayRow}
use Rattle.zw_arrays.proofs.EqualityLemmas.{drop-read}
use Rattle.zw_calls.proofs.PerformLemmas.{all_same}

-- ---- an act that goes on as another one does

-- how a method ends that has done its work does not depend on what is left of it
ends_as : (I : Telling) (one other : Act) (p : Point) (end : PrimEnd) → IsDone end → end_seen I one end p ≡ end_seen I other end p
ends_as I one other p (e.Value x) done = refl
ends_as I one other p (e.Raise r) done = refl
ends_as I one other p e.Budget done = refl
ends_as I one other p (e.Again prim) done = absurd done

module _ (g : Held) (names : List Text) (left middle later : ℕ) (act one : Telling → Act) (goes : (I : Telling) (p : Point) → Fits I names g → Agrees I g p.world → p.left ≡ left → act I p ≡ one I (record p { left = middle })) where
  pub goes_on : (end : PrimEnd) → Performs (λ s I. one I) g names middle later end → Performs (λ s I. act I) g names left later end
  goes_on end performs = record {
    told = λ s I p fit agrees e.
        goes I p fit agrees e ∙ performs.told s I (record p { left = middle }) fit (record { modules = agrees.modules; objects = agrees.objects }) refl
        ∙ ends_as I (one I) (act I) (record p { left = later }) end performs.done;
    held = performs.held;
    done = performs.done;
  }

  pub all_go_on : {E : Type 0} (r : Result PrimEnd E) → IfOk r (Performs (λ s I. one I) g names middle later) → IfOk r (Performs (λ s I. act I) g names left later)
  all_go_on (Ok end) performs = goes_on end performs
  all_go_on (Err e) performs = performs

-- ---- an act that is another one by each telling that fits

module _ (g : Held) (names : List Text) (left later : ℕ) (act one : Telling → Act) (same : (I : Telling) → Fits I names g → act I ≡ one I) where
  goes : (I : Telling) (p : Point) → Fits I names g → Agrees I g p.world → p.left ≡ left → act I p ≡ one I (record p { left = left })
  goes I p fit agrees e = ap (λ (a : Act). a p) (same I fit) ∙ ap (λ n. one I (record p { left = n })) e

  pub fitting : (end : PrimEnd) → Performs (λ s I. one I) g names left later end → Performs (λ s I. act I) g names left later end
  fitting end performs = goes_on g names left left later act one goes end performs

  pub all_fitting : {E : Type 0} (r : Result PrimEnd E) → IfOk r (Performs (λ s I. one I) g names left later) → IfOk r (Performs (λ s I. act I) g names left later)
  all_fitting r performs = all_go_on g names left left later act one goes r performs

-- ---- the methods

abbrev pub called : ArrayRow → ArrayRef → List Value → Site → Telling → Act
called row a args s I = array_act s (array_row_seen row).1 (tell I (v.Array a)) (map (tell I) args)

module _ (a : ArrayRef) (args : List Value) (row : ArrayRow) (g : Held) (names : List Text) (left later : ℕ) where
  -- a method, by what it does with the items and the argument
  pub arm : (k : ArrayRow) (act : Telling → Act) → row ≡ k → ((s : Site) (I : Telling) → called k a args s I ≡ act I) → (r : Result PrimEnd AllocError) → IfOk r (Performs (λ s I. act I) g names left later) → IfOk r (Performs (called row a args) g names left later)
  arm k act is same r performs = all_same g names left later (λ s I. act I) (called row a args) (λ s I. ap (λ j. called j a args s I) is ∙ same s I) r performs

  -- a method that gives a value
  pub value_arm : (k : ArrayRow) (value : Telling → told.Value) → row ≡ k → ((s : Site) (I : Telling) → called k a args s I ≡ gives (value I)) → (x : Value) → left ≡ later → ((I : Telling) → Fits I names g → value I ≡ tell I x) → IsIn (sizes_of g) x → Performs (called row a args) g names left later (e.Value x)
  value_arm k value is same x none told held = record {
    told = λ s I p fit agrees l.
        ap (λ j. called j a args s I p) is ∙ ap (λ (act : Act). act p) (same s I) ∙ ap (λ u. gives u p) (told I fit) ∙ ap (λ n. gives (tell I x) (record p { left = n })) (l ∙ none);
    held = held;
    done = tt;
  }

-- ---- items that are kept

pub map-kept : {A : Type 0} (f : A → told.Value) (b : Bool) (xs : List A) (x : A) → map f (cond b xs (xs ++ x ∷ [])) ≡ kept_unless (f x) (map f xs) (told.truth b)
map-kept f true xs x = refl
map-kept f false xs x = map-append f xs (x ∷ [])

pub All-kept : {A : Type 0} (P : A → Type 0) (b : Bool) (xs : List A) (x : A) → All P xs → P x → All P (cond b xs (xs ++ x ∷ []))
All-kept P true xs x all one = all
All-kept P false xs x all one = All-push P xs x all one

-- the next item is compared with those that are kept, or with others
module _ (I : Telling) (xs kept : List Value) (i : ℕ) (x : Value) (lt : i < length xs) (at : x ≡ get_or xs i v.Nil) (p : Point) (later : ℕ) (answer : Option Bool) where
  pub uniques-step : among (tell I x) (map (tell I) kept) p ≡ answer_seen answer (record p { left = later }) → uniques (map (tell I) kept) (map (tell I) (drop i xs)) p ≡ continued (go_on (λ found. uniques (kept_unless (tell I x) (map (tell I) kept) found) (map (tell I) (drop (i + 1) xs)))) (answer_seen answer (record p { left = later }))
  uniques-step ends =
      ap (λ ys. uniques (map (tell I) kept) (map (tell I) ys) p) (drop-read xs i x lt at)
      ∙ ap (continued (go_on (λ found. uniques (kept_unless (tell I x) (map (tell I) kept) found) (map (tell I) (drop (i + 1) xs))))) ends

  pub without-step : (others : List told.Value) → among (tell I x) others p ≡ answer_seen answer (record p { left = later }) → without_items others (map (tell I) kept) (map (tell I) (drop i xs)) p ≡ continued (go_on (λ found. without_items others (kept_unless (tell I x) (map (tell I) kept) found) (map (tell I) (drop (i + 1) xs)))) (answer_seen answer (record p { left = later }))
  without-step others ends =
      ap (λ ys. without_items others (map (tell I) kept) (map (tell I) ys) p) (drop-read xs i x lt at)
      ∙ ap (continued (go_on (λ found. without_items others (kept_unless (tell I x) (map (tell I) kept) found) (map (tell I) (drop (i + 1) xs))))) ends

-- ---- items at places

pub item-up : (vs : List told.Value) (z : ℤ) (n : ℕ) → z ≡ pos n → item_at z vs ≡ get_or vs n told.nil
item-up vs z n e = ap (λ y. item_at y vs) e

pub item-past : (vs : List told.Value) (z : ℤ) → z <ℤ pos 0 → length vs < unsigned_abs z → item_at z vs ≡ told.nil
item-past vs (pos n) low past = absurd (omega (arith, ints))
item-past vs (negsuc n) low past = ap (λ b. cond b (get_or vs (length vs - suc n) told.nil) told.nil) (le-ltb n (length vs) (omega (arith, past)))

pub item-within : (vs : List told.Value) (z : ℤ) → z <ℤ pos 0 → unsigned_abs z ≤ length vs → item_at z vs ≡ get_or vs (length vs - unsigned_abs z) told.nil
item-within vs (pos n) low within = absurd (omega (arith, ints))
item-within vs (negsuc n) low within = ap (λ b. cond b (get_or vs (length vs - suc n) told.nil) told.nil) (lt-ltb n (length vs) (omega (arith, within)))

last-of : (d e : told.Value) (v : told.Value) (vs : List told.Value) → last_value e (v ∷ vs) ≡ get_or (v ∷ vs) (length vs) d
last-of d e v [] = refl
last-of d e v (u ∷ us) = last-of d v u us

pub last-is : (vs : List told.Value) → last_value told.nil vs ≡ get_or vs (length vs - 1) told.nil
last-is [] = refl
last-is (v ∷ vs) = last-of told.nil told.nil v vs ∙ ap (λ n. get_or (v ∷ vs) n told.nil) (omega arith)

-- ---- lists that are made of items

module _ {A B : Type 0} (f : A → B) where
  pub drop-map : (n : ℕ) (xs : List A) → drop n (map f xs) ≡ map f (drop n xs)
  drop-map zero xs = refl
  drop-map (suc n) [] = refl
  drop-map (suc n) (x ∷ xs) = drop-map n xs

  module _ (us : List B) (xs : List A) (items : us ≡ map f xs) where
    pub plus-is : (vs : List B) (ys all : List A) → vs ≡ map f ys → all ≡ xs ++ ys → us ++ vs ≡ map f all
    plus-is vs ys all others is = (λ i. items i ++ others i) ∙ sym (map-append f xs ys) ∙ ap (map f) (sym is)

    pub reversed-is : (all : List A) → all ≡ reverse xs → reverse us ≡ map f all
    reversed-is all is = ap reverse items ∙ reverse-map f xs ∙ ap (map f) (sym is)

    pub taken-is : (n : ℕ) (all : List A) → all ≡ take (min n (length xs)) xs → take n us ≡ map f all
    taken-is n all is = ap (take n) items ∙ take-map f n xs ∙ ap (map f) (sym (take_min n xs) ∙ sym is)

    pub dropped-is : (n : ℕ) (all : List A) → all ≡ drop (min n (length xs)) xs → drop n us ≡ map f all
    dropped-is n all is = ap (drop n) items ∙ drop-map n xs ∙ ap (map f) (sym (drop_min n xs) ∙ sym is)

-- ---- integers in range

pub ok-in_range : {E : Type 0} (r : Result ℤ E) (z : ℤ) → OkIff r (FitsSigned w64 z) z → IsInRange (result_ok r) z
ok-in_range (Ok x) z exact = exact
ok-in_range (Err e) z exact = exact

-- ---- counts

pub counted-is : (z : ℤ) (n : ℕ) → FitsUnsignedBits 64 z → n ≡ unsigned_abs z → z ≡ pos n
counted-is (pos m) n fits is = ap pos (sym is)
counted-is (negsuc m) n fits is = absurd fits

pub counted-up : (k : ℕ → Act) (z : ℤ) (n : ℕ) → z ≡ pos n → counted k z ≡ k n
counted-up k z n e = ap (counted k) e

pub counted-down : (k : ℕ → Act) (z : ℤ) → z <ℤ pos 0 → counted k z ≡ fails ArgumentError (codes "argument must be non-negative")
counted-down k (pos n) low = absurd (omega (arith, ints))
counted-down k (negsuc n) low = refl

-- ---- nil is left out

pub some-is : (I : Telling) (x : Value) → (x ≡ v.Nil → ⊥) → is_some_value (tell I x) ≡ true
some-is I v.Nil other = absurd (other refl)
some-is I v.True other = refl
some-is I v.False other = refl
some-is I (v.Int z) other = refl
some-is I (v.Text t) other = refl
some-is I (v.Sym n) other = refl
some-is I (v.Array a) other = refl
some-is I (v.Object o) other = refl
some-is I (v.Module m) other = refl

pub some-kept : (I : Telling) (x : Value) (b : Bool) (vs : List told.Value) → is_some_value (tell I x) ≡ not b → filter is_some_value (tell I x ∷ vs) ≡ cond b (filter is_some_value vs) (tell I x ∷ filter is_some_value vs)
some-kept I x true vs is = ap (λ a. cond a (tell I x ∷ filter is_some_value vs) (filter is_some_value vs)) is
some-kept I x false vs is = ap (λ a. cond a (tell I x ∷ filter is_some_value vs) (filter is_some_value vs)) is

pub some-step : (I : Telling) (x : Value) (b : Bool) (kept : List Value) (vs : List told.Value) → is_some_value (tell I x) ≡ not b → map (tell I) (cond b kept (kept ++ x ∷ [])) ++ filter is_some_value vs ≡ map (tell I) kept ++ filter is_some_value (tell I x ∷ vs)
some-step I x true kept vs is = ap (λ us. map (tell I) kept ++ us) (sym (some-kept I x true vs is))
some-step I x false kept vs is =
    ap (λ us. us ++ filter is_some_value vs) (map-append (tell I) kept (x ∷ []))
    ∙ append_assoc (map (tell I) kept) (tell I x ∷ []) (filter is_some_value vs)
    ∙ ap (λ us. map (tell I) kept ++ us) (sym (some-kept I x false vs is))
