-- What is made in a heap, as it is told.
use Rattle.std.proofs.Common.{◌≡◌, ℕ, ◌+◌, ◌≤◌, List, [], ◌∷◌, ◌++◌, codes, length, map, max, nat_lt, cond, Some, None, slice_get, refl, sym, ap, ◌∙◌, subst}
use Rattle.std.specs.Option.{option_map}
use Rattle.std.specs.List.{All}
use Rattle.std.proofs.lemmas.Bool.{le-ltb}
use Rattle.std.proofs.lemmas.List.{length-map}
use Rattle.std.proofs.lemmas.List.Elements.{All-head, All-tail}
use Rattle.zw_lemmas.proofs.PlaceLemmas.{slice_get-last}
use Rattle.zw_def.specs.Text.{Text}
use Rattle.zw_def_world.specs.Act.{gives, paid}
use Rattle.zw_def_world.specs.CoreClass.{RangeError}
use Rattle.zw_def_world.specs.Making.{nesting, nesting_of, max_items, max_nesting, makes_array, raises}
use Rattle.zw_def_world.specs.Value as told
use Rattle.zw_heap.specs.Change.{text_made, array_made, changed, Change}
use Rattle.zw_heap.specs.Heap.{Held, Row, with_text, with_array, nesting_from, nesting_in}
use Rattle.zw_heap.specs.Heap as heap
use Rattle.zw_heap.specs.Refusal.{array_refusal}
use Rattle.zw_heap.specs.Sound.{Stays}
use Rattle.zw_heap.specs.declared.fault.HeapRefusal.TheVariants.{TooLong, TooDeep}
use Rattle.zw_heap.specs.Telling.{Telling, Fits, OnlyAdds, tell}
use Rattle.zw_heap.specs.declared.value.Value.{Value}
use Rattle.zw_heap.specs.declared.value.Value.TheVariants as v
use Rattle.zw_calls.specs.End.{AddsValues}
use Rattle.zw_calls.specs.Flat.{IsFlat}

-- ---- texts

pub text_adds : (t : Text) (h g : Held) → g ≡ with_text t h → ((change : Change) → OnlyAdds h (changed change h)) → Stays h g → AddsValues h g
text_adds t h g made adds stays = record {
  adds = subst (OnlyAdds h) (sym made) (adds (text_made t));
  stays = stays;
  records = subst (λ (k : Held). k ≡ record h { texts = k.texts; arrays = k.arrays }) (sym made) refl;
}

pub text_made-told : (I : Telling) (names : List Text) (t : Text) (h g : Held) (n : ℕ) → g ≡ with_text t h → n ≡ length h.texts → Fits I names g → I.text n ≡ t
text_made-told I names t h g n made at fit =
    fit.texts_told n t (ap (λ (k : Held). slice_get k.texts n) made ∙ ap (slice_get (h.texts ++ t ∷ [])) at ∙ slice_get-last h.texts t)

-- ---- arrays

pub array_adds : (xs : List Value) (h g : Held) → g ≡ with_array xs h → ((change : Change) → OnlyAdds h (changed change h)) → Stays h g → AddsValues h g
array_adds xs h g made adds stays = record {
  adds = subst (OnlyAdds h) (sym made) (adds (array_made xs));
  stays = stays;
  records = subst (λ (k : Held). k ≡ record h { texts = k.texts; arrays = k.arrays }) (sym made) refl;
}

pub array_made-told : (I : Telling) (names : List Text) (xs : List Value) (h g : Held) (n : ℕ) → g ≡ with_array xs h → n ≡ length h.arrays → Fits I names g → I.array n ≡ told.array_of (map (tell I) xs)
array_made-told I names xs h g n made at fit =
    fit.arrays_told n xs (ap (λ (k : Held). option_map (λ (r : Row). r.items) (slice_get k.arrays n)) made ∙ ap (λ m. option_map (λ (r : Row). r.items) (slice_get (h.arrays ++ heap.row xs (heap.nesting_of h xs) ∷ []) m)) at ∙ ap (option_map (λ (r : Row). r.items)) (slice_get-last h.arrays (heap.row xs (heap.nesting_of h xs))))

-- ---- items that are no arrays

flat_in : (rows : List Row) (x : Value) → IsFlat x → nesting_in rows x ≡ 0
flat_in rows v.Nil flat = refl
flat_in rows v.True flat = refl
flat_in rows v.False flat = refl
flat_in rows (v.Int z) flat = refl
flat_in rows (v.Text t) flat = refl
flat_in rows (v.Sym n) flat = refl
flat_in rows (v.Array a) flat = absurd flat
flat_in rows (v.Object o) flat = refl
flat_in rows (v.Module m) flat = refl

flat_told : (I : Telling) (x : Value) → IsFlat x → nesting (tell I x) ≡ 0
flat_told I v.Nil flat = refl
flat_told I v.True flat = refl
flat_told I v.False flat = refl
flat_told I (v.Int z) flat = refl
flat_told I (v.Text t) flat = refl
flat_told I (v.Sym n) flat = refl
flat_told I (v.Array a) flat = absurd flat
flat_told I (v.Object o) flat = refl
flat_told I (v.Module m) flat = refl

pub flat-nesting : (rows : List Row) (xs : List Value) → All IsFlat xs → nesting_from rows 1 xs ≡ 1
flat-nesting rows [] flat = refl
flat-nesting rows (x ∷ xs) flat = ap (λ n. nesting_from rows (max 1 (n + 1)) xs) (flat_in rows x (All-head IsFlat x xs flat)) ∙ flat-nesting rows xs (All-tail IsFlat x xs flat)

pub flat-told : (I : Telling) (xs : List Value) → All IsFlat xs → nesting_of 1 (told.array_of (map (tell I) xs)) ≡ 1
flat-told I [] flat = refl
flat-told I (x ∷ xs) flat = ap (λ n. nesting_of (max 1 (n + 1)) (told.array_of (map (tell I) xs))) (flat_told I x (All-head IsFlat x xs flat)) ∙ flat-told I xs (All-tail IsFlat x xs flat)

pub flat-refusal : (h : Held) (xs : List Value) → All IsFlat xs → length xs ≤ max_items → array_refusal h xs ≡ None
flat-refusal h xs flat few =
    ap (λ b. cond b (Some TooLong) (cond (nat_lt max_nesting (heap.nesting_of h xs)) (Some TooDeep) None)) (le-ltb max_items (length xs) few)
    ∙ ap (λ n. cond (nat_lt max_nesting n) (Some TooDeep) None) (flat-nesting h.arrays xs flat)

-- an array that is not refused costs a step for each item
pub flat-makes : (I : Telling) (xs : List Value) → All IsFlat xs → length xs ≤ max_items → makes_array (map (tell I) xs) ≡ paid (length xs) (gives (told.array (told.array_of (map (tell I) xs))))
flat-makes I xs flat few =
    let ys = map (tell I) xs in
    let long = raises RangeError (codes "array too long") in
    let deep = raises RangeError (codes "array nested too deep") in
    let made = gives (told.array (told.array_of ys)) in
    ap (λ n. cond (nat_lt max_items n) long (cond (nat_lt max_nesting (nesting_of 1 (told.array_of ys))) deep (paid n made))) (length-map xs (tell I))
    ∙ ap (λ b. cond b long (cond (nat_lt max_nesting (nesting_of 1 (told.array_of ys))) deep (paid (length xs) made))) (le-ltb max_items (length xs) few)
    ∙ ap (λ n. cond (nat_lt max_nesting n) deep (paid (length xs) made)) (flat-told I xs flat)
