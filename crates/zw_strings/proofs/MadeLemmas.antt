-- Texts that are made in a heap, and then their array.
use Rattle.std.proofs.Common.{◌≡◌, ◌<◌, ◌≤◌, ◌+◌, ◌-◌, ℕ, suc, false, true, List, [], ◌∷◌, ◌++◌, length, map, take, get_or, string_bytes, String, Global, Option, Some, None, ◌⊎◌, inl, inr, sym, ap, subst, ◌∙◌, take-suc, arith}
use Rattle.std.specs.List.{All}
use Rattle.std.proofs.lemmas.Bool.{cases_lt}
use Rattle.std.proofs.lemmas.List.{get_or-map, map-append}
use Rattle.std.proofs.lemmas.List.Elements.{All-push}
use Rattle.zw_def.specs.Text.{Text}
use Rattle.zw_def_world.specs.Act.{Act, ends, gives, lost, out_of_steps}
use Rattle.zw_def_world.specs.Making.{max_items, max_text}
use Rattle.zw_def_world.specs.StringRows.{makes_pieces}
use Rattle.zw_def_world.specs.Value as told
use Rattle.zw_heap.specs.Heap.{Held, sizes_of}
use Rattle.zw_heap.specs.Sound.{IsIn}
use Rattle.zw_heap.specs.Telling.{Telling, Fits, OnlyAdds, tell}
use Rattle.zw_heap.specs.declared.value.Value.{Value}
use Rattle.zw_calls.specs.End.{Performs}
use Rattle.zw_calls.specs.declared.end.PrimEnd.{PrimEnd}
use Rattle.zw_calls.specs.declared.end.PrimEnd.TheVariants as e
use Rattle.zw_strings.specs.Pieces.{AreShort, PaysTexts}
use Rattle.zw_strings.proofs.NamingLemmas.{done-same}
use Rattle.zw_strings.proofs.PieceLemmas.{texts-made, texts-unpaid}

pub unpaid_less : (cost left : ℕ) → (cost ≤ left → false ≡ true) → left < cost
unpaid_less cost left unpaid = by (cases_lt left cost)
  where
    by : (left < cost) ⊎ (cost ≤ left) → left < cost
    by (inl less) = less
    by (inr enough) = let both : false ≡ true = unpaid enough in absurd (cc)

-- ---- one after the other

module _ (all : List (String Global)) (i : ℕ) (item : String Global) (lt : i < length all) (is : item ≡ get_or all i item) where
  pub text-at : get_or (map string_bytes all) i (string_bytes item) ≡ string_bytes item
  text-at = get_or-map string_bytes all i item (string_bytes item) lt ∙ ap string_bytes (sym is)

  pub short_at : (t : Text) → AreShort (map string_bytes all) → i < length (map string_bytes all) → t ≡ string_bytes item → length t ≤ max_text
  short_at t few within e = subst (λ u. length u ≤ max_text) (text-at ∙ sym e) (few i (string_bytes item) within)

  one-taken : take (i + 1) all ≡ take i all ++ item ∷ []
  one-taken = let e : i + 1 ≡ suc i = omega arith in ap (λ n. take n all) e ∙ take-suc all i item lt ∙ ap (λ x. take i all ++ x ∷ []) (sym is)

  pub more-told : (I : Telling) (xs ys : List Value) (x : Value) (t : Text) → ys ≡ xs ++ x ∷ [] → map (tell I) xs ≡ map told.text (map string_bytes (take i all)) → tell I x ≡ told.text t → t ≡ string_bytes item → map (tell I) ys ≡ map told.text (map string_bytes (take (i + 1) all))
  more-told I xs ys x t pushed before made e =
      ap (map (tell I)) pushed ∙ map-append (tell I) xs (x ∷ [])
      ∙ (λ j. before j ++ (made ∙ ap told.text e) j ∷ [])
      ∙ sym (ap (λ us. map told.text (map string_bytes us)) one-taken ∙ ap (map told.text) (map-append string_bytes (take i all) (item ∷ [])) ∙ map-append told.text (map string_bytes (take i all)) (string_bytes item ∷ []))

pub more_all : (P : Value → Type 0) (xs ys : List Value) (x : Value) → ys ≡ xs ++ x ∷ [] → All P xs → P x → All P ys
more_all P xs ys x pushed all one = subst (All P) (sym pushed) (All-push P xs x all one)

-- ---- the end of the call

module _ (ts : List Text) (names : List Text) (left later : ℕ) (o : Option PrimEnd) (pays : PaysTexts ts left later o) where
  abbrev call : Act
  call = makes_pieces [] ts

  pub unpaid_performs : (h : Held) (end : PrimEnd) → o ≡ Some end → Performs (λ s I. call) h names left later end
  unpaid_performs h end is =
      let ended = subst (PaysTexts ts left later) is pays in
      record {
        told = λ s I p fit agrees e. ended.2 [] I p e ∙ ap (λ (act : Act). act (record p { left = later })) (done-same I (ends lost) call end ended.0);
        held = ended.1 (sizes_of h);
        done = ended.0;
      }

  pub unpaid_array_performs : (h : Held) (now : ℕ) → o ≡ None → length ts ≤ max_items → later < length ts → now ≡ later → Performs (λ s I. call) h names left now e.Budget
  unpaid_array_performs h now is few less stays =
      let paid = subst (PaysTexts ts left later) is pays in
      record {
        told = λ s I p fit agrees e. paid.1 [] p e ∙ texts-unpaid ts (record p { left = later }) few less ∙ ap (λ n. ends out_of_steps (record p { left = n })) (sym stays);
        held = tt;
        done = tt;
      }

  pub array_performs : (g h : Held) (now : ℕ) (xs : List Value) (x : Value) → o ≡ None → length ts ≤ max_items → length ts ≤ later → now ≡ later - length ts → OnlyAdds g h → ((I : Telling) (known : List Text) → Fits I known g → map (tell I) xs ≡ map told.text ts) → ((I : Telling) (known : List Text) → Fits I known h → tell I x ≡ told.array (told.array_of (map (tell I) xs))) → IsIn (sizes_of h) x → Performs (λ s I. call) h names left now (e.Value x)
  array_performs g h now xs x is few enough costs adds items array held =
      let paid = subst (PaysTexts ts left later) is pays in
      record {
        told = λ s I p fit agrees e.
            let value : told.array (told.array_of (map told.text ts)) ≡ tell I x = sym (array I names fit ∙ ap (λ vs. told.array (told.array_of vs)) (items I names (adds I names fit))) in
            paid.1 [] p e ∙ texts-made ts (record p { left = later }) few enough
            ∙ ap (λ v. gives v (record p { left = later - length ts })) value ∙ ap (λ n. gives (tell I x) (record p { left = n })) (sym costs);
        held = held;
        done = tt;
      }
