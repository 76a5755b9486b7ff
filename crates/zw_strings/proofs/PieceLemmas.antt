-- Texts that are paid, one after the other, to stand in an array.
use Rattle.std.proofs.Common.{◌≡◌, ◌<◌, ◌≤◌, ◌+◌, ◌-◌, ◌/◌, ℕ, suc, List, [], ◌∷◌, ◌++◌, length, map, take, drop, get_or, nat_lt, cond, codes, None, refl, sym, ap, subst, ◌∙◌, append-nil, append_assoc, take-suc, drop_of_length-le, arith}
use Rattle.std.specs.List.{All}
use Rattle.std.proofs.lemmas.Bool.{le-ltb, lt-ltb}
use Rattle.std.proofs.lemmas.List.{length-map, map-append, take_all}
use Rattle.std.proofs.lemmas.List.Elements.{All-push}
use Rattle.zw_lemmas.proofs.ListLemmas.{drop-at}
use Rattle.zw_def.specs.Text.{Text}
use Rattle.zw_def_world.specs.Act.{Act, Point, ends, gives, out_of_steps, paid, spending, ◌>>=◌}
use Rattle.zw_def_world.specs.CoreClass.{RangeError}
use Rattle.zw_def_world.specs.Making.{makes_array, max_items, max_nesting, max_text, nesting_of, pays_text, raises, too_long}
use Rattle.zw_def_world.specs.StringRows.{makes_pieces}
use Rattle.zw_def_world.specs.Value as told
use Rattle.zw_strings.specs.Pieces.{PaysTexts}

module _ (made : List told.Value) (t : Text) (ts : List Text) (p : Point) where
  abbrev goes_on : Act → Act
  goes_on m = m >>= (λ v. makes_pieces (made ++ v ∷ []) ts)

  short : length t ≤ max_text → makes_pieces made (t ∷ ts) p ≡ goes_on (pays_text t) p
  short few = ap (λ b. goes_on (cond b too_long (pays_text t)) p) (le-ltb max_text (length t) few)

  pub piece-paid : length t ≤ max_text → length t / 64 ≤ p.left → makes_pieces made (t ∷ ts) p ≡ makes_pieces (made ++ told.text t ∷ []) ts (record p { left = p.left - length t / 64 })
  piece-paid few enough = short few ∙ ap (λ b. goes_on (cond b (ends out_of_steps) (spending (length t / 64) (gives (told.text t)))) p) (le-ltb p.left (length t / 64) enough)

  pub piece-unpaid : length t ≤ max_text → p.left < length t / 64 → makes_pieces made (t ∷ ts) p ≡ ends out_of_steps p
  piece-unpaid few less = short few ∙ ap (λ b. goes_on (cond b (ends out_of_steps) (spending (length t / 64) (gives (told.text t)))) p) (lt-ltb p.left (length t / 64) less)

  pub piece-long : max_text < length t → makes_pieces made (t ∷ ts) p ≡ too_long p
  piece-long long = ap (λ b. goes_on (cond b too_long (pays_text t)) p) (lt-ltb max_text (length t) long)

-- ---- so many of them

-- the first i of the texts are paid
pub record PaidFor (all : List Text) (i left later : ℕ) : Type 0 where
  pub few : All (λ t. length t ≤ max_text) (take i all)
  pub pays : (made : List told.Value) (p : Point) → p.left ≡ left → makes_pieces made all p ≡ makes_pieces (made ++ map told.text (take i all)) (drop i all) (record p { left = later })

pub none_paid : (all : List Text) (left : ℕ) → PaidFor all 0 left left
none_paid all left = record {
  few = λ k d lt. absurd (omega (arith, lt));
  pays = λ made p e. ap (λ vs. makes_pieces vs all p) (sym (append-nil made)) ∙ ap (λ n. makes_pieces (made ++ []) all (record p { left = n })) e;
}

module _ (all : List Text) (i left later : ℕ) (t : Text) (lt : i < length all) (is : get_or all i t ≡ t) (paid : PaidFor all i left later) where
  at : drop i all ≡ t ∷ drop (i + 1) all
  at = drop-at all i (i + 1) t lt (omega arith) ∙ ap (λ u. u ∷ drop (i + 1) all) is

  taken : take (i + 1) all ≡ take i all ++ t ∷ []
  taken = let e : i + 1 ≡ suc i = omega arith in ap (λ n. take n all) e ∙ take-suc all i t lt ∙ ap (λ u. take i all ++ u ∷ []) is

  pub one_more_paid : length t ≤ max_text → length t / 64 ≤ later → PaidFor all (i + 1) left (later - length t / 64)
  one_more_paid few enough =
      record {
        few = subst (All (λ t. length t ≤ max_text)) (sym taken) (All-push (λ t. length t ≤ max_text) (take i all) t paid.few few);
        pays = λ made p e.
            let front = made ++ map told.text (take i all) in
            paid.pays made p e
            ∙ ap (λ ts. makes_pieces front ts (record p { left = later })) at
            ∙ piece-paid front t (drop (i + 1) all) (record p { left = later }) few enough
            ∙ ap (λ vs. makes_pieces vs (drop (i + 1) all) (record p { left = later - length t / 64 })) (append_assoc made (map told.text (take i all)) (told.text t ∷ []))
            ∙ ap (λ vs. makes_pieces (made ++ vs) (drop (i + 1) all) (record p { left = later - length t / 64 })) (sym (map-append told.text (take i all) (t ∷ [])) ∙ ap (map told.text) (sym taken));
      }

  pub ends_long : max_text < length t → (act : Act) → ((p : Point) → too_long p ≡ act p) → (made : List told.Value) (p : Point) → p.left ≡ left → makes_pieces made all p ≡ act (record p { left = later })
  ends_long long act same made p e =
      paid.pays made p e
      ∙ ap (λ ts. makes_pieces (made ++ map told.text (take i all)) ts (record p { left = later })) at
      ∙ piece-long (made ++ map told.text (take i all)) t (drop (i + 1) all) (record p { left = later }) long
      ∙ same (record p { left = later })

  pub ends_unpaid : length t ≤ max_text → later < length t / 64 → (made : List told.Value) (p : Point) → p.left ≡ left → makes_pieces made all p ≡ ends out_of_steps (record p { left = later })
  ends_unpaid few less made p e =
      paid.pays made p e
      ∙ ap (λ ts. makes_pieces (made ++ map told.text (take i all)) ts (record p { left = later })) at
      ∙ piece-unpaid (made ++ map told.text (take i all)) t (drop (i + 1) all) (record p { left = later }) few less

pub all_paid : (all : List Text) (i left later : ℕ) → i ≡ length all → PaidFor all i left later → PaysTexts all left later None
all_paid all i left later e paid = (
  subst (All (λ t. length t ≤ max_text)) whole paid.few,
  λ made p l.
      paid.pays made p l
      ∙ ap (λ ts. makes_pieces (made ++ map told.text ts) (drop i all) (record p { left = later })) whole
      ∙ ap (λ ts. makes_pieces (made ++ map told.text all) ts (record p { left = later })) (drop_of_length-le all (omega (arith, e))),
)
  where
    whole : take i all ≡ all
    whole = take_all i all (omega (arith, e))

-- ---- their array

texts-nesting : (ts : List Text) → nesting_of 1 (told.array_of (map told.text ts)) ≡ 1
texts-nesting [] = refl
texts-nesting (t ∷ ts) = texts-nesting ts

module _ (ts : List Text) (p : Point) where
  abbrev vs : List told.Value
  vs = map told.text ts

  abbrev end : Act
  end = gives (told.array (told.array_of vs))

  few_paid : length ts ≤ max_items → makes_array vs p ≡ paid (length ts) end p
  few_paid few =
      ap (λ n. cond (nat_lt max_items n) (raises RangeError (codes "array too long")) (cond (nat_lt max_nesting (nesting_of 1 (told.array_of vs))) (raises RangeError (codes "array nested too deep")) (paid n end)) p) (length-map ts told.text)
      ∙ ap (λ b. cond b (raises RangeError (codes "array too long")) (cond (nat_lt max_nesting (nesting_of 1 (told.array_of vs))) (raises RangeError (codes "array nested too deep")) (paid (length ts) end)) p) (le-ltb max_items (length ts) few)
      ∙ ap (λ n. cond (nat_lt max_nesting n) (raises RangeError (codes "array nested too deep")) (paid (length ts) end) p) (texts-nesting ts)

  pub texts-unpaid : length ts ≤ max_items → p.left < length ts → makes_array vs p ≡ ends out_of_steps p
  texts-unpaid few less = few_paid few ∙ ap (λ b. cond b (ends out_of_steps) (spending (length ts) end) p) (lt-ltb p.left (length ts) less)

  pub texts-made : length ts ≤ max_items → length ts ≤ p.left → makes_array vs p ≡ end (record p { left = p.left - length ts })
  texts-made few enough = few_paid few ∙ ap (λ b. cond b (ends out_of_steps) (spending (length ts) end) p) (le-ltb p.left (length ts) enough)
