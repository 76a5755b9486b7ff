-- Overrides of the code as those of the definition.
use Rattle.std.proofs.Common.{◌≡◌, Bool, true, false, cond, List, [], ◌∷◌, map, find, Some, option_map, refl, ap, sym, ◌∙◌, if◌then◌else◌, String, Global, string_bytes}
use Rattle.std.specs.List.{AllZip}
use Rattle.std.specs.Map.{lookup}
use Rattle.std.specs.Str.{bytes_eq}
use Rattle.std.specs.String.{string_eq}
use Rattle.std.proofs.lemmas.Slice.Eq.{bytes_eq-Decides}
use Rattle.indexmap.specs.IndexMap.{insert_entry}
use Rattle.zw_lemmas.proofs.TextLemmas.{same_text, bytes_eq-other}
use Rattle.zw_def.specs.Text.{Text}
use Rattle.zw_def.specs.Inflector.{override_of}
use Rattle.zw_inflect.specs.Overrides.{with_override}

abbrev pub Pair : Type 0
Pair = String Global × String Global

abbrev pub pair_seen : Pair → Text × Text
pair_seen p = (string_bytes p.0, string_bytes p.1)

bytes_eq-turned : (a b : Text) → bytes_eq a b ≡ bytes_eq b a
bytes_eq-turned a b = by (bytes_eq a b) refl where
  by : (t : Bool) → bytes_eq a b ≡ t → bytes_eq a b ≡ bytes_eq b a
  by true e = e ∙ sym ((bytes_eq-Decides b a).1 (sym (same_text a b e)))
  by false e = e ∙ sym (bytes_eq-other b a (λ same. let wrong : true ≡ false = sym ((bytes_eq-Decides a b).1 (sym same)) ∙ e in cc))

pub override_of-seen : (base : Text) (pairs : List Pair) → override_of (map pair_seen pairs) base ≡ option_map string_bytes (lookup (λ k. bytes_eq base (string_bytes k)) pairs)
override_of-seen base [] = refl
override_of-seen base (p ∷ ps) =
    ap (λ b. option_map (λ (o : Text × Text). o.1) (cond b (Some (pair_seen p)) (find (λ o. bytes_eq o.0 base) (map pair_seen ps)))) (bytes_eq-turned (string_bytes p.0) base)
    ∙ by (bytes_eq base (string_bytes p.0)) (override_of-seen base ps)
  where
    by : (b : Bool) → override_of (map pair_seen ps) base ≡ option_map string_bytes (lookup (λ k. bytes_eq base (string_bytes k)) ps)
        → option_map (λ (o : Text × Text). o.1) (cond b (Some (pair_seen p)) (find (λ o. bytes_eq o.0 base) (map pair_seen ps))) ≡ option_map string_bytes (cond b (Some p.1) (lookup (λ k. bytes_eq base (string_bytes k)) ps))
    by true rest = refl
    by false rest = rest

pub with_override-seen : (pairs : List Pair) (key value : String Global) → map pair_seen (insert_entry string_eq pairs key value) ≡ with_override (map pair_seen pairs) (string_bytes key) (string_bytes value)
with_override-seen [] key value = refl
with_override-seen (p ∷ ps) key value = by (bytes_eq (string_bytes key) (string_bytes p.0)) (with_override-seen ps key value) where
  by : (b : Bool) → map pair_seen (insert_entry string_eq ps key value) ≡ with_override (map pair_seen ps) (string_bytes key) (string_bytes value)
      → map pair_seen (if b then (p.0, value) ∷ ps else p ∷ insert_entry string_eq ps key value) ≡ (if b then (string_bytes p.0, string_bytes value) ∷ map pair_seen ps else pair_seen p ∷ with_override (map pair_seen ps) (string_bytes key) (string_bytes value))
  by true rest = refl
  by false rest = ap (λ os. pair_seen p ∷ os) rest

-- copies of the pairs are seen as they are
pub seen-copied : (pairs copies : List Pair) → AllZip (λ p q. (string_bytes q.0 ≡ string_bytes p.0) × (string_bytes q.1 ≡ string_bytes p.1)) pairs copies → map pair_seen copies ≡ map pair_seen pairs
seen-copied [] [] same = refl
seen-copied [] (q ∷ qs) same = absurd same
seen-copied (p ∷ ps) [] same = absurd same
seen-copied (p ∷ ps) (q ∷ qs) same = λ i. (same.0.0 i, same.0.1 i) ∷ seen-copied ps qs same.1 i
