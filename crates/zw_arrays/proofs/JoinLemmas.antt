-- Texts that are joined item by item.
use Rattle.std.proofs.Common.{◌≡◌, ℕ, zero, suc, ◌+◌, ◌<◌, List, [], ◌∷◌, ◌++◌, length, get_or, map, drop, Option, Some, None, Result, Ok, Err, refl, sym, ap, subst, ◌∙◌, arith, append_assoc}
use Rattle.std.specs.Option.{option_map}
use Rattle.std.specs.List.{All}
use Rattle.std.proofs.lemmas.List.{append-nil, length-append}
use Rattle.std.proofs.lemmas.List.Elements.{All-head, All-tail, All-drop}
use Rattle.std.specs.Result.{IsErrAnd}
use Rattle.std.proofs.lemmas.Result.{err_from_is_err_and}
use Rattle.zw_base.specs.Fault.{IfReason, IfRefused}
use Rattle.zw_base.specs.declared.fault.Fault.{Fault}
use Rattle.zw_base.specs.declared.fault.Fault.TheVariants.{Refused, Memory}
use Rattle.zw_def.specs.Text.{Text}
use Rattle.zw_def_world.specs.ArrayRows.{join_texts, joined_by}
use Rattle.zw_def_world.specs.Inspect.{built_in}
use Rattle.zw_def_world.specs.Making.{max_text}
use Rattle.zw_def_world.specs.Missing.{bind}
use Rattle.zw_def_world.specs.Value as told
use Rattle.zw_def_world.specs.World.{World}
use Rattle.zw_heap.specs.Telling.{Telling, tell}
use Rattle.zw_heap.specs.declared.value.Value.{Value}
use Rattle.zw_heap.specs.declared.value.Value.TheVariants as v
use Rattle.zw_arrays.specs.Joined.{separated}
use Rattle.zw_arrays.proofs.BuiltInLemmas.{IsThere}
use Rattle.zw_arrays.proofs.EqualityLemmas.{drop-read}

-- ---- refusals that are handed on

refused-for : {E : Type 0} (f : Fault E) (P Q : Type 0) → (P → Q) → IfReason f (λ refusal. P) → IfReason f (λ refusal. Q)
refused-for (Refused refusal) P Q follows holds = follows holds
refused-for Memory P Q follows holds = holds

-- a call that refuses for the reason of another one
pub handed-on : {X E : Type 0} (r : Result X (Fault E)) (f : Fault E) (P Q : Type 0) → IsErrAnd r (λ e. e ≡ f) → (P → Q) → IfReason f (λ refusal. P) → IfRefused r (λ refusal. Q)
handed-on r f P Q is follows holds =
    let err = err_from_is_err_and {Q = λ e. e ≡ f} r is in
    subst (λ s. IfRefused s (λ refusal. Q)) (sym (err.1 ∙ ap Err err.2)) (refused-for f P Q follows holds)

-- ---- texts of items

-- the texts of items from that place on
abbrev pub joined_from : World → Text → ℕ → List told.Value → Option Text
joined_from w separator zero vs = join_texts w separator vs
joined_from w separator (suc n) vs = joined_by w separator vs

-- ... behind a text so far
abbrev pub joined_behind : World → Text → Text → ℕ → List told.Value → Option Text
joined_behind w separator front n vs = option_map (λ more. front ++ more) (joined_from w separator n vs)

module _ (w : World) (separator : Text) where
  from-nil : (n : ℕ) → joined_from w separator n [] ≡ Some []
  from-nil zero = refl
  from-nil (suc n) = refl

  pub behind-nil : (front : Text) (n : ℕ) → joined_behind w separator front n [] ≡ Some front
  behind-nil front n = ap (option_map (λ more. front ++ more)) (from-nil n) ∙ ap Some (append-nil front)

  from-item : (n : ℕ) (v : told.Value) (vs : List told.Value) → joined_from w separator n (v ∷ vs) ≡ bind (built_in w v) (λ t. option_map (λ more. separated separator n ++ t ++ more) (joined_by w separator vs))
  from-item zero v vs = refl
  from-item (suc n) v vs = refl

  pub behind-item : (front : Text) (n : ℕ) (v : told.Value) (vs : List told.Value) (t : Text) → built_in w v ≡ Some t → joined_behind w separator front n (v ∷ vs) ≡ joined_behind w separator (front ++ separated separator n ++ t) (suc n) vs
  behind-item front n v vs t is =
      ap (option_map (λ more. front ++ more)) (from-item n v vs ∙ ap (λ o. bind o (λ u. option_map (λ more. separated separator n ++ u ++ more) (joined_by w separator vs))) is)
      ∙ by (joined_by w separator vs)
    where
      by : (o : Option Text) → option_map (λ more. front ++ more) (option_map (λ more. separated separator n ++ t ++ more) o) ≡ option_map (λ more. (front ++ separated separator n ++ t) ++ more) o
      by None = refl
      by (Some more) = ap Some (sym (append_assoc front (separated separator n ++ t) more) ∙ ap (λ u. u ++ more) (sym (append_assoc front (separated separator n) t)))

  -- texts that are there are joined
  there-joined : (I : Telling) (xs : List Value) → All (λ x. IsThere (built_in w (tell I x))) xs → IsThere (joined_by w separator (map (tell I) xs))
  there-joined I [] all = ([], refl)
  there-joined I (x ∷ xs) all =
      let here = All-head (λ y. IsThere (built_in w (tell I y))) x xs all in
      let later = there-joined I xs (All-tail (λ y. IsThere (built_in w (tell I y))) x xs all) in (
        separator ++ here.0 ++ later.0,
        ap (λ o. bind o (λ t. option_map (λ more. separator ++ t ++ more) (joined_by w separator (map (tell I) xs)))) here.1
            ∙ ap (option_map (λ more. separator ++ here.0 ++ more)) later.1,
      )

  -- a text so far that is too long only becomes longer
  pub behind-long : (I : Telling) (front : Text) (n : ℕ) (xs : List Value) → All (λ x. IsThere (built_in w (tell I x))) xs → max_text < length front → (t : Text) × (joined_behind w separator front (suc n) (map (tell I) xs) ≡ Some t) × (max_text < length t)
  behind-long I front n xs all long =
      let later = there-joined I xs all in
      let sizes = length-append front later.0 in
      (front ++ later.0, ap (option_map (λ more. front ++ more)) later.1, omega (arith, long, sizes))

-- nothing so far
pub behind-start : (o : Option Text) → o ≡ option_map (λ more. [] ++ more) o
behind-start None = refl
behind-start (Some t) = refl

-- the next item is joined behind the text so far
module _ (w : World) (separator : Text) (I : Telling) (xs : List Value) (i : ℕ) (x : Value) (lt : i < length xs) (at : x ≡ get_or xs i v.Nil) (front written later t : Text) (separates : written ≡ front ++ separated separator i) (writes : later ≡ written ++ t) (is : built_in w (tell I x) ≡ Some t) where
  pub behind-next : joined_behind w separator front i (map (tell I) (drop i xs)) ≡ joined_behind w separator later (i + 1) (map (tell I) (drop (i + 1) xs))
  behind-next =
      let next : i + 1 ≡ suc i = omega arith in
      let whole : later ≡ front ++ separated separator i ++ t = writes ∙ ap (λ u. u ++ t) separates in
      ap (λ ys. joined_behind w separator front i (map (tell I) ys)) (drop-read xs i x lt at)
      ∙ behind-item w separator front i (tell I x) (map (tell I) (drop (i + 1) xs)) t is
      ∙ (λ j. joined_behind w separator (sym whole j) (sym next j) (map (tell I) (drop (i + 1) xs)))

  pub next-long : All (λ y. IsThere (built_in w (tell I y))) xs → max_text < length later → (u : Text) × (joined_behind w separator front i (map (tell I) (drop i xs)) ≡ Some u) × (max_text < length u)
  next-long all long =
      let next : suc i ≡ i + 1 = omega arith in
      let rest = behind-long w separator I later i (drop (i + 1) xs) (All-drop (λ y. IsThere (built_in w (tell I y))) (i + 1) xs all) long in
      (rest.0, behind-next ∙ (λ j. joined_behind w separator later (sym next j) (map (tell I) (drop (i + 1) xs))) ∙ rest.1, rest.2)
