-- Options: what they hold, what passes a test, and what stands behind their references.
use Rattle.std.proofs.Common.{◌≡◌, Bool, true, false, cond, Option, Some, None, option_map, is_some, refl, ap, ◌∙◌}
use Rattle.std.specs.Bool.{then_some}
use Rattle.std.specs.Option.{MatchOption, IsSomeAnd}

pub option_map-id : {A : Type 0} (o : Option A) → option_map (λ x. x) o ≡ o
option_map-id None = refl
option_map-id (Some x) = refl

pub option_map-twice : {A B C : Type 0} (g : A → B) (h : B → C) (o : Option A) → option_map (λ a. h (g a)) o ≡ option_map h (option_map g o)
option_map-twice g h None = refl
option_map-twice g h (Some a) = refl

-- an option that holds nothing
pub none_is : {A : Type 0} (o : Option A) → is_some o ≡ false → o ≡ None
none_is None is = refl
none_is (Some x) is = cc

pub is_some-none : {A : Type 0} (o : Option A) → ((x : A) → o ≡ Some x → ⊥) → is_some o ≡ false
is_some-none None never = refl
is_some-none (Some x) never = absurd (never x refl)

-- what an option holds, where it passes the test
abbrev pub kept : {X : Type 0} → (X → Bool) → Option X → Option X
kept test None = None
kept test (Some x) = cond (test x) (Some x) None

-- whether what an option holds passes the test
abbrev pub passes : {X : Type 0} → (X → Bool) → Option X → Bool
passes test None = false
passes test (Some x) = test x

-- what stands behind the references of an option, where P says how the one makes the other
pub behind-map : {A B C : Type 0} (f : A → C) (g : B → C) (P : A → B → Type 0) (o : Option A) (r : Option B) → MatchOption o (r ≡ None) (λ x. IsSomeAnd r (P x)) → ((x : A) (y : B) → P x y → g y ≡ f x) → option_map g r ≡ option_map f o
behind-map f g P None r h same = ap (option_map g) h
behind-map f g P (Some x) None h same = absurd h
behind-map f g P (Some x) (Some y) h same = ap Some (same x y h)

-- the answer of a test of what an option holds, where P says so of the code's
pub answered : {A B : Type 0} (g : A → B) (test : B → Bool) (P : A → Type 0) (o : Option A) (r : Bool) → MatchOption o (r ≡ false) P → ((x : A) → P x → r ≡ test (g x)) → r ≡ passes test (option_map g o)
answered g test P None r h same = h
answered g test P (Some x) r h same = same x h

-- what is left of an option, where P says of the code's what its test answers
pub left_kept : {A B : Type 0} (g : A → B) (test : B → Bool) (P : A → Bool → Type 0) (o r : Option A) → MatchOption o (r ≡ None) (λ x. (b : Bool) × P x b × (r ≡ then_some b x)) → ((x : A) (b : Bool) → P x b → b ≡ test (g x)) → option_map g r ≡ kept test (option_map g o)
left_kept g test P None r h same = ap (option_map g) h
left_kept g test P (Some x) r h same = ap (option_map g) h.2 ∙ by h.0 ∙ ap (λ b. cond b (Some (g x)) None) (same x h.0 h.1) where
  by : (b : Bool) → option_map g (then_some b x) ≡ cond b (Some (g x)) None
  by true = refl
  by false = refl
