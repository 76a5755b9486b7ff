-- Patterns: the test says that there is a way to cut the path so; and matching through the texts of components.
use Rattle.std.proofs.Common.{◌≡◌, ◌↔◌, Bool, true, false, ◌&&◌, ◌||◌, cond, eqb, List, [], ◌∷◌, ◌++◌, map, MatchBool, refl, ap, sym, subst, ◌∙◌, eq-eqb}
use Rattle.std.proofs.lemmas.Bool.{eqb-true, and_parts, or_left, or_right}
use Rattle.zw_def.specs.Path.{Path}
use Rattle.zw_def.specs.Text.{Text}
use Rattle.zw_def.specs.Pattern.{Cuts, can_cut, some_rest, first_and_rest, is_star, is_double_star, PartStandsFor, StandsFor, matches_part, matches}

module _ {X : Type 0} (test : List X → Bool) where
  pub rest_here : (xs : List X) → test xs ≡ true → some_rest test xs ≡ true
  rest_here [] e = e
  rest_here (x ∷ xs) e = or_left (test (x ∷ xs)) (some_rest test xs) e

  cut_from_rest : (xs : List X) → some_rest test xs ≡ true → (run : List X) × (rest : List X) × (xs ≡ run ++ rest) × (test rest ≡ true)
  cut_from_rest [] e = ([], [], refl, e)
  cut_from_rest (x ∷ xs) e = at (test (x ∷ xs)) refl (cut_from_rest xs) where
    at : (b : Bool) → test (x ∷ xs) ≡ b → (some_rest test xs ≡ true → (run : List X) × (rest : List X) × (xs ≡ run ++ rest) × (test rest ≡ true)) → (run : List X) × (rest : List X) × (x ∷ xs ≡ run ++ rest) × (test rest ≡ true)
    at true h more = ([], x ∷ xs, refl, h)
    at false h more =
        let (run, rest, cut, pass) = more (sym (ap (λ b. b || some_rest test xs) h) ∙ e) in
        (x ∷ run, rest, ap (λ ys. x ∷ ys) cut, pass)

  rest_from_cut : (run rest xs : List X) → xs ≡ run ++ rest → test rest ≡ true → some_rest test xs ≡ true
  rest_from_cut run rest xs cut pass = ap (some_rest test) cut ∙ at run where
    at : (front : List X) → some_rest test (front ++ rest) ≡ true
    at [] = rest_here rest pass
    at (y ∷ ys) = or_right (test (y ∷ (ys ++ rest))) (some_rest test (ys ++ rest)) (at ys)

module _ {P X : Type 0} (star : P → Bool) (fits : P → X → Bool) (Fits : P → X → Type 0) where
  abbrev Run : List P → List X → Type 0
  Run ps xs = (run : List X) × (rest : List X) × (xs ≡ run ++ rest) × Cuts star Fits ps rest

  abbrev One : P → List P → List X → Type 0
  One p ps xs = (x : X) × (rest : List X) × (xs ≡ x ∷ rest) × Fits p x × Cuts star Fits ps rest

  abbrev chosen : P → List P → List X → Bool → Bool
  chosen p ps xs s = cond s (some_rest (can_cut star fits ps) xs) (first_and_rest (fits p) (can_cut star fits ps) xs)

  first_from_test : ((p : P) (x : X) → fits p x ≡ true → Fits p x) → (p : P) (ps : List P) → ((ys : List X) → can_cut star fits ps ys ≡ true → Cuts star Fits ps ys) → (xs : List X) → first_and_rest (fits p) (can_cut star fits ps) xs ≡ true → One p ps xs
  first_from_test f p ps more [] e = cc
  first_from_test f p ps more (x ∷ xs) e =
      let pass = and_parts (fits p x) (can_cut star fits ps xs) e in
      (x, xs, refl, f p x pass.0, more xs pass.1)

  cuts_from_test : ((p : P) (x : X) → fits p x ≡ true → Fits p x) → (ps : List P) (xs : List X) → can_cut star fits ps xs ≡ true → Cuts star Fits ps xs
  cuts_from_test f [] [] e = refl
  cuts_from_test f [] (x ∷ xs) e = cc
  cuts_from_test f (p ∷ ps) xs e = at (star p) refl (cuts_from_test f ps) where
    at : (s : Bool) → star p ≡ s → ((ys : List X) → can_cut star fits ps ys ≡ true → Cuts star Fits ps ys) → MatchBool (star p) (Run ps xs) (One p ps xs)
    at true s more =
        let (run, rest, cut, pass) = cut_from_rest (can_cut star fits ps) xs (sym (ap (chosen p ps xs) s) ∙ e) in
        subst (λ b. MatchBool b (Run ps xs) (One p ps xs)) (sym s) (run, rest, cut, more rest pass)
    at false s more =
        subst (λ b. MatchBool b (Run ps xs) (One p ps xs)) (sym s) (first_from_test f p ps more xs (sym (ap (chosen p ps xs) s) ∙ e))

  test_from_cuts : ((p : P) (x : X) → Fits p x → fits p x ≡ true) → (ps : List P) (xs : List X) → Cuts star Fits ps xs → can_cut star fits ps xs ≡ true
  test_from_cuts f [] xs c = ap (can_cut star fits []) c
  test_from_cuts f (p ∷ ps) xs c = at (star p) refl (test_from_cuts f ps) where
    at : (s : Bool) → star p ≡ s → ((ys : List X) → Cuts star Fits ps ys → can_cut star fits ps ys ≡ true) → can_cut star fits (p ∷ ps) xs ≡ true
    at true s more =
        let (run, rest, cut, later) = subst (λ b. MatchBool b (Run ps xs) (One p ps xs)) s c in
        ap (chosen p ps xs) s ∙ rest_from_cut (can_cut star fits ps) run rest xs cut (more rest later)
    at false s more =
        let (x, rest, cut, fit, later) = subst (λ b. MatchBool b (Run ps xs) (One p ps xs)) s c in
        ap (chosen p ps xs) s ∙ ap (first_and_rest (fits p) (can_cut star fits ps)) cut ∙ (λ i. f p x fit i && more rest later i)

part_cut : (p t : Text) → (matches_part p t ≡ true) ↔ PartStandsFor p t
part_cut p t = (
  cuts_from_test is_star (λ b c. eqb b c) (λ b c. b ≡ c) (λ b c e. eqb-true b c e) p t,
  test_from_cuts is_star (λ b c. eqb b c) (λ b c. b ≡ c) (λ b c e. eq-eqb b c e) p t,
)

-- the test says that there is a way to cut the path so
pub stands_for : (p t : Path) → (matches p t ≡ true) ↔ StandsFor p t
stands_for p t = (
  cuts_from_test is_double_star matches_part PartStandsFor (λ a b. (part_cut a b).0) p t,
  test_from_cuts is_double_star matches_part PartStandsFor (λ a b. (part_cut a b).1) p t,
)

-- matching through a view of symbols and elements
module _ {S P : Type 0} (f : S → P) (star : P → Bool) (fits : P → P → Bool) where
  some_rest-map : (test : List P → Bool) (xs : List S) → some_rest (λ ys. test (map f ys)) xs ≡ some_rest test (map f xs)
  some_rest-map test [] = refl
  some_rest-map test (x ∷ xs) = ap (λ b. test (map f (x ∷ xs)) || b) (some_rest-map test xs)

  first_and_rest-map : (first : P → Bool) (test : List P → Bool) (xs : List S) → first_and_rest (λ x. first (f x)) (λ ys. test (map f ys)) xs ≡ first_and_rest first test (map f xs)
  first_and_rest-map first test [] = refl
  first_and_rest-map first test (x ∷ xs) = refl

  pub can_cut-map : (ps xs : List S) → can_cut (λ p. star (f p)) (λ p x. fits (f p) (f x)) ps xs ≡ can_cut star fits (map f ps) (map f xs)
  can_cut-map [] [] = refl
  can_cut-map [] (x ∷ xs) = refl
  can_cut-map (p ∷ ps) xs =
      (λ i. cond (star (f p)) (some_rest (λ ys. can_cut-map ps ys i) xs) (first_and_rest (λ x. fits (f p) (f x)) (λ ys. can_cut-map ps ys i) xs))
      ∙ (λ i. cond (star (f p)) (some_rest-map (can_cut star fits (map f ps)) xs i) (first_and_rest-map (fits (f p)) (can_cut star fits (map f ps)) xs i))
