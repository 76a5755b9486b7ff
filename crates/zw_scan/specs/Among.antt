-- Elements of a list, and lists in a strict order.
use Rattle.std.specs.Prelude.{◌≡◌, ◌⊎◌, List, [], ◌∷◌}
use Rattle.std.specs.List.{AllByRecursion}

abbrev pub Among : {X : Type 0} → X → List X → Type 0
Among x [] = ⊥
Among x (y ∷ ys) = (x ≡ y) ⊎ Among x ys

-- each element stands after those before it
abbrev pub Rising : {X : Type 0} → (X → X → Type 0) → List X → Type 0
Rising Precedes [] = Unit {0}
Rising Precedes (x ∷ xs) = AllByRecursion (Precedes x) xs × Rising Precedes xs
