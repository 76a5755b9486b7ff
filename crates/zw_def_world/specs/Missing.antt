-- What may be missing: looked up in steps, and in lists.
use Rattle.std.specs.Prelude.{Bool, true, false, List, [], ◌∷◌, ◌++◌, Option, Some, None, if◌then◌else◌}

abbrev pub bind : {A B : Type 0} → Option A → (A → Option B) → Option B
bind None f = None
bind (Some x) f = f x

-- the lists of several, one after another
abbrev pub joined : {A B : Type 0} → (A → Option (List B)) → List A → Option (List B)
joined f [] = Some []
joined f (x ∷ xs) =
    let later = joined f xs in
    bind (f x) (λ ys. bind later (λ more. Some (ys ++ more)))

-- whether one of several is so; what stands behind the first is not asked
abbrev pub is_some_so : {A : Type 0} → (A → Option Bool) → List A → Option Bool
is_some_so f [] = Some false
is_some_so f (x ∷ xs) =
    let later = is_some_so f xs in
    bind (f x) (λ found. if found then Some true else later)
