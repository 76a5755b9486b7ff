-- Tables by names: pairs of a text and what it holds, in the order of first assignment.
use Rattle.std.specs.Prelude.{List, [], ◌∷◌, Option, Some, None, if◌then◌else◌}
use Rattle.std.specs.Str.{bytes_eq}
use Rattle.zw_def.specs.Text.{Text}

abbrev pub Table : Type 0 → Type 0
Table A = List (Text × A)

abbrev pub at : {A : Type 0} → Text → Table A → Option A
at x [] = None
at x (e ∷ es) =
    let later = at x es in
    if bytes_eq x e.0 then Some e.1 else later

-- a new name comes last
abbrev pub assigned : {A : Type 0} → Text → A → Table A → Table A
assigned x v [] = (x, v) ∷ []
assigned x v (e ∷ es) =
    let later = e ∷ assigned x v es in
    if bytes_eq x e.0 then (x, v) ∷ es else later

abbrev pub removed : {A : Type 0} → Text → Table A → Table A
removed x [] = []
removed x (e ∷ es) =
    let later = e ∷ removed x es in
    if bytes_eq x e.0 then es else later
