-- A list of names in which each has its place as its number.
use Rattle.std.specs.Prelude.{◌≡◌, ℕ, ◌<◌, List, [], ◌∷◌, ◌++◌, Some, slice_get, length, map, unwrap_or, if◌then◌else◌}
use Rattle.std.specs.List.{list_any, All}
use Rattle.std.specs.Str.{bytes_eq}
use Rattle.zw_def.specs.Text.{Text}

-- no text stands at two places
abbrev pub IsDistinct : List Text → Type 0
IsDistinct names = (m n : ℕ) (text : Text) → slice_get names m ≡ Some text → slice_get names n ≡ Some text → m ≡ n

-- the new list is the old one with more at its end
abbrev pub OnlyGrows : List Text → List Text → Type 0
OnlyGrows old new = (more : List Text) × (new ≡ old ++ more)

-- the names with a text among them, at the end where it is new
abbrev pub with_name : List Text → Text → List Text
with_name names text = if list_any (bytes_eq text) names then names else names ++ text ∷ []

-- each of the numbers is that of a name
abbrev pub AreNamed : List Text → List ℕ → Type 0
AreNamed names numbers = All (λ n. n < length names) numbers

-- the text of a number
abbrev pub text_of : List Text → ℕ → Text
text_of names n = unwrap_or (slice_get names n) []

-- the texts of the numbers
abbrev pub texts_of : List Text → List ℕ → List Text
texts_of names numbers = map (text_of names) numbers
