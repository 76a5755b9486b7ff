-- What stands at a place of a directory's rows.
use Rattle.std.specs.Prelude.{◌≡◌, ℕ, zero, suc, List, [], ◌∷◌, Option, Some, None, Result, IfOk}
use Rattle.std.specs.List.{slice_get}
use Rattle.std.specs.Option.{option_and_then}
use Rattle.zw_def.specs.Text.{Text}
use Rattle.zw_tree.specs.Row.{Node, Row, file, folder, listed}

abbrev pub rows_in : Node → Option (List Row)
rows_in (file text) = None
rows_in (folder rows) = Some (listed rows)

abbrev pub text_in : Node → Option Text
text_in (file text) = Some text
text_in (folder rows) = None

-- the rows of the directory at the place, if one stands there
abbrev pub folder_at : List Row → ℕ → Option (List Row)
folder_at rows k = option_and_then (λ r. rows_in r.node) (slice_get rows k)

-- the text of the file at the place, if one stands there
abbrev pub file_at : List Row → ℕ → Option Text
file_at rows k = option_and_then (λ r. text_in r.node) (slice_get rows k)

-- the rows, where another node stands at the place
abbrev pub with_node : List Row → ℕ → Node → List Row
with_node [] k node = []
with_node (r ∷ rs) zero node = record { name = r.name; node = node } ∷ rs
with_node (r ∷ rs) (suc k) node = r ∷ with_node rs k node

-- no directory stands at the place that was found, if one was
abbrev pub IsNoFolder : List Row → Result ℕ ℕ → Type 0
IsNoFolder rows place = IfOk place (λ at. folder_at rows at ≡ None)
