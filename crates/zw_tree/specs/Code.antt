-- Rows written as a plain list, and read back, so that a proof can tell them apart.
use Rattle.std.specs.Prelude.{◌≡◌, ℕ, zero, suc, List, [], ◌∷◌}
use Rattle.std.specs.Coded.{Coded, code_by, coded×, coded_ℕ, coded_list}
use Rattle.std.proofs.Common.{refl, ap, ◌∙◌}
use Rattle.zw_def.specs.Text.{Text}
use Rattle.zw_tree.specs.Row.{Node, file, folder, Rows, no_rows, row, Row, rows_of, listed}

-- what is done with the rows read so far, and its texts
abbrev Token : Type 0
Token = ℕ × (Text × Text)

-- the tokens of the rows, before those that follow
abbrev mutual
  written : Rows → List Token → List Token
  written no_rows next = (0, ([], [])) ∷ next
  written (row name node more) next = written more (node_written name node next)

  node_written : Text → Node → List Token → List Token
  node_written name (file text) next = (1, (name, text)) ∷ next
  node_written name (folder rows) next = written rows ((2, (name, [])) ∷ next)

abbrev with_file_row : Text → Text → List Rows → List Rows
with_file_row name text [] = []
with_file_row name text (more ∷ read) = row name (file text) more ∷ read

abbrev with_folder_row : Text → List Rows → List Rows
with_folder_row name [] = []
with_folder_row name (rows ∷ []) = []
with_folder_row name (rows ∷ more ∷ read) = row name (folder rows) more ∷ read

abbrev step : ℕ → Text × Text → List Rows → List Rows
step zero texts read = no_rows ∷ read
step (suc zero) texts read = with_file_row texts.0 texts.1 read
step (suc (suc n)) texts read = with_folder_row texts.0 read

abbrev steps : List Token → List Rows → List Rows
steps [] read = read
steps (t ∷ ts) read = steps ts (step t.0 t.1 read)

abbrev pub first : List Rows → List Row
first [] = []
first (rows ∷ more) = listed rows

mutual
  read_back : (rows : Rows) (next : List Token) (read : List Rows) → steps (written rows next) read ≡ steps next (rows ∷ read)
  read_back no_rows next read = refl
  read_back (row name node more) next read = read_back more (node_written name node next) read ∙ node_back name node more next read

  node_back : (name : Text) (node : Node) (more : Rows) (next : List Token) (read : List Rows) → steps (node_written name node next) (more ∷ read) ≡ steps next (row name node more ∷ read)
  node_back name (file text) more next read = refl
  node_back name (folder rows) more next read = read_back rows ((2, (name, [])) ∷ next) (more ∷ read)

pub listed_rows : (rs : List Row) → listed (rows_of rs) ≡ rs
listed_rows [] = refl
listed_rows (r ∷ rs) = ap (λ more. r ∷ more) (listed_rows rs)

pub coded_rows : Coded (List Row)
coded_rows =
    code_by (List Token) (coded_list (coded× coded_ℕ (coded× (coded_list coded_ℕ) (coded_list coded_ℕ))))
    (λ rs. written (rows_of rs) [])
    (λ tokens. first (steps tokens []))
    (λ rs. ap first (read_back (rows_of rs) [] []) ∙ listed_rows rs)
