-- How much stands at a path.
use Rattle.std.specs.Prelude.{◌≡◌, ℕ, true, false, length, Option, Some, None, MatchOption}
use Rattle.zw_def.specs.Text.{Text}
use Rattle.zw_def.specs.Path.{Path}
use Rattle.zw_def.specs.Tree.{Tree}
use Rattle.zw_tree.specs.Text.{text_at}
use Rattle.zw_tree.specs.Edit.{is_blocked}

abbrev pub files_in : Option Text → ℕ
files_in None = 0
files_in (Some text) = 1

abbrev pub bytes_in : Option Text → ℕ
bytes_in None = 0
bytes_in (Some text) = length text

-- the files and bytes of the file at the path, or none; no answer where something is in the way
abbrev pub Holds : Tree → Path → Option (ℕ × ℕ) → Type 0
Holds tree path result = MatchOption result (is_blocked tree path ≡ true)
    (λ n. (is_blocked tree path ≡ false) × (n.0 ≡ files_in (text_at path tree)) × (n.1 ≡ bytes_in (text_at path tree)))
