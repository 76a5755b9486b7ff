-- What a folder holds: pairs of a path and bytes, and how many of the paths are listed already.
use Rattle.std.specs.Prelude.{ℕ, List, [], ◌∷◌, Option, Some, None, if◌then◌else◌, drop, map}
use Rattle.std.specs.Str.{bytes_eq}
use Rattle.zw_def.specs.Text.{Text}

pub record Listing : Type 0 where
  pub files : List (Text × Text)
  pub place : ℕ

-- the bytes of the first pair with the path
abbrev pub bytes_at : Text → List (Text × Text) → Option Text
bytes_at path [] = None
bytes_at path (f ∷ fs) = if bytes_eq f.0 path then Some f.1 else bytes_at path fs

-- the paths that are still to be listed, in their order
abbrev pub unlisted : Listing → List Text
unlisted folder = map (λ f. f.0) (drop folder.place folder.files)
