-- What is read of a folder, where it tells its files.
use Rattle.std.specs.Prelude.{◌≡◌, ◌+◌, ℕ, List, [], ◌∷◌, Option, Some, None, map, option_map, take, Vec}
use Rattle.std.specs.declared.alloc.Global.{Global}
use Rattle.std.specs.Option.{option_map_or}
use Rattle.zw_def.specs.Text.{Text}
use Rattle.zw_def.specs.Folder.{Listing, bytes_at, unlisted}
use Rattle.zw_def_thin.specs.Limit.{most_file_bytes}
use Rattle.zw_base.specs.declared.fault.Fault.{Fault}
use Rattle.zw_base.specs.declared.fault.Fault.TheVariants.{Refused, Memory}
use Rattle.zw_top.specs.declared.refusal.Stop.{Stop}
use Rattle.zw_top.specs.declared.refusal.Stop.TheVariants.{Refusal, FolderFault}

-- a call failed, or memory ran out
abbrev pub IsOuter : Fault Stop → Type 0
IsOuter (Refused (Refusal refusal)) = ⊥
IsOuter (Refused FolderFault) = Unit {0}
IsOuter Memory = Unit {0}

abbrev pub file_seen : Option (Vec ℕ Global) → Option Text
file_seen file = option_map (λ v. v.items) file

abbrev pub texts_seen : List (Vec ℕ Global) → List Text
texts_seen paths = map (λ v. v.items) paths

-- the bytes that were read are the file's, up to one more than it may have
abbrev pub IsFront : Option Text → Option Text → Type 0
IsFront read text = read ≡ option_map (take (most_file_bytes + 1)) text

-- what was read at the path
abbrev pub ReadsFile : Option Listing → Text → Option Text → Type 0
ReadsFile None path read = Unit {0}
ReadsFile (Some l) path read = IsFront read (bytes_at path l.files)

-- one more path is listed, or all are
abbrev pub Lists : Listing → Option Text → Listing → Type 0
Lists old path new = (new.files ≡ old.files) × (unlisted old ≡ option_map_or (λ text. text ∷ unlisted new) path [])

abbrev pub ListsOne : Option Listing → Option Text → Option Listing → Type 0
ListsOne None path new = new ≡ None
ListsOne (Some old) path None = ⊥
ListsOne (Some old) path (Some new) = Lists old path new

-- the listing went on, over the same files
abbrev pub MovesOn : Option Listing → Option Listing → Type 0
MovesOn None new = new ≡ None
MovesOn (Some old) None = ⊥
MovesOn (Some old) (Some new) = new.files ≡ old.files
