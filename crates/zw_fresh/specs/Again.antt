-- The law, for two processes that open: one reloads, and the folder of the other holds the tree that the first mounts.
use Rattle.std.specs.Prelude.{◌≡◌, ℕ, true, List, ◌∷◌, ◌++◌, codes, Option, Some, None}
use Rattle.zw_def.specs.Text.{Text}
use Rattle.zw_def.specs.Path.{Path, path_text}
use Rattle.zw_def.specs.Folder.{Listing, bytes_at}
use Rattle.zw_def_world.specs.Reload.{unloaded}
use Rattle.zw_def_world.specs.Session.{Session}
use Rattle.zw_def_session.specs.Commands.{Command, reload}
use Rattle.zw_def_session.specs.Opening.{opens_with, Words, Configuration, opened}
use Rattle.zw_def_session.specs.Whole.{sets_up}
use Rattle.zw_fresh.specs.Law.{answered, WritesAlike}
use Rattle.zw_fresh.specs.Named.{NameNone}
use Rattle.zw_fresh.specs.Places.{place_after, first_place}

-- both folders have the same bytes under the path of boot's file
abbrev pub SameBoot : Option Path → Listing → Listing → Type 0
SameBoot None folder folder' = Unit {0}
SameBoot (Some path) folder folder' = bytes_at (path_text path) folder'.files ≡ bytes_at (path_text path) folder.files

-- Two processes open with the same words, configuration and boot. Wherever the first stands in its stream, if what it
-- has staged then is what the second mounts, it writes after a reload what the second writes.
abbrev pub ReloadIsOpening : Type 0
ReloadIsOpening =
    (words : Words) (c : Configuration) (folder folder' : Listing) (opening again : Session)
    → opened words c folder ≡ opens_with opening → opened words c folder' ≡ opens_with again
    → SameBoot c.boot folder folder' → c.reloading ≡ true → (bytes : Text) (n : ℕ) (commands : List Command)
    → let s = (place_after n (first_place opening bytes)).session in
    again.staged ≡ s.staged → NameNone s.variables commands
    → WritesAlike again.out ((unloaded s).out ++ codes "reloaded" ++ codes "\n")
    (answered commands (sets_up again))
    (answered (reload ∷ commands) s)
