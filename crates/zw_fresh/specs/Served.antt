-- The law for two processes, whose streams go on alike.
use Rattle.std.specs.Prelude.{◌≡◌, ℕ, true, ◌++◌, codes}
use Rattle.zw_def.specs.Text.{Text}
use Rattle.zw_def.specs.Folder.{Listing}
use Rattle.zw_def_world.specs.Reload.{unloaded}
use Rattle.zw_def_world.specs.Session.{Session}
use Rattle.zw_def_session.specs.Commands.{reload, Stream}
use Rattle.zw_def_session.specs.Answers.{answer}
use Rattle.zw_def_session.specs.Opening.{opens_with, Words, Configuration, opened}
use Rattle.zw_def_session.specs.Whole.{Outcome, served, sets_up}
use Rattle.zw_fresh.specs.Named.{StreamNamesNone}
use Rattle.zw_fresh.specs.Places.{place_after, first_place}
use Rattle.zw_fresh.specs.Again.{SameBoot}

-- behind what was written before, the same is written, and the end is the same
pub record OutcomesAlike (front front' : Text) (a b : Outcome) : Type 0 where
  pub out : (o : Text) × (a.out ≡ front ++ o) × (b.out ≡ front' ++ o)
  pub status : b.status ≡ a.status

-- Two processes open with the same words, configuration and boot. Wherever the first stands in its stream, if what it
-- has staged then is what the second mounts, and it reloads, then both write the same for one stream, and end alike.
abbrev pub ReloadServesAsOpening : Type 0
ReloadServesAsOpening =
    (words : Words) (c : Configuration) (folder folder' : Listing) (opening again : Session)
    → opened words c folder ≡ opens_with opening → opened words c folder' ≡ opens_with again
    → SameBoot c.boot folder folder' → c.reloading ≡ true → (bytes : Text) (n m : ℕ) (stream : Stream)
    → let s = (place_after n (first_place opening bytes)).session in
    again.staged ≡ s.staged → StreamNamesNone s.variables m stream
    → OutcomesAlike again.out ((unloaded s).out ++ codes "reloaded" ++ codes "\n")
    (served m (sets_up again) stream)
    (served m (answer reload s) stream)
