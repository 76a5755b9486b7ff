-- Where a session stands in its stream, and the law for each session that a stream reaches.
use Rattle.std.specs.Prelude.{◌≡◌, ℕ, zero, suc, true, List, ◌∷◌, ◌++◌, codes}
use Rattle.zw_def.specs.Text.{Text}
use Rattle.zw_def.specs.Folder.{Listing}
use Rattle.zw_def_world.specs.Reload.{unloaded}
use Rattle.zw_def_world.specs.Session.{Session, with_line}
use Rattle.zw_def_session.specs.Commands.{Command, reload, Stream, stream_of, Reading, reads, refuses, skips, ends_here, over, next_command, reason_line}
use Rattle.zw_def_session.specs.Answers.{answer}
use Rattle.zw_def_session.specs.Opening.{opens_with, Words, Configuration, opened}
use Rattle.zw_def_session.specs.Whole.{sets_up}
use Rattle.zw_fresh.specs.Law.{answered, WritesAlike}
use Rattle.zw_fresh.specs.Named.{NameNone}
use Rattle.zw_fresh.specs.Reached.{opened_again}

-- a session, and what is left of its stream
pub record Place : Type 0 where
  pub session : Session
  pub rest : Stream

-- behind what was read; where the stream ends, the place stays
abbrev pub behind : Place → Reading → Place
behind place (reads command rest) = record { session = answer command place.session; rest = rest }
behind place (refuses reason rest) = record { session = with_line (reason_line reason) place.session; rest = rest }
behind place (skips rest) = record { session = place.session; rest = rest }
behind place ends_here = place
behind place over = place

abbrev pub place_after : ℕ → Place → Place
place_after zero place = place
place_after (suc n) place = place_after n (behind place (next_command place.rest))

-- where a session begins that has opened
abbrev pub first_place : Session → Text → Place
first_place opening bytes = record { session = sets_up opening; rest = stream_of bytes }

-- Wherever a session stands in a stream: where it reloads, it writes, behind the line `reloaded`, what it would have
-- written had it opened over the tree that is now staged.
abbrev pub ServedIsFresh : Type 0
ServedIsFresh =
    (words : Words) (c : Configuration) (folder : Listing) (opening : Session)
    → opened words c folder ≡ opens_with opening → c.reloading ≡ true
    → (bytes : Text) (n : ℕ) (commands : List Command) (front : Text)
    → let s = (place_after n (first_place opening bytes)).session in
    NameNone s.variables commands
    → WritesAlike front ((unloaded s).out ++ codes "reloaded" ++ codes "\n")
    (answered commands (sets_up (opened_again opening s.staged front)))
    (answered (reload ∷ commands) s)
