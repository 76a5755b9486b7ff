-- Sessions that come after others, and the law for each session that commands reach from an opening.
use Rattle.std.specs.Prelude.{◌≡◌, ◌≤◌, true, List, ◌∷◌, ◌++◌, codes}
use Rattle.zw_def.specs.Text.{Text}
use Rattle.zw_def.specs.Tree.{Tree}
use Rattle.zw_def.specs.Folder.{Listing}
use Rattle.zw_def_world.specs.Reload.{unloaded}
use Rattle.zw_def_world.specs.Session.{Session}
use Rattle.zw_def_session.specs.Commands.{Command, reload}
use Rattle.zw_def_session.specs.Opening.{opens_with, Words, Configuration, opened}
use Rattle.zw_def_session.specs.Whole.{sets_up}
use Rattle.zw_fresh.specs.Setups.{Past}
use Rattle.zw_fresh.specs.Law.{answered, WritesAlike}
use Rattle.zw_fresh.specs.Named.{NameNone}

-- A session goes on to another one: its image, its settings and the setting of its world stay; where no record of a
-- coming setup was made, none is; and as many setups have begun, or more.
pub record Onward (s t : Session) : Type 0 where
  pub image : t.image ≡ s.image
  pub settings : t.settings ≡ s.settings
  pub setting : t.world.setting ≡ s.world.setting
  pub past : Past s.world → Past t.world
  pub setups : s.world.setups ≤ t.world.setups

-- what is staged and the variables stay, too
pub record Within (s t : Session) : Type 0 where
  pub onward : Onward s t
  pub staged : t.staged ≡ s.staged
  pub variables : t.variables ≡ s.variables

-- the session as it opened, over another tree, and behind other lines
abbrev pub opened_again : Session → Tree → Text → Session
opened_again opening tree front = record opening { staged = tree; out = front }

-- A session opens, and answers some commands, reloads among them. Where it then reloads, it writes, behind the line
-- `reloaded`, what it would have written had it opened over the tree that is now staged.
abbrev pub ReachedIsFresh : Type 0
ReachedIsFresh =
    (words : Words) (c : Configuration) (folder : Listing) (opening : Session)
    → opened words c folder ≡ opens_with opening → c.reloading ≡ true → (before commands : List Command) (front : Text)
    → let s = answered before (sets_up opening) in
    NameNone s.variables commands
    → WritesAlike front ((unloaded s).out ++ codes "reloaded" ++ codes "\n")
    (answered commands (sets_up (opened_again opening s.staged front)))
    (answered (reload ∷ commands) s)
