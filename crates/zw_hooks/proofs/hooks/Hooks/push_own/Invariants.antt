use Rattle.std.proofs.Common.{◌≡◌, ◌++◌, List, Some, map, take}
use Rattle.std.specs.List.{filter}
use Rattle.zw_def.specs.Text.{Text}
use Rattle.zw_def.specs.Names.{AreNamed, IsDistinct, texts_of}
use Rattle.zw_hooks.specs.HookSeen.{AreTargetsNamed, hooks_seen, moment_seen, seen_at}
use Rattle.zw_hooks.specs.Runs.{runs_for, runs_for_any}
use Rattle.zw_hooks.proofs.hooks.Hooks.push_own.Given as goal

abbrev pub invariant-loop-place : goal.invariant-loop-place
invariant-loop-place l = (names : List Text) → IsDistinct names → AreNamed names l.path → AreTargetsNamed names l.self →
    map (seen_at names l.self) l.places.items ≡ map (seen_at names l.self) l.fn.places.items ++ map (λ c. Some c) (filter (runs_for (moment_seen l.on) (texts_of names l.path)) (take l.place (hooks_seen names l.self)))
