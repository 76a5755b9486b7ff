-- What is said of a call that looks for something in a node: it finds what the definition finds, by whatever names the
-- node is told, where no name stands twice and all names of the node are among them. Want of memory says nothing.
use Rattle.std.specs.Prelude.{◌≡◌, ◌≤◌, ℕ, Bool, false, List, length, Option, Result, IfOk}
use Rattle.std.specs.Option.{option_map}
use Rattle.std.specs.declared.alloc.AllocError.{AllocError}
use Rattle.zw_def.specs.Names.{IsDistinct}
use Rattle.zw_def.specs.Text.{Text}
use Rattle.zw_def_syntax.specs.Token as t
use Rattle.zw_lexer.specs.declared.fault.Reason.{Reason}
use Rattle.zw_lexer.specs.Fault.{reason_seen}

-- whatever the names, where there are so many
abbrev pub Always : ℕ → (List Text → Type 0) → Type 0
Always bound P = (names : List Text) → IsDistinct names → bound ≤ length names → P names

abbrev pub Finds : (List Text → Bool) → ℕ → Bool → Type 0
Finds finds bound found = Always bound (λ names. found ≡ finds names)

abbrev pub Tells : (List Text → Bool) → ℕ → Result Bool AllocError → Type 0
Tells finds bound result = IfOk result (Finds finds bound)

-- the same, where the node itself breaks no rule
abbrev pub FindsWithin : (List Text → Bool) → (List Text → Bool) → ℕ → Bool → Type 0
FindsWithin broken finds bound found = Always bound (λ names. broken names ≡ false → found ≡ finds names)

abbrev pub TellsWithin : (List Text → Bool) → (List Text → Bool) → ℕ → Result Bool AllocError → Type 0
TellsWithin broken finds bound result = IfOk result (FindsWithin broken finds bound)

abbrev pub TellsFault : (List Text → Option t.Reason) → ℕ → Result (Option Reason) AllocError → Type 0
TellsFault fault bound result =
    IfOk result (λ found. Always bound (λ names. option_map reason_seen found ≡ fault names))
