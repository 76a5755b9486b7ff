-- What a level makes of operands, told by turns: of those that are done, the last of which may still be joined, and of
-- those that are left.
use Rattle.std.specs.Prelude.{◌≡◌, ◌≢◌, Bool, true, false, ◌&&◌, if◌then◌else◌, List, [], ◌∷◌, ◌++◌, Option, Some, None, option_map, option_and_then, Result, Ok, Err}
use Rattle.zw_base.specs.declared.fault.Fault.{Fault}
use Rattle.zw_base.specs.declared.fault.Fault.TheVariants.{Memory}
use Rattle.zw_def.specs.Text.{Text}
use Rattle.zw_def_syntax.specs.Tree.{Tree, Grown, over_both}
use Rattle.zw_def_syntax.specs.Levels.{Level, Operand, Chain, join, is_of, stands_alone, joined_from, folded, or_level, and_level, equal_level, compare_level, sum_level, term_level}

-- the operands of a chain, where the first has its own sign before it
abbrev pub operands_of : Operand → Chain → List Operand
operands_of first chain = record { sign = first.sign; value = chain.first } ∷ chain.more

-- an operand, made into one with what stands behind it
abbrev pub with_joined : Text → Operand → Grown Tree → Option Operand
with_joined sign o right = option_map (λ w. record o { value = w }) (over_both (join sign) o.value right)

-- the operands, the last of them made into one with what stands behind it
unfoldable pub with_last_joined : Text → List Operand → Grown Tree → Option (List Operand)
with_last_joined sign [] right = None
with_last_joined sign (o ∷ []) right = option_map (λ p. p ∷ []) (with_joined sign o right)
with_last_joined sign (o ∷ p ∷ os) right = option_map (λ all. o ∷ all) (with_last_joined sign (p ∷ os) right)

-- operands, and whether the last of them was made of others
abbrev pub paired : Bool → List Operand → List Operand × Bool
paired made os = (os, made)

-- what is done after one more operand, and whether its last was made of others
unfoldable pub turn_of : Level → Bool → List Operand → Operand → Option (List Operand × Bool)
turn_of level made done b =
    if is_of level b.sign then
    (if made && stands_alone level then None else option_map (paired true) (with_last_joined b.sign done b.value))
    else Some (paired false (done ++ b ∷ []))

-- what the level makes in the end
unfoldable pub resumed : Level → Bool → List Operand → List Operand → Option (List Operand)
resumed level made [] rest = Some []
resumed level made (o ∷ []) rest = option_map (operands_of o) (joined_from level made o.value rest)
resumed level made (o ∷ p ∷ os) rest = option_map (λ all. o ∷ all) (resumed level made (p ∷ os) rest)

-- what the level makes of all operands
abbrev pub joined : Level → List Operand → Option (List Operand)
joined level [] = Some []
joined level (first ∷ more) = resumed level false (first ∷ []) more

abbrev pub tight : List Operand → Option (List Operand)
tight os = option_and_then (joined compare_level) (option_and_then (joined sum_level) (joined term_level os))

abbrev pub loose : List Operand → Option (List Operand)
loose os = option_and_then (joined or_level) (option_and_then (joined and_level) (joined equal_level os))

-- one operand alone
abbrev pub only : List Operand → Option (Grown Tree)
only (o ∷ []) = Some o.value
only _ = None

-- the chain of operands
abbrev pub whole_of : List Operand → Option (Grown Tree)
whole_of [] = None
whole_of (first ∷ more) = folded (record { first = first.value; more = more })

-- what a call that changes the operands leaves, and what it answers; want of memory says nothing
abbrev pub Leaves : {A X E : Type 0} → Option A → Result X (Fault E) → (X → A) → Type 0
Leaves outcome (Ok x) left = outcome ≡ Some (left x)
Leaves outcome (Err fault) left = fault ≢ Memory → outcome ≡ None
