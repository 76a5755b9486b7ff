-- The loop over statements, beside the definition's.
use Rattle.std.proofs.Common.{◌≡◌, ℕ, zero, suc, ◌+◌, ◌-◌, ◌<◌, ◌≤◌, Bool, true, false, ◌||◌, if◌then◌else◌, List, [], ◌∷◌, ◌++◌, Option, Some, None, Result, Ok, Err, refl, ap, ◌∙◌, arith}
use Rattle.zw_def_syntax.specs.Token.{Reason, Fault, malformed}
use Rattle.zw_def_syntax.specs.Tree.{Tree, Grown, Program, Statement}
use Rattle.zw_def_syntax.specs.Input.{Input}
use Rattle.zw_def_syntax.specs.Compound.{skip_separators, separator_next}
use Rattle.zw_def_syntax.specs.Places.{fault_of}
use Rattle.zw_def_syntax.specs.Program.{Parsed, at_end, line_here, top_statement, refused, placed, after_statement, after_separators, parsed_from}
use Rattle.zw_base.specs.declared.fault.Fault as either
use Rattle.zw_base.specs.declared.fault.Fault.TheVariants.{Refused, Memory}
use Rattle.zw_lexer.specs.declared.fault.SyntaxFault.{SyntaxFault}
use Rattle.zw_lexer.specs.Fault.{Agrees, fault_seen}
use Rattle.zw_parser.specs.Statement.{fault_on, separated, judged, with_rest, then_judged, read_statement}

-- what stands behind a statement that was read
abbrev continued : (Program → Input → Parsed) → Program → Result (Statement × Input) Fault → Parsed
continued more found (Ok p) = more (found ++ p.0 ∷ []) p.1
continued more found (Err fault) = Err fault

module _ (more : Program → Input → Parsed) (found : Program) (line : ℕ) where
  placed_as : (tree : Tree) (j : Input) (reason : Option Reason) → placed (λ all. more all j) line found tree reason ≡ continued more found (with_rest j (judged line tree reason))
  placed_as tree j None = refl
  placed_as tree j (Some reason) = refl

  behind_as : (p : Grown Tree × Input) (b : Bool) → (if b then placed (λ all. more all p.1) line found p.0.form (fault_of p.0.form) else refused line malformed) ≡ continued more found (then_judged line (if b then Ok p else Err (fault_on line malformed)))
  behind_as p true = placed_as p.0.form p.1 (fault_of p.0.form)
  behind_as p false = refl

  statement_as : (x : Option (Grown Tree × Input)) → after_statement more line found x ≡ continued more found (then_judged line (separated line x))
  statement_as None = refl
  statement_as (Some p) = behind_as p (at_end p.1 || separator_next p.1)

-- one turn, where the separators before the statement are passed over
module _ (n : ℕ) (found : Program) (i j : Input) (skips : skip_separators i ≡ Some (tt, j)) where
  turn_ended : at_end j ≡ true → parsed_from (suc n) found i ≡ Ok found
  unfolding parsed_from
  turn_ended end = rw skips (rw end refl)

  turn_as : at_end j ≡ false → parsed_from (suc n) found i ≡ continued (λ all rest. parsed_from n all rest) found (read_statement j)
  unfolding parsed_from
  turn_as more = rw skips (rw more (statement_as (λ all rest. parsed_from n all rest) found (line_here j) (top_statement j)))

from_zero : (found : Program) (i : Input) → parsed_from 0 found i ≡ Ok found
unfolding parsed_from
from_zero found i = refl

-- `at` of `count` turns are done, and x is what the definition makes of the rest
module _ {x : Parsed} (count at : ℕ) (found : Program) (i : Input) (so : x ≡ parsed_from (count - at) found i) where
  pub parsed_done : count ≤ at → x ≡ Ok found
  parsed_done done =
      let none : count - at ≡ 0 = omega (arith, done) in
      so ∙ ap (λ n. parsed_from n found i) none ∙ from_zero found i

  left_before : at < count → x ≡ parsed_from (suc (count - (at + 1))) found i
  left_before below =
      let left : count - at ≡ suc (count - (at + 1)) = omega (arith, below) in
      so ∙ ap (λ n. parsed_from n found i) left

  module _ (j : Input) (below : at < count) (skips : skip_separators i ≡ Some (tt, j)) where
    pub parsed_ended : at_end j ≡ true → x ≡ Ok found
    parsed_ended end = left_before below ∙ turn_ended _ found i j skips end

    parsed_refused : (fault : Fault) → at_end j ≡ false → read_statement j ≡ Err fault → x ≡ Err fault
    parsed_refused fault more is =
        left_before below ∙ turn_as _ found i j skips more ∙ ap (continued (λ all rest. parsed_from (count - (at + 1)) all rest) found) is

    pub parsed_fails : {A B : Type 0} (one : A → Statement × Input) (all : B → Program) (fault : either.Fault SyntaxFault) → at_end j ≡ false → Agrees one fault_seen (Err fault) (read_statement j) → Agrees all fault_seen (Err fault) x
    parsed_fails one all (Refused f) more is = parsed_refused (fault_seen f) more is
    parsed_fails one all Memory more is = tt

    pub parsed_gone_on : (s : Statement) (k : Input) → at_end j ≡ false → read_statement j ≡ Ok (s, k) → x ≡ parsed_from (count - (at + 1)) (found ++ s ∷ []) k
    parsed_gone_on s k more is =
        left_before below ∙ turn_as _ found i j skips more ∙ ap (continued (λ all rest. parsed_from (count - (at + 1)) all rest) found) is
