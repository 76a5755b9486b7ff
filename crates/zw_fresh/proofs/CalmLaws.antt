-- The law for calm settings: for plain trees, and for the plain programs of texts.
use Rattle.std.specs.Prelude.{◌≡◌, ◌||◌, ◌++◌, ℕ, zero, suc, length, Bool, true, false, List, [], ◌∷◌, Option, Some, None, Result, Ok, Err, if◌then◌else◌}
use Rattle.std.specs.List.{list_all}
use Rattle.std.proofs.Common.{refl, subst}
use Rattle.zw_def.specs.Text.{Text}
use Rattle.zw_def_syntax.specs.Token.{Token, Reason, Fault, malformed}
use Rattle.zw_def_syntax.specs.Lexed.{lexed}
use Rattle.zw_def_syntax.specs.Tree.{Tree, Grown, Program}
use Rattle.zw_def_syntax.specs.Input.{Input}
use Rattle.zw_def_syntax.specs.Compound.{separator_next, skip_separators}
use Rattle.zw_def_syntax.specs.Places.{fault_of}
use Rattle.zw_def_syntax.specs.Program.{Parsed, at_end, line_here, refused, top_statement, placed, after_statement, after_separators, parsed_from, parsed, parsed_tokens, program_of}
use Rattle.zw_def_world.specs.Value.{Value, nil}
use Rattle.zw_def_world.specs.Load.{all_of}
use Rattle.zw_def_world.specs.Act.{Act}
use Rattle.zw_def_world.proofs.LoadLaws.{all_of_keeps}
use Rattle.zw_def_session.specs.Plain.{is_plain_tree, is_plain}
use Rattle.zw_fresh.specs.Renaming.{ren}
use Rattle.zw_fresh.specs.Naming.{ProgramNamesNone}
use Rattle.zw_fresh.specs.Alike.{Setting}
use Rattle.zw_fresh.specs.Calm.{Handed, PlainIsAlike, PlainProgramsAreAlike}
use Rattle.zw_fresh.proofs.NodeLemmas.{both_true}
use Rattle.zw_fresh.proofs.ActLaws.{Alike, gives_alike, on_alike}
use Rattle.zw_fresh.proofs.CallLaws.{Evaluates}
use Rattle.zw_fresh.proofs.EvaluationLaws.{run_evaluates}
use Rattle.zw_fresh.proofs.PlainTreeLaws.{statement_plain}

-- ---- programs of texts

-- no node is out of place
abbrev IsPlaced : Program → Type 0
IsPlaced [] = Unit {0}
IsPlaced (s ∷ ss) = (fault_of s.tree ≡ None) × IsPlaced ss

one_more : (found : Program) (line : ℕ) (tree : Tree) → IsPlaced found → fault_of tree ≡ None
    → IsPlaced (found ++ record { line = line; tree = tree } ∷ [])
one_more [] line tree h e = (e, tt)
one_more (s ∷ ss) line tree h e = (h.0, one_more ss line tree h.1 e)

ok_same : {p q : Program} → ◌≡◌ {A = Parsed} (Ok p) (Ok q) → p ≡ q
ok_same e = cc

err_ok : {A : Type 0} {f : Fault} {p : Program} → ◌≡◌ {A = Parsed} (Err f) (Ok p) → A
err_ok {A} {f} {p} e = absurd (let never : ⊥ = cc in never)

-- what is parsed behind a statement is placed, if the statement is
module _ (n : ℕ) (found program : Program) (h : IsPlaced found)
    (later : (all : Program) (rest : Input) → IsPlaced all → parsed_from n all rest ≡ Ok program → IsPlaced program) where
  put_placed : (line : ℕ) (tree : Tree) (rest : Input) (o : Option Reason) → fault_of tree ≡ o
      → placed (λ all. parsed_from n all rest) line found tree o ≡ Ok program → IsPlaced program
  put_placed line tree rest None f g =
      later (found ++ record { line = line; tree = tree } ∷ []) rest (one_more found line tree h f) g
  put_placed line tree rest (Some reason) f g = err_ok g

  statement_placed : (line : ℕ) (o : Option (Grown Tree × Input))
      → after_statement (λ all rest. parsed_from n all rest) line found o ≡ Ok program → IsPlaced program
  statement_placed line None g = err_ok g
  statement_placed line (Some q) g = by (at_end q.1 || separator_next q.1) g
    where
      by : (b : Bool) → (if b then placed (λ all. parsed_from n all q.1) line found q.0.form (fault_of q.0.form)
          else refused line malformed) ≡ Ok program → IsPlaced program
      by true g = put_placed line q.0.form q.1 (fault_of q.0.form) refl g
      by false g = err_ok g

  separated_placed : (o : Option (Unit {0} × Input))
      → after_separators (λ all rest. parsed_from n all rest) found o ≡ Ok program → IsPlaced program
  separated_placed None g = subst IsPlaced (ok_same g) h
  separated_placed (Some q) g = by (at_end q.1) g
    where
      by : (b : Bool) → (if b then Ok found
          else after_statement (λ all rest. parsed_from n all rest) (line_here q.1) found (top_statement q.1)) ≡ Ok program
          → IsPlaced program
      by true g = subst IsPlaced (ok_same g) h
      by false g = statement_placed (line_here q.1) (top_statement q.1) g

parsed_placed : (n : ℕ) (found : Program) (i : Input) (program : Program) → IsPlaced found
    → parsed_from n found i ≡ Ok program → IsPlaced program
unfolding parsed_from
parsed_placed zero found i program h e = subst IsPlaced (ok_same e) h
parsed_placed (suc n) found i program h e =
    separated_placed n found program h (λ all rest k f. parsed_placed n all rest program k f) (skip_separators i) e

text_placed : (known : List Text) (text : Text) (program : Program) → program_of known text ≡ Ok program → IsPlaced program
unfolding program_of parsed
text_placed known text program e = by (lexed text) e
  where
    of_tokens : (tokens : List Token) → parsed known tokens ≡ Ok program → IsPlaced program
    of_tokens tokens e = parsed_placed (length tokens) [] _ program tt e

    by : (o : Result (List Token) Fault) → parsed_tokens known o ≡ Ok program → IsPlaced program
    by (Ok tokens) e = of_tokens tokens e
    by (Err fault) e = err_ok e

-- ---- plain programs

module _ {S : Setting true} {go : Tree → Act} (E : Evaluates S go) {old : Text → Bool} where
  program_alike : (v : Value) (program : Program) → ProgramNamesNone old program → IsPlaced program
      → list_all (λ s. is_plain_tree s.tree) program ≡ true → Alike S old (all_of go v program) (all_of go (ren S.lift v) program)
  program_alike v [] h k e = gives_alike v
  program_alike v (s ∷ ss) h k e =
      let both = both_true (is_plain_tree s.tree) (list_all (λ s. is_plain_tree s.tree) ss) e in
      on_alike (E.alike old s.tree h.0 (statement_plain s.tree k.0 both.0)) (λ u. program_alike u ss h.1 k.1 both.1)
      (λ u. all_of_keeps E.spends u ss)

-- ---- the law

module _ {S : Setting true} (H : Handed S) where
  pub plain_is_alike : PlainIsAlike S
  plain_is_alike n level old t h g = ((run_evaluates H n level).alike old t h g).acts

  pub plain_programs_are_alike : PlainProgramsAreAlike S
  unfolding is_plain
  plain_programs_are_alike n level old known text program e f h =
      (program_alike (run_evaluates H n level) nil program h (text_placed known text program e) f).acts
