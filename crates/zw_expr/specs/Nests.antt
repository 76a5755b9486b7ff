-- What reads the forms that stand within another form, to a depth.
use Rattle.std.specs.Prelude.{◌≡◌, ◌≢◌, ℕ, List, Some, None, Result, Ok, Err}
use Rattle.std.specs.Borrow.{MutBor}
use Rattle.zw_base.specs.declared.fault.Fault.{Fault}
use Rattle.zw_base.specs.declared.fault.Fault.TheVariants.{Memory}
use Rattle.zw_def.specs.Text.{Text}
use Rattle.zw_def_syntax.specs.Input.{Input}
use Rattle.zw_def_syntax.specs.Compound as c
use Rattle.zw_def_syntax.specs.Grammar.{within}
use Rattle.zw_ast.specs.declared.grown.Malformed.{Malformed}
use Rattle.zw_ast.specs.declared.maker.Maker.{Maker}
use Rattle.zw_ast.specs.Grown.{grown_seen, all_seen}
use Rattle.zw_ast.specs.Named.{IsNamed, AreNamed}
use Rattle.zw_expr.specs.declared.grammar.Form.{Form}
use Rattle.zw_expr.specs.declared.grammar.Form.TheVariants as f
use Rattle.zw_expr.specs.declared.grammar.Within.{Within}
use Rattle.zw_expr.specs.declared.grammar.Within.TheVariants as w
use Rattle.zw_expr.specs.declared.grammar.Read.{Read}
use Rattle.zw_expr.specs.declared.grammar.Read.TheVariants as r
use Rattle.zw_expr.specs.Front.{Front}

abbrev pub form_seen : Form → c.Form
form_seen f.Line = c.line_form
form_seen f.Inverse = c.inverse_form
form_seen f.Value = c.value_form
form_seen f.Ternary = c.ternary_form
form_seen f.Unary = c.unary_form

-- what is read is what the definition has there, to this depth
abbrev pub ReadsWithin : List Text → ℕ → Within → Input → Result Read (Fault Malformed) → Input → Type 0
ReadsWithin names depth (w.Tree form) old (Ok (r.Tree tree)) new =
    (within depth).tree (form_seen form) old ≡ Some (grown_seen names tree, new)
ReadsWithin names depth (w.Tree form) old (Ok (r.Program all)) new = ⊥
ReadsWithin names depth (w.Tree form) old (Err fault) new = fault ≢ Memory → (within depth).tree (form_seen form) old ≡ None
ReadsWithin names depth w.Program old (Ok (r.Tree tree)) new = ⊥
ReadsWithin names depth w.Program old (Ok (r.Program all)) new =
    (within depth).program old ≡ Some (all_seen names all.items, new)
ReadsWithin names depth w.Program old (Err fault) new = fault ≢ Memory → (within depth).program old ≡ None

abbrev pub IsNamedRead : List Text → Result Read (Fault Malformed) → Type 0
IsNamedRead names (Ok (r.Tree tree)) = IsNamed names tree
IsNamedRead names (Ok (r.Program all)) = AreNamed names all.items
IsNamedRead names (Err fault) = Unit {0}

-- a function that is called with these names, reads so, and keeps them
pub record Nests (names : List Text) (depth : ℕ) (pre : Maker → MutBor Front → ℕ → Within → Type 0)
    (post : Maker → MutBor Front → ℕ → Within → Result Read (Fault Malformed) → MutBor Front → Type 0) : Type 0 where
  pub callable : (maker : Maker) (old : MutBor Front) (what : Within) → maker.names.now ≡ names → old.now.names ≡ names
      → pre maker old depth what
  pub reads : (maker : Maker) (old new : MutBor Front) (what : Within) (result : Result Read (Fault Malformed))
      → maker.names.now ≡ names → post maker old depth what result new
      → ReadsWithin names depth what old.now.input result new.now.input
  pub same : (maker : Maker) (old new : MutBor Front) (what : Within) (result : Result Read (Fault Malformed))
      → maker.names.now ≡ names → post maker old depth what result new → new.now.names ≡ names
  pub named : (maker : Maker) (old new : MutBor Front) (what : Within) (result : Result Read (Fault Malformed))
      → maker.names.now ≡ names → post maker old depth what result new → IsNamedRead names result
