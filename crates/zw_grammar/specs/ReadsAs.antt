-- What is said of a call that reads what stands within a form: it reads as a reader of the definitions does.
use Rattle.std.specs.Prelude.{◌≡◌, ◌≢◌, List, Some, None, Result, Ok, Err}
use Rattle.zw_base.specs.declared.fault.Fault.{Fault}
use Rattle.zw_base.specs.declared.fault.Fault.TheVariants.{Memory}
use Rattle.zw_def.specs.Text.{Text}
use Rattle.zw_def_syntax.specs.Input.{Input}
use Rattle.zw_def_syntax.specs.Compound.{Reader}
use Rattle.zw_ast.specs.declared.grown.Malformed.{Malformed}
use Rattle.zw_ast.specs.Grown.{grown_seen, all_seen}
use Rattle.zw_expr.specs.declared.grammar.Within.{Within}
use Rattle.zw_expr.specs.declared.grammar.Within.TheVariants as w
use Rattle.zw_expr.specs.declared.grammar.Read.{Read}
use Rattle.zw_expr.specs.declared.grammar.Read.TheVariants as r
use Rattle.zw_expr.specs.Nests.{form_seen}

abbrev pub ReadsAs : List Text → Reader → Within → Input → Result Read (Fault Malformed) → Input → Type 0
ReadsAs names reader (w.Tree form) old (Ok (r.Tree tree)) new =
    reader.tree (form_seen form) old ≡ Some (grown_seen names tree, new)
ReadsAs names reader (w.Tree form) old (Ok (r.Program all)) new = ⊥
ReadsAs names reader (w.Tree form) old (Err fault) new = fault ≢ Memory → reader.tree (form_seen form) old ≡ None
ReadsAs names reader w.Program old (Ok (r.Tree tree)) new = ⊥
ReadsAs names reader w.Program old (Ok (r.Program all)) new = reader.program old ≡ Some (all_seen names all.items, new)
ReadsAs names reader w.Program old (Err fault) new = fault ≢ Memory → reader.program old ≡ None
