-- The parameters and the body of a method, as the definitions have them, and the names that they hold.
use Rattle.std.specs.Prelude.{ℕ, max, List}
use Rattle.zw_def.specs.Text.{Text}
use Rattle.zw_def_syntax.specs.Compound as c
use Rattle.zw_ast.specs.Part.{clauses_names, clauses_seen, params_names, params_seen}
use Rattle.zw_compound.specs.declared.method.Method.{Method}

abbrev pub method_parts_seen : List Text → Method → c.Method
method_parts_seen names m = record { params = params_seen names m.params; clauses = clauses_seen names m.clauses }

abbrev pub method_names : Method → ℕ
method_names m = max (params_names m.params) (clauses_names m.clauses)
