-- Variables that are set.
use Rattle.std.specs.Prelude.{List}
use Rattle.zw_def.specs.Text.{Text}
use Rattle.zw_def_syntax.specs.Tree as t
use Rattle.zw_def_syntax.specs.Tree.{Tree}
use Rattle.zw_names.specs.declared.names.Name.{Name}
use Rattle.zw_ast.specs.Node.{name_seen}
use Rattle.zw_grammar.specs.declared.variable.Variable.{Variable}
use Rattle.zw_grammar.specs.declared.variable.Variable.TheVariants as v

abbrev pub name_in : Variable → Name
name_in (v.Local name) = name
name_in (v.Instance name) = name
name_in (v.Class name) = name

-- the node that reads it
abbrev pub read_of : List Text → Variable → Tree
read_of names (v.Local name) = t.local_node (name_seen names name)
read_of names (v.Instance name) = t.ivar_node (name_seen names name)
read_of names (v.Class name) = t.cvar_node (name_seen names name)

-- the node that sets it
abbrev pub set_by : List Text → Variable → Tree → Tree
set_by names (v.Local name) e = t.set_local (name_seen names name) e
set_by names (v.Instance name) e = t.set_ivar (name_seen names name) e
set_by names (v.Class name) e = t.set_cvar (name_seen names name) e
