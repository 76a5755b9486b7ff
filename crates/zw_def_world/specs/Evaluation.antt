-- The meaning of each kind of node.
use Rattle.std.specs.Prelude.{ℕ, zero, suc, ◌+◌, ◌==◌, true, false, [], if◌then◌else◌}
use Rattle.zw_def_syntax.specs.Tree.{Tree, nil_node, true_node, false_node, self_node, int_node, str_node, sym_node, interp_node, array_node, local_node, ident_node, ivar_node, cvar_node, const_node, scoped_node, top_const_node, set_local, set_ivar, set_cvar, set_const, set_scoped, set_attr, call_node, self_call, super_node, zsuper_node, not_node, and_node, or_node, if_node, while_node, break_node, next_node, return_node, seq_node, begin_node, def_node, sdef_node, class_node, module_node}
use Rattle.zw_def_world.specs.CoreClass.{Object_class}
use Rattle.zw_def_world.specs.Value.{nil, truth, int, symbol}
use Rattle.zw_def_world.specs.Making.{makes_array}
use Rattle.zw_def_world.specs.LookUp.{top_modules}
use Rattle.zw_def_world.specs.Load.{unscoped, scoped, resolves, sets}
use Rattle.zw_def_world.specs.Call.{sets_local}
use Rattle.zw_def_world.specs.Variable.{self_act, local_act, ident_act, ivar_act, cvar_act, to_ivar, to_cvar, to_constant}
use Rattle.zw_def_world.specs.Control.{literal, joins, calls_on, calls_self, to_attribute, calls_next, next_with_parameters, opposite, chosen, turns, perhaps, leaves_method, after_body, ensured}
use Rattle.zw_def_world.specs.Definition.{on_module_or_fault, base_act, class_statement, module_statement, defines, defines_singleton}
use Rattle.zw_def_world.specs.Act.{Act, broken, skipped, too_deep, lost, ends, gives, ◌>>>◌, ◌>>=◌, paid, statements, values_of}

-- ---- a node, where `go` evaluates its parts

abbrev pub row_of : ℕ → (Tree → Act) → Tree → Act
row_of n go nil_node = gives nil
row_of n go true_node = gives (truth true)
row_of n go false_node = gives (truth false)
row_of n go self_node = self_act gives
row_of n go (int_node z) = gives (int z)
row_of n go (str_node t) = literal t
row_of n go (sym_node t) = gives (symbol t)
row_of n go (interp_node parts) = joins go parts []
row_of n go (array_node items) = values_of go items makes_array
row_of n go (local_node x) = local_act x
row_of n go (ident_node x) = ident_act go x
row_of n go (ivar_node x) = ivar_act x
row_of n go (cvar_node x) = cvar_act x
row_of n go (const_node c) = unscoped go c
row_of n go (scoped_node e c) = go e >>= on_module_or_fault (scoped go c)
row_of n go (top_const_node c) = resolves go c Object_class top_modules
row_of n go (set_local x e) = go e >>= sets_local x
row_of n go (set_ivar x e) = go e >>= to_ivar x
row_of n go (set_cvar x e) = go e >>= to_cvar x
row_of n go (set_const c e) = go e >>= to_constant c
row_of n go (set_scoped b c e) = go b >>= (λ base. go e >>= (λ v. on_module_or_fault (λ i. sets i c v) base))
row_of n go (set_attr r x e) = to_attribute go r x e
row_of n go (call_node r x args) = calls_on go r x args
row_of n go (self_call x args) = values_of go args (calls_self go x)
row_of n go (super_node args) = values_of go args (calls_next go)
row_of n go zsuper_node = next_with_parameters go
row_of n go (not_node e) = go e >>= opposite
row_of n go (and_node a b) = go a >>= (λ v. chosen (go b) (gives v) v)
row_of n go (or_node a b) = go a >>= (λ v. chosen (gives v) (go b) v)
row_of n go (if_node order c a b) = go c >>= chosen (statements go a) (statements go b)
row_of n go (while_node order c body) = turns n (go c) (statements go body)
row_of n go break_node = ends broken
row_of n go next_node = ends skipped
row_of n go (return_node e) = perhaps go e leaves_method
row_of n go (seq_node list) = statements go list
row_of n go (begin_node body clauses other last) =
    (statements go body >>> after_body go clauses other) >>> ensured go last
row_of n go (def_node x required optional body) = defines x required optional body
row_of n go (sdef_node x required optional body) = defines_singleton x required optional body
row_of n go (class_node base c superclass body) = base_act go base (class_statement go c superclass body)
row_of n go (module_node base c body) = base_act go base (module_statement go c body)

-- ---- a step, a level, and the node's row

abbrev pub max_level : ℕ
max_level = 2000

abbrev pub enters : ℕ → Act → Act
enters level act = if level == max_level then ends too_deep else act

-- the first number bounds how deep the definition goes; no run takes more steps than are left
unfoldable pub run : ℕ → ℕ → Tree → Act
run zero level node = paid 1 (ends lost)
run (suc n) level node = paid 1 (enters level (row_of n (run n (level + 1)) node))
