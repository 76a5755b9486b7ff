-- Parts of forms, as the definitions have them.
use Rattle.std.specs.Prelude.{◌≤◌, ℕ, max, List, [], ◌∷◌, map, Option, Some, None, length, String, string_bytes, Vec}
use Rattle.std.specs.Option.{option_map}
use Rattle.std.specs.declared.alloc.Global.{Global}
use Rattle.zw_def.specs.Text.{Text}
use Rattle.zw_def_syntax.specs.Tree as t
use Rattle.zw_def_syntax.specs.Tree.{Tree, Perhaps, ◌<$>◌}
use Rattle.zw_def_syntax.specs.Compound as c
use Rattle.zw_def_syntax.specs.Expression as e
use Rattle.zw_names.specs.declared.names.Name.{Name}
use Rattle.zw_ast.specs.declared.grown.Grown.{Grown}
use Rattle.zw_ast.specs.declared.node.Node.{Node}
use Rattle.zw_ast.specs.declared.node.Rescue.{Rescue}
use Rattle.zw_ast.specs.declared.node.Default.{Default}
use Rattle.zw_ast.specs.declared.node.Base.{Base}
use Rattle.zw_ast.specs.declared.node.Part.{Part}
use Rattle.zw_ast.specs.declared.node.Part.TheVariants as p
use Rattle.zw_ast.specs.declared.part.Segment.{Segment}
use Rattle.zw_ast.specs.declared.part.RescueClause.{RescueClause}
use Rattle.zw_ast.specs.declared.part.Clauses.{Clauses}
use Rattle.zw_ast.specs.declared.part.Optional.{Optional}
use Rattle.zw_ast.specs.declared.part.Params.{Params}
use Rattle.zw_ast.specs.declared.part.ConstantPath.{ConstantPath}
use Rattle.zw_ast.specs.Grown.{grown_seen, all_seen, forms, tallest}
use Rattle.zw_ast.specs.Named.{after, greatest, if_any, all_names, bound_of, base_names}
use Rattle.zw_ast.specs.Node.{tree_seen, name_seen, base_seen, rescues_of, rescue_seen, defaults_of, default_seen, branch_of, perhaps_of, parts_of, part_seen}

-- ---- what they stand for

module _ (names : List Text) where
  abbrev pub segment_seen : Segment → e.Segment
  segment_seen s = record { text = string_bytes s.text; program = all_seen names s.program.items }

  abbrev pub branch_seen : Option (Vec (Grown Node) Global) → Option (List (t.Grown Tree))
  branch_seen o = option_map (λ v. all_seen names v.items) o

  abbrev pub clause_seen : RescueClause → c.Rescue
  clause_seen r = record {
    paths = all_seen names r.paths.items;
    variable = option_map (name_seen names) r.variable;
    body = all_seen names r.body.items;
  }

  abbrev pub clauses_seen : Clauses → c.Clauses
  clauses_seen s = record {
    body = all_seen names s.body.items;
    rescues = map clause_seen s.rescues.items;
    other = branch_seen s.other;
    ensured = branch_seen s.ensured;
  }

  abbrev pub optional_seen : Optional → c.Default
  optional_seen d = record { name = name_seen names d.name; value = grown_seen names d.value }

  abbrev pub params_seen : Params → c.Params
  params_seen p = record {
    required = map (name_seen names) p.required.items;
    optional = map optional_seen p.optional.items;
  }

  abbrev pub path_seen : ConstantPath → c.Path
  path_seen p = record {
    base = record { form = base_seen names p.base.form; height = p.base.height };
    name = name_seen names p.name;
  }

  abbrev pub superclass_seen : Option (Grown Node) → t.Grown Perhaps
  superclass_seen None = t.flat t.absent
  superclass_seen (Some g) = t.present <$> grown_seen names g

-- ---- the parts of nodes that are made of them, and their heights

module _ (names : List Text) where
  abbrev pub rescues_row_seen : Grown (List (Rescue Node)) → t.Grown t.Rescues
  rescues_row_seen g = record { form = rescues_of names (map (rescue_seen names) g.form); height = g.height }

  abbrev pub defaults_row_seen : Grown (List (Default Node)) → t.Grown t.Defaults
  defaults_row_seen g = record { form = defaults_of names (map (default_seen names) g.form); height = g.height }

  abbrev pub branch_row_seen : Grown (Option (List Node)) → t.Grown t.Branch
  branch_row_seen g = record { form = branch_of (option_map (map (tree_seen names)) g.form); height = g.height }

  abbrev pub parts_row_seen : Grown (List (Part Node)) → t.Grown t.Parts
  parts_row_seen g = record { form = parts_of (map (part_seen names) g.form); height = g.height }

  abbrev pub perhaps_row_seen : Grown (Option Node) → t.Grown Perhaps
  perhaps_row_seen g = record { form = perhaps_of (option_map (tree_seen names) g.form); height = g.height }

abbrev pub rescue_form : RescueClause → Rescue Node
rescue_form r = record { paths = forms r.paths.items; variable = r.variable; body = forms r.body.items }

abbrev pub rescues_height : List RescueClause → ℕ
rescues_height [] = 0
rescues_height (r ∷ rs) = max (max (tallest r.paths.items) (tallest r.body.items)) (rescues_height rs)

abbrev pub default_form : Optional → Default Node
default_form d = record { name = d.name; value = d.value.form }

abbrev pub defaults_height : List Optional → ℕ
defaults_height [] = 0
defaults_height (d ∷ ds) = max d.value.height (defaults_height ds)

-- a text and a program for each segment, and then the last text
abbrev pub segment_parts : List Segment → String Global → List (Part Node)
segment_parts [] last = p.Text last ∷ []
segment_parts (s ∷ ss) last = p.Text s.text ∷ p.Program (forms s.program.items) ∷ segment_parts ss last

abbrev pub segments_height : List Segment → ℕ
segments_height [] = 0
segments_height (s ∷ ss) = max (tallest s.program.items) (segments_height ss)

-- ---- their names

abbrev pub segment_names : Segment → ℕ
segment_names s = all_names (forms s.program.items)

abbrev pub clause_names : RescueClause → ℕ
clause_names r =
    max (max (all_names (forms r.paths.items)) (if_any after r.variable)) (all_names (forms r.body.items))

abbrev pub branch_names : Option (Vec (Grown Node) Global) → ℕ
branch_names o = if_any (λ v. all_names (forms v.items)) o

abbrev pub clauses_names : Clauses → ℕ
clauses_names s =
    max (max (all_names (forms s.body.items)) (greatest clause_names s.rescues.items))
    (max (branch_names s.other) (branch_names s.ensured))

abbrev pub optional_names : Optional → ℕ
optional_names d = max (after d.name) (bound_of d.value.form)

abbrev pub params_names : Params → ℕ
params_names p = max (greatest after p.required.items) (greatest optional_names p.optional.items)

abbrev pub path_names : ConstantPath → ℕ
path_names p = max (base_names p.base.form) (after p.name)

abbrev pub superclass_names : Option (Grown Node) → ℕ
superclass_names o = if_any (λ g. bound_of g.form) o
