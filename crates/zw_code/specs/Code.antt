-- The code of methods, told as the definition's.
use Rattle.std.specs.Prelude.{ℕ, max, List, map}
use Rattle.zw_def.specs.Text.{Text}
use Rattle.zw_def_world.specs.Id.{Id}
use Rattle.zw_def_world.specs.Record as told
use Rattle.zw_ast.specs.Named.{after, greatest, all_names, default_names}
use Rattle.zw_ast.specs.Node.{name_seen, defaults_of, default_seen, row_of_nodes}
use Rattle.zw_code.specs.declared.code.Code.{Code}

-- by a list of names, and what the numbers of modules are told as
abbrev pub told_code : List Text → (ℕ → Id) → Code → told.Code
told_code names ids c = record {
  required = map (name_seen names) c.required;
  optional = defaults_of names (map (default_seen names) c.optional);
  body = row_of_nodes names c.body;
  scopes = map (λ m. ids m.0) c.scopes.items;
}

-- a number that no name of the code reaches
abbrev pub code_names : Code → ℕ
code_names c = max (max (greatest after c.required) (greatest default_names c.optional)) (all_names c.body)
