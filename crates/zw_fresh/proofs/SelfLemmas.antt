-- Where all names stay, values and records stay.
use Rattle.std.specs.Prelude.{◌≡◌, List, [], ◌∷◌, map, Option, Some, None}
use Rattle.std.specs.Option.{option_map}
use Rattle.std.proofs.Common.{refl, ap}
use Rattle.zw_def_world.specs.Value.{Value, Values, nil, truth, int, text, symbol, array, module_at, object_at, no_values, value_then}
use Rattle.zw_def_world.specs.Table.{Table}
use Rattle.zw_def_world.specs.Record.{Code, Body, code, reader, writer, primitive, Method, Module, Object}
use Rattle.zw_fresh.specs.Renaming.{in_entry, ren, ren_all, ren_table, ren_code, ren_body, ren_method, ren_methods, ren_module, ren_object}
use Rattle.zw_fresh.proofs.CalmInstance.{as_named}

map_self : {A : Type 0} (g : A → A) → ((x : A) → g x ≡ x) → (xs : List A) → map g xs ≡ xs
map_self g e [] = refl
map_self g e (x ∷ xs) = λ k. e x k ∷ map_self g e xs k

option_self : {A : Type 0} (o : Option A) → option_map (λ x. x) o ≡ o
option_self None = refl
option_self (Some x) = refl

mutual
  pub value_self : (v : Value) → ren as_named v ≡ v
  value_self nil = refl
  value_self (truth b) = refl
  value_self (int z) = refl
  value_self (text t) = refl
  value_self (symbol t) = refl
  value_self (array vs) = ap array (values_self vs)
  value_self (module_at i) = refl
  value_self (object_at i) = refl

  values_self : (vs : Values) → ren_all as_named vs ≡ vs
  values_self no_values = refl
  values_self (value_then v vs) = λ k. value_then (value_self v k) (values_self vs k)

table_self : (t : Table Value) → ren_table as_named t ≡ t
table_self t = map_self (in_entry (ren as_named)) (λ e k. (e.0, value_self e.1 k)) t

code_self : (c : Code) → ren_code as_named c ≡ c
code_self c = ap (λ is. record c { scopes = is }) (map_self (λ i. i) (λ i. refl) c.scopes)

body_self : (b : Body) → ren_body as_named b ≡ b
body_self (code c) = ap code (code_self c)
body_self (reader x) = refl
body_self (writer x) = refl
body_self (primitive row) = refl

methods_self : (t : Table Method) → ren_methods as_named t ≡ t
methods_self t = map_self (in_entry (ren_method as_named)) (λ e k. (e.0, record e.1 { body = body_self e.1.body k })) t

pub module_self : (m : Module) → ren_module as_named m ≡ m
module_self m = λ k. record {
  is_class = m.is_class;
  path = m.path;
  superclass = option_self m.superclass k;
  constants = table_self m.constants k;
  methods = methods_self m.methods k;
  singleton = methods_self m.singleton k;
  includes = map_self (λ i. i) (λ i. refl) m.includes k;
  extensions = map_self (λ i. i) (λ i. refl) m.extensions k;
  variables = table_self m.variables k;
  class_variables = table_self m.class_variables k;
  is_frozen = m.is_frozen;
  home = m.home;
}

pub object_self : (o : Object) → ren_object as_named o ≡ o
object_self o = ap (λ t. record o { variables = t }) (table_self o.variables)
