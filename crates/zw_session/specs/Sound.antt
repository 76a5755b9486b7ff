-- What is true of every session: its stores tell of each other.
use Rattle.std.specs.Prelude.{◌≡◌, ℕ, ◌<◌, ◌≤◌, Bool, List, [], length, Option, Some, None}
use Rattle.std.specs.List.{All, slice_get}
use Rattle.std.specs.Option.{option_map}
use Rattle.zw_consts.specs.Table.{tables_of}
use Rattle.zw_code.specs.Code.{code_names}
use Rattle.zw_code.specs.declared.code.Code.{Code}
use Rattle.zw_heap.specs.Heap.{sizes_of}
use Rattle.zw_heap.specs.Sound.{EntryIn}
use Rattle.zw_methods.specs.Methods.{tables_in}
use Rattle.zw_methods.specs.declared.method.Method.{Method}
use Rattle.zw_methods.specs.declared.method.MethodBody.{MethodBody}
use Rattle.zw_methods.specs.declared.method.MethodBody.TheVariants as b
use Rattle.zw_session.specs.Stores.{Stores}

-- so many names and bodies are there
abbrev pub BodyIn : ℕ → ℕ → MethodBody → Type 0
BodyIn names bodies (b.Code body) = body.0 < bodies
BodyIn names bodies (b.Reader x) = x.0 < names
BodyIn names bodies (b.Writer x) = x.0 < names
BodyIn names bodies (b.Prim prim) = Unit {0}

abbrev pub MethodIn : ℕ → ℕ → ℕ × Method → Type 0
MethodIn names bodies e = BodyIn names bodies e.1.body

-- so many names and modules are there
pub record CodeIn (names modules : ℕ) (c : Code) : Type 0 where
  pub named : code_names c ≤ names
  pub scopes_in : All (λ m. m.0 < modules) c.scopes.items

pub record IsSound (s : Stores) : Type 0 where
  pub named : s.heap.names ≡ length s.names
  -- no load is in progress
  pub outside : option_map (λ p. p.load) (slice_get s.heap.places s.heap.here) ≡ Some None
  pub constants_in : (n : ℕ) → All (EntryIn (sizes_of s.heap)) (tables_of s.constants n)
  pub constants_few : (n : ℕ) → length s.heap.modules ≤ n → tables_of s.constants n ≡ []
  pub methods_in : (singleton : Bool) (n : ℕ)
      → All (MethodIn (length s.names) (length s.bodies)) (tables_in s.methods singleton n)
  pub methods_few : (singleton : Bool) (n : ℕ) → length s.heap.modules ≤ n → tables_in s.methods singleton n ≡ []
  pub bodies_in : All (CodeIn (length s.names) (length s.heap.modules)) s.bodies
