-- Methods in the world of a session: the one that answers a call, and one that is defined.
use Rattle.std.proofs.Common.{◌≡◌, Bool, true, false, not, ℕ, ◌<◌, ◌≤◌, List, [], ◌∷◌, ◌++◌, cond, length, slice_get, nat_eq, Option, Some, None, Result, Ok, Err, refl, ap, sym, subst, ◌∙◌, arith, ne_eqb}
use Rattle.std.specs.List.{All}
use Rattle.std.specs.Option.{option_map}
use Rattle.std.proofs.lemmas.Bool.{eqb-true, eq-eqb}
use Rattle.std.proofs.lemmas.List.Elements.{All-cons, All-head, All-nil, All-tail}
use Rattle.std.proofs.lemmas.Option.{slice_get_within}
use Rattle.indexmap.specs.IndexMap.{insert_entry}
use Rattle.zw_base.specs.declared.fault.Fault.{Fault}
use Rattle.zw_base.specs.declared.fault.Fault.TheVariants.{Refused, Memory}
use Rattle.zw_consts.specs.Table.{Table, tables_of, with_value}
use Rattle.zw_calls.specs.Fault.{fault_seen}
use Rattle.zw_def.specs.Text.{Text}
use Rattle.zw_def_syntax.specs.Tree.{Tree as Node}
use Rattle.zw_def_world.specs.Act.{Act, Point, changing, changing_module, gives}
use Rattle.zw_def_world.specs.Definition.{changes_scope}
use Rattle.zw_def_world.specs.Record as told
use Rattle.zw_def_world.specs.Value as told_value
use Rattle.zw_def_world.specs.World.{at_module}
use Rattle.zw_fault.specs.declared.raise.Raise.{Raise}
use Rattle.zw_heap.specs.Heap.{is_frozen_in}
use Rattle.zw_heap.specs.ModuleRecord.{Module}
use Rattle.zw_heap.specs.declared.value.ModuleId.{ModuleId}
use Rattle.zw_heap.specs.declared.value.Value.{Value}
use Rattle.zw_heap.specs.declared.value.Value.TheVariants as v
use Rattle.zw_methods.specs.Methods.{Methods, tables_in, with_method}
use Rattle.zw_methods.specs.Telling.{told_method, told_methods}
use Rattle.zw_methods.specs.declared.method.Method.{Method}
use Rattle.zw_names.specs.declared.names.Name.{Name}
use Rattle.zw_ops.specs.Choice.{Chooses, ChoosesNext, Tells}
use Rattle.zw_ops.specs.declared.choice.Chosen.{Chosen}
use Rattle.zw_ops.specs.declared.choice.Running.{Running}
use Rattle.zw_ops.specs.declared.written.Absent.{Absent}
use Rattle.zw_ops.specs.declared.written.Written.{Written}
use Rattle.zw_ops.specs.declared.written.Written.TheVariants.{AsSelf}
use Rattle.zw_told.specs.Record.{records_by}
use Rattle.zw_told.proofs.TableLemmas.{assigned-told}
use Rattle.zw_session.specs.Acts.{calls_method, calls_next, defines_method, gives_symbol, runs_chosen, with_told_method}
use Rattle.zw_session.specs.Sense.{Sense, Stands, module_at, told_module, world_of}
use Rattle.zw_session.specs.Sound.{IsSound, BodyIn, MethodIn}
use Rattle.zw_session.specs.Step.{Step, Steps}
use Rattle.zw_session.specs.Stores.{Stores}
use Rattle.zw_session.proofs.ActLemmas.{changes, in_module-found, stays-here}
use Rattle.zw_session.proofs.FaultLemmas.{unless-frozen, unless-free}
use Rattle.zw_session.proofs.WorldLemmas.{at_module-told, tells}

-- ---- the method that answers a call

module _ (s : Stores) where
  told-here : (J : Sense) (p : Point) → Stands J s → p.world ≡ world_of J s → Tells J.telling J.codes s.heap s.methods s.names p.world
  told-here J p stands here = subst (Tells J.telling J.codes s.heap s.methods s.names) (sym here) (tells J s stands)

  pub call-chosen : (how : Written) (absent : Absent) (receiver : Value) (x : Name) (r : Result Chosen (Fault Raise)) → Chooses s.heap s.methods s.names how absent receiver x.0 r
      → (go : Node → Act) (vs : List told_value.Value) → Steps s s (calls_method go how absent receiver x vs) (runs_chosen go how receiver vs) r
  call-chosen how absent receiver x (Ok c) chooses go vs = λ J p stands here.
      chooses J.telling J.codes go vs p (told-here J p stands here) ∙ ap (runs_chosen go how receiver vs c J) (sym (stays-here J s p here))
  call-chosen how absent receiver x (Err (Refused raise)) chooses go vs = λ J p stands here.
      chooses J.telling J.codes go vs p (told-here J p stands here) ∙ ap (fault_seen raise) (sym (stays-here J s p here))
  call-chosen how absent receiver x (Err Memory) chooses go vs = tt

  pub next-chosen : (receiver : Value) (running : Running) (r : Result Chosen (Fault Raise)) → ChoosesNext s.heap s.methods s.names receiver running r
      → (go : Node → Act) (vs : List told_value.Value) → Steps s s (calls_next go receiver running vs) (runs_chosen go AsSelf receiver vs) r
  next-chosen receiver running (Ok c) chooses go vs = λ J p stands here.
      chooses J.telling J.codes go vs p (told-here J p stands here) ∙ ap (runs_chosen go AsSelf receiver vs c J) (sym (stays-here J s p here))
  next-chosen receiver running (Err (Refused raise)) chooses go vs = λ J p stands here.
      chooses J.telling J.codes go vs p (told-here J p stands here) ∙ ap (fault_seen raise) (sym (stays-here J s p here))
  next-chosen receiver running (Err Memory) chooses go vs = tt

-- ---- a method that is defined

module _ (names bodies : ℕ) where
  method-inserted : (x : ℕ) (method : Method) → BodyIn names bodies method.body → (es : List (ℕ × Method)) → All (MethodIn names bodies) es → All (MethodIn names bodies) (insert_entry nat_eq es x method)
  method-inserted x method in-session [] all = All-cons (MethodIn names bodies) (x, method) [] in-session (All-nil (MethodIn names bodies))
  method-inserted x method in-session (e ∷ es) all = by (nat_eq x e.0) (method-inserted x method in-session es (All-tail (MethodIn names bodies) e es all))
    where
      by : (b : Bool) → All (MethodIn names bodies) (insert_entry nat_eq es x method) → All (MethodIn names bodies) (cond b ((e.0, method) ∷ es) (e ∷ insert_entry nat_eq es x method))
      by true more = All-cons (MethodIn names bodies) (e.0, method) es in-session (All-tail (MethodIn names bodies) e es all)
      by false more = All-cons (MethodIn names bodies) e (insert_entry nat_eq es x method) (All-head (MethodIn names bodies) e es all) more

pub Sound-tables : (s : Stores) (me : Methods) → IsSound s → tables_in me ≡ tables_in s.methods → IsSound (record s { methods = me })
Sound-tables s me sound same = record {
  named = sound.named;
  outside = sound.outside;
  constants_in = sound.constants_in;
  constants_few = sound.constants_few;
  methods_in = λ singleton n. subst (λ (f : Bool → ℕ → Table Method). All (MethodIn (length s.names) (length s.bodies)) (f singleton n)) (sym same) (sound.methods_in singleton n);
  methods_few = λ singleton n past. ap (λ (f : Bool → ℕ → Table Method). f singleton n) same ∙ sound.methods_few singleton n past;
  bodies_in = sound.bodies_in;
}

-- the same tables stand for the same world
pub tables-same : (s : Stores) (me : Methods) → tables_in me ≡ tables_in s.methods → (J : Sense) → world_of J (record s { methods = me }) ≡ world_of J s
tables-same s me same J = λ i. record (world_of J s) {
  modules = records_by J.telling.module_id (length s.heap.modules) (λ n. option_map (λ m. record (told_module J s n m) {
    methods = told_methods J.telling J.codes (same i false n);
    singleton = told_methods J.telling J.codes (same i true n);
  }) (slice_get s.heap.modules n));
}

module _ (s : Stores) (me : Methods) (n : ℕ) (singleton : Bool) (x : ℕ) (method : Method) (set : tables_in me ≡ with_method n singleton x method (tables_in s.methods)) where
  abbrev defined_so : Stores
  defined_so = record s { methods = me }

  method-table : tables_in me singleton n ≡ insert_entry nat_eq (tables_in s.methods singleton n) x method
  method-table = ap (λ (f : Bool → ℕ → Table Method). f singleton n) set ∙ by singleton (eq-eqb n n refl)
    where
      by : (b : Bool) → nat_eq n n ≡ true → with_method n b x method (tables_in s.methods) b n ≡ insert_entry nat_eq (tables_in s.methods b n) x method
      by true self = ap (λ c. cond c (insert_entry nat_eq (tables_in s.methods true n) x method) (tables_in s.methods true n)) self
      by false self = ap (λ c. cond c (insert_entry nat_eq (tables_in s.methods false n) x method) (tables_in s.methods false n)) self

  other-modules : (b : Bool) (m : ℕ) → nat_eq m n ≡ false → tables_in me b m ≡ tables_in s.methods b m
  other-modules b m apart = ap (λ (f : Bool → ℕ → Table Method). f b m) set ∙ by singleton b
    where
      by : (b c : Bool) → with_method n b x method (tables_in s.methods) c m ≡ tables_in s.methods c m
      by true true = ap (λ c. cond c (insert_entry nat_eq (tables_in s.methods true m) x method) (tables_in s.methods true m)) apart
      by true false = refl
      by false true = refl
      by false false = ap (λ c. cond c (insert_entry nat_eq (tables_in s.methods false m) x method) (tables_in s.methods false m)) apart

  -- the other table of the same module
  other-table : with_method n singleton x method (tables_in s.methods) (not singleton) n ≡ tables_in s.methods (not singleton) n
  other-table = by singleton
    where
      by : (b : Bool) → with_method n b x method (tables_in s.methods) (not b) n ≡ tables_in s.methods (not b) n
      by true = refl
      by false = refl

  -- the table that is changed, by what tells it
  changed : (b : Bool) → b ≡ singleton → tables_in me b n ≡ insert_entry nat_eq (tables_in s.methods b n) x method
  changed b is = subst (λ c. tables_in me c n ≡ insert_entry nat_eq (tables_in s.methods c n) x method) (sym is) method-table

  -- and the other table of the module
  kept : (b : Bool) → not singleton ≡ b → tables_in me b n ≡ tables_in s.methods b n
  kept b is = subst (λ c. tables_in me c n ≡ tables_in s.methods c n) is (ap (λ (f : Bool → ℕ → Table Method). f (not singleton) n) set ∙ other-table)

  pub Sound-method : IsSound s → n < length s.heap.modules → BodyIn (length s.names) (length s.bodies) method.body → IsSound defined_so
  Sound-method sound within in-session = record {
    named = sound.named;
    outside = sound.outside;
    constants_in = sound.constants_in;
    constants_few = sound.constants_few;
    methods_in = λ b m. at b m (nat_eq m n) refl;
    methods_few = λ b m past. other-modules b m (ne_eqb m n (λ same. omega (arith, same, past, within))) ∙ sound.methods_few b m past;
    bodies_in = sound.bodies_in;
  }
    where
      P : ℕ × Method → Type 0
      P = MethodIn (length s.names) (length s.bodies)

      here : (b c : Bool) → All P (with_method n b x method (tables_in s.methods) c n)
      here true true = subst (All P) (sym (ap (λ c. cond c (insert_entry nat_eq (tables_in s.methods true n) x method) (tables_in s.methods true n)) (eq-eqb n n refl))) (method-inserted (length s.names) (length s.bodies) x method in-session (tables_in s.methods true n) (sound.methods_in true n))
      here true false = sound.methods_in false n
      here false true = sound.methods_in true n
      here false false = subst (All P) (sym (ap (λ c. cond c (insert_entry nat_eq (tables_in s.methods false n) x method) (tables_in s.methods false n)) (eq-eqb n n refl))) (method-inserted (length s.names) (length s.bodies) x method in-session (tables_in s.methods false n) (sound.methods_in false n))

      at : (b : Bool) (m : ℕ) (c : Bool) → nat_eq m n ≡ c → All P (tables_in me b m)
      at b m true is =
          subst (λ k. All P (tables_in me b k)) (sym (eqb-true m n is))
          (subst (λ (f : Bool → ℕ → Table Method). All P (f b n)) (sym set) (here singleton b))
      at b m false is = subst (All P) (sym (other-modules b m is)) (sound.methods_in b m)

  module _ (J : Sense) (m : Module) (there : slice_get s.heap.modules n ≡ Some m) where
    -- the record of the module, as it is told before and now
    record-told-so : (b : Bool) → b ≡ singleton → told_module J defined_so n m ≡ with_told_method b (J.telling.name x) (told_method J.telling J.codes method) (told_module J s n m)
    record-told-so true is = λ i. record (told_module J s n m) {
      methods = told_methods J.telling J.codes (kept false (ap not (sym is)) i);
      singleton = (ap (told_methods J.telling J.codes) (changed true is) ∙ sym (assigned-told J.telling.name J.telling.names_differ (told_method J.telling J.codes) x method (tables_in s.methods true n))) i;
    }
    record-told-so false is = λ i. record (told_module J s n m) {
      methods = (ap (told_methods J.telling J.codes) (changed false is) ∙ sym (assigned-told J.telling.name J.telling.names_differ (told_method J.telling J.codes) x method (tables_in s.methods false n))) i;
      singleton = told_methods J.telling J.codes (kept true (ap not (sym is)) i);
    }

    pub method-told : world_of J defined_so ≡ at_module (J.telling.module_id n) (with_told_method singleton (J.telling.name x) (told_method J.telling J.codes method)) (world_of J s)
    method-told = at_module-told J s s.heap.modules s.constants me n (with_told_method singleton (J.telling.name x) (told_method J.telling J.codes method)) (slice_get_within s.heap.modules n m there) refl
        (ap (option_map (told_module J defined_so n)) there ∙ ap Some (record-told-so singleton refl) ∙ sym (ap (λ o. option_map (with_told_method singleton (J.telling.name x) (told_method J.telling J.codes method)) (option_map (told_module J s n) o)) there))
        (λ k apart. by k (slice_get s.heap.modules k) apart)
      where
        by : (k : ℕ) (o : Option Module) → nat_eq k n ≡ false → option_map (told_module J defined_so k) o ≡ option_map (told_module J s k) o
        by k None apart = refl
        by k (Some y) apart = λ i. Some (record (told_module J s k y) {
          methods = told_methods J.telling J.codes (other-modules false k apart i);
          singleton = told_methods J.telling J.codes (other-modules true k apart i);
        })

module _ (s : Stores) (me : Methods) (i : ModuleId) (singleton : Bool) (x : ℕ) (method : Method) (set : tables_in me ≡ with_method i.0 singleton x method (tables_in s.methods)) (J : Sense) (m : Module) (there : slice_get s.heap.modules i.0 ≡ Some m) (p : Point) (here : p.world ≡ world_of J s) where
  abbrev change : told.Module → told.Module
  change = with_told_method singleton (J.telling.name x) (told_method J.telling J.codes method)

  pub method-defined : is_frozen_in s.heap (v.Module i) ≡ Some false → changes_scope change (J.telling.name x) (J.telling.module_id i.0) p ≡ gives (told_value.symbol (J.telling.name x)) (record p { world = world_of J (record s { methods = me }) })
  method-defined free =
      unless-free J s p here (v.Module i) (changing_module (J.telling.module_id i.0) change (told_value.symbol (J.telling.name x))) free
      ∙ in_module-found J s (record p { world = world_of J s }) refl i.0 m (λ y. changing (at_module (J.telling.module_id i.0) change) (told_value.symbol (J.telling.name x))) there
      ∙ changes J s (record p { world = world_of J s }) refl (record s { methods = me }) (at_module (J.telling.module_id i.0) change) (told_value.symbol (J.telling.name x)) (method-told s me i.0 singleton x method set J m there)
