-- What holds of each change, holds of definitions of methods, classes and modules.
use Rattle.std.specs.Prelude.{Bool, List, Option, Some, None}
use Rattle.zw_def.specs.ConstantPath.{ConstantPath}
use Rattle.zw_def.specs.Text.{Text}
use Rattle.zw_def_syntax.specs.Tree.{Defaults, Trees, Tree, Base, innermost, topmost, within_node, Perhaps, absent, present}
use Rattle.zw_def_world.specs.Act.{Act}
use Rattle.zw_def_world.specs.Definition.{changes_scope, defines_in, defines, defines_singleton_in, defines_singleton, base_act, or_no_module, on_module_or_fault, runs_class_body, opens_home, unless_wrong_home, makes_at_home, makes_opened, no_class_fault, mismatch, makes_class, reopens_class, reopens_class_value, opens_class, class_in, superclass_fault, tests_superclass_of, tests_superclass, class_statement, no_module_fault, reopens_module_value, opens_module, module_in, module_statement}
use Rattle.zw_def_world.specs.Frame.{Frame}
use Rattle.zw_def_world.specs.Id.{Id}
use Rattle.zw_def_world.specs.Record.{Module, Code}
use Rattle.zw_def_world.specs.Value.{Value}
use Rattle.zw_def_world.proofs.EvolutionLaws.{Evolution, Keeps, keeping}
use Rattle.zw_def_world.proofs.FaultLaws.{unless_frozen_keeps, no_module_keeps, fails_keeps}
use Rattle.zw_def_world.proofs.LoadLaws.{opens_keeps, unless_wrong_keeps, makes_module_keeps, asks_keeps}

-- ---- methods, classes and modules

pub changes_scope_keeps : {E : Evolution} (g : (Module → Module)) (x : Text) (i : Id) → Keeps E
    (changes_scope g x i)
changes_scope_keeps g x i = search (keeping, unless_frozen_keeps)

pub defines_in_keeps : {E : Evolution} (x : Text) (code_in : (List Id → Code)) (f : Frame) → Keeps E
    (defines_in x code_in f)
defines_in_keeps x code_in f = search (keeping, changes_scope_keeps)

pub defines_keeps : {E : Evolution} (x : Text) (required : List Text) (optional : Defaults) (body : Trees) →
    Keeps E (defines x required optional body)
defines_keeps x required optional body = search (keeping, defines_in_keeps)

pub defines_singleton_in_keeps : {E : Evolution} (x : Text) (code_in : (List Id → Code)) (f : Frame) → Keeps E
    (defines_singleton_in x code_in f)
defines_singleton_in_keeps x code_in f = search (keeping, changes_scope_keeps)

pub defines_singleton_keeps : {E : Evolution} (x : Text) (required : List Text) (optional : Defaults)
    (body : Trees) → Keeps E (defines_singleton x required optional body)
defines_singleton_keeps x required optional body = search (keeping, defines_singleton_in_keeps)

pub base_act_keeps : {E : Evolution} {go : Tree → Act} (g : (t : Tree) → Keeps E (go t)) (z : Base)
    {k : Value → Act} (b : (y : Value) → Keeps E (k y)) → Keeps E (base_act go z k)
base_act_keeps g innermost b = search keeping
base_act_keeps g topmost b = search keeping
base_act_keeps g (within_node e) b = search keeping

pub or_no_module_keeps : {E : Evolution} {k : Id → Act} (b : (y : Id) → Keeps E (k y)) (v : Value)
    (z : Option Id) → Keeps E (or_no_module k v z)
or_no_module_keeps b v None = search (keeping, no_module_keeps)
or_no_module_keeps b v (Some i) = search keeping

pub on_module_or_fault_keeps : {E : Evolution} {k : Id → Act} (b : (y : Id) → Keeps E (k y)) (v : Value) → Keeps
    E (on_module_or_fault k v)
on_module_or_fault_keeps b v = search (keeping, or_no_module_keeps)

pub runs_class_body_keeps : {E : Evolution} {go : Tree → Act} (g : (t : Tree) → Keeps E (go t)) (body : Trees)
    (i : Id) → Keeps E (runs_class_body go body i)
runs_class_body_keeps g body i = search keeping

pub opens_home_keeps : {E : Evolution} (z : Option ConstantPath) → Keeps E (opens_home z)
opens_home_keeps None = search keeping
opens_home_keeps (Some p) = search (keeping, opens_keeps)

pub unless_wrong_home_keeps : {E : Evolution} (z : Option ConstantPath) {m : Act} (a : Keeps E m) → Keeps E
    (unless_wrong_home z m)
unless_wrong_home_keeps None a = search keeping
unless_wrong_home_keeps (Some p) a = search (keeping, unless_wrong_keeps)

pub makes_at_home_keeps : {E : Evolution} (is_class : Bool) (superclass : Option Id) (i : Id) (n : Text)
    {k : Id → Act} (b : (y : Id) → Keeps E (k y)) (m : Module) (home : Option ConstantPath) → Keeps E
    (makes_at_home is_class superclass i n k m home)
makes_at_home_keeps is_class superclass i n b m home =
    search (keeping, unless_wrong_home_keeps, makes_module_keeps, opens_home_keeps)

pub makes_opened_keeps : {E : Evolution} (is_class : Bool) (superclass : Option Id) (i : Id) (n : Text)
    {k : Id → Act} (b : (y : Id) → Keeps E (k y)) → Keeps E (makes_opened is_class superclass i n k)
makes_opened_keeps is_class superclass i n b = search (keeping, makes_at_home_keeps)

pub no_class_fault_keeps : {E : Evolution} (n : Text) → Keeps E (no_class_fault n)
no_class_fault_keeps n = search (keeping, fails_keeps)

pub mismatch_keeps : {E : Evolution} (n : Text) → Keeps E (mismatch n)
mismatch_keeps n = search (keeping, fails_keeps)

pub makes_class_keeps : {E : Evolution} (superclass : Option Id) (i : Id) (n : Text) {k : Id → Act}
    (b : (y : Id) → Keeps E (k y)) → Keeps E (makes_class superclass i n k)
makes_class_keeps superclass i n b = search (keeping, fails_keeps, makes_opened_keeps)

pub reopens_class_keeps : {E : Evolution} (superclass : Option Id) (n : Text) {k : Id → Act}
    (b : (y : Id) → Keeps E (k y)) (i : Id) (m : Module) → Keeps E (reopens_class superclass n k i m)
reopens_class_keeps superclass n b i m = search (keeping, no_class_fault_keeps, mismatch_keeps)

pub reopens_class_value_keeps : {E : Evolution} (superclass : Option Id) (n : Text) {k : Id → Act}
    (b : (y : Id) → Keeps E (k y)) (z : Option Id) → Keeps E (reopens_class_value superclass n k z)
reopens_class_value_keeps superclass n b None = search (keeping, no_class_fault_keeps)
reopens_class_value_keeps superclass n b (Some i) = search (keeping, reopens_class_keeps)

pub opens_class_keeps : {E : Evolution} (superclass : Option Id) (i : Id) (n : Text) {k : Id → Act}
    (b : (y : Id) → Keeps E (k y)) (o : Option Value) → Keeps E (opens_class superclass i n k o)
opens_class_keeps superclass i n b None = search (keeping, makes_class_keeps)
opens_class_keeps superclass i n b (Some v) = search (keeping, reopens_class_value_keeps)

pub class_in_keeps : {E : Evolution} {go : Tree → Act} (g : (t : Tree) → Keeps E (go t)) (n : Text)
    (body : Trees) (i : Id) (superclass : Option Id) → Keeps E (class_in go n body i superclass)
class_in_keeps g n body i superclass = search (keeping, asks_keeps, opens_class_keeps, runs_class_body_keeps)

pub superclass_fault_keeps : {E : Evolution} (v : Value) → Keeps E (superclass_fault v)
superclass_fault_keeps v = search (keeping, fails_keeps)

pub tests_superclass_of_keeps : {E : Evolution} {k : Option Id → Act} (b : (y : Option Id) → Keeps E (k y))
    (v : Value) (z : Option Id) → Keeps E (tests_superclass_of k v z)
tests_superclass_of_keeps b v None = search (keeping, superclass_fault_keeps)
tests_superclass_of_keeps b v (Some i) = search (keeping, superclass_fault_keeps)

pub tests_superclass_keeps : {E : Evolution} {k : Option Id → Act} (b : (y : Option Id) → Keeps E (k y))
    (v : Value) → Keeps E (tests_superclass k v)
tests_superclass_keeps b v = search (keeping, tests_superclass_of_keeps)

pub class_statement_keeps : {E : Evolution} {go : Tree → Act} (g : (t : Tree) → Keeps E (go t)) (n : Text)
    (z : Perhaps) (body : Trees) (base : Value) → Keeps E (class_statement go n z body base)
class_statement_keeps g n absent body base = search (keeping, on_module_or_fault_keeps, class_in_keeps)
class_statement_keeps g n (present e) body base =
    search (keeping, on_module_or_fault_keeps, tests_superclass_keeps, class_in_keeps)

pub no_module_fault_keeps : {E : Evolution} (n : Text) → Keeps E (no_module_fault n)
no_module_fault_keeps n = search (keeping, fails_keeps)

pub reopens_module_value_keeps : {E : Evolution} (n : Text) {k : Id → Act} (b : (y : Id) → Keeps E (k y))
    (z : Option Id) → Keeps E (reopens_module_value n k z)
reopens_module_value_keeps n b None = search (keeping, no_module_fault_keeps)
reopens_module_value_keeps n b (Some i) = search (keeping, no_module_fault_keeps)

pub opens_module_keeps : {E : Evolution} (i : Id) (n : Text) {k : Id → Act} (b : (y : Id) → Keeps E (k y))
    (o : Option Value) → Keeps E (opens_module i n k o)
opens_module_keeps i n b None = search (keeping, makes_opened_keeps)
opens_module_keeps i n b (Some v) = search (keeping, reopens_module_value_keeps)

pub module_in_keeps : {E : Evolution} {go : Tree → Act} (g : (t : Tree) → Keeps E (go t)) (n : Text)
    (body : Trees) (i : Id) → Keeps E (module_in go n body i)
module_in_keeps g n body i = search (keeping, asks_keeps, opens_module_keeps, runs_class_body_keeps)

pub module_statement_keeps : {E : Evolution} {go : Tree → Act} (g : (t : Tree) → Keeps E (go t)) (n : Text)
    (body : Trees) (base : Value) → Keeps E (module_statement go n body base)
module_statement_keeps g n body base = search (keeping, on_module_or_fault_keeps, module_in_keeps)
