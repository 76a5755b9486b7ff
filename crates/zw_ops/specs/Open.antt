-- What a class or module statement goes on with, in every world that agrees with the heap.
use Rattle.std.specs.Prelude.{ℕ, Bool, true, false, List, Option, Some, None, Result, Ok, Err}
use Rattle.std.specs.Option.{option_map}
use Rattle.zw_base.specs.declared.fault.Fault.{Fault}
use Rattle.zw_base.specs.declared.fault.Fault.TheVariants.{Refused, Memory}
use Rattle.zw_calls.specs.Fault.{AreSame, fault_seen}
use Rattle.zw_def.specs.Text.{Text}
use Rattle.zw_def_world.specs.Act.{Act}
use Rattle.zw_def_world.specs.CoreClass.{Class as class_of_classes}
use Rattle.zw_def_world.specs.Definition.{above_or_object, makes_opened, opens_class, opens_module, reopens_class_value, reopens_module_value}
use Rattle.zw_def_world.specs.Id.{Id, id_eq}
use Rattle.zw_def_world.specs.Value as told
use Rattle.zw_fault.specs.declared.raise.Raise.{Raise}
use Rattle.zw_heap.specs.Heap.{Held}
use Rattle.zw_heap.specs.Telling.{Telling, tell, told_superclass}
use Rattle.zw_heap.specs.declared.value.ModuleId.{ModuleId}
use Rattle.zw_heap.specs.declared.value.ModuleKind.{ModuleKind}
use Rattle.zw_heap.specs.declared.value.ModuleKind.TheVariants as k
use Rattle.zw_heap.specs.declared.value.Value.{Value}
use Rattle.zw_ops.specs.declared.open.OpenAct.{OpenAct}
use Rattle.zw_ops.specs.declared.open.OpenAct.TheVariants as o

-- ---- the definition's acts, by the kind of the statement

abbrev pub reopens : ModuleKind → Telling → Text → (Id → Act) → Option Id → Act
reopens k.Module I n = reopens_module_value n
reopens (k.Class superclass) I n = reopens_class_value (told_superclass I (k.Class superclass)) n

abbrev pub opens : ModuleKind → Telling → Id → Text → (Id → Act) → Option told.Value → Act
opens k.Module I = opens_module
opens (k.Class superclass) I = opens_class (told_superclass I (k.Class superclass))

abbrev pub makes : ModuleKind → Telling → Id → Text → (Id → Act) → Act
makes k.Module I = makes_opened false None
makes (k.Class superclass) I = makes_opened true (Some (above_or_object (told_superclass I (k.Class superclass))))

-- a class would stand below `Class`
abbrev pub is_below_class : ModuleKind → Telling → Bool
is_below_class k.Module I = false
is_below_class (k.Class superclass) I =
    id_eq (above_or_object (told_superclass I (k.Class superclass))) class_of_classes

-- ---- what is answered

-- the statement goes on in that module, or raises that exception
abbrev pub Reopens : Held → List Text → (Telling → (Id → Act) → Option Id → Act) → (Telling → Option Id)
    → Result ModuleId (Fault Raise) → Type 0
Reopens h names act found (Ok m) = (go_on : Id → Act)
    → AreSame h names (λ I. act I go_on (found I)) (λ I. go_on (I.module_id m.0))
Reopens h names act found (Err (Refused raise)) = (go_on : Id → Act)
    → AreSame h names (λ I. act I go_on (found I)) (λ I. fault_seen raise)
Reopens h names act found (Err Memory) = Unit {0}

abbrev pub open_seen : ModuleKind → Telling → Id → Text → (Id → Act) → OpenAct → Act
open_seen kind I i n go_on (o.Reopen m) = go_on (I.module_id m.0)
open_seen kind I i n go_on o.Make = makes kind I i n go_on

-- the statement opens that module, makes one, or raises that exception
abbrev pub Opens : Held → List Text → ModuleKind → ℕ → Option Value → Result OpenAct (Fault Raise) → Type 0
Opens h names kind x found (Ok act) = (i : Id) (go_on : Id → Act)
    → AreSame h names (λ I. opens kind I i (I.name x) go_on (option_map (tell I) found))
    (λ I. open_seen kind I i (I.name x) go_on act)
Opens h names kind x found (Err (Refused raise)) = (i : Id) (go_on : Id → Act)
    → AreSame h names (λ I. opens kind I i (I.name x) go_on (option_map (tell I) found)) (λ I. fault_seen raise)
Opens h names kind x found (Err Memory) = Unit {0}
