-- Statements that open classes and modules, by the records that a heap has.
use Rattle.std.proofs.Common.{◌≡◌, Bool, true, false, not, ℕ, List, cond, codes, slice_get, Option, Some, None, Err, refl, ap, ◌∙◌}
use Rattle.std.specs.Option.{option_map}
use Rattle.zw_def.specs.Text.{Text}
use Rattle.zw_def_world.specs.Act.{Act, Point, read}
use Rattle.zw_def_world.specs.CoreClass.{TypeError}
use Rattle.zw_def_world.specs.Definition.{is_superclass, mismatch, no_class_fault, reopens_class, reopens_class_value}
use Rattle.zw_def_world.specs.Id.{Id}
use Rattle.zw_def_world.specs.Making.{fails}
use Rattle.zw_def_world.specs.Record as told
use Rattle.zw_def_world.specs.Value as told_value
use Rattle.zw_def_world.specs.World.{World}
use Rattle.zw_heap.specs.Founded.{is_class}
use Rattle.zw_heap.specs.Heap.{Held}
use Rattle.zw_heap.specs.ModuleRecord.{Module}
use Rattle.zw_heap.specs.Telling.{Telling, Fits, Agrees, tell, told_superclass}
use Rattle.zw_heap.specs.declared.value.ModuleKind.{ModuleKind}
use Rattle.zw_heap.specs.declared.value.ModuleKind.TheVariants as k
use Rattle.zw_heap.specs.declared.value.Value.{Value}
use Rattle.zw_base.specs.declared.fault.Fault.{Fault}
use Rattle.zw_base.specs.declared.fault.Fault.TheVariants.{Refused, Memory}
use Rattle.zw_fault.specs.declared.raise.Raise.{Raise}
use Rattle.zw_ops.specs.Open.{Opens, Reopens, is_below_class, makes, opens, reopens}

-- ---- what the records are

pub record Stands (I : Telling) (w : World) (n : ℕ) (kind : ModuleKind) : Type 0 where
  pub «module» : told.Module
  pub there : w.modules (I.module_id n) ≡ Some «module»
  pub kind_told : «module».is_class ≡ is_class kind
  pub superclass : «module».superclass ≡ told_superclass I kind

pub stands : (I : Telling) (h : Held) (w : World) (n : ℕ) (kind : ModuleKind) → Agrees I h w → option_map (λ m. m.kind) (slice_get h.modules n) ≡ Some kind → Stands I w n kind
stands I h w n kind agrees is = by (slice_get h.modules n) refl is
  where
    by : (o : Option Module) → slice_get h.modules n ≡ o → option_map (λ m. m.kind) o ≡ Some kind → Stands I w n kind
    by None at found = absurd (cc)
    by (Some m) at found =
        let there = agrees.modules n m at in
        let same : m.kind ≡ kind = cc in
        record {
          «module» = there.0;
          there = there.1;
          kind_told = there.2.kind ∙ ap is_class same;
          superclass = there.2.superclass ∙ ap (told_superclass I) same;
        }

-- ---- what is opened

pub mismatched : (i : Id) (w : told.Module) (given above : Option Id) (n : Text) (go_on : Id → Act) (p : Point) → p.world.modules i ≡ Some w → w.is_class ≡ true → w.superclass ≡ above → is_superclass given above ≡ false
    → reopens_class_value given n go_on (Some i) p ≡ mismatch n p
mismatched i w given above n go_on p there class super other =
    ap (λ o. read o (reopens_class given n go_on i) p) there
    ∙ ap (λ b. cond (not b) (no_class_fault n) (cond (is_superclass given w.superclass) (go_on i) (mismatch n)) p) class
    ∙ ap (λ s. cond (is_superclass given s) (go_on i) (mismatch n) p) super
    ∙ ap (λ b. cond b (go_on i) (mismatch n) p) other

pub opens-some : (kind : ModuleKind) (I : Telling) (i : Id) (n : Text) (go_on : Id → Act) (v : told_value.Value) → opens kind I i n go_on (Some v) ≡ reopens kind I n go_on (told_value.as_module v)
opens-some k.Module I i n go_on v = refl
opens-some (k.Class superclass) I i n go_on v = refl

pub opens-none : (kind : ModuleKind) (I : Telling) (i : Id) (n : Text) (go_on : Id → Act)
    → opens kind I i n go_on None ≡ cond (is_below_class kind I) (fails TypeError (codes "can't make subclass of Class")) (makes kind I i n go_on)
opens-none k.Module I i n go_on = refl
opens-none (k.Class superclass) I i n go_on = refl

module _ (h : Held) (names : List Text) (kind : ModuleKind) (x : ℕ) (n : Text) (found : Option Value) (named : slice_get names x ≡ Some n) where
  pub opens-found : (v : Value) → found ≡ Some v → (I : Telling) (i : Id) (go_on : Id → Act) (p : Point) → Fits I names h
      → opens kind I i (I.name x) go_on (option_map (tell I) found) p ≡ reopens kind I n go_on (told_value.as_module (tell I v)) p
  opens-found v is I i go_on p fit =
      ap (λ o. opens kind I i (I.name x) go_on (option_map (tell I) o) p) is
      ∙ ap (λ (act : Act). act p) (opens-some kind I i (I.name x) go_on (tell I v))
      ∙ ap (λ m. reopens kind I m go_on (told_value.as_module (tell I v)) p) (fit.names_told x n named)

  pub opens-refused : (v : Value) → found ≡ Some v → (f : Fault Raise) → Reopens h names (λ I. reopens kind I n) (λ I. told_value.as_module (tell I v)) (Err f) → Opens h names kind x found (Err f)
  opens-refused v is (Refused raise) refused = λ i go_on I p fit agrees. opens-found v is I i go_on p fit ∙ refused go_on I p fit agrees
  opens-refused v is Memory refused = tt

  pub opens-nothing : found ≡ None → (I : Telling) (i : Id) (go_on : Id → Act) (p : Point) → (below : Bool) → is_below_class kind I ≡ below
      → opens kind I i (I.name x) go_on (option_map (tell I) found) p ≡ cond below (fails TypeError (codes "can't make subclass of Class")) (makes kind I i (I.name x) go_on) p
  opens-nothing is I i go_on p below same =
      ap (λ o. opens kind I i (I.name x) go_on (option_map (tell I) o) p) is
      ∙ ap (λ (act : Act). act p) (opens-none kind I i (I.name x) go_on)
      ∙ ap (λ b. cond b (fails TypeError (codes "can't make subclass of Class")) (makes kind I i (I.name x) go_on) p) same
