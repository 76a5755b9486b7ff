-- What each method of Kernel does that is not marked.
use Rattle.std.proofs.Common.{◌≡◌, Bool, false, ℕ, List, map, Some, Result, IfOk, refl, sym, ap, subst, ◌∙◌}
use Rattle.std.specs.Option.{option_map}
use Rattle.std.specs.declared.alloc.AllocError.{AllocError}
use Rattle.zw_def.specs.Text.{Text}
use Rattle.zw_def_world.specs.Act.{Act, Point, read}
use Rattle.zw_def_world.specs.Ancestor.{class_of}
use Rattle.zw_def_world.specs.Argument.{kernel_arguments}
use Rattle.zw_def_world.specs.Equality.{same}
use Rattle.zw_def_world.specs.Id.{Id, id_eq}
use Rattle.zw_def_world.specs.KernelRows.{kernel_act}
use Rattle.zw_def_world.specs.Row.{kernel_equal, kernel_is_nil}
use Rattle.zw_def_world.specs.Site.{Site, first, yes_or_no}
use Rattle.zw_def_world.specs.Value as told
use Rattle.zw_def_world.specs.Value.{as_module}
use Rattle.zw_def_world.specs.World.{World, is_frozen}
use Rattle.zw_heap.specs.Heap.{Held}
use Rattle.zw_heap.specs.Telling.{Telling, Fits, Agrees, tell}
use Rattle.zw_heap.specs.declared.value.Value.{Value}
use Rattle.zw_calls.specs.End.{EndsAtOnce, Performs}
use Rattle.zw_calls.specs.KernelRow.{kernel_row_seen}
use Rattle.zw_calls.specs.declared.end.PrimEnd.{PrimEnd}
use Rattle.zw_calls.specs.declared.kernel_row.KernelRow.{KernelRow}
use Rattle.zw_calls.specs.declared.kernel_row.KernelRow.TheVariants as r
use Rattle.zw_prims.specs.Marked.{kernel_marked}
use Rattle.zw_prims.specs.Passes.{Pass}
use Rattle.zw_prims.proofs.AgreeLemmas.{instance-of, module_first}
use Rattle.zw_prims.proofs.EndLemmas.{adds_none, once_like, performs_like}

abbrev pub called : KernelRow → Value → List Value → Site → Telling → Act
called row x xs s I = kernel_act s (kernel_row_seen row).1 (tell I x) (map (tell I) xs)

module _ (h : Held) (names : List Text) (left : ℕ) (row : KernelRow) (x : Value) (xs : List Value) where
  -- a method that ends at once, by what the world says
  pub arm : (k : KernelRow) (act : Telling → Act) → row ≡ k → ((s : Site) (I : Telling) (p : Point) → Fits I names h → Agrees I h p.world → called k x xs s I p ≡ act I p) → (end : PrimEnd) → EndsAtOnce act end → Performs (called row x xs) h names left left end
  arm k act is same end once = once_like h names left act (called row x xs) (λ s I p fit agrees. ap (λ j. called j x xs s I p) is ∙ same s I p fit agrees) end once

  pub as_row : (g : Held) (later : ℕ) (k : KernelRow) → row ≡ k → (end : Result PrimEnd AllocError) → IfOk end (Performs (called k x xs) g names left later) → IfOk end (Performs (called row x xs) g names left later)
  as_row g later k is end performs = subst (λ j. IfOk end (Performs (called j x xs) g names left later)) (sym is) performs

  pub frozen_arm : row ≡ r.IsFrozen → (b : Bool) → ((I : Telling) (w : World) → Agrees I h w → is_frozen w (tell I x) ≡ Some b) → (end : PrimEnd) → EndsAtOnce (λ I. yes_or_no b) end → Performs (called row x xs) h names left left end
  frozen_arm is b known end once = arm r.IsFrozen (λ I. yes_or_no b) is (λ s I p fit agrees. ap (λ o. read o yes_or_no p) (known I p.world agrees)) end once

  pub equal_arm : (later : ℕ) (k : KernelRow) → row ≡ k → (kernel_row_seen k).1 ≡ kernel_equal → (other : Value) → ((I : Telling) → first (map (tell I) xs) ≡ tell I other) → (end : PrimEnd) → Performs (λ s I. same (tell I x) (tell I other)) h names left later end → Performs (called row x xs) h names left later end
  equal_arm later k is does other at end performs =
      performs_like h h names left later (λ s I. same (tell I x) (tell I other)) (called row x xs) (adds_none h)
      (λ s I p fit agrees.
      ap (λ j. kernel_act s (kernel_row_seen j).1 (tell I x) (map (tell I) xs) p) is ∙ ap (λ d. kernel_act s d (tell I x) (map (tell I) xs) p) does ∙ ap (λ v. same (tell I x) v p) (at I)) end performs

  pub nil_arm : row ≡ r.IsNil → (b : Bool) → ((s : Site) (I : Telling) (vs : List told.Value) → kernel_act s kernel_is_nil (tell I x) vs ≡ yes_or_no b) → (end : PrimEnd) → EndsAtOnce (λ I. yes_or_no b) end → Performs (called row x xs) h names left left end
  nil_arm is b known end once = arm r.IsNil (λ I. yes_or_no b) is (λ s I p fit agrees. ap (λ (act : Act). act p) (known s I (map (tell I) xs))) end once

  pub instance_arm : row ≡ r.IsInstanceOf → Pass h names (kernel_arguments (kernel_row_seen row).1) x xs → (class : Value) → ((I : Telling) → first (map (tell I) xs) ≡ tell I class) → (b : Bool) → ((I : Telling) (names : List Text) (w : World) (id : Id) → Fits I names h → Agrees I h w → as_module (tell I class) ≡ Some id → option_map (λ of. id_eq of id) (class_of w (tell I x)) ≡ Some b) → (end : PrimEnd) → EndsAtOnce (λ I. yes_or_no b) end → Performs (called row x xs) h names left left end
  instance_arm is pass class at b known end once =
      arm r.IsInstanceOf (λ I. yes_or_no b) is (λ s I p fit agrees.
      let first_one = module_first h names x I p fit agrees xs (subst (λ k. Pass h names (kernel_arguments (kernel_row_seen k).1) x xs) is pass) in
      instance-of h I p (tell I x) (map (tell I) xs) b first_one.0 first_one.1 (known I names p.world first_one.0 fit agrees (ap as_module (sym (at I)) ∙ first_one.1))) end once

-- the methods that are done here
pub not_marked : (row : KernelRow) → kernel_marked row ≡ false → (row ≡ r.Class → ⊥) → (row ≡ r.IsNil → ⊥) → (row ≡ r.Equal → ⊥) → (row ≡ r.IsSame → ⊥) → (row ≡ r.IsInstanceOf → ⊥) → (row ≡ r.ToS → ⊥) → (row ≡ r.Inspect → ⊥) → (row ≡ r.IsFrozen → ⊥) → ⊥
not_marked r.Puts is a b c d e f g h = cc
not_marked r.Raise is a b c d e f g h = cc
not_marked r.Class is a b c d e f g h = a refl
not_marked r.IsNil is a b c d e f g h = b refl
not_marked r.Equal is a b c d e f g h = c refl
not_marked r.Differs is a b c d e f g h = cc
not_marked r.IsSame is a b c d e f g h = d refl
not_marked r.IsA is a b c d e f g h = cc
not_marked r.IsInstanceOf is a b c d e f g h = e refl
not_marked r.RespondsTo is a b c d e f g h = cc
not_marked r.ToS is a b c d e f g h = f refl
not_marked r.Inspect is a b c d e f g h = g refl
not_marked r.Freeze is a b c d e f g h = cc
not_marked r.IsFrozen is a b c d e f g h = h refl
