-- Calls that end at once.
use Rattle.std.proofs.Common.{◌≡◌, ℕ, List, Result, Ok, Err, IfOk, ap, sym, subst, ◌∙◌}
use Rattle.zw_def.specs.Text.{Text}
use Rattle.zw_def_world.specs.Act.{Act}
use Rattle.zw_def_world.specs.Site.{Site}
use Rattle.zw_heap.specs.Heap.{Held, sizes_of}
use Rattle.zw_heap.specs.Telling.{Telling}
use Rattle.zw_calls.specs.End.{EndsAtOnce, Performs, end_seen}
use Rattle.zw_calls.specs.declared.end.PrimEnd.{PrimEnd}

module _ (h : Held) (names : List Text) (left : ℕ) (act : Telling → Act) (call : Site → Telling → Act) (same : (s : Site) (I : Telling) → call s I ≡ act I) where
  pub at_once : (end : PrimEnd) → EndsAtOnce act end → Performs call h names left left end
  at_once end once = record {
    told = λ s I p fit agrees e. ap (λ (a : Act). a p) (same s I ∙ once.told I (call s I)) ∙ ap (λ n. end_seen I (call s I) end (record p { left = n })) e;
    held = once.held (sizes_of h);
    done = once.done;
  }

  pub all_at_once : {E : Type 0} (r : Result PrimEnd E) → IfOk r (EndsAtOnce act) → IfOk r (Performs call h names left left)
  all_at_once (Ok end) once = at_once end once
  all_at_once (Err e) once = once

-- a call that is the same act as another one
pub all_same : {E : Type 0} (h : Held) (names : List Text) (left later : ℕ) (one other : Site → Telling → Act) → ((s : Site) (I : Telling) → other s I ≡ one s I) → (r : Result PrimEnd E) → IfOk r (Performs one h names left later) → IfOk r (Performs other h names left later)
all_same h names left later one other same (Ok end) performs = record {
  told = λ s I p fit agrees e. subst (λ (act : Act). act p ≡ end_seen I act end (record p { left = later })) (sym (same s I)) (performs.told s I p fit agrees e);
  held = performs.held;
  done = performs.done;
}
all_same h names left later one other same (Err e) performs = performs
