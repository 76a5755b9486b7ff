-- Calls that read the world before they end.
use Rattle.std.proofs.Common.{◌≡◌, ℕ, List, Result, Ok, Err, IfOk, refl, ◌∙◌}
use Rattle.zw_def.specs.Text.{Text}
use Rattle.zw_def_world.specs.Act.{Act, Point}
use Rattle.zw_def_world.specs.Site.{Site}
use Rattle.zw_heap.specs.Heap.{Held}
use Rattle.zw_heap.specs.Telling.{Telling, Fits, Agrees}
use Rattle.zw_calls.specs.End.{Performs, AddsValues, IsDone, EndsAtOnce, end_seen}
use Rattle.zw_calls.specs.declared.end.PrimEnd.{PrimEnd}
use Rattle.zw_calls.specs.declared.end.PrimEnd.TheVariants as e
use Rattle.zw_calls.proofs.CallLemmas.{agrees_before}
use Rattle.zw_calls.proofs.PerformLemmas.{at_once}

pub adds_none : (h : Held) → AddsValues h h
adds_none h = record { adds = λ I names fit. fit; stays = λ x held. held; records = refl }

-- an end of which nothing is left says the same of each call
pub done-same : (I : Telling) (one other : Act) (end : PrimEnd) → IsDone end → (p : Point) → end_seen I one end p ≡ end_seen I other end p
done-same I one other (e.Value v) done p = refl
done-same I one other (e.Raise r) done p = refl
done-same I one other e.Budget done p = refl
done-same I one other (e.Again prim) done p = absurd done

-- calls that are the same act in each world that agrees with the heap before
module _ (h g : Held) (names : List Text) (left later : ℕ) (one other : Site → Telling → Act) (adds : AddsValues h g) (same : (s : Site) (I : Telling) (p : Point) → Fits I names h → Agrees I h p.world → other s I p ≡ one s I p) where
  pub performs_like : (end : PrimEnd) → Performs one g names left later end → Performs other g names left later end
  performs_like end performs = record {
    told = λ s I p fit agrees is.
        same s I p (adds.adds I names fit) (agrees_before I p.world h g adds agrees)
        ∙ performs.told s I p fit agrees is ∙ done-same I (one s I) (other s I) end performs.done (record p { left = later });
    held = performs.held;
    done = performs.done;
  }

  pub all_like : {E : Type 0} (r : Result PrimEnd E) → IfOk r (Performs one g names left later) → IfOk r (Performs other g names left later)
  all_like (Ok end) performs = performs_like end performs
  all_like (Err err) performs = performs

-- a call that ends at once in each world that agrees with the heap
pub once_like : (h : Held) (names : List Text) (left : ℕ) (act : Telling → Act) (call : Site → Telling → Act) → ((s : Site) (I : Telling) (p : Point) → Fits I names h → Agrees I h p.world → call s I p ≡ act I p) → (end : PrimEnd) → EndsAtOnce act end → Performs call h names left left end
once_like h names left act call same end once =
    performs_like h h names left left (λ s I. act I) call (adds_none h) same end (at_once h names left act (λ s I. act I) (λ s I. refl) end once)
