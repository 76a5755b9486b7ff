-- What is left to do of calls.
use Rattle.std.proofs.Common.{◌≡◌, ℕ, List, [], map, string_bytes, String, Vec, Global, Result, Ok, Err, IfOk, sym, ap, subst, ◌∙◌}
use Rattle.std.specs.declared.alloc.AllocError.{AllocError}
use Rattle.zw_def.specs.Names.{OnlyGrows}
use Rattle.zw_def.specs.Text.{Text}
use Rattle.zw_def_world.specs.Act.{Act, ends, gives, lost}
use Rattle.zw_def_world.specs.Making.{makes_text}
use Rattle.zw_def_world.specs.Site.{Site}
use Rattle.zw_def_world.specs.StringRows.{makes_pieces, string_act}
use Rattle.zw_def_world.specs.Value as told
use Rattle.zw_heap.specs.Heap.{Held, sizes_of}
use Rattle.zw_heap.specs.Telling.{Telling, Fits, OnlyAdds, tell}
use Rattle.zw_heap.specs.declared.value.Value.{Value}
use Rattle.zw_calls.specs.End.{EndsAtOnce, Performs, end_seen}
use Rattle.zw_calls.specs.StringRow.{string_row_seen}
use Rattle.zw_strings.specs.Work.{Leaves, work_seen}
use Rattle.zw_calls.specs.declared.end.PrimEnd.{PrimEnd}
use Rattle.zw_calls.specs.declared.string_row.StringRow.{StringRow}
use Rattle.zw_strings.specs.declared.work.Work.{Work}
use Rattle.zw_strings.specs.declared.work.Work.TheVariants as w
use Rattle.zw_strings.proofs.NamingLemmas.{done-same, all_carried}

module _ (h : Held) (names : List Text) where
  pub text_left : (t : Text) (made : String Global) → string_bytes made ≡ t → Leaves (λ s I. makes_text t) h names (w.Text made)
  text_left t made is = record { told = λ s I fit. ap makes_text (sym is); settled = tt }

  pub texts_left : (ts : List Text) (made : Vec (String Global) Global) → map string_bytes made.items ≡ ts → Leaves (λ s I. makes_pieces [] ts) h names (w.Texts made)
  texts_left ts made is = record { told = λ s I fit. ap (makes_pieces []) (sym is); settled = tt }

  pub symbol_left : (t : Text) (made : String Global) → string_bytes made ≡ t → Leaves (λ s I. gives (told.symbol t)) h names (w.Symbol made)
  symbol_left t made is = record { told = λ s I fit. ap (λ u. gives (told.symbol u)) (sym is); settled = tt }

  pub ended_left : (act : Telling → Act) (end : PrimEnd) → EndsAtOnce act end → Leaves (λ s I. act I) h names (w.Ended end)
  ended_left act end once = record { told = λ s I fit. once.told I (ends lost); settled = (once.done, once.held) }

  -- where it is the same act as another one
  pub same_left : (one other : Site → Telling → Act) → ((s : Site) (I : Telling) → Fits I names h → other s I ≡ one s I) → (work : Work) → Leaves one h names work → Leaves other h names work
  same_left one other same work leaves = record { told = λ s I fit. same s I fit ∙ leaves.told s I fit; settled = leaves.settled }

  pub all_left : {E : Type 0} (one other : Site → Telling → Act) → ((s : Site) (I : Telling) → Fits I names h → other s I ≡ one s I) → (r : Result Work E) → IfOk r (Leaves one h names) → IfOk r (Leaves other h names)
  all_left one other same (Ok work) leaves = same_left one other same work leaves
  all_left one other same (Err e) leaves = leaves

-- ---- the methods of String

abbrev pub called : StringRow → Text → List Value → Site → Telling → Act
called row t args s I = string_act s (string_row_seen row).1 (told.text t) (map (tell I) args)

module _ (t : Text) (args : List Value) (row : StringRow) (h : Held) (names : List Text) where
  -- a method, by what it does with the texts and integers that its arguments are
  pub arm : (k : StringRow) (act : Site → Telling → Act) → row ≡ k → ((s : Site) (I : Telling) → Fits I names h → called k t args s I ≡ act s I) → (r : Result Work AllocError) → IfOk r (Leaves act h names) → IfOk r (Leaves (called row t args) h names)
  arm k act is same r leaves = all_left h names act (called row t args) (λ s I fit. ap (λ j. called j t args s I) is ∙ same s I fit) r leaves

-- ---- doing what is left

pub ended-performs : (call : Site → Telling → Act) (h : Held) (names : List Text) (left : ℕ) (work : Work) (end : PrimEnd) → work ≡ w.Ended end → Leaves call h names work → Performs call h names left left end
ended-performs call h names left work end is leaves =
    let ended = subst (Leaves call h names) is leaves in
    record {
      told = λ s I p fit agrees e.
          ap (λ (act : Act). act p) (ended.told s I fit ∙ done-same I (ends lost) (call s I) end ended.settled.0)
          ∙ ap (λ n. end_seen I (call s I) end (record p { left = n })) e;
      held = ended.settled.1 (sizes_of h);
      done = ended.settled.0;
    }

pub work-performs : {E : Type 0} (call one : Site → Telling → Act) (h g : Held) (old new : List Text) (left later : ℕ) (work made : Work) → work ≡ made → Leaves call h old work → ((s : Site) (I : Telling) → work_seen I made ≡ one s I) → OnlyAdds h g → OnlyGrows old new → (r : Result PrimEnd E) → IfOk r (Performs one g new left later) → IfOk r (Performs call g new left later)
work-performs call one h g old new left later work made is leaves same adds grows r performs =
    all_carried h g old new left later one call adds grows (λ s I fit. leaves.told s I fit ∙ ap (work_seen I) is ∙ same s I) r performs
