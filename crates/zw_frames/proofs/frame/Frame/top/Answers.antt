use Rattle.std.proofs.Common.{rules, ◌≡◌, ◌<◌, ◌≤◌, ◌+◌, ◌++◌, [], ◌∷◌, ℕ, Bool, true, false, get_or, length, List, drop, take, map, nat_eq, Option, Some, None, refl, ap, sym, subst, ◌∙◌, arith}
use Rattle.std.specs.List.{All}
use Rattle.zw_heap.specs.Heap.{sizes_of}
use Rattle.zw_heap.specs.declared.value.ModuleId.{ModuleId}
use Rattle.std.proofs.lemmas.List.Elements.{All-nil}
use Rattle.zw_frames.specs.Frame.{FrameIn}
use Rattle.zw_frames.proofs.frame.Frame.top.Goals as goal

pub returns-clause-held : goal.returns-clause-held
returns-clause-held c = subst (FrameIn (sizes_of c.args.heap.now)) (sym c.with_scopes.ensures) (record {
  self_in = c.main.ensures.held;
  scopes_in = subst (All (λ (m : ModuleId). m.0 < length c.args.heap.now.modules)) (sym (ap (λ v. v.items) c.in_ok-scopes.ensures ∙ c.new.ensures.items)) (All-nil (λ (m : ModuleId). m.0 < length c.args.heap.now.modules));
  locals_in = c.requires;
  running_in = tt;
  code_in = tt;
})
