use Rattle.std.proofs.Common.{rules, ◌≡◌, ◌<◌, ◌≤◌, ◌+◌, ◌++◌, [], ◌∷◌, ℕ, Bool, true, false, get_or, length, List, drop, take, map, nat_eq, Option, Some, None, refl, ap, sym, subst, ◌∙◌, arith}
use Rattle.zw_heap.specs.Telling.{tell, told_variables}
use Rattle.zw_heap.specs.Sound.{EntryIn}
use Rattle.zw_frames.specs.Frame.{frame_told}
use Rattle.zw_frames.proofs.FrameLemmas.{inserted-in}
use Rattle.zw_told.proofs.TableLemmas.{assigned-told}
use Rattle.std.specs.List.{All}
use Rattle.zw_frames.proofs.frame.Frame.set.Goals as goal

pub returns-clause-held : goal.returns-clause-held
returns-clause-held c = λ s frame named in-heap. record {
  self_in = frame.self_in;
  scopes_in = frame.scopes_in;
  locals_in = subst (All (EntryIn s)) (sym c.in_ok-set.ensures.set) (inserted-in s c.args.name.0 c.args.value named in-heap c.args.self.now.locals frame.locals_in);
  running_in = frame.running_in;
  code_in = frame.code_in;
}

pub returns-clause-set : goal.returns-clause-set
returns-clause-set c = λ I names i. record (frame_told I names c.args.self.now) {
  locals = (ap (told_variables I) c.in_ok-set.ensures.set ∙ sym (assigned-told I.name I.names_differ (tell I) c.args.name.0 c.args.value c.args.self.now.locals)) i;
}
