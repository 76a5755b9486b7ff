use Rattle.std.proofs.Common.{rules, ◌≡◌, ◌<◌, ◌≤◌, ◌+◌, ◌++◌, [], ◌∷◌, ℕ, Bool, true, false, get_or, length, List, drop, take, map, nat_eq, Option, Some, None, refl, ap, sym, subst, ◌∙◌, arith}
use Rattle.zw_frames.specs.Locals.{value_or_nil}
use Rattle.zw_frames.proofs.LocalLemmas.{pushed-all, pushed-next}
use Rattle.zw_frames.proofs.frame.Frame.push_required.Goals as goal

pub loop-name-preserved : goal.loop-name-preserved
loop-name-preserved c = pushed-next (value_or_nil c.args.self.now.locals) c.args.values.now.items c.loop-name.values.items c.push.new.self.items c.args.names.now c.loop-name.name-index _ c.value.result c.loop-name-test.true c.loop-name.invariant c.in_ok-push.ensures.items c.value.ensures

pub returns : goal.returns
returns c = pushed-all (value_or_nil c.args.self.now.locals) c.args.values.now.items c.loop-name.values.items c.args.names.now c.loop-name.name-index c.loop-name-test.false c.loop-name.invariant
