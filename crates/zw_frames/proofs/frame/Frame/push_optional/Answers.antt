use Rattle.std.proofs.Common.{rules, ◌≡◌, ◌<◌, ◌≤◌, ◌+◌, ◌++◌, [], ◌∷◌, ℕ, Bool, true, false, get_or, length, List, drop, take, map, nat_eq, Option, Some, None, refl, ap, sym, subst, ◌∙◌, arith, append_assoc}
use Rattle.zw_frames.specs.Locals.{value_or_nil}
use Rattle.zw_frames.proofs.LocalLemmas.{pushed-all, pushed-next}
use Rattle.zw_frames.proofs.frame.Frame.push_optional.Goals as goal

pub loop-parameter-preserved : goal.loop-parameter-preserved
loop-parameter-preserved c =
    pushed-next (λ d. value_or_nil c.args.self.now.locals d.name) c.args.values.now.items c.loop-parameter.values.items c.push.new.self.items c.args.parameters.now c.loop-parameter.parameter-index c.parameter-item.result c.value.result c.loop-parameter-test.true c.loop-parameter.invariant c.in_ok-push.ensures.items
    (c.value.ensures ∙ ap (λ d. value_or_nil c.args.self.now.locals d.name) c.parameter-item.is)

pub returns : goal.returns
returns c = pushed-all (λ d. value_or_nil c.args.self.now.locals d.name) c.args.values.now.items c.loop-parameter.values.items c.args.parameters.now c.loop-parameter.parameter-index c.loop-parameter-test.false c.loop-parameter.invariant
