use Rattle.std.proofs.Common.{◌≤◌, ap, ◌∙◌, sym, subst, rules, length, map, IfSome}
use Rattle.std.proofs.lemmas.List.{length-map}
use Rattle.zw_def_world.specs.Act.{Act}
use Rattle.zw_heap.specs.Heap.{sizes_of}
use Rattle.zw_heap.specs.Sound.{IsIn}
use Rattle.zw_heap.specs.Telling.{tell}
use Rattle.zw_calls.specs.Argument.{after_kinds}
use Rattle.zw_calls.specs.Kind.{kind_seen}
use Rattle.zw_calls.proofs.TestLemmas.{tested-refused, tested-taken}
use Rattle.zw_calls.proofs.argument.Arguments.fault.Goals as goal

pub returns-then-not-takes : goal.returns-then-not-takes
returns-then-not-takes c = λ act I p fit agrees.
    let s = c.args.self.now in
    let few : s.least ≤ length s.kinds.now = search rules in
    ap (λ (a : Act). a p)
    (tested-refused kind_seen s.least s.kinds.now few s.compares (tell I c.args.receiver) (map (tell I) c.args.args.now) (length c.args.args.now) act
    (length-map c.args.args.now (tell I)) (sym c.takes.ensures ∙ c.if-not-takes.true) ∙ sym c.in_ok-fault.ensures)

pub returns-in_default : goal.returns-in_default
returns-in_default c = λ act I p fit agrees.
    let s = c.args.self.now in
    let few : s.least ≤ length s.kinds.now = search rules in
    let r = tell I c.args.receiver in
    ap (λ (a : Act). a p)
    (tested-taken kind_seen s.least s.kinds.now few s.compares r (map (tell I) c.args.args.now) (length c.args.args.now) act
    (length-map c.args.args.now (tell I)) (sym c.takes.ensures ∙ c.if-not-takes.false)
    ∙ c.first_wrong.ensures.told I s.compares r act ∙ ap (λ o. after_kinds s.compares r I o act) c.in_default.is)

pub wrong_argument-requires-clause-held : goal.wrong_argument-requires-clause-held
wrong_argument-requires-clause-held c =
    subst (λ o. IfSome o (λ w. IsIn (sizes_of c.args.heap.now) w.1)) c.in-Some.is (c.first_wrong.ensures.held (sizes_of c.args.heap.now) c.requires.arguments)

pub returns : goal.returns
returns c = λ act I p fit agrees.
    let s = c.args.self.now in
    let few : s.least ≤ length s.kinds.now = search rules in
    let r = tell I c.args.receiver in
    ap (λ (a : Act). a p)
    (tested-taken kind_seen s.least s.kinds.now few s.compares r (map (tell I) c.args.args.now) (length c.args.args.now) act
    (length-map c.args.args.now (tell I)) (sym c.takes.ensures ∙ c.if-not-takes.false)
    ∙ c.first_wrong.ensures.told I s.compares r act ∙ ap (λ o. after_kinds s.compares r I o act) c.in-Some.is)
    ∙ c.in_ok-fault-2.ensures I p fit agrees
