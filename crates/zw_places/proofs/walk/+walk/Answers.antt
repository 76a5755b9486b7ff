use Rattle.std.proofs.Common.{max, ◌||◌, refl, ap, sym, ◌∙◌, subst, arith, Some}
use Rattle.zw_ast.specs.Named.{bound_of, all_names, base_names, if_any, greatest, rescue_names}
use Rattle.zw_ast.specs.declared.node.Node.TheVariants as n
use Rattle.zw_ast.specs.declared.node.Base.TheVariants as b
use Rattle.zw_places.specs.Place.{place_seen}
use Rattle.zw_places.specs.Tells.{Finds, Tells}
use Rattle.zw_places.specs.Walk as spec
use Rattle.zw_places.proofs.LoopLemmas.{goes_on, stops, ends}
use Rattle.zw_places.proofs.WalkLemmas as w
use Rattle.zw_places.proofs.walk.+walk.Goals.{within-then-branch-2, within-else-branch-2+in_ok-in_row-in-If, within-then-branch-5, within-else-branch-5+in_ok-in_rescues-in-Begin, within-then-branch-6, within-else-branch-6+in_ok-in_branch-in-Begin, within-then-branch-8, within-else-branch-8+in_ok-in_option-in-Class}
use Rattle.zw_places.proofs.walk.+walk.Goals as goal

-- ---- lists

pub in_row-nodes-preserved : goal.in_row-nodes-preserved
in_row-nodes-preserved t c =
    goes_on (w.nodes c.args.walk.check (place_seen c.args.place)) c.args.nodes.now c.nodes.node-index c.node-item.result c.in_ok-in_node.field-0 c.nodes-test.true c.node-item.is c.nodes.invariant c.in_ok-in_node.ensures c.if-branch.false

pub in_row-returns-then-branch : goal.in_row-returns-then-branch
in_row-returns-then-branch t c =
    stops (w.nodes c.args.walk.check (place_seen c.args.place)) c.args.nodes.now c.nodes.node-index c.node-item.result c.in_ok-in_node.field-0 c.nodes-test.true c.node-item.is c.nodes.invariant c.in_ok-in_node.ensures c.if-branch.true

pub in_row-returns : goal.in_row-returns
in_row-returns t c =
    ends (w.nodes c.args.walk.check (place_seen c.args.place)) c.args.nodes.now c.nodes.node-index (let over = c.nodes-test.false in omega (arith, over)) c.nodes.invariant

pub in_parts-parts-preserved : goal.in_parts-parts-preserved
in_parts-parts-preserved t c =
    goes_on (w.parts c.args.walk.check (place_seen c.args.place)) c.args.parts.now c.parts.part-index c.part-item.result c.in_ok-in_part.field-0 c.parts-test.true c.part-item.is c.parts.invariant c.in_ok-in_part.ensures c.if-branch.false

pub in_parts-returns-then-branch : goal.in_parts-returns-then-branch
in_parts-returns-then-branch t c =
    stops (w.parts c.args.walk.check (place_seen c.args.place)) c.args.parts.now c.parts.part-index c.part-item.result c.in_ok-in_part.field-0 c.parts-test.true c.part-item.is c.parts.invariant c.in_ok-in_part.ensures c.if-branch.true

pub in_parts-returns : goal.in_parts-returns
in_parts-returns t c =
    ends (w.parts c.args.walk.check (place_seen c.args.place)) c.args.parts.now c.parts.part-index (let over = c.parts-test.false in omega (arith, over)) c.parts.invariant

pub in_rescues-rescues-preserved : goal.in_rescues-rescues-preserved
in_rescues-rescues-preserved t c =
    goes_on (w.rescues c.args.walk.check (place_seen c.args.place)) c.args.rescues.now c.rescues.rescue-index c.rescue-item.result c.in_ok-in_rescue.field-0 c.rescues-test.true c.rescue-item.is c.rescues.invariant c.in_ok-in_rescue.ensures c.if-branch.false

pub in_rescues-returns-then-branch : goal.in_rescues-returns-then-branch
in_rescues-returns-then-branch t c =
    stops (w.rescues c.args.walk.check (place_seen c.args.place)) c.args.rescues.now c.rescues.rescue-index c.rescue-item.result c.in_ok-in_rescue.field-0 c.rescues-test.true c.rescue-item.is c.rescues.invariant c.in_ok-in_rescue.ensures c.if-branch.true

pub in_rescues-returns : goal.in_rescues-returns
in_rescues-returns t c =
    ends (w.rescues c.args.walk.check (place_seen c.args.place)) c.args.rescues.now c.rescues.rescue-index (let over = c.rescues-test.false in omega (arith, over)) c.rescues.invariant

pub in_defaults-defaults-preserved : goal.in_defaults-defaults-preserved
in_defaults-defaults-preserved t c =
    goes_on (w.defaults c.args.walk.check (place_seen c.args.place)) c.args.defaults.now c.defaults.default-index c.default-item.result c.in_ok-in_node.field-0 c.defaults-test.true c.default-item.is c.defaults.invariant (w.at_default c.args.walk.check (place_seen c.args.place) c.default-item.result c.in_ok-in_node.field-0 c.in_ok-in_node.ensures) c.if-branch.false

pub in_defaults-returns-then-branch : goal.in_defaults-returns-then-branch
in_defaults-returns-then-branch t c =
    stops (w.defaults c.args.walk.check (place_seen c.args.place)) c.args.defaults.now c.defaults.default-index c.default-item.result c.in_ok-in_node.field-0 c.defaults-test.true c.default-item.is c.defaults.invariant (w.at_default c.args.walk.check (place_seen c.args.place) c.default-item.result c.in_ok-in_node.field-0 c.in_ok-in_node.ensures) c.if-branch.true

pub in_defaults-returns : goal.in_defaults-returns
in_defaults-returns t c =
    ends (w.defaults c.args.walk.check (place_seen c.args.place)) c.args.defaults.now c.defaults.default-index (let over = c.defaults-test.false in omega (arith, over)) c.defaults.invariant

-- ---- a node itself, and parts that may be absent

pub in_node-returns-then-branch : goal.in_node-returns-then-branch
in_node-returns-then-branch t c =
    w.node_itself c.args.walk.check (place_seen c.args.place) c.args.node.now c.in_ok-is_broken.field-0 c.in_ok-is_broken.ensures c.if-branch.true

pub in_option-returns-in-Some : goal.in_option-returns-in-Some
in_option-returns-in-Some t c =
    w.option_told c.args.walk.check (place_seen c.args.place) c.args.option.now c.get.result.now c.in_node.result (c.in-Some.is ∙ ap Some (sym c.get.ensures)) c.in_node.ensures

pub in_option-returns-in-None : goal.in_option-returns-in-None
in_option-returns-in-None t c =
    w.option_none c.args.walk.check (place_seen c.args.place) c.args.option.now c.in-None.is

pub in_branch-returns-in-Some : goal.in_branch-returns-in-Some
in_branch-returns-in-Some t c =
    w.branch_told c.args.walk.check (place_seen c.args.place) c.args.branch.now c.as_slice.result.now c.in_row.result (c.in-Some.is ∙ ap Some (sym c.as_slice.ensures)) c.in_row.ensures

pub in_branch-returns-in-None : goal.in_branch-returns-in-None
in_branch-returns-in-None t c =
    w.branch_none c.args.walk.check (place_seen c.args.place) c.args.branch.now c.in-None.is

pub in_base-returns-in-Within : goal.in_base-returns-in-Within
in_base-returns-in-Within t c =
    w.base_told c.args.walk.check (place_seen c.args.place) c.args.base.now c.get.result.now c.in_node.result (c.in-Within.is ∙ ap b.Within (sym c.get.ensures)) c.in_node.ensures

pub in_base-returns-in-Innermost : goal.in_base-returns-in-Innermost
in_base-returns-in-Innermost t c =
    w.base_none c.args.walk.check (place_seen c.args.place) c.args.base.now c.in-Innermost.is

pub in_base-returns-in-Innermost-2 : goal.in_base-returns-in-Innermost-2
in_base-returns-in-Innermost-2 t c =
    w.base_none c.args.walk.check (place_seen c.args.place) c.args.base.now c.in-Innermost.is

-- ---- nodes, by their kinds

pub within-returns-in-Nil : goal.within-returns-in-Nil
within-returns-in-Nil t c =
    w.within_leaf c.args.walk.check (place_seen c.args.place) c.args.node.now c.in-Nil.is

pub within-returns-in-Nil-2 : goal.within-returns-in-Nil-2
within-returns-in-Nil-2 t c =
    w.within_leaf c.args.walk.check (place_seen c.args.place) c.args.node.now c.in-Nil.is

pub within-returns-in-Nil-3 : goal.within-returns-in-Nil-3
within-returns-in-Nil-3 t c =
    w.within_leaf c.args.walk.check (place_seen c.args.place) c.args.node.now c.in-Nil.is

pub within-returns-in-Nil-4 : goal.within-returns-in-Nil-4
within-returns-in-Nil-4 t c =
    w.within_leaf c.args.walk.check (place_seen c.args.place) c.args.node.now c.in-Nil.is

pub within-returns-in-Nil-5 : goal.within-returns-in-Nil-5
within-returns-in-Nil-5 t c =
    w.within_leaf c.args.walk.check (place_seen c.args.place) c.args.node.now c.in-Nil.is

pub within-returns-in-Nil-6 : goal.within-returns-in-Nil-6
within-returns-in-Nil-6 t c =
    w.within_leaf c.args.walk.check (place_seen c.args.place) c.args.node.now c.in-Nil.is

pub within-returns-in-Nil-7 : goal.within-returns-in-Nil-7
within-returns-in-Nil-7 t c =
    w.within_leaf c.args.walk.check (place_seen c.args.place) c.args.node.now c.in-Nil.is

pub within-returns-in-Nil-8 : goal.within-returns-in-Nil-8
within-returns-in-Nil-8 t c =
    w.within_leaf c.args.walk.check (place_seen c.args.place) c.args.node.now c.in-Nil.is

pub within-returns-in-Nil-9 : goal.within-returns-in-Nil-9
within-returns-in-Nil-9 t c =
    w.within_leaf c.args.walk.check (place_seen c.args.place) c.args.node.now c.in-Nil.is

pub within-returns-in-Nil-10 : goal.within-returns-in-Nil-10
within-returns-in-Nil-10 t c =
    w.within_leaf c.args.walk.check (place_seen c.args.place) c.args.node.now c.in-Nil.is

pub within-returns-in-Nil-11 : goal.within-returns-in-Nil-11
within-returns-in-Nil-11 t c =
    w.within_leaf c.args.walk.check (place_seen c.args.place) c.args.node.now c.in-Nil.is

pub within-returns-in-Nil-12 : goal.within-returns-in-Nil-12
within-returns-in-Nil-12 t c =
    w.within_leaf c.args.walk.check (place_seen c.args.place) c.args.node.now c.in-Nil.is

pub within-returns-in-Nil-13 : goal.within-returns-in-Nil-13
within-returns-in-Nil-13 t c =
    w.within_leaf c.args.walk.check (place_seen c.args.place) c.args.node.now c.in-Nil.is

pub within-returns-in-Nil-14 : goal.within-returns-in-Nil-14
within-returns-in-Nil-14 t c =
    w.within_leaf c.args.walk.check (place_seen c.args.place) c.args.node.now c.in-Nil.is

pub within-returns-in-Nil-15 : goal.within-returns-in-Nil-15
within-returns-in-Nil-15 t c =
    w.within_leaf c.args.walk.check (place_seen c.args.place) c.args.node.now c.in-Nil.is

pub within-returns-in-Nil-16 : goal.within-returns-in-Nil-16
within-returns-in-Nil-16 t c =
    w.within_leaf c.args.walk.check (place_seen c.args.place) c.args.node.now c.in-Nil.is

pub within-returns-in-Scoped : goal.within-returns-in-Scoped
within-returns-in-Scoped t c =
    w.tells_within c.args.walk.check (place_seen c.args.place) c.args.node.now _ _ c.in_node-in-Scoped.result (w.within_one c.args.walk.check (place_seen c.args.place) c.args.node.now c.in-Scoped.part c.in-Scoped.is)
    (subst (λ m. Tells (λ names. spec.in_node c.args.walk.check (place_seen c.args.place) names m) (bound_of m) c.in_node-in-Scoped.result) c.get-in-Scoped.ensures c.in_node-in-Scoped.ensures)

pub within-returns-in-Array : goal.within-returns-in-Array
within-returns-in-Array t c =
    w.tells_within c.args.walk.check (place_seen c.args.place) c.args.node.now _ _ c.in_row-in-Array.result (w.within_row c.args.walk.check (place_seen c.args.place) c.args.node.now c.in-Array.nodes c.in-Array.is)
    (subst (λ ms. Tells (λ names. spec.in_row c.args.walk.check (place_seen c.args.place) names ms) (all_names ms) c.in_row-in-Array.result) c.as_slice-in-Array.ensures c.in_row-in-Array.ensures)

pub within-returns-in-Interp : goal.within-returns-in-Interp
within-returns-in-Interp t c =
    w.whole_arm c.args.walk.check (place_seen c.args.place) c.args.node.now (n.Interp c.as_slice-in-Interp.result.now) _ _ c.in_parts.result (c.in-Interp.is ∙ ap n.Interp (sym c.as_slice-in-Interp.ensures)) (w.within_interp c.args.walk.check (place_seen c.args.place) c.as_slice-in-Interp.result.now) c.in_parts.ensures

pub within-returns-in-Return : goal.within-returns-in-Return
within-returns-in-Return t c =
    w.whole_arm c.args.walk.check (place_seen c.args.place) c.args.node.now (n.Return c.in-Return.value) _ _ c.in_option.result c.in-Return.is (w.within_return c.args.walk.check (place_seen c.args.place) c.in-Return.value) c.in_option.ensures

pub within-returns-then-branch : goal.within-returns-then-branch
within-returns-then-branch t c =
    w.in_arm c.args.walk.check (place_seen c.args.place) c.args.node.now (n.Call c.in-Call.receiver c.in-Call.field-1 c.in-Call.arguments) _ _ _ c.in-Call.is (w.within_call c.args.walk.check (place_seen c.args.place) c.in-Call.receiver c.in-Call.field-1 c.in-Call.arguments)
    (w.found_first _ _ _ _ c.in_ok-in_node-in-Call.field-0 _ (w.at_node c.args.walk.check (place_seen c.args.place) (place_seen c.args.place) _ _ c.in_ok-in_node-in-Call.field-0 refl c.get.ensures c.in_ok-in_node-in-Call.ensures) c.if-branch.true refl)

pub within-returns-in_ok-in_row-in-Call : goal.within-returns-in_ok-in_row-in-Call
within-returns-in_ok-in_row-in-Call t c =
    w.in_arm c.args.walk.check (place_seen c.args.place) c.args.node.now (n.Call c.in-Call.receiver c.in-Call.field-1 c.in-Call.arguments) _ _ _ c.in-Call.is (w.within_call c.args.walk.check (place_seen c.args.place) c.in-Call.receiver c.in-Call.field-1 c.in-Call.arguments)
    (w.found_second _ _ _ _ c.in_ok-in_node-in-Call.field-0 _ _ (w.at_node c.args.walk.check (place_seen c.args.place) (place_seen c.args.place) _ _ c.in_ok-in_node-in-Call.field-0 refl c.get.ensures c.in_ok-in_node-in-Call.ensures) c.if-branch.false (w.at_row c.args.walk.check (place_seen c.args.place) (place_seen c.args.place) _ _ c.in_ok-in_row-in-Call.field-0 refl c.as_slice.ensures c.in_ok-in_row-in-Call.ensures) refl)

pub within-returns-then-branch-4 : goal.within-returns-then-branch-4
within-returns-then-branch-4 t c =
    w.in_arm c.args.walk.check (place_seen c.args.place) c.args.node.now (n.While c.in-While.field-0 c.in-While.test c.in-While.body) _ _ _ c.in-While.is (w.within_while c.args.walk.check (place_seen c.args.place) c.in-While.field-0 c.in-While.test c.in-While.body)
    (w.found_first _ _ _ _ c.in_ok-in_node-in-While.field-0 _ (w.at_node c.args.walk.check (place_seen c.args.place) (place_seen c.args.place) _ _ c.in_ok-in_node-in-While.field-0 refl c.get-in-While.ensures c.in_ok-in_node-in-While.ensures) c.if-branch-4.true refl)

pub within-returns-in_ok-in_row-in-While : goal.within-returns-in_ok-in_row-in-While
within-returns-in_ok-in_row-in-While t c =
    w.in_arm c.args.walk.check (place_seen c.args.place) c.args.node.now (n.While c.in-While.field-0 c.in-While.test c.in-While.body) _ _ _ c.in-While.is (w.within_while c.args.walk.check (place_seen c.args.place) c.in-While.field-0 c.in-While.test c.in-While.body)
    (w.found_second _ _ _ _ c.in_ok-in_node-in-While.field-0 _ _ (w.at_node c.args.walk.check (place_seen c.args.place) (place_seen c.args.place) _ _ c.in_ok-in_node-in-While.field-0 refl c.get-in-While.ensures c.in_ok-in_node-in-While.ensures) c.if-branch-4.false (w.at_row c.args.walk.check _ _ _ _ c.in_ok-in_row-in-While.field-0 c.loop_body-inside.ensures c.as_slice-else-branch-4.ensures c.in_ok-in_row-in-While.ensures) refl)

pub within-returns-then-branch-10 : goal.within-returns-then-branch-10
within-returns-then-branch-10 t c =
    w.in_arm c.args.walk.check (place_seen c.args.place) c.args.node.now (n.Module c.in-Module.base c.in-Module.field-1 c.in-Module.body) _ _ _ c.in-Module.is (w.within_module c.args.walk.check (place_seen c.args.place) c.in-Module.base c.in-Module.field-1 c.in-Module.body)
    (w.found_first _ _ _ _ c.in_ok-in_base-in-Module.field-0 _ (c.in_ok-in_base-in-Module.ensures) c.if-branch-10.true refl)

pub within-returns-in_ok-in_row-in-Module : goal.within-returns-in_ok-in_row-in-Module
within-returns-in_ok-in_row-in-Module t c =
    w.in_arm c.args.walk.check (place_seen c.args.place) c.args.node.now (n.Module c.in-Module.base c.in-Module.field-1 c.in-Module.body) _ _ _ c.in-Module.is (w.within_module c.args.walk.check (place_seen c.args.place) c.in-Module.base c.in-Module.field-1 c.in-Module.body)
    (w.found_second _ _ _ _ c.in_ok-in_base-in-Module.field-0 _ _ (c.in_ok-in_base-in-Module.ensures) c.if-branch-10.false (w.at_row c.args.walk.check _ _ _ _ c.in_ok-in_row-in-Module.field-0 c.class_body-inside-in-Module.ensures c.as_slice-else-branch-10.ensures c.in_ok-in_row-in-Module.ensures) refl)

pub within-returns-then-branch-12 : goal.within-returns-then-branch-12
within-returns-then-branch-12 t c =
    w.finds_within c.args.walk.check (place_seen c.args.place) c.args.node.now _ _ _ (w.within_two c.args.walk.check (place_seen c.args.place) c.args.node.now c.in-SetScoped.first c.in-SetScoped.second c.in-SetScoped.is)
    (w.found_first _ _ _ _ c.in_ok-in_node-in-SetScoped.field-0 _ (w.at_node c.args.walk.check (place_seen c.args.place) (place_seen c.args.place) _ _ c.in_ok-in_node-in-SetScoped.field-0 refl c.get-in-SetScoped.ensures c.in_ok-in_node-in-SetScoped.ensures) c.if-branch-12.true refl)

pub within-returns-in_ok-in_node-in-SetScoped-2 : goal.within-returns-in_ok-in_node-in-SetScoped-2
within-returns-in_ok-in_node-in-SetScoped-2 t c =
    w.finds_within c.args.walk.check (place_seen c.args.place) c.args.node.now _ _ _ (w.within_two c.args.walk.check (place_seen c.args.place) c.args.node.now c.in-SetScoped.first c.in-SetScoped.second c.in-SetScoped.is)
    (w.found_second _ _ _ _ c.in_ok-in_node-in-SetScoped.field-0 _ _ (w.at_node c.args.walk.check (place_seen c.args.place) (place_seen c.args.place) _ _ c.in_ok-in_node-in-SetScoped.field-0 refl c.get-in-SetScoped.ensures c.in_ok-in_node-in-SetScoped.ensures) c.if-branch-12.false (w.at_node c.args.walk.check (place_seen c.args.place) (place_seen c.args.place) _ _ c.in_ok-in_node-in-SetScoped-2.field-0 refl c.get-else-branch-12.ensures c.in_ok-in_node-in-SetScoped-2.ensures) refl)

pub within-returns-then-branch-11 : goal.within-returns-then-branch-11
within-returns-then-branch-11 t c =
    w.finds_within c.args.walk.check (place_seen c.args.place) c.args.node.now _ _ _ (w.within_method c.args.walk.check (place_seen c.args.place) c.args.node.now c.in-Def.defaults c.in-Def.body c.in-Def.is)
    (w.found_first _ _ _ _ c.in_ok-in_defaults-in-Def.field-0 _ (w.at_defaults c.args.walk.check _ _ _ _ c.in_ok-in_defaults-in-Def.field-0 c.method_body-inside.ensures c.as_slice-in-Def.ensures c.in_ok-in_defaults-in-Def.ensures) c.if-branch-11.true refl)

pub within-returns-in_ok-in_row-in-Def : goal.within-returns-in_ok-in_row-in-Def
within-returns-in_ok-in_row-in-Def t c =
    w.finds_within c.args.walk.check (place_seen c.args.place) c.args.node.now _ _ _ (w.within_method c.args.walk.check (place_seen c.args.place) c.args.node.now c.in-Def.defaults c.in-Def.body c.in-Def.is)
    (w.found_second _ _ _ _ c.in_ok-in_defaults-in-Def.field-0 _ _ (w.at_defaults c.args.walk.check _ _ _ _ c.in_ok-in_defaults-in-Def.field-0 c.method_body-inside.ensures c.as_slice-in-Def.ensures c.in_ok-in_defaults-in-Def.ensures) c.if-branch-11.false (w.at_row c.args.walk.check _ _ _ _ c.in_ok-in_row-in-Def.field-0 c.method_body-inside.ensures c.as_slice-else-branch-11.ensures c.in_ok-in_row-in-Def.ensures) refl)

pub within-returns-then-branch-3 : goal.within-returns-then-branch-3
within-returns-then-branch-3 t c =
    let joined : Finds (λ names. spec.in_node c.args.walk.check (place_seen c.args.place) names c.in-If.test || spec.in_row c.args.walk.check (place_seen c.args.place) names c.in-If.body) (max (bound_of c.in-If.test) (all_names c.in-If.body)) c.if-branch-2.value =
    elim c.if-branch-2.branch [ within-then-branch-2 x ↦ w.found_first _ _ _ _ c.in_ok-in_node-in-If.field-0 _ (w.at_node c.args.walk.check (place_seen c.args.place) (place_seen c.args.place) _ _ c.in_ok-in_node-in-If.field-0 refl c.get-in-If.ensures c.in_ok-in_node-in-If.ensures) x.if-branch-2.true x.value-is | within-else-branch-2+in_ok-in_row-in-If x ↦ w.found_second _ _ _ _ c.in_ok-in_node-in-If.field-0 _ _ (w.at_node c.args.walk.check (place_seen c.args.place) (place_seen c.args.place) _ _ c.in_ok-in_node-in-If.field-0 refl c.get-in-If.ensures c.in_ok-in_node-in-If.ensures) x.if-branch-2.false (w.at_row c.args.walk.check (place_seen c.args.place) (place_seen c.args.place) _ _ x.in_ok-in_row-in-If.field-0 refl x.as_slice-else-branch-2.ensures x.in_ok-in_row-in-If.ensures) x.value-is ] in
    w.in_arm c.args.walk.check (place_seen c.args.place) c.args.node.now (n.If c.in-If.field-0 c.in-If.test c.in-If.body c.in-If.other) _ _ _ c.in-If.is (w.within_if c.args.walk.check (place_seen c.args.place) c.in-If.field-0 c.in-If.test c.in-If.body c.in-If.other)
    (w.found_first _ _ _ _ c.if-branch-2.value _ joined c.if-branch-3.true refl)

pub within-returns-in_ok-in_row-in-If-2 : goal.within-returns-in_ok-in_row-in-If-2
within-returns-in_ok-in_row-in-If-2 t c =
    let joined : Finds (λ names. spec.in_node c.args.walk.check (place_seen c.args.place) names c.in-If.test || spec.in_row c.args.walk.check (place_seen c.args.place) names c.in-If.body) (max (bound_of c.in-If.test) (all_names c.in-If.body)) c.if-branch-2.value =
    elim c.if-branch-2.branch [ within-then-branch-2 x ↦ w.found_first _ _ _ _ c.in_ok-in_node-in-If.field-0 _ (w.at_node c.args.walk.check (place_seen c.args.place) (place_seen c.args.place) _ _ c.in_ok-in_node-in-If.field-0 refl c.get-in-If.ensures c.in_ok-in_node-in-If.ensures) x.if-branch-2.true x.value-is | within-else-branch-2+in_ok-in_row-in-If x ↦ w.found_second _ _ _ _ c.in_ok-in_node-in-If.field-0 _ _ (w.at_node c.args.walk.check (place_seen c.args.place) (place_seen c.args.place) _ _ c.in_ok-in_node-in-If.field-0 refl c.get-in-If.ensures c.in_ok-in_node-in-If.ensures) x.if-branch-2.false (w.at_row c.args.walk.check (place_seen c.args.place) (place_seen c.args.place) _ _ x.in_ok-in_row-in-If.field-0 refl x.as_slice-else-branch-2.ensures x.in_ok-in_row-in-If.ensures) x.value-is ] in
    w.in_arm c.args.walk.check (place_seen c.args.place) c.args.node.now (n.If c.in-If.field-0 c.in-If.test c.in-If.body c.in-If.other) _ _ _ c.in-If.is (w.within_if c.args.walk.check (place_seen c.args.place) c.in-If.field-0 c.in-If.test c.in-If.body c.in-If.other)
    (w.found_second _ _ _ _ c.if-branch-2.value _ _ joined c.if-branch-3.false (w.at_row c.args.walk.check (place_seen c.args.place) (place_seen c.args.place) _ _ c.in_ok-in_row-in-If-2.field-0 refl c.as_slice-else-branch-3.ensures c.in_ok-in_row-in-If-2.ensures) refl)

pub within-returns-then-branch-9 : goal.within-returns-then-branch-9
within-returns-then-branch-9 t c =
    let joined : Finds (λ names. spec.in_base c.args.walk.check (place_seen c.args.place) names c.in-Class.base || spec.in_option c.args.walk.check (place_seen c.args.place) names c.in-Class.superclass) (max (base_names c.in-Class.base) (if_any bound_of c.in-Class.superclass)) c.if-branch-8.value =
    elim c.if-branch-8.branch [ within-then-branch-8 x ↦ w.found_first _ _ _ _ c.in_ok-in_base-in-Class.field-0 _ (c.in_ok-in_base-in-Class.ensures) x.if-branch-8.true x.value-is | within-else-branch-8+in_ok-in_option-in-Class x ↦ w.found_second _ _ _ _ c.in_ok-in_base-in-Class.field-0 _ _ (c.in_ok-in_base-in-Class.ensures) x.if-branch-8.false (x.in_ok-in_option-in-Class.ensures) x.value-is ] in
    w.in_arm c.args.walk.check (place_seen c.args.place) c.args.node.now (n.Class c.in-Class.base c.in-Class.field-1 c.in-Class.superclass c.in-Class.body) _ _ _ c.in-Class.is (w.within_class c.args.walk.check (place_seen c.args.place) c.in-Class.base c.in-Class.field-1 c.in-Class.superclass c.in-Class.body)
    (w.found_first _ _ _ _ c.if-branch-8.value _ joined c.if-branch-9.true refl)

pub within-returns-in_ok-in_row-in-Class : goal.within-returns-in_ok-in_row-in-Class
within-returns-in_ok-in_row-in-Class t c =
    let joined : Finds (λ names. spec.in_base c.args.walk.check (place_seen c.args.place) names c.in-Class.base || spec.in_option c.args.walk.check (place_seen c.args.place) names c.in-Class.superclass) (max (base_names c.in-Class.base) (if_any bound_of c.in-Class.superclass)) c.if-branch-8.value =
    elim c.if-branch-8.branch [ within-then-branch-8 x ↦ w.found_first _ _ _ _ c.in_ok-in_base-in-Class.field-0 _ (c.in_ok-in_base-in-Class.ensures) x.if-branch-8.true x.value-is | within-else-branch-8+in_ok-in_option-in-Class x ↦ w.found_second _ _ _ _ c.in_ok-in_base-in-Class.field-0 _ _ (c.in_ok-in_base-in-Class.ensures) x.if-branch-8.false (x.in_ok-in_option-in-Class.ensures) x.value-is ] in
    w.in_arm c.args.walk.check (place_seen c.args.place) c.args.node.now (n.Class c.in-Class.base c.in-Class.field-1 c.in-Class.superclass c.in-Class.body) _ _ _ c.in-Class.is (w.within_class c.args.walk.check (place_seen c.args.place) c.in-Class.base c.in-Class.field-1 c.in-Class.superclass c.in-Class.body)
    (w.found_second _ _ _ _ c.if-branch-8.value _ _ joined c.if-branch-9.false (w.at_row c.args.walk.check _ _ _ _ c.in_ok-in_row-in-Class.field-0 c.class_body-inside.ensures c.as_slice-else-branch-9.ensures c.in_ok-in_row-in-Class.ensures) refl)

pub within-returns-then-branch-7 : goal.within-returns-then-branch-7
within-returns-then-branch-7 t c =
    let early : Finds (λ names. spec.in_row c.args.walk.check (place_seen c.args.place) names c.in-Begin.body || spec.in_rescues c.args.walk.check (place_seen c.args.place) names c.in-Begin.rescues) (max (all_names c.in-Begin.body) (greatest rescue_names c.in-Begin.rescues)) c.if-branch-5.value =
    elim c.if-branch-5.branch [ within-then-branch-5 x ↦ w.found_first _ _ _ _ c.in_ok-in_row-in-Begin.field-0 _ (w.at_row c.args.walk.check (place_seen c.args.place) (place_seen c.args.place) _ _ c.in_ok-in_row-in-Begin.field-0 refl c.as_slice-in-Begin.ensures c.in_ok-in_row-in-Begin.ensures) x.if-branch-5.true x.value-is | within-else-branch-5+in_ok-in_rescues-in-Begin x ↦ w.found_second _ _ _ _ c.in_ok-in_row-in-Begin.field-0 _ _ (w.at_row c.args.walk.check (place_seen c.args.place) (place_seen c.args.place) _ _ c.in_ok-in_row-in-Begin.field-0 refl c.as_slice-in-Begin.ensures c.in_ok-in_row-in-Begin.ensures) x.if-branch-5.false (w.at_rescues c.args.walk.check (place_seen c.args.place) (place_seen c.args.place) _ _ x.in_ok-in_rescues-in-Begin.field-0 refl x.as_slice-else-branch-5.ensures x.in_ok-in_rescues-in-Begin.ensures) x.value-is ] in
    let joined : Finds (λ names. spec.in_row c.args.walk.check (place_seen c.args.place) names c.in-Begin.body || spec.in_rescues c.args.walk.check (place_seen c.args.place) names c.in-Begin.rescues || spec.in_branch c.args.walk.check (place_seen c.args.place) names c.in-Begin.other)
    (max (max (all_names c.in-Begin.body) (greatest rescue_names c.in-Begin.rescues)) (if_any all_names c.in-Begin.other)) c.if-branch-6.value =
    elim c.if-branch-6.branch [ within-then-branch-6 x ↦ w.found_first _ _ _ _ c.if-branch-5.value _ (early) x.if-branch-6.true x.value-is | within-else-branch-6+in_ok-in_branch-in-Begin x ↦ w.found_second _ _ _ _ c.if-branch-5.value _ _ (early) x.if-branch-6.false (x.in_ok-in_branch-in-Begin.ensures) x.value-is ] in
    w.in_arm c.args.walk.check (place_seen c.args.place) c.args.node.now (n.Begin c.in-Begin.body c.in-Begin.rescues c.in-Begin.other c.in-Begin.ensured) _ _ _ c.in-Begin.is (w.within_begin c.args.walk.check (place_seen c.args.place) c.in-Begin.body c.in-Begin.rescues c.in-Begin.other c.in-Begin.ensured)
    (w.found_first _ _ _ _ c.if-branch-6.value _ joined c.if-branch-7.true refl)

pub within-returns-in_ok-in_branch-in-Begin-2 : goal.within-returns-in_ok-in_branch-in-Begin-2
within-returns-in_ok-in_branch-in-Begin-2 t c =
    let early : Finds (λ names. spec.in_row c.args.walk.check (place_seen c.args.place) names c.in-Begin.body || spec.in_rescues c.args.walk.check (place_seen c.args.place) names c.in-Begin.rescues) (max (all_names c.in-Begin.body) (greatest rescue_names c.in-Begin.rescues)) c.if-branch-5.value =
    elim c.if-branch-5.branch [ within-then-branch-5 x ↦ w.found_first _ _ _ _ c.in_ok-in_row-in-Begin.field-0 _ (w.at_row c.args.walk.check (place_seen c.args.place) (place_seen c.args.place) _ _ c.in_ok-in_row-in-Begin.field-0 refl c.as_slice-in-Begin.ensures c.in_ok-in_row-in-Begin.ensures) x.if-branch-5.true x.value-is | within-else-branch-5+in_ok-in_rescues-in-Begin x ↦ w.found_second _ _ _ _ c.in_ok-in_row-in-Begin.field-0 _ _ (w.at_row c.args.walk.check (place_seen c.args.place) (place_seen c.args.place) _ _ c.in_ok-in_row-in-Begin.field-0 refl c.as_slice-in-Begin.ensures c.in_ok-in_row-in-Begin.ensures) x.if-branch-5.false (w.at_rescues c.args.walk.check (place_seen c.args.place) (place_seen c.args.place) _ _ x.in_ok-in_rescues-in-Begin.field-0 refl x.as_slice-else-branch-5.ensures x.in_ok-in_rescues-in-Begin.ensures) x.value-is ] in
    let joined : Finds (λ names. spec.in_row c.args.walk.check (place_seen c.args.place) names c.in-Begin.body || spec.in_rescues c.args.walk.check (place_seen c.args.place) names c.in-Begin.rescues || spec.in_branch c.args.walk.check (place_seen c.args.place) names c.in-Begin.other)
    (max (max (all_names c.in-Begin.body) (greatest rescue_names c.in-Begin.rescues)) (if_any all_names c.in-Begin.other)) c.if-branch-6.value =
    elim c.if-branch-6.branch [ within-then-branch-6 x ↦ w.found_first _ _ _ _ c.if-branch-5.value _ (early) x.if-branch-6.true x.value-is | within-else-branch-6+in_ok-in_branch-in-Begin x ↦ w.found_second _ _ _ _ c.if-branch-5.value _ _ (early) x.if-branch-6.false (x.in_ok-in_branch-in-Begin.ensures) x.value-is ] in
    w.in_arm c.args.walk.check (place_seen c.args.place) c.args.node.now (n.Begin c.in-Begin.body c.in-Begin.rescues c.in-Begin.other c.in-Begin.ensured) _ _ _ c.in-Begin.is (w.within_begin c.args.walk.check (place_seen c.args.place) c.in-Begin.body c.in-Begin.rescues c.in-Begin.other c.in-Begin.ensured)
    (w.found_second _ _ _ _ c.if-branch-6.value _ _ joined c.if-branch-7.false c.in_ok-in_branch-in-Begin-2.ensures refl)
