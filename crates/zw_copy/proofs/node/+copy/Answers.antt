use Rattle.std.proofs.Common.{sym, ◌∙◌, ◌+◌, subst, arith, refl, take}
use Rattle.zw_ast.specs.declared.node.Node.TheVariants as n
use Rattle.zw_ast.specs.Named.{bound_of, rescue_names, default_names}
use Rattle.zw_ast.specs.Node.{tree_seen, rescue_seen, default_seen}
use Rattle.zw_copy.specs.Copy.{AreSame, IsCopy, AreCopies, ArePartCopies, AreRescueCopies, AreDefaultCopies}
use Rattle.zw_copy.proofs.CopyLemmas as k
use Rattle.zw_copy.proofs.RowLemmas.{one_more, all_done}
use Rattle.zw_copy.proofs.node.+copy.Goals as goal

-- ---- rows

pub copy_row-nodes-preserved : goal.copy_row-nodes-preserved
copy_row-nodes-preserved t c =
    subst (AreSame tree_seen bound_of (take (c.nodes.node-index + 1) c.args.nodes.now)) (sym c.in_ok-push.ensures.ok)
    (one_more tree_seen bound_of c.args.nodes.now c.nodes.copies c.nodes.node-index c.node-item.result c.in_ok-copy.field-0 c.nodes-test.true c.node-item.is c.nodes.invariant c.in_ok-copy.ensures)

pub copy_rescues-rescues-preserved : goal.copy_rescues-rescues-preserved
copy_rescues-rescues-preserved t c =
    subst (AreSame rescue_seen rescue_names (take (c.rescues.rescue-index + 1) c.args.rescues.now)) (sym c.in_ok-push.ensures.ok)
    (one_more rescue_seen rescue_names c.args.rescues.now c.rescues.copies c.rescues.rescue-index c.rescue-item.result c.in_ok-copy_rescue.field-0 c.rescues-test.true c.rescue-item.is c.rescues.invariant c.in_ok-copy_rescue.ensures)

pub copy_defaults-defaults-preserved : goal.copy_defaults-defaults-preserved
copy_defaults-defaults-preserved t c =
    subst (AreSame default_seen default_names (take (c.defaults.default-index + 1) c.args.defaults.now)) (sym c.in_ok-push.ensures.ok)
    (one_more default_seen default_names c.args.defaults.now c.defaults.copies c.defaults.default-index c.default-item.result c.in_ok-copy_default.field-0 c.defaults-test.true c.default-item.is c.defaults.invariant c.in_ok-copy_default.ensures)

pub copy_row-returns : goal.copy_row-returns
copy_row-returns t c =
    all_done tree_seen bound_of c.args.nodes.now c.nodes.copies c.nodes.node-index (let over = c.nodes-test.false in omega (arith, over)) c.nodes.invariant

-- ---- what stands beside nodes

pub copy_default-returns : goal.copy_default-returns
copy_default-returns t c =
    k.default_copied c.args.default.now (record { name = c.args.default.now.name; value = c.in_ok-value.value }) refl c.in_ok-value.ensures

pub copy_rescue-returns : goal.copy_rescue-returns
copy_rescue-returns t c =
    let paths : AreCopies c.args.rescue.now.paths c.in_ok-paths.paths = subst (λ us. AreCopies us c.in_ok-paths.paths) c.as_slice.ensures c.in_ok-paths.ensures in
    let body : AreCopies c.args.rescue.now.body c.in_ok-body.body = subst (λ us. AreCopies us c.in_ok-body.body) c.as_slice-2.ensures c.in_ok-body.ensures in
    k.rescue_copied c.args.rescue.now (record { paths = c.in_ok-paths.paths; variable = c.args.rescue.now.variable; body = c.in_ok-body.body }) paths refl body

pub copy_base-returns-in_ok-copy_boxed-in-Within : goal.copy_base-returns-in_ok-copy_boxed-in-Within
copy_base-returns-in_ok-copy_boxed-in-Within t c =
    k.same_as _ _ _ c.in-Within.is (k.base_copied _ _ c.in_ok-copy_boxed-in-Within.ensures)

pub copy_option-returns-in_ok-copy_boxed-in-Some : goal.copy_option-returns-in_ok-copy_boxed-in-Some
copy_option-returns-in_ok-copy_boxed-in-Some t c =
    k.same_as _ _ _ c.in-Some.is (k.some_copied _ _ c.in_ok-copy_boxed-in-Some.ensures)

pub copy_branch-returns-in_ok-copy_row-in-Some : goal.copy_branch-returns-in_ok-copy_row-in-Some
copy_branch-returns-in_ok-copy_row-in-Some t c =
    k.same_as _ _ _ c.in-Some.is
    (k.branch_copied _ _ (subst (λ us. AreCopies us c.in_ok-copy_row-in-Some.field-0) c.as_slice.ensures c.in_ok-copy_row-in-Some.ensures))

pub copy_part-returns-in_ok-copy_row-in-Program : goal.copy_part-returns-in_ok-copy_row-in-Program
copy_part-returns-in_ok-copy_row-in-Program t c =
    k.same_as _ _ _ c.in-Program.is
    (k.interpolation_copied _ _ (subst (λ us. AreCopies us c.in_ok-copy_row-in-Program.field-0) c.as_slice.ensures c.in_ok-copy_row-in-Program.ensures))

-- ---- nodes, by their kinds

pub copy-returns-in_ok-copy_parts-in-Interp : goal.copy-returns-in_ok-copy_parts-in-Interp
copy-returns-in_ok-copy_parts-in-Interp t c =
    k.same_as _ _ _ c.in-Interp.is (k.interp_copied _ _ (subst (λ us. ArePartCopies us c.in_ok-copy_parts-in-Interp.field-0) c.as_slice.ensures c.in_ok-copy_parts-in-Interp.ensures))

pub copy-returns-in_ok-copy_row-in-Array : goal.copy-returns-in_ok-copy_row-in-Array
copy-returns-in_ok-copy_row-in-Array t c =
    k.same_as _ _ _ c.in-Array.is (k.array_copied _ _ (subst (λ us. AreCopies us c.in_ok-copy_row-in-Array.field-0) c.as_slice-in-Array.ensures c.in_ok-copy_row-in-Array.ensures))

pub copy-returns-in_ok-copy_boxed-in-Scoped : goal.copy-returns-in_ok-copy_boxed-in-Scoped
copy-returns-in_ok-copy_boxed-in-Scoped t c =
    k.same_as _ _ _ c.in-Scoped.is (k.scoped_copied _ _ _ c.in_ok-copy_boxed-in-Scoped.ensures)

pub copy-returns-in_ok-copy_boxed-in-SetLocal : goal.copy-returns-in_ok-copy_boxed-in-SetLocal
copy-returns-in_ok-copy_boxed-in-SetLocal t c =
    k.same_as _ _ _ c.in-SetLocal.is (k.set_local_copied _ _ _ c.in_ok-copy_boxed-in-SetLocal.ensures)

pub copy-returns-in_ok-copy_boxed-in-SetInstanceVariable : goal.copy-returns-in_ok-copy_boxed-in-SetInstanceVariable
copy-returns-in_ok-copy_boxed-in-SetInstanceVariable t c =
    k.same_as _ _ _ c.in-SetInstanceVariable.is (k.set_ivar_copied _ _ _ c.in_ok-copy_boxed-in-SetInstanceVariable.ensures)

pub copy-returns-in_ok-copy_boxed-in-SetClassVariable : goal.copy-returns-in_ok-copy_boxed-in-SetClassVariable
copy-returns-in_ok-copy_boxed-in-SetClassVariable t c =
    k.same_as _ _ _ c.in-SetClassVariable.is (k.set_cvar_copied _ _ _ c.in_ok-copy_boxed-in-SetClassVariable.ensures)

pub copy-returns-in_ok-copy_boxed-in-SetConst : goal.copy-returns-in_ok-copy_boxed-in-SetConst
copy-returns-in_ok-copy_boxed-in-SetConst t c =
    k.same_as _ _ _ c.in-SetConst.is (k.set_const_copied _ _ _ c.in_ok-copy_boxed-in-SetConst.ensures)

pub copy-returns-in_ok-copy_boxed-in-SetScoped : goal.copy-returns-in_ok-copy_boxed-in-SetScoped
copy-returns-in_ok-copy_boxed-in-SetScoped t c =
    k.same_as _ _ _ c.in-SetScoped.is (k.set_scoped_copied _ _ _ _ _ c.in_ok-base-in-SetScoped.ensures c.in_ok-copy_boxed-in-SetScoped.ensures)

pub copy-returns-in_ok-copy_boxed-in-SetAttribute : goal.copy-returns-in_ok-copy_boxed-in-SetAttribute
copy-returns-in_ok-copy_boxed-in-SetAttribute t c =
    k.same_as _ _ _ c.in-SetAttribute.is (k.set_attr_copied _ _ _ _ _ c.in_ok-receiver-in-SetAttribute.ensures c.in_ok-copy_boxed-in-SetAttribute.ensures)

pub copy-returns-in_ok-copy_row-in-Call : goal.copy-returns-in_ok-copy_row-in-Call
copy-returns-in_ok-copy_row-in-Call t c =
    k.same_as _ _ _ c.in-Call.is (k.call_copied _ _ _ _ _ c.in_ok-receiver-in-Call.ensures (subst (λ us. AreCopies us c.in_ok-copy_row-in-Call.field-0) c.as_slice-in-Call.ensures c.in_ok-copy_row-in-Call.ensures))

pub copy-returns-in_ok-copy_row-in-SelfCall : goal.copy-returns-in_ok-copy_row-in-SelfCall
copy-returns-in_ok-copy_row-in-SelfCall t c =
    k.same_as _ _ _ c.in-SelfCall.is (k.self_call_copied _ _ _ (subst (λ us. AreCopies us c.in_ok-copy_row-in-SelfCall.field-0) c.as_slice-in-SelfCall.ensures c.in_ok-copy_row-in-SelfCall.ensures))

pub copy-returns-in_ok-copy_row-in-Super : goal.copy-returns-in_ok-copy_row-in-Super
copy-returns-in_ok-copy_row-in-Super t c =
    k.same_as _ _ _ c.in-Super.is (k.super_copied _ _ (subst (λ us. AreCopies us c.in_ok-copy_row-in-Super.field-0) c.as_slice-in-Super.ensures c.in_ok-copy_row-in-Super.ensures))

pub copy-returns-in_ok-copy_boxed-in-Not : goal.copy-returns-in_ok-copy_boxed-in-Not
copy-returns-in_ok-copy_boxed-in-Not t c =
    k.same_as _ _ _ c.in-Not.is (k.not_copied _ _ c.in_ok-copy_boxed-in-Not.ensures)

pub copy-returns-in_ok-copy_boxed-in-And : goal.copy-returns-in_ok-copy_boxed-in-And
copy-returns-in_ok-copy_boxed-in-And t c =
    k.same_as _ _ _ c.in-And.is (k.and_copied _ _ _ _ c.in_ok-left-in-And.ensures c.in_ok-copy_boxed-in-And.ensures)

pub copy-returns-in_ok-copy_boxed-in-Or : goal.copy-returns-in_ok-copy_boxed-in-Or
copy-returns-in_ok-copy_boxed-in-Or t c =
    k.same_as _ _ _ c.in-Or.is (k.or_copied _ _ _ _ c.in_ok-left-in-Or.ensures c.in_ok-copy_boxed-in-Or.ensures)

pub copy-returns-in_ok-copy_row-in-If : goal.copy-returns-in_ok-copy_row-in-If
copy-returns-in_ok-copy_row-in-If t c =
    subst (λ test. IsCopy c.args.node.now (n.If c.in-If.order test c.in_ok-body-in-If.body c.in_ok-copy_row-in-If.field-0)) (sym c.test.view_is)
    (k.same_as _ _ _ c.in-If.is (k.if_copied _ _ _ _ _ _ _ c.in_ok-test-in-If.ensures (subst (λ us. AreCopies us c.in_ok-body-in-If.body) c.as_slice-in-If.ensures c.in_ok-body-in-If.ensures) (subst (λ us. AreCopies us c.in_ok-copy_row-in-If.field-0) c.as_slice-in-If-2.ensures c.in_ok-copy_row-in-If.ensures)))

pub copy-returns-in_ok-copy_row-in-While : goal.copy-returns-in_ok-copy_row-in-While
copy-returns-in_ok-copy_row-in-While t c =
    k.same_as _ _ _ c.in-While.is (k.while_copied _ _ _ _ _ c.in_ok-test-in-While.ensures (subst (λ us. AreCopies us c.in_ok-copy_row-in-While.field-0) c.as_slice-in-While.ensures c.in_ok-copy_row-in-While.ensures))

pub copy-returns-in_ok-copy_option-in-Return : goal.copy-returns-in_ok-copy_option-in-Return
copy-returns-in_ok-copy_option-in-Return t c =
    k.same_as _ _ _ c.in-Return.is (k.return_copied _ _ c.in_ok-copy_option-in-Return.ensures)

pub copy-returns-in_ok-copy_row-in-Seq : goal.copy-returns-in_ok-copy_row-in-Seq
copy-returns-in_ok-copy_row-in-Seq t c =
    k.same_as _ _ _ c.in-Seq.is (k.seq_copied _ _ (subst (λ us. AreCopies us c.in_ok-copy_row-in-Seq.field-0) c.as_slice-in-Seq.ensures c.in_ok-copy_row-in-Seq.ensures))

pub copy-returns-in_ok-copy_branch-in-Begin : goal.copy-returns-in_ok-copy_branch-in-Begin
copy-returns-in_ok-copy_branch-in-Begin t c =
    subst (λ rescues. IsCopy c.args.node.now (n.Begin c.body.inside.items.items rescues c.in_ok-other-in-Begin.other c.in_ok-copy_branch-in-Begin.field-0)) (sym c.rescues.view_is)
    (subst (λ body. IsCopy c.args.node.now (n.Begin body c.in_ok-rescues-in-Begin.rescues c.in_ok-other-in-Begin.other c.in_ok-copy_branch-in-Begin.field-0)) (sym c.body.view_is)
    (k.same_as _ _ _ c.in-Begin.is (k.begin_copied _ _ _ _ _ _ _ _ (subst (λ us. AreCopies us c.in_ok-body-in-Begin.body) c.as_slice-in-Begin.ensures c.in_ok-body-in-Begin.ensures) (subst (λ us. AreRescueCopies us c.in_ok-rescues-in-Begin.rescues) c.as_slice-in-Begin-2.ensures c.in_ok-rescues-in-Begin.ensures) c.in_ok-other-in-Begin.ensures c.in_ok-copy_branch-in-Begin.ensures)))

pub copy-returns-in_ok-copy_row-in-Def : goal.copy-returns-in_ok-copy_row-in-Def
copy-returns-in_ok-copy_row-in-Def t c =
    subst (λ required. IsCopy c.args.node.now (n.Def c.in-Def.name required c.in_ok-defaults-in-Def.defaults c.in_ok-copy_row-in-Def.field-0)) (sym (c.required.view_is ∙ c.in_ok-required-in-Def.ensures ∙ c.as_slice-in-Def.ensures))
    (k.same_as _ _ _ c.in-Def.is (k.def_copied _ _ _ _ _ _ (subst (λ us. AreDefaultCopies us c.in_ok-defaults-in-Def.defaults) c.as_slice-in-Def-2.ensures c.in_ok-defaults-in-Def.ensures) (subst (λ us. AreCopies us c.in_ok-copy_row-in-Def.field-0) c.as_slice-in-Def-3.ensures c.in_ok-copy_row-in-Def.ensures)))

pub copy-returns-in_ok-copy_row-in-SDef : goal.copy-returns-in_ok-copy_row-in-SDef
copy-returns-in_ok-copy_row-in-SDef t c =
    subst (λ required. IsCopy c.args.node.now (n.SDef c.in-SDef.name required c.in_ok-defaults-in-SDef.defaults c.in_ok-copy_row-in-SDef.field-0)) (sym (c.required-in-SDef.view_is ∙ c.in_ok-required-in-SDef.ensures ∙ c.as_slice-in-SDef.ensures))
    (k.same_as _ _ _ c.in-SDef.is (k.sdef_copied _ _ _ _ _ _ (subst (λ us. AreDefaultCopies us c.in_ok-defaults-in-SDef.defaults) c.as_slice-in-SDef-2.ensures c.in_ok-defaults-in-SDef.ensures) (subst (λ us. AreCopies us c.in_ok-copy_row-in-SDef.field-0) c.as_slice-in-SDef-3.ensures c.in_ok-copy_row-in-SDef.ensures)))

pub copy-returns-in_ok-copy_row-in-Class : goal.copy-returns-in_ok-copy_row-in-Class
copy-returns-in_ok-copy_row-in-Class t c =
    k.same_as _ _ _ c.in-Class.is (k.class_copied _ _ _ _ _ _ _ c.in_ok-base-in-Class.ensures c.in_ok-superclass-in-Class.ensures (subst (λ us. AreCopies us c.in_ok-copy_row-in-Class.field-0) c.as_slice-in-Class.ensures c.in_ok-copy_row-in-Class.ensures))

pub copy-returns-in_ok-copy_row-in-Module : goal.copy-returns-in_ok-copy_row-in-Module
copy-returns-in_ok-copy_row-in-Module t c =
    k.same_as _ _ _ c.in-Module.is (k.module_copied _ _ _ _ _ c.in_ok-base-in-Module.ensures (subst (λ us. AreCopies us c.in_ok-copy_row-in-Module.field-0) c.as_slice-in-Module.ensures c.in_ok-copy_row-in-Module.ensures))
