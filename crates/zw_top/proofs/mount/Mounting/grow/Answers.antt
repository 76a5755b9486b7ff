use Rattle.std.proofs.Common.{◌≡◌, ◌≤◌, Some, None, Ok, Err, length, ap, sym, subst, ◌∙◌, arith}
use Rattle.zw_base.specs.Fault.{IfRefused}
use Rattle.zw_def.specs.Tree.{size_of}
use Rattle.zw_def_thin.specs.Limit.{most_file_bytes}
use Rattle.zw_def_thin.specs.Mount.{grown}
use Rattle.zw_tree.specs.Stage.{Stage, put_refusal, put_stage}
use Rattle.zw_tree.specs.declared.fault.TreeFault.{TreeFault}
use Rattle.zw_base.specs.declared.fault.Fault.{Fault}
use Rattle.zw_top.proofs.MountLemmas.{put_accepted, put_as, put_length, put_size, grown_in, whole_front}
use Rattle.zw_top.proofs.mount.Mounting.grow.Goals as goal

pub invariant_of-self : goal.invariant_of-self
invariant_of-self c =
    let s = c.args.self.now in
    let path = c.args.path in
    let text = c.args.bytes.items in
    let old = ap (λ (t : Stage). t.staged) c.self.view_is in
    let new = ap (λ (t : Stage). t.staged) (c.in-Ok.ensures.ok ∙ ap (λ (t : Stage). put_stage t path text) c.self.view_is) in
    let files = c.self.invariant.0 ∙ ap length old in
    let size = c.self.invariant.1 ∙ ap size_of old in (
      omega (arith, files, put_length s path c.requires text, ap length new),
      grind (arith, size, put_size s path c.requires text, ap size_of new, c.saturating_add-size.ensures, c.len-2.ensures, c.if-size-tree_bytes.false, c.tree_bytes.ensures.small),
    )

pub unreachable-requires : goal.unreachable-requires
unreachable-requires c =
    let s = c.args.self.now in
    let path = c.args.path in
    let text = c.args.bytes.items in
    let old = ap (λ (t : Stage). t.staged) c.self.view_is in
    let files = c.self.invariant.0 ∙ ap length old in
    let size = c.self.invariant.1 ∙ ap size_of old in
    let none = put_accepted s path c.requires text (omega (arith, files, c.if-self-files.false, c.files.ensures.value)) (omega (arith, c.len.ensures, c.if-len-file_bytes.false, c.file_bytes.ensures.value))
    (grind (arith, size, c.saturating_add-size.ensures, c.len-2.ensures, c.if-size-tree_bytes.false, c.tree_bytes.ensures.value, c.tree_bytes.ensures.small)) in
    let some = subst (λ (f : Fault TreeFault). IfRefused {X = Unit {0}} (Err f) (λ fault. put_refusal c.self.inside.tree path text ≡ Some fault)) c.in-Err-Refused.field-0-is c.in-Err-Refused.ensures.refused in
    let e : None ≡ Some _ = sym none ∙ ap (λ (t : Stage). put_refusal t path text) (sym c.self.view_is) ∙ some in
    cc

pub returns-in-Ok-clause-gives : goal.returns-in-Ok-clause-gives
returns-in-Ok-clause-gives c text is =
    let s = c.args.self.now in
    let path = c.args.path in
    let old = ap (λ (t : Stage). t.staged) c.self.view_is in
    let new = ap (λ (t : Stage). t.staged) (c.in-Ok.ensures.ok ∙ ap (λ (t : Stage). put_stage t path c.args.bytes.items) c.self.view_is) in
    let files = c.self.invariant.0 ∙ ap length old in
    let size = c.self.invariant.1 ∙ ap size_of old in
    let short : length c.args.bytes.items ≤ most_file_bytes = omega (arith, c.len.ensures, c.if-len-file_bytes.false, c.file_bytes.ensures.value) in
    ap (grown s.staged path) (sym (whole_front c.args.bytes.items text is short))
    ∙ grown_in s.staged path c.args.bytes.items (omega (arith, files, c.if-self-files.false, c.files.ensures.value)) short
    (grind (arith, size, c.saturating_add-size.ensures, c.len-2.ensures, c.if-size-tree_bytes.false, c.tree_bytes.ensures.value, c.tree_bytes.ensures.small))
    ∙ ap Ok (sym (put_as s path c.requires c.args.bytes.items) ∙ sym new)
