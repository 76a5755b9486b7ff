use Rattle.std.proofs.Common.{◌≡◌, length, ap, sym, ◌∙◌, subst, arith}
use Rattle.zw_def.specs.Tree.{size_of}
use Rattle.zw_tree.specs.Text.{text_at}
use Rattle.zw_tree.specs.Strict.{IsTree}
use Rattle.zw_tree.specs.Edit.{is_blocked}
use Rattle.zw_tree.specs.Held.{files_in, bytes_in}
use Rattle.zw_tree.specs.Stage.{Stage, max_files, max_tree}
use Rattle.zw_tree.proofs.StageLemmas.{fewer_bytes, grown_files, grown_bytes, refused_as}
use Rattle.zw_tree.proofs.staged.StagedTree.grown.Goals as goal

pub overflow_add-files : goal.overflow_add-files
unfolding max_files
overflow_add-files c =
    let few = c.self.invariant.0.files in
    omega (arith, c.self.invariant.1, few)

pub overflow_sub-all : goal.overflow_sub-all
overflow_sub-all c =
    let s = c.self.inside in
    let now = c.args.self.now in
    let path = c.args.path.now in
    let staged : s.staged ≡ now.staged = ap (λ (t : Stage). t.staged) c.self.view_is in
    let tree = subst IsTree staged c.is_tree.ensures in
    let files = c.self.invariant.1 ∙ ap length staged in
    let bytes = c.self.invariant.2 ∙ ap size_of staged in
    let here = c.in-Some-held.ensures.1 ∙ ap (λ t. files_in (text_at path t)) staged in
    let held = c.in-Some-held.ensures.2 ∙ ap (λ t. bytes_in (text_at path t)) staged in
    fewer_bytes now path s.files s.size c.in-Some-held.old_files c.in-Some-held.old_size c.args.size tree files bytes here held

pub overflow_add-all : goal.overflow_add-all
unfolding max_tree
overflow_add-all c =
    let few = c.self.invariant.0.size in
    omega (arith, c.self.invariant.2, few, c.requires)

pub returns-then-is_too_large : goal.returns-then-is_too_large
returns-then-is_too_large c = λ text so.
    let s = c.self.inside in
    let now = c.args.self.now in
    let path = c.args.path.now in
    let staged : s.staged ≡ now.staged = ap (λ (t : Stage). t.staged) c.self.view_is in
    let tree = subst IsTree staged c.is_tree.ensures in
    let files = c.self.invariant.1 ∙ ap length staged in
    let bytes = c.self.invariant.2 ∙ ap size_of staged in
    let here = c.in-Some-held.ensures.1 ∙ ap (λ t. files_in (text_at path t)) staged in
    let held = c.in-Some-held.ensures.2 ∙ ap (λ t. bytes_in (text_at path t)) staged in
    let free = ap (λ t. is_blocked t path) (sym staged) ∙ c.in-Some-held.ensures.0 in
    let refusal = sym c.refusal.ensures ∙ c.in_default.is in
    refused_as now path s.files s.size c.in-Some-held.old_files c.in-Some-held.old_size c.args.size tree files bytes here held text so _ refusal free (sym c.if-is_too_large.true ∙ c.is_too_large.ensures)

pub returns : goal.returns
returns c = λ text so.
    let s = c.self.inside in
    let now = c.args.self.now in
    let path = c.args.path.now in
    let staged : s.staged ≡ now.staged = ap (λ (t : Stage). t.staged) c.self.view_is in
    let tree = subst IsTree staged c.is_tree.ensures in
    let files = c.self.invariant.1 ∙ ap length staged in
    let bytes = c.self.invariant.2 ∙ ap size_of staged in
    let here = c.in-Some-held.ensures.1 ∙ ap (λ t. files_in (text_at path t)) staged in
    let held = c.in-Some-held.ensures.2 ∙ ap (λ t. bytes_in (text_at path t)) staged in
    let free = ap (λ t. is_blocked t path) (sym staged) ∙ c.in-Some-held.ensures.0 in
    let refusal = sym c.refusal.ensures ∙ c.in_default.is in
    (refused_as now path s.files s.size c.in-Some-held.old_files c.in-Some-held.old_size c.args.size tree files bytes here held text so _ refusal free (sym c.if-is_too_large.false ∙ c.is_too_large.ensures), grown_files now path s.files s.size c.in-Some-held.old_files c.in-Some-held.old_size c.args.size tree files bytes here held text so, grown_bytes now path s.files s.size c.in-Some-held.old_files c.in-Some-held.old_size c.args.size tree files bytes here held text so)
