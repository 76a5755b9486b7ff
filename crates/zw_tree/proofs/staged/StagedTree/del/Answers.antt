use Rattle.std.proofs.Common.{◌≡◌, ◌∷◌, ◌++◌, [], Some, None, Bor, length, ap, sym, ◌∙◌, subst, arith, List, ℕ}
use Rattle.std.specs.Option.{option_map}
use Rattle.zw_def.specs.Tree.{size_of}
use Rattle.zw_tree.specs.Text.{text_at}
use Rattle.zw_tree.specs.Edit.{without_file}
use Rattle.zw_tree.specs.Held.{files_in, bytes_in}
use Rattle.zw_tree.specs.Stage.{Stage, AgreeBut}
use Rattle.zw_tree.proofs.StageLemmas.{del_none, del_some, settled_del, files_without, bytes_without}
use Rattle.zw_tree.proofs.staged.StagedTree.del.Goals as goal

pub returns-in_default-text-clause-refused : goal.returns-in_default-text-clause-refused
returns-in_default-text-clause-refused c =
    let staged = ap (λ (t : Stage). t.staged) c.self.view_is in
    let none : text_at c.args.path.now c.args.self.now.staged ≡ None = ap (text_at c.args.path.now) (sym staged) ∙ sym c.text.ensures ∙ ap (option_map (λ (b : Bor (List ℕ)). b.now)) c.in_default-text.is in
    del_none c.args.self.now c.args.path.now (sym c.refusal.ensures ∙ c.in_default.is) none

pub overflow_sub-size : goal.overflow_sub-size
overflow_sub-size c =
    let s = c.self.inside in
    let has : text_at c.args.path.now s.staged ≡ Some c.in-Some-text.bytes.now = sym c.in-Some-text.ensures in
    omega (arith, c.self.invariant.2, bytes_without s.staged c.args.path.now c.is_tree.ensures, ap bytes_in has)

pub invariant_of-self-2 : goal.invariant_of-self-2
invariant_of-self-2 c =
    let s = c.self.inside in
    let path = c.args.path.now in
    let has : text_at path s.staged ≡ Some c.in-Some-text.bytes.now = sym c.in-Some-text.ensures in
    let new : c.del.new.self ≡ without_file s.staged path = c.in_ok-del.ensures.ok in
    let files = files_without s.staged path c.is_tree.ensures in
    let bytes = bytes_without s.staged path c.is_tree.ensures in
    let touched : c.push_reserved.new.self.items ≡ s.touched.items ++ path ∷ [] = c.push_reserved.ensures.items ∙ (λ i. c.in_ok-reserve.ensures.items i ++ c.in_ok-noted.ensures i ∷ []) in
    let settled = settled_del s.touched.items s.staged s.mounted path c.self.invariant.0.settled in (
      record {
        files = omega (arith, c.self.invariant.0.files, files, ap length new);
        size = omega (arith, c.self.invariant.0.size, bytes, ap size_of new);
        settled = subst (λ ps. AgreeBut ps s.mounted c.del.new.self) (sym touched) (subst (AgreeBut (s.touched.items ++ path ∷ []) s.mounted) (sym new) settled);
      },
      omega (arith, c.self.invariant.1, files, ap files_in has, ap length new),
      omega (arith, c.self.invariant.2, bytes, ap bytes_in has, ap size_of new),
    )

pub returns-clause-cause : goal.returns-clause-cause
returns-clause-cause c =
    let staged = ap (λ (t : Stage). t.staged) c.self.view_is in
    let has : text_at c.args.path.now c.args.self.now.staged ≡ Some c.in-Some-text.bytes.now = ap (text_at c.args.path.now) (sym staged) ∙ sym c.in-Some-text.ensures in
    del_some c.args.self.now c.args.path.now c.in-Some-text.bytes.now (sym c.refusal.ensures ∙ c.in_default.is) has
