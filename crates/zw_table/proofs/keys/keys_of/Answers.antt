use Rattle.std.proofs.Common.{rules, ◌≡◌, ◌∷◌, map, length, sym, ap, ◌∙◌, refl, ◌&&◌, not, eqb-true}
use Rattle.std.proofs.lemmas.List.{length-map}
use Rattle.zw_table.specs.Left.{words_left}
use Rattle.zw_table.specs.Words.{words}
use Rattle.zw_table.proofs.RisingLemmas.{rises_after}
use Rattle.zw_table.proofs.KeyLemmas.{out_of_order, all_read, before_by_le, read_more, none_left}
use Rattle.zw_table.proofs.keys.keys_of.Goals as goal

pub returns-then-le-clause-told : goal.returns-then-le-clause-told
returns-then-le-clause-told g c =
    let word = c.first_word.result.0.now in
    let last = c.loop-left.last.now in
    out_of_order g.row.N c.args.text.now last word (words_left c.first_word.result.1)
    (c.loop-left.invariant.2 ∙ ap (rises_after last) (ap words_left c.in-Some.is ∙ c.first_word.ensures.word))
    (before_by_le last word c.le.result c.le.ensures ∙ ap not c.if-le.true)

pub loop-left-preserved : goal.loop-left-preserved
loop-left-preserved g c =
    let word = c.first_word.result.0 in
    let more = words_left c.first_word.result.1 in
    let left : words_left c.loop-left.left ≡ word.now ∷ more = ap words_left c.in-Some.is ∙ c.first_word.ensures.word in
    let before = before_by_le c.loop-left.last.now word.now c.le.result c.le.ensures ∙ ap not c.if-le.false in (
      search rules,
      read_more c.loop-left.keys.items c.push.new.self.items word (words c.args.text.now) (words_left c.loop-left.left) more c.loop-left.invariant.1 left c.push.ensures.items,
      c.loop-left.invariant.2 ∙ ap (rises_after c.loop-left.last.now) left ∙ ap (λ b. b && rises_after word.now more) before,
    )

pub returns-then-is_full-2-clause-told : goal.returns-then-is_full-2-clause-told
returns-then-is_full-2-clause-told g c =
    let len : length c.loop-left.keys.items ≡ g.row.N = eqb-true _ _ (sym c.is_full-2.ensures.value ∙ c.if-is_full-2.true) in
    (λ _. all_read g.row.N c.args.text.now c.loop-left.last.now (map (λ k. k.now) c.loop-left.keys.items) (words_left c.loop-left.left) (none_left c.loop-left.left c.in_default.not-Some) c.loop-left.invariant.1 c.loop-left.invariant.2 (length-map c.loop-left.keys.items (λ k. k.now) ∙ len), λ _. refl)
