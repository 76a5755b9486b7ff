use Rattle.std.proofs.Common.{sym, ◌∙◌, lit<, length, string_bytes, map, Bor, List, ℕ}
use Rattle.std.proofs.lemmas.List.{map-append}
use Rattle.std.proofs.lemmas.Iterator.Splits.{YieldsList-from_str_split}
use Rattle.std.proofs.lemmas.Iterator.Consumers.{YieldsList-turn, YieldsList-end, YieldsList-at, YieldsList-so_far}
use Rattle.zw_def.specs.Path.{components}
use Rattle.zw_def.proofs.PieceLemmas.{pieces_nonempty}
use Rattle.zw_lemmas.proofs.ListLemmas.{map-pushed}
use Rattle.zw_path.proofs.BadPathLemmas.{first_bad_at, first_bad_more, whole_from_bad, bad_path_relative, path_of_whole, no_path}
use Rattle.zw_path.proofs.path.Path.parse.Goals as goal

pub returns-in-Some-bad_component-clause-refused : goal.returns-in-Some-bad_component-clause-refused
returns-in-Some-bad_component-clause-refused c =
    let s = c.split-piece-items.ensures in
    let road = YieldsList-at c.into_iter-piece-iterator.ensures.into_iter_gives (YieldsList-from_str_split 47 c.args.text.now (lit< tt) s.text s.has_more s.pattern) in
    let front = YieldsList-so_far road c.loop-piece.yielded _ c.loop-piece.yielded_by in
    let turn = YieldsList-turn road c.loop-piece.yielded _ c.loop-piece.yielded_by _ _ c.in-Some.piece c.in-Some.is c.next.ensures.steps in
    bad_path_relative c.args.text.now (c.if-starts_with.ensures.byte (lit< tt) (lit< tt) (λ w o h. h))
    ∙ first_bad_at (components c.args.text.now) (length c.loop-piece.yielded) c.in-Some.piece.now c.in-Some-bad_component.bad turn.0 turn.1 (rw front at c.loop-piece.invariant.3) (sym c.bad_component.ensures ∙ c.in-Some-bad_component.is)

pub returns-in-Some-bad_component-clause-none : goal.returns-in-Some-bad_component-clause-none
returns-in-Some-bad_component-clause-none c =
    no_path c.args.text.now c.in-Some-bad_component.bad (returns-in-Some-bad_component-clause-refused c)

pub loop-piece-preserved : goal.loop-piece-preserved
loop-piece-preserved c = (
  tt,
  tt,
  rw c.in_ok-push-in-None-bad_component.ensures.items (map-pushed (λ s. string_bytes s) (λ piece. piece.now) c.loop-piece.components.items c.loop-piece.yielded _ _ c.loop-piece.invariant.2 c.in_ok-from_str-in-None-bad_component.ensures.ok),
  rw map-append (first_bad_more (map (λ (piece : Bor (List ℕ)). piece.now) c.loop-piece.yielded) c.in-Some.piece.now c.loop-piece.invariant.3 (sym c.bad_component.ensures ∙ c.in-None-bad_component.is)),
)

pub invariant_of-result : goal.invariant_of-result
invariant_of-result c =
    let s = c.split-piece-items.ensures in
    let road = YieldsList-at c.into_iter-piece-iterator.ensures.into_iter_gives (YieldsList-from_str_split 47 c.args.text.now (lit< tt) s.text s.has_more s.pattern) in
    let end = YieldsList-end road c.loop-piece.yielded _ c.loop-piece.yielded_by _ _ c.in-None.is c.next.ensures.steps in
    rw (c.loop-piece.invariant.2, end.0) (record { nonempty = pieces_nonempty 47 c.args.text.now; whole = whole_from_bad (components c.args.text.now) (rw end.0 at c.loop-piece.invariant.3) })

pub returns-clause-path : goal.returns-clause-path
returns-clause-path c =
    let s = c.split-piece-items.ensures in
    let road = YieldsList-at c.into_iter-piece-iterator.ensures.into_iter_gives (YieldsList-from_str_split 47 c.args.text.now (lit< tt) s.text s.has_more s.pattern) in
    let end = YieldsList-end road c.loop-piece.yielded _ c.loop-piece.yielded_by _ _ c.in-None.is c.next.ensures.steps in
    path_of_whole c.args.text.now _ (c.loop-piece.invariant.2 ∙ end.0) (rw end.0 at c.loop-piece.invariant.3)
