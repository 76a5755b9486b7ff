use Rattle.std.proofs.Common.{◌≡◌, ◌+◌, ◌&&◌, ◌||◌, cond, false, length, map, take, get_or, string_bytes, ap, ◌∙◌, arith}
use Rattle.std.proofs.lemmas.List.{length-map}
use Rattle.zw_def.specs.Pattern.{is_double_star, matches_part}
use Rattle.zw_layout.specs.Progress.{fronts_of}
use Rattle.zw_layout.proofs.NestingLemmas.{take-next}
use Rattle.zw_layout.proofs.ProgressLemmas.{length-fronts, front-at, next_step}
use Rattle.zw_layout.proofs.progress.next_fronts.Goals as goal

pub bounds-fronts-place : goal.bounds-fronts-place
bounds-fronts-place c =
    let pattern = map string_bytes c.args.pattern.now in
    let path = take c.args.depth (map string_bytes c.args.components.now) in
    let here : c.args.fronts.now ≡ fronts_of pattern path = c.requires.here in
    omega (arith, ap length here, length-fronts pattern path, length-map c.args.pattern.now (λ s. string_bytes s), c.loop-place-test.true)

pub bounds-fronts-place-in-loop-place : goal.bounds-fronts-place-in-loop-place
bounds-fronts-place-in-loop-place c =
    let pattern = map string_bytes c.args.pattern.now in
    let path = take c.args.depth (map string_bytes c.args.components.now) in
    let here : c.args.fronts.now ≡ fronts_of pattern path = c.requires.here in
    omega (arith, ap length here, length-fronts pattern path, length-map c.args.pattern.now (λ s. string_bytes s), c.loop-place-test.true)

pub loop-place-preserved : goal.loop-place-preserved
loop-place-preserved c =
    let n = c.loop-place.place in
    let pattern = map string_bytes c.args.pattern.now in
    let path = take c.args.depth (map string_bytes c.args.components.now) in
    let symbol = string_bytes c.index-pattern-place.result in
    let component = string_bytes c.index-components-depth.result in
    let here : c.args.fronts.now ≡ fronts_of pattern path = c.requires.here in
    let size = length-map c.args.pattern.now (λ s. string_bytes s) in
    let more = take-next (λ s. string_bytes s) c.args.pattern.now n c.index-pattern-place.result c.loop-place-test.true c.index-pattern-place.is in
    let on = take-next (λ s. string_bytes s) c.args.components.now c.args.depth c.index-components-depth.result c.requires.within c.index-components-depth.is in
    let shorter = ap (λ f. get_or f n false) here ∙ front-at pattern path n false (omega (arith, size, c.loop-place-test.true)) in
    let same = ap (λ f. get_or f (n + 1) false) here ∙ front-at pattern path (n + 1) false (omega (arith, size, c.loop-place-test.true)) in
    let stands = c.stands_for_next-stands.ensures ∙ (λ i. cond (is_double_star (c.deref.ensures i)) (c.loop-place.stands || get_or c.args.fronts.now (n + 1) false) (get_or c.args.fronts.now n false && matches_part (c.deref.ensures i) (c.as_str-component.ensures.value i))) in
    next_step (take n pattern) symbol path component c.loop-place.next.items c.loop-place.stands _ _ _ _ _ _ more on c.in_ok-push-2.ensures.items c.loop-place.invariant.0 c.loop-place.invariant.1 shorter same stands
