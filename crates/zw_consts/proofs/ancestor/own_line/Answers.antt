use Rattle.std.proofs.Common.{◌<◌, ◌∷◌, [], ◌++◌, ap, sym, ◌∙◌, subst}
use Rattle.zw_consts.proofs.ListLemmas.{among_first}
use Rattle.zw_consts.proofs.OwnLineLemmas.{Goes, stack_of, total, weight, stack_of-begun, stack_of-entered, stack_of-popped, goes_begun, goes_passed, goes_entered, less_passed, less_entered}
use Rattle.zw_consts.specs.Ancestor.{includes_at}
use Rattle.zw_consts.proofs.ancestor.own_line.Goals as goal

pub loop-next-init : goal.loop-next-init
loop-next-init c =
    let ms = c.args.heap.now.modules in
    let n = c.args.of.0 in
    let stack = stack_of-begun ms n c.new-waiting.result.items c.put.new.waiting.items c.includes.result.now c.new-waiting.ensures.items c.in_ok-put.ensures c.includes.ensures in
    let own = c.in_ok-push.ensures.pushed ∙ ap (λ l. l ++ n ∷ []) c.new-own.ensures in
    let begun = goes_begun c.args.heap.now c.is_sound.ensures.sound c.is_sound.ensures.few c.args.above.now n c.requires.above in
    subst (λ own. Goes ms c.args.above.now n own (stack_of c.put.new.waiting.items)) (sym own) (subst (Goes ms c.args.above.now n (n ∷ [])) (sym stack) begun)

pub loop-next-smaller-then-is_listed : goal.loop-next-smaller-then-is_listed
loop-next-smaller-then-is_listed c =
    let ms = c.args.heap.now.modules in
    let s = c.in-Some.next.0 in
    let left = stack_of c.pop.new.self.items in
    let popped = stack_of-popped c.loop-next.waiting.items c.pop.new.self.items c.in-Some.next c.in-Some.ensures.items in
    let goes = subst (Goes ms c.args.above.now c.args.of.0 c.loop-next.own) popped c.loop-next.invariant in
    subst (λ l. total (weight ms) left < total (weight ms) l) (sym popped) (less_passed c.args.heap.now c.is_sound.ensures.sound c.is_sound.ensures.few left s (goes.within s (among_first s left)))

pub loop-next-preserved-then-is_listed : goal.loop-next-preserved-then-is_listed
loop-next-preserved-then-is_listed c =
    let ms = c.args.heap.now.modules in
    let left = stack_of c.pop.new.self.items in
    let popped = stack_of-popped c.loop-next.waiting.items c.pop.new.self.items c.in-Some.next c.in-Some.ensures.items in
    let goes = subst (Goes ms c.args.above.now c.args.of.0 c.loop-next.own) popped c.loop-next.invariant in
    goes_passed c.args.heap.now c.is_sound.ensures.sound c.is_sound.ensures.few c.args.above.now c.args.of.0 c.loop-next.own left c.in-Some.next.0 goes (sym c.if-is_listed.ensures)

pub includes-requires-in-Some : goal.includes-requires-in-Some
includes-requires-in-Some c =
    let left = stack_of c.pop.new.self.items in
    let popped = stack_of-popped c.loop-next.waiting.items c.pop.new.self.items c.in-Some.next c.in-Some.ensures.items in
    let goes = subst (Goes c.args.heap.now.modules c.args.above.now c.args.of.0 c.loop-next.own) popped c.loop-next.invariant in
    goes.within c.in-Some.next.0 (among_first c.in-Some.next.0 left)

pub loop-next-smaller : goal.loop-next-smaller
loop-next-smaller c =
    let ms = c.args.heap.now.modules in
    let s = c.in-Some.next.0 in
    let left = stack_of c.pop.new.self.items in
    let popped = stack_of-popped c.loop-next.waiting.items c.pop.new.self.items c.in-Some.next c.in-Some.ensures.items in
    let goes = subst (Goes ms c.args.above.now c.args.of.0 c.loop-next.own) popped c.loop-next.invariant in
    let stack = stack_of-entered ms s c.pop.new.self.items c.put-in-Some.new.waiting.items c.includes-in-Some.result.now c.in_ok-put-2.ensures c.includes-in-Some.ensures in
    subst (λ l. total (weight ms) l < total (weight ms) (stack_of c.loop-next.waiting.items)) (sym stack)
    (subst (λ l. total (weight ms) (includes_at ms s ++ left) < total (weight ms) l) (sym popped)
    (less_entered c.args.heap.now c.is_sound.ensures.sound c.is_sound.ensures.few left s (goes.within s (among_first s left))))

pub loop-next-preserved : goal.loop-next-preserved
loop-next-preserved c =
    let ms = c.args.heap.now.modules in
    let s = c.in-Some.next.0 in
    let left = stack_of c.pop.new.self.items in
    let popped = stack_of-popped c.loop-next.waiting.items c.pop.new.self.items c.in-Some.next c.in-Some.ensures.items in
    let goes = subst (Goes ms c.args.above.now c.args.of.0 c.loop-next.own) popped c.loop-next.invariant in
    let stack = stack_of-entered ms s c.pop.new.self.items c.put-in-Some.new.waiting.items c.includes-in-Some.result.now c.in_ok-put-2.ensures c.includes-in-Some.ensures in
    let entered = goes_entered c.args.heap.now c.is_sound.ensures.sound c.is_sound.ensures.few c.args.above.now c.args.of.0 c.loop-next.own left s goes (sym c.if-is_listed.ensures) in
    subst (λ own. Goes ms c.args.above.now c.args.of.0 own (stack_of c.put-in-Some.new.waiting.items)) (sym c.in_ok-push-2.ensures.pushed)
    (subst (Goes ms c.args.above.now c.args.of.0 (c.loop-next.own ++ s ∷ [])) (sym stack) entered)
