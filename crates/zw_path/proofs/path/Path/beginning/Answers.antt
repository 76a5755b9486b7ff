use Rattle.std.proofs.Common.{◌≡◌, ◌≤◌, ap, sym, ◌∙◌, subst, map, take, length, string_bytes, arith, length-take-le}
use Rattle.std.proofs.lemmas.List.{take-map, take_all, length-map}
use Rattle.zw_lemmas.proofs.ListLemmas.{front_more}
use Rattle.zw_path.specs.Shape.{IsPath}
use Rattle.zw_path.proofs.ShapeLemmas.{IsPath-front}
use Rattle.zw_path.proofs.path.Path.beginning.Goals as goal

pub loop-component-preserved : goal.loop-component-preserved
loop-component-preserved c =
    let n = c.args.depth in
    let whole = rw (← c.deref.ensures.value) at c.self.view_is in
    let front = sym (take-map (λ s. string_bytes s) n c.deref.result.now) ∙ ap (take n) whole in
    rw c.in_ok-push.ensures.items (front_more (λ s. string_bytes s) (take n c.deref.result.now) (take n c.args.self.now) front c.loop-component.components.items c.loop-component.component-index c.component-item.result _ c.loop-component-test.true c.component-item.is (c.in_ok-from_str.ensures.ok ∙ c.deref-in-loop-component.ensures) c.loop-component.invariant)

pub invariant_of-result : goal.invariant_of-result
invariant_of-result c =
    let n = c.args.depth in
    let long = length-take-le n c.args.self.now c.requires.within in
    let same : map (λ s. string_bytes s) c.deref.result.now ≡ c.args.self.now = rw (← c.deref.ensures.value) at c.self.view_is in
    let size : length c.deref.result.now ≡ length c.args.self.now = sym (length-map c.deref.result.now (λ s. string_bytes s)) ∙ ap length same in
    let cut = length-take-le n c.deref.result.now (omega (arith, size, c.requires.within)) in
    let all : length (take n c.args.self.now) ≤ c.loop-component.component-index = omega (arith, long, cut, c.loop-component-test.false) in
    let is = c.loop-component.invariant ∙ take_all c.loop-component.component-index (take n c.args.self.now) all in
    subst IsPath (sym is) (IsPath-front n c.args.self.now c.requires.some c.requires.within (subst IsPath c.self.view_is c.self.invariant))
