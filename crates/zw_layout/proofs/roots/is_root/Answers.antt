use Rattle.std.proofs.Common.{◌≤◌, Bool, sym, ◌∙◌, ap, length, arith}
use Rattle.std.specs.List.{list_any}
use Rattle.std.proofs.lemmas.List.{take_all}
use Rattle.zw_lemmas.proofs.AnyLemmas.{list_any-map}
use Rattle.zw_def.specs.Path.{same_path}
use Rattle.zw_inflect.specs.declared.layout.Root.{Root}
use Rattle.zw_inflect.specs.Layout.{root_seen}
use Rattle.zw_layout.proofs.NestingLemmas.{any_hit}
use Rattle.zw_layout.proofs.roots.is_root.Goals as goal

pub returns-then-eq : goal.returns-then-eq
returns-then-eq c names =
    let test : Root → Bool = λ r. same_path r.path c.args.path.now in
    sym (list_any-map (root_seen names) (λ r. same_path r.path c.args.path.now) c.args.layout.now.roots.items
    ∙ ap (list_any test) (sym c.deref-root-items.ensures.value)
    ∙ any_hit test c.deref-root-items.result.now c.loop-root.root-index c.root-item.result c.loop-root-test.true c.root-item.is (sym c.if-eq.ensures))

pub returns : goal.returns
returns c names =
    let test : Root → Bool = λ r. same_path r.path c.args.path.now in
    let all : length c.args.layout.now.roots.items ≤ c.loop-root.root-index = omega (arith, ap length c.deref-root-items.ensures.value, c.loop-root-test.false) in
    sym (list_any-map (root_seen names) (λ r. same_path r.path c.args.path.now) c.args.layout.now.roots.items
    ∙ ap (list_any test) (sym (take_all c.loop-root.root-index c.args.layout.now.roots.items all))
    ∙ c.loop-root.invariant)
