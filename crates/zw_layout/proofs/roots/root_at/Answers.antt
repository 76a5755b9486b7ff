use Rattle.std.proofs.Common.{◌≡◌, ◌≤◌, true, sym, ◌∙◌, ap, subst, length, map, string_bytes, option_map, IfSome, arith}
use Rattle.std.specs.List.{Contains}
use Rattle.std.proofs.lemmas.List.{take_all}
use Rattle.zw_def.specs.Path.{is_below}
use Rattle.zw_inflect.specs.Layout.{root_seen}
use Rattle.zw_layout.specs.Deepest.{deepest, held}
use Rattle.zw_layout.proofs.DeepestLemmas.{deepest_seen, deepest_among, deepest_below}
use Rattle.zw_layout.proofs.roots.root_at.Goals as goal

is-deepest : (c : goal.After-loop-root) → held c.loop-root.best ≡ deepest (map string_bytes c.args.components.now) c.args.layout.now.roots.items
is-deepest c =
    let all : length c.args.layout.now.roots.items ≤ c.loop-root.root-index = omega (arith, ap length c.deref-root-items.ensures.value, c.loop-root-test.false) in
    c.loop-root.invariant ∙ ap (deepest (map string_bytes c.args.components.now)) (take_all c.loop-root.root-index c.args.layout.now.roots.items all)

pub returns-clause-root : goal.returns-clause-root
returns-clause-root c names =
    ap (option_map (root_seen names)) (is-deepest c) ∙ deepest_seen names (map string_bytes c.args.components.now) c.args.layout.now.roots.items

pub returns-clause-among : goal.returns-clause-among
returns-clause-among c =
    subst (λ o. IfSome o (Contains c.args.layout.now.roots.items)) (sym (is-deepest c)) (deepest_among (map string_bytes c.args.components.now) c.args.layout.now.roots.items)

pub returns-clause-below : goal.returns-clause-below
returns-clause-below c =
    subst (λ o. IfSome o (λ r. is_below (map string_bytes c.args.components.now) r.path ≡ true)) (sym (is-deepest c)) (deepest_below (map string_bytes c.args.components.now) c.args.layout.now.roots.items)
