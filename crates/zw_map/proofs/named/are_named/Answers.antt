use Rattle.std.proofs.Common.{◌≡◌, ℕ, ◌<◌, List, length, map, get_or, refl, ap, sym, subst, ◌∙◌, arith}
use Rattle.std.proofs.lemmas.Bool.{false≢true}
use Rattle.std.proofs.lemmas.List.{length-map, get_or-map, take_all}
use Rattle.std.proofs.lemmas.List.Elements.{All-more}
use Rattle.zw_def.specs.Names.{AreNamed}
use Rattle.zw_names.specs.declared.names.Name.{Name}
use Rattle.zw_map.proofs.named.are_named.Goals as goal

number-at : (items : List Name) (path : List ℕ) (i : ℕ) (d : Name) (e : ℕ) → map (λ n. n.0) items ≡ path → i < length items → get_or path i e ≡ (get_or items i d).0
number-at items path i d e told lt = ap (λ p. get_or p i e) (sym told) ∙ get_or-map (λ (n : Name). n.0) items i d e lt

pub returns-then-name-len : goal.returns-then-name-len
returns-then-name-len c =
    let items = c.names-name-items.result.now in
    let n = c.loop-name.name-index in
    let at = number-at items c.args.path.now n (record { 0 = 0 }) 0 c.names-name-items.ensures c.loop-name-test.true in
    let lt : n < length c.args.path.now = omega (arith, ap length c.names-name-items.ensures, length-map items (λ (m : Name). m.0), c.loop-name-test.true) in
    ((λ no. absurd (false≢true no)), (λ named. absurd (omega (arith, named n 0 lt, at, c.if-name-len.true, c.len.ensures))))

pub loop-name-preserved : goal.loop-name-preserved
loop-name-preserved c =
    let items = c.names-name-items.result.now in
    let n = c.loop-name.name-index in
    let at = number-at items c.args.path.now n (record { 0 = 0 }) 0 c.names-name-items.ensures c.loop-name-test.true in
    let lt : n < length c.args.path.now = omega (arith, ap length c.names-name-items.ensures, length-map items (λ (m : Name). m.0), c.loop-name-test.true) in
    All-more (λ m. m < length c.args.names.now) c.args.path.now n 0 lt c.loop-name.invariant (omega (arith, at, c.if-name-len.false, c.len.ensures))

pub returns : goal.returns
returns c =
    let all = take_all c.loop-name.name-index c.args.path.now (omega (arith, ap length c.names-name-items.ensures, length-map c.names-name-items.result.now (λ (n : Name). n.0), c.loop-name-test.false)) in
    ((λ yes. subst (AreNamed c.args.names.now) all c.loop-name.invariant), (λ named. refl))
