use Rattle.std.proofs.Common.{refl, List, ℕ, Bool, sym, subst, ◌∙◌}
use Rattle.std.proofs.lemmas.Bool.{false≢true}
use Rattle.std.proofs.lemmas.List.{take_all}
use Rattle.std.proofs.lemmas.List.Elements.{All-more}
use Rattle.zw_def.specs.Names.{AreNamed}
use Rattle.zw_map.specs.BootSeen.{AreBootNamed}
use Rattle.zw_map.proofs.named.are_boot_named.Goals as goal

pub returns-then-not-are_named : goal.returns-then-not-are_named
returns-then-not-are_named c = (
  (λ no. absurd (false≢true no)),
  (λ named.
      let row = named c.loop-row.row-index c.row-item.result c.loop-row-test.true in
      let is = c.are_named.ensures.1 (subst (λ (r : List ℕ × Bool). AreNamed c.args.names.now r.0) (sym c.row-item.is) row) in
      absurd (false≢true (sym c.if-not-are_named.true ∙ is))),
)

pub loop-row-preserved : goal.loop-row-preserved
loop-row-preserved c =
    let boot = c.args.boot.now in
    let n = c.loop-row.row-index in
    let named = c.are_named.ensures.0 c.if-not-are_named.false in
    All-more (λ (r : List ℕ × Bool). AreNamed c.args.names.now r.0) boot n c.row-item.result c.loop-row-test.true c.loop-row.invariant (subst (λ (r : List ℕ × Bool). AreNamed c.args.names.now r.0) c.row-item.is named)

pub returns : goal.returns
returns c =
    let all = take_all c.loop-row.row-index c.args.boot.now c.loop-row-test.false in
    ((λ yes. subst (AreBootNamed c.args.names.now) all c.loop-row.invariant), (λ named. refl))
