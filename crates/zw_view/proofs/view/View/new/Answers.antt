use Rattle.std.proofs.Common.{subst}
use Rattle.zw_def.proofs.NameLemmas.{OnlyGrows-trans}
use Rattle.zw_scan.specs.IsScan.{IsScan}
use Rattle.zw_view.proofs.ViewLemmas.{layout_grown, namespaces_grown}
use Rattle.zw_view.proofs.view.View.new.Goals as goal

pub returns-clause-told : goal.returns-clause-told
returns-clause-told c =
    let n0 = c.args.names in
    let n1 = c.mount.new.names in
    let n2 = c.core_constants.new.names in
    let grows = OnlyGrows-trans n0 n1 n2 c.mount.ensures.grows c.core_constants.ensures.grows in
    record {
      under = λ later more. layout_grown n0 later c.args.layout (OnlyGrows-trans n0 n2 later grows more) c.requires;
      scan = λ later more.
          subst (λ l. IsScan later l c.args.tree.now c.in_ok-scan.scan) (layout_grown n0 later c.args.layout (OnlyGrows-trans n0 n2 later grows more) c.requires)
          (c.in_ok-scan.ensures.scan later (OnlyGrows-trans n1 n2 later c.core_constants.ensures.grows more));
      boot = c.in_ok-boot.ensures.core;
    }

pub returns-clause-named : goal.returns-clause-named
returns-clause-named c =
    let n0 = c.args.names in
    let n2 = c.core_constants.new.names in
    record {
      namespaces = namespaces_grown n0 n2 c.args.layout (OnlyGrows-trans n0 c.mount.new.names n2 c.mount.ensures.grows c.core_constants.ensures.grows) c.requires;
      scan = (c.in_ok-scan.ensures.scan n2 c.core_constants.ensures.grows).named;
      boot = c.in_ok-boot.ensures.core.named;
    }
