use Rattle.std.proofs.Common.{ap, sym, subst, IfOk, ◌∙◌}
use Rattle.std.proofs.lemmas.Result.{IfOk-weaker}
use Rattle.zw_def.specs.Names.{AreNamed}
use Rattle.zw_def.specs.Map.{expecting_files}
use Rattle.zw_def.specs.Shadow.{shadowed_as}
use Rattle.zw_scan.specs.ClaimSeen.{expected_seen}
use Rattle.zw_map.specs.BootSeen.{boot_seen}
use Rattle.zw_map.proofs.shadow.shadow_of.Goals as goal

pub returns-in-Ok : goal.returns-in-Ok
returns-in-Ok c = record {
  told = IfOk-weaker c.shadow_at.result _ _ (λ row is names layout tree scan distinct boot_named named.
      is names layout tree scan distinct boot_named (subst (λ e. IfOk e (AreNamed names)) c.in-Ok.is named)
      ∙ sym (ap (λ e. shadowed_as (boot_seen names c.args.boot.now) (expecting_files layout tree) c.args.claim.now.path (expected_seen names e)) c.in-Ok.is))
      c.shadow_at.ensures.told;
  named = IfOk-weaker c.shadow_at.result _ _ (λ row is names named. is names (subst (λ e. IfOk e (AreNamed names)) c.in-Ok.is named)) c.shadow_at.ensures.named;
}
