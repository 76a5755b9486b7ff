use Rattle.std.proofs.Common.{map, ap, ◌∙◌}
use Rattle.std.proofs.lemmas.Result.{IfOk-weaker}
use Rattle.zw_def.specs.Shadow.{shadowed}
use Rattle.zw_def.proofs.NameLemmas.{OnlyGrows-same}
use Rattle.zw_def_session.specs.Answers as defined
use Rattle.zw_def_world.specs.BootTable.{boot_of}
use Rattle.zw_def_world.specs.CoreWorld.{core_world}
use Rattle.zw_map.specs.BootSeen.{boot_seen}
use Rattle.zw_map.specs.ShadowSeen.{shadow_seen}
use Rattle.zw_view.proofs.BootLemmas.{core_seen, shadowed_same}
use Rattle.zw_view.proofs.ViewLemmas.{map_after}
use Rattle.zw_view.proofs.view.View.shadows.Goals as goal

pub returns : goal.returns
returns c = IfOk-weaker c.shadow_lines.result _ _ (λ lines is layout tree setting view.
    let names = c.args.self.now.names in
    is ∙ map_after (shadow_seen names) defined.shadow_line _ ∙ ap (map defined.shadow_line) (ap (map (shadow_seen names)) c.deref-2.ensures.value ∙ c.in_ok-rows.ensures.told layout tree (view.scan names (OnlyGrows-same names)) ∙ ap (λ b. shadowed layout tree (boot_seen names b)) c.deref.ensures.value ∙ shadowed_same (boot_seen names c.args.self.now.boot.items) (boot_of (core_world setting)) (λ p. core_seen names c.args.self.now.boot.items setting p view.boot) layout tree))
    c.shadow_lines.ensures
