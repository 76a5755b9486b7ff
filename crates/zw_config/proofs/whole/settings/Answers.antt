use Rattle.std.proofs.Common.{rules, ◌≡◌, ◌∙◌, ap, sym, codes, map, Ok}
use Rattle.toml.specs.View.{table_view}
use Rattle.zw_hooks.specs.HookSeen.{hook_seen}
use Rattle.zw_inflect.specs.Layout.{layout_seen}
use Rattle.zw_def_config.specs.Callback.{callbacks}
use Rattle.zw_def_config.specs.Configuration.{layout, flag, boot_file}
use Rattle.zw_config.proofs.RootLemmas.{layout_grown, named_grown}
use Rattle.zw_config.proofs.SettingLemmas.{settings_read}
use Rattle.zw_config.proofs.whole.settings.Goals as goal

pub returns-clause-told : goal.returns-clause-told
returns-clause-told c path =
    let old = c.layout.new.names in
    let new = c.callbacks.new.names in
    let table = table_view c.args.table.now in
    let l = c.in_ok-layout.layout in
    let told : layout table ≡ Ok (layout_seen old l) = search rules in
    let a = told ∙ ap Ok (sym (layout_grown old new c.in_ok-all.ensures.grows l c.in_ok-layout.ensures.named)) in
    let b : flag (codes "reloading") table ≡ Ok c.in_ok-reloading.reloading = search rules in
    let e : flag (codes "eager") table ≡ Ok c.in_ok-eager.eager = search rules in
    let d : boot_file table ≡ Ok c.in_ok-boot.boot = search rules in
    let f : callbacks table ≡ Ok (map (hook_seen new) c.in_ok-all.all.items) = search rules in
    settings_read path table _ _ _ _ _ a b e d f

pub returns-clause-named : goal.returns-clause-named
returns-clause-named c =
    (named_grown c.layout.new.names c.callbacks.new.names c.in_ok-all.ensures.grows c.in_ok-layout.layout.roots.items c.in_ok-layout.ensures.named, c.in_ok-all.ensures.named)
