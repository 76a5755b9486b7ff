use Rattle.std.proofs.Common.{rules, ◌≡◌, ◌∙◌, ap, sym, codes, option_map, Ok}
use Rattle.toml.specs.View.{table_view}
use Rattle.zw_def.specs.Names.{texts_of}
use Rattle.zw_ast.specs.Program.{program_seen}
use Rattle.zw_hooks.specs.HookSeen.{moment_seen}
use Rattle.zw_def_config.specs.Callback.{moment_in, target_in, program_in}
use Rattle.zw_def_config.specs.Key.{at}
use Rattle.zw_def_config.specs.Value.{required, optional}
use Rattle.zw_config.proofs.HookLemmas.{callback_read, target_kept}
use Rattle.zw_config.proofs.callbacks.callback_of_table.Goals as goal

pub returns-clause-told : goal.returns-clause-told
returns-clause-told c =
    let old = c.target.new.names in
    let new = c.program.new.names in
    let table = table_view c.args.table.now in
    let moment = moment_seen c.in_ok-on.on in
    let on : required (codes "callback.on") moment_in (at (codes "on") table) ≡ Ok moment = search rules in
    let told : optional (target_in moment) (at (codes "target") table) ≡ Ok (option_map (texts_of old) c.in_ok-target.target) = search rules in
    let for = told ∙ ap Ok (sym (target_kept old new c.in_ok-program.ensures.grows c.in_ok-target.target c.in_ok-target.ensures.named)) in
    let run : required (codes "callback.run") (program_in moment) (at (codes "run") table) ≡ Ok (program_seen new c.in_ok-program.program) = search rules in
    callback_read table moment _ _ on for run
