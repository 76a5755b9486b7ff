use Rattle.std.proofs.Common.{◌≡◌, Ok, subst, sym, rules}
use Rattle.toml.specs.View.{table_view}
use Rattle.zw_config.specs.Config.{config_seen}
use Rattle.zw_def_config.specs.Configuration.{configuration_in}
use Rattle.zw_def_thin.specs.Refusal.{◌>>=◌}
use Rattle.zw_def_thin.specs.Root.{accepted, built_plan}
use Rattle.zw_top.specs.Refusal.{Gives}
use Rattle.zw_top.specs.Start.{plan_seen}
use Rattle.zw_top.proofs.configuration.plan_in.Goals as goal

pub returns-in-Ok-clause-gives : goal.returns-in-Ok-clause-gives
returns-in-Ok-clause-gives c path =
    let table = table_view c.args.table.now in
    let told : configuration_in path table ≡ Ok (config_seen path c.read_table.new.names c.in-Ok.config) = search (rules, c.read_table.ensures.told path) in
    subst (λ r. Gives plan_seen c.built_plan.result (accepted r >>= built_plan table)) (sym told) (c.built_plan.ensures.gives path)
