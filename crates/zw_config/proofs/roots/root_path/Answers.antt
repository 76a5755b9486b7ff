use Rattle.std.proofs.Common.{◌≡◌, ◌∙◌, sym, ap, true, false, rules, tests, Ok, Err, codes}
use Rattle.toml.specs.View.{table_view, view}
use Rattle.zw_def_config.specs.Fault.{double_root}
use Rattle.zw_def_config.specs.Value.{path_in}
use Rattle.zw_config.proofs.RootLemmas.{path_new, path_double}
use Rattle.zw_config.proofs.roots.root_path.Goals as goal

pub returns-then-is_root : goal.returns-then-is_root
returns-then-is_root c before has =
    let read : path_in (codes "root.path") (view c.in-Some.value.now) ≡ Ok c.in_ok-path.path = search rules in
    let any : c.is_root.result ≡ true = search (rules, tests) in
    path_double before (table_view c.args.table.now) (view c.in-Some.value.now) c.in_ok-path.path c.in-Some.ensures read (sym (c.is_root.ensures before has) ∙ any)
    ∙ ap (λ t. Err (double_root t)) (sym c.in_ok-text.ensures)

pub returns : goal.returns
returns c before has =
    let read : path_in (codes "root.path") (view c.in-Some.value.now) ≡ Ok c.in_ok-path.path = search rules in
    let any : c.is_root.result ≡ false = search (rules, tests) in
    path_new before (table_view c.args.table.now) (view c.in-Some.value.now) c.in_ok-path.path c.in-Some.ensures read (sym (c.is_root.ensures before has) ∙ any)
