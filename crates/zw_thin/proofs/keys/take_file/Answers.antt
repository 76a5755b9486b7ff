use Rattle.std.proofs.Common.{◌∙◌, ap, sym, option_map, IfSome, subst}
use Rattle.indexmap.specs.IndexMap.{set_value_at}
use Rattle.zw_thin.specs.Key.{idle_seen, keys_seen, KeysNamed}
use Rattle.zw_thin.specs.ClassFile.{ClassNamed}
use Rattle.zw_thin.proofs.TakenLemmas.{idle_none, left_none, idle_at, left_at, value_named, left_kept}
use Rattle.zw_thin.proofs.keys.take_file.Goals as goal

pub returns-in_err-place-clause-taken : goal.returns-in_err-place-clause-taken
returns-in_err-place-clause-taken c = ap (option_map (idle_seen c.args.names.now)) c.from_residual.ensures ∙ sym (idle_none c.args.name.now _ (sym c.in_err-place.ensures))

pub returns-in_err-place-clause-left : goal.returns-in_err-place-clause-left
returns-in_err-place-clause-left c = left_none c.args.name.now _ (sym c.in_err-place.ensures)

pub returns-clause-taken : goal.returns-clause-taken
returns-clause-taken c =
    ap (option_map (idle_seen c.args.names.now)) c.take.ensures.value ∙ idle_at c.args.names.now c.args.name.now c.args.keys.now.entries c.in_ok-place.place _ c.index_mut.ensures.value (sym c.in_ok-place.ensures)

pub returns-clause-left : goal.returns-clause-left
returns-clause-left c =
    ap (λ file. keys_seen c.args.names.now (set_value_at c.args.keys.now.entries c.in_ok-place.place file)) c.take.ensures.after
    ∙ left_at c.args.names.now c.args.name.now c.args.keys.now.entries c.in_ok-place.place _ c.index_mut.ensures.value (sym c.in_ok-place.ensures)

pub returns-clause-taken_named : goal.returns-clause-taken_named
returns-clause-taken_named c =
    subst (λ file. IfSome file (λ f. ClassNamed c.args.names.now f.class)) (sym c.take.ensures.value) (value_named c.args.names.now c.args.keys.now.entries c.in_ok-place.place _ c.index_mut.ensures.value c.requires)

pub returns-clause-left_named : goal.returns-clause-left_named
returns-clause-left_named c =
    subst (λ file. KeysNamed c.args.names.now (set_value_at c.args.keys.now.entries c.in_ok-place.place file)) (sym c.take.ensures.after) (left_kept c.args.names.now c.args.keys.now.entries c.in_ok-place.place c.requires)
