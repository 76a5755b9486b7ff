use Rattle.std.proofs.Common.{rules, ◌≡◌, ◌∙◌, ◌++◌, ◌∷◌, [], ap, string_bytes, Ok}
use Rattle.std.specs.Map.{keys_of}
use Rattle.toml.proofs.Views.{Entry}
use Rattle.toml.specs.View.{view, members_view}
use Rattle.zw_def_config.specs.Inflection.{constant_name_in, overrides_after}
use Rattle.zw_config.proofs.KeyLemmas.{texts}
use Rattle.zw_config.proofs.OverrideLemmas.{bases, override_read, override_added, keys_added}
use Rattle.zw_config.proofs.inflection.overrides_in.Goals as goal

pub entry-preserved : goal.entry-preserved
entry-preserved c =
    let os = c.entry.overrides in
    let e : Entry = (c.in-Some.base.now, c.in-Some.value.now) in
    let rest = c.next.new.self in
    let name = c.in_ok-name.name.now in
    let at = c.in-Some.ensures.steps in
    let inv = c.entry.invariant in
    let sorted = c.iter-base-items.ensures.ordered in
    let read : constant_name_in (view c.in-Some.value.now) ≡ Ok name = search rules in
    let one = override_added os c.entry.base-iterator rest e at (keys_of c.args.table.now.entries) inv.1 sorted name in
    let added : c.insert.new.self ≡ os ++ (string_bytes c.in-Some.base.now, name) ∷ [] = search (rules, one) in (
      ap (λ o. overrides_after o (members_view rest)) added
          ∙ override_read os c.entry.base-iterator rest e at _ inv.0 name read,
      ap (λ o. bases o ++ texts (keys_of rest)) added
          ∙ keys_added os c.entry.base-iterator rest e at (keys_of c.args.table.now.entries) inv.1 sorted name,
    )
