use Rattle.std.proofs.Common.{length, ap, subst, ◌<◌, sym, ◌∙◌}
use Rattle.std.proofs.lemmas.Option.{slice_get_within}
use Rattle.zw_def_world.specs.Act.{gives}
use Rattle.zw_def_world.specs.Value as told
use Rattle.zw_heap.specs.Heap.{Held}
use Rattle.zw_strings.proofs.NamingLemmas.{names_added}
use Rattle.zw_strings.proofs.naming.symbol.Goals as goal

pub returns-clause-adds : goal.returns-clause-adds
returns-clause-adds c = names_added (length c.intern.new.self) c.args.heap.now c.tell_names.new.self c.tell_names.ensures.told c.only_adds.ensures c.tell_names.ensures.stays

pub returns-clause-performs : goal.returns-clause-performs
returns-clause-performs c = λ left.
    let names = c.intern.new.self in
    let t = c.args.text.now in
    let name = c.in_ok-name.name.0 in
    record {
      told = λ s I p fit agrees e.
          ap (λ n. gives (told.symbol t) (record p { left = n })) e
          ∙ ap (λ u. gives (told.symbol u) (record p { left = left })) (sym (fit.names_told name t c.in_ok-name.ensures.named));
      held = subst (λ (g : Held). name < g.names) (sym c.tell_names.ensures.told) (slice_get_within names name t c.in_ok-name.ensures.named);
      done = tt;
    }
