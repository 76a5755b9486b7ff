use Rattle.std.proofs.Common.{ap, refl, ◌∙◌, length}
use Rattle.std.proofs.lemmas.Option.{slice_get_read}
use Rattle.zw_consts.specs.Table.{tables_of}
use Rattle.zw_consts.proofs.TableLemmas.{with_value-set}
use Rattle.zw_consts.proofs.tables.Tables.set.Goals as goal

pub returns-clause-set : goal.returns-clause-set
returns-clause-set g c =
    with_value-set c.set.result c.make_room.new.tables.items c.args.self.now c.args.of.0 c.args.name.0 c.args.value c.index_mut.result.now c.set.new.self
    c.in_ok-make_room.ensures.there (c.in_ok-make_room.ensures.same ∙ ap tables_of c.self.view_is)
    (slice_get_read c.make_room.new.tables.items (length c.make_room.new.tables.items) c.args.of.0 c.index_mut.result.now refl c.in_ok-make_room.ensures.there c.index_mut.ensures.value) c.set.ensures.ok
