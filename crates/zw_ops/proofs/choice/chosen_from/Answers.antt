use Rattle.std.proofs.Common.{ap, sym, ◌∙◌, refl, arith}
use Rattle.std.specs.Option.{option_map}
use Rattle.std.proofs.lemmas.Option.{slice_get-get_or}
use Rattle.zw_def_world.specs.CoreClass.{Class}
use Rattle.zw_methods.specs.Methods.{found_seen, tables_in}
use Rattle.zw_ops.proofs.ChoiceLemmas.{is_found_in}
use Rattle.zw_ops.proofs.FoundLemmas.{none-found, some-found, module_there}
use Rattle.zw_ops.proofs.choice.chosen_from.Goals as goal

pub returns-in_default-clause-finds : goal.returns-in_default-clause-finds
returns-in_default-clause-finds c = λ I codes names w tells within.
    none-found I codes w (tables_in c.args.methods.now) tells.methods_told _ (module_there I c.args.heap.now w tells.heap) (c.tells_core.ensures.modules I names Class.count tells.fits (omega arith)) c.args.passes c.args.name.0 c.args.line.now c.args.start c.requires within
    (sym c.find_asked.ensures.first ∙ ap (option_map found_seen) c.in_default.is)

pub returns-clause-finds : goal.returns-clause-finds
returns-clause-finds c = λ I codes names w tells within.
    some-found I codes w (tables_in c.args.methods.now) tells.methods_told _ (module_there I c.args.heap.now w tells.heap) (c.tells_core.ensures.modules I names Class.count tells.fits (omega arith)) c.args.passes c.args.name.0 c.args.line.now c.args.start c.requires within
    c.in-Some.found.at _ _ (sym c.find_asked.ensures.first ∙ ap (option_map found_seen) c.in-Some.is) refl refl c.count_tables.ensures.count

pub returns-clause-found : goal.returns-clause-found
returns-clause-found c =
    is_found_in c.args.methods.now c.args.line.now c.args.passes c.args.name _ c.in-Some.found.at refl (slice_get-get_or c.args.line.now c.in-Some.found.at _ c.in-Some.ensures.within)
    c.in-Some.ensures.there c.in-Some.ensures.asked
