use Rattle.std.proofs.Common.{◌∙◌, sym}
use Rattle.zw_thin.proofs.LookUpLemmas.{key_place, key_nowhere}
use Rattle.zw_thin.proofs.keys.place_of.Goals as goal

pub returns-in_err-name : goal.returns-in_err-name
returns-in_err-name c =
    c.from_residual.ensures ∙ sym (key_nowhere c.args.names.now c.args.name.now (sym c.in_err-name.ensures.found) c.args.keys.now.entries c.requires)

pub returns : goal.returns
returns c =
    c.get_index_of.ensures.index ∙ key_place c.args.names.now c.in_ok-name.name.0 c.args.name.now c.in_ok-name.ensures.distinct c.in_ok-name.ensures.named c.args.keys.now.entries c.requires
