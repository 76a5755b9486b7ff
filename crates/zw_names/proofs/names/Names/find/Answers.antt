use Rattle.std.proofs.Common.{◌∙◌, sym, ap, slice_get, is_some}
use Rattle.zw_names.proofs.NamesLemmas.{named_at, is_named}
use Rattle.zw_names.proofs.names.Names.find.Goals as goal

pub returns-in_err-number-clause-found : goal.returns-in_err-number-clause-found
returns-in_err-number-clause-found c =
    ap is_some c.from_residual.ensures ∙ sym (is_named c.self.inside.texts.keys c.args.self.now c.args.text.now _ c.self.view_is c.in_err-number.ensures.found)

pub returns-clause-named : goal.returns-clause-named
returns-clause-named c =
    ap (λ names. slice_get names c.in_ok-number.number) (sym c.self.view_is) ∙ named_at c.args.text.now c.self.inside.texts.keys c.in_ok-number.number (sym c.in_ok-number.ensures.index)

pub returns-clause-found : goal.returns-clause-found
returns-clause-found c =
    sym (is_named c.self.inside.texts.keys c.args.self.now c.args.text.now _ c.self.view_is c.in_ok-number.ensures.found)
