use Rattle.std.proofs.Common.{◌∙◌, sym}
use Rattle.zw_thin.proofs.LookUpLemmas.{may_define_by}
use Rattle.zw_thin.proofs.keys.may_define.Goals as goal

pub returns-else-eq : goal.returns-else-eq
returns-else-eq c = λ front is.
    may_define_by front c.args.names.now c.args.expected c.args.name.0 c.args.class.now c.are_distinct.ensures is c.requires.name c.requires.class.0 (sym c.eq.ensures ∙ c.if-eq.false)
