use Rattle.std.proofs.Common.{sym, ◌∙◌}
use Rattle.zw_lemmas.proofs.OptionLemmas.{none_is}
use Rattle.zw_cmd.proofs.request.constant_path_in.Goals as goal

pub returns-then-not-is_cpath : goal.returns-then-not-is_cpath
returns-then-not-is_cpath c = none_is _ (sym c.is_cpath.ensures ∙ c.if-not-is_cpath.true)
