use Rattle.std.proofs.Common.{codes, ◌∙◌}
use Rattle.std.proofs.lemmas.Str.Pattern.{ends_text}
use Rattle.zw_def.proofs.RubyPathLemmas.{ends_same}
use Rattle.zw_config.proofs.inflection.ends_in_rb.Goals as goal

pub returns : goal.returns
returns c = ends_text c.ends_with.result (codes ".rb") c.args.text.now c.ends_with.ensures.cases ∙ ends_same c.args.text.now
