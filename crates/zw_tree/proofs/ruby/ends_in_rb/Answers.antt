use Rattle.std.proofs.Common.{codes, ◌∙◌}
use Rattle.std.proofs.lemmas.Str.Pattern.{ends_text}
use Rattle.zw_def.proofs.RubyPathLemmas.{ends_same}
use Rattle.zw_tree.proofs.ruby.ends_in_rb.Goals as goal

pub returns : goal.returns
returns c = ends_text c.ends_with.result (codes ".rb") c.args.component.now c.ends_with.ensures.cases ∙ ends_same c.args.component.now
