use Rattle.std.proofs.Common.{◌++◌, codes, ap, sym, ◌∙◌, cond, append_assoc}
use Rattle.std.specs.Fmt.{decimal}
use Rattle.std.proofs.lemmas.Bool.{ne_eqb}
use Rattle.zw_calls.proofs.checks.expected.Goals as goal

pub returns : goal.returns
returns c =
    let made = c.in_ok-text.ensures in
    made.ok ∙ sym (append_assoc (decimal c.args.least) (codes "..") (decimal c.args.most)) ∙ sym (ap (λ b. cond b (decimal c.args.least) (decimal c.args.least ++ codes ".." ++ decimal c.args.most)) (ne_eqb c.args.least c.args.most c.if-least-most.false))
