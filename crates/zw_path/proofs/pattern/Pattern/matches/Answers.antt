use Rattle.std.proofs.Common.{◌≡◌, string_bytes, ◌∙◌, sym}
use Rattle.zw_def.specs.Pattern.{is_double_star, matches_part, matches}
use Rattle.zw_def.proofs.PatternLemmas.{can_cut-map, stands_for}
use Rattle.zw_path.proofs.pattern.Pattern.matches.Goals as goal

pub returns-clause-value : goal.returns-clause-value
returns-clause-value c =
    c.can_match.ensures ∙ can_cut-map (λ s. string_bytes s) is_double_star matches_part c.components.result.now c.components-2.result.now ∙ (λ i. matches ((c.components.ensures.value ∙ c.self.view_is) i) (c.components-2.ensures.value i))

pub returns-clause-meaning : goal.returns-clause-meaning
returns-clause-meaning c =
    let e : c.can_match.result ≡ matches c.args.self.now c.args.path.now = returns-clause-value c in
    let s = stands_for c.args.self.now c.args.path.now in
    (λ h. s.0 (sym e ∙ h), λ h. e ∙ s.1 h)
