use Rattle.std.proofs.Common.{rules, tests, ◌≡◌, ◌∙◌, sym, ap, map, string_bytes, true, false}
use Rattle.zw_def.specs.Text.{is_among}
use Rattle.zw_def_config.specs.Key.{least}
use Rattle.zw_config.proofs.KeyLemmas.{others, words_known, first_is_least, first_is_passed, rest_is_sorted, least_seen}
use Rattle.zw_config.proofs.keys.least_unknown.Goals as goal

pub returns-then-not-is_known : goal.returns-then-not-is_known
returns-then-not-is_known c =
    let known = map (λ k. k.now) c.args.known.now in
    let key = string_bytes c.in-Some.key.now in
    let answer : is_among known key ≡ c.is_known.result = sym (words_known c.args.known.now key) ∙ search rules in
    let other : c.is_known.result ≡ false = search (rules, tests) in
    sym (first_is_least known _ _ _ c.in-Some.ensures.steps c.loop-key.invariant.1 (answer ∙ other))
    ∙ c.loop-key.invariant.0
    ∙ sym (least_seen known c.args.table.now.entries)

pub loop-key-preserved : goal.loop-key-preserved
loop-key-preserved c =
    let known = map (λ k. k.now) c.args.known.now in
    let key = string_bytes c.in-Some.key.now in
    let answer : is_among known key ≡ c.is_known.result = sym (words_known c.args.known.now key) ∙ search rules in
    let same : c.is_known.result ≡ true = search (rules, tests) in (
      sym (first_is_passed known _ _ _ c.in-Some.ensures.steps c.loop-key.invariant.1 (answer ∙ same)) ∙ c.loop-key.invariant.0,
      rest_is_sorted known _ _ _ c.in-Some.ensures.steps c.loop-key.invariant.1,
    )

pub returns : goal.returns
returns c =
    let known = map (λ k. k.now) c.args.known.now in
    ap (λ ks. least (others known ks)) (sym c.in-None.ensures.steps.0)
    ∙ c.loop-key.invariant.0
    ∙ sym (least_seen known c.args.table.now.entries)
