use Rattle.std.proofs.Common.{◌≡◌, ◌<◌, nat_eq, if◌then◌else◌, ap, sym, ◌∙◌, length, get_or, drop, [], ◌∷◌, ◌++◌, ◌+◌, false, rules, arith}
use Rattle.std.specs.List.{list_any}
use Rattle.zw_lemmas.proofs.ListLemmas.{drop-at}
use Rattle.zw_names.specs.declared.names.Name.{Name}
use Rattle.zw_places.specs.Twice.{numbers_of}
use Rattle.zw_places.proofs.TwiceLemmas.{meets, meets_none, meets_next, was_new}
use Rattle.zw_places.proofs.parameters.has_repeat.Goals as goal

pub names-init : goal.names-init
names-init c =
    ap (λ met. meets met (numbers_of c.args.names.now)) c.new-met.ensures.empty ∙ meets_none (numbers_of c.args.names.now)

pub names-preserved : goal.names-preserved
names-preserved c =
    let i = c.names.name-index in
    let names = c.args.names.now in
    let d : Name = record { 0 = 0 } in
    let lt : i < length names = search (rules, c.names-test.true) in
    let met = c.names.met.keys in
    let n = (get_or names i d).0 in
    let front : numbers_of (drop i names) ≡ n ∷ numbers_of (drop (i + 1) names) = ap numbers_of (drop-at names i (i + 1) d lt (omega arith)) in
    let new : list_any (nat_eq n) met ≡ false = was_new _ _ c.in_ok-insert.ensures.added c.if-not-branch.false in
    let keys : c.insert.new.self.keys ≡ met ++ n ∷ [] =
    c.in_ok-insert.ensures.keys ∙ ap (λ b. if b then met else met ++ n ∷ []) new in
    ap (λ ks. meets ks (numbers_of (drop (i + 1) names))) keys
    ∙ sym (meets_next met n (numbers_of (drop (i + 1) names)) new)
    ∙ ap (meets met) (sym front) ∙ c.names.invariant
