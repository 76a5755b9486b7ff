use Rattle.std.proofs.Common.{◌≡◌, false, Some, map, take, length, ap, sym, subst, ◌<◌, ◌∙◌, arith}
use Rattle.std.proofs.lemmas.List.Elements.{All-take}
use Rattle.std.proofs.lemmas.List.{length-map, take-map}
use Rattle.zw_def.specs.Names.{AreNamed, texts_of}
use Rattle.zw_map.specs.BootSeen.{is_taken_at, is_defined_at}
use Rattle.zw_map.proofs.BootLemmas.{kept_taken, kept_defined, not_kept, next_place}
use Rattle.zw_map.proofs.boot.kept_out.Goals as goal

pub returns-then-is_taken-clause-told : goal.returns-then-is_taken-clause-told
returns-then-is_taken-clause-told c names distinct boot_named named =
    let q = c.args.path.now in
    let is = c.names-names.ensures in
    let len : length c.names-names.result.now ≡ length q = sym (length-map c.names-names.result.now (λ n. n.0)) ∙ ap length is in
    let part = sym (take-map (λ n. n.0) c.loop-depth.depth c.names-names.result.now) ∙ ap (take c.loop-depth.depth) is in
    ap (λ p. Some (texts_of names p)) (c.in_ok-path_of.ensures ∙ part)
    ∙ kept_taken names distinct c.args.boot.now boot_named q named c.loop-depth.depth (omega (arith, c.loop-depth.auto.depth)) (omega (arith, c.loop-depth-test.true, len))
    (λ k low high. ap (λ p. is_taken_at c.args.boot.now (take k p)) (sym is) ∙ c.loop-depth.invariant k low high)
    (sym (c.is_taken.ensures ∙ ap (is_taken_at c.args.boot.now) part) ∙ c.if-is_taken.true)

pub loop-depth-preserved : goal.loop-depth-preserved
loop-depth-preserved c k low high =
    next_place (λ j. is_taken_at c.args.boot.now (take j (map (λ n. n.0) c.names-names.result.now)) ≡ false) c.loop-depth.depth c.loop-depth.invariant
    (sym (c.is_taken.ensures ∙ ap (is_taken_at c.args.boot.now) (sym (take-map (λ n. n.0) c.loop-depth.depth c.names-names.result.now))) ∙ c.if-is_taken.false) k low high

pub returns-then-is_defined-clause-told : goal.returns-then-is_defined-clause-told
returns-then-is_defined-clause-told c names distinct boot_named named =
    let q = c.args.path.now in
    let is = c.names-names.ensures in
    let len : length c.names-names.result.now ≡ length q = sym (length-map c.names-names.result.now (λ n. n.0)) ∙ ap length is in
    ap (λ p. Some (texts_of names p)) c.in_ok-copy.ensures
    ∙ kept_defined names distinct c.args.boot.now boot_named q named
    (λ k low high. ap (λ p. is_taken_at c.args.boot.now (take k p)) (sym is) ∙ c.loop-depth.invariant k low (omega (arith, c.loop-depth-test.false, len, high)))
    (sym (c.is_defined.ensures ∙ ap (is_defined_at c.args.boot.now) is) ∙ c.if-is_defined.true)

pub returns-clause-told : goal.returns-clause-told
returns-clause-told c names distinct boot_named named =
    let q = c.args.path.now in
    let is = c.names-names.ensures in
    let len : length c.names-names.result.now ≡ length q = sym (length-map c.names-names.result.now (λ n. n.0)) ∙ ap length is in
    not_kept names distinct c.args.boot.now boot_named q named
    (λ k low high. ap (λ p. is_taken_at c.args.boot.now (take k p)) (sym is) ∙ c.loop-depth.invariant k low (omega (arith, c.loop-depth-test.false, len, high)))
    (sym (c.is_defined.ensures ∙ ap (is_defined_at c.args.boot.now) is) ∙ c.if-is_defined.false)

-- a beginning has names of the path
pub returns-then-is_taken-clause-named : goal.returns-then-is_taken-clause-named
returns-then-is_taken-clause-named c names named =
    let part = sym (take-map (λ n. n.0) c.loop-depth.depth c.names-names.result.now) ∙ ap (take c.loop-depth.depth) c.names-names.ensures in
    subst (AreNamed names) (sym (c.in_ok-path_of.ensures ∙ part)) (All-take (λ n. n < length names) c.loop-depth.depth c.args.path.now named)
