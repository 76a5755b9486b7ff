use Rattle.std.proofs.Common.{◌≡◌, ◌+◌, ◌-◌, ◌∷◌, [], ◌++◌, inl, length, string_bytes, refl, ap, sym, ◌∙◌, arith, append-nil}
use Rattle.std.proofs.lemmas.List.{length-map}
use Rattle.zw_scan.specs.Directories.{shared}
use Rattle.zw_scan.proofs.BeginningLemmas.{run}
use Rattle.zw_scan.proofs.SharedLemmas.{run_pushed, run_place, run_whole}
use Rattle.zw_scan.proofs.directory.push_above.Goals as goal

pub loop-depth-init : goal.loop-depth-init
loop-depth-init c =
    let none : 0 ≡ c.shared-start.result - c.shared-start.result = omega arith in
    record {
      found = sym (append-nil c.args.directories.now.items) ∙ ap (λ n. c.args.directories.now.items ++ run c.args.path.now (1 + c.shared-start.result) n) none;
      at = inl refl;
    }

pub loop-depth-preserved : goal.loop-depth-preserved
loop-depth-preserved c =
    let size : length c.components-3.result.now ≡ length c.args.path.now = sym (length-map c.components-3.result.now string_bytes) ∙ ap length c.components-3.ensures.value in
    record {
      found = run_pushed c.args.path.now c.shared-start.result c.loop-depth.depth c.args.directories.now.items c.loop-depth.directories.items c.push.new.self.items c.loop-depth.auto.depth c.loop-depth.invariant.found (c.in_ok-push.ensures.items ∙ ap (λ p. c.loop-depth.directories.items ++ p ∷ []) c.in_ok-beginning.ensures);
      at = run_place c.shared-start.result c.loop-depth.depth (length c.args.path.now - 1) (omega (arith, size, c.loop-depth-test.true));
    }

pub returns : goal.returns
returns c =
    let size : length c.components-3.result.now ≡ length c.args.path.now = sym (length-map c.components-3.result.now string_bytes) ∙ ap length c.components-3.ensures.value in
    run_whole c.args.previous.now c.args.path.now c.shared-start.result c.loop-depth.depth c.args.directories.now.items c.loop-depth.directories.items
    (c.shared-start.ensures ∙ (λ i. shared (c.components.ensures.value i) (c.components-2.ensures.value i)))
    c.loop-depth.auto.depth (omega (arith, size, c.loop-depth-test.false)) c.loop-depth.invariant.at c.loop-depth.invariant.found
