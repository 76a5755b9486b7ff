use Rattle.std.proofs.Common.{◌≡◌, ◌<◌, ap, sym, ◌∙◌, length, map, take, string_bytes, arith}
use Rattle.std.proofs.lemmas.List.{length-map}
use Rattle.zw_lemmas.proofs.ListLemmas.{read_at}
use Rattle.zw_layout.specs.Progress.{fronts_of, progress_of}
use Rattle.zw_layout.proofs.ProgressLemmas.{progress-at}
use Rattle.zw_layout.proofs.progress.Progress.after.Goals as goal

pub next_fronts-requires-clause-here : goal.next_fronts-requires-clause-here
next_fronts-requires-clause-here c =
    let path = take c.args.depth (map string_bytes c.args.components.now) in
    let n = c.loop-place.place in
    let here : c.args.self.now ≡ progress_of c.args.patterns.now path = c.requires.here in
    let held = length-map c.self.inside.patterns.items (λ f. f.items) in
    let size = length-map c.args.patterns.now (λ p. fronts_of p path) in
    let lt : n < length c.self.inside.patterns.items = omega (arith, held, size, ap length c.self.view_is, ap length here, c.loop-place-test.true) in
    let at = read_at (λ f. f.items) c.self.inside.patterns.items c.args.self.now c.self.view_is n c.index.result.now lt c.index.ensures in
    c.as_slice-fronts.ensures.value
    ∙ progress-at c.args.patterns.now path c.args.self.now n c.index-patterns-place.result c.index.result.now.items here c.loop-place-test.true c.index-patterns-place.is at.1
    ∙ ap (λ p. fronts_of p path) (sym c.components-pattern.ensures)
