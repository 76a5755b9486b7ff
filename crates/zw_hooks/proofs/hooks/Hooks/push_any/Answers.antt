use Rattle.std.proofs.Common.{◌+◌, ◌++◌, ◌∷◌, [], Some, cond, length, map, take, ap, sym, ◌∙◌, arith, append_assoc}
use Rattle.std.specs.List.{filter}
use Rattle.std.proofs.lemmas.List.{length-map, map-append, take_all}
use Rattle.zw_def.specs.Names.{texts_of}
use Rattle.zw_hooks.specs.HookSeen.{hook_seen, hooks_seen, moment_seen, seen_at}
use Rattle.zw_hooks.specs.Runs.{runs_for, runs_for_any}
use Rattle.zw_hooks.proofs.PlaceLemmas.{one_more}
use Rattle.zw_hooks.proofs.hooks.Hooks.push_any.Goals as goal

pub loop-place-preserved : goal.loop-place-preserved
loop-place-preserved c names =
    let self = c.args.self.now in
    let place = c.loop-place.place in
    let hook = c.index.result.now in
    let test = runs_for_any (moment_seen c.args.on) in
    let old = map (seen_at names self) c.args.places.now.items in
    let runs = c.runs_for_any-runs.result in
    ap (map (seen_at names self)) c.in_ok-push_if.ensures
    ∙ map-append (seen_at names self) c.loop-place.places.items (cond runs (place ∷ []) [])
    ∙ ap (λ l. l ++ map (seen_at names self) (cond runs (place ∷ []) [])) (c.loop-place.invariant names)
    ∙ append_assoc old (map (λ c. Some c) (filter test (take place (hooks_seen names self)))) (map (seen_at names self) (cond runs (place ∷ []) []))
    ∙ ap (λ l. old ++ l) (one_more (hook_seen names) self.all.items test place hook runs (omega (arith, c.loop-place-test.true, c.len-place-end.ensures)) c.index.ensures (c.runs_for_any-runs.ensures names))

pub returns : goal.returns
returns c names =
    let self = c.args.self.now in
    let hs = hooks_seen names self in
    let old = map (seen_at names self) c.args.places.now.items in
    c.loop-place.invariant names
    ∙ ap (λ l. old ++ map (λ c. Some c) (filter (runs_for_any (moment_seen c.args.on)) l)) (take_all c.loop-place.place hs (omega (arith, c.loop-place-test.false, c.len-place-end.ensures, length-map self.all.items (hook_seen names))))
