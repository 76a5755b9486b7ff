use Rattle.std.proofs.Common.{◌++◌, Some, map, ap, sym, ◌∙◌}
use Rattle.std.specs.List.{filter}
use Rattle.std.proofs.lemmas.List.{map-append}
use Rattle.zw_def.specs.Names.{texts_of}
use Rattle.zw_hooks.specs.HookSeen.{hooks_seen, moment_seen, seen_at}
use Rattle.zw_hooks.specs.Runs.{runs_for, runs_for_any}
use Rattle.zw_hooks.proofs.PlaceLemmas.{runs_all}
use Rattle.zw_hooks.proofs.hooks.Hooks.for_key.Goals as goal

pub returns : goal.returns
returns c names distinct named targets =
    let self = c.args.self.now in
    let hs = hooks_seen names self in
    let moment = moment_seen c.args.on in
    let p = texts_of names c.args.path.now in
    let own = filter (runs_for moment p) hs in
    let any = filter (runs_for_any moment) hs in
    c.in_ok-push_any.ensures names
    ∙ ap (λ l. l ++ map (λ c. Some c) any) (c.in_ok-push_own.ensures names distinct named targets ∙ ap (λ l. map (seen_at names self) l ++ map (λ c. Some c) own) c.new-places.ensures.items)
    ∙ sym (map-append (λ c. Some c) own any)
    ∙ ap (map (λ c. Some c)) (runs_all moment p hs)
