use Rattle.std.proofs.Common.{rules, ◌≡◌, ◌<◌, ◌≤◌, ◌+◌, ◌++◌, [], ◌∷◌, ℕ, Bool, true, false, get_or, length, List, drop, take, map, nat_eq, Option, Some, None, refl, ap, sym, subst, ◌∙◌, arith}
use Rattle.indexmap.specs.IndexMap.{insert_entry}
use Rattle.zw_frames.specs.Locals.{first_at}
use Rattle.zw_frames.specs.LocalsSeen.{entries_seen}
use Rattle.zw_frames.proofs.LocalLemmas.{seen-back, set-here, set-new}
use Rattle.zw_frames.proofs.locals.Locals.set.Goals as goal

pub returns-in-Some-clause-set : goal.returns-in-Some-clause-set
returns-in-Some-clause-set c =
    set-here c.self.inside.entries.items c.in-Some.at c.index_mut.result.now
    (seen-back c.self.inside.entries.items c.in-Some.at (subst (λ (l : List _). c.in-Some.at < length l) (sym c.self.view_is) c.in-Some.ensures.within)) c.index_mut.ensures.value c.args.name.0 c.args.value
    (subst (λ (l : List _). Some c.in-Some.at ≡ first_at c.args.name.0 l) (sym c.self.view_is) c.in-Some.ensures.first)
    ∙ ap (λ (l : List _). insert_entry nat_eq l c.args.name.0 c.args.value) c.self.view_is

pub returns-in_ok-push-in-None-clause-set : goal.returns-in_ok-push-in-None-clause-set
returns-in_ok-push-in-None-clause-set c =
    ap entries_seen c.in_ok-push-in-None.ensures.items
    ∙ set-new c.self.inside.entries.items _ (subst (λ (l : List _). None ≡ first_at c.args.name.0 l) (sym c.self.view_is) c.in-None.ensures.first)
    ∙ ap (λ (l : List _). insert_entry nat_eq l c.args.name.0 c.args.value) c.self.view_is
