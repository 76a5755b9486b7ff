use Rattle.std.proofs.Common.{rules, ◌≡◌, ◌<◌, ◌≤◌, ◌+◌, ◌++◌, [], ◌∷◌, ℕ, Bool, true, false, length, List, drop, take, map, nat_eq, Option, Some, None, refl, ap, sym, subst, ◌∙◌, arith}
use Rattle.std.specs.Map.{lookup}
use Rattle.zw_frames.specs.Locals.{first_at}
use Rattle.zw_frames.proofs.LocalLemmas.{lookup-none, seen-back, value-here}
use Rattle.zw_frames.proofs.locals.Locals.get.Goals as goal

pub returns-in-Some : goal.returns-in-Some
returns-in-Some c =
    subst (λ (l : List _). Some c.index.result.now.value ≡ lookup (nat_eq c.args.name.0) l) c.self.view_is
    (value-here c.self.inside.entries.items c.in-Some.at c.index.result.now
    (seen-back c.self.inside.entries.items c.in-Some.at (subst (λ (l : List _). c.in-Some.at < length l) (sym c.self.view_is) c.in-Some.ensures.within)) c.index.ensures c.args.name.0
    (subst (λ (l : List _). Some c.in-Some.at ≡ first_at c.args.name.0 l) (sym c.self.view_is) c.in-Some.ensures.first))

pub returns-in-None : goal.returns-in-None
returns-in-None c = sym (lookup-none c.args.name.0 c.args.self.now (sym c.in-None.ensures.first))
