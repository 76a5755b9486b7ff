use Rattle.std.proofs.Common.{rules, ◌≡◌, ◌<◌, ◌≤◌, ◌+◌, ◌++◌, [], ◌∷◌, ℕ, Bool, true, false, length, List, drop, take, map, nat_eq, Option, Some, None, refl, ap, sym, subst, ◌∙◌, arith}
use Rattle.zw_heap.specs.Telling.{tell}
use Rattle.zw_frames.proofs.FrameLemmas.{found-in}
use Rattle.zw_told.proofs.TableLemmas.{at-told}
use Rattle.std.specs.Option.{IfSome, option_map}
use Rattle.zw_heap.specs.Sound.{IsIn}
use Rattle.zw_frames.proofs.frame.Frame.get.Goals as goal

pub returns-clause-held : goal.returns-clause-held
returns-clause-held c = λ s frame. subst (λ o. IfSome o (IsIn s)) (sym c.get.ensures) (found-in s c.args.self.now.locals frame.locals_in c.args.name.0)

pub returns-clause-value : goal.returns-clause-value
returns-clause-value c = λ I names. at-told I.name I.names_differ (tell I) c.args.name.0 c.args.self.now.locals ∙ ap (option_map (tell I)) (sym c.get.ensures)
