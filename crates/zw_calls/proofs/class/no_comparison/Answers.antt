use Rattle.std.proofs.Common.{◌≡◌, ap, ◌∙◌, sym, subst, string_bytes}
use Rattle.zw_def_world.specs.CoreClass.{ArgumentError}
use Rattle.zw_def_world.specs.Making.{fails}
use Rattle.zw_heap.specs.Telling.{tell}
use Rattle.zw_calls.specs.Classes.{IsPath}
use Rattle.zw_calls.proofs.FaultLemmas.{no_comparison-told, comparison_pieces}
use Rattle.zw_calls.proofs.class.no_comparison.Goals as goal

pub returns : goal.returns
returns c = λ I p fit agrees.
    let one = c.in_ok-first.ensures in
    let other = c.in_ok-second.ensures in
    let first : string_bytes c.in-Some.first ≡ one.path = subst (IsPath one.path) c.in-Some.is one.known in
    let second : string_bytes c.in-Some-second.second ≡ other.path = subst (IsPath other.path) c.in-Some-second.is other.known in
    let made = c.in_ok-format.ensures in
    no_comparison-told (tell I c.args.one) (tell I c.args.other) one.path other.path p (one.told I p.world fit agrees) (other.told I p.world fit agrees)
    ∙ ap (λ m. fails ArgumentError m p) (sym (made.ok ∙ (λ i. comparison_pieces (first i) (second i))))
