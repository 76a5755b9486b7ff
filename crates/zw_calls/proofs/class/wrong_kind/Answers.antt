use Rattle.std.proofs.Common.{◌≡◌, ap, ◌∙◌, sym, subst, string_bytes}
use Rattle.zw_def_world.specs.Argument.{kind_text}
use Rattle.zw_def_world.specs.CoreClass.{TypeError}
use Rattle.zw_def_world.specs.Making.{fails}
use Rattle.zw_heap.specs.Telling.{tell}
use Rattle.zw_calls.specs.Classes.{IsPath}
use Rattle.zw_calls.specs.Kind.{kind_seen}
use Rattle.zw_calls.proofs.FaultLemmas.{wrong_kind-told, kind_pieces}
use Rattle.zw_calls.proofs.class.wrong_kind.Goals as goal

pub returns : goal.returns
returns c = λ I p fit agrees.
    let named = c.in_ok-class.ensures in
    let known : string_bytes c.in-Some.class ≡ named.path = subst (IsPath named.path) c.in-Some.is named.known in
    let made = c.in_ok-format.ensures in
    wrong_kind-told (tell I c.args.value) (kind_text (kind_seen c.args.kind)) named.path p (named.told I p.world fit agrees)
    ∙ ap (λ m. fails TypeError m p) (sym (made.ok ∙ (λ i. kind_pieces (known i) (c.name-expected.ensures i))))
