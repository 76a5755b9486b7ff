use Rattle.std.proofs.Common.{◌<◌, string_bytes, ◌∙◌, ap, subst}
use Rattle.std.specs.List.{All}
use Rattle.zw_calls.specs.Fault.{fault_seen}
use Rattle.zw_fault.specs.declared.error_kind.ErrorKind.TheVariants.{NameError}
use Rattle.zw_session.specs.Acts.{fails_class_variable}
use Rattle.zw_session.specs.SessionSeen.{session_seen}
use Rattle.zw_session.specs.Step.{Step}
use Rattle.zw_session.specs.Stores.{Stores}
use Rattle.zw_session.proofs.NamingLemmas.{class_variable-missed, missed-text}
use Rattle.zw_session.proofs.session.Session.no_class_variable.Goals as goal

pub returns : goal.returns
returns c =
    let s : Stores = session_seen c.self.inside in
    let path = c.path.result.now in
    let named = subst (λ count. All (λ n. n < count) path) c.self.invariant.named c.path.ensures.named in
    let made = c.in_ok-message in
    let told = made.ensures.ok ∙ ap (missed-text c.text-name.result.now) c.in_ok-path.ensures in
    subst (λ (u : Stores). Step u u (fails_class_variable c.args.scope c.args.name) (λ J. fault_seen (record { kind = NameError; message = made.message }))) c.self.view_is (λ J p stands here.
    class_variable-missed J s stands p here c.args.scope.0 path named c.path.ensures.path c.args.name.0 c.text-name.result.now (string_bytes made.message) c.text-name.ensures told)
