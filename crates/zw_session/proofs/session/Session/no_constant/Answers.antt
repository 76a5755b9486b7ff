use Rattle.std.proofs.Common.{◌<◌, length, ℕ, [], ◌∷◌, ◌++◌, codes, string_bytes, ◌∙◌, ap, sym, subst}
use Rattle.std.specs.List.{All}
use Rattle.std.proofs.lemmas.List.Elements.{All-append, All-cons, All-nil}
use Rattle.zw_calls.specs.Fault.{fault_seen}
use Rattle.zw_def.specs.ConstantPath.{constant_path_text}
use Rattle.zw_def.specs.Names.{texts_of}
use Rattle.zw_fault.specs.declared.error_kind.ErrorKind.TheVariants.{NameError}
use Rattle.zw_session.specs.Acts.{fails_constant}
use Rattle.zw_session.specs.SessionSeen.{session_seen}
use Rattle.zw_session.specs.Step.{Step}
use Rattle.zw_session.specs.Stores.{Stores}
use Rattle.zw_session.proofs.NamingLemmas.{constant-missed}
use Rattle.zw_session.proofs.session.Session.no_constant.Goals as goal

pub returns : goal.returns
returns c =
    let s : Stores = session_seen c.self.inside in
    let path = c.path.result.now in
    let x = c.args.name.0 in
    let P : ℕ → Type 0 = λ n. n < length s.names in
    let named = subst (λ count. All (λ n. n < count) path) c.self.invariant.named c.path.ensures.named in
    let known = subst (λ (u : Stores). x < length u.names) (sym c.self.view_is) c.requires.name in
    let longer = All-append P path (x ∷ []) named (All-cons P x [] known (All-nil P)) in
    let made = c.in_ok-message in
    let told = made.ensures.ok ∙ ap (λ t. codes "uninitialized constant " ++ t) (c.in_ok-path-2.ensures ∙ ap (λ ns. constant_path_text (texts_of s.names ns)) c.in_ok-path.ensures) in
    subst (λ (u : Stores). Step u u (fails_constant c.args.asked c.args.name) (λ J. fault_seen (record { kind = NameError; message = made.message }))) c.self.view_is (λ J p stands here.
    constant-missed J s stands p here c.args.asked.0 path named c.path.ensures.path x (string_bytes made.message) longer told)
