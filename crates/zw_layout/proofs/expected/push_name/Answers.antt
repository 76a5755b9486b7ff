use Rattle.std.proofs.Common.{◌++◌, ◌∷◌, [], Some, Ok, ap, sym, subst, ◌∙◌, take, string_bytes}
use Rattle.std.proofs.lemmas.List.{take-map}
use Rattle.zw_def.specs.Inflector.{constant_inflected}
use Rattle.zw_def.specs.Expected.{named_by}
use Rattle.zw_def.specs.Names.{AreNamed, texts_of}
use Rattle.zw_def.proofs.NameLemmas.{texts_of-grown, texts_of-pushed, AreNamed-grown, AreNamed-pushed}
use Rattle.zw_inflect.specs.Inflector.{inflector_seen}
use Rattle.zw_layout.proofs.ExpectedLemmas.{tells_named}
use Rattle.zw_layout.proofs.expected.push_name.Goals as goal

pub returns-in_ok-push-in-Ok-clause-told : goal.returns-in_ok-push-in-Ok-clause-told
returns-in_ok-push-in-Ok-clause-told c =
    let here = sym (take-map (λ s. string_bytes s) c.args.depth c.components.result.now) ∙ ap (take c.args.depth) c.components.ensures.value in
    let told = ap (constant_inflected (inflector_seen c.args.layout.now.inflector) c.args.base.now) (sym here) ∙ c.in-Ok.ensures in
    let at = c.in_ok-name-in-Ok.ensures.named ∙ ap Some c.deref.ensures in
    let old = texts_of c.args.names.now c.args.namespace.now in
    let same = texts_of-grown c.args.names.now c.intern.new.self c.args.namespace.now c.in_ok-name-in-Ok.ensures.grows c.requires.named in
    ap (named_by old (take c.args.depth c.args.path.now)) told
    ∙ ap (λ p. Ok (p ++ string_bytes c.in-Ok.text ∷ [])) (sym same)
    ∙ ap Ok (sym (texts_of-pushed c.intern.new.self c.args.namespace.now c.in_ok-name-in-Ok.name.0 (string_bytes c.in-Ok.text) at))
    ∙ ap (λ n. Ok (texts_of c.intern.new.self n)) (sym c.in_ok-push-in-Ok.ensures.ok)

pub returns-in_ok-push-in-Ok-clause-named : goal.returns-in_ok-push-in-Ok-clause-named
returns-in_ok-push-in-Ok-clause-named c =
    let at = c.in_ok-name-in-Ok.ensures.named ∙ ap Some c.deref.ensures in
    let old = AreNamed-grown c.args.names.now c.intern.new.self c.args.namespace.now c.in_ok-name-in-Ok.ensures.grows c.requires.named in
    subst (AreNamed c.intern.new.self) (sym c.in_ok-push-in-Ok.ensures.ok) (AreNamed-pushed c.intern.new.self c.args.namespace.now c.in_ok-name-in-Ok.name.0 (string_bytes c.in-Ok.text) at old)

pub returns-in-Err-Refused-clause-told : goal.returns-in-Err-Refused-clause-told
returns-in-Err-Refused-clause-told c =
    let here = sym (take-map (λ s. string_bytes s) c.args.depth c.components.result.now) ∙ ap (take c.args.depth) c.components.ensures.value in
    let wrong = rw c.in-Err-Refused.field-0-is at c.in-Err-Refused.ensures in
    let told = ap (constant_inflected (inflector_seen c.args.layout.now.inflector) c.args.base.now) (sym here) ∙ wrong in
    tells_named c.wrong_at.result (take c.args.depth c.args.path.now) (texts_of c.args.names.now c.args.namespace.now) (string_bytes c.in-Err-Refused.wrong.0) _ told c.wrong_at.ensures
