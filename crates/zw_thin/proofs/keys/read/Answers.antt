use Rattle.std.proofs.Common.{◌∙◌, sym, ap, Some, true, false, option_map, string_bytes, subst, IfSome}
use Rattle.std.proofs.lemmas.Option.{slice_get_within}
use Rattle.zw_def_thin.specs.ClassFile.{is_core}
use Rattle.zw_def.specs.Text.{is_plain_word}
use Rattle.zw_def.specs.Names.{text_of}
use Rattle.zw_def.proofs.NameLemmas.{OnlyGrows-trans, text_later, number_grown}
use Rattle.zw_thin.specs.File.{file_seen}
use Rattle.zw_thin.specs.ClassFile.{class_seen, ClassNamed}
use Rattle.zw_thin.proofs.StartLemmas.{key_read}
use Rattle.zw_thin.proofs.keys.read.Goals as goal

pub returns-then-not-may_define-clause-told : goal.returns-then-not-may_define-clause-told
returns-then-not-may_define-clause-told c = λ front is.
    let made = c.intern.new.self in
    let names = c.read.new.names in
    let n = c.in_ok-name-2.name.0 in
    let grows = c.in_ok-class.ensures.grows in
    let grown = OnlyGrows-trans front made names (OnlyGrows-trans front c.args.names.now made is.1 c.in_ok-name-2.ensures.grows) grows in
    key_read c.args.root.now front (file_seen c.args.file.now) (text_of names n) (string_bytes c.in-Some.name) (class_seen names c.in-Some-2.class) false
    (sym (ap is_plain_word (c.as_bytes.ensures.value ∙ c.base.ensures)) ∙ sym c.is_plain_word.ensures ∙ c.if-not-is_plain_word.false)
    (text_later made names n c.deref-2.result.now grows c.in_ok-name-2.ensures.named ∙ c.deref-2.ensures)
    (ap (option_map string_bytes) (sym c.in-Some.is) ∙ c.in_ok-name.ensures)
    (ap (option_map (class_seen names)) (sym c.in-Some-2.is) ∙ c.in_ok-class.ensures.told)
    (ap is_core (sym c.deref.ensures) ∙ sym c.is_core.ensures ∙ c.if-is_core.false)
    (sym (c.may_define.ensures front (is.0, grown)) ∙ c.if-not-may_define.true)

pub returns-clause-told : goal.returns-clause-told
returns-clause-told c = λ front is.
    let made = c.intern.new.self in
    let names = c.read.new.names in
    let n = c.in_ok-name-2.name.0 in
    let grows = c.in_ok-class.ensures.grows in
    let grown = OnlyGrows-trans front made names (OnlyGrows-trans front c.args.names.now made is.1 c.in_ok-name-2.ensures.grows) grows in
    (λ i. Some (record { name = text_of names n; file = Some (record { path = c.in_ok-path.ensures i; class = class_seen names c.in-Some-2.class }) }))
    ∙ key_read c.args.root.now front (file_seen c.args.file.now) (text_of names n) (string_bytes c.in-Some.name) (class_seen names c.in-Some-2.class) true
    (sym (ap is_plain_word (c.as_bytes.ensures.value ∙ c.base.ensures)) ∙ sym c.is_plain_word.ensures ∙ c.if-not-is_plain_word.false)
    (text_later made names n c.deref-2.result.now grows c.in_ok-name-2.ensures.named ∙ c.deref-2.ensures)
    (ap (option_map string_bytes) (sym c.in-Some.is) ∙ c.in_ok-name.ensures)
    (ap (option_map (class_seen names)) (sym c.in-Some-2.is) ∙ c.in_ok-class.ensures.told)
    (ap is_core (sym c.deref.ensures) ∙ sym c.is_core.ensures ∙ c.if-is_core.false)
    (sym (c.may_define.ensures front (is.0, grown)) ∙ c.if-not-may_define.false)

pub returns-clause-named : goal.returns-clause-named
returns-clause-named c = (
  number_grown c.intern.new.self c.read.new.names c.in_ok-name-2.name.0 c.in_ok-class.ensures.grows (slice_get_within _ _ _ c.in_ok-name-2.ensures.named),
  subst (λ o. IfSome o (ClassNamed c.read.new.names)) c.in-Some-2.is c.in_ok-class.ensures.named,
)
