use Rattle.std.proofs.Common.{◌≡◌, ◌∷◌, [], ap, ◌∙◌, codes, map, arith}
use Rattle.std.proofs.lemmas.Option.{slice_get_within}
use Rattle.zw_config.proofs.HookLemmas.{map_IfOk}
use Rattle.zw_def.specs.Names.{text_of}
use Rattle.zw_def.proofs.NameLemmas.{OnlyGrows-trans, text_is, text_later, number_grown}
use Rattle.zw_ast.specs.Node.{name_seen}
use Rattle.zw_config.proofs.callbacks.known_words.Goals as goal

pub returns-clause-told : goal.returns-clause-told
returns-clause-told c =
    let one = c.intern.new.self in
    let two = c.intern-2.new.self in
    let names = c.intern-3.new.self in
    let behind = c.in_ok-path.ensures.grows in
    let grows = OnlyGrows-trans one two names c.in_ok-value.ensures.grows behind in
    let a : text_of names c.in_ok-cpath.cpath.0 ≡ codes "cpath" = text_later one names _ _ grows c.in_ok-cpath.ensures.named in
    let b : text_of names c.in_ok-value.value.0 ≡ codes "value" = text_later two names _ _ behind c.in_ok-value.ensures.named in
    let d : text_of names c.in_ok-path.path.0 ≡ codes "path" = text_is names _ _ c.in_ok-path.ensures.named in
    map_IfOk c.from_slice.result _ _ (λ known is. ap (map (name_seen names)) is ∙ (λ i. a i ∷ b i ∷ d i ∷ [])) c.from_slice.ensures.items

pub returns-clause-named : goal.returns-clause-named
returns-clause-named c =
    let one = c.intern.new.self in
    let two = c.intern-2.new.self in
    let names = c.intern-3.new.self in
    let behind = c.in_ok-path.ensures.grows in
    let grows = OnlyGrows-trans one two names c.in_ok-value.ensures.grows behind in
    let a = number_grown one names _ grows (slice_get_within one _ _ c.in_ok-cpath.ensures.named) in
    let b = number_grown two names _ behind (slice_get_within two _ _ c.in_ok-value.ensures.named) in
    let d = slice_get_within names _ _ c.in_ok-path.ensures.named in
    map_IfOk c.from_slice.result _ _ (λ known is. rw is (omega (arith, a, b, d))) c.from_slice.ensures.items
