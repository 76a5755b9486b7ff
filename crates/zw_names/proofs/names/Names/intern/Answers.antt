use Rattle.std.proofs.Common.{◌≡◌, ◌∷◌, ◌++◌, [], ◌∙◌, sym, ap, slice_get, map, subst, false}
use Rattle.std.specs.List.{list_any}
use Rattle.std.specs.Str.{bytes_eq}
use Rattle.std.specs.String.{string_bytes}
use Rattle.zw_def.specs.Names.{IsDistinct}
use Rattle.zw_names.proofs.NamesLemmas.{named_at, is_named, interned, number_of_new}
use Rattle.zw_def.proofs.NameLemmas.{with_name-there, with_name-new, IsDistinct-pushed}
use Rattle.zw_names.proofs.names.Names.intern.Goals as goal

pub returns-in-Some-clause-named : goal.returns-in-Some-clause-named
returns-in-Some-clause-named c =
    ap (λ names. slice_get names c.in-Some.number) (sym c.self.view_is) ∙ named_at c.args.text.now c.self.inside.texts.keys c.in-Some.number (sym c.in-Some.ensures.index)

pub returns-in-Some-clause-added : goal.returns-in-Some-clause-added
returns-in-Some-clause-added c =
    sym (with_name-there c.args.self.now c.args.text.now (is_named c.self.inside.texts.keys c.args.self.now c.args.text.now _ c.self.view_is c.in-Some.ensures.found))

-- the texts with the new one at the end, which was not among them
pushed : (c : goal.In_ok-insert) → (map string_bytes c.insert.new.self.keys ≡ c.args.self.now ++ c.args.text.now ∷ []) × (list_any (bytes_eq c.args.text.now) c.args.self.now ≡ false)
pushed c =
    interned c.self.inside.texts.keys c.insert.new.self.keys c.in_ok-from_str.field-0 c.args.self.now c.args.text.now c.get_index_of.result c.self.view_is c.in_ok-from_str.ensures.ok c.get_index_of.ensures.found c.in_default.not-Some c.in_ok-insert.ensures.keys

pub invariant_of-self-2 : goal.invariant_of-self-2
invariant_of-self-2 c =
    let p = pushed c in
    subst IsDistinct (sym p.0) (IsDistinct-pushed c.args.self.now c.args.text.now (subst IsDistinct c.self.view_is c.self.invariant) p.1)

pub returns-clause-named : goal.returns-clause-named
returns-clause-named c =
    number_of_new c.self.inside.texts.keys c.insert.new.self.keys c.args.self.now c.args.text.now c.len-number.result c.self.view_is (pushed c).0 c.len-number.ensures.len

pub returns-clause-added : goal.returns-clause-added
returns-clause-added c = let p = pushed c in p.0 ∙ sym (with_name-new c.args.self.now c.args.text.now p.1)

pub returns-clause-grows : goal.returns-clause-grows
returns-clause-grows c = (c.args.text.now ∷ [], (pushed c).0)
