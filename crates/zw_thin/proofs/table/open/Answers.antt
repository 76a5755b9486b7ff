use Rattle.std.proofs.Common.{◌≡◌, ◌∙◌, ◌++◌, ◌∷◌, [], sym, ap, nat_eq, append-nil}
use Rattle.std.specs.Map.{lookup}
use Rattle.std.proofs.lemmas.List.Elements.{All-nil, All-same, All-push}
use Rattle.indexmap.proofs.CallerLemmas.{insert_entry-new}
use Rattle.zw_thin.specs.Class.{classes_seen, EntryNamed}
use Rattle.zw_thin.proofs.LookUpLemmas.{class_place}
use Rattle.zw_lemmas.proofs.OptionLemmas.{none_is}
use Rattle.zw_thin.proofs.TakenLemmas.{opened_none, opened_at, classes_kept}
use Rattle.zw_thin.proofs.table.open.Goals as goal

-- the class goes last
pushed : (c : goal.Joined-branch-2) → c.insert.new.self.entries ≡ c.args.classes.now.entries ++ (c.args.class.name, c.args.class.methods) ∷ []
pushed c =
    c.in_ok-insert-in-None.ensures.entries ∙ insert_entry-new _ c.args.classes.now c.args.class.name c.args.class.methods (none_is (lookup (λ m. nat_eq c.args.class.name.0 m.0) c.args.classes.now.entries) (sym c.in-None.ensures.found))

pub returns-in_ok-insert-in-None-clause-opened : goal.returns-in_ok-insert-in-None-clause-opened
returns-in_ok-insert-in-None-clause-opened c = λ names distinct all named.
    ap (classes_seen names) (pushed c)
    ∙ opened_none names c.args.classes.now.entries c.args.class (sym (c.in-None.ensures.index ∙ class_place names c.args.class.name.0 distinct named.0 c.args.classes.now.entries all))

pub returns-in_ok-insert-in-None-clause-named : goal.returns-in_ok-insert-in-None-clause-named
returns-in_ok-insert-in-None-clause-named c = λ names all named.
    All-same (EntryNamed names) _ _ (pushed c) (All-push (EntryNamed names) c.args.classes.now.entries (c.args.class.name, c.args.class.methods) all named)

pub returns-in_ok-append-in-Some-clause-opened : goal.returns-in_ok-append-in-Some-clause-opened
returns-in_ok-append-in-Some-clause-opened c = λ names distinct all named.
    opened_at names c.args.classes.now.entries c.args.class c.in-Some.place _ _ c.index_mut.ensures.value c.in_ok-append-in-Some.ensures.items (sym (c.in-Some.ensures.index ∙ class_place names c.args.class.name.0 distinct named.0 c.args.classes.now.entries all))

pub returns-in_ok-append-in-Some-clause-named : goal.returns-in_ok-append-in-Some-clause-named
returns-in_ok-append-in-Some-clause-named c = λ names all named.
    classes_kept names c.args.classes.now.entries c.in-Some.place _ _ c.args.class.methods.items c.index_mut.ensures.value c.in_ok-append-in-Some.ensures.items all named.1

pub returns-in_err-append-in-Some-clause-named : goal.returns-in_err-append-in-Some-clause-named
returns-in_err-append-in-Some-clause-named c = λ names all named.
    classes_kept names c.args.classes.now.entries c.in-Some.place _ _ [] c.index_mut.ensures.value (c.in_err-append-in-Some.ensures.items ∙ sym (append-nil _)) all (All-nil _)
