use Rattle.std.proofs.Common.{◌≡◌, ◌∙◌, ◌++◌, ◌∷◌, [], sym, ap, Some, nat_eq}
use Rattle.std.specs.Map.{lookup}
use Rattle.std.proofs.lemmas.List.{map-append}
use Rattle.std.proofs.lemmas.List.Elements.{All-same, All-push}
use Rattle.indexmap.proofs.CallerLemmas.{insert_entry-new}
use Rattle.zw_thin.specs.Key.{key_seen, keys_seen, KeyNamed}
use Rattle.zw_thin.proofs.LookUpLemmas.{key_there}
use Rattle.zw_lemmas.proofs.OptionLemmas.{none_is}
use Rattle.zw_thin.proofs.keys.add.Goals as goal

pub returns-then-contains_key-clause-told : goal.returns-then-contains_key-clause-told
returns-then-contains_key-clause-told c =
    key_there c.args.names.now c.args.key.name.0 c.are_distinct.ensures c.requires.key.0 c.args.keys.now.entries c.requires.keys ∙ sym c.contains_key.ensures ∙ c.if-contains_key.true

-- the key goes last
pushed : (c : goal.Joined-branch-2) → c.insert.new.self.entries ≡ c.args.keys.now.entries ++ (c.args.key.name, Some c.args.key.file) ∷ []
pushed c =
    c.in_ok-insert.ensures.entries ∙ insert_entry-new _ c.args.keys.now c.args.key.name (Some c.args.key.file) (none_is (lookup (λ m. nat_eq c.args.key.name.0 m.0) c.args.keys.now.entries) (sym c.contains_key.ensures ∙ c.if-contains_key.false))

pub returns-clause-told : goal.returns-clause-told
returns-clause-told c = (
  key_there c.args.names.now c.args.key.name.0 c.are_distinct.ensures c.requires.key.0 c.args.keys.now.entries c.requires.keys ∙ sym c.contains_key.ensures ∙ c.if-contains_key.false,
  ap (keys_seen c.args.names.now) (pushed c) ∙ map-append (key_seen c.args.names.now) c.args.keys.now.entries ((c.args.key.name, Some c.args.key.file) ∷ []),
)

pub returns-clause-named : goal.returns-clause-named
returns-clause-named c =
    All-same (KeyNamed c.args.names.now) _ _ (pushed c) (All-push (KeyNamed c.args.names.now) c.args.keys.now.entries (c.args.key.name, Some c.args.key.file) c.requires.keys (c.requires.key.0, c.requires.key.1))
