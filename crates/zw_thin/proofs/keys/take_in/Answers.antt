use Rattle.std.proofs.Common.{◌≡◌, ◌∙◌, sym, ap, Some, true, MatchBool, IfOk, option_map, subst}
use Rattle.zw_def.specs.Text.{is_among}
use Rattle.zw_thin.specs.File.{file_seen}
use Rattle.zw_thin.specs.Key.{key_seen, keys_seen}
use Rattle.zw_thin.specs.Start.{names_in, AddsKey}
use Rattle.zw_thin.proofs.NamedLemmas.{keys_grown}
use Rattle.zw_thin.proofs.StartLemmas.{takes}
use Rattle.zw_thin.proofs.keys.take_in.Goals as goal

pub returns-in-Some-clause-taken : goal.returns-in-Some-clause-taken
returns-in-Some-clause-taken c =
    let names = c.read.new.names in
    let old = c.args.keys.now.entries in
    let key = key_seen names (c.in-Some.key.name, Some c.in-Some.key.file) in
    takes c.args.root.now c.args.expected c.args.names.now (file_seen c.args.file.now) key (keys_seen c.args.names.now old) (keys_seen names c.add.new.keys.entries) c.add.result
    (subst (λ ks. IfOk c.add.result (λ added. MatchBool added (AddsKey key ks (keys_seen names c.add.new.keys.entries)) (is_among (names_in ks) key.name ≡ true))) (sym (keys_grown c.args.names.now names old c.in_ok-read.ensures.grows c.requires.named)) c.add.ensures.told)
    (λ front is. ap (option_map (λ k. key_seen names (k.name, Some k.file))) (sym c.in-Some.is) ∙ c.in_ok-read.ensures.told front is)
