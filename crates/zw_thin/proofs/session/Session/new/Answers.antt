use Rattle.std.proofs.Common.{◌≡◌, ◌++◌, ◌∷◌, [], true, MatchBool, Some, map, drop, ◌+◌, ◌∙◌, ap, sym, rules, subst, append_assoc, append-nil}
use Rattle.std.specs.List.{filter_map, cons_option}
use Rattle.std.proofs.lemmas.List.{map-append, drop_all}
use Rattle.zw_def_thin.specs.Map.{visible}
use Rattle.zw_def.specs.Path.{is_below}
use Rattle.zw_def_thin.specs.Built.{first_other_from, expected_names}
use Rattle.zw_def.proofs.NameLemmas.{OnlyGrows-trans}
use Rattle.zw_thin.specs.File.{file_seen}
use Rattle.zw_thin.specs.Key.{keys_seen}
use Rattle.zw_thin.specs.Start.{names_in, first_key, with_names, TakesKey, HasNoKey}
use Rattle.zw_thin.specs.Class.{classes_seen}
use Rattle.zw_thin.specs.World.{StandsFor}
use Rattle.zw_def_thin.specs.Evaluation.{world_at}
use Rattle.zw_thin.proofs.StartLemmas.{among_made, first_key_same, front, goes_on, refused, starts}
use Rattle.zw_thin.proofs.session.Session.new.Goals as goal

pub returns-then-not-branch-clause-refused : goal.returns-then-not-branch-clause-refused
returns-then-not-branch-clause-refused c =
    let root = c.args.root.now in
    let names = expected_names root (visible root (map file_seen c.args.files.now)) in
    let made = with_names [] names in
    let old = keys_seen c.loop-file.names c.loop-file.keys.entries in
    let new = keys_seen c.take_in.new.names c.take_in.new.keys.entries in
    let file = file_seen c.file-item.result in
    let rest = visible root (map file_seen (drop (c.loop-file.file-index + 1) c.args.files.now)) in
    let below : is_below file.path root ≡ true = search rules in
    let at = front root _ c.loop-file.file-index c.file-item.result c.loop-file-test.true c.file-item.is below in
    let none : HasNoKey root made file old = subst (λ b. MatchBool b (TakesKey root made file old new) (HasNoKey root made file old)) c.if-not-branch.true (c.in_ok-take_in.ensures.taken made c.loop-file.invariant.made) in
    sym c.loop-file.invariant.other
    ∙ ap (first_other_from root names (names_in old)) at
    ∙ refused root names (names_in old) file rest (λ key is. none key (first_key_same root made names file (among_made [] names) ∙ is))
    ∙ ap Some (sym c.in_ok-path.ensures)

pub loop-file-preserved : goal.loop-file-preserved
loop-file-preserved c =
    let root = c.args.root.now in
    let names = expected_names root (visible root (map file_seen c.args.files.now)) in
    let made = with_names [] names in
    let old = keys_seen c.loop-file.names c.loop-file.keys.entries in
    let new = keys_seen c.take_in.new.names c.take_in.new.keys.entries in
    let file = file_seen c.file-item.result in
    let rest = visible root (map file_seen (drop (c.loop-file.file-index + 1) c.args.files.now)) in
    let below : is_below file.path root ≡ true = search rules in
    let at = front root _ c.loop-file.file-index c.file-item.result c.loop-file-test.true c.file-item.is below in
    let takes : TakesKey root made file old new = subst (λ b. MatchBool b (TakesKey root made file old new) (HasNoKey root made file old)) c.if-not-branch.false (c.in_ok-take_in.ensures.taken made c.loop-file.invariant.made) in
    let key = takes.0 in
    let is : first_key root names file ≡ Some key = sym (first_key_same root made names file (among_made [] names)) ∙ takes.1 in
    let pushed : new ≡ old ++ key ∷ [] = takes.2.1 in
    record {
      made = (c.loop-file.invariant.made.0, OnlyGrows-trans made c.loop-file.names c.take_in.new.names c.loop-file.invariant.made.1 c.in_ok-take_in.ensures.grows);
      named = c.in_ok-take_in.ensures.named;
      other =
          ap (λ earlier. first_other_from root names earlier rest) (ap names_in pushed ∙ map-append (λ k. k.name) old (key ∷ []))
          ∙ sym (goes_on root names (names_in old) file rest key is takes.2.0)
          ∙ sym (ap (first_other_from root names (names_in old)) at)
          ∙ c.loop-file.invariant.other;
      keys =
          ap (λ l. l ++ filter_map (first_key root names) rest) pushed
          ∙ append_assoc old (key ∷ []) (filter_map (first_key root names) rest)
          ∙ ap (λ o. old ++ cons_option o (filter_map (first_key root names) rest)) (sym is)
          ∙ sym (ap (λ l. old ++ filter_map (first_key root names) l) at)
          ∙ c.loop-file.invariant.keys;
    }

pub returns-clause-ok : goal.returns-clause-ok
returns-clause-ok c =
    let root = c.args.root.now in
    let tree = (map file_seen c.args.files.now) in
    let names = expected_names root (visible root tree) in
    let keys = keys_seen c.loop-file.names c.loop-file.keys.entries in
    let done : drop c.loop-file.file-index c.args.files.now ≡ [] = drop_all c.loop-file.file-index c.args.files.now c.loop-file-test.false in
    let none = sym c.loop-file.invariant.other ∙ ap (λ l. first_other_from root names (names_in keys) (visible root (map file_seen l))) done in
    let is = sym (append-nil keys) ∙ sym (ap (λ l. keys ++ filter_map (first_key root names) (visible root (map file_seen l))) done) ∙ c.loop-file.invariant.keys in
    subst (λ l. StandsFor (world_at root tree) (record { keys = keys; table = classes_seen c.loop-file.names l })) (sym c.new-classes.ensures.empty) (starts root tree keys none is)
