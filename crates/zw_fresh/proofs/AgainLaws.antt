-- Openings over two folders with the same boot differ in what is staged alone.
use Rattle.std.specs.Prelude.{◌≡◌, Bool, true, false, not, [], ◌∷◌, ◌++◌, codes, nat_lt, length, Option, Some, None, Result, Ok, Err, if◌then◌else◌}
use Rattle.std.specs.List.{find}
use Rattle.std.specs.Option.{option_map_or}
use Rattle.std.proofs.Common.{refl, sym, ap, ◌∙◌, subst}
use Rattle.zw_def.specs.Text.{Text}
use Rattle.zw_def.specs.Path.{Path, path_text}
use Rattle.zw_def.specs.Tree.{Tree}
use Rattle.zw_def.specs.Folder.{Listing, bytes_at}
use Rattle.zw_def.specs.ConstantPath.{constant_path_text}
use Rattle.zw_def.specs.Layout.{Root}
use Rattle.zw_def_syntax.specs.Program.{program_of}
use Rattle.zw_def_world.specs.Log.{syntax_text_in}
use Rattle.zw_def_world.specs.Load.{runs}
use Rattle.zw_def_world.specs.Act.{End}
use Rattle.zw_def_world.specs.Reload.{unloaded}
use Rattle.zw_def_world.specs.Session.{Session, with_line, line_of_end, is_value, evaluates, acted, at_end}
use Rattle.zw_def_session.specs.Commands.{reload}
use Rattle.zw_def_session.specs.Opening.{Opened, opens_with, ends_with, Words, Configuration, Refusal, past_limit, refused_configuration, first_session, refuses, bad_configuration, after_boot, leads, with_namespaces, booted, boots_text, boots_file, boots, opened_over, listed_tree, fixed_paths, opened}
use Rattle.zw_def_session.specs.Answers.{max_file}
use Rattle.zw_def_session.specs.Whole.{sets_up}
use Rattle.zw_fresh.specs.Law.{answered, WritesAlike}
use Rattle.zw_fresh.specs.Reached.{opened_again}
use Rattle.zw_fresh.specs.Places.{place_after, first_place}
use Rattle.zw_fresh.specs.Again.{SameBoot, ReloadIsOpening}
use Rattle.zw_fresh.proofs.PlaceLaws.{served_is_fresh}

-- ---- openings over another tree

abbrev over_tree : Tree → Opened → Opened
over_tree tree (opens_with s) = opens_with (record s { staged = tree })
over_tree tree (ends_with status s) = ends_with status (record s { staged = tree })

namespaces_over : (c : Configuration) (tree : Tree) (s : Session)
    → with_namespaces c (record s { staged = tree }) ≡ over_tree tree (with_namespaces c s)
namespaces_over c tree s = at (find (λ root. not (leads s.world root.namespace)) c.layout.roots)
  where
    at : (o : Option Root)
        → option_map_or (λ root. refuses (bad_configuration (codes "namespace " ++ constant_path_text root.namespace)) (record s { staged = tree })) o (opens_with (record s { staged = tree }))
        ≡ over_tree tree (option_map_or (λ root. refuses (bad_configuration (codes "namespace " ++ constant_path_text root.namespace)) s) o (opens_with s))
    at None = refl
    at (Some root) = refl

booted_over : (c : Configuration) (tree : Tree) (s : Session) (e : End)
    → booted c (record s { staged = tree }) e ≡ over_tree tree (booted c s e)
booted_over c tree s e = at (is_value e.flow) (line_of_end e)
  where
    at : (b : Bool) (line : Text)
        → (if b then with_namespaces c (after_boot (at_end e (record s { staged = tree })))
        else ends_with refused_configuration (with_line line (at_end e (record s { staged = tree }))))
        ≡ over_tree tree (if b then with_namespaces c (after_boot (at_end e s)) else ends_with refused_configuration (with_line line (at_end e s)))
    at true line = namespaces_over c tree (after_boot (at_end e s))
    at false line = refl

text_over : (c : Configuration) (tree : Tree) (path : Path) (text : Text) (s : Session)
    → boots_text c path text (record s { staged = tree }) ≡ over_tree tree (boots_text c path text s)
text_over c tree path text s =
    at (nat_lt max_file (length text)) (past_limit (codes "file " ++ path_text path)) _ _
    (booted_over c tree s (acted (runs (evaluates s) (syntax_text_in path) (program_of [] text)) s))
  where
    at : (b : Bool) (refusal : Refusal) (o o' : Opened) → o' ≡ over_tree tree o
        → (if b then refuses refusal (record s { staged = tree }) else o') ≡ over_tree tree (if b then refuses refusal s else o)
    at true refusal o o' e = refl
    at false refusal o o' e = e

file_over : (c : Configuration) (tree : Tree) (path : Path) (o : Option Text) (s : Session)
    → boots_file c path o (record s { staged = tree }) ≡ over_tree tree (boots_file c path o s)
file_over c tree path None s = refl
file_over c tree path (Some text) s = text_over c tree path text s

boots_over : (c : Configuration) (folder folder' : Listing) (tree : Tree) (o : Option Path) → SameBoot o folder folder'
    → (s : Session) → boots c folder' o (record s { staged = tree }) ≡ over_tree tree (boots c folder o s)
boots_over c folder folder' tree None same s = namespaces_over c tree (after_boot s)
boots_over c folder folder' tree (Some path) same s =
    ap (λ o. boots_file c path o (record s { staged = tree })) same
    ∙ file_over c tree path (bytes_at (path_text path) folder.files) s

-- ---- two openings

abbrev opened_session : Session → Opened → Session
opened_session other (opens_with s) = s
opened_session other (ends_with status s) = other

no_opening : {status : _} {s t : Session} → ends_with status s ≡ opens_with t → ⊥
no_opening e = cc

over_listed : (words : Words) (c : Configuration) (folder folder' : Listing) (opening again : Session)
    → SameBoot c.boot folder folder' → (o o' : Result Tree Refusal) → opened_over words c folder o ≡ opens_with opening
    → opened_over words c folder' o' ≡ opens_with again → again ≡ record opening { staged = again.staged }
over_listed words c folder folder' opening again same (Err refusal) o' e e' = absurd (no_opening e)
over_listed words c folder folder' opening again same (Ok tree) (Err refusal) e e' = absurd (no_opening e')
over_listed words c folder folder' opening again same (Ok tree) (Ok tree') e e' =
    let alike : opens_with again ≡ opens_with (record opening { staged = tree' })
    = sym e' ∙ boots_over c folder folder' tree' c.boot same (first_session words c tree) ∙ ap (over_tree tree') e in
    let is : again ≡ record opening { staged = tree' } = ap (opened_session again) alike in
    is ∙ sym (ap (λ s. record opening { staged = s.staged }) is)

-- two openings with the same boot differ in what is staged alone
pub opened_alike : (words : Words) (c : Configuration) (folder folder' : Listing) (opening again : Session)
    → opened words c folder ≡ opens_with opening → opened words c folder' ≡ opens_with again
    → SameBoot c.boot folder folder' → again ≡ record opening { staged = again.staged }
opened_alike words c folder folder' opening again e e' same =
    over_listed words c folder folder' opening again same (listed_tree (fixed_paths c) folder)
    (listed_tree (fixed_paths c) folder') e e'

-- ---- the law

pub is_again : (words : Words) (c : Configuration) (folder folder' : Listing) (opening again : Session)
    → opened words c folder ≡ opens_with opening → opened words c folder' ≡ opens_with again
    → SameBoot c.boot folder folder' → (tree : Tree) → again.staged ≡ tree → opened_again opening tree again.out ≡ again
is_again words c folder folder' opening again e e' same tree mounts =
    let is = opened_alike words c folder folder' opening again e e' same in
    (λ k. record opening { staged = sym mounts k; out = ap (λ t. t.out) is k }) ∙ sym is

pub reload_is_opening : ReloadIsOpening
reload_is_opening words c folder folder' opening again e e' same may_reload bytes n commands mounts h =
    let s = (place_after n (first_place opening bytes)).session in
    subst (λ z. WritesAlike again.out ((unloaded s).out ++ codes "reloaded" ++ codes "\n") (answered commands (sets_up z))
    (answered (reload ∷ commands) s)) (is_again words c folder folder' opening again e e' same s.staged mounts)
    (served_is_fresh words c folder opening e may_reload bytes n commands again.out h)
