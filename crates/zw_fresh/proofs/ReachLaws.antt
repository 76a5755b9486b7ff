-- Each session that commands reach from an opening is as the law asks for.
use Rattle.std.specs.Prelude.{◌≡◌, Bool, true, false, not, List, [], ◌∷◌, ◌++◌, codes, nat_lt, length, Option, Some, None, Result, Ok, Err, if◌then◌else◌}
use Rattle.std.specs.List.{find}
use Rattle.std.specs.Option.{option_map_or}
use Rattle.std.proofs.Common.{refl, sym, ap, ◌∙◌, subst}
use Rattle.zw_def.specs.Text.{Text}
use Rattle.zw_def.specs.Path.{Path, path_text}
use Rattle.zw_def.specs.Tree.{Tree}
use Rattle.zw_def.specs.Folder.{Listing, bytes_at}
use Rattle.zw_def.specs.ConstantPath.{constant_path_text}
use Rattle.zw_def.specs.Layout.{Root}
use Rattle.zw_def_syntax.specs.Token.{Fault}
use Rattle.zw_def_syntax.specs.Program.{Parsed, program_of}
use Rattle.zw_def_world.specs.World.{Setting as WorldSetting, all_frozen}
use Rattle.zw_def_world.specs.Log.{syntax_text, syntax_text_in}
use Rattle.zw_def_world.specs.Load.{runs}
use Rattle.zw_def_world.specs.Act.{End}
use Rattle.zw_def_world.specs.Evaluation.{run}
use Rattle.zw_def_world.specs.Session.{Session, is_value, evaluates, acted, at_end}
use Rattle.zw_def_world.specs.Reload.{unloaded}
use Rattle.zw_def_world.proofs.LoadLaws.{runs_keeps}
use Rattle.zw_def_world.proofs.EvaluationLaws.{run_keeps}
use Rattle.zw_def_session.specs.Commands.{Command, reload}
use Rattle.zw_def_session.specs.Answers.{answer, max_file, reloads, refuses_reload}
use Rattle.zw_def_session.specs.Opening.{Status, Opened, opens_with, ends_with, Words, Configuration, Refusal, settings_of, first_session, refuses, past_limit, bad_configuration, after_boot, leads, with_namespaces, booted, boots_text, boots_file, boots, opened_over, listed_tree, fixed_paths, opened}
use Rattle.zw_def_session.specs.Whole.{sets_up}
use Rattle.zw_fresh.specs.Setups.{Past}
use Rattle.zw_fresh.specs.Fresh.{fresh_session}
use Rattle.zw_fresh.specs.Law.{CameFrom, answered, WritesAlike}
use Rattle.zw_fresh.specs.Named.{NameNone}
use Rattle.zw_fresh.specs.Reached.{Onward, opened_again, ReachedIsFresh}
use Rattle.zw_fresh.proofs.SetupLaws.{acts_stay_past}
use Rattle.zw_fresh.proofs.BootLaws.{boot_end}
use Rattle.zw_fresh.proofs.CoreLaws.{world_past}
use Rattle.zw_fresh.proofs.InstanceLaws.{frozen_past, boot_came}
use Rattle.zw_fresh.proofs.OnwardLaws.{both_onward, unloaded_within}
use Rattle.zw_fresh.proofs.AnswerLaws.{sets_up_within, answered_onward}
use Rattle.zw_fresh.proofs.EveryLaws.{reload_is_fresh}

-- ---- openings

abbrev pub setting_of : Words → Configuration → WorldSetting
setting_of words c = record { layout = c.layout; callbacks = c.callbacks; logs = words.logs }

-- what boot left, as a session opens with it
record Opening (words : Words) (c : Configuration) (s : Session) : Type 0 where
  pub fault_text : Fault → Text
  pub parsed : Parsed
  pub image : s.image ≡ all_frozen (boot_end (setting_of words c) words.budget fault_text parsed).at.world
  pub world : s.world ≡ s.image
  pub settings : s.settings ≡ settings_of words c
  pub variables : s.variables ≡ []
  pub up : s.is_down ≡ false

abbrev Openings : Words → Configuration → Opened → Type 0
Openings words c (opens_with s) = Opening words c s
Openings words c (ends_with status s) = Unit {0}

module _ (words : Words) (c : Configuration) where
  namespaces_open : (s : Session) → Opening words c s → Openings words c (with_namespaces c s)
  namespaces_open s h = at (find (λ root. not (leads s.world root.namespace)) c.layout.roots)
    where
      at : (o : Option Root) → Openings words c
          (option_map_or (λ root. refuses (bad_configuration (codes "namespace " ++ constant_path_text root.namespace)) s) o (opens_with s))
      at None = h
      at (Some root) = tt

  booted_open : (s : Session) (e : End) → Opening words c (after_boot (at_end e s)) → Openings words c (booted c s e)
  booted_open s e h = at (is_value e.flow) _ _
    where
      at : (b : Bool) (status : Status) (t : Session)
          → Openings words c (if b then with_namespaces c (after_boot (at_end e s)) else ends_with status t)
      at true status t = namespaces_open _ h
      at false status t = tt

  text_opens : (path : Path) (text : Text) (tree : Tree) → Openings words c (boots_text c path text (first_session words c tree))
  text_opens path text tree =
      let s = first_session words c tree in
      let booting = booted_open s (acted (runs (evaluates s) (syntax_text_in path) (program_of [] text)) s) (record {
        fault_text = syntax_text_in path;
        parsed = program_of [] text;
        image = refl;
        world = refl;
        settings = refl;
        variables = refl;
        up = refl;
      }) in
      at (nat_lt max_file (length text)) (past_limit (codes "file " ++ path_text path)) _ booting
    where
      at : (b : Bool) (refusal : Refusal) (o : Opened) → Openings words c o
          → Openings words c (if b then refuses refusal (first_session words c tree) else o)
      at true refusal o h = tt
      at false refusal o h = h

  file_opens : (path : Path) (o : Option Text) (tree : Tree) → Openings words c (boots_file c path o (first_session words c tree))
  file_opens path None tree = tt
  file_opens path (Some text) tree = text_opens path text tree

  boots_open : (folder : Listing) (o : Option Path) (tree : Tree) → Openings words c (boots c folder o (first_session words c tree))
  boots_open folder None tree = namespaces_open (after_boot (first_session words c tree)) (record {
    fault_text = syntax_text;
    parsed = Ok [];
    image = refl;
    world = refl;
    settings = refl;
    variables = refl;
    up = refl;
  })
  boots_open folder (Some path) tree = file_opens path (bytes_at (path_text path) folder.files) tree

  all_open : (folder : Listing) (o : Result Tree Refusal) → Openings words c (opened_over words c folder o)
  all_open folder (Ok tree) = boots_open folder c.boot tree
  all_open folder (Err refusal) = tt

  opening_of : (folder : Listing) (s : Session) → opened words c folder ≡ opens_with s → Opening words c s
  opening_of folder s e = subst (Openings words c) e (all_open folder (listed_tree (fixed_paths c) folder))

-- ---- worlds that came from an opening

opening_past : (words : Words) (c : Configuration) (s : Session) → Opening words c s → Past s.world
opening_past words c s O = subst Past (sym (O.world ∙ O.image)) (frozen_past _
    (acts_stay_past (runs (run words.budget 0) O.fault_text O.parsed)
    (λ E. runs_keeps (run_keeps {E = E} words.budget 0) O.fault_text O.parsed) _ (world_past (setting_of words c))))

-- what goes on from an opening came from its image
onward_came : (words : Words) (c : Configuration) (opening s : Session) → Opening words c opening → Onward opening s
    → (tree : Tree) → CameFrom opening.image s.world tree
onward_came words c opening s O A tree =
    subst (λ image. CameFrom image s.world tree) (sym O.image)
    (boot_came (setting_of words c) words.budget O.fault_text O.parsed s.world tree
    (A.past (opening_past words c opening O)) (A.setting ∙ ap (λ w. w.setting) (O.world ∙ O.image)))

-- so did each session that goes on from it, as its world is unloaded
pub reached_came : (words : Words) (c : Configuration) (folder : Listing) (opening s : Session)
    → opened words c folder ≡ opens_with opening → Onward opening s
    → CameFrom (unloaded s).image (unloaded s).world (unloaded s).staged
reached_came words c folder opening s e A =
    let far = both_onward A (unloaded_within s).onward in
    subst (λ image. CameFrom image (unloaded s).world (unloaded s).staged) (sym far.image)
    (subst (CameFrom opening.image (unloaded s).world) (sym (unloaded_within s).staged)
    (onward_came words c opening (unloaded s) (opening_of words c folder opening e) far s.staged))

-- each session that commands reach goes on from the opening
pub commands_onward : (opening : Session) (commands : List Command) → Onward opening (answered commands (sets_up opening))
commands_onward opening commands = both_onward (sets_up_within opening).onward (answered_onward commands (sets_up opening))

-- ---- the law

-- an opened session is a fresh process
again_fresh : (words : Words) (c : Configuration) (s : Session) → Opening words c s → (tree : Tree) (front : Text)
    → opened_again s tree front ≡ fresh_session s.image s.settings tree front
again_fresh words c s O tree front = λ k. record {
  world = O.world k;
  variables = O.variables k;
  staged = tree;
  image = s.image;
  is_down = O.up k;
  settings = s.settings;
  out = front;
}

-- what a reload sets up is what a process sets up that opens again
pub begins_again : (words : Words) (c : Configuration) (folder : Listing) (opening s : Session)
    → opened words c folder ≡ opens_with opening → Onward opening s → (front : Text)
    → fresh_session (unloaded s).image (unloaded s).settings (unloaded s).staged front
    ≡ opened_again opening s.staged front
begins_again words c folder opening s e A front =
    let far = both_onward A (unloaded_within s).onward in
    (λ k. fresh_session (far.image k) (far.settings k) ((unloaded_within s).staged k) front)
    ∙ sym (again_fresh words c opening (opening_of words c folder opening e) s.staged front)

-- where reloading is enabled, the command reloads
pub answers_reload : (words : Words) (c : Configuration) (folder : Listing) (opening s : Session)
    → opened words c folder ≡ opens_with opening → c.reloading ≡ true → Onward opening s → answer reload s ≡ reloads s
answers_reload words c folder opening s e may_reload A =
    let O = opening_of words c folder opening e in
    ap (λ b. (if b then reloads else refuses_reload) s)
    (ap (λ settings. settings.reloading) (A.settings ∙ O.settings) ∙ may_reload)

pub onward_is_fresh : (words : Words) (c : Configuration) (folder : Listing) (opening s : Session)
    → opened words c folder ≡ opens_with opening → c.reloading ≡ true → Onward opening s → (commands : List Command)
    (front : Text) → NameNone s.variables commands
    → WritesAlike front ((unloaded s).out ++ codes "reloaded" ++ codes "\n")
    (answered commands (sets_up (opened_again opening s.staged front)))
    (answered (reload ∷ commands) s)
onward_is_fresh words c folder opening s e may_reload A commands front h =
    let told = subst (λ variables. NameNone variables commands) (sym (unloaded_within s).variables) h in
    let law = reload_is_fresh s front commands (reached_came words c folder opening s e A) told in
    subst (λ z. WritesAlike front ((unloaded s).out ++ codes "reloaded" ++ codes "\n")
    (answered commands (sets_up (opened_again opening s.staged front))) (answered commands z))
    (sym (answers_reload words c folder opening s e may_reload A))
    (subst (λ z. WritesAlike front ((unloaded s).out ++ codes "reloaded" ++ codes "\n")
    (answered commands (sets_up z)) (answered commands (reloads s)))
    (begins_again words c folder opening s e A front) law)

pub reached_is_fresh : ReachedIsFresh
reached_is_fresh words c folder opening e may_reload before commands front h =
    onward_is_fresh words c folder opening (answered before (sets_up opening)) e may_reload (commands_onward opening before)
    commands front h
