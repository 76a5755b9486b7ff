-- The log, programs, callbacks and loads, where no key is stated.
use Rattle.std.specs.Prelude.{◌≡◌, Bool, false, List, [], ◌∷◌, ◌++◌, codes, filter, Option, Some, None, Ok, Err}
use Rattle.std.specs.Option.{option_map}
use Rattle.std.proofs.Common.{refl, sym, ap, ◌∙◌, subst}
use Rattle.zw_def.specs.Text.{Text}
use Rattle.zw_def.specs.Path.{Path}
use Rattle.zw_def.specs.ConstantPath.{ConstantPath}
use Rattle.zw_def.specs.Expected.{WrongName, wrong_name_text}
use Rattle.zw_def.specs.Map.{Key, KeyKind, file_at, directory}
use Rattle.zw_def.specs.Wrong.{wrong_below}
use Rattle.zw_def_syntax.specs.Tree.{Tree as Node, Program}
use Rattle.zw_def_syntax.specs.Token.{Fault}
use Rattle.zw_def_syntax.specs.Program.{Parsed, program_of}
use Rattle.zw_def_world.specs.Id.{Id}
use Rattle.zw_def_world.specs.Value.{Value, nil}
use Rattle.zw_def_world.specs.Table.{at}
use Rattle.zw_def_world.specs.Record.{Module, new_module, with_constant, without_constant}
use Rattle.zw_def_world.specs.World.{gone, is_idle, with_state, entered, left_load, begun, settled, taken_back, without_home, fresh, with_module}
use Rattle.zw_def_world.specs.Callback.{Callback, on_load, callbacks_for}
use Rattle.zw_def_world.specs.Frame.{top_frame}
use Rattle.zw_def_world.specs.Log.{logs_line, logs_each, is_child_of, opens, loaded_text, syntax_text_in, not_defined_text}
use Rattle.zw_def_world.specs.Load.{wrong_or_act, unless_wrong, makes_module, forgets, replaces, sets_in, sets, all_of, runs_program, runs, text_of, runs_file, callback_locals, runs_callback, runs_callbacks, after_loading, is_done, settles, takes_out, takes_back, finishes, leaves_load, loads_file, makes_namespace, loads_kind, loads}
use Rattle.zw_def_world.specs.Act.{Act, Point, Flow, gave, raised, broken, skipped, returned, out_of_steps, too_deep, lost, framed, in_world, changing, ◌>>◌}
use Rattle.zw_def_world.proofs.EvolutionLaws.{keeping, if_keeps, gives_keeps, writes_keeps, both_keep, state_keeps, module_made_keeps, in_world_keeps}
use Rattle.zw_def_world.proofs.LoadLaws.{logs_each_keeps, wrong_or_act_keeps, forgets_keeps, sets_in_keeps, all_of_keeps, runs_keeps, runs_program_keeps, runs_callbacks_keeps, settles_keeps, takes_out_keeps, finishes_keeps, leaves_load_keeps}
use Rattle.zw_fresh.specs.Renaming.{Names, lifted, ren, ren_flow, ren_table, ren_module}
use Rattle.zw_fresh.specs.Alike.{Setting, Renamed, Found, Points, Ends, Acts}
use Rattle.zw_fresh.specs.Naming.{ProgramNamesNone, ParsedNamesNone, no_old}
use Rattle.zw_fresh.proofs.GrowingLaws.{map_there}
use Rattle.zw_fresh.proofs.EndLaws.{Spends}
use Rattle.zw_fresh.proofs.ActLaws.{Alike, ends_alike, gives_alike, both_alike, on_alike, then_alike, if_alike, in_world_alike, reading_alike, framed_alike, writes_alike, paid_alike}
use Rattle.zw_fresh.proofs.TableLemmas.{assigned-made, removed-made, at-made}
use Rattle.zw_fresh.proofs.TextLaws.{as_it_is}
use Rattle.zw_fresh.proofs.WorldLaws.{fresh_module}
use Rattle.zw_fresh.proofs.FaultLaws.{fails_alike}
use Rattle.zw_fresh.proofs.FrameLaws.{top_frames}
use Rattle.zw_fresh.proofs.KeyLaws.{state_same, entered_same, left_same, begun_same, settled_same, taken_back_same, with_module_same, key_of_same, changes_alike, in_record_alike, changing_module_alike}
use Rattle.zw_fresh.proofs.CallLaws.{Evaluates}
use Rattle.zw_fresh.proofs.NamingLaws.{program_free, parsed_free}
use Rattle.zw_fresh.proofs.PlainLaws.{always_plain}

-- what is found, where what is asked is the same there
same_found : {A : Type 0} {o o' : Option A} → o' ≡ o → Found false as_it_is o o'
same_found {A} {o} {o'} e = record { so = at o e }
  where
    at : (o : Option A) → o' ≡ o → Renamed false as_it_is o o'
    at None e = e
    at (Some x) e = e

module _ {S : Setting false} {old : Text → Bool} where
  -- ---- the log

  pub logs_line_alike : (line : Text) → Alike S old (logs_line line) (logs_line line)
  logs_line_alike line = in_world_alike as_it_is (λ w w' W. ap (λ s. s.logs) W.setting)
      (λ b. if_alike b (writes_alike (codes ". " ++ line)) (gives_alike nil))
      (λ b. if_keeps b (writes_keeps (codes ". " ++ line)) (gives_keeps nil))

  logs_each_alike : (keys : List Key) → Alike S old (logs_each keys) (logs_each keys)
  logs_each_alike [] = gives_alike nil
  logs_each_alike (k ∷ ks) = both_alike (logs_line_alike _) (logs_each_alike ks)

  pub opens_alike : (p : ConstantPath) → Alike S old (opens p) (opens p)
  opens_alike p =
      in_world_alike as_it_is (λ w w' W. ap (filter (is_child_of p)) W.map) logs_each_alike logs_each_keeps

  -- ---- namespaces, making and setting

  wrong_or_alike : {m m' : Act} → Alike S old m m' → (o : Option WrongName)
      → Alike S old (wrong_or_act m o) (wrong_or_act m' o)
  wrong_or_alike a None = a
  wrong_or_alike a (Some wrong) = fails_alike 29 refl (wrong_name_text wrong)

  pub unless_wrong_alike : (p : ConstantPath) {m m' : Act} → Alike S old m m'
      → Alike S old (unless_wrong p m) (unless_wrong p m')
  unless_wrong_alike p a = in_world_alike as_it_is (λ w w' W k. wrong_below (W.setting k).layout (W.tree k) p)
      (wrong_or_alike a) (wrong_or_act_keeps a.spends)

  pub makes_module_alike : (made : Module) (i : Id) (n : Text) {k k' : Id → Act}
      → ((j : Id) → Alike S old (k j) (k' (lifted S.lift j))) → ((j : Id) → Spends (k' j))
      → Alike S old (makes_module made i n k) (makes_module (ren_module S.lift made) (lifted S.lift i) n k')
  makes_module_alike made i n {k} {k'} b l = in_record_alike i _ _
      (λ m. one) (λ m. in_world_keeps fresh makes_one)
    where
      makes_one : (j : Id) → Spends (changing (with_module (lifted S.lift i) n (ren_module S.lift made)) nil >> k' j)
      makes_one j = both_keep (module_made_keeps (lifted S.lift i) n (ren_module S.lift made) nil) (l j)

      one_acts : Acts false S old (in_world fresh (λ j. changing (with_module i n made) nil >> k j))
          (in_world fresh (λ j. changing (with_module (lifted S.lift i) n (ren_module S.lift made)) nil >> k' j))
      one_acts p p' P = λ inside.
          let q : Point = record p { world = with_module i n made p.world } in
          let named = fresh_module P.world i n made
          (S.within_before _ _ ((b (fresh p.world)).grows.kept q) inside) in
          let Q : Points false S old q
          (record p' { world = with_module (lifted S.lift i) n (ren_module S.lift made) p'.world }) = record {
            world = with_module_same P.world i n made named;
            frame = P.frame;
            plain = tt;
            left = P.left;
            out = P.out;
          } in
          subst (λ j. Ends false S old (k (fresh p.world) q)
          (k' j (record p' { world = with_module (lifted S.lift i) n (ren_module S.lift made) p'.world })))
          (sym named) ((b (fresh p.world)).acts q _ Q) inside

      one : Alike S old (in_world fresh (λ j. changing (with_module i n made) nil >> k j))
          (in_world fresh (λ j. changing (with_module (lifted S.lift i) n (ren_module S.lift made)) nil >> k' j))
      one = record {
        acts = one_acts;
        grows = in_world_keeps fresh (λ j. both_keep (module_made_keeps i n made nil) (b j).grows);
        spends = in_world_keeps fresh makes_one;
      }

  forgets_alike : (o : Option Key) → Alike S old (forgets o) (forgets o)
  forgets_alike None = gives_alike nil
  forgets_alike (Some k) = in_world_alike as_it_is (λ w w' W. W.states k.path)
      (λ s. if_alike (is_idle s) (changes_alike (with_state k.path gone) (with_state k.path gone)
      (λ w w' W. state_same W k.path gone) (λ w j h. h) nil) (gives_alike nil))
      (λ s. if_keeps (is_idle s) (state_keeps k.path gone nil) (gives_keeps nil))

  replaces_alike : (p : ConstantPath) (n : Text) (o : Option Value)
      → Alike S old (replaces p n o) (replaces p n (option_map (ren S.lift) o))
  replaces_alike p n None = gives_alike nil
  replaces_alike p n (Some v) = logs_line_alike _

  sets_in_alike : (i : Id) (n : Text) (v : Value) (m : Module)
      → Alike S old (sets_in i n v m) (sets_in (lifted S.lift i) n (ren S.lift v) (ren_module S.lift m))
  sets_in_alike i n v m =
      both_alike (both_alike (in_world_alike as_it_is (λ w w' W. key_of_same W m.home n) forgets_alike forgets_keeps)
      (subst (λ o. Alike S old (replaces m.path n (at n m.constants)) (replaces m.path n o))
      (sym (at-made (ren S.lift) n m.constants)) (replaces_alike m.path n (at n m.constants))))
      (changing_module_alike i (with_constant n v) (with_constant n (ren S.lift v)) (λ m.
      ap (λ t. record (ren_module S.lift m) { constants = t }) (assigned-made (ren S.lift) n v m.constants)) v)

  pub sets_alike : (i : Id) (n : Text) (v : Value)
      → Alike S old (sets i n v) (sets (lifted S.lift i) n (ren S.lift v))
  sets_alike i n v = in_record_alike i _ _ (sets_in_alike i n v) (sets_in_keeps (lifted S.lift i) n (ren S.lift v))

-- ---- programs, files and callbacks

locals_same : (f : Names) (k : Key) (o : Option Value)
    → callback_locals k (option_map (ren f) o) ≡ ren_table f (callback_locals k o)
locals_same f k None = refl
locals_same f k (Some v) = refl

module _ {S : Setting false} {go : Node → Act} (E : Evaluates S go) where
  all_of_alike : (old : Text → Bool) (v : Value) (program : Program) → ProgramNamesNone old program
      → Alike S old (all_of go v program) (all_of go (ren S.lift v) program)
  all_of_alike old v [] h = gives_alike v
  all_of_alike old v (s ∷ ss) h =
      on_alike (E.alike old s.tree h.0 (always_plain s.tree)) (λ u. all_of_alike old u ss h.1) (λ u. all_of_keeps E.spends u ss)

  pub runs_program_alike : (old : Text → Bool) (program : Program) → ProgramNamesNone old program
      → Alike S old (runs_program go program) (runs_program go program)
  runs_program_alike old program h = all_of_alike old nil program h

  pub runs_alike : (old : Text → Bool) (fault_text : Fault → Text) (parsed : Parsed) → ParsedNamesNone old parsed
      → Alike S old (runs go fault_text parsed) (runs go fault_text parsed)
  runs_alike old fault_text (Ok program) h = runs_program_alike old program h
  runs_alike old fault_text (Err fault) h = fails_alike 15 refl (fault_text fault)

  module _ {old : Text → Bool} where
    runs_file_alike : (path : Path) → Alike S old (runs_file go path) (runs_file go path)
    runs_file_alike path = reading_alike (λ w w' W. same_found (ap (λ t. text_of t path) W.tree))
        (λ t. framed_alike (top_frames S []) tt (runs_alike no_old (syntax_text_in path) (program_of [] t) (parsed_free (program_of [] t))))
        (λ t. search (keeping, runs_keeps, E.spends))

    pub runs_callback_alike : (k : Key) (i : Id) (n : Text) (c : Callback)
        → Alike S old (runs_callback go k i n c) (runs_callback go k (lifted S.lift i) n c)
    runs_callback_alike k i n c = in_record_alike i _ _ (λ m.
        subst (λ l. Alike S old (framed (top_frame (callback_locals k (at n m.constants))) (runs_program go c.program))
        (framed (top_frame l) (runs_program go c.program)))
        (sym (ap (callback_locals k) (at-made (ren S.lift) n m.constants) ∙ locals_same S.lift k (at n m.constants)))
        (framed_alike (top_frames S (callback_locals k (at n m.constants))) tt (runs_program_alike no_old c.program (program_free c.program))))
        (λ m. search (keeping, runs_program_keeps, E.spends))

    runs_callbacks_alike : (k : Key) (i : Id) (n : Text) (cs : List Callback)
        → Alike S old (runs_callbacks go k i n cs) (runs_callbacks go k (lifted S.lift i) n cs)
    runs_callbacks_alike k i n [] = gives_alike nil
    runs_callbacks_alike k i n (c ∷ cs) = both_alike (runs_callback_alike k i n c) (runs_callbacks_alike k i n cs)

    after_loading_alike : (k : Key) (i : Id) (n : Text)
        → Alike S old (after_loading go k i n) (after_loading go k (lifted S.lift i) n)
    after_loading_alike k i n = in_world_alike as_it_is
        (λ w w' W. ap (λ s. callbacks_for on_load k.path s.callbacks) W.setting) (runs_callbacks_alike k i n)
        (runs_callbacks_keeps E.spends k (lifted S.lift i) n)

    -- ---- loads

    is_done_alike : (k : Key) (i : Id) (n : Text) → Alike S old (is_done go k i n) (is_done go k (lifted S.lift i) n)
    is_done_alike k i n =
        both_alike (both_alike (changes_alike (settled k.path i) (settled k.path (lifted S.lift i))
        (λ w w' W. settled_same W k.path i) (λ w j h. h) nil) (logs_line_alike (loaded_text k.path k.kind))) (after_loading_alike k i n)

    settles_alike : (k : Key) (i : Id) (n : Text) (path : Path) (o : Option Value)
        → Alike S old (settles go k i n path o) (settles go k (lifted S.lift i) n path (option_map (ren S.lift) o))
    settles_alike k i n path (Some v) = is_done_alike k i n
    settles_alike k i n path None = both_alike (changes_alike (with_state k.path gone) (with_state k.path gone)
        (λ w w' W. state_same W k.path gone) (λ w j h. h) nil) (fails_alike 29 refl (not_defined_text k.path path))

    takes_out_alike : (q : ConstantPath) (i : Id) (n : Text) (o : Option Value)
        → Alike S old (takes_out q i n o) (takes_out q (lifted S.lift i) n (option_map (ren S.lift) o))
    takes_out_alike q i n None = gives_alike nil
    takes_out_alike q i n (Some v) = both_alike
        (changing_module_alike i (without_constant n) (without_constant n) (λ m.
        ap (λ t. record (ren_module S.lift m) { constants = t }) (removed-made (ren S.lift) n m.constants)) nil)
        (logs_line_alike _)

    takes_back_alike : (k : Key) (i : Id) (n : Text) → Alike S old (takes_back k i n) (takes_back k (lifted S.lift i) n)
    takes_back_alike k i n = both_alike (in_record_alike i _ _ (λ m.
        subst (λ o. Alike S old (takes_out k.path i n (at n m.constants)) (takes_out k.path (lifted S.lift i) n o))
        (sym (at-made (ren S.lift) n m.constants)) (takes_out_alike k.path i n (at n m.constants)))
        (λ m. takes_out_keeps k.path (lifted S.lift i) n (at n m.constants)))
        (changes_alike (taken_back k.path) (taken_back k.path) (λ w w' W. taken_back_same W k.path)
        (λ w j h. map_there (without_home k.path) (w.modules j) h) nil)

    finishes_alike : (k : Key) (i : Id) (n : Text) (path : Path) (f : Flow)
        → Alike S old (finishes go k i n path f) (finishes go k (lifted S.lift i) n path (ren_flow S.lift f))
    finishes_alike k i n path (gave v) = in_record_alike i _ _ (λ m.
        subst (λ o. Alike S old (settles go k i n path (at n m.constants)) (settles go k (lifted S.lift i) n path o))
        (sym (at-made (ren S.lift) n m.constants)) (settles_alike k i n path (at n m.constants)))
        (λ m. settles_keeps E.spends k (lifted S.lift i) n path (at n m.constants))
    finishes_alike k i n path lost = ends_alike lost
    finishes_alike k i n path (raised id) = both_alike (takes_back_alike k i n) (ends_alike (raised id))
    finishes_alike k i n path broken = both_alike (takes_back_alike k i n) (ends_alike broken)
    finishes_alike k i n path skipped = both_alike (takes_back_alike k i n) (ends_alike skipped)
    finishes_alike k i n path (returned v) = both_alike (takes_back_alike k i n) (ends_alike (returned v))
    finishes_alike k i n path out_of_steps = both_alike (takes_back_alike k i n) (ends_alike out_of_steps)
    finishes_alike k i n path too_deep = both_alike (takes_back_alike k i n) (ends_alike too_deep)

    leaves_load_alike : (f : Flow) → Alike S old (leaves_load f) (leaves_load (ren_flow S.lift f))
    leaves_load_alike f =
        both_alike (changes_alike left_load left_load (λ w w' W. left_same W) (λ w j h. h) nil) (ends_alike f)

    loads_file_alike : (k : Key) (i : Id) (n : Text) (path : Path)
        → Alike S old (loads_file go k i n path) (loads_file go k (lifted S.lift i) n path)
    loads_file_alike k i n path =
        then_alike tt (then_alike tt (both_alike (changes_alike (begun k.path) (begun k.path)
        (λ w w' W. begun_same W k.path) (λ w j h. h) nil) (runs_file_alike path)) (finishes_alike k i n path)
        (finishes_keeps E.spends k (lifted S.lift i) n path)) leaves_load_alike leaves_load_keeps

    makes_namespace_alike : (k : Key) (i : Id) (n : Text)
        → Alike S old (makes_namespace go k i n) (makes_namespace go k (lifted S.lift i) n)
    makes_namespace_alike k i n =
        then_alike tt (both_alike (changes_alike (entered k.path) (entered k.path) (λ w w' W. entered_same W k.path) (λ w j h. h) nil)
        (makes_module_alike (new_module false k.path None (Some k.path)) i n
        (λ j. both_alike (opens_alike k.path) (is_done_alike k i n))
        (λ j. (both_alike (opens_alike k.path) (is_done_alike k i n)).spends))) leaves_load_alike leaves_load_keeps

    loads_kind_alike : (k : Key) (i : Id) (n : Text) (kind : KeyKind)
        → Alike S old (loads_kind go k i n kind) (loads_kind go k (lifted S.lift i) n kind)
    loads_kind_alike k i n (file_at path) = loads_file_alike k i n path
    loads_kind_alike k i n directory = unless_wrong_alike k.path (makes_namespace_alike k i n)

    pub loads_alike : (k : Key) (i : Id) (n : Text) → Alike S old (loads go k i n) (loads go k (lifted S.lift i) n)
    loads_alike k i n = paid_alike 1 (loads_kind_alike k i n k.kind)
