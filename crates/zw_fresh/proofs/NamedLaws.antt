-- Commands that name none of some variables, as the question says that decides it, have no node that does.
use Rattle.std.specs.Prelude.{◌≡◌, ℕ, zero, suc, ◌&&◌, ◌||◌, Bool, true, false, IsFalse, List, [], ◌∷◌, is_some, Option, Some, None, Ok, Err, if◌then◌else◌}
use Rattle.std.specs.List.{list_any}
use Rattle.std.specs.Str.{bytes_eq}
use Rattle.std.proofs.Common.{refl, sym, ap, ◌∙◌}
use Rattle.std.proofs.lemmas.Slice.Eq.{bytes_eq-Decides}
use Rattle.zw_def.specs.Text.{Text}
use Rattle.zw_def_syntax.specs.Program.{Parsed, program_of}
use Rattle.zw_def_syntax.specs.Places.{Place, at_top, loop_body, some_node, some_tree, some_perhaps, some_branch, some_base, some_part, some_rescue, some_default}
use Rattle.zw_def_syntax.specs.Tree.{Program, Tree, Trees, Perhaps, Branch, Base, Parts, Rescues, nil_node, true_node, false_node, self_node, int_node, str_node, sym_node, interp_node, array_node, local_node, ident_node, ivar_node, cvar_node, const_node, scoped_node, top_const_node, set_local, set_ivar, set_cvar, set_const, set_scoped, set_attr, call_node, self_call, super_node, zsuper_node, not_node, and_node, or_node, if_node, while_node, break_node, next_node, return_node, seq_node, begin_node, def_node, sdef_node, class_node, module_node, no_trees, tree_then, absent, present, no_branch, branch, innermost, topmost, within_node, no_parts, text_then, program_then, no_rescues, rescue_then}
use Rattle.zw_def_world.specs.Value.{Value}
use Rattle.zw_def_world.specs.Table.{Table, at}
use Rattle.zw_def_session.specs.Commands.{Command, put, del, run, reload, eager, eager_dir, eager_ns, load, expect, shadows, check, Stream, Reading, reads, refuses, skips, ends_here, over, next_command}
use Rattle.zw_def_session.specs.Commands as command
use Rattle.zw_def_session.specs.Naming.{is_outside, is_that, rescues_into, is_name_at, program_names, parsed_names, names_variable}
use Rattle.zw_fresh.specs.Fresh.{older}
use Rattle.zw_fresh.specs.Naming.{NotInto, NamesNone, AllNameNone, PerhapsNamesNone, BranchNamesNone, BaseNamesNone, PartsNameNone, RescuesNameNone, ProgramNamesNone, ParsedNamesNone}
use Rattle.zw_fresh.specs.Named.{names_in, parsed_names_one, names_one, NameNone, reading_names_one, stream_names_one, StreamNamesNone}
use Rattle.zw_fresh.proofs.NameLemmas.{apart}

-- ---- tests that fail for each older variable

neither : (a b : Bool) → (a || b) ≡ false → (a ≡ false) × (b ≡ false)
neither true b e = absurd (apart e)
neither false b e = (refl, e)

module _ (old : Text → Bool) where
  abbrev Never : (Text → Bool) → Type 0
  Never test = (x : Text) → old x ≡ true → test x ≡ false

  first : (a b : Text → Bool) → Never (λ x. a x || b x) → Never a
  first a b h x o = (neither (a x) (b x) (h x o)).0

  second : (a b : Text → Bool) → Never (λ x. a x || b x) → Never b
  second a b h x o = (neither (a x) (b x) (h x o)).1

  -- a test is made where it stands outside
  outside : (b : Bool) → b ≡ true → (a : Text → Bool) → Never (λ x. b && a x) → Never a
  outside true e a h = h
  outside false e a h = absurd (apart (sym e))

  -- it is not the name that is asked for
  not_old : (y : Text) → Never (λ x. bytes_eq x y) → IsFalse (old y)
  not_old y h = by (old y) refl
    where
      by : (b : Bool) → old y ≡ b → b ≡ false
      by true e = absurd (apart (sym ((bytes_eq-Decides y y).1 refl) ∙ h y e))
      by false e = refl

  not_into : (o : Option Text) → Never (λ x. is_that x o) → NotInto old o
  not_into None h = tt
  not_into (Some y) h = not_old y h

  -- ---- nodes outside of class, module and method bodies

  mutual
    unfolding some_node some_tree some_perhaps some_branch some_base some_part some_rescue some_default

    node_spared : (p : Place) → is_outside p ≡ true → (t : Tree) → Never (λ x. some_node (is_name_at x) p t)
        → NamesNone old t
    node_spared p out nil_node h = tt
    node_spared p out true_node h = tt
    node_spared p out false_node h = tt
    node_spared p out self_node h = tt
    node_spared p out (int_node z) h = tt
    node_spared p out (str_node t) h = tt
    node_spared p out (sym_node t) h = tt
    node_spared p out (interp_node parts) h = parts_spared p out parts (second _ _ h)
    node_spared p out (array_node items) h = all_spared p out items (second _ _ h)
    node_spared p out (local_node y) h = not_old y (outside (is_outside p) out _ h)
    node_spared p out (ident_node y) h = not_old y (outside (is_outside p) out _ h)
    node_spared p out (ivar_node y) h = tt
    node_spared p out (cvar_node y) h = tt
    node_spared p out (const_node c) h = tt
    node_spared p out (scoped_node e c) h = node_spared p out e (second _ _ h)
    node_spared p out (top_const_node c) h = tt
    node_spared p out (set_local y e) h =
        (not_old y (outside (is_outside p) out _ (first _ _ h)), node_spared p out e (second _ _ h))
    node_spared p out (set_ivar y e) h = node_spared p out e (second _ _ h)
    node_spared p out (set_cvar y e) h = node_spared p out e (second _ _ h)
    node_spared p out (set_const c e) h = node_spared p out e (second _ _ h)
    node_spared p out (set_scoped b c e) h =
        (node_spared p out b (second _ _ (first _ _ h)), node_spared p out e (second _ _ h))
    node_spared p out (set_attr r y e) h =
        (node_spared p out r (second _ _ (first _ _ h)), node_spared p out e (second _ _ h))
    node_spared p out (call_node r y args) h =
        (node_spared p out r (second _ _ (first _ _ h)), all_spared p out args (second _ _ h))
    node_spared p out (self_call y args) h = all_spared p out args (second _ _ h)
    node_spared p out (super_node args) h = all_spared p out args (second _ _ h)
    node_spared p out zsuper_node h = tt
    node_spared p out (not_node e) h = node_spared p out e (second _ _ h)
    node_spared p out (and_node a b) h =
        (node_spared p out a (second _ _ (first _ _ h)), node_spared p out b (second _ _ h))
    node_spared p out (or_node a b) h =
        (node_spared p out a (second _ _ (first _ _ h)), node_spared p out b (second _ _ h))
    node_spared p out (if_node order c a b) h =
        let tests = first _ _ (first _ _ h) in
        let either = all_spared p out a (second _ _ (first _ _ h)) in
        (node_spared p out c (second _ _ tests), either, all_spared p out b (second _ _ h))
    node_spared p out (while_node order c body) h =
        (node_spared p out c (second _ _ (first _ _ h)), all_spared (loop_body p) out body (second _ _ h))
    node_spared p out break_node h = tt
    node_spared p out next_node h = tt
    node_spared p out (return_node e) h = perhaps_spared p out e (second _ _ h)
    node_spared p out (seq_node list) h = all_spared p out list (second _ _ h)
    node_spared p out (begin_node body clauses other last) h =
        let rescued = first _ _ (first _ _ h) in
        let begun = first _ _ rescued in (
          all_spared p out body (second _ _ begun),
          rescues_spared p out clauses (outside (is_outside p) out _ (first _ _ begun)) (second _ _ rescued),
          branch_spared p out other (second _ _ (first _ _ h)),
          branch_spared p out last (second _ _ h),
        )
    node_spared p out (def_node y required optional body) h = tt
    node_spared p out (sdef_node y required optional body) h = tt
    node_spared p out (class_node base c superclass body) h =
        let named = first _ _ h in
        (base_spared p out base (second _ _ (first _ _ named)), perhaps_spared p out superclass (second _ _ named))
    node_spared p out (module_node base c body) h = base_spared p out base (second _ _ (first _ _ h))

    all_spared : (p : Place) → is_outside p ≡ true → (ts : Trees) → Never (λ x. some_tree (is_name_at x) p ts)
        → AllNameNone old ts
    all_spared p out no_trees h = tt
    all_spared p out (tree_then t ts) h = (node_spared p out t (first _ _ h), all_spared p out ts (second _ _ h))

    perhaps_spared : (p : Place) → is_outside p ≡ true → (e : Perhaps) → Never (λ x. some_perhaps (is_name_at x) p e)
        → PerhapsNamesNone old e
    perhaps_spared p out absent h = tt
    perhaps_spared p out (present e) h = node_spared p out e h

    branch_spared : (p : Place) → is_outside p ≡ true → (b : Branch) → Never (λ x. some_branch (is_name_at x) p b)
        → BranchNamesNone old b
    branch_spared p out no_branch h = tt
    branch_spared p out (branch body) h = all_spared p out body h

    base_spared : (p : Place) → is_outside p ≡ true → (b : Base) → Never (λ x. some_base (is_name_at x) p b)
        → BaseNamesNone old b
    base_spared p out innermost h = tt
    base_spared p out topmost h = tt
    base_spared p out (within_node e) h = node_spared p out e h

    parts_spared : (p : Place) → is_outside p ≡ true → (parts : Parts) → Never (λ x. some_part (is_name_at x) p parts)
        → PartsNameNone old parts
    parts_spared p out no_parts h = tt
    parts_spared p out (text_then part parts) h = parts_spared p out parts h
    parts_spared p out (program_then program parts) h =
        (all_spared p out program (first _ _ h), parts_spared p out parts (second _ _ h))

    rescues_spared : (p : Place) → is_outside p ≡ true → (r : Rescues) → Never (λ x. rescues_into x r)
        → Never (λ x. some_rescue (is_name_at x) p r) → RescuesNameNone old r
    rescues_spared p out no_rescues g h = tt
    rescues_spared p out (rescue_then paths variable body clauses) g h = (
      all_spared p out paths (first _ _ (first _ _ h)),
      not_into variable (first _ _ g),
      all_spared p out body (second _ _ (first _ _ h)),
      rescues_spared p out clauses (second _ _ g) (second _ _ h),
    )

  -- ---- programs

  program_spared : (program : Program) → Never (λ x. program_names x program) → ProgramNamesNone old program
  program_spared [] h = tt
  program_spared (s ∷ ss) h = (node_spared at_top refl s.tree (first _ _ h), program_spared ss (second _ _ h))

-- ---- commands

abbrev pub Spares : (Text → Bool) → Command → Type 0
Spares old (put path text) = Unit {0}
Spares old (del path) = Unit {0}
Spares old (run text) = ParsedNamesNone old (program_of [] text)
Spares old eager = Unit {0}
Spares old command.map = Unit {0}
Spares old reload = Unit {0}
Spares old (eager_dir path) = Unit {0}
Spares old (eager_ns p) = Unit {0}
Spares old (load path) = Unit {0}
Spares old (expect path) = Unit {0}
Spares old shadows = Unit {0}
Spares old check = Unit {0}

abbrev pub AllSpare : (Text → Bool) → List Command → Type 0
AllSpare old [] = Unit {0}
AllSpare old (c ∷ cs) = Spares old c × AllSpare old cs

-- a test that fails for each name fails for each variable that has a value
older_fails : (test : Text → Bool) (x : Text) (variables : Table Value) → list_any test (names_in variables) ≡ false
    → older variables x ≡ true → test x ≡ false
older_fails test x [] h o = absurd (apart (sym o))
older_fails test x (e ∷ es) h o = by (bytes_eq x e.0) refl o (older_fails test x es parts.1)
  where
    parts : (test e.0 ≡ false) × (list_any test (names_in es) ≡ false)
    parts = neither (test e.0) (list_any test (names_in es)) h

    by : (b : Bool) → bytes_eq x e.0 ≡ b → is_some (if b then Some e.1 else at x es) ≡ true
        → (older es x ≡ true → test x ≡ false) → test x ≡ false
    by true same o later = ap test ((bytes_eq-Decides x e.0).0 same) ∙ parts.0
    by false other o later = later o

module _ (variables : Table Value) where
  parsed_spared : (parsed : Parsed) → IsFalse (parsed_names_one (names_in variables) parsed)
      → ParsedNamesNone (older variables) parsed
  parsed_spared (Ok program) h = program_spared (older variables) program
      (λ x. older_fails (λ y. program_names y program) x variables h)
  parsed_spared (Err fault) h = tt

  command_spared : (c : Command) → IsFalse (names_one (names_in variables) c) → Spares (older variables) c
  command_spared (put path text) h = tt
  command_spared (del path) h = tt
  command_spared (run text) h = parsed_spared (program_of [] text) h
  command_spared eager h = tt
  command_spared command.map h = tt
  command_spared reload h = tt
  command_spared (eager_dir path) h = tt
  command_spared (eager_ns p) h = tt
  command_spared (load path) h = tt
  command_spared (expect path) h = tt
  command_spared shadows h = tt
  command_spared check h = tt

  pub commands_spared : (cs : List Command) → NameNone variables cs → AllSpare (older variables) cs
  commands_spared [] h = tt
  commands_spared (c ∷ cs) h =
      let parts = neither (names_one (names_in variables) c) (list_any (names_one (names_in variables)) cs) h in
      (command_spared c parts.0, commands_spared cs parts.1)

-- ---- streams

abbrev pub ReadingSpares : (Stream → Type 0) → (Text → Bool) → Reading → Type 0
ReadingSpares more old (reads command rest) = Spares old command × more rest
ReadingSpares more old (refuses reason rest) = more rest
ReadingSpares more old (skips rest) = more rest
ReadingSpares more old ends_here = Unit {0}
ReadingSpares more old over = Unit {0}

abbrev pub StreamSpares : (Text → Bool) → ℕ → Stream → Type 0
StreamSpares old zero stream = Unit {0}
StreamSpares old (suc n) stream = ReadingSpares (StreamSpares old n) old (next_command stream)

pub stream_spared : (variables : Table Value) (n : ℕ) (stream : Stream) → StreamNamesNone variables n stream
    → StreamSpares (older variables) n stream
stream_spared variables zero stream h = tt
stream_spared variables (suc n) stream h = by (next_command stream) (stream_spared variables n) h
  where
    by : (reading : Reading)
        → ((rest : Stream) → StreamNamesNone variables n rest → StreamSpares (older variables) n rest)
        → IsFalse (reading_names_one (stream_names_one (names_in variables) n) (names_in variables) reading)
        → ReadingSpares (StreamSpares (older variables) n) (older variables) reading
    by (reads command rest) more h =
        let parts = neither (names_one (names_in variables) command) (stream_names_one (names_in variables) n rest) h in
        (command_spared variables command parts.0, more rest parts.1)
    by (refuses reason rest) more h = more rest h
    by (skips rest) more h = more rest h
    by ends_here more h = tt
    by over more h = tt

-- ---- what a plain command asks

-- where `names_variable` says no of each name, the command names none
pub names_no_variable : (text : Text) (names : List Text) → list_any (names_variable text) names ≡ false
    → names_one names (run text) ≡ false
unfolding names_variable
names_no_variable text names h = by (program_of [] text) h
  where
    by : (parsed : Parsed) → list_any (λ x. parsed_names x text parsed) names ≡ false
        → parsed_names_one names parsed ≡ false
    by (Ok program) h = h
    by (Err fault) h = refl
