-- What a session holds, against the map of its world.
use Rattle.std.proofs.Common.{◌≡◌, ◌||◌, Bool, true, false, not, List, [], ◌∷◌, Option, Some, None, Result, Ok, Err, cond, option_map, find, refl, sym, ap, subst, ◌∙◌}
use Rattle.std.specs.List.{filter_map, cons_option}
use Rattle.std.specs.Option.{option_and_then, option_map_or, is_some}
use Rattle.std.specs.Str.{bytes_eq}
use Rattle.std.proofs.lemmas.Bool.{or_right}
use Rattle.zw_def.specs.Text.{Text, is_among}
use Rattle.zw_def.specs.Path.{Path}
use Rattle.zw_def.specs.Tree.{File}
use Rattle.zw_def_thin.specs.Map.{visible, expected_name, is_name, file_for}
use Rattle.zw_def_thin.specs.ClassFile.{ClassFile}
use Rattle.zw_def_thin.specs.Built.{may_define, expected_names, first_other}
use Rattle.zw_def_thin.specs.Evaluation as defined
use Rattle.zw_def_thin.specs.Evaluation.{World, Found, Expression, integer, constant, call, class_named, joined, opened, loaded, loaded_as, loaded_class, absent, missing, resolved, ending_by, called, gave, class_value, not_defined, no_constant, evaluated, line_of_ending}
use Rattle.zw_thin.specs.Held.{Held, Key, idle_file, path_of, without_file, spent, table_with, after_load, after, file_used, unset, answer_in, ending_in}
use Rattle.zw_thin.specs.World.{is_past, idle_by, key_named, key_by, keys_of, StandsFor, RunsTo}
use Rattle.zw_thin.proofs.CarriedLemmas as carried
use Rattle.zw_thin.proofs.CarriedLemmas.{Whole, whole}
use Rattle.zw_lemmas.proofs.TextLemmas.{same_text, bytes_eq-self, bytes_eq-other}

-- ---- the file of a key

idle_if : (past : Text → Bool) (name : Text) (f : File) (n : Text) (ks : List Key) (later : Option File) (t : Bool) → bytes_eq n name ≡ t → idle_file name ks ≡ option_and_then (idle_by (past name)) later → option_and_then (λ k. k.file) (cond t (Some (key_named past f n)) (find (λ k. bytes_eq k.name name) ks)) ≡ option_and_then (idle_by (past name)) (cond t (Some f) later)
idle_if past name f n ks later true is rest = ap (λ x. idle_by (past x) f) (same_text n name is)
idle_if past name f n ks later false is rest = rest

idle_step : (past : Text → Bool) (name : Text) (f : File) (o : Option Text) (ks : List Key) (later : Option File) → idle_file name ks ≡ option_and_then (idle_by (past name)) later → idle_file name (cons_option (option_map (key_named past f) o) ks) ≡ option_and_then (idle_by (past name)) (cond (is_name name o) (Some f) later)
idle_step past name f None ks later rest = rest
idle_step past name f (Some n) ks later rest = idle_if past name f n ks later _ refl rest

-- the file that a use of a name evaluates is the map's, where the constant is not past
idle_keys : (past : Text → Bool) (root : Path) (name : Text) (fs : List File) → idle_file name (filter_map (key_by past root) fs) ≡ option_and_then (idle_by (past name)) (find (λ f. is_name name (expected_name root f)) fs)
idle_keys past root name [] = refl
idle_keys past root name (f ∷ fs) = idle_step past name f (expected_name root f) _ _ (idle_keys past root name fs)

idle_past : (t : Bool) (o : Option File) → t ≡ true → option_and_then (idle_by t) o ≡ None
idle_past t None is = refl
idle_past t (Some f) is = ap (λ b. idle_by b f) is

kept_if : (name : Text) (k : Key) (ks : List Key) (t : Bool) → (idle_file name ks ≡ None → without_file name ks ≡ ks) → option_and_then (λ x. x.file) (cond t (Some k) (find (λ x. bytes_eq x.name name) ks)) ≡ None → cond t (spent k ∷ ks) (k ∷ without_file name ks) ≡ k ∷ ks
kept_if name k ks true rest none = ap (λ o. record { name = k.name; file = o } ∷ ks) (sym none)
kept_if name k ks false rest none = ap (λ l. k ∷ l) (rest none)

kept : (name : Text) (ks : List Key) → idle_file name ks ≡ None → without_file name ks ≡ ks
kept name [] none = refl
kept name (k ∷ ks) none = kept_if name k ks (bytes_eq k.name name) (kept name ks) none

-- ---- the keys after a load

same_step : (past later : Text → Bool) (f : File) (o : Option Text) (names : List Text) (ks ls : List Key) → ((x : Text) → is_among (cons_option o names) x ≡ true → past x ≡ later x) → (((x : Text) → is_among names x ≡ true → past x ≡ later x) → ks ≡ ls) → cons_option (option_map (key_named past f) o) ks ≡ cons_option (option_map (key_named later f) o) ls
same_step past later f None names ks ls same rest = rest same
same_step past later f (Some n) names ks ls same rest =
    let here : past n ≡ later n = same n (ap (λ t. t || is_among names n) (bytes_eq-self n)) in
    let more : ks ≡ ls = rest (λ x is. same x (or_right (bytes_eq x n) (is_among names x) is)) in
    λ i. record { name = n; file = idle_by (here i) f } ∷ more i

-- keys are the same where the same names of theirs are past
same_keys : (past later : Text → Bool) (root : Path) (fs : List File) → ((x : Text) → is_among (expected_names root fs) x ≡ true → past x ≡ later x) → filter_map (key_by past root) fs ≡ filter_map (key_by later root) fs
same_keys past later root [] same = refl
same_keys past later root (f ∷ fs) same = same_step past later f (expected_name root f) (expected_names root fs) _ _ same (same_keys past later root fs)

-- one name is past now, and nothing else of theirs changes
abbrev pub Turns : (Text → Bool) → (Text → Bool) → Text → List Text → Type 0
Turns past later name names = (x : Text) → is_among names x ≡ true → (x ≡ name → ⊥) → past x ≡ later x

loaded_if : (past later : Text → Bool) (name n : Text) (f : File) (names : List Text) (ks ls : List Key) (t : Bool) → bytes_eq n name ≡ t → later name ≡ true → is_among names n ≡ false → Turns past later name (n ∷ names) → (((x : Text) → is_among names x ≡ true → past x ≡ later x) → ks ≡ ls) → (Turns past later name names → without_file name ks ≡ ls) → cond t (spent (key_named past f n) ∷ ks) (key_named past f n ∷ without_file name ks) ≡ key_named later f n ∷ ls
loaded_if past later name n f names ks ls true is now fresh turns same rest =
    let gone : later n ≡ true = ap later (same_text n name is) ∙ now in
    let more : ks ≡ ls = same (λ x among. turns x (or_right (bytes_eq x n) (is_among names x) among) (λ eq. (let bad : false ≡ true = sym fresh ∙ ap (is_among names) (same_text n name is ∙ sym eq) ∙ among in cc))) in
    λ i. record { name = n; file = sym (ap (λ b. idle_by b f) gone) i } ∷ more i
loaded_if past later name n f names ks ls false is now fresh turns same rest =
    let other : n ≡ name → ⊥ = λ eq. (let bad : true ≡ false = sym (bytes_eq-self n) ∙ ap (bytes_eq n) eq ∙ is in cc) in
    let here : past n ≡ later n = turns n (ap (λ t. t || is_among names n) (bytes_eq-self n)) other in
    let more : without_file name ks ≡ ls = rest (λ x among. turns x (or_right (bytes_eq x n) (is_among names x) among)) in
    λ i. record { name = n; file = idle_by (here i) f } ∷ more i

loaded_keys : (past later : Text → Bool) (root : Path) (all : List Text) (name : Text) (fs : List File) → Whole root all fs → later name ≡ true → Turns past later name (expected_names root fs) → without_file name (filter_map (key_by past root) fs) ≡ filter_map (key_by later root) fs
loaded_keys past later root all name [] w now turns = refl
loaded_keys past later root all name (f ∷ fs) w now turns =
    let n = w.0.self.name in
    let is : expected_name root f ≡ Some n = w.0.is.expected in
    let turned : Turns past later name (n ∷ expected_names root fs) = subst (λ o. Turns past later name (cons_option o (expected_names root fs))) is turns in
    ap (λ o. without_file name (cons_option (option_map (key_named past f) o) (filter_map (key_by past root) fs))) is
    ∙ loaded_if past later name n f (expected_names root fs) (filter_map (key_by past root) fs) (filter_map (key_by later root) fs) (bytes_eq n name) refl now w.0.fresh turned (same_keys past later root fs) (loaded_keys past later root all name fs w.1 now)
    ∙ sym (ap (λ o. cons_option (option_map (key_named later f) o) (filter_map (key_by later root) fs)) is)

-- ---- the table after a load

opened_if : (c class : ClassFile) (x : Text) (cs : List ClassFile) (t : Bool) → bytes_eq c.name class.name ≡ t → (class.name ≡ x → ⊥) → class_named x (opened cs class) ≡ class_named x cs → class_named x (cond t (joined class c ∷ cs) (c ∷ opened cs class)) ≡ class_named x (c ∷ cs)
opened_if c class x cs true is other rest =
    let no : bytes_eq c.name x ≡ false = bytes_eq-other c.name x (λ eq. other (sym (same_text c.name class.name is) ∙ eq)) in
    ap (λ t. cond t (Some (joined class c)) (class_named x cs)) no ∙ sym (ap (λ t. cond t (Some c) (class_named x cs)) no)
opened_if c class x cs false is other rest = ap (cond (bytes_eq c.name x) (Some c)) rest

-- a class that is opened changes nothing under other names
opened_other : (cs : List ClassFile) (class : ClassFile) (x : Text) → (class.name ≡ x → ⊥) → class_named x (opened cs class) ≡ class_named x cs
opened_other [] class x other = ap (λ t. cond t (Some class) None) (bytes_eq-other class.name x other)
opened_other (c ∷ cs) class x other = opened_if c class x cs (bytes_eq c.name class.name) refl other (opened_other cs class x other)

-- ---- a look-up

-- what a session that stands for the world holds
abbrev pub held_at : World → Held
held_at world = record { keys = keys_of world; table = world.table }

pub record Resolves (found : Found) (held : Held) (path : Option Path) (name : Text) : Type 0 where
  pub answer : found.answer ≡ answer_in held.table path name
  pub stands : StandsFor found.world held

module _ (world : World) (name : Text) (built : first_other world.root (visible world.root world.tree) ≡ None) where
  abbrev Here : Found → Type 0
  Here found = Resolves found (after_load name (held_at world)) (path_of (idle_file name (keys_of world))) name

  abbrev names : List Text
  names = expected_names world.root (visible world.root world.tree)

  nothing : (found : Found) → idle_file name (keys_of world) ≡ None → found.world ≡ world → found.answer ≡ answer_in world.table None name → Here found
  nothing found idle same answer = record {
    answer = answer ∙ sym (ap (λ o. answer_in (table_with o world.table) (path_of o) name) idle);
    stands = subst (λ w. StandsFor w (after_load name (held_at world))) (sym same) record {
      built = built;
      keys = kept name (keys_of world) idle;
      table = ap (λ o. table_with o world.table) idle;
    };
  }

  idle_is : idle_file name (keys_of world) ≡ option_and_then (idle_by (is_past world name)) (file_for world.root world.tree name)
  idle_is = idle_keys (is_past world) world.root name (visible world.root world.tree)

  when_past : (found : Found) → is_past world name ≡ true → found.world ≡ world → found.answer ≡ answer_in world.table None name → Here found
  when_past found past same answer = nothing found (idle_is ∙ idle_past (is_past world name) (file_for world.root world.tree name) past) same answer

  -- what the file of this path and class does, where the name may be what it defines
  module _ (path : Path) (class : ClassFile) (idle : idle_file name (keys_of world) ≡ Some (record { path = path; class = class })) (may : may_define names name class ≡ true) where
    abbrev table : List ClassFile
    table = opened world.table class

    elsewhere : (x : Text) → is_among names x ≡ true → (x ≡ name → ⊥) → class.name ≡ x → ⊥
    elsewhere x among other same =
        let here : (bytes_eq x name || not (is_among names x)) ≡ true = subst (λ n. (bytes_eq n name || not (is_among names n)) ≡ true) same may in
        let bad : false ≡ true = (λ i. sym (bytes_eq-other x name other) i || not (sym among i)) ∙ here in
        cc

    goes : (gone : List Text) (answer : Result ClassFile defined.Ending) → is_past (record world { table = table; gone = gone }) name ≡ true → Turns (is_past world) (is_past (record world { table = table; gone = gone })) name names → answer ≡ answer_in table (Some path) name → Here (record { answer = answer; world = record world { table = table; gone = gone } })
    goes gone answer past turns is = record {
      answer = is ∙ sym (ap (λ o. answer_in (table_with o world.table) (path_of o) name) idle);
      stands = record {
        built = built;
        keys = loaded_keys (is_past world) (is_past (record world { table = table; gone = gone })) world.root names name (visible world.root world.tree) (whole world.root names [] (visible world.root world.tree) built) past turns;
        table = ap (λ o. table_with o world.table) idle;
      };
    }

    set_or_gone : (o : Option ClassFile) → class_named name table ≡ o → Here (loaded_as (record world { table = table }) name path o)
    set_or_gone (Some c) is =
        goes world.gone (Ok c) (ap (λ o. is_some o || is_among world.gone name) is)
        (λ x among other. ap (λ o. is_some o || is_among world.gone x) (sym (opened_other world.table class x (elsewhere x among other))))
        (sym (ap (λ o. option_map_or Ok o (Err (unset name (Some path)))) is))
    set_or_gone None is =
        goes (name ∷ world.gone) (Err (not_defined path name)) (or_right (is_some (class_named name table)) _ (ap (λ t. t || is_among world.gone name) (bytes_eq-self name)))
        (λ x among other i. is_some (sym (opened_other world.table class x (elsewhere x among other)) i) || (sym (bytes_eq-other x name other) i || is_among world.gone x))
        (sym (ap (λ o. option_map_or Ok o (Err (unset name (Some path)))) is))

  no_answer : class_named name world.table ≡ None → Err (no_constant name) ≡ answer_in world.table None name
  no_answer unset = sym (ap (λ o. option_map_or Ok o (Err (no_constant name))) unset)

  by_file : class_named name world.table ≡ None → is_among world.gone name ≡ false → (o : Option File) → file_for world.root world.tree name ≡ o → carried.Found names name o → Here (option_map_or (loaded world name) o (absent world name))
  by_file unset kept None is found = nothing (absent world name) (idle_is ∙ ap (option_and_then (idle_by (is_past world name))) is) refl (no_answer unset)
  by_file unset kept (Some f) is found =
      let now : is_past world name ≡ false = λ i. is_some (unset i) || kept i in
      let idle : idle_file name (keys_of world) ≡ Some (record { path = f.path; class = found.0 }) =
      idle_is ∙ ap (option_and_then (idle_by (is_past world name))) is ∙ ap (λ b. idle_by b f) now ∙ ap (option_map (λ (class : ClassFile). record { path = f.path; class = class })) found.1 in
      subst (λ o. Here (option_map_or (loaded_class world name f.path) o (absent world name))) (sym found.1) (set_or_gone f.path found.0 idle found.2 (class_named name (opened world.table found.0)) refl)

  by_gone : class_named name world.table ≡ None → (t : Bool) → is_among world.gone name ≡ t → Here (cond t (absent world name) (option_map_or (loaded world name) (file_for world.root world.tree name) (absent world name)))
  by_gone unset true gone = when_past (absent world name) (or_right (is_some (class_named name world.table)) (is_among world.gone name) gone) refl (no_answer unset)
  by_gone unset false kept =
      by_file unset kept (file_for world.root world.tree name) refl (carried.found world.root names name (visible world.root world.tree) (whole world.root names [] (visible world.root world.tree) built))

  by_table : (o : Option ClassFile) → class_named name world.table ≡ o → Here (option_map_or (λ c. record { answer = Ok c; world = world }) o (missing world name))
  by_table (Some c) is =
      when_past (record { answer = Ok c; world = world }) (ap (λ o. is_some o || is_among world.gone name) is) refl (sym (ap (λ o. option_map_or Ok o (Err (no_constant name))) is))
  by_table None unset = by_gone unset (is_among world.gone name) refl

  pub at_world : Here (resolved world name)
  at_world = by_table (class_named name world.table) refl

-- a session resolves a name as its world does
resolved_in : (world : World) (held : Held) (name : Text) → StandsFor world held → Resolves (resolved world name) (after_load name held) (path_of (idle_file name held.keys)) name
resolved_in world held name stands =
    let same : held_at world ≡ held = λ i. record { keys = sym stands.keys i; table = sym stands.table i } in
    subst (λ h. Resolves (resolved world name) (after_load name h) (path_of (idle_file name h.keys)) name) same (at_world world name stands.built)

runs : (world : World) (held : Held) (e : Expression) → StandsFor world held → RunsTo world (after e held) (Some e) (Some (line_of_ending (ending_in (after e held).table (path_of (file_used e held)) e)))
runs world held (integer n) stands = (refl, stands)
runs world held (constant name) stands =
    let r = resolved_in world held name stands in
    (ap (λ a. Some (line_of_ending (ending_by (λ c. gave (class_value c.name)) a))) (sym r.answer), r.stands)
runs world held (call name method) stands =
    let r = resolved_in world held name stands in
    (ap (λ a. Some (line_of_ending (ending_by (called method) a))) (sym r.answer), r.stands)

-- a run of a session, where its load gave this path, and its end this line
pub runs_to : (world : World) (held now : Held) (e : Expression) (read : Option Expression) (path : Option Path) (line : Text) → now ≡ after e held → Some e ≡ read → path ≡ path_of (file_used e held) → line ≡ line_of_ending (ending_in now.table path e) → StandsFor world held → RunsTo world now read (Some line)
runs_to world held now e read path line state reads used is stands =
    let same : Some (line_of_ending (ending_in (after e held).table (path_of (file_used e held)) e)) ≡ Some line = sym (ap Some is ∙ (λ i. Some (line_of_ending (ending_in (state i).table (used i) e)))) in
    subst (λ o. RunsTo world now o (Some line)) reads (subst (λ h. RunsTo world h (Some e) (Some line)) (sym state) (subst (λ l. RunsTo world (after e held) (Some e) l) same (runs world held e stands)))
