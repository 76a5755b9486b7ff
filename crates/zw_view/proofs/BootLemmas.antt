-- The constants of the core classes, and what the world before boot has under their paths.
use Rattle.std.proofs.Common.{◌≡◌, ℕ, Bool, true, false, not, ◌&&◌, cond, List, [], ◌∷◌, ◌++◌, map, filter, filter_map, get_or, codes, Option, Some, None, Ok, Err, refl, ap, sym, subst, ◌∙◌, ◌⊎◌, inl, inr}
use Rattle.std.specs.List.{find, cons_option, AllByRecursion}
use Rattle.std.specs.Option.{option_map, option_map_or, option_or, option_and_then, is_some, unwrap_or}
use Rattle.std.specs.Str.{bytes_eq}
use Rattle.zw_lemmas.proofs.FindLemmas.{find-as}
use Rattle.zw_lemmas.proofs.TextLemmas.{same_text, bytes_eq-self, bytes_eq-other}
use Rattle.zw_def.specs.Text.{Text}
use Rattle.zw_def.specs.Path.{Path}
use Rattle.zw_def.specs.ConstantPath.{ConstantPath}
use Rattle.zw_def.specs.Expected.{Expected, expected_path}
use Rattle.zw_def.specs.Layout.{Layout}
use Rattle.zw_def.specs.Nesting.{same_names, child, proper_beginnings}
use Rattle.zw_def.specs.Map.{Boot, Standing, undefined, own_module, taken, is_defined, is_taken, kept_out_by, is_kept_out, Expecting, expecting_files, expecting_directories, names_of, in_map_order, key_among, map_of}
use Rattle.zw_def.specs.Names.{texts_of}
use Rattle.zw_def.specs.Shadow.{shadowed_as, shadowed_file, shadowed, unless_defined}
use Rattle.zw_def.specs.Tree.{Tree}
use Rattle.zw_def.specs.Visible.{visible_files}
use Rattle.zw_def_world.specs.Table.{Table, at}
use Rattle.zw_def_world.specs.Value.{Value}
use Rattle.zw_def_world.specs.Missing.{bind}
use Rattle.zw_def_world.specs.Id.{Id}
use Rattle.zw_def_world.specs.Record.{Module}
use Rattle.zw_def_world.specs.World.{World, Setting}
use Rattle.zw_def_world.specs.CoreClass.{Object_class, Zeitwerk}
use Rattle.zw_def_world.specs.CoreWorld.{core_world, object_constants, zeitwerk_constants}
use Rattle.zw_def_world.specs.BootTable.{boot_of, Constant, absent, named_module, other_value, constant_of, constant_from, from_module, standing_from, leads_from}
use Rattle.zw_def_world.specs.BootTable.{standing_as as standing_of_constant}
use Rattle.zw_def_session.specs.Opening.{leads}
use Rattle.zw_map.specs.BootSeen.{boot_seen, is_own, standing_of}
use Rattle.zw_view.specs.Core.{Row, names_of_object, names_of_zeitwerk, own_rows, core_rows, rows_told, IsCore}

-- what stands under a path, by the first row that has it
abbrev pub standing_as : Option Row → Standing
standing_as None = undefined
standing_as (Some row) = cond row.1 own_module taken

abbrev pub standing_in : List Row → Boot
standing_in rows p = standing_as (find (λ row. same_names row.0 p) rows)

-- ---- one name among several

-- a name is one of these, of each of which P holds, or none of them
module _ (P : Text → Type 0) where
  pub one_or_none : (names : List Text) → AllByRecursion P names → (n : Text) → P n ⊎ AllByRecursion (λ m. bytes_eq m n ≡ false) names
  one_or_none [] all n = inr tt
  one_or_none (m ∷ names) all n = at (one_or_none names all.1 n) (bytes_eq m n) refl where
    later : bytes_eq m n ≡ false → P n ⊎ AllByRecursion (λ m. bytes_eq m n ≡ false) names → P n ⊎ AllByRecursion (λ m. bytes_eq m n ≡ false) (m ∷ names)
    later other (inl is) = inl is
    later other (inr none) = inr (other, none)

    at : P n ⊎ AllByRecursion (λ m. bytes_eq m n ≡ false) names → (b : Bool) → bytes_eq m n ≡ b → P n ⊎ AllByRecursion (λ m. bytes_eq m n ≡ false) (m ∷ names)
    at more true is = inl (subst P (same_text m n is) all.0)
    at more false is = later is more

-- a name that is none of a table's
turned : (m n : Text) → bytes_eq m n ≡ false → bytes_eq n m ≡ false
turned m n other = bytes_eq-other n m (λ is. absurd (let e : true ≡ false = sym (bytes_eq-self m) ∙ ap (bytes_eq m) (sym is) ∙ other in cc))

pub at-none : (table : Table Value) (n : Text) → AllByRecursion (λ m. bytes_eq m n ≡ false) (map (λ e. e.0) table) → at n table ≡ None
at-none [] n none = refl
at-none (e ∷ table) n none = ap (λ b. cond b (Some e.1) (at n table)) (turned e.0 n none.0) ∙ at-none table n none.1

-- ---- paths below a module without constants

-- a module of Object with this name has no constants, and a row of its own
abbrev pub Leaf : World → Text → Type 0
Leaf w n =
    (bytes_eq (codes "Zeitwerk") n ≡ false) × (standing_in core_rows (n ∷ []) ≡ own_module)
    × ((i : Id) × (m : Module) × (constant_of w Object_class n ≡ Some (named_module i)) × (w.modules i ≡ Some m) × (m.constants ≡ []))

-- the rows as the definition of boot tells them
abbrev pub Agrees : World → Text → Type 0
Agrees w n = (rest : ConstantPath) → standing_in core_rows (n ∷ rest) ≡ boot_of w (n ∷ rest)

and_false : (b : Bool) → (b && false) ≡ false
and_false true = refl
and_false false = refl

-- rows of one name have no path of two
one_short : (names : List Text) (more : List Row) (n o : Text) (rest : ConstantPath) → find (λ row. same_names row.0 (n ∷ o ∷ rest)) (own_rows [] names ++ more) ≡ find (λ row. same_names row.0 (n ∷ o ∷ rest)) more
one_short [] more n o rest = refl
one_short (m ∷ names) more n o rest =
    ap (λ b. cond b (Some (m ∷ [], true)) (find (λ row. same_names row.0 (n ∷ o ∷ rest)) (own_rows [] names ++ more))) (and_false (bytes_eq m n))
    ∙ one_short names more n o rest

-- rows of another module have none either
other_module : (p n : Text) (names : List Text) (o : Text) (rest : ConstantPath) → bytes_eq p n ≡ false → find (λ row. same_names row.0 (n ∷ o ∷ rest)) (own_rows (p ∷ []) names) ≡ None
other_module p n [] o rest other = refl
other_module p n (m ∷ names) o rest other =
    ap (λ b. cond (b && (bytes_eq m o && same_names [] rest)) (Some (p ∷ m ∷ [], true)) (find (λ row. same_names row.0 (n ∷ o ∷ rest)) (own_rows (p ∷ []) names))) other
    ∙ other_module p n names o rest other

below_object : (n o : Text) (rest : ConstantPath) → standing_in core_rows (n ∷ o ∷ rest) ≡ standing_as (find (λ row. same_names row.0 (n ∷ o ∷ rest)) (own_rows (codes "Zeitwerk" ∷ []) names_of_zeitwerk))
below_object n o rest =
    ap (λ b. standing_as (cond b (Some (codes "Object" ∷ [], false)) (find (λ row. same_names row.0 (n ∷ o ∷ rest)) (own_rows [] names_of_object ++ own_rows (codes "Zeitwerk" ∷ []) names_of_zeitwerk)))) (and_false (bytes_eq (codes "Object") n))
    ∙ ap standing_as (one_short names_of_object (own_rows (codes "Zeitwerk" ∷ []) names_of_zeitwerk) n o rest)

-- nothing stands below a module without constants
module _ (w : World) (i : Id) (m : Module) (held : w.modules i ≡ Some m) (none : m.constants ≡ []) where
  absent_in : (o : Text) → constant_of w i o ≡ Some absent
  absent_in o =
      ap (λ r. bind r (λ x. constant_from w (child x.path o) (at o x.constants))) held
      ∙ ap (λ table. constant_from w (child m.path o) (at o table)) none

  pub nothing_below : (o : Text) (rest : ConstantPath) → standing_from w (o ∷ rest) i ≡ Some undefined
  nothing_below o [] = ap (option_map standing_of_constant) (absent_in o)
  nothing_below o (q ∷ rest) = ap (λ c. bind c (from_module undefined (standing_from w (q ∷ rest)))) (absent_in o)

leaf_agrees : (w : World) (n : Text) → Leaf w n → Agrees w n
leaf_agrees w n leaf [] = leaf.1 ∙ sym (ap (λ c. unwrap_or (option_map standing_of_constant c) undefined) leaf.2.2)
leaf_agrees w n leaf (o ∷ rest) =
    below_object n o rest ∙ ap standing_as (other_module (codes "Zeitwerk") n names_of_zeitwerk o rest leaf.0)
    ∙ sym (ap (λ c. unwrap_or (bind c (from_module undefined (standing_from w (o ∷ rest)))) undefined) leaf.2.2
    ∙ ap (λ s. unwrap_or s undefined) (nothing_below w leaf.2.0 leaf.2.1 leaf.2.3 leaf.2.4 o rest))

-- ---- names that Object has

-- a name that Object does not have
abbrev pub IsOther : Text → Type 0
IsOther n = AllByRecursion (λ m. bytes_eq m n ≡ false) (codes "Object" ∷ names_of_object)

no_row : (p : ConstantPath) (names : List Text) (more : List Row) (n : Text) (rest : ConstantPath) → AllByRecursion (λ m. bytes_eq m n ≡ false) names → find (λ row. same_names row.0 (n ∷ rest)) (own_rows [] names ++ more) ≡ find (λ row. same_names row.0 (n ∷ rest)) more
no_row p [] more n rest other = refl
no_row p (m ∷ names) more n rest other =
    ap (λ b. cond (b && same_names [] rest) (Some (m ∷ [], true)) (find (λ row. same_names row.0 (n ∷ rest)) (own_rows [] names ++ more))) other.0
    ∙ no_row p names more n rest other.1

no_row_of_zeitwerk : (n : Text) (names : List Text) (rest : ConstantPath) → bytes_eq (codes "Zeitwerk") n ≡ false → find (λ row. same_names row.0 (n ∷ rest)) (own_rows (codes "Zeitwerk" ∷ []) names) ≡ None
no_row_of_zeitwerk n [] rest other = refl
no_row_of_zeitwerk n (m ∷ names) rest other =
    ap (λ b. cond (b && same_names (m ∷ []) rest) (Some (codes "Zeitwerk" ∷ m ∷ [], true)) (find (λ row. same_names row.0 (n ∷ rest)) (own_rows (codes "Zeitwerk" ∷ []) names))) other
    ∙ no_row_of_zeitwerk n names rest other

other_undefined : (n : Text) (rest : ConstantPath) → IsOther n → standing_in core_rows (n ∷ rest) ≡ undefined
other_undefined n rest other =
    ap (λ b. standing_as (cond (b && same_names [] rest) (Some (codes "Object" ∷ [], false)) (find (λ row. same_names row.0 (n ∷ rest)) (own_rows [] names_of_object ++ own_rows (codes "Zeitwerk" ∷ []) names_of_zeitwerk)))) other.0
    ∙ ap standing_as (no_row [] names_of_object (own_rows (codes "Zeitwerk" ∷ []) names_of_zeitwerk) n rest other.1
    ∙ no_row_of_zeitwerk n names_of_zeitwerk rest other.1.1.1.1.1.1.1.1.1.1.1.1.0)

module _ (w : World) where
  -- nothing stands below what is absent
  pub absent_below : (i : Id) (n : Text) (rest : ConstantPath) → constant_of w i n ≡ Some absent → standing_from w (n ∷ rest) i ≡ Some undefined
  absent_below i n [] none = ap (option_map standing_of_constant) none
  absent_below i n (o ∷ rest) none = ap (λ c. bind c (from_module undefined (standing_from w (o ∷ rest)))) none

  -- what is no module of its name has none below it
  pub other_below : (i : Id) (n o : Text) (rest : ConstantPath) → constant_of w i n ≡ Some other_value → standing_from w (n ∷ o ∷ rest) i ≡ Some undefined
  other_below i n o rest is = ap (λ c. bind c (from_module undefined (standing_from w (o ∷ rest)))) is

-- ---- Zeitwerk

-- a class of Zeitwerk, which has no constants
abbrev pub NestedLeaf : World → Text → Type 0
NestedLeaf w o =
    (standing_in core_rows (codes "Zeitwerk" ∷ o ∷ []) ≡ own_module)
    × ((i : Id) × (m : Module) × (constant_of w Zeitwerk o ≡ Some (named_module i)) × (w.modules i ≡ Some m) × (m.constants ≡ []))

abbrev pub AgreesInZeitwerk : World → Text → Type 0
AgreesInZeitwerk w o = (rest : ConstantPath) → Some (standing_in core_rows (codes "Zeitwerk" ∷ o ∷ rest)) ≡ standing_from w (o ∷ rest) Zeitwerk

-- rows have two names at most
two_at_most : (p n o q : Text) (names : List Text) (rest : ConstantPath) → find (λ row. same_names row.0 (n ∷ o ∷ q ∷ rest)) (own_rows (p ∷ []) names) ≡ None
two_at_most p n o q [] rest = refl
two_at_most p n o q (m ∷ names) rest =
    ap (λ b. cond b (Some (p ∷ m ∷ [], true)) (find (λ row. same_names row.0 (n ∷ o ∷ q ∷ rest)) (own_rows (p ∷ []) names))) (ap (λ b. bytes_eq p n && b) (and_false (bytes_eq m o)) ∙ and_false (bytes_eq p n))
    ∙ two_at_most p n o q names rest

nested_leaf_agrees : (w : World) (o : Text) → NestedLeaf w o → AgreesInZeitwerk w o
nested_leaf_agrees w o leaf [] = ap Some leaf.0 ∙ sym (ap (option_map standing_of_constant) leaf.1.2)
nested_leaf_agrees w o leaf (q ∷ rest) =
    ap Some (below_object (codes "Zeitwerk") o (q ∷ rest) ∙ ap standing_as (two_at_most (codes "Zeitwerk") (codes "Zeitwerk") o q names_of_zeitwerk rest))
    ∙ sym (ap (λ c. bind c (from_module undefined (standing_from w (q ∷ rest)))) leaf.1.2 ∙ nothing_below w leaf.1.0 leaf.1.1 leaf.1.3 leaf.1.4 q rest)

no_nested_row : (o : Text) (names : List Text) (rest : ConstantPath) → AllByRecursion (λ m. bytes_eq m o ≡ false) names → find (λ row. same_names row.0 (codes "Zeitwerk" ∷ o ∷ rest)) (own_rows (codes "Zeitwerk" ∷ []) names) ≡ None
no_nested_row o [] rest other = refl
no_nested_row o (m ∷ names) rest other =
    ap (λ b. cond (b && same_names [] rest) (Some (codes "Zeitwerk" ∷ m ∷ [], true)) (find (λ row. same_names row.0 (codes "Zeitwerk" ∷ o ∷ rest)) (own_rows (codes "Zeitwerk" ∷ []) names))) other.0
    ∙ no_nested_row o names rest other.1

module _ (setting : Setting) where
  core : World
  core = core_world setting

  zeitwerk_leaves : AllByRecursion (AgreesInZeitwerk core) names_of_zeitwerk
  unfolding core core_world
  zeitwerk_leaves = (
    nested_leaf_agrees core (codes "Error") (refl, (_, _, refl, refl, refl)),
    (
      nested_leaf_agrees core (codes "ReloadingDisabledError") (refl, (_, _, refl, refl, refl)),
      (
        nested_leaf_agrees core (codes "SetupRequired") (refl, (_, _, refl, refl, refl)),
        (
          nested_leaf_agrees core (codes "NameError") (refl, (_, _, refl, refl, refl)),
          tt,
        ),
      ),
    ),
  )

  absent_in_zeitwerk : (o : Text) → AllByRecursion (λ m. bytes_eq m o ≡ false) names_of_zeitwerk → constant_of core Zeitwerk o ≡ Some absent
  unfolding core core_world
  absent_in_zeitwerk o other = ap (constant_from core (codes "Zeitwerk" ∷ o ∷ [])) (at-none zeitwerk_constants o other)

  zeitwerk_agrees : (o : Text) → AgreesInZeitwerk core o
  zeitwerk_agrees o = by (one_or_none (AgreesInZeitwerk core) names_of_zeitwerk zeitwerk_leaves o) where
    by : AgreesInZeitwerk core o ⊎ AllByRecursion (λ m. bytes_eq m o ≡ false) names_of_zeitwerk → AgreesInZeitwerk core o
    by (inl is) = is
    by (inr other) = λ rest.
        ap Some (below_object (codes "Zeitwerk") o rest ∙ ap standing_as (no_nested_row o names_of_zeitwerk rest other))
        ∙ sym (absent_below core Zeitwerk o rest (absent_in_zeitwerk o other))

  in_zeitwerk : Agrees core (codes "Zeitwerk")
  unfolding core core_world
  in_zeitwerk [] = refl
  in_zeitwerk (o ∷ rest) = ap (λ s. unwrap_or s undefined) (zeitwerk_agrees o rest)

  -- the constant Object is no module of its name
  in_object_itself : Agrees core (codes "Object")
  unfolding core core_world
  in_object_itself [] = refl
  in_object_itself (o ∷ rest) =
      below_object (codes "Object") o rest ∙ ap standing_as (other_module (codes "Zeitwerk") (codes "Object") names_of_zeitwerk o rest refl)

  leaf : (n : Text) → Leaf core n → Agrees core n
  leaf n is = leaf_agrees core n is

  core_leaves : AllByRecursion (Agrees core) (codes "Object" ∷ names_of_object)
  unfolding core core_world
  core_leaves = (
    in_object_itself,
    (
      leaf (codes "Kernel") (refl, refl, (_, _, refl, refl, refl)),
      (
        leaf (codes "Module") (refl, refl, (_, _, refl, refl, refl)),
        (
          leaf (codes "Class") (refl, refl, (_, _, refl, refl, refl)),
          (
            leaf (codes "NilClass") (refl, refl, (_, _, refl, refl, refl)),
            (
              leaf (codes "TrueClass") (refl, refl, (_, _, refl, refl, refl)),
              (
                leaf (codes "FalseClass") (refl, refl, (_, _, refl, refl, refl)),
                (
                  leaf (codes "Integer") (refl, refl, (_, _, refl, refl, refl)),
                  (
                    leaf (codes "String") (refl, refl, (_, _, refl, refl, refl)),
                    (
                      leaf (codes "Symbol") (refl, refl, (_, _, refl, refl, refl)),
                      (
                        leaf (codes "Array") (refl, refl, (_, _, refl, refl, refl)),
                        (
                          leaf (codes "Exception") (refl, refl, (_, _, refl, refl, refl)),
                          (
                            in_zeitwerk,
                            (
                              leaf (codes "ScriptError") (refl, refl, (_, _, refl, refl, refl)),
                              (
                                leaf (codes "StandardError") (refl, refl, (_, _, refl, refl, refl)),
                                (
                                  leaf (codes "SyntaxError") (refl, refl, (_, _, refl, refl, refl)),
                                  (
                                    leaf (codes "LoadError") (refl, refl, (_, _, refl, refl, refl)),
                                    (
                                      leaf (codes "ArgumentError") (refl, refl, (_, _, refl, refl, refl)),
                                      (
                                        leaf (codes "IndexError") (refl, refl, (_, _, refl, refl, refl)),
                                        (
                                          leaf (codes "NameError") (refl, refl, (_, _, refl, refl, refl)),
                                          (
                                            leaf (codes "RangeError") (refl, refl, (_, _, refl, refl, refl)),
                                            (
                                              leaf (codes "RuntimeError") (refl, refl, (_, _, refl, refl, refl)),
                                              (
                                                leaf (codes "TypeError") (refl, refl, (_, _, refl, refl, refl)),
                                                (
                                                  leaf (codes "ZeroDivisionError") (refl, refl, (_, _, refl, refl, refl)),
                                                  (
                                                    leaf (codes "NoMethodError") (refl, refl, (_, _, refl, refl, refl)),
                                                    (
                                                      leaf (codes "FrozenError") (refl, refl, (_, _, refl, refl, refl)),
                                                      tt,
                                                    ),
                                                  ),
                                                ),
                                              ),
                                            ),
                                          ),
                                        ),
                                      ),
                                    ),
                                  ),
                                ),
                              ),
                            ),
                          ),
                        ),
                      ),
                    ),
                  ),
                ),
              ),
            ),
          ),
        ),
      ),
    ),
  )

  absent_in_object : (n : Text) → IsOther n → constant_of core Object_class n ≡ Some absent
  unfolding core core_world
  absent_in_object n other = ap (constant_from core (n ∷ [])) (at-none object_constants n other)

  name_agrees : (n : Text) → Agrees core n
  name_agrees n = by (one_or_none (Agrees core) (codes "Object" ∷ names_of_object) core_leaves n) where
    by : Agrees core n ⊎ IsOther n → Agrees core n
    by (inl is) = is
    by (inr other) = λ rest.
        other_undefined n rest other
        ∙ sym (ap (λ s. unwrap_or s undefined) (absent_below core Object_class n rest (absent_in_object n other)))

-- the rows of the core constants are what boot leaves
pub core_agrees : (setting : Setting) (p : ConstantPath) → standing_in core_rows p ≡ boot_of (core_world setting) p
unfolding core
core_agrees setting [] = refl
core_agrees setting (n ∷ rest) = name_agrees setting n rest

-- ---- as the code keeps them

standing_told : (names : List Text) (rows : List (List ℕ × Bool)) (p : ConstantPath) → boot_seen names rows p ≡ standing_in (rows_told names rows) p
standing_told names [] p = refl
standing_told names (row ∷ rows) p = at (same_names (texts_of names row.0) p) (standing_told names rows p) where
  at : (b : Bool) → boot_seen names rows p ≡ standing_in (rows_told names rows) p → standing_of (cond b (Some row) (find (λ r. same_names (texts_of names r.0) p) rows)) ≡ standing_as (cond b (Some (texts_of names row.0, row.1)) (find (λ r. same_names r.0 p) (rows_told names rows)))
  at true more = refl
  at false more = more

pub core_seen : (names : List Text) (rows : List (List ℕ × Bool)) (setting : Setting) (p : ConstantPath) → IsCore names rows → boot_seen names rows p ≡ boot_of (core_world setting) p
core_seen names rows setting p is = standing_told names rows p ∙ ap (λ told. standing_in told p) is.told ∙ core_agrees setting p

-- ---- modules to which a path leads

pub leads_own : (w : World) (p : ConstantPath) → is_own (boot_of w p) ≡ leads w p
leads_own w p = from p Object_class where
  one : (c : Option Constant) → is_own (unwrap_or (option_map standing_of_constant c) undefined) ≡ option_map_or is_some (bind c (from_module None (leads_from w []))) false
  one None = refl
  one (Some absent) = refl
  one (Some (named_module i)) = refl
  one (Some other_value) = refl

  more : (o : Text) (q : ConstantPath) → ((i : Id) → is_own (unwrap_or (standing_from w (o ∷ q) i) undefined) ≡ option_map_or is_some (leads_from w (o ∷ q) i) false) → (c : Option Constant) → is_own (unwrap_or (bind c (from_module undefined (standing_from w (o ∷ q)))) undefined) ≡ option_map_or is_some (bind c (from_module None (leads_from w (o ∷ q)))) false
  more o q same None = refl
  more o q same (Some absent) = refl
  more o q same (Some (named_module i)) = same i
  more o q same (Some other_value) = refl

  from : (q : ConstantPath) (i : Id) → is_own (unwrap_or (standing_from w q i) undefined) ≡ option_map_or is_some (leads_from w q i) false
  from [] i = refl
  from (n ∷ []) i = one (constant_of w i n)
  from (n ∷ o ∷ q) i = more o q (from (o ∷ q)) (constant_of w i n)

-- ---- maps under boots that agree

module _ (b c : Boot) (same : (p : ConstantPath) → b p ≡ c p) where
  kept_same : (p : ConstantPath) → kept_out_by b p ≡ kept_out_by c p
  kept_same p =
      ap (λ o. option_or o (cond (is_defined (b p)) (Some p) None)) (find-as (λ q. is_taken (b q)) (λ q. is_taken (c q)) (proper_beginnings p) (λ k d lt. ap is_taken (same (get_or (proper_beginnings p) k d))))
      ∙ ap (λ s. option_or (find (λ q. is_taken (c q)) (proper_beginnings p)) (cond (is_defined s) (Some p) None)) (same p)

  filter_same : (ps : List ConstantPath) → filter (λ p. not (is_kept_out b p)) ps ≡ filter (λ p. not (is_kept_out c p)) ps
  filter_same [] = refl
  filter_same (p ∷ ps) =
      ap (λ o. cond (not (option_map_or (λ q. true) o false)) (p ∷ filter (λ q. not (is_kept_out b q)) ps) (filter (λ q. not (is_kept_out b q)) ps)) (kept_same p)
      ∙ ap (λ l. cond (not (is_kept_out c p)) (p ∷ l) l) (filter_same ps)

  pub map_same : (layout : Layout) (tree : Tree) → map_of layout tree b ≡ map_of layout tree c
  unfolding map_of
  map_same layout tree =
      ap (map (key_among (expecting_files layout tree) (expecting_directories layout tree)))
      (filter_same (in_map_order (names_of (expecting_files layout tree) ++ names_of (expecting_directories layout tree))))

  shade_same : (files : List Expecting) (path : Path) (e : Expected) → shadowed_as b files path e ≡ shadowed_as c files path e
  shade_same files path (Ok p) = ap (unless_defined files path p) (kept_same p)
  shade_same files path (Err wrong) = refl

  file_same : (files : List Expecting) (path : Path) (o : Option Expected) → option_and_then (shadowed_as b files path) o ≡ option_and_then (shadowed_as c files path) o
  file_same files path None = refl
  file_same files path (Some e) = shade_same files path e

  paths_same : (layout : Layout) (files : List Expecting) (paths : List Path) → filter_map (shadowed_file layout b files) paths ≡ filter_map (shadowed_file layout c files) paths
  paths_same layout files [] = refl
  paths_same layout files (path ∷ paths) =
      ap (λ o. cons_option o (filter_map (shadowed_file layout b files) paths)) (file_same files path (expected_path layout path))
      ∙ ap (cons_option (shadowed_file layout c files path)) (paths_same layout files paths)

  pub shadowed_same : (layout : Layout) (tree : Tree) → shadowed layout tree b ≡ shadowed layout tree c
  shadowed_same layout tree = paths_same layout (expecting_files layout tree) (visible_files layout tree)
