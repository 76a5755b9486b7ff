-- What boot leaves where it runs no file: the core classes and modules (ISO/IEC 30170, 15.2; Zeitwerk README, "Errors").
use Rattle.std.specs.Prelude.{◌≡◌, ℕ, Bool, true, false, List, [], ◌∷◌, ◌++◌, map, codes}
use Rattle.zw_def.specs.Text.{Text}
use Rattle.zw_def.specs.ConstantPath.{ConstantPath}
use Rattle.zw_def.specs.Nesting.{child}
use Rattle.zw_def.specs.Names.{texts_of}
use Rattle.zw_map.specs.BootSeen.{AreBootNamed}

-- a path, and whether the constant there is the module of that very name
abbrev pub Row : Type 0
Row = ConstantPath × Bool

-- those that stand in Object, but for Object itself
abbrev pub names_of_object : List Text
names_of_object =
    codes "Kernel" ∷ codes "Module" ∷ codes "Class" ∷ codes "NilClass" ∷ codes "TrueClass" ∷ codes "FalseClass"
    ∷ codes "Integer" ∷ codes "String" ∷ codes "Symbol" ∷ codes "Array" ∷ codes "Exception" ∷ codes "Zeitwerk"
    ∷ codes "ScriptError" ∷ codes "StandardError" ∷ codes "SyntaxError" ∷ codes "LoadError" ∷ codes "ArgumentError"
    ∷ codes "IndexError" ∷ codes "NameError" ∷ codes "RangeError" ∷ codes "RuntimeError" ∷ codes "TypeError"
    ∷ codes "ZeroDivisionError" ∷ codes "NoMethodError" ∷ codes "FrozenError" ∷ []

abbrev pub names_of_zeitwerk : List Text
names_of_zeitwerk =
    codes "Error" ∷ codes "ReloadingDisabledError" ∷ codes "SetupRequired" ∷ codes "NameError" ∷ []

-- the modules of these names in the module of this path
abbrev pub own_rows : ConstantPath → List Text → List Row
own_rows p names = map (λ n. (child p n, true)) names

-- Object has the empty path, so the constant Object is no module of its name
abbrev pub core_rows : List Row
core_rows =
    ([], true) ∷ (codes "Object" ∷ [], false)
    ∷ (own_rows [] names_of_object ++ own_rows (codes "Zeitwerk" ∷ []) names_of_zeitwerk)

-- ---- as the code keeps them

abbrev pub rows_told : List Text → List (List ℕ × Bool) → List Row
rows_told names rows = map (λ row. (texts_of names row.0, row.1)) rows

pub record IsCore (names : List Text) (rows : List (List ℕ × Bool)) : Type 0 where
  pub named : AreBootNamed names rows
  pub told : rows_told names rows ≡ core_rows
