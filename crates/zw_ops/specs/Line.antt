-- Tables in a line: which one stands behind another, and the first that has a method and is asked.
use Rattle.std.specs.Prelude.{ℕ, zero, suc, ◌+◌, Bool, not, ◌&&◌, List, [], ◌∷◌, Option, None, nat_eq, if◌then◌else◌}
use Rattle.zw_def_world.specs.CoreClass.{Class}
use Rattle.zw_def_world.specs.MethodLine.{bool_eq}
use Rattle.zw_consts.specs.Table.{Table}
use Rattle.zw_methods.specs.Line.{Place, place_seen}
use Rattle.zw_methods.specs.Methods.{method_at, found_or}
use Rattle.zw_methods.specs.declared.method.Method.{Method}
use Rattle.zw_methods.specs.declared.method.ModuleLine.{ModuleLine}

abbrev pub is_table : Place → Place → Bool
is_table p q = nat_eq p.0 q.0 && bool_eq p.1 q.1

-- the line behind a table that has so many equal ones before it
abbrev pub line_behind : ModuleLine → ℕ → List ModuleLine → List ModuleLine
line_behind table n [] = []
line_behind table zero (p ∷ line) =
    if is_table (place_seen table) (place_seen p) then line else line_behind table zero line
line_behind table (suc n) (p ∷ line) =
    if is_table (place_seen table) (place_seen p) then line_behind table n line else line_behind table (suc n) line

abbrev pub is_of_classes : Place → Bool
is_of_classes p = not p.1 && nat_eq p.0 Class.count

-- the first method of a name; the table of the instances of Class may be passed over
abbrev pub first_asked : (Bool → ℕ → Table Method) → Bool → ℕ → ℕ → List ModuleLine → Option (ℕ × Method)
first_asked tables passes x at [] = None
first_asked tables passes x at (place ∷ line) =
    let later = first_asked tables passes x (at + 1) line in
    if passes && is_of_classes (place_seen place) then later
    else found_or at (method_at tables place x) later
