-- Paths that begin alike: the beginnings of a path, and constant paths that stand one below another.
use Rattle.std.specs.Prelude.{Bool, true, false, List, [], ◌∷◌, ◌++◌, ◌&&◌, map}
use Rattle.std.specs.Str.{bytes_eq}
use Rattle.std.specs.Ordering.{nat_cmp, is_lt}
use Rattle.std.specs.Cmp.Lexicographic.{slice_cmp, pointwise}
use Rattle.std.specs.declared.cmp.Ordering.{Ordering}
use Rattle.zw_def.specs.Text.{Text}
use Rattle.zw_def.specs.ConstantPath.{ConstantPath}

-- ---- paths of any kind

-- all but the last part: the directory in which a file stands, the module in which a name stands
abbrev pub parent_of : {X : Type 0} → List X → List X
parent_of [] = []
parent_of (x ∷ []) = []
parent_of (x ∷ y ∷ more) = x ∷ parent_of (y ∷ more)

-- the nonempty beginnings of a path, the shortest first and the whole path last
abbrev pub beginnings : {X : Type 0} → List X → List (List X)
beginnings [] = []
beginnings (x ∷ xs) = (x ∷ []) ∷ map (λ ys. x ∷ ys) (beginnings xs)

-- those that are shorter than the path
abbrev pub proper_beginnings : {X : Type 0} → List X → List (List X)
proper_beginnings path = beginnings (parent_of path)

-- ---- constant paths

abbrev pub same_names : ConstantPath → ConstantPath → Bool
same_names = pointwise bytes_eq

-- the path of a name in the module of a path
abbrev pub child : ConstantPath → Text → ConstantPath
child p n = p ++ n ∷ []

-- the second path is the first, or stands below it
abbrev pub is_within : ConstantPath → ConstantPath → Bool
is_within [] q = true
is_within (n ∷ p) [] = false
is_within (n ∷ p) (o ∷ q) = bytes_eq n o && is_within p q

abbrev pub last_name : ConstantPath → Text
last_name [] = []
last_name (n ∷ []) = n
last_name (n ∷ o ∷ more) = last_name (o ∷ more)

-- map order: the order of the lists of names, names by their bytes, so that a namespace precedes its children
abbrev pub map_cmp : ConstantPath → ConstantPath → Ordering
map_cmp = slice_cmp (slice_cmp nat_cmp)

abbrev pub comes_before : ConstantPath → ConstantPath → Bool
comes_before p q = is_lt (map_cmp p q)
