-- The names of what is read are in the table.
use Rattle.std.proofs.Common.{◌≡◌, sym, ℕ, ◌≤◌, ◌<◌, max, List, [], ◌∷◌, ◌++◌, length, arith}
use Rattle.zw_def.specs.Text.{Text}
use Rattle.zw_names.specs.declared.names.Name.{Name}
use Rattle.zw_ast.specs.declared.grown.Grown.{Grown}
use Rattle.zw_ast.specs.declared.node.Node.{Node}
use Rattle.zw_ast.specs.declared.part.Optional.{Optional}
use Rattle.zw_ast.specs.declared.part.RescueClause.{RescueClause}
use Rattle.zw_ast.specs.Named.{IsName, IsNamed, AreNamed, after, greatest}
use Rattle.zw_ast.specs.Part.{clause_names, optional_names}
use Rattle.zw_compound.specs.declared.choice.Arm.{Arm}
use Rattle.zw_compound.specs.Arm.{arm_names}

greatest_pushed : {A : Type 0} (f : A → ℕ) (xs : List A) (x : A) (n : ℕ) → greatest f xs ≤ n → f x ≤ n → greatest f (xs ++ x ∷ []) ≤ n
greatest_pushed f [] x n many one = omega (arith, one)
greatest_pushed f (y ∷ ys) x n many one = let h = greatest_pushed f ys x n (omega (arith, many)) one in omega (arith, h, many)

pub named_pushed : (names : List Text) (gs : List (Grown Node)) (g : Grown Node) → AreNamed names gs → IsNamed names g → AreNamed names (gs ++ g ∷ [])
named_pushed names [] g many one = omega (arith, one)
named_pushed names (x ∷ gs) g many one = let h = named_pushed names gs g (omega (arith, many)) one in omega (arith, h, many)

pub arm_pushed : (arms : List Arm) (a : Arm) (n : ℕ) → greatest arm_names arms ≤ n → arm_names a ≤ n → greatest arm_names (arms ++ a ∷ []) ≤ n
arm_pushed arms a n many one = greatest_pushed arm_names arms a n many one

pub clause_pushed : (rs : List RescueClause) (r : RescueClause) (n : ℕ) → greatest clause_names rs ≤ n → clause_names r ≤ n → greatest clause_names (rs ++ r ∷ []) ≤ n
clause_pushed rs r n many one = greatest_pushed clause_names rs r n many one

required_pushed : (xs : List Name) (x : Name) (n : ℕ) → greatest after xs ≤ n → x.0 < n → greatest after (xs ++ x ∷ []) ≤ n
required_pushed xs x n many one = greatest_pushed after xs x n many (omega (arith, one))

pub optional_pushed : (ds : List Optional) (d : Optional) (n : ℕ) → greatest optional_names ds ≤ n → optional_names d ≤ n → greatest optional_names (ds ++ d ∷ []) ≤ n
optional_pushed ds d n many one = greatest_pushed optional_names ds d n many one

-- the last one taken off
arms_split : (arms : List Arm) (a : Arm) (n : ℕ) → greatest arm_names (arms ++ a ∷ []) ≤ n → (greatest arm_names arms ≤ n) × (arm_names a ≤ n)
arms_split [] a n all = (omega arith, omega (arith, all))
arms_split (x ∷ arms) a n all = let h = arms_split arms a n (omega (arith, all)) in (omega (arith, all, h.0), h.1)

pub arms_left : (arms rest : List Arm) (a : Arm) (n : ℕ) → arms ≡ rest ++ a ∷ [] → greatest arm_names arms ≤ n → greatest arm_names rest ≤ n
arms_left arms rest a n split all =
    let whole : greatest arm_names (rest ++ a ∷ []) ≤ n = rw (sym split) all in
    (arms_split rest a n whole).0

pub required_behind : (xs ys : List Name) (x : Name) (ds : List Optional) (n : ℕ) → ys ≡ xs ++ x ∷ [] → max (greatest after xs) (greatest optional_names ds) ≤ n → x.0 < n → max (greatest after ys) (greatest optional_names ds) ≤ n
required_behind xs ys x ds n is many one =
    let pushed = required_pushed xs x n (omega (arith, many)) one in
    let all : greatest after ys ≤ n = rw is pushed in
    omega (arith, all, many)
