-- The names of what is read are in the table.
use Rattle.std.proofs.Common.{ℕ, ◌≤◌, List, [], ◌∷◌, ◌++◌, arith}
use Rattle.zw_def.specs.Text.{Text}
use Rattle.zw_ast.specs.declared.grown.Grown.{Grown}
use Rattle.zw_ast.specs.declared.node.Node.{Node}
use Rattle.zw_ast.specs.declared.part.Segment.{Segment}
use Rattle.zw_ast.specs.Named.{IsNamed, AreNamed, greatest}
use Rattle.zw_expr.specs.declared.operand.Operand.{Operand}
use Rattle.zw_expr.specs.Operand.{operand_names}
use Rattle.zw_ast.specs.Part.{segment_names}

pub named_pushed : (names : List Text) (gs : List (Grown Node)) (g : Grown Node) → AreNamed names gs → IsNamed names g → AreNamed names (gs ++ g ∷ [])
named_pushed names [] g many one = omega (arith, one)
named_pushed names (x ∷ gs) g many one = let h = named_pushed names gs g (omega (arith, many)) one in omega (arith, h, many)

greatest_pushed : {A : Type 0} (f : A → ℕ) (xs : List A) (x : A) (n : ℕ) → greatest f xs ≤ n → f x ≤ n → greatest f (xs ++ x ∷ []) ≤ n
greatest_pushed f [] x n many one = omega (arith, one)
greatest_pushed f (y ∷ ys) x n many one = let h = greatest_pushed f ys x n (omega (arith, many)) one in omega (arith, h, many)

pub segment_pushed : (ss : List Segment) (s : Segment) (n : ℕ) → greatest segment_names ss ≤ n → segment_names s ≤ n → greatest segment_names (ss ++ s ∷ []) ≤ n
segment_pushed ss s n many one = greatest_pushed segment_names ss s n many one

pub operand_pushed : (os : List Operand) (o : Operand) (n : ℕ) → greatest operand_names os ≤ n → operand_names o ≤ n → greatest operand_names (os ++ o ∷ []) ≤ n
operand_pushed os o n many one = greatest_pushed operand_names os o n many one
