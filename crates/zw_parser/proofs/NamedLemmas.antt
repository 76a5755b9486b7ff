-- The names of statements, and of the variables that are given.
use Rattle.std.proofs.Common.{◌≡◌, ℕ, suc, ◌≤◌, List, [], ◌∷◌, ◌++◌, map, length, refl, ap, ◌∙◌, arith}
use Rattle.std.proofs.lemmas.List.{map-append}
use Rattle.zw_def.specs.Text.{Text}
use Rattle.zw_def.specs.Names.{texts_of, text_of}
use Rattle.zw_names.specs.declared.names.Name.{Name}
use Rattle.zw_ast.specs.declared.program.Statement.{Statement}
use Rattle.zw_ast.specs.Named.{AreNames, after, greatest}
use Rattle.zw_ast.specs.Node.{name_seen}
use Rattle.zw_ast.specs.Program.{AreNamedStatements, statement_names, statement_seen, statements_seen}
use Rattle.zw_expr.specs.Known.{numbers_of}
use Rattle.zw_expr.specs.Named.{AreNumbers}

more_named : (ss : List Statement) (s : Statement) (n : ℕ) → greatest statement_names ss ≤ n → statement_names s ≤ n → greatest statement_names (ss ++ s ∷ []) ≤ n
more_named [] s n many one = omega (arith, one)
more_named (x ∷ ss) s n many one = let h = more_named ss s n (omega (arith, many)) one in omega (arith, h, many)

-- one statement more
module _ (names : List Text) (ss ts : List Statement) (s : Statement) (is : ts ≡ ss ++ s ∷ []) where
  pub statement_pushed : AreNamedStatements names ss → statement_names s ≤ length names → AreNamedStatements names ts
  statement_pushed many one = rw is (more_named ss s (length names) many one)

  pub seen_pushed : statements_seen names ts ≡ statements_seen names ss ++ statement_seen names s ∷ []
  seen_pushed = ap (statements_seen names) is ∙ map-append (statement_seen names) ss (s ∷ [])

pub given_texts : (names : List Text) (given : List Name) → texts_of names (numbers_of given) ≡ map (name_seen names) given
given_texts names [] = refl
given_texts names (x ∷ given) = ap (λ more. text_of names x.0 ∷ more) (given_texts names given)

greatest_numbers : (given : List Name) (n : ℕ) → greatest after given ≤ n → greatest suc (numbers_of given) ≤ n
greatest_numbers [] n named = omega arith
greatest_numbers (x ∷ given) n named =
    let h = greatest_numbers given n (omega (arith, named)) in omega (arith, h, named)

pub given_numbers : (names : List Text) (given : List Name) → AreNames names given → AreNumbers names (numbers_of given)
given_numbers names given named = greatest_numbers given (length names) named
