-- What stands in an `else`, arm by arm from the last.
use Rattle.std.proofs.Common.{◌≡◌, ◌≢◌, List, [], ◌∷◌, ◌++◌, Option, Some, None, option_map, refl, sym, ap, ◌∙◌}
use Rattle.std.proofs.lemmas.List.{map-append}
use Rattle.std.specs.Option.{option_and_then}
use Rattle.zw_def.specs.Text.{Text}
use Rattle.zw_def_syntax.specs.Tree.{Tree, Grown}
use Rattle.zw_def_syntax.specs.Compound.{Arm, chosen}
use Rattle.zw_base.specs.declared.fault.Fault.{Fault}
use Rattle.zw_base.specs.declared.fault.Fault.TheVariants.{Memory}
use Rattle.zw_ast.specs.declared.grown.Malformed.{Malformed}
use Rattle.zw_compound.specs.declared.choice.Arm as code
use Rattle.zw_compound.specs.Arm.{arm_seen, arms_seen}
use Rattle.zw_compound.specs.Part.{choice_of, else_of, else_of_one}

pub chosen_by_else : (a : Arm) (more : List Arm) (other : List (Grown Tree)) → chosen a more other ≡ option_and_then (choice_of a) (else_of more other)
chosen_by_else a [] other = refl
chosen_by_else a (b ∷ more) other = at (chosen b more other)
  where
    at : (x : Option (Grown Tree)) → option_and_then (λ rest. choice_of a (rest ∷ [])) x ≡ option_and_then (choice_of a) (option_map (λ t. t ∷ []) x)
    at None = refl
    at (Some rest) = refl

-- the arms before the last, behind what that makes
else_by_last : (front : List Arm) (a : Arm) (other : List (Grown Tree)) → else_of (front ++ a ∷ []) other ≡ option_and_then (else_of front) (else_of_one a other)
else_by_last [] a other = at (choice_of a other)
  where
    at : (x : Option (Grown Tree)) → option_map (λ t. t ∷ []) x ≡ option_and_then (λ o. Some o) (option_map (λ t. t ∷ []) x)
    at None = refl
    at (Some t) = refl
else_by_last (f ∷ front) a other =
    ap (option_map (λ t. t ∷ [])) (chosen_by_else f (front ++ a ∷ []) other ∙ ap (option_and_then (choice_of f)) (else_by_last front a other))
    ∙ at (else_of_one a other)
  where
    at : (x : Option (List (Grown Tree))) → option_map (λ t. t ∷ []) (option_and_then (choice_of f) (option_and_then (else_of front) x))
        ≡ option_and_then (else_of (f ∷ front)) x
    at None = refl
    at (Some o) = ap (option_map (λ t. t ∷ [])) (sym (chosen_by_else f front o))

else_goes : (front : List Arm) (a : Arm) (other o : List (Grown Tree)) → else_of_one a other ≡ Some o → else_of (front ++ a ∷ []) other ≡ else_of front o
else_goes front a other o e = else_by_last front a other ∙ ap (option_and_then (else_of front)) e

else_fails : (front : List Arm) (a : Arm) (other : List (Grown Tree)) → else_of_one a other ≡ None → else_of (front ++ a ∷ []) other ≡ None
else_fails front a other e = else_by_last front a other ∙ ap (option_and_then (else_of front)) e

-- ---- the same of the code's arms, the last of which is taken off

module _ (names : List Text) (arms rest : List code.Arm) (a : code.Arm) (other : List (Grown Tree)) (split : arms ≡ rest ++ a ∷ []) where
  by_last : else_of (arms_seen names arms) other ≡ else_of (arms_seen names rest ++ arm_seen names a ∷ []) other
  by_last =
      ap (λ xs. else_of (arms_seen names xs) other) split
      ∙ ap (λ xs. else_of xs other) (map-append (arm_seen names) rest (a ∷ []))

  pub arms_go : (o : List (Grown Tree)) → else_of_one (arm_seen names a) other ≡ Some o → else_of (arms_seen names arms) other ≡ else_of (arms_seen names rest) o
  arms_go o e = by_last ∙ else_goes (arms_seen names rest) (arm_seen names a) other o e

  pub arms_fail : (fault : Fault Malformed) → (fault ≢ Memory → else_of_one (arm_seen names a) other ≡ None) → fault ≢ Memory → else_of (arms_seen names arms) other ≡ None
  arms_fail fault none known = by_last ∙ else_fails (arms_seen names rest) (arm_seen names a) other (none known)
