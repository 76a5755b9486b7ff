-- A table by names does what the table by numbers does that it tells.
use Rattle.std.proofs.Common.{◌≡◌, Bool, true, false, ℕ, List, [], ◌∷◌, Some, cond, nat_eq, refl, ap, ◌∙◌}
use Rattle.std.specs.Option.{option_map}
use Rattle.std.proofs.lemmas.Bool.{eqb-true}
use Rattle.std.specs.Map.{lookup, remove_entry}
use Rattle.indexmap.specs.IndexMap.{insert_entry}
use Rattle.zw_def.specs.Text.{Text}
use Rattle.zw_def_world.specs.Table.{at, assigned, removed}
use Rattle.zw_told.specs.Table.{told_table}
use Rattle.zw_told.proofs.NameLemmas.{name_told}

module _ {A B : Type 0} (name : ℕ → Text) (differ : (m n : ℕ) → name m ≡ name n → m ≡ n) (told : A → B) where
  pub at-told : (x : ℕ) (es : List (ℕ × A)) → at (name x) (told_table name told es) ≡ option_map told (lookup (nat_eq x) es)
  at-told x [] = refl
  at-told x (e ∷ es) = (λ i. cond (name_told name differ x e.0 i) (Some (told e.1)) (at-told x es i)) ∙ by (nat_eq x e.0)
    where
      by : (b : Bool) → cond b (Some (told e.1)) (option_map told (lookup (nat_eq x) es)) ≡ option_map told (cond b (Some e.1) (lookup (nat_eq x) es))
      by true = refl
      by false = refl

  pub assigned-told : (x : ℕ) (v : A) (es : List (ℕ × A)) → assigned (name x) (told v) (told_table name told es) ≡ told_table name told (insert_entry nat_eq es x v)
  assigned-told x v [] = refl
  assigned-told x v (e ∷ es) = (λ i. cond (name_told name differ x e.0 i) ((name x, told v) ∷ told_table name told es) ((name e.0, told e.1) ∷ assigned-told x v es i)) ∙ by (nat_eq x e.0) refl
    where
      by : (b : Bool) → nat_eq x e.0 ≡ b → cond b ((name x, told v) ∷ told_table name told es) ((name e.0, told e.1) ∷ told_table name told (insert_entry nat_eq es x v)) ≡ told_table name told (cond b ((e.0, v) ∷ es) (e ∷ insert_entry nat_eq es x v))
      by true is = ap (λ k. (name k, told v) ∷ told_table name told es) (eqb-true x e.0 is)
      by false is = refl

  pub removed-told : (x : ℕ) (es : List (ℕ × A)) → removed (name x) (told_table name told es) ≡ told_table name told (remove_entry (nat_eq x) es)
  removed-told x [] = refl
  removed-told x (e ∷ es) = (λ i. cond (name_told name differ x e.0 i) (told_table name told es) ((name e.0, told e.1) ∷ removed-told x es i)) ∙ by (nat_eq x e.0)
    where
      by : (b : Bool) → cond b (told_table name told es) ((name e.0, told e.1) ∷ told_table name told (remove_entry (nat_eq x) es)) ≡ told_table name told (cond b es (e ∷ remove_entry (nat_eq x) es))
      by true = refl
      by false = refl
