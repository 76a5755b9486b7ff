-- Look-ups by name in tables whose rows stand in the order of their names.
use Rattle.std.proofs.Common.{◌≡◌, Bool, true, false, ◌||◌, List, [], ◌∷◌, map, cond, Option, Some, None, IfSome, refl, sym, ap, subst, ◌∙◌}
use Rattle.std.specs.List.{find, list_all, list_any}
use Rattle.std.specs.Map.{lookup, keys_of}
use Rattle.std.specs.Option.{option_map}
use Rattle.std.specs.Str.{bytes_eq}
use Rattle.std.proofs.lemmas.Bool.{and_parts}
use Rattle.zw_lemmas.proofs.TextLemmas.{same_text}
use Rattle.zw_def.specs.Text.{Text}
use Rattle.zw_def_world.specs.Primitive.{Primitive}
use Rattle.zw_calls.specs.Named.{is_named}

module _ {A : Type 0} (seen : A → Primitive) (name : Text) (rows : List Primitive) where
  hit : (es : List (Text × A)) → map (λ e. find (is_named e.0) rows) es ≡ map (λ e. Some (seen e.1)) es → (a : A) → lookup (bytes_eq name) es ≡ Some a → find (is_named name) rows ≡ Some (seen a)
  hit [] same a at = absurd (cc)
  hit (e ∷ es) same a at = by (λ at. hit es tail a at) (bytes_eq name e.0) refl
    where
      head : find (is_named e.0) rows ≡ Some (seen e.1)
      head = cc same

      tail : map (λ (e : Text × A). find (is_named e.0) rows) es ≡ map (λ (e : Text × A). Some (seen e.1)) es
      tail = cc same

      by : (lookup (bytes_eq name) es ≡ Some a → find (is_named name) rows ≡ Some (seen a)) → (b : Bool) → bytes_eq name e.0 ≡ b → find (is_named name) rows ≡ Some (seen a)
      by later true eq =
          let here : Some e.1 ≡ Some a = sym (ap (λ b. cond b (Some e.1) (lookup (bytes_eq name) es)) eq) ∙ at in
          ap (λ n. find (is_named n) rows) (same_text name e.0 eq) ∙ head ∙ ap (option_map seen) here
      by later false eq = later (sym (ap (λ b. cond b (Some e.1) (lookup (bytes_eq name) es)) eq) ∙ at)

  no_key : (es : List (Text × A)) → lookup (bytes_eq name) es ≡ None → list_any (bytes_eq name) (keys_of es) ≡ false
  no_key [] at = refl
  no_key (e ∷ es) at = by (no_key es) (bytes_eq name e.0) refl
    where
      by : (lookup (bytes_eq name) es ≡ None → list_any (bytes_eq name) (keys_of es) ≡ false) → (b : Bool) → bytes_eq name e.0 ≡ b → (bytes_eq name e.0 || list_any (bytes_eq name) (keys_of es)) ≡ false
      by later true eq =
          let here : Some e.1 ≡ None = sym (ap (λ b. cond b (Some e.1) (lookup (bytes_eq name) es)) eq) ∙ at in absurd (cc)
      by later false eq = ap (λ b. b || list_any (bytes_eq name) (keys_of es)) eq ∙ later (sym (ap (λ b. cond b (Some e.1) (lookup (bytes_eq name) es)) eq) ∙ at)

  miss : (keys : List Text) → list_any (bytes_eq name) keys ≡ false → (ps : List Primitive) → list_all (λ p. list_any (bytes_eq p.name) keys) ps ≡ true → find (is_named name) ps ≡ None
  miss keys none [] all = refl
  miss keys none (p ∷ ps) all = by (miss keys none ps parts.1) (bytes_eq name p.name) refl
    where
      parts : (list_any (bytes_eq p.name) keys ≡ true) × (list_all (λ p. list_any (bytes_eq p.name) keys) ps ≡ true)
      parts = and_parts (list_any (bytes_eq p.name) keys) (list_all (λ p. list_any (bytes_eq p.name) keys) ps) all

      by : find (is_named name) ps ≡ None → (b : Bool) → bytes_eq name p.name ≡ b → cond (bytes_eq name p.name) (Some p) (find (is_named name) ps) ≡ None
      by later true eq =
          let both : true ≡ false = sym parts.0 ∙ ap (λ n. list_any (bytes_eq n) keys) (sym (same_text name p.name eq)) ∙ none in absurd (cc)
      by later false eq = ap (λ b. cond b (Some p) (find (is_named name) ps)) eq ∙ later

  -- each row of the table is found in the list, and the list has no further names
  pub named-is : (es : List (Text × A)) → map (λ e. find (is_named e.0) rows) es ≡ map (λ e. Some (seen e.1)) es → list_all (λ p. list_any (bytes_eq p.name) (keys_of es)) rows ≡ true → option_map seen (lookup (bytes_eq name) es) ≡ find (is_named name) rows
  named-is es same all = by (lookup (bytes_eq name) es) refl
    where
      by : (o : Option A) → lookup (bytes_eq name) es ≡ o → option_map seen (lookup (bytes_eq name) es) ≡ find (is_named name) rows
      by None at = ap (option_map seen) at ∙ sym (miss (keys_of es) (no_key es at) rows all)
      by (Some a) at = ap (option_map seen) at ∙ sym (hit es same a at)

  -- a table that is made of these rows, and what a look-up in it gives
  pub named-in : (made : Option (List (Text × A))) (table rs : List (Text × A)) → made ≡ Some table → IfSome made (λ t. t ≡ rs) → (copied : Option A) → copied ≡ lookup (bytes_eq name) table → map (λ e. find (is_named e.0) rows) rs ≡ map (λ e. Some (seen e.1)) rs → list_all (λ p. list_any (bytes_eq p.name) (keys_of rs)) rows ≡ true → option_map seen copied ≡ find (is_named name) rows
  named-in made table rs is told copied found same all =
      let are : table ≡ rs = subst (λ o. IfSome o (λ t. t ≡ rs)) is told in
      ap (option_map seen) (found ∙ ap (lookup (bytes_eq name)) are) ∙ named-is rs same all
