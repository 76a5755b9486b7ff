-- The parameters of a method, as variables that are known.
use Rattle.std.proofs.Common.{◌≡◌, ◌≤◌, ◌+◌, ℕ, suc, max, List, [], ◌∷◌, ◌++◌, map, take, length, refl, ap, sym, ◌∙◌, arith}
use Rattle.std.proofs.lemmas.List.{map-append, take_all}
use Rattle.zw_def.specs.Text.{Text}
use Rattle.zw_def.specs.Names.{text_of, texts_of}
use Rattle.zw_def_syntax.specs.Compound.{names_of}
use Rattle.zw_names.specs.declared.names.Name.{Name}
use Rattle.zw_ast.specs.declared.part.Optional.{Optional}
use Rattle.zw_ast.specs.declared.part.Params.{Params}
use Rattle.zw_ast.specs.Named.{after, greatest}
use Rattle.zw_ast.specs.Node.{name_seen}
use Rattle.zw_ast.specs.Part.{optional_names, optional_seen, params_names, params_seen}
use Rattle.zw_expr.specs.Named.{AreNumbers}

abbrev pub required_numbers : List Name → List ℕ
required_numbers xs = map (λ x. x.0) xs

abbrev pub optional_numbers : List Optional → List ℕ
optional_numbers ds = map (λ d. d.name.0) ds

abbrev pub params_numbers : Params → List ℕ
params_numbers p = required_numbers p.required.items ++ optional_numbers p.optional.items

-- ---- their texts

required_texts : (names : List Text) (xs : List Name) → texts_of names (required_numbers xs) ≡ map (name_seen names) xs
required_texts names [] = refl
required_texts names (x ∷ xs) = ap (λ ts. name_seen names x ∷ ts) (required_texts names xs)

optional_texts : (names : List Text) (ds : List Optional) → texts_of names (optional_numbers ds) ≡ map (λ d. d.name) (map (optional_seen names) ds)
optional_texts names [] = refl
optional_texts names (d ∷ ds) = ap (λ ts. name_seen names d.name ∷ ts) (optional_texts names ds)

params_texts : (names : List Text) (p : Params) → texts_of names (params_numbers p) ≡ names_of (params_seen names p)
params_texts names p =
    map-append (text_of names) (required_numbers p.required.items) (optional_numbers p.optional.items)
    ∙ ap (λ ts. ts ++ texts_of names (optional_numbers p.optional.items)) (required_texts names p.required.items)
    ∙ ap (λ ts. map (name_seen names) p.required.items ++ ts) (optional_texts names p.optional.items)

-- ---- they are in the table

required_within : (xs : List Name) (n : ℕ) → greatest after xs ≤ n → greatest suc (required_numbers xs) ≤ n
required_within [] n all = omega arith
required_within (x ∷ xs) n all = let h = required_within xs n (omega (arith, all)) in omega (arith, h, all)

optional_within : (ds : List Optional) (n : ℕ) → greatest optional_names ds ≤ n → greatest suc (optional_numbers ds) ≤ n
optional_within [] n all = omega arith
optional_within (d ∷ ds) n all = let h = optional_within ds n (omega (arith, all)) in omega (arith, h, all)

both_within : (ms ns : List ℕ) (n : ℕ) → greatest suc ms ≤ n → greatest suc ns ≤ n → greatest suc (ms ++ ns) ≤ n
both_within [] ns n a b = b
both_within (m ∷ ms) ns n a b = let h = both_within ms ns n (omega (arith, a)) b in omega (arith, h, a)

params_within : (names : List Text) (p : Params) → params_names p ≤ length names → AreNumbers names (params_numbers p)
params_within names p all =
    let first = required_within p.required.items (length names) (omega (arith, all)) in
    let more = optional_within p.optional.items (length names) (omega (arith, all)) in
    both_within (required_numbers p.required.items) (optional_numbers p.optional.items) (length names) first more

-- ---- all of them are pushed

module _ (names : List Text) (p : Params) (known : List ℕ) (n : ℕ)
    (is : known ≡ required_numbers p.required.items ++ optional_numbers (take n p.optional.items))
    (past : length p.optional.items ≤ n) where
  all_known : known ≡ params_numbers p
  all_known = is ∙ ap (λ ds. required_numbers p.required.items ++ optional_numbers ds) (take_all n p.optional.items past)

  pub known_texts : texts_of names known ≡ names_of (params_seen names p)
  known_texts = ap (texts_of names) all_known ∙ params_texts names p

  pub known_within : params_names p ≤ length names → AreNumbers names known
  known_within all = rw all_known (params_within names p all)
