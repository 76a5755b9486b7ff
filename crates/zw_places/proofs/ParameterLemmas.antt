-- The parameters of a method, by their numbers and by their texts.
use Rattle.std.proofs.Common.{◌≡◌, ◌≤◌, ℕ, ◌⊎◌, inl, inr, Bool, List, [], ◌∷◌, ◌++◌, map, Result, Ok, Err, refl, ap, sym, ◌∙◌, arith}
use Rattle.std.specs.Prelude.{IfOk}
use Rattle.std.proofs.lemmas.List.{map-append}
use Rattle.std.specs.declared.alloc.AllocError.{AllocError}
use Rattle.zw_def.specs.Text.{Text}
use Rattle.zw_def_syntax.specs.Places as d
use Rattle.zw_names.specs.declared.names.Name.{Name}
use Rattle.zw_ast.specs.declared.node.Node.{Node}
use Rattle.zw_ast.specs.declared.node.Node.TheVariants as n
use Rattle.zw_ast.specs.declared.node.MethodName.{MethodName}
use Rattle.zw_ast.specs.declared.node.Default.{Default}
use Rattle.zw_ast.specs.Named.{bound_of, greatest, after, default_names}
use Rattle.zw_ast.specs.Node.{tree_seen, name_seen, defaults_of, default_seen}
use Rattle.zw_kinds.proofs.KindLemmas.{def_told, def_bound, sdef_told, sdef_bound}
use Rattle.zw_places.specs.Twice.{numbers_of, has_twice}
use Rattle.zw_places.specs.Tells.{Tells}
use Rattle.zw_places.proofs.TwiceLemmas.{repeat_told}

-- a method with these parameters
abbrev pub IsMethod : Node → List Name → List (Default Node) → Type 0
IsMethod node required ds =
    ((x : MethodName) × (us : List Node) × (node ≡ n.Def x required ds us))
    ⊎ ((x : MethodName) × (us : List Node) × (node ≡ n.SDef x required ds us))

abbrev pub parameters : List Name → List (Default Node) → List Name
parameters required ds = required ++ map (λ d. d.name) ds

greatest_joined : (xs ys : List Name) (m : ℕ) → greatest after xs ≤ m → greatest after ys ≤ m → greatest after (xs ++ ys) ≤ m
greatest_joined [] ys m p q = q
greatest_joined (x ∷ xs) ys m p q = let e = greatest_joined xs ys m (omega (arith, p)) q in omega (arith, p, e)

names_within : (ds : List (Default Node)) → greatest after (map (λ d. d.name) ds) ≤ greatest default_names ds
names_within [] = omega arith
names_within (d ∷ ds) = let e = names_within ds in omega (arith, e)

all_within : (node : Node) (required : List Name) (ds : List (Default Node)) → IsMethod node required ds
    → greatest after (parameters required ds) ≤ bound_of node
all_within node required ds (inl (x, us, e)) =
    greatest_joined required (map (λ d. d.name) ds) (bound_of node)
    (let f = ap bound_of e ∙ def_bound x required ds us in omega (arith, f))
    (let f = ap bound_of e ∙ def_bound x required ds us in let g = names_within ds in omega (arith, f, g))
all_within node required ds (inr (x, us, e)) =
    greatest_joined required (map (λ d. d.name) ds) (bound_of node)
    (let f = ap bound_of e ∙ sdef_bound x required ds us in omega (arith, f))
    (let f = ap bound_of e ∙ sdef_bound x required ds us in let g = names_within ds in omega (arith, f, g))

module _ (names : List Text) where
  default_names_told : (ds : List (Default Node)) →
      d.default_names (defaults_of names (map (default_seen names) ds)) ≡ map (name_seen names) (map (λ d. d.name) ds)
  default_names_told [] = refl
  default_names_told (d ∷ ds) = ap (λ xs. name_seen names d.name ∷ xs) (default_names_told ds)

  all_told : (required : List Name) (ds : List (Default Node)) →
      map (name_seen names) (parameters required ds)
      ≡ map (name_seen names) required ++ d.default_names (defaults_of names (map (default_seen names) ds))
  all_told required ds =
      map-append (name_seen names) required (map (λ d. d.name) ds)
      ∙ ap (λ xs. map (name_seen names) required ++ xs) (sym (default_names_told ds))

  repeats_told : (place : d.Place) (node : Node) (required : List Name) (ds : List (Default Node)) → IsMethod node required ds
      → d.has_repeat (map (name_seen names) (parameters required ds)) ≡ d.repeats_parameter place (tree_seen names node)
  repeats_told place node required ds (inl (x, us, e)) =
      ap d.has_repeat (all_told required ds)
      ∙ sym (ap (λ m. d.repeats_parameter place (tree_seen names m)) e ∙ ap (d.repeats_parameter place) (def_told names x required ds us))
  repeats_told place node required ds (inr (x, us, e)) =
      ap d.has_repeat (all_told required ds)
      ∙ sym (ap (λ m. d.repeats_parameter place (tree_seen names m)) e ∙ ap (d.repeats_parameter place) (sdef_told names x required ds us))

-- whether a name stands twice among all parameters is whether the method repeats one
pub repeats_by_number : (place : d.Place) (node : Node) (required : List Name) (ds : List (Default Node)) (all : List Name)
    (r : Result Bool AllocError) → IsMethod node required ds → all ≡ parameters required ds
    → IfOk r (λ found. found ≡ has_twice (numbers_of all))
    → Tells (λ names. d.repeats_parameter place (tree_seen names node)) (bound_of node) r
repeats_by_number place node required ds all (Err fault) method same told = tt
repeats_by_number place node required ds all (Ok found) method same told = λ names distinct within.
    let e = all_within node required ds method in
    told ∙ ap (λ xs. has_twice (numbers_of xs)) same
    ∙ repeat_told names (parameters required ds) distinct (omega (arith, e, within))
    ∙ repeats_told names place node required ds method
