-- Rows of rescue clauses, of parameters with defaults, and of the parts of a text.
use Rattle.std.proofs.Common.{◌≡◌, ℕ, max, length, rules, arith, List, [], ◌∷◌, ◌++◌, map, true, false, Some, subst, refl, ap, ◌∙◌, sym}
use Rattle.std.proofs.Math.Nat.{max-zero}
use Rattle.std.proofs.lemmas.List.{append-nil}
use Rattle.std.specs.Prelude.{Option, Result, option_and_then}
use Rattle.std.specs.Option.{option_map}
use Rattle.zw_def.specs.Text.{Text}
use Rattle.zw_def_syntax.specs.Tree as t
use Rattle.zw_def_syntax.specs.Tree.{◌<$>◌, ◌<*>◌}
use Rattle.zw_def_syntax.specs.Compound as c
use Rattle.zw_def_syntax.specs.Expression as e
use Rattle.std.specs.Prelude.{String, string_bytes}
use Rattle.std.specs.declared.alloc.Global.{Global}
use Rattle.zw_ast.specs.declared.part.Segment.{Segment}
use Rattle.zw_ast.specs.declared.node.Part.{Part}
use Rattle.zw_ast.specs.declared.node.Part.TheVariants as p
use Rattle.zw_ast.specs.declared.grown.Grown.{Grown}
use Rattle.zw_base.specs.declared.fault.Fault.{Fault}
use Rattle.zw_names.specs.declared.names.Name.{Name}
use Rattle.zw_ast.specs.Gives.{Gives}
use Rattle.zw_ast.specs.declared.grown.Malformed.{Malformed}
use Rattle.zw_ast.specs.declared.node.Node.{Node}
use Rattle.zw_ast.specs.declared.node.Node.TheVariants as n
use Rattle.zw_ast.specs.declared.node.MethodName.{MethodName}
use Rattle.zw_ast.specs.declared.part.Params.{Params}
use Rattle.zw_ast.specs.declared.part.Clauses.{Clauses}
use Rattle.zw_ast.specs.declared.node.Rescue.{Rescue}
use Rattle.zw_ast.specs.declared.node.Default.{Default}
use Rattle.zw_ast.specs.declared.part.RescueClause.{RescueClause}
use Rattle.zw_ast.specs.declared.part.Optional.{Optional}
use Rattle.zw_ast.specs.Node.{name_seen, method_seen, tree_seen, trees_of, rescues_of, rescue_seen, defaults_of, default_seen, parts_of, part_seen}
use Rattle.zw_ast.specs.Grown.{grown_seen, all_seen, row_seen, forms, tallest}
use Rattle.zw_ast.specs.Named.{greatest, rescue_names, default_names, part_names}
use Rattle.zw_ast.specs.Part.{params_seen, clauses_seen, clause_seen, optional_seen, rescues_row_seen, defaults_row_seen, rescue_form, rescues_height, default_form, defaults_height, clause_names, optional_names, segment_seen, parts_row_seen, segment_parts, segments_height, segment_names}
use Rattle.zw_ast.proofs.RowLemmas.{row_of_seen}
use Rattle.zw_ast.proofs.KindLemmas.{greatest_alike, def_told, sdef_told}

-- ---- a list that was gone through

pub list_ended : {A B : Type 0} (f : A → B) (xs rest : List A) (made : List B) → length rest ≡ 0
    → made ++ map f rest ≡ map f xs → made ≡ map f xs
list_ended f xs [] made none e = sym (append-nil made) ∙ e
list_ended f xs (x ∷ rest) made none e = search (rules, none)

pub greatest_ended : {A : Type 0} (f : List A → ℕ) (xs rest : List A) (h : ℕ) → f [] ≡ 0 → length rest ≡ 0
    → max h (f rest) ≡ f xs → h ≡ f xs
greatest_ended f xs [] h zero none e = sym (max-zero h) ∙ sym (ap (λ n. max h n) zero) ∙ e
greatest_ended f xs (x ∷ rest) h zero none e = search (rules, none)

-- ---- what the rows stand for

pub rescues_told : (names : List Text) (rs : List RescueClause) →
    c.rescues_of (map (clause_seen names) rs)
    ≡ record { form = rescues_of names (map (rescue_seen names) (map rescue_form rs)); height = rescues_height rs }
rescues_told names [] = refl
rescues_told names (r ∷ rs) =
    ap (λ g. joined g (t.row_of (all_seen names r.body.items)) (c.rescues_of (map (clause_seen names) rs)))
    (row_of_seen names r.paths.items)
    ∙ ap (λ g. joined (seen r.paths.items) g (c.rescues_of (map (clause_seen names) rs))) (row_of_seen names r.body.items)
    ∙ ap (λ g. joined (seen r.paths.items) (seen r.body.items) g) (rescues_told names rs)
  where
    seen : List (Grown Node) → t.Grown t.Trees
    seen gs = record { form = trees_of (map (tree_seen names) (forms gs)); height = tallest gs }

    joined : t.Grown t.Trees → t.Grown t.Trees → t.Grown t.Rescues → t.Grown t.Rescues
    joined ps body more =
        (λ us vs ws. t.rescue_then us (option_map (name_seen names) r.variable) vs ws) <$> ps <*> body <*> more

pub defaults_told : (names : List Text) (ds : List Optional) →
    c.defaults_of (map (optional_seen names) ds)
    ≡ record { form = defaults_of names (map (default_seen names) (map default_form ds)); height = defaults_height ds }
defaults_told names [] = refl
defaults_told names (d ∷ ds) =
    ap (λ g. (λ u us. t.default_then (name_seen names d.name) u us) <$> grown_seen names d.value <*> g) (defaults_told names ds)

pub rescues_made : (names : List Text) (rs : List RescueClause) (made : List (Rescue Node)) (h : ℕ) →
    made ≡ map rescue_form rs → h ≡ rescues_height rs
    → c.rescues_of (map (clause_seen names) rs) ≡ rescues_row_seen names (record { form = made; height = h })
rescues_made names rs made h e d =
    rescues_told names rs
    ∙ ap (λ ms. record { form = rescues_of names (map (rescue_seen names) ms); height = rescues_height rs }) (sym e)
    ∙ ap (λ n. record { form = rescues_of names (map (rescue_seen names) made); height = n }) (sym d)

pub defaults_made : (names : List Text) (ds : List Optional) (made : List (Default Node)) (h : ℕ) →
    made ≡ map default_form ds → h ≡ defaults_height ds
    → c.defaults_of (map (optional_seen names) ds) ≡ defaults_row_seen names (record { form = made; height = h })
defaults_made names ds made h e d =
    defaults_told names ds
    ∙ ap (λ ms. record { form = defaults_of names (map (default_seen names) ms); height = defaults_height ds }) (sym e)
    ∙ ap (λ n. record { form = defaults_of names (map (default_seen names) made); height = n }) (sym d)

pub rescues_named : (rs : List RescueClause) (made : List (Rescue Node)) → made ≡ map rescue_form rs
    → greatest rescue_names made ≡ greatest clause_names rs
rescues_named rs made e = ap (λ ms. greatest rescue_names ms) e ∙ greatest_alike rescue_form rescue_names clause_names (λ r. refl) rs

pub defaults_named : (ds : List Optional) (made : List (Default Node)) → made ≡ map default_form ds
    → greatest default_names made ≡ greatest optional_names ds
defaults_named ds made e = ap (λ ms. greatest default_names ms) e ∙ greatest_alike default_form default_names optional_names (λ d. refl) ds

-- ---- the parts of a text

pub parts_told : (names : List Text) (ss : List Segment) (last : String Global) →
    e.parts_of (map (segment_seen names) ss) (string_bytes last)
    ≡ record { form = parts_of (map (part_seen names) (segment_parts ss last)); height = segments_height ss }
parts_told names [] last = refl
parts_told names (s ∷ ss) last =
    ap (λ g. joined g (e.parts_of (map (segment_seen names) ss) (string_bytes last))) (row_of_seen names s.program.items)
    ∙ ap (λ g. joined seen g) (parts_told names ss last)
  where
    seen : t.Grown t.Trees
    seen = record { form = trees_of (map (tree_seen names) (forms s.program.items)); height = tallest s.program.items }

    joined : t.Grown t.Trees → t.Grown t.Parts → t.Grown t.Parts
    joined body more = (λ us ps. t.text_then (string_bytes s.text) (t.program_then us ps)) <$> body <*> more

-- the parts before the last text, as they are made
pub parts_made : (names : List Text) (ss : List Segment) (last : String Global) (made : List (Part Node)) (h : ℕ) →
    made ≡ segment_parts ss last → h ≡ segments_height ss
    → e.parts_of (map (segment_seen names) ss) (string_bytes last) ≡ parts_row_seen names (record { form = made; height = h })
parts_made names ss last made h e d =
    parts_told names ss last
    ∙ ap (λ ms. record { form = parts_of (map (part_seen names) ms); height = segments_height ss }) (sym e)
    ∙ ap (λ n. record { form = parts_of (map (part_seen names) made); height = n }) (sym d)

pub parts_ended : (ss rest : List Segment) (last : String Global) (made : List (Part Node)) → length rest ≡ 0
    → made ++ segment_parts rest last ≡ segment_parts ss last → made ++ p.Text last ∷ [] ≡ segment_parts ss last
parts_ended ss [] last made none e = e
parts_ended ss (s ∷ rest) last made none e = search (rules, none)

pub parts_named : (ss : List Segment) (last : String Global) (made : List (Part Node)) → made ≡ segment_parts ss last
    → greatest part_names made ≡ greatest segment_names ss
parts_named ss last made e = ap (λ ms. greatest part_names ms) e ∙ of_segments ss
  where
    of_segments : (ss : List Segment) → greatest part_names (segment_parts ss last) ≡ greatest segment_names ss
    of_segments [] = refl
    of_segments (s ∷ ss) = (let e = of_segments ss in omega (arith, e))

-- ---- methods

module _ (names : List Text) (x : MethodName) (params : Params) (clauses : Clauses) (ds : Grown (List (Default Node)))
    (body : Grown (List Node)) (result : Result (Grown Node) (Fault Malformed))
    (defaults : c.defaults_of (map (optional_seen names) params.optional.items) ≡ defaults_row_seen names ds)
    (statements : c.method_body (clauses_seen names clauses) ≡ Some (row_seen names body)) where
  pub method_of_self : (required : List Name) (height : ℕ) → required ≡ params.required.items → height ≡ max ds.height body.height
      → Gives (grown_seen names)
      (t.node (record { form = tree_seen names (n.SDef x required ds.form body.form); height = height }))
      result
      → Gives (grown_seen names)
      (c.def_tree true (method_seen names x)
      (record { params = params_seen names params; clauses = clauses_seen names clauses }))
      result
  method_of_self required height same high told =
      subst (λ o. Gives (grown_seen names) o result)
      (sym (ap (λ o. option_and_then (λ all. made (c.defaults_of (map (optional_seen names) params.optional.items)) all) o) statements
      ∙ ap (λ g. made g (row_seen names body)) defaults
      ∙ ap (λ u. t.node (record { form = u; height = max ds.height body.height }))
      (sym (ap (λ xs. tree_seen names (n.SDef x xs ds.form body.form)) same
      ∙ sdef_told names x params.required.items ds.form body.form))
      ∙ ap (λ h. t.node (record { form = tree_seen names (n.SDef x required ds.form body.form); height = h })) (sym high)))
      told
    where
      made : t.Grown t.Defaults → t.Grown t.Trees → Option (t.Grown t.Tree)
      made g all =
          t.node ((λ us vs. t.sdef_node (method_seen names x) (map (name_seen names) params.required.items) us vs) <$> g <*> all)

  pub method_of_objects : (required : List Name) (height : ℕ) → required ≡ params.required.items → height ≡ max ds.height body.height
      → Gives (grown_seen names)
      (t.node (record { form = tree_seen names (n.Def x required ds.form body.form); height = height }))
      result
      → Gives (grown_seen names)
      (c.def_tree false (method_seen names x)
      (record { params = params_seen names params; clauses = clauses_seen names clauses }))
      result
  method_of_objects required height same high told =
      subst (λ o. Gives (grown_seen names) o result)
      (sym (ap (λ o. option_and_then (λ all. made (c.defaults_of (map (optional_seen names) params.optional.items)) all) o) statements
      ∙ ap (λ g. made g (row_seen names body)) defaults
      ∙ ap (λ u. t.node (record { form = u; height = max ds.height body.height }))
      (sym (ap (λ xs. tree_seen names (n.Def x xs ds.form body.form)) same
      ∙ def_told names x params.required.items ds.form body.form))
      ∙ ap (λ h. t.node (record { form = tree_seen names (n.Def x required ds.form body.form); height = h })) (sym high)))
      told
    where
      made : t.Grown t.Defaults → t.Grown t.Trees → Option (t.Grown t.Tree)
      made g all =
          t.node ((λ us vs. t.def_node (method_seen names x) (map (name_seen names) params.required.items) us vs) <$> g <*> all)
