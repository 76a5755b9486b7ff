-- Rules of which a part is read by a function of its own, and what a rule gives once its steps are known.
use Rattle.std.proofs.Common.{◌≡◌, ◌≢◌, List, [], ◌∷◌, ◌++◌, Option, Some, None, Result, Ok, Err, IsErrAnd, refl, ap, sym, ◌∙◌}
use Rattle.zw_def.specs.Text.{Text}
use Rattle.zw_def_syntax.specs.Tree.{Tree, Trees, Perhaps, Grown, row_of}
use Rattle.zw_def_syntax.specs.Input.{Input, Parser, apart, given, keyword_next, know, next, repeated, take_keyword, and_then}
use Rattle.zw_def_syntax.specs.Compound as spec
use Rattle.zw_def_syntax.specs.Compound.{Reader, Arm, Path, Params, Clauses, names_of, line_form, body_or_none, chosen, unless_tree, class_tree, module_tree}
use Rattle.zw_base.specs.declared.fault.Fault.{Fault}
use Rattle.zw_base.specs.declared.fault.Fault.TheVariants.{Memory}
use Rattle.zw_ast.specs.Gives.{Gives}
use Rattle.zw_ast.specs.declared.grown.Malformed.{Malformed}
use Rattle.zw_expr.specs.Reads.{Reads}
use Rattle.zw_compound.specs.Part as part

-- a rule that ends in a node reads what its maker gives
pub reads_given : {A X : Type 0} (view : X → A) (rule : Parser A) (outcome : Option A) (i j : Input) (result : Result X (Fault Malformed)) → rule i ≡ given outcome j → Gives view outcome result → Reads view rule i result j
reads_given view rule outcome i j (Ok x) is gives = is ∙ ap (λ o. given o j) gives
reads_given view rule outcome i j (Err fault) is gives = λ known. is ∙ ap (λ o. given o j) (gives known)

-- a rule that fails where its last step does
pub reads_fails : {A X : Type 0} (view : X → A) (rule : Parser A) (i j : Input) (result : Result X (Fault Malformed)) (fault : Fault Malformed) → IsErrAnd result (λ e. e ≡ fault) → (fault ≢ Memory → rule i ≡ None) → Reads view rule i result j
reads_fails view rule i j (Ok x) fault is none = absurd is
reads_fails view rule i j (Err e) fault is none = λ known. none (λ memory. known (is ∙ memory))

-- ---- `if` and `unless`

module _ (inner : Reader) (i h j k l : Input) (first : Arm) (other : Option (List (Grown Tree)))
    (taken : h ≡ next i) (arm : spec.arm inner h ≡ Some (first, j)) where
  module _ (start more : List Arm) (fresh : start ≡ [])
      (repeats : repeated (keyword_next "elsif") (part.one_more_arm inner) start j ≡ Some (more, k))
      (body : spec.program_after inner "else" k ≡ Some (other, l)) where
    arms : repeated (keyword_next "elsif") (part.one_more_arm inner) [] j ≡ Some (more, k)
    arms = ap (λ s. repeated (keyword_next "elsif") (part.one_more_arm inner) s j) (sym fresh) ∙ repeats

    whole : (m : Input) → take_keyword "end" l ≡ Some (tt, m) → spec.if_rule inner i ≡ given (chosen first more (body_or_none inner other)) m
    unfolding spec.if_rule
    whole m end = rw (sym taken) (rw arm (rw arms (rw body (rw end refl))))

    pub if_goes : (others : List (Grown Tree)) → others ≡ body_or_none inner other → (m : Input) → take_keyword "end" l ≡ Some (tt, m) → spec.if_rule inner i ≡ given (chosen first more others) m
    if_goes others is m end = whole m end ∙ ap (λ all. given (chosen first more all) m) (sym is)

    pub if_fails : take_keyword "end" l ≡ None → spec.if_rule inner i ≡ None
    unfolding spec.if_rule
    if_fails end = rw (sym taken) (rw arm (rw arms (rw body (rw end refl))))

  unless_whole : (m : Input) → spec.program_after inner "else" j ≡ Some (other, l) → take_keyword "end" l ≡ Some (tt, m) → spec.unless_rule inner i ≡ given (unless_tree first (body_or_none inner other)) m
  unfolding spec.unless_rule
  unless_whole m body end = rw (sym taken) (rw arm (rw body (rw end refl)))

  pub unless_goes : spec.program_after inner "else" j ≡ Some (other, l) → (others : List (Grown Tree)) → others ≡ body_or_none inner other → (m : Input) → take_keyword "end" l ≡ Some (tt, m) → spec.unless_rule inner i ≡ given (unless_tree first others) m
  unless_goes body others is m end = unless_whole m body end ∙ ap (λ all. given (unless_tree first all) m) (sym is)

-- ---- methods

module _ (inner : Reader) (i j k l : Input) (p : Params) (known : List Text)
    (params : spec.optional_params inner i ≡ Some (p, j)) (told : known ≡ names_of p)
    (here : k ≡ record j { known = known }) (skips : spec.skip_separators k ≡ Some (tt, l)) where
  at_body : k ≡ record j { known = names_of p }
  at_body = here ∙ ap (λ ts. record j { known = ts }) told

  pub method_goes : (c : Clauses) (m : Input) → spec.clauses inner l ≡ Some (c, m) → spec.method inner i ≡ Some (record { params = p; clauses = c }, m)
  unfolding spec.method know
  method_goes c m body = rw params (rw (sym at_body) (rw skips (rw body refl)))

  pub method_fails : spec.clauses inner l ≡ None → spec.method inner i ≡ None
  unfolding spec.method know
  method_fails body = rw params (rw (sym at_body) (rw skips (rw body refl)))

-- ---- loops

module _ (inner : Reader) (tree_of : Grown Tree → Grown Trees → Option (Grown Tree)) where
  abbrev closed : Arm → Input → Option (Grown Tree × Input)
  closed a j = and_then (take_keyword "end" j) (λ _ k. given (tree_of a.test (row_of a.body)) k)

  abbrev arm_of : Grown Tree → List (Grown Tree) → Arm
  arm_of test body = record { test = test; body = body }

  pub loop_by_arm : (i : Input) → spec.loop_rule inner tree_of i ≡ part.loop_by_arm inner tree_of i
  unfolding spec.loop_rule
  loop_by_arm i = at (inner.tree line_form (next i))
    where
      behind : (test : Grown Tree) (x : Option (List (Grown Tree) × Input))
          → and_then x (λ body j. closed (arm_of test body) j) ≡ and_then (and_then x (λ body j. Some (arm_of test body, j))) closed
      behind test None = refl
      behind test (Some b) = refl

      after : (test : Grown Tree) (x : Option (Unit {0} × Input))
          → and_then x (λ _ j. and_then (inner.program j) (λ body k. closed (arm_of test body) k)) ≡ and_then (and_then x (λ _ j. and_then (inner.program j) (λ body k. Some (arm_of test body, k)))) closed
      after test None = refl
      after test (Some w) = behind test (inner.program w.1)

      at : (x : Option (Grown Tree × Input))
          → and_then x (λ test j. and_then (spec.do_word j) (λ _ k. and_then (inner.program k) (λ body l. closed (arm_of test body) l))) ≡ and_then (and_then x (λ test j. and_then (spec.do_word j) (λ _ k. and_then (inner.program k) (λ body l. Some (arm_of test body, l))))) closed
      at None = refl
      at (Some t) = after t.0 (spec.do_word t.1)

-- ---- classes and modules

module _ (inner : Reader) (tree_of : List (Grown Tree) → Option (Grown Tree)) where
  closes : (j : Input) → and_then (spec.separators j) (λ _ a. and_then (apart inner.program a) (λ body b. and_then (take_keyword "end" b) (λ _ c. given (tree_of body) c))) ≡ and_then (part.closed_body inner j) (λ body c. given (tree_of body) c)
  closes j = at (spec.separators j)
    where
      behind : (body : List (Grown Tree)) (x : Option (Unit {0} × Input))
          → and_then x (λ _ c. given (tree_of body) c) ≡ and_then (and_then x (λ _ c. Some (body, c))) (λ all c. given (tree_of all) c)
      behind body None = refl
      behind body (Some w) = refl

      after : (x : Option (List (Grown Tree) × Input))
          → and_then x (λ body b. and_then (take_keyword "end" b) (λ _ c. given (tree_of body) c)) ≡ and_then (and_then x (λ body b. and_then (take_keyword "end" b) (λ _ c. Some (body, c)))) (λ all c. given (tree_of all) c)
      after None = refl
      after (Some b) = behind b.0 (take_keyword "end" b.1)

      at : (x : Option (Unit {0} × Input))
          → and_then x (λ _ a. and_then (apart inner.program a) (λ body b. and_then (take_keyword "end" b) (λ _ c. given (tree_of body) c))) ≡ and_then (and_then x (λ _ a. and_then (apart inner.program a) (λ body b. and_then (take_keyword "end" b) (λ _ c. Some (body, c))))) (λ all c. given (tree_of all) c)
      at None = refl
      at (Some w) = after (apart inner.program w.1)

module _ (inner : Reader) where
  pub class_by_body : (i : Input) → spec.class_rule inner i ≡ part.class_by_body inner i
  unfolding spec.class_rule
  class_by_body i = at (spec.cpath (next i))
    where
      behind : (p : Path) (x : Option (Grown Perhaps × Input))
          → and_then x (λ above j. and_then (spec.separators j) (λ _ a. and_then (apart inner.program a) (λ body b. and_then (take_keyword "end" b) (λ _ c. given (class_tree p above body) c)))) ≡ and_then x (λ above j. and_then (part.closed_body inner j) (λ body c. given (class_tree p above body) c))
      behind p None = refl
      behind p (Some s) = closes inner (class_tree p s.0) s.1

      at : (x : Option (Path × Input))
          → and_then x (λ p k. and_then (spec.superclass inner k) (λ above j. and_then (spec.separators j) (λ _ a. and_then (apart inner.program a) (λ body b. and_then (take_keyword "end" b) (λ _ c. given (class_tree p above body) c))))) ≡ and_then x (λ p k. and_then (spec.superclass inner k) (λ above j. and_then (part.closed_body inner j) (λ body c. given (class_tree p above body) c)))
      at None = refl
      at (Some p) = behind p.0 (spec.superclass inner p.1)

  pub module_by_body : (i : Input) → spec.module_rule inner i ≡ part.module_by_body inner i
  unfolding spec.module_rule
  module_by_body i = at (spec.cpath (next i))
    where
      at : (x : Option (Path × Input))
          → and_then x (λ p j. and_then (spec.separators j) (λ _ a. and_then (apart inner.program a) (λ body b. and_then (take_keyword "end" b) (λ _ c. given (module_tree p body) c)))) ≡ and_then x (λ p j. and_then (part.closed_body inner j) (λ body c. given (module_tree p body) c))
      at None = refl
      at (Some p) = closes inner (module_tree p.0) p.1
