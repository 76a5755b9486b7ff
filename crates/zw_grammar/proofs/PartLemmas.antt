-- Rules of which a part is read by a function of its own, and what a rule gives once its steps are known.
use Rattle.std.proofs.Common.{◌≡◌, ◌&&◌, Bool, true, false, if◌then◌else◌, List, [], ◌∷◌, Option, Some, None, Result, Ok, Err, codes, refl, ap, sym, ◌∙◌}
use Rattle.zw_def.specs.Text.{Text}
use Rattle.zw_def_syntax.specs.Token.{Kind}
use Rattle.zw_def_syntax.specs.Tree.{Tree, Grown}
use Rattle.zw_def_syntax.specs.Input.{Input, Parser, and_then, close_sign, given, if_here, kind_at, next, open_bracket, take_name, take_sign}
use Rattle.zw_def_syntax.specs.Compound.{Reader, ternary_form}
use Rattle.zw_def_syntax.specs.Levels.{folded, joined_from}
use Rattle.zw_def_syntax.specs.Expression as e
use Rattle.zw_def_syntax.specs.Grammar as g
use Rattle.zw_base.specs.declared.fault.Fault.{Fault}
use Rattle.zw_ast.specs.Gives.{Gives}
use Rattle.zw_ast.specs.declared.grown.Malformed.{Malformed}
use Rattle.zw_expr.specs.Reads.{Reads}
use Rattle.zw_grammar.specs.Part as part

-- a rule that goes on as another reads what that reads
pub reads_by : {A X : Type 0} (view : X → A) (rule other : Parser A) (i j k : Input) (result : Result X (Fault Malformed)) → rule i ≡ other j → Reads view other j result k → Reads view rule i result k
reads_by view rule other i j k (Ok x) is reads = is ∙ reads
reads_by view rule other i j k (Err fault) is reads = λ known. is ∙ reads known

-- of two rules, that which the test chooses
pub reads_then : {A X : Type 0} (view : X → A) (test : Input → Bool) (p q : Parser A) (i k : Input) (result : Result X (Fault Malformed)) → test i ≡ true → Reads view p i result k → Reads view (if_here test p q) i result k
reads_then view test p q i k result holds reads = reads_by view (if_here test p q) p i i k result (ap (λ b. (if b then p else q) i) holds) reads

pub reads_else : {A X : Type 0} (view : X → A) (test : Input → Bool) (p q : Parser A) (i k : Input) (result : Result X (Fault Malformed)) → test i ≡ false → Reads view q i result k → Reads view (if_here test p q) i result k
reads_else view test p q i k result fails reads = reads_by view (if_here test p q) q i i k result (ap (λ b. (if b then p else q) i) fails) reads

-- a rule that ends in a node reads what its maker gives
pub reads_given : {A X : Type 0} (view : X → A) (rule : Parser A) (outcome : Option A) (i j : Input) (result : Result X (Fault Malformed)) → rule i ≡ given outcome j → Gives view outcome result → Reads view rule i result j
reads_given view rule outcome i j (Ok x) is gives = is ∙ ap (λ o. given o j) gives
reads_given view rule outcome i j (Err fault) is gives = λ known. is ∙ ap (λ o. given o j) (gives known)

-- an operand alone is what the levels make of it
pub folded_alone : (a : Grown Tree) → part.folded a [] ≡ Some a
unfolding folded joined_from
folded_alone a = refl

abbrev both_of : Grown Tree → Grown Tree → part.Bodies
both_of a b = record { body = a ∷ []; other = b ∷ [] }

module _ (inner : Reader) where
  pub index_by_arguments : (r : Grown Tree) (i : Input) → e.indexed inner r i ≡ part.index_by_arguments inner r i
  unfolding e.indexed
  index_by_arguments r i = at (open_bracket i)
    where
      behind : (args : List (Grown Tree)) (x : Option (Unit {0} × Input))
          → and_then x (λ _ k. given (e.call (codes "[]") r args) k) ≡ and_then (and_then x (λ _ k. Some (args, k))) (λ all k. given (e.call (codes "[]") r all) k)
      behind args None = refl
      behind args (Some w) = refl

      after : (x : Option (List (Grown Tree) × Input))
          → and_then x (λ args j. and_then (close_sign "]" j) (λ _ k. given (e.call (codes "[]") r args) k)) ≡ and_then (and_then x (λ args j. and_then (close_sign "]" j) (λ _ k. Some (args, k)))) (λ all k. given (e.call (codes "[]") r all) k)
      after None = refl
      after (Some a) = behind a.0 (close_sign "]" a.1)

      at : (x : Option (Unit {0} × Input))
          → and_then x (λ _ h. and_then (e.arguments inner h) (λ args j. and_then (close_sign "]" j) (λ _ k. given (e.call (codes "[]") r args) k))) ≡ and_then (and_then x (λ _ h. and_then (e.arguments inner h) (λ args j. and_then (close_sign "]" j) (λ _ k. Some (args, k))))) (λ all k. given (e.call (codes "[]") r all) k)
      at None = refl
      at (Some w) = after (e.arguments inner w.1)

  pub alternatives_by_both : (test : Grown Tree) (i : Input) → e.alternatives inner test i ≡ part.alternatives_by_both inner test i
  unfolding e.alternatives
  alternatives_by_both test i = at (inner.tree ternary_form (next i))
    where
      behind : (a : Grown Tree) (x : Option (Grown Tree × Input))
          → and_then x (λ b k. given (part.choice_of test ((both_of a b))) k) ≡ and_then (and_then x (λ b k. Some ((both_of a b), k))) (λ all k. given (part.choice_of test all) k)
      behind a None = refl
      behind a (Some b) = refl

      after : (a : Grown Tree) (x : Option (Unit {0} × Input))
          → and_then x (λ _ j. and_then (inner.tree ternary_form j) (λ b k. given (part.choice_of test ((both_of a b))) k)) ≡ and_then (and_then x (λ _ j. and_then (inner.tree ternary_form j) (λ b k. Some ((both_of a b), k)))) (λ all k. given (part.choice_of test all) k)
      after a None = refl
      after a (Some w) = behind a (inner.tree ternary_form w.1)

      at : (x : Option (Grown Tree × Input))
          → and_then x (λ a h. and_then (take_sign ":" h) (λ _ j. and_then (inner.tree ternary_form j) (λ b k. given (part.choice_of test ((both_of a b))) k))) ≡ and_then (and_then x (λ a h. and_then (take_sign ":" h) (λ _ j. and_then (inner.tree ternary_form j) (λ b k. Some ((both_of a b), k))))) (λ all k. given (part.choice_of test all) k)
      at None = refl
      at (Some a) = after a.0 (take_sign ":" a.1)

  -- ---- what begins with one token

  pub assignment_is : (i j : Input) (k : Kind) → j ≡ next i → kind_at 0 i ≡ Some k → g.assignment inner i ≡ g.assignment_by inner (Some k) j
  unfolding g.assignment
  assignment_is i j k taken at = ap (λ t. g.assignment_by inner t (next i)) at ∙ ap (g.assignment_by inner (Some k)) (sym taken)

  pub update_is : (i j : Input) (k : Kind) → j ≡ next i → kind_at 0 i ≡ Some k → g.update inner i ≡ g.update_by inner (Some k) j
  unfolding g.update
  update_is i j k taken at = ap (λ t. g.update_by inner t (next i)) at ∙ ap (g.update_by inner (Some k)) (sym taken)

  pub logic_goes : (a b : Grown Tree) (word : Text) (i j k : Input) → take_name g.keyword_of i ≡ Some (word, j) → g.inverse inner j ≡ Some (b, k) → g.logic inner a i ≡ given (g.logic_tree inner word a b) k
  unfolding g.logic
  logic_goes a b word i j k first second = rw first (rw second refl)

-- ---- two tests together

pub both_hold : (a b r : Bool) → a ≡ true → r ≡ b → r ≡ (a && b)
both_hold true b r first is = is
both_hold false b r first is = cc

pub first_fails : (a b : Bool) → a ≡ false → false ≡ (a && b)
first_fails true b fails = cc
first_fails false b fails = refl
