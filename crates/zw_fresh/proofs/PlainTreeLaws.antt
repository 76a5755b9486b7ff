-- Programs of the grammar that are plain, are so in a calm setting.
use Rattle.std.specs.Prelude.{◌≡◌, ℕ, ◌==◌, ◌&&◌, ◌||◌, ◌++◌, Bool, true, false, not, List, [], ◌∷◌, codes, Option, Some, None, if◌then◌else◌}
use Rattle.std.specs.List.{list_any, list_all}
use Rattle.std.specs.Str.{bytes_eq}
use Rattle.std.proofs.Common.{refl, sym, ap, ◌∙◌}
use Rattle.std.proofs.lemmas.Slice.Eq.{bytes_eq-Decides}
use Rattle.std.proofs.lemmas.Bool.{eqb-false}
use Rattle.zw_def.specs.Text.{Text, pieces}
use Rattle.zw_def_syntax.specs.Token.{Reason, misplaced_jump, misplaced_def, definition_in_method, repeated_parameter}
use Rattle.zw_def_syntax.specs.Tree.{Tree, Trees, Perhaps, Branch, Parts, Rescues, nil_node, true_node, false_node, self_node, int_node, str_node, sym_node, interp_node, array_node, local_node, ident_node, ivar_node, cvar_node, const_node, scoped_node, top_const_node, set_local, set_ivar, set_cvar, set_const, set_scoped, set_attr, call_node, self_call, super_node, zsuper_node, not_node, and_node, or_node, if_node, while_node, break_node, next_node, return_node, seq_node, begin_node, def_node, sdef_node, class_node, module_node, no_trees, tree_then, absent, present, no_branch, branch, no_parts, text_then, program_then, no_rescues, rescue_then}
use Rattle.zw_def_syntax.specs.Places.{Place, at_top, loop_body, some_node, some_tree, some_perhaps, some_branch, some_part, some_rescue, is_misplaced_jump, is_misplaced_def, is_definition_in_method, repeats_parameter, fault_of}
use Rattle.zw_def_session.specs.Plain.{special_names, is_special, is_special_call, calls_special, is_definition, is_plain_tree}
use Rattle.zw_fresh.specs.CalmCode.{is_plain_name, Plain, AllPlain, PerhapsPlain, BranchPlain, PartsPlain, RescuesPlain}
use Rattle.zw_fresh.proofs.NameLemmas.{apart}
use Rattle.zw_fresh.proofs.NodeLemmas.{or2, none_passes, none_of_trees, none_of_present, none_of_branch, none_of_text, none_of_program, none_of_rescue}

-- ---- names

plain_if : (x : Text) → is_special x ≡ false → is_plain_name x ≡ true
unfolding is_plain_name
plain_if x e = ap not e

-- a special name does not end as a writer's does
abbrev last_or : ℕ → Text → ℕ
last_or c [] = c
last_or c (b ∷ bs) = last_or b bs

last_of_writer : (c : ℕ) (x : Text) → last_or c (x ++ codes "=") ≡ 61
last_of_writer c [] = refl
last_of_writer c (b ∷ bs) = last_of_writer b bs

writer_special : (x : Text) (names : List Text) → list_all (λ n. not (last_or 0 n == 61)) names ≡ true
    → list_any (bytes_eq (x ++ codes "=")) names ≡ false
writer_special x [] e = refl
writer_special x (n ∷ ns) e = one (writer_special x ns) (bytes_eq (x ++ codes "=") n) refl (last_or 0 n == 61) refl e
  where
    one : (list_all (λ n. not (last_or 0 n == 61)) ns ≡ true → list_any (bytes_eq (x ++ codes "=")) ns ≡ false)
        → (b : Bool) → bytes_eq (x ++ codes "=") n ≡ b → (c : Bool) → (last_or 0 n == 61) ≡ c
        → (not c && list_all (λ n. not (last_or 0 n == 61)) ns) ≡ true
        → (b || list_any (bytes_eq (x ++ codes "=")) ns) ≡ false
    one later true f true g h = absurd (apart (sym h))
    one later true f false g h =
        absurd (eqb-false (last_or 0 n) 61 g (ap (last_or 0) (sym ((bytes_eq-Decides (x ++ codes "=") n).0 f)) ∙ last_of_writer 0 x))
    one later false f true g h = absurd (apart (sym h))
    one later false f false g h = later h

pub writer_plain : (x : Text) → is_plain_name (x ++ codes "=") ≡ true
writer_plain x = plain_if (x ++ codes "=") (writer_special x (pieces 32 special_names) refl)

-- ---- trees

-- no node is a definition, calls a special method or is a method's definition out of place
record Clear (some : (Place → Tree → Bool) → Bool) : Type 0 where
  pub definition : some is_definition ≡ false
  pub call : some is_special_call ≡ false
  pub place : some is_misplaced_def ≡ false

each : {a b : (Place → Tree → Bool) → Bool} → ((test : Place → Tree → Bool) → a test ≡ false → b test ≡ false) → Clear a → Clear b
each f c = record {
  definition = f is_definition c.definition;
  call = f is_special_call c.call;
  place = f is_misplaced_def c.place;
}

-- outside of class bodies no method is defined
no_def : (p : Place) → p.in_class ≡ false → (p.in_method || not p.in_class) ≡ false → ⊥
no_def p k e = apart (ap not (sym k) ∙ (or2 p.in_method (not p.in_class) e).1)

mutual
  plain_tree : (p : Place) → p.in_class ≡ false → (t : Tree) → Clear (λ test. some_node test p t) → Plain true t
  plain_tree p k nil_node c = tt
  plain_tree p k true_node c = tt
  plain_tree p k false_node c = tt
  plain_tree p k self_node c = tt
  plain_tree p k (int_node z) c = tt
  plain_tree p k (str_node t) c = tt
  plain_tree p k (sym_node t) c = tt
  plain_tree p k (interp_node parts) c = plain_parts p k parts (each (λ test e. (none_passes test p (interp_node parts) e).1) c)
  plain_tree p k (array_node items) c = plain_trees p k items (each (λ test e. (none_passes test p (array_node items) e).1) c)
  plain_tree p k (local_node x) c = tt
  plain_tree p k (ident_node x) c = plain_if x (none_passes is_special_call p (ident_node x) c.call)
  plain_tree p k (ivar_node x) c = tt
  plain_tree p k (cvar_node x) c = tt
  plain_tree p k (const_node n) c = tt
  plain_tree p k (scoped_node v n) c = plain_tree p k v (each (λ test e. (none_passes test p (scoped_node v n) e).1) c)
  plain_tree p k (top_const_node n) c = tt
  plain_tree p k (set_local x v) c = plain_tree p k v (each (λ test e. (none_passes test p (set_local x v) e).1) c)
  plain_tree p k (set_ivar x v) c = plain_tree p k v (each (λ test e. (none_passes test p (set_ivar x v) e).1) c)
  plain_tree p k (set_cvar x v) c = plain_tree p k v (each (λ test e. (none_passes test p (set_cvar x v) e).1) c)
  plain_tree p k (set_const n v) c = apart (none_passes is_definition p (set_const n v) c.definition)
  plain_tree p k (set_scoped b n v) c = apart (none_passes is_definition p (set_scoped b n v) c.definition)
  plain_tree p k (set_attr r x v) c = (
    plain_tree p k r (each (λ test e. (none_passes test p (set_attr r x v) e).1) c),
    plain_tree p k v (each (λ test e. (none_passes test p (set_attr r x v) e).2) c),
    writer_plain x,
  )
  plain_tree p k (call_node r x args) c = (
    plain_tree p k r (each (λ test e. (none_passes test p (call_node r x args) e).1) c),
    plain_trees p k args (each (λ test e. (none_passes test p (call_node r x args) e).2) c),
    plain_if x (none_passes is_special_call p (call_node r x args) c.call).0,
  )
  plain_tree p k (self_call x args) c = (
    plain_trees p k args (each (λ test e. (none_passes test p (self_call x args) e).1) c),
    plain_if x (none_passes is_special_call p (self_call x args) c.call).0,
  )
  plain_tree p k (super_node args) c = plain_trees p k args (each (λ test e. (none_passes test p (super_node args) e).1) c)
  plain_tree p k zsuper_node c = tt
  plain_tree p k (not_node v) c = plain_tree p k v (each (λ test e. (none_passes test p (not_node v) e).1) c)
  plain_tree p k (and_node a b) c = (
    plain_tree p k a (each (λ test e. (none_passes test p (and_node a b) e).1) c),
    plain_tree p k b (each (λ test e. (none_passes test p (and_node a b) e).2) c),
  )
  plain_tree p k (or_node a b) c = (
    plain_tree p k a (each (λ test e. (none_passes test p (or_node a b) e).1) c),
    plain_tree p k b (each (λ test e. (none_passes test p (or_node a b) e).2) c),
  )
  plain_tree p k (if_node order v a b) c = (
    plain_tree p k v (each (λ test e. (none_passes test p (if_node order v a b) e).1) c),
    plain_trees p k a (each (λ test e. (none_passes test p (if_node order v a b) e).2) c),
    plain_trees p k b (each (λ test e. (none_passes test p (if_node order v a b) e).3) c),
  )
  plain_tree p k (while_node order v body) c = (
    plain_tree p k v (each (λ test e. (none_passes test p (while_node order v body) e).1) c),
    plain_trees (loop_body p) k body (each (λ test e. (none_passes test p (while_node order v body) e).2) c),
  )
  plain_tree p k break_node c = tt
  plain_tree p k next_node c = tt
  plain_tree p k (return_node v) c = plain_perhaps p k v (each (λ test e. (none_passes test p (return_node v) e).1) c)
  plain_tree p k (seq_node all) c = plain_trees p k all (each (λ test e. (none_passes test p (seq_node all) e).1) c)
  plain_tree p k (begin_node body clauses other last) c = (
    plain_trees p k body (each (λ test e. (none_passes test p (begin_node body clauses other last) e).1) c),
    plain_rescues p k clauses (each (λ test e. (none_passes test p (begin_node body clauses other last) e).2) c),
    plain_branch p k other (each (λ test e. (none_passes test p (begin_node body clauses other last) e).3) c),
    plain_branch p k last (each (λ test e. (none_passes test p (begin_node body clauses other last) e).4) c),
  )
  plain_tree p k (def_node x required optional body) c = no_def p k (none_passes is_misplaced_def p (def_node x required optional body) c.place)
  plain_tree p k (sdef_node x required optional body) c = no_def p k (none_passes is_misplaced_def p (sdef_node x required optional body) c.place)
  plain_tree p k (class_node base n superclass body) c = apart (none_passes is_definition p (class_node base n superclass body) c.definition)
  plain_tree p k (module_node base n body) c = apart (none_passes is_definition p (module_node base n body) c.definition)

  plain_trees : (p : Place) → p.in_class ≡ false → (ts : Trees) → Clear (λ test. some_tree test p ts) → AllPlain true ts
  plain_trees p k no_trees c = tt
  plain_trees p k (tree_then t ts) c = (
    plain_tree p k t (each (λ test e. (none_of_trees test p t ts e).0) c),
    plain_trees p k ts (each (λ test e. (none_of_trees test p t ts e).1) c),
  )

  plain_perhaps : (p : Place) → p.in_class ≡ false → (v : Perhaps) → Clear (λ test. some_perhaps test p v) → PerhapsPlain true v
  plain_perhaps p k absent c = tt
  plain_perhaps p k (present t) c = plain_tree p k t (each (λ test e. none_of_present test p t e) c)

  plain_branch : (p : Place) → p.in_class ≡ false → (b : Branch) → Clear (λ test. some_branch test p b) → BranchPlain true b
  plain_branch p k no_branch c = tt
  plain_branch p k (branch ts) c = plain_trees p k ts (each (λ test e. none_of_branch test p ts e) c)

  plain_parts : (p : Place) → p.in_class ≡ false → (parts : Parts) → Clear (λ test. some_part test p parts) → PartsPlain true parts
  plain_parts p k no_parts c = tt
  plain_parts p k (text_then t more) c = plain_parts p k more (each (λ test e. none_of_text test p t more e) c)
  plain_parts p k (program_then ts more) c = (
    plain_trees p k ts (each (λ test e. (none_of_program test p ts more e).0) c),
    plain_parts p k more (each (λ test e. (none_of_program test p ts more e).1) c),
  )

  plain_rescues : (p : Place) → p.in_class ≡ false → (r : Rescues) → Clear (λ test. some_rescue test p r) → RescuesPlain true r
  plain_rescues p k no_rescues c = tt
  plain_rescues p k (rescue_then paths x body more) c = (
    plain_trees p k paths (each (λ test e. (none_of_rescue test p paths x body more e).0) c),
    plain_trees p k body (each (λ test e. (none_of_rescue test p paths x body more e).1) c),
    plain_rescues p k more (each (λ test e. (none_of_rescue test p paths x body more e).2) c),
  )

-- ---- statements of the grammar

both_not : (a b : Bool) → (not a && not b) ≡ true → (a ≡ false) × (b ≡ false)
both_not true b e = absurd (apart (sym e))
both_not false true e = absurd (apart (sym e))
both_not false false e = (refl, refl)

placed : (t : Tree) → fault_of t ≡ None → some_node is_misplaced_def at_top t ≡ false
placed t e = by (some_node is_misplaced_jump at_top t) (some_node is_misplaced_def at_top t) refl e
  where
    rest : Option Reason
    rest = if some_node is_definition_in_method at_top t then Some definition_in_method
        else if some_node repeats_parameter at_top t then Some repeated_parameter
        else None

    some_none : {x : Reason} {A : Type 0} → Some x ≡ None → A
    some_none {x} {A} f = absurd (let never : ⊥ = cc in never)

    by : (a b : Bool) → some_node is_misplaced_def at_top t ≡ b
        → (if a then Some misplaced_jump else if b then Some misplaced_def else rest) ≡ None
        → some_node is_misplaced_def at_top t ≡ false
    by true b f g = some_none g
    by false true f g = some_none g
    by false false f g = f

pub statement_plain : (t : Tree) → fault_of t ≡ None → is_plain_tree t ≡ true → Plain true t
statement_plain t e f =
    let both = both_not (some_node is_definition at_top t) (calls_special t) f in
    plain_tree at_top refl t (record { definition = both.0; call = both.1; place = placed t e })
