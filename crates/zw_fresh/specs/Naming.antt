-- Programs that name none of some variables, outside of class, module and method bodies.
use Rattle.std.specs.Prelude.{Bool, false, IsFalse, [], ◌∷◌, Option, Some, None, Ok, Err}
use Rattle.zw_def.specs.Text.{Text}
use Rattle.zw_def_syntax.specs.Program.{Parsed}
use Rattle.zw_def_syntax.specs.Tree.{Program, Tree, Trees, Perhaps, Branch, Base, Parts, Rescues, nil_node, true_node, false_node, self_node, int_node, str_node, sym_node, interp_node, array_node, local_node, ident_node, ivar_node, cvar_node, const_node, scoped_node, top_const_node, set_local, set_ivar, set_cvar, set_const, set_scoped, set_attr, call_node, self_call, super_node, zsuper_node, not_node, and_node, or_node, if_node, while_node, break_node, next_node, return_node, seq_node, begin_node, def_node, sdef_node, class_node, module_node, no_trees, tree_then, absent, present, no_branch, branch, innermost, topmost, within_node, no_parts, text_then, program_then, no_rescues, rescue_then}

abbrev pub NotInto : (Text → Bool) → Option Text → Type 0
NotInto old None = Unit {0}
NotInto old (Some x) = IsFalse (old x)

abbrev mutual
  pub NamesNone : (Text → Bool) → Tree → Type 0
  NamesNone old nil_node = Unit {0}
  NamesNone old true_node = Unit {0}
  NamesNone old false_node = Unit {0}
  NamesNone old self_node = Unit {0}
  NamesNone old (int_node z) = Unit {0}
  NamesNone old (str_node t) = Unit {0}
  NamesNone old (sym_node t) = Unit {0}
  NamesNone old (interp_node parts) = PartsNameNone old parts
  NamesNone old (array_node items) = AllNameNone old items
  NamesNone old (local_node x) = IsFalse (old x)
  NamesNone old (ident_node x) = IsFalse (old x)
  NamesNone old (ivar_node x) = Unit {0}
  NamesNone old (cvar_node x) = Unit {0}
  NamesNone old (const_node c) = Unit {0}
  NamesNone old (scoped_node e c) = NamesNone old e
  NamesNone old (top_const_node c) = Unit {0}
  NamesNone old (set_local x e) = IsFalse (old x) × NamesNone old e
  NamesNone old (set_ivar x e) = NamesNone old e
  NamesNone old (set_cvar x e) = NamesNone old e
  NamesNone old (set_const c e) = NamesNone old e
  NamesNone old (set_scoped b c e) = NamesNone old b × NamesNone old e
  NamesNone old (set_attr r x e) = NamesNone old r × NamesNone old e
  NamesNone old (call_node r x args) = NamesNone old r × AllNameNone old args
  NamesNone old (self_call x args) = AllNameNone old args
  NamesNone old (super_node args) = AllNameNone old args
  NamesNone old zsuper_node = Unit {0}
  NamesNone old (not_node e) = NamesNone old e
  NamesNone old (and_node a b) = NamesNone old a × NamesNone old b
  NamesNone old (or_node a b) = NamesNone old a × NamesNone old b
  NamesNone old (if_node order c a b) = NamesNone old c × AllNameNone old a × AllNameNone old b
  NamesNone old (while_node order c body) = NamesNone old c × AllNameNone old body
  NamesNone old break_node = Unit {0}
  NamesNone old next_node = Unit {0}
  NamesNone old (return_node e) = PerhapsNamesNone old e
  NamesNone old (seq_node list) = AllNameNone old list
  NamesNone old (begin_node body clauses other last) =
      AllNameNone old body × RescuesNameNone old clauses × BranchNamesNone old other × BranchNamesNone old last
  NamesNone old (def_node x required optional body) = Unit {0}
  NamesNone old (sdef_node x required optional body) = Unit {0}
  NamesNone old (class_node base c superclass body) = BaseNamesNone old base × PerhapsNamesNone old superclass
  NamesNone old (module_node base c body) = BaseNamesNone old base

  pub AllNameNone : (Text → Bool) → Trees → Type 0
  AllNameNone old no_trees = Unit {0}
  AllNameNone old (tree_then t ts) = NamesNone old t × AllNameNone old ts

  pub PerhapsNamesNone : (Text → Bool) → Perhaps → Type 0
  PerhapsNamesNone old absent = Unit {0}
  PerhapsNamesNone old (present e) = NamesNone old e

  pub BranchNamesNone : (Text → Bool) → Branch → Type 0
  BranchNamesNone old no_branch = Unit {0}
  BranchNamesNone old (branch body) = AllNameNone old body

  pub BaseNamesNone : (Text → Bool) → Base → Type 0
  BaseNamesNone old innermost = Unit {0}
  BaseNamesNone old topmost = Unit {0}
  BaseNamesNone old (within_node e) = NamesNone old e

  pub PartsNameNone : (Text → Bool) → Parts → Type 0
  PartsNameNone old no_parts = Unit {0}
  PartsNameNone old (text_then part parts) = PartsNameNone old parts
  PartsNameNone old (program_then program parts) = AllNameNone old program × PartsNameNone old parts

  pub RescuesNameNone : (Text → Bool) → Rescues → Type 0
  RescuesNameNone old no_rescues = Unit {0}
  RescuesNameNone old (rescue_then paths variable body clauses) =
      AllNameNone old paths × NotInto old variable × AllNameNone old body × RescuesNameNone old clauses

-- where no variable is older
abbrev pub no_old : Text → Bool
no_old x = false

-- ---- programs

abbrev pub ProgramNamesNone : (Text → Bool) → Program → Type 0
ProgramNamesNone old [] = Unit {0}
ProgramNamesNone old (s ∷ ss) = NamesNone old s.tree × ProgramNamesNone old ss

-- a text outside the grammar is not evaluated
abbrev pub ParsedNamesNone : (Text → Bool) → Parsed → Type 0
ParsedNamesNone old (Ok program) = ProgramNamesNone old program
ParsedNamesNone old (Err fault) = Unit {0}
