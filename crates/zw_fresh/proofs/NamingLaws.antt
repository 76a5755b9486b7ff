-- Where no variable is older, each program names none.
use Rattle.std.specs.Prelude.{[], ◌∷◌, Option, Some, None, Ok, Err}
use Rattle.std.proofs.Common.{refl}
use Rattle.zw_def.specs.Text.{Text}
use Rattle.zw_def_syntax.specs.Program.{Parsed}
use Rattle.zw_def_syntax.specs.Tree.{Program, Tree, Trees, Perhaps, Branch, Base, Parts, Rescues, nil_node, true_node, false_node, self_node, int_node, str_node, sym_node, interp_node, array_node, local_node, ident_node, ivar_node, cvar_node, const_node, scoped_node, top_const_node, set_local, set_ivar, set_cvar, set_const, set_scoped, set_attr, call_node, self_call, super_node, zsuper_node, not_node, and_node, or_node, if_node, while_node, break_node, next_node, return_node, seq_node, begin_node, def_node, sdef_node, class_node, module_node, no_trees, tree_then, absent, present, no_branch, branch, innermost, topmost, within_node, no_parts, text_then, program_then, no_rescues, rescue_then}
use Rattle.zw_fresh.specs.Naming.{NotInto, NamesNone, AllNameNone, PerhapsNamesNone, BranchNamesNone, BaseNamesNone, PartsNameNone, RescuesNameNone, ProgramNamesNone, ParsedNamesNone, no_old}

into_free : (o : Option Text) → NotInto no_old o
into_free None = tt
into_free (Some x) = refl

mutual
  pub free : (t : Tree) → NamesNone no_old t
  free nil_node = tt
  free true_node = tt
  free false_node = tt
  free self_node = tt
  free (int_node z) = tt
  free (str_node t) = tt
  free (sym_node t) = tt
  free (interp_node parts) = parts_free parts
  free (array_node items) = all_free items
  free (local_node x) = refl
  free (ident_node x) = refl
  free (ivar_node x) = tt
  free (cvar_node x) = tt
  free (const_node c) = tt
  free (scoped_node e c) = free e
  free (top_const_node c) = tt
  free (set_local x e) = (refl, free e)
  free (set_ivar x e) = free e
  free (set_cvar x e) = free e
  free (set_const c e) = free e
  free (set_scoped b c e) = (free b, free e)
  free (set_attr r x e) = (free r, free e)
  free (call_node r x args) = (free r, all_free args)
  free (self_call x args) = all_free args
  free (super_node args) = all_free args
  free zsuper_node = tt
  free (not_node e) = free e
  free (and_node a b) = (free a, free b)
  free (or_node a b) = (free a, free b)
  free (if_node order c a b) = (free c, all_free a, all_free b)
  free (while_node order c body) = (free c, all_free body)
  free break_node = tt
  free next_node = tt
  free (return_node e) = perhaps_free e
  free (seq_node list) = all_free list
  free (begin_node body clauses other last) = (all_free body, rescues_free clauses, branch_free other, branch_free last)
  free (def_node x required optional body) = tt
  free (sdef_node x required optional body) = tt
  free (class_node base c superclass body) = (base_free base, perhaps_free superclass)
  free (module_node base c body) = base_free base

  pub all_free : (ts : Trees) → AllNameNone no_old ts
  all_free no_trees = tt
  all_free (tree_then t ts) = (free t, all_free ts)

  pub perhaps_free : (e : Perhaps) → PerhapsNamesNone no_old e
  perhaps_free absent = tt
  perhaps_free (present e) = free e

  pub branch_free : (b : Branch) → BranchNamesNone no_old b
  branch_free no_branch = tt
  branch_free (branch body) = all_free body

  pub base_free : (b : Base) → BaseNamesNone no_old b
  base_free innermost = tt
  base_free topmost = tt
  base_free (within_node e) = free e

  pub parts_free : (p : Parts) → PartsNameNone no_old p
  parts_free no_parts = tt
  parts_free (text_then part parts) = parts_free parts
  parts_free (program_then program parts) = (all_free program, parts_free parts)

  pub rescues_free : (r : Rescues) → RescuesNameNone no_old r
  rescues_free no_rescues = tt
  rescues_free (rescue_then paths variable body clauses) =
      (all_free paths, into_free variable, all_free body, rescues_free clauses)

pub program_free : (program : Program) → ProgramNamesNone no_old program
program_free [] = tt
program_free (s ∷ ss) = (free s.tree, program_free ss)

pub parsed_free : (parsed : Parsed) → ParsedNamesNone no_old parsed
parsed_free (Ok program) = program_free program
parsed_free (Err fault) = tt
