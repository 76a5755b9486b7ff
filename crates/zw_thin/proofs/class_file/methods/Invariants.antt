use Rattle.std.proofs.Common.{◌≡◌, ◌≤◌, ◌-◌, length, drop}
use Rattle.zw_def_thin.specs.ClassFile.{methods_of}
use Rattle.zw_def.specs.Names.{OnlyGrows}
use Rattle.zw_thin.specs.ClassFile.{methods_seen, MethodsNamed}
use Rattle.zw_thin.specs.Lines.{lines_seen}
use Rattle.zw_thin.proofs.MethodLemmas.{with_front}
use Rattle.zw_thin.proofs.class_file.methods.Given as goal

abbrev pub invariant-methods : goal.invariant-methods
invariant-methods l = record {
  within : l.at ≤ length l.lines;
  found : with_front (methods_seen l.names l.found.items) (methods_of (lines_seen (drop l.at l.lines))) ≡ methods_of (lines_seen l.lines);
  named : MethodsNamed l.names l.found.items;
  grows : OnlyGrows l.fn.names l.names;
}

abbrev pub decreases-methods : goal.decreases-methods
decreases-methods l = length l.lines - l.at
