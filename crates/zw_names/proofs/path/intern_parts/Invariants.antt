use Rattle.std.proofs.Common.{◌≡◌, ◌++◌, map}
use Rattle.zw_def.specs.ConstantPath.{parts_of}
use Rattle.zw_def.specs.Names.{OnlyGrows, AreNamed, texts_of}
use Rattle.zw_names.specs.Path.{parts_left}
use Rattle.zw_names.specs.declared.names.Name.{Name}
use Rattle.zw_lemmas.proofs.TextLemmas.{size_left}
use Rattle.zw_names.proofs.path.intern_parts.Given as goal

-- the names tell the parts that are read
abbrev pub invariant-loop-left : goal.invariant-loop-left
invariant-loop-left l = (parts_of l.fn.text ≡ texts_of l.names (map (λ (n : Name). n.0) l.path.items) ++ parts_left l.left)
    × AreNamed l.names (map (λ (n : Name). n.0) l.path.items)
    × OnlyGrows l.fn.names l.names

abbrev pub decreases-loop-left : goal.decreases-loop-left
decreases-loop-left l = size_left l.left
