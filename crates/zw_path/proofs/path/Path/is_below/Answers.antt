use Rattle.std.proofs.Common.{string_bytes, ◌∙◌, sym, arith}
use Rattle.std.proofs.lemmas.Bool.{le-ltb}
use Rattle.zw_def.proofs.PathLemmas.{below-longer, below-shorter}
use Rattle.zw_path.proofs.path.Path.is_below.Goals as goal

pub returns-then-len : goal.returns-then-len
returns-then-len c =
    rw (c.deref.ensures.value, c.deref-then-len.ensures.value) at c.starts_with.ensures.value
    ∙ below-longer (λ s. string_bytes s) c.directory.inside.components.items c.self.inside.components.items _ _ c.directory.view_is c.self.view_is (omega (arith, c.directory.inside.components.ok, c.self.inside.components.ok))

pub returns-else-len : goal.returns-else-len
returns-else-len c =
    le-ltb c.len.result c.len-2.result c.if-len.false
    ∙ sym (below-shorter (λ s. string_bytes s) c.directory.inside.components.items c.self.inside.components.items _ _ c.directory.view_is c.self.view_is (omega (arith, c.directory.inside.components.ok, c.self.inside.components.ok)))
