use Rattle.std.proofs.Common.{length, refl, string_bytes, ◌∙◌, sym}
use Rattle.std.proofs.lemmas.Bool.{le-ltb}
use Rattle.zw_def.proofs.PathLemmas.{below-longer, below-shorter}
use Rattle.zw_layout.proofs.roots.is_below.Goals as goal

pub returns-then-directory-components : goal.returns-then-directory-components
returns-then-directory-components c =
    c.starts_with.ensures.value ∙ below-longer (λ s. string_bytes s) c.args.directory.now c.args.components.now _ _ refl refl c.if-directory-components.true

pub returns-else-directory-components : goal.returns-else-directory-components
returns-else-directory-components c =
    le-ltb (length c.args.directory.now) (length c.args.components.now) c.if-directory-components.false
    ∙ sym (below-shorter (λ s. string_bytes s) c.args.directory.now c.args.components.now _ _ refl refl c.if-directory-components.false)
