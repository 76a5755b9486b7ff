use Rattle.std.proofs.Common.{string_bytes, ap, sym, ◌∙◌, length, arith, ◌-◌}
use Rattle.std.proofs.lemmas.List.{length-map}
use Rattle.zw_def.specs.Base.{without_rb}
use Rattle.zw_def.proofs.BaseLemmas.{base_of-at}
use Rattle.zw_lemmas.proofs.ListLemmas.{read_at}
use Rattle.zw_path.proofs.path.Path.base.Goals as goal

pub returns : goal.returns
returns c =
    let size = length-map c.self.inside.components.items (λ s. string_bytes s) in
    let at = read_at (λ s. string_bytes s) c.self.inside.components.items c.args.self.now c.self.view_is (c.len.result - 1) c.index.result.now (omega (arith, size, c.self.inside.components.ok)) c.index.ensures in
    c.without_ending.ensures ∙ ap without_rb (c.as_str.ensures.value ∙ at.1) ∙ sym (base_of-at c.args.self.now (c.len.result - 1) (string_bytes c.index.result.now) (omega (arith, size, c.self.inside.components.ok, ap length c.self.view_is)))
