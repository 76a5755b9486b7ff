use Rattle.std.proofs.Common.{◌+◌, ◌<◌, ap, sym, subst, ◌∙◌, length, take, string_bytes, arith, length-take-le}
use Rattle.std.proofs.lemmas.List.{length-map, get_or-take}
use Rattle.zw_lemmas.proofs.ListLemmas.{read_at}
use Rattle.zw_def.specs.Expected.{named}
use Rattle.zw_def.specs.Names.{texts_of}
use Rattle.zw_inflect.specs.Layout.{layout_seen}
use Rattle.zw_layout.specs.Expects.{Extends}
use Rattle.zw_layout.specs.Progress.{some_whole}
use Rattle.zw_layout.proofs.ProgressLemmas.{some_whole-is}
use Rattle.zw_layout.proofs.ExpectedLemmas.{collapsed_directory, plain_directory, last_part-at}
use Rattle.zw_layout.proofs.expected.push_directory.Goals as goal

pub returns-then-is_match-clause-told : goal.returns-then-is_match-clause-told
returns-then-is_match-clause-told c =
    let here = take (c.args.depth + 1) c.args.path.now in
    let is = sym (some_whole-is c.args.layout.now.collapse.items here) ∙ ap some_whole (sym c.requires.here) ∙ sym c.if-is_match.ensures in
    collapsed_directory (layout_seen c.args.names.now c.args.layout.now) here (texts_of c.args.names.now c.args.namespace.now) is

pub returns-clause-told : goal.returns-clause-told
returns-clause-told c =
    let n = c.args.depth in
    let path = c.args.path.now in
    let here = take (n + 1) path in
    let layout = layout_seen c.push_name.new.names c.args.layout.now in
    let old = texts_of c.args.names.now c.args.namespace.now in
    let is = sym (some_whole-is c.args.layout.now.collapse.items here) ∙ ap some_whole (sym c.requires.here) ∙ sym c.is_match.ensures ∙ c.if-is_match.false in
    let size = length-map c.components.result.now (λ s. string_bytes s) in
    let lt : n < length c.components.result.now = omega (arith, size, ap length c.components.ensures.value, c.requires.within) in
    let at = read_at (λ s. string_bytes s) c.components.result.now path c.components.ensures.value n c.index-components-depth.result lt c.index-components-depth.is in
    let base = string_bytes c.index-components-depth.result in
    let last = last_part-at here n base (omega (arith, length-take-le (n + 1) path (omega (arith, c.requires.within)))) ∙ get_or-take (n + 1) path n base (omega arith) ∙ sym at.1 ∙ sym c.as_str-base.ensures.value in
    subst (Extends c.push_name.new.names c.push_name.new.namespace c.push_name.result) (ap (λ b. named layout b here old) (sym last) ∙ sym (plain_directory layout here old is)) c.push_name.ensures.told
