use Rattle.std.proofs.Common.{◌≡◌, ◌≢◌, ◌++◌, ◌∷◌, [], string_bytes, length, rules, arith, sym, ap, ◌∙◌}
use Rattle.zw_def_session.specs.Commands.{without_return}
use Rattle.zw_cmd.proofs.ScriptLemmas.{none_left, after_less, valid_next, other_first, joined_last, joined_next}
use Rattle.zw_cmd.proofs.script.script.Goals as goal

pub returns-in-Err : goal.returns-in-Err
returns-in-Err c =
    let some : c.lines.left.now ≢ [] = search rules in
    sym c.lines.invariant.valid ∙ other_first c.lines.left.now c.first_line.result.0.now some c.first_line.ensures.line c.in-Err.ensures.cases.0

pub lines-smaller-in_ok-push : goal.lines-smaller-in_ok-push
lines-smaller-in_ok-push c =
    let some : c.lines.left.now ≢ [] = search rules in
    omega (arith, ap length c.first_line.ensures.after, after_less c.lines.left.now some)

pub lines-preserved-in_ok-push : goal.lines-preserved-in_ok-push
lines-preserved-in_ok-push c =
    let some : c.lines.left.now ≢ [] = search rules in
    let others : c.first_line.result.1.now ≢ [] = search rules in
    let piece : c.without_return.result.now ≡ without_return c.first_line.result.0.now = c.without_return.ensures ∙ ap without_return c.in-Ok.ensures.cases.0 in
    let first : string_bytes c.push_str.new.self ≡ string_bytes c.lines.text ++ c.without_return.result.now = c.in_ok-push_str-in-Ok.ensures.bytes in
    let adds : string_bytes c.push.new.self ≡ string_bytes c.push_str.new.self ++ 10 ∷ [] = search rules in
    record {
      valid = valid_next c.lines.left.now c.first_line.result.0.now c.first_line.result.1.now some c.first_line.ensures.line c.first_line.ensures.after c.in-Ok.ensures.cases.1 ∙ c.lines.invariant.valid;
      text =
          joined_next c.lines.left.now c.first_line.result.0.now c.first_line.result.1.now (string_bytes c.lines.text) (string_bytes c.push.new.self) some c.first_line.ensures.line c.first_line.ensures.after others
          (adds ∙ ap (λ t. t ++ 10 ∷ []) (first ∙ ap (λ t. string_bytes c.lines.text ++ t) piece))
          ∙ c.lines.invariant.text;
    }

pub lines-preserved : goal.lines-preserved
lines-preserved c =
    let some : c.lines.left.now ≢ [] = search rules in
    let none = none_left c.first_line.result.1.now c.if-not-is_empty.ensures in
    let piece : c.without_return.result.now ≡ without_return c.first_line.result.0.now = c.without_return.ensures ∙ ap without_return c.in-Ok.ensures.cases.0 in
    let first : string_bytes c.push_str.new.self ≡ string_bytes c.lines.text ++ c.without_return.result.now = c.in_ok-push_str-in-Ok.ensures.bytes in
    record {
      valid = valid_next c.lines.left.now c.first_line.result.0.now c.first_line.result.1.now some c.first_line.ensures.line c.first_line.ensures.after c.in-Ok.ensures.cases.1 ∙ c.lines.invariant.valid;
      text =
          joined_last c.lines.left.now c.first_line.result.0.now c.first_line.result.1.now (string_bytes c.lines.text) (string_bytes c.push_str.new.self) some c.first_line.ensures.line c.first_line.ensures.after none
          (first ∙ ap (λ t. string_bytes c.lines.text ++ t) piece)
          ∙ c.lines.invariant.text;
    }
