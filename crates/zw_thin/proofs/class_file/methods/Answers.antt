use Rattle.std.proofs.Common.{arith, ◌++◌, ◌∷◌, [], ◌<◌, length, drop, ◌+◌, ◌∙◌, sym, ap, true, false, option_map, IfSome, subst}
use Rattle.std.proofs.lemmas.List.{map-append}
use Rattle.std.proofs.lemmas.List.Elements.{All-same, All-push}
use Rattle.zw_def_thin.specs.ClassFile.{methods_of}
use Rattle.zw_def.proofs.NameLemmas.{OnlyGrows-trans}
use Rattle.zw_thin.proofs.MethodLemmas.{with_front, one_more, at_end}
use Rattle.zw_thin.proofs.NamedLemmas.{methods_grown, MethodsNamed-grown}
use Rattle.zw_thin.specs.ClassFile.{method_seen, methods_seen}
use Rattle.zw_thin.specs.Lines.{lines_seen}
use Rattle.zw_thin.specs.declared.class_file.Method.{Method}
use Rattle.zw_thin.proofs.class_file.methods.Goals as goal

pub methods-preserved : goal.methods-preserved
methods-preserved c =
    let old = c.methods.names in
    let new = c.method_from.new.names in
    let found = c.methods.found.items in
    let method = c.in-Some.method in
    let grows = c.in_ok-method_from.ensures.grows in
    let pushed = c.in_ok-push-in-Some.ensures.items in
    record {
      within = omega arith;
      found =
          ap (λ ms. with_front ms (methods_of (lines_seen (drop (c.methods.at + 3) c.args.lines.now))))
          (ap (methods_seen new) pushed ∙ map-append (method_seen new) found (method ∷ []) ∙ ap (λ ms. ms ++ method_seen new method ∷ []) (sym (methods_grown old new found grows c.methods.invariant.named)))
          ∙ one_more c.args.lines.now c.methods.at _ _ _ c.methods-test.true (ap (option_map (method_seen new)) (sym c.in-Some.is) ∙ c.in_ok-method_from.ensures.told)
          ∙ c.methods.invariant.found;
      named = All-same (λ (m : Method). m.name.0 < length new) _ _ pushed (All-push (λ (m : Method). m.name.0 < length new) found method (MethodsNamed-grown old new found grows c.methods.invariant.named) (subst (λ o. IfSome o (λ (m : Method). m.name.0 < length new)) c.in-Some.is c.in_ok-method_from.ensures.named));
      grows = OnlyGrows-trans c.args.names.now old new c.methods.invariant.grows grows;
    }

pub returns-then-is_end-clause-told : goal.returns-then-is_end-clause-told
returns-then-is_end-clause-told c = at_end c.args.lines.now c.methods.at _ true c.methods-test.false c.if-is_end.ensures ∙ c.methods.invariant.found

pub returns-else-is_end-clause-told : goal.returns-else-is_end-clause-told
returns-else-is_end-clause-told c = at_end c.args.lines.now c.methods.at _ false c.methods-test.false c.if-is_end.ensures ∙ c.methods.invariant.found
