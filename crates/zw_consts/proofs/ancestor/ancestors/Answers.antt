use Rattle.std.proofs.Common.{rules, ◌≡◌, ◌<◌, [], ◌++◌, true, length, reverse, ap, sym, ◌∙◌, subst}
use Rattle.std.specs.List.{All}
use Rattle.zw_heap.specs.declared.value.ModuleId.{ModuleId}
use Rattle.zw_consts.specs.Ancestor.{numbers_of, is_among, ancestors_of}
use Rattle.zw_consts.proofs.ListLemmas.{All-last, All-front}
use Rattle.zw_consts.proofs.ClassLemmas.{line_from, line_from-more, line_from-superclasses, holds_more, numbers_of-popped, ancestors-within, All-made}
use Rattle.zw_consts.proofs.ancestor.ancestors.Goals as goal

pub loop-class-init : goal.loop-class-init
loop-class-init c =
    let ms = c.args.heap.now.modules in
    record {
      whole = ap (λ l. line_from ms (reverse l) (numbers_of c.in_ok-classes.classes.items)) c.new-line.ensures ∙ ap (line_from ms []) c.in_ok-classes.ensures.line
          ∙ line_from-superclasses c.args.heap.now c.is_sound.ensures.sound c.is_sound.ensures.few c.args.of.0 c.requires;
      holds = λ n m e inc. (let none : is_among [] n ≡ true = ap (λ l. is_among l n) (sym c.new-line.ensures) ∙ e in absurd (cc));
      held = c.in_ok-classes.ensures.held;
    }

pub own_line-requires-clause-of : goal.own_line-requires-clause-of
own_line-requires-clause-of c =
    All-last (λ (i : ModuleId). i.0 < length c.args.heap.now.modules) c.pop.new.self.items c.in-Some.class
    (subst (All (λ (i : ModuleId). i.0 < length c.args.heap.now.modules)) c.in-Some.ensures.items c.loop-class.invariant.held)

pub loop-class-preserved : goal.loop-class-preserved
loop-class-preserved c =
    let ms = c.args.heap.now.modules in
    let n = c.in-Some.class.0 in
    let more = c.in_ok-extend.ensures ∙ ap (λ l. c.loop-class.line ++ l) (ap numbers_of c.deref.ensures.value ∙ c.in_ok-reversed.ensures) in
    record {
      whole = line_from-more ms c.loop-class.line c.in_ok-own.own c.extend.new.self n c.in_ok-own.ensures more (numbers_of c.pop.new.self.items)
          ∙ ap (line_from ms (reverse c.loop-class.line)) (numbers_of-popped c.loop-class.classes.items c.pop.new.self.items c.in-Some.class c.in-Some.ensures.items) ∙ c.loop-class.invariant.whole;
      holds = holds_more c.args.heap.now c.is_sound.ensures.sound c.is_sound.ensures.few c.loop-class.line c.in_ok-own.own c.extend.new.self n c.in_ok-own.ensures more c.loop-class.invariant.holds;
      held = All-front (λ (i : ModuleId). i.0 < length ms) c.pop.new.self.items c.in-Some.class (subst (All (λ (i : ModuleId). i.0 < length ms)) c.in-Some.ensures.items c.loop-class.invariant.held);
    }

pub returns-clause-held : goal.returns-clause-held
returns-clause-held c =
    let ms = c.args.heap.now.modules in
    let none : c.loop-class.classes.items ≡ [] = search rules in
    let line : reverse c.loop-class.line ≡ ancestors_of ms c.args.of.0 = ap (λ l. line_from ms (reverse c.loop-class.line) (numbers_of l)) (sym none) ∙ c.loop-class.invariant.whole in
    All-made (λ v. v.items) c.reversed-2.result (reverse c.loop-class.line) (length ms) c.reversed-2.ensures
    (λ x e. ancestors-within c.args.heap.now c.is_sound.ensures.sound c.is_sound.ensures.few c.args.of.0 c.requires x (ap (λ l. is_among l x) (sym line) ∙ e))
