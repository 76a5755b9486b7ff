use Rattle.std.proofs.Common.{◌≡◌, ◌+◌, suc, [], ◌∷◌, ◌++◌, length, map, drop, string_bytes, IsUtf8, ap, sym, subst, ◌∙◌, arith}
use Rattle.std.proofs.lemmas.List.{map-append}
use Rattle.std.proofs.lemmas.Str.{IsUtf8-drop}
use Rattle.zw_def_world.specs.StringRows.{cut}
use Rattle.zw_strings.proofs.CutLemmas.{cut_once, cut-whole, piece-more}
use Rattle.zw_strings.proofs.pieces.cut.Goals as goal

pub loop-piece-preserved : goal.loop-piece-preserved
loop-piece-preserved c =
    let separator = c.args.separator.now in
    let rest = c.loop-piece.rest.now in
    let piece = c.in-Some.piece.now in
    let after = c.in-Some.after.now in
    let found = c.in-Some.ensures.cases in
    let made = c.loop-piece.pieces.items in
    let one = c.in_ok-from_str.field-0 in
    let cuts : cut (suc (length rest)) separator [] rest ≡ piece ∷ cut (suc (length after)) separator [] after =
    cut_once separator c.requires rest piece after found.0 found.1 (omega (arith, found.5, found.6, found.7)) found.2.0 found.2.1.split found.3 found.4 in
    let pushed : map string_bytes c.push.new.self.items ≡ map string_bytes made ++ piece ∷ [] =
    ap (map string_bytes) c.in_ok-push.ensures.items ∙ map-append string_bytes made (one ∷ []) ∙ ap (λ t. map string_bytes made ++ t ∷ []) c.in_ok-from_str.ensures.ok in
    record {
      utf8 = subst IsUtf8 (sym (found.4 ∙ ap (λ k. drop k rest) found.2.1.ends)) (IsUtf8-drop rest (found.0 + length separator) c.loop-piece.invariant.utf8 found.2.1.after);
      told =
          ap (λ ts. ts ++ cut (suc (length after)) separator [] after) pushed
          ∙ piece-more (map string_bytes made) (cut (suc (length after)) separator [] after) (cut (suc (length rest)) separator [] rest) piece cuts
          ∙ c.loop-piece.invariant.told;
    }

pub loop-piece-smaller : goal.loop-piece-smaller
loop-piece-smaller c =
    let found = c.in-Some.ensures.cases in
    omega (arith, c.requires, found.2.1.ends, found.7)

pub returns : goal.returns
returns c =
    let separator = c.args.separator.now in
    let rest = c.loop-piece.rest.now in
    let made = c.loop-piece.pieces.items in
    let one = c.in_ok-from_str-2.field-0 in
    let whole : cut (suc (length rest)) separator [] rest ≡ rest ∷ [] =
    cut-whole separator c.requires (suc (length rest)) [] rest (omega arith) c.in_default.ensures.cases in
    ap (map string_bytes) c.in_ok-push-2.ensures.items ∙ map-append string_bytes made (one ∷ []) ∙ ap (λ t. map string_bytes made ++ t ∷ []) c.in_ok-from_str-2.ensures.ok
    ∙ ap (λ ts. map string_bytes made ++ ts) (sym whole) ∙ c.loop-piece.invariant.told
