-- What is drawn from a source, step by step.
use Rattle.std.proofs.Common.{◌≡◌, ◌≢◌, ◌++◌, ℕ, [], ◌∷◌, Option, Some, None, IfSome, length, sym, ap, ◌∙◌, arith}
use Rattle.std.proofs.lemmas.Option.{same_Some}
use Rattle.zw_def.specs.Text.{Text}
use Rattle.zw_def.specs.Told.{held_then}
use Rattle.zw_def.specs.Line.{HasLineFeed}
use Rattle.zw_def.proofs.LineLemmas.{line_of-other, line_size-other}

-- where a source gave no bytes, it has none left
pub none_left : (told later : Option Text) (held kept : Text) → held ≡ [] → held_then kept later ≡ held_then held told → kept ≡ []
    → IfSome told (λ bytes. bytes ≡ []) → IfSome later (λ bytes. bytes ≡ [])
none_left told None held kept none same empty end = tt
none_left None (Some rest) held kept none same empty end = absurd (cc)
none_left (Some bytes) (Some rest) held kept none same empty end =
    ap (λ front. front ++ rest) (sym empty) ∙ same_Some _ _ same ∙ ap (λ front. front ++ bytes) none ∙ end

-- a line with its LF has a byte
pub feed_some : (bytes : Text) → HasLineFeed bytes → bytes ≢ []
feed_some [] feed = λ none. absurd (omega (arith, feed))
feed_some (b ∷ bs) feed = λ none. cc

-- past a byte that is no LF the line still has its LF
pub feed_rest : (b : ℕ) (bytes : Text) → b ≢ 10 → HasLineFeed (b ∷ bytes) → HasLineFeed bytes
feed_rest b bytes other feed =
    omega (arith, feed, ap length (line_of-other b bytes other), line_size-other b bytes other)
