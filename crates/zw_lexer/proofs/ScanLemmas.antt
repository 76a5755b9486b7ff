-- The tokens of characters, piece by piece.
use Rattle.std.proofs.Common.{◌≡◌, ℕ, zero, suc, ◌+◌, ◌-◌, ◌<◌, ◌≤◌, arith, List, [], ◌∷◌, length, take, drop, Option, Some, None, Result, Ok, Err, refl, ap, sym, subst, append-nil, ◌∙◌}
use Rattle.std.specs.Result.{IfOk}
use Rattle.std.proofs.lemmas.List.{drop-drop}
use Rattle.zw_def_syntax.specs.Token.{Kind, Token, Fault, unended_interpolation}
use Rattle.zw_def_syntax.specs.Character.{Characters, Place, after_character, after_characters}
use Rattle.zw_def_syntax.specs.Piece.{Piece}
use Rattle.zw_def_syntax.specs.Scan.{Opening, Scanned, scanned, scanned_by, with_piece, with_token, token_between, open_after, only_fault, at_end, piece_in}
use Rattle.zw_lexer.specs.Scan.{onto, EndsAs}
use Rattle.zw_lexer.proofs.SizeLemmas.{SizeWithin, piece_within}

-- what belongs to a piece is passed over
pub scanned_skips : (n : ℕ) (nest : List Opening) (place : Place) (cs : Characters) → n ≤ length cs → scanned n nest place cs ≡ scanned 0 nest (after_characters (take n cs) place) (drop n cs)
unfolding scanned
scanned_skips zero nest place cs few = refl
scanned_skips (suc n) nest place [] few = absurd (omega (arith, few))
scanned_skips (suc n) nest place (c ∷ cs) few = scanned_skips n nest (after_character c place) cs (omega (arith, few))

with_piece_same : (kind : Option Kind) (first last : Place) (rest : Characters) (nest : List Opening) (f g : List Opening → Scanned) → ((later : List Opening) → f later ≡ g later) → with_piece kind first last rest nest f ≡ with_piece kind first last rest nest g
with_piece_same None first last rest nest f g same = same nest
with_piece_same (Some kind) first last rest nest f g same = ap (with_token (token_between kind first last rest)) (same (open_after kind first.line last.line nest))

after_sized : (size : ℕ) (later : List Opening) (place : Place) (c : ℕ) (cs : Characters) → 0 < size → size ≤ length (c ∷ cs) → scanned (size - 1) later (after_character c place) cs ≡ scanned 0 later (after_characters (take size (c ∷ cs)) place) (drop size (c ∷ cs))
after_sized zero later place c cs more few = absurd (omega (arith, more))
after_sized (suc n) later place c cs more few =
    let e : suc n - 1 ≡ n = omega arith in
    ap (λ m. scanned m later (after_character c place) cs) e ∙ scanned_skips n later (after_character c place) cs (omega (arith, few))

-- how much a piece that is read has
pub size_of_piece : (nest : List Opening) (place : Place) (cs : Characters) (piece : Piece) → 0 < length cs → piece_in nest place cs ≡ Ok piece → (0 < piece.size) × (piece.size ≤ length cs)
size_of_piece nest place [] piece more e = absurd (omega (arith, more))
size_of_piece nest place (c ∷ cs) piece more e = at (piece_in nest place (c ∷ cs)) (piece_within nest place c cs) e where
  at : (r : Result Piece Fault) → SizeWithin (length (c ∷ cs)) r → r ≡ Ok piece → (0 < piece.size) × (piece.size ≤ length (c ∷ cs))
  at (Ok p) w e = subst (SizeWithin (length (c ∷ cs))) e w
  at (Err f) w e = cc

-- the rest of the tokens after a piece
pub scanned_piece : (nest : List Opening) (place : Place) (cs : Characters) (piece : Piece) → 0 < length cs → piece_in nest place cs ≡ Ok piece
    → scanned 0 nest place cs ≡ with_piece piece.kind place (after_characters (take piece.size cs) place) (drop piece.size cs) nest (λ later. scanned 0 later (after_characters (take piece.size cs) place) (drop piece.size cs))
unfolding scanned
scanned_piece nest place [] piece more e = absurd (omega (arith, more))
scanned_piece nest place (c ∷ cs) piece more e =
    let (some, few) = size_of_piece nest place (c ∷ cs) piece more e in
    ap (λ r. scanned_by r nest place (c ∷ cs) (λ skipped later. scanned skipped later (after_character c place) cs)) e
    ∙ with_piece_same piece.kind place (after_characters (take piece.size (c ∷ cs)) place) (drop piece.size (c ∷ cs)) nest _ _ (λ later. after_sized piece.size later place c cs some few)

pub scanned_fault : (nest : List Opening) (place : Place) (cs : Characters) (fault : Fault) → 0 < length cs → piece_in nest place cs ≡ Err fault → scanned 0 nest place cs ≡ only_fault fault
unfolding scanned
scanned_fault nest place [] fault more e = absurd (omega (arith, more))
scanned_fault nest place (c ∷ cs) fault more e = ap (λ r. scanned_by r nest place (c ∷ cs) (λ skipped later. scanned skipped later (after_character c place) cs)) e

-- a fault ends the tokens
pub ends_with_fault : (nest : List Opening) (place : Place) (cs : Characters) (front : List Token) (s : Scanned) → 0 < length cs → EndsAs front (piece_in nest place cs) s → s ≡ onto front (scanned 0 nest place cs)
ends_with_fault nest place cs front s more ends = at (piece_in nest place cs) refl ends where
  at : (r : Result Piece Fault) → piece_in nest place cs ≡ r → EndsAs front r s → s ≡ onto front (scanned 0 nest place cs)
  at (Ok piece) e ends = absurd ends
  at (Err fault) e ends = ends ∙ (λ i. record { tokens = sym (append-nil front) i; fault = Some fault }) ∙ ap (onto front) (sym (scanned_fault nest place cs fault more e))

-- where no character is left
pub ends_at_end : (nest : List Opening) (place : Place) (cs : Characters) (front : List Token) → length cs ≡ 0 → record { tokens = front; fault = (at_end nest).fault } ≡ onto front (scanned 0 nest place cs)
unfolding scanned
ends_at_end nest place [] front none = at nest where
  at : (nest : List Opening) → record { tokens = front; fault = (at_end nest).fault } ≡ onto front (at_end nest)
  at [] = λ i. record { tokens = sym (append-nil front) i; fault = None }
  at (o ∷ os) = λ i. record { tokens = sym (append-nil front) i; fault = Some (record { line = o.brace; reason = unended_interpolation }) }
ends_at_end nest place (c ∷ cs) front none = absurd (omega (arith, none))

-- a piece more: the tokens with it, and what follows
pub piece_read : (nest nest' : List Opening) (place place' : Place) (cs all : Characters) (at : ℕ) (piece : Piece) (front front' : List Token) (whole : Scanned)
    → cs ≡ drop at all → 0 < length cs → piece_in nest place cs ≡ Ok piece → place' ≡ after_characters (take piece.size cs) place
    → ((more : List Opening → Scanned) → onto front' (more nest') ≡ onto front (with_piece piece.kind place place' (drop piece.size cs) nest more))
    → onto front (scanned 0 nest place (drop at all)) ≡ whole
    → onto front' (scanned 0 nest' place' (drop (at + piece.size) all)) ≡ whole
piece_read nest nest' place place' cs all at piece front front' whole rest more read moved takes before =
    let later = λ (n : List Opening). scanned 0 n place' (drop piece.size cs) in
    let e = scanned_piece nest place cs piece more read in
    ap (λ ds. onto front' (scanned 0 nest' place' ds)) (sym (drop-drop piece.size at all) ∙ ap (drop piece.size) (sym rest))
    ∙ takes later
    ∙ ap (λ p. onto front (with_piece piece.kind place p (drop piece.size cs) nest (λ n. scanned 0 n p (drop piece.size cs)))) moved
    ∙ ap (onto front) (sym e)
    ∙ ap (λ ds. onto front (scanned 0 nest place ds)) rest
    ∙ before

pub map_IfOk : {T E : Type 0} (r : Result T E) (P Q : T → Type 0) → ((t : T) → P t → Q t) → IfOk r P → IfOk r Q
map_IfOk (Ok t) P Q f p = f t p
map_IfOk (Err e) P Q f p = p
