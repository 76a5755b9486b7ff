-- What is told, step by step.
use Rattle.std.proofs.Common.{◌≡◌, ◌+◌, ◌-◌, ◌++◌, ℕ, List, [], Option, Some, None, IfSome, length, take, drop, refl, sym, ap, ◌∙◌, append_assoc, length-append, arith, rules}
use Rattle.std.proofs.lemmas.Option.{same_Some}
use Rattle.std.proofs.lemmas.List.{take_rest}
use Rattle.std.proofs.Math.Seq.{take-add}
use Rattle.zw_def.specs.Told.{Appends, Draws}

-- nothing more
pub appends_none : (old : Option (List ℕ)) (bytes : List ℕ) → Appends old old (take 0 bytes)
appends_none None bytes = refl
appends_none (Some o) bytes = search rules

-- one piece after another
pub appends_more : (old mid new : Option (List ℕ)) (first more bytes : List ℕ) → Appends old mid first → Appends mid new more → first ++ more ≡ bytes → Appends old new bytes
appends_more None None new first more bytes a b e = b
appends_more None (Some m) new first more bytes a b e = cc
appends_more (Some o) None new first more bytes a b e = cc
appends_more (Some o) (Some m) new first more bytes a b e =
    let same : m ≡ o ++ first = same_Some _ _ a in
    b ∙ rw (same, append_assoc, e)

-- a front of the bytes, and n bytes of what is left of them
pub take_piece : (at n : ℕ) (bytes : List ℕ) → take at bytes ++ take n (take (length bytes - at) (drop at bytes)) ≡ take (at + n) bytes
take_piece at n bytes = ap (λ rest. take at bytes ++ take n rest) (take_rest bytes at) ∙ sym (take-add at n bytes)

-- ---- what is drawn

-- nothing is drawn
pub draws_none : (told : Option (List ℕ)) (held room : ℕ) → IfSome told (λ bytes. Draws bytes held room told held room)
draws_none None held room = tt
draws_none (Some bytes) held room =
    record { taken = []; rest = bytes; split = refl; told = refl; given = omega arith }

-- one draw after another
pub draws_more : (told mid new : Option (List ℕ)) (held room kept left more last : ℕ)
    → IfSome told (λ bytes. Draws bytes held room mid kept left)
    → IfSome mid (λ bytes. Draws bytes kept left new more last)
    → IfSome told (λ bytes. Draws bytes held room new more last)
draws_more None mid new held room kept left more last first next = tt
draws_more (Some bytes) None new held room kept left more last first next = absurd (cc)
draws_more (Some bytes) (Some middle) new held room kept left more last first next =
    let same : middle ≡ first.rest = same_Some _ _ first.told in
    record {
      taken = first.taken ++ next.taken;
      rest = next.rest;
      split = first.split ∙ ap (λ rest. first.taken ++ rest) (sym same ∙ next.split) ∙ sym (append_assoc first.taken next.taken next.rest);
      told = next.told;
      given = omega (arith, first.given, next.given, length-append first.taken next.taken);
    }
