-- Texts: their equality as a test, ASCII, reading them from bytes, and how much of one is left.
use Rattle.std.proofs.Common.{◌≡◌, ◌<◌, ◌+◌, ℕ, Bool, true, false, List, [], ◌∷◌, length, Option, Some, None, Result, Ok, Err, IsOk, MatchResult, refl, rules}
use Rattle.std.specs.Borrow.{Bor}
use Rattle.std.specs.List.{list_all}
use Rattle.std.specs.Str.{IsUtf8, IsAscii, bytes_eq}
use Rattle.std.proofs.lemmas.Bool.{and_parts, false_from_ne_true}
use Rattle.std.proofs.lemmas.Slice.Eq.{bytes_eq-Decides}
use Rattle.std.proofs.lemmas.Str.Ascii.{IsAscii-nil, IsAscii-cons}

pub same_text : (a b : List ℕ) → bytes_eq a b ≡ true → a ≡ b
same_text a b = (bytes_eq-Decides a b).0

pub bytes_eq-self : (a : List ℕ) → bytes_eq a a ≡ true
bytes_eq-self a = (bytes_eq-Decides a a).1 refl

pub bytes_eq-other : (a b : List ℕ) → (a ≡ b → ⊥) → bytes_eq a b ≡ false
bytes_eq-other a b other = false_from_ne_true (bytes_eq a b) (λ is. other (same_text a b is))

-- bytes that pass a test which only ASCII passes
pub ascii_of_all : (p : ℕ → Bool) → ((b : ℕ) → p b ≡ true → b < 128) → (bs : List ℕ) → list_all p bs ≡ true → IsAscii bs
ascii_of_all p below [] all = IsAscii-nil
ascii_of_all p below (b ∷ bs) all =
    let parts = and_parts (p b) (list_all p bs) all in
    IsAscii-cons b bs (below b parts.0) (ascii_of_all p below bs parts.1)

-- bytes in UTF-8 are read as a text
pub ok_of_utf8 : {T E : Type 0} (bytes : List ℕ) (P : T → Type 0) (Q : E → Type 0) (r : Result T E) → MatchResult r P (λ e. ¬ (IsUtf8 bytes) × Q e) → IsUtf8 bytes → IsOk r
ok_of_utf8 bytes P Q (Ok text) cases valid = search rules
ok_of_utf8 bytes P Q (Err e) cases valid = absurd (cases.0 valid)

-- what is left of a text, where its end is not reached, one more than its bytes
abbrev pub size_left : Option (Bor (List ℕ)) → ℕ
size_left None = 0
size_left (Some text) = length text.now + 1
