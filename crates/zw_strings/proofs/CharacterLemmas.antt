-- Characters and their bytes.
use Rattle.std.proofs.Common.{◌≡◌, ℕ, List, [], ◌∷◌, ◌++◌, encode_utf8, encode_utf8_all, string_bytes, String, Global, Result, Ok, Err, IfOk, refl, ap, ◌∙◌}
use Rattle.zw_def_world.specs.StringRows.{of_characters}

pub of_characters-is : (cs : List ℕ) → encode_utf8_all cs ≡ of_characters cs
of_characters-is [] = refl
of_characters-is (c ∷ cs) = ap (λ t. encode_utf8 c ++ t) (of_characters-is cs)

pub spelled : {E : Type 0} (r : Result (String Global) E) (cs ds : List ℕ) → cs ≡ ds → IfOk r (λ made. string_bytes made ≡ encode_utf8_all cs) → IfOk r (λ made. string_bytes made ≡ of_characters ds)
spelled (Ok made) cs ds same is = is ∙ of_characters-is cs ∙ ap of_characters same
spelled (Err e) cs ds same is = is
