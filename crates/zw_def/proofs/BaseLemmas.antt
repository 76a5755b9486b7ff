-- The base name of a path, and a text with and without a final `.rb`.
use Rattle.std.proofs.Common.{◌≡◌, ◌≢◌, ◌+◌, ◌-◌, ℕ, zero, suc, Bool, true, false, ◌&&◌, cond, leb, [], ◌∷◌, ◌++◌, length, get_or, take, drop, codes, refl, ap, sym, ◌∙◌, arith}
use Rattle.std.specs.Str.{bytes_eq}
use Rattle.std.proofs.lemmas.List.{take-append-drop}
use Rattle.std.proofs.lemmas.Slice.Eq.{bytes_eq-Decides}
use Rattle.zw_def.specs.Text.{Text}
use Rattle.zw_def.specs.Path.{Path}
use Rattle.zw_def.specs.Base.{without_rb, base_of}

-- the base name is that of the last component
pub base_of-at : (path : Path) (n : ℕ) (d : Text) → n + 1 ≡ length path → base_of path ≡ without_rb (get_or path n d)
base_of-at [] n d h = absurd (omega arith)
base_of-at (p ∷ []) zero d h = refl
base_of-at (p ∷ []) (suc n) d h = absurd (omega arith)
base_of-at (p ∷ q ∷ more) zero d h = absurd (omega arith)
base_of-at (p ∷ q ∷ more) (suc n) d h = base_of-at (q ∷ more) n d (omega arith)

pub without_rb-same : (text : Text) → ((front : Text) → text ≢ front ++ codes ".rb") → without_rb text ≡ text
without_rb-same text none = at (leb 3 (length text)) (bytes_eq (drop (length text - 3) text) (codes ".rb")) refl where
  at : (a b : Bool) → bytes_eq (drop (length text - 3) text) (codes ".rb") ≡ b → cond (a && b) (take (length text - 3) text) text ≡ text
  at false b e = refl
  at true false e = refl
  at true true e =
      absurd (none (take (length text - 3) text) (sym (take-append-drop (length text - 3) text) ∙ ap (λ end. take (length text - 3) text ++ end) ((bytes_eq-Decides (drop (length text - 3) text) (codes ".rb")).0 e)))
