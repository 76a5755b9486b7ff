-- A listing, path by path.
use Rattle.std.proofs.Common.{◌≡◌, ◌≤◌, ◌+◌, ℕ, zero, suc, List, [], ◌∷◌, Some, option_map, slice_get, length, drop, map, ap, arith}
use Rattle.std.proofs.lemmas.Option.{same_Some}
use Rattle.std.proofs.lemmas.List.{drop_all}
use Rattle.zw_def.specs.Text.{Text}
use Rattle.zw_def.specs.Folder.{Listing, unlisted}

first_of : (files : List (Text × Text)) (place : ℕ) (path : Text) → option_map (λ f. f.0) (slice_get files place) ≡ Some path → map (λ f. f.0) (drop place files) ≡ path ∷ map (λ f. f.0) (drop (place + 1) files)
first_of [] place path is = absurd (cc)
first_of (f ∷ fs) zero path is = ap (λ p. p ∷ map (λ f. f.0) fs) (same_Some _ _ is)
first_of (f ∷ fs) (suc place) path is =
    let next : suc place + 1 ≡ suc (place + 1) = omega arith in
    rw next (first_of fs place path is)

-- where a file stands at the place, its path is the first of those still to be listed
pub unlisted-file : (l : Listing) (path : Text) → option_map (λ f. f.0) (slice_get l.files l.place) ≡ Some path
    → unlisted l ≡ path ∷ unlisted (record l { place = l.place + 1 })
unlisted-file l path is = first_of l.files l.place path is

-- past the files none is left
pub unlisted-end : (l : Listing) → length l.files ≤ l.place → unlisted l ≡ []
unlisted-end l past = ap (map (λ f. f.0)) (drop_all l.place l.files past)
