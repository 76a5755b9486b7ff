-- Path order, and the paths at or below a directory: they follow it in one run.
use Rattle.std.proofs.Common.{◌≡◌, Bool, true, false, not, ◌&&◌, ◌||◌, [], ◌∷◌, refl, ap, sym, ◌∙◌, subst}
use Rattle.std.specs.Cmp.{IsTotalOrder}
use Rattle.std.specs.Cmp.Lexicographic.{slice_cmp, lists_total, lists_ties, nat_list_cmp_total, texts_ties}
use Rattle.std.specs.Ordering.{nat_cmp, is_lt, is_eq, is_le, ordering_then, ordering_reverse}
use Rattle.std.specs.Str.{bytes_eq}
use Rattle.std.specs.declared.cmp.Ordering.{Ordering}
use Rattle.std.specs.declared.cmp.Ordering.TheVariants.{Less, Equal, Greater}
use Rattle.std.proofs.lemmas.Slice.Eq.{bytes_eq-Decides}
use Rattle.zw_def.proofs.PathLemmas.{same_path-Decides}
use Rattle.zw_def.specs.Path.{Path, same_path, is_below, path_cmp, precedes}

pub path_total : IsTotalOrder path_cmp
path_total = lists_total nat_list_cmp_total

-- paths are the same exactly where neither precedes the other
pub same_tied : (p q : Path) → same_path p q ≡ is_eq (path_cmp p q)
same_tied = lists_ties (slice_cmp nat_cmp) texts_ties

pub behind_turned : (p q : Path) → not (is_le (path_cmp p q)) ≡ precedes q p
behind_turned p q = turned (path_cmp p q) ∙ ap is_lt (sym (path_total.antisymm q p)) where
  turned : (o : Ordering) → not (is_le o) ≡ is_lt (ordering_reverse o)
  turned Less = refl
  turned Equal = refl
  turned Greater = refl

pub precedes_back : (p q : Path) → precedes p q ≡ true → precedes q p ≡ false
precedes_back p q h = ap is_lt (path_total.antisymm q p) ∙ by (path_cmp p q) h where
  by : (o : Ordering) → is_lt o ≡ true → is_lt (ordering_reverse o) ≡ false
  by Less h = refl
  by Equal h = cc
  by Greater h = cc

-- the path is the directory itself or stands below it
abbrev pub is_within : Path → Path → Bool
is_within d p = same_path p d || is_below p d

-- what is within a directory does not precede it
pub within_behind : (d p : Path) → precedes p d ≡ true → is_within d p ≡ false
within_behind [] [] h = cc
within_behind [] (p ∷ ps) h = cc
within_behind (d ∷ ds) [] h = refl
within_behind (d ∷ ds) (p ∷ ps) h = by (slice_cmp nat_cmp p d) (bytes_eq p d) (texts_ties p d) h (within_behind ds ps) where
  by : (o : Ordering) (same : Bool) → same ≡ is_eq o → is_lt (ordering_then o (path_cmp ps ds)) ≡ true → (precedes ps ds ≡ true → is_within ds ps ≡ false) → ((same && same_path ps ds) || (same && is_below ps ds)) ≡ false
  by Less false e h more = refl
  by Equal true e h more = more h
  by Greater same e h more = cc
  by Less true e h more = cc
  by Equal false e h more = cc

-- what stands between a directory and a path within it is within it
pub within_between : (d p q : Path) → precedes p d ≡ false → precedes q p ≡ false → is_within d q ≡ true → is_within d p ≡ true
within_between [] [] q h k w = refl
within_between [] (p ∷ ps) q h k w = refl
within_between (d ∷ ds) p [] h k w = cc
within_between (d ∷ ds) [] (q ∷ qs) h k w = cc
within_between (d ∷ ds) (p ∷ ps) (q ∷ qs) h k w =
    let parts = both (bytes_eq q d) (same_path qs ds) (is_below qs ds) w in
    let turned = ap (λ t. slice_cmp nat_cmp t p) ((bytes_eq-Decides q d).0 parts.0) ∙ nat_list_cmp_total.antisymm d p in
    by (slice_cmp nat_cmp p d) (bytes_eq p d) (texts_ties p d) h (subst (λ o. is_lt (ordering_then o (path_cmp qs ps)) ≡ false) turned k) (λ l m. within_between ds ps qs l m parts.1) where
      both : (e a b : Bool) → ((e && a) || (e && b)) ≡ true → (e ≡ true) × ((a || b) ≡ true)
      both true a b w = (refl, w)
      both false a b w = cc

      by : (o : Ordering) (same : Bool) → same ≡ is_eq o → is_lt (ordering_then o (path_cmp ps ds)) ≡ false → is_lt (ordering_then (ordering_reverse o) (path_cmp qs ps)) ≡ false → (precedes ps ds ≡ false → precedes qs ps ≡ false → is_within ds ps ≡ true) → ((same && same_path ps ds) || (same && is_below ps ds)) ≡ true
      by Equal true e h k more = more h k
      by Equal false e h k more = cc
      by Less same e h k more = cc
      by Greater same e h k more = cc

-- the same of the path alone
pub same_behind : (d p : Path) → precedes p d ≡ true → same_path p d ≡ false
same_behind d p h = same_tied p d ∙ by (path_cmp p d) h where
  by : (o : Ordering) → is_lt o ≡ true → is_eq o ≡ false
  by Less h = refl
  by Equal h = cc
  by Greater h = refl

pub same_between : (d p q : Path) → precedes p d ≡ false → precedes q p ≡ false → same_path q d ≡ true → same_path p d ≡ true
same_between d p q h k w =
    same_tied p d ∙ by (path_cmp p d) h (ap is_lt (sym (path_total.antisymm d p)) ∙ ap (λ t. precedes t p) (sym ((same_path-Decides q d).0 w)) ∙ k) where
      by : (o : Ordering) → is_lt o ≡ false → is_lt (ordering_reverse o) ≡ false → is_eq o ≡ true
      by Less h k = cc
      by Equal h k = refl
      by Greater h k = cc
