-- The first of several paths, in path order.
use Rattle.std.proofs.Common.{◌≡◌, ◌⊎◌, inl, inr, Bool, true, false, cond, List, [], ◌∷◌, Option, Some, None, refl, ap, sym, subst, ◌∙◌}
use Rattle.std.specs.List.{AllByRecursion, fold}
use Rattle.std.specs.Option.{option_map_or, option_or}
use Rattle.std.specs.Ordering.{is_lt, is_eq, ordering_reverse}
use Rattle.std.specs.declared.cmp.Ordering.{Ordering}
use Rattle.std.specs.declared.cmp.Ordering.TheVariants.{Less, Equal, Greater}
use Rattle.zw_def.specs.Path.{Path, path_cmp, precedes}
use Rattle.zw_def.proofs.PathLemmas.{same_path-Decides}
use Rattle.zw_def.proofs.PathOrderLemmas.{path_total, same_tied}
use Rattle.zw_scan.proofs.BeginningLemmas.{Before, before_trans}

abbrev pub first_path : Option Path → Path → Option Path
first_path first path = cond (option_map_or (λ f. precedes f path) first false) first (Some path)

abbrev Leads : Option Path → Path → Type 0
Leads None x = ⊥
Leads (Some m) x = Before m x ⊎ (m ≡ x)

leads_here : (o : Option Path) (x : Path) → Leads (first_path o x) x
leads_here None x = inr refl
leads_here (Some m) x = by (path_cmp m x) refl where
  by : (c : Ordering) → path_cmp m x ≡ c → Leads (cond (is_lt c) (Some m) (Some x)) x
  by Less e = inl e
  by Equal e = inr refl
  by Greater e = inr refl

leads_on : (o : Option Path) (x y : Path) → Leads o x → Leads (first_path o y) x
leads_on None x y h = absurd h
leads_on (Some m) x y h = by (path_cmp m y) refl where
  turned : Before y m → Before m x ⊎ (m ≡ x) → Before y x ⊎ (y ≡ x)
  turned k (inl j) = inl (before_trans y m x k j)
  turned k (inr e) = inl (subst (Before y) e k)

  by : (c : Ordering) → path_cmp m y ≡ c → Leads (cond (is_lt c) (Some m) (Some y)) x
  by Less e = h
  by Equal e = subst (λ z. Before z x ⊎ (z ≡ x)) ((same_path-Decides m y).0 (same_tied m y ∙ ap is_eq e)) h
  by Greater e = turned (path_total.antisymm y m ∙ ap ordering_reverse e) h

leads_kept : (o : Option Path) (x : Path) (ys : List Path) → Leads o x → Leads (fold first_path o ys) x
leads_kept o x [] h = h
leads_kept o x (y ∷ ys) h = leads_kept (first_path o y) x ys (leads_on o x y h)

leads_all : (o : Option Path) (xs : List Path) → AllByRecursion (Leads (fold first_path o xs)) xs
leads_all o [] = tt
leads_all o (x ∷ xs) = (leads_kept (first_path o x) x xs (leads_here o x), leads_all (first_path o x) xs)

stays_first : (o : Option Path) (xs : List Path) → AllByRecursion (Leads o) xs → fold first_path o xs ≡ o
stays_first o [] all = refl
stays_first o (x ∷ xs) all = ap (λ p. fold first_path p xs) (one o all.0) ∙ stays_first o xs all.1 where
  one : (o : Option Path) → Leads o x → first_path o x ≡ o
  one None h = absurd h
  one (Some m) (inl h) = ap (λ c. cond (is_lt c) (Some m) (Some x)) h
  one (Some m) (inr e) = by (precedes m x) where
    by : (b : Bool) → cond b (Some m) (Some x) ≡ Some m
    by true = refl
    by false = ap Some (sym e)

-- the first of paths that were there already
pub absorbed : (o : Option Path) (xs : List Path) → fold first_path (fold first_path o xs) xs ≡ fold first_path o xs
absorbed o xs = stays_first (fold first_path o xs) xs (leads_all o xs)

-- the first of several that there is
abbrev pub first_some : List (Option Path) → Option Path
first_some [] = None
first_some (o ∷ os) = option_or o (first_some os)
