-- Paths by constant path, edit by edit.
use Rattle.std.proofs.Common.{◌≡◌, ℕ, ◌+◌, ◌<◌, Bool, true, false, cond, List, [], ◌∷◌, ◌++◌, map, length, take, get_or, Some, refl, ap, sym, ◌∙◌}
use Rattle.std.specs.List.{filter}
use Rattle.std.specs.Option.{option_map_or}
use Rattle.std.specs.Ordering.{nat_cmp, is_eq, match_ordering}
use Rattle.std.specs.Cmp.Lexicographic.{slice_cmp, texts_ties}
use Rattle.std.specs.declared.cmp.Ordering.{Ordering}
use Rattle.std.specs.declared.cmp.Ordering.TheVariants.{Less, Equal, Greater}
use Rattle.std.specs.Global.{Vec}
use Rattle.std.specs.Map.{lookup, remove_entry}
use Rattle.std.specs.BTreeMap.{insert_entry}
use Rattle.std.proofs.lemmas.List.{take_more}
use Rattle.zw_lemmas.proofs.TextLemmas.{same_text, bytes_eq-self}
use Rattle.zw_scan.specs.Table.{same_numbers, paths_found}
use Rattle.zw_scan.specs.declared.found.Found.{Found}

-- the test decides that the numbers are the same
pub same_numbers-true : (p q : List ℕ) → same_numbers p q ≡ true → p ≡ q
same_numbers-true p q h = same_text p q (texts_ties p q ∙ h)

pub same_numbers-self : (p : List ℕ) → same_numbers p p ≡ true
same_numbers-self p = sym (texts_ties p p) ∙ bytes_eq-self p

pub same_numbers-turned : (p q : List ℕ) → same_numbers p q ≡ false → same_numbers q p ≡ false
same_numbers-turned p q h = by (same_numbers q p) refl where
  by : (b : Bool) → same_numbers q p ≡ b → same_numbers q p ≡ false
  by false e = e
  by true e = (let bad : true ≡ false = sym (same_numbers-self p) ∙ ap (same_numbers p) (sym (same_numbers-true q p e)) ∙ h in cc)

equal_self : (p : List ℕ) → slice_cmp nat_cmp p p ≡ Equal
equal_self p = by (slice_cmp nat_cmp p p) (same_numbers-self p) where
  by : (o : Ordering) → is_eq o ≡ true → o ≡ Equal
  by Less h = cc
  by Equal h = refl
  by Greater h = cc

abbrev pub key_cmp : Vec ℕ → Vec ℕ → Ordering
key_cmp a b = slice_cmp nat_cmp a.items b.items

abbrev pub is_key_of : List ℕ → Vec ℕ → Bool
is_key_of q k = same_numbers q k.items

module _ {X : Type 0} (q : List ℕ) where
  pub lookup-insert : (es : List (Vec ℕ × X)) (k : Vec ℕ) (v : X) → lookup (is_key_of q) (insert_entry key_cmp es k v) ≡ cond ((is_key_of q) k) (Some v) (lookup (is_key_of q) es)
  lookup-insert [] k v = refl
  lookup-insert (e ∷ es) k v = by (slice_cmp nat_cmp k.items e.0.items) refl (lookup-insert es k v) where
    same : slice_cmp nat_cmp k.items e.0.items ≡ Equal → (is_key_of q) e.0 ≡ (is_key_of q) k
    same h = ap (same_numbers q) (sym (same_numbers-true k.items e.0.items (ap is_eq h)))

    later : slice_cmp nat_cmp k.items e.0.items ≡ Greater → (b c : Bool) → (is_key_of q) k ≡ b → (is_key_of q) e.0 ≡ c → lookup (is_key_of q) (insert_entry key_cmp es k v) ≡ cond ((is_key_of q) k) (Some v) (lookup (is_key_of q) es) → cond c (Some e.1) (lookup (is_key_of q) (insert_entry key_cmp es k v)) ≡ cond b (Some v) (cond c (Some e.1) (lookup (is_key_of q) es))
    later h false false i j more = more ∙ ap (λ b. cond b (Some v) (lookup (is_key_of q) es)) i
    later h false true i j more = refl
    later h true false i j more = more ∙ ap (λ b. cond b (Some v) (lookup (is_key_of q) es)) i
    later h true true i j more =
        let one : k.items ≡ e.0.items = sym (same_numbers-true q k.items i) ∙ same_numbers-true q e.0.items j in
        let bad : Equal ≡ Greater = sym (equal_self e.0.items) ∙ ap (λ l. slice_cmp nat_cmp l e.0.items) (sym one) ∙ h in
        cc

    by : (o : Ordering) → slice_cmp nat_cmp k.items e.0.items ≡ o → lookup (is_key_of q) (insert_entry key_cmp es k v) ≡ cond ((is_key_of q) k) (Some v) (lookup (is_key_of q) es) → lookup (is_key_of q) (match_ordering o ((k, v) ∷ e ∷ es) ((e.0, v) ∷ es) (e ∷ insert_entry key_cmp es k v)) ≡ cond ((is_key_of q) k) (Some v) (lookup (is_key_of q) (e ∷ es))
    by Less h more = refl
    by Equal h more = at ((is_key_of q) e.0) ((is_key_of q) k) (same h) where
      at : (c b : Bool) → c ≡ b → cond c (Some v) (lookup (is_key_of q) es) ≡ cond b (Some v) (cond c (Some e.1) (lookup (is_key_of q) es))
      at false false i = refl
      at true true i = refl
      at true false i = cc
      at false true i = cc
    by Greater h more = later h ((is_key_of q) k) ((is_key_of q) e.0) refl refl more

  pub lookup-remove : (es : List (Vec ℕ × X)) (p : List ℕ) → same_numbers q p ≡ false → lookup (is_key_of q) (remove_entry (λ (k : Vec ℕ). same_numbers p k.items) es) ≡ lookup (is_key_of q) es
  lookup-remove [] p other = refl
  lookup-remove (e ∷ es) p other = by (same_numbers p e.0.items) refl (lookup-remove es p other) where
    by : (b : Bool) → same_numbers p e.0.items ≡ b → lookup (is_key_of q) (remove_entry (λ (k : Vec ℕ). same_numbers p k.items) es) ≡ lookup (is_key_of q) es → lookup (is_key_of q) (cond b es (e ∷ remove_entry (λ (k : Vec ℕ). same_numbers p k.items) es)) ≡ cond ((is_key_of q) e.0) (Some e.1) (lookup (is_key_of q) es)
    by true h more = ap (λ c. cond c (Some e.1) (lookup (is_key_of q) es)) (sym (ap (same_numbers q) (sym (same_numbers-true p e.0.items h)) ∙ other))
    by false h more = ap (cond ((is_key_of q) e.0) (Some e.1)) more

-- one more of those that are found
pub found_more : (q : List ℕ) (found : List Found) (i : ℕ) (x : Found) → i < length found → x ≡ get_or found i x → paths_found q (take (i + 1) found) ≡ cond (same_numbers q x.names) (paths_found q (take i found) ++ x.path ∷ []) (paths_found q (take i found))
found_more q found i x lt at =
    ap (paths_found q) (take_more found i x lt)
    ∙ filter_more (take i found) (get_or found i x)
    ∙ ap (λ (y : Found). cond (same_numbers q y.names) (paths_found q (take i found) ++ y.path ∷ []) (paths_found q (take i found))) (sym at) where
      filter_more : (fs : List Found) (y : Found) → paths_found q (fs ++ y ∷ []) ≡ cond (same_numbers q y.names) (paths_found q fs ++ y.path ∷ []) (paths_found q fs)
      filter_more [] y = by (same_numbers q y.names) where
        by : (b : Bool) → map (λ (f : Found). f.path) (cond b (y ∷ []) []) ≡ cond b (y.path ∷ []) []
        by true = refl
        by false = refl
      filter_more (f ∷ fs) y = by (same_numbers q f.names) (same_numbers q y.names) (filter_more fs y) where
        by : (b c : Bool) → paths_found q (fs ++ y ∷ []) ≡ cond c (paths_found q fs ++ y.path ∷ []) (paths_found q fs) → map (λ (g : Found). g.path) (cond b (f ∷ filter (λ g. same_numbers q g.names) (fs ++ y ∷ [])) (filter (λ g. same_numbers q g.names) (fs ++ y ∷ []))) ≡ cond c (map (λ (g : Found). g.path) (cond b (f ∷ filter (λ g. same_numbers q g.names) fs) (filter (λ g. same_numbers q g.names) fs)) ++ y.path ∷ []) (map (λ (g : Found). g.path) (cond b (f ∷ filter (λ g. same_numbers q g.names) fs) (filter (λ g. same_numbers q g.names) fs)))
        by true true more = ap (λ l. f.path ∷ l) more
        by true false more = ap (λ l. f.path ∷ l) more
        by false c more = more

-- ---- the same of the code's tables

abbrev pub held_at : {X : Type 0} → List ℕ → List (Vec ℕ × Vec X) → List X
held_at q es = option_map_or (λ held. held.items) (lookup (is_key_of q) es) []

pub held_others : {X : Type 0} (es es' : List (Vec ℕ × Vec X)) (p q : List ℕ) → es' ≡ remove_entry (λ (k : Vec ℕ). same_numbers p k.items) es → same_numbers q p ≡ false → held_at q es' ≡ held_at q es
held_others es es' p q is other = ap (held_at q) is ∙ ap (λ o. option_map_or (λ held. held.items) o []) (lookup-remove q es p other)

pub held_added : {X : Type 0} (old es es' : List (Vec ℕ × Vec X)) (p q : List ℕ) (k : Vec ℕ) (v : Vec X) (x : X) → es' ≡ insert_entry key_cmp es k v → k.items ≡ p → v.items ≡ held_at p old ++ x ∷ [] → ((r : List ℕ) → same_numbers r p ≡ false → held_at r es ≡ held_at r old) → held_at q es' ≡ cond (same_numbers q p) (held_at q old ++ x ∷ []) (held_at q old)
held_added old es es' p q k v x is key value others =
    ap (held_at q) is ∙ ap (λ o. option_map_or (λ held. held.items) o []) (lookup-insert q es k v ∙ ap (λ l. cond (same_numbers q l) (Some v) (lookup (is_key_of q) es)) key) ∙ by (same_numbers q p) refl where
      by : (b : Bool) → same_numbers q p ≡ b → option_map_or (λ (held : Vec _). held.items) (cond b (Some v) (lookup (is_key_of q) es)) [] ≡ cond b (held_at q old ++ x ∷ []) (held_at q old)
      by true e = value ∙ ap (λ l. held_at l old ++ x ∷ []) (sym (same_numbers-true q p e))
      by false e = others q e
