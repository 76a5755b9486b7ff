-- Variables of a frame: where one stands, and what is set.
use Rattle.std.proofs.Common.{◌≡◌, Bool, true, false, ℕ, zero, suc, ◌+◌, ◌<◌, ◌≤◌, List, [], ◌∷◌, ◌++◌, cond, drop, get_or, length, map, nat_eq, slice_get, Option, Some, None, refl, ap, sym, ◌∙◌, subst, arith, min, ne_eqb, take, append_assoc}
use Rattle.std.specs.Map.{lookup}
use Rattle.std.specs.Option.{option_map}
use Rattle.std.proofs.Math.ListN.{set}
use Rattle.std.proofs.lemmas.List.{drop_more, length-map}
use Rattle.std.proofs.lemmas.Bool.{eq-eqb}
use Rattle.indexmap.specs.IndexMap.{insert_entry}
use Rattle.zw_heap.specs.declared.value.Value.{Value}
use Rattle.zw_frames.specs.Locals.{first_at, required_locals}
use Rattle.zw_frames.specs.LocalsSeen.{entries_seen}
use Rattle.zw_frames.specs.declared.locals.Local.{Local}
use Rattle.zw_names.specs.declared.names.Name.{Name}

-- ---- the place of a variable, looked for from a place on

abbrev pub from_place : ℕ → Option ℕ → Option ℕ
from_place i o = option_map (λ k. i + k) o

module _ (x : ℕ) where
  pub first_at-step : (es : List (ℕ × Value)) (i : ℕ) (d : ℕ × Value) → i < length es → nat_eq x (get_or es i d).0 ≡ false → from_place i (first_at x (drop i es)) ≡ from_place (i + 1) (first_at x (drop (i + 1) es))
  first_at-step es i d lt apart =
      ap (λ l. from_place i (first_at x l)) (drop_more es i d lt)
      ∙ ap (λ b. from_place i (cond b (Some 0) (option_map suc (first_at x (drop (i + 1) es))))) apart
      ∙ by (first_at x (drop (i + 1) es))
    where
      by : (o : Option ℕ) → from_place i (option_map suc o) ≡ from_place (i + 1) o
      by None = refl
      by (Some k) = let same : i + suc k ≡ i + 1 + k = omega arith in ap Some same

  pub first_at-here : (es : List (ℕ × Value)) (i : ℕ) (d : ℕ × Value) → i < length es → nat_eq x (get_or es i d).0 ≡ true → from_place i (first_at x (drop i es)) ≡ Some i
  first_at-here es i d lt here =
      ap (λ l. from_place i (first_at x l)) (drop_more es i d lt)
      ∙ ap (λ b. from_place i (cond b (Some 0) (option_map suc (first_at x (drop (i + 1) es))))) here
      ∙ (let same : i + 0 ≡ i = omega arith in ap Some same)

  -- ---- what stands there

  pub lookup-none : (es : List (ℕ × Value)) → first_at x es ≡ None → lookup (nat_eq x) es ≡ None
  lookup-none [] none = refl
  lookup-none (e ∷ es) none = by (nat_eq x e.0) (first_at x es) none (λ later. lookup-none es later)
    where
      by : (b : Bool) (o : Option ℕ) → cond b (Some 0) (option_map suc o) ≡ None → (o ≡ None → lookup (nat_eq x) es ≡ None) → cond b (Some e.1) (lookup (nat_eq x) es) ≡ None
      by true o is later = absurd (cc)
      by false None is later = later refl
      by false (Some k) is later = absurd (cc)

  pub lookup-some : (es : List (ℕ × Value)) (i : ℕ) (d : ℕ × Value) → first_at x es ≡ Some i → lookup (nat_eq x) es ≡ Some (get_or es i d).1
  lookup-some [] i d some = absurd (cc)
  lookup-some (e ∷ es) i d some = by (nat_eq x e.0) (first_at x es) refl (λ k there. lookup-some es k d there) some
    where
      by : (b : Bool) (o : Option ℕ) → first_at x es ≡ o → ((k : ℕ) → first_at x es ≡ Some k → lookup (nat_eq x) es ≡ Some (get_or es k d).1) → cond b (Some 0) (option_map suc o) ≡ Some i → cond b (Some e.1) (lookup (nat_eq x) es) ≡ Some (get_or (e ∷ es) i d).1
      by true o there later is = let zero_is : 0 ≡ i = cc in ap (λ k. Some (get_or (e ∷ es) k d).1) zero_is
      by false None there later is = absurd (cc)
      by false (Some k) there later is = let next : suc k ≡ i = cc in later k there ∙ ap (λ j. Some (get_or (e ∷ es) j d).1) next

  pub inserted-none : (es : List (ℕ × Value)) (v : Value) → first_at x es ≡ None → insert_entry nat_eq es x v ≡ es ++ (x, v) ∷ []
  inserted-none [] v none = refl
  inserted-none (e ∷ es) v none = by (nat_eq x e.0) (first_at x es) none (λ later. inserted-none es v later)
    where
      by : (b : Bool) (o : Option ℕ) → cond b (Some 0) (option_map suc o) ≡ None → (o ≡ None → insert_entry nat_eq es x v ≡ es ++ (x, v) ∷ []) → cond b ((e.0, v) ∷ es) (e ∷ insert_entry nat_eq es x v) ≡ (e ∷ es) ++ (x, v) ∷ []
      by true o is later = absurd (cc)
      by false None is later = ap (λ l. e ∷ l) (later refl)
      by false (Some k) is later = absurd (cc)

  pub inserted-some : (es : List (ℕ × Value)) (v : Value) (i : ℕ) (d : ℕ × Value) → first_at x es ≡ Some i → insert_entry nat_eq es x v ≡ set es i ((get_or es i d).0, v)
  inserted-some [] v i d some = absurd (cc)
  inserted-some (e ∷ es) v i d some = by (nat_eq x e.0) (first_at x es) refl (λ k there. inserted-some es v k d there) some
    where
      by : (b : Bool) (o : Option ℕ) → first_at x es ≡ o → ((k : ℕ) → first_at x es ≡ Some k → insert_entry nat_eq es x v ≡ set es k ((get_or es k d).0, v)) → cond b (Some 0) (option_map suc o) ≡ Some i → cond b ((e.0, v) ∷ es) (e ∷ insert_entry nat_eq es x v) ≡ set (e ∷ es) i ((get_or (e ∷ es) i d).0, v)
      by true o there later is = let zero_is : 0 ≡ i = cc in ap (λ k. set (e ∷ es) k ((get_or (e ∷ es) k d).0, v)) zero_is
      by false None there later is = absurd (cc)
      by false (Some k) there later is = let next : suc k ≡ i = cc in ap (λ l. e ∷ l) (later k there) ∙ ap (λ j. set (e ∷ es) j ((get_or (e ∷ es) j d).0, v)) next

-- ---- as the code has them

seen-at : (es : List Local) (i : ℕ) (d : Local) → get_or (entries_seen es) i (d.name.0, d.value) ≡ ((get_or es i d).name.0, (get_or es i d).value)
seen-at [] i d = refl
seen-at (e ∷ es) zero d = refl
seen-at (e ∷ es) (suc i) d = seen-at es i d

seen-within : (es : List Local) (i : ℕ) → i < length es → i < length (entries_seen es)
seen-within es i lt = let seen : Local → ℕ × Value = λ e. (e.name.0, e.value) in
    let same = length-map es seen in omega (arith, lt, same)

module _ (es : List Local) (i : ℕ) (e : Local) (lt : i < length es) (at : e ≡ get_or es i e) where
  key : (get_or (entries_seen es) i (e.name.0, e.value)).0 ≡ e.name.0
  key = ap (λ (p : ℕ × Value). p.0) (seen-at es i e) ∙ ap (λ (y : Local). y.name.0) (sym at)

  pub place-here : (x : ℕ) → e.name.0 ≡ x → from_place i (first_at x (drop i (entries_seen es))) ≡ first_at x (entries_seen es) → Some i ≡ first_at x (entries_seen es)
  place-here x same so_far = sym (first_at-here x (entries_seen es) i (e.name.0, e.value) (seen-within es i lt) (eq-eqb x (get_or (entries_seen es) i (e.name.0, e.value)).0 (sym (key ∙ same)))) ∙ so_far

  pub place-past : (x : ℕ) → (e.name.0 ≡ x → ⊥) → from_place i (first_at x (drop i (entries_seen es))) ≡ first_at x (entries_seen es) → from_place (i + 1) (first_at x (drop (i + 1) (entries_seen es))) ≡ first_at x (entries_seen es)
  place-past x differs so_far = sym (first_at-step x (entries_seen es) i (e.name.0, e.value) (seen-within es i lt) (ne_eqb x (get_or (entries_seen es) i (e.name.0, e.value)).0 (λ same. differs (sym key ∙ sym same)))) ∙ so_far

  pub value-here : (x : ℕ) → Some i ≡ first_at x (entries_seen es) → Some e.value ≡ lookup (nat_eq x) (entries_seen es)
  value-here x first = ap (λ (y : Local). Some y.value) at ∙ sym (ap (λ (p : ℕ × Value). Some p.1) (seen-at es i e)) ∙ sym (lookup-some x (entries_seen es) i (e.name.0, e.value) (sym first))

  pub set-here : (x : ℕ) (v : Value) → Some i ≡ first_at x (entries_seen es) → entries_seen (set es i (record e { value = v })) ≡ insert_entry nat_eq (entries_seen es) x v
  set-here x v first =
      seen-set es i (record e { value = v })
      ∙ ap (λ k. set (entries_seen es) i (k, v)) (sym key)
      ∙ sym (inserted-some x (entries_seen es) v i (e.name.0, e.value) (sym first))
    where
      seen-set : (es : List Local) (i : ℕ) (y : Local) → entries_seen (set es i y) ≡ set (entries_seen es) i (y.name.0, y.value)
      seen-set [] i y = refl
      seen-set (z ∷ es) zero y = refl
      seen-set (z ∷ es) (suc i) y = ap (λ l. (z.name.0, z.value) ∷ l) (seen-set es i y)

seen-pushed : (es : List Local) (y : Local) → entries_seen (es ++ y ∷ []) ≡ entries_seen es ++ (y.name.0, y.value) ∷ []
seen-pushed [] y = refl
seen-pushed (e ∷ es) y = ap (λ l. (e.name.0, e.value) ∷ l) (seen-pushed es y)

pub set-new : (es : List Local) (y : Local) → None ≡ first_at y.name.0 (entries_seen es) → entries_seen (es ++ y ∷ []) ≡ insert_entry nat_eq (entries_seen es) y.name.0 y.value
set-new es y none = seen-pushed es y ∙ sym (inserted-none y.name.0 (entries_seen es) y.value (sym none))

-- the place is within the entries that are seen, and so within those of the code
pub seen-back : (es : List Local) (i : ℕ) → i < length (entries_seen es) → i < length es
seen-back es i lt =
    let seen : Local → ℕ × Value = λ e. (e.name.0, e.value) in
    let same = length-map es seen in omega (arith, lt, same)

-- ---- required parameters

pub required-more : (xs : List Name) (vs : List Value) (i : ℕ) (dx : Name) (dv : Value) → i < length xs → i < length vs
    → required_locals (take i xs) (take i vs) ++ ((get_or xs i dx).0, get_or vs i dv) ∷ [] ≡ required_locals (take (i + 1) xs) (take (i + 1) vs)
required-more xs vs i dx dv lx lv = at xs vs i lx lv ∙ (let next : suc i ≡ i + 1 = omega arith in ap (λ n. required_locals (take n xs) (take n vs)) next)
  where
    at : (xs : List Name) (vs : List Value) (i : ℕ) → i < length xs → i < length vs → required_locals (take i xs) (take i vs) ++ ((get_or xs i dx).0, get_or vs i dv) ∷ [] ≡ required_locals (take (suc i) xs) (take (suc i) vs)
    at [] vs i lx lv = absurd (omega (arith, lx))
    at (y ∷ xs) [] i lx lv = absurd (omega (arith, lv))
    at (y ∷ xs) (u ∷ vs) zero lx lv = refl
    at (y ∷ xs) (u ∷ vs) (suc i) lx lv = ap (λ l. (y.0, u) ∷ l) (at xs vs i (omega (arith, lx)) (omega (arith, lv)))

pub seen-more : (es : List Local) (y : Local) (more : List (ℕ × Value)) → entries_seen es ≡ more → entries_seen (es ++ y ∷ []) ≡ more ++ (y.name.0, y.value) ∷ []
seen-more es y more is = seen-pushed es y ∙ ap (λ l. l ++ (y.name.0, y.value) ∷ []) is

pub required-all : (xs : List Name) (vs : List Value) (i : ℕ) → min (length xs) (length vs) ≤ i → required_locals (take i xs) (take i vs) ≡ required_locals xs vs
required-all [] vs i le = ap (λ l. required_locals l (take i vs)) (take-nil i)
  where
    take-nil : (i : ℕ) → take {A = Name} i [] ≡ []
    take-nil zero = refl
    take-nil (suc i) = refl
required-all (x ∷ xs) [] i le = by i
  where
    by : (i : ℕ) → required_locals (take i (x ∷ xs)) (take i []) ≡ []
    by zero = refl
    by (suc i) = refl
required-all (x ∷ xs) (v ∷ vs) zero le = absurd (omega (arith, le))
required-all (x ∷ xs) (v ∷ vs) (suc i) le = ap (λ l. (x.0, v) ∷ l) (required-all xs vs i (omega (arith, le)))

-- ---- what is pushed, one after another

mapped-next : {X Y : Type 0} (f : X → Y) (ys : List X) (i : ℕ) (d : X) → i < length ys → map f (take i ys) ++ f (get_or ys i d) ∷ [] ≡ map f (take (suc i) ys)
mapped-next f [] i d lt = absurd (omega (arith, lt))
mapped-next f (y ∷ ys) zero d lt = refl
mapped-next f (y ∷ ys) (suc i) d lt = ap (λ l. f y ∷ l) (mapped-next f ys i d (omega (arith, lt)))

pub pushed-next : {X Y : Type 0} (f : X → Y) (front now later : List Y) (ys : List X) (i : ℕ) (d : X) (z : Y) → i < length ys → now ≡ front ++ map f (take i ys) → later ≡ now ++ z ∷ [] → z ≡ f (get_or ys i d) → later ≡ front ++ map f (take (i + 1) ys)
pushed-next f front now later ys i d z lt so_far pushed is =
    let next : suc i ≡ i + 1 = omega arith in
    pushed ∙ (λ k. so_far k ++ is k ∷ []) ∙ append_assoc front (map f (take i ys)) (f (get_or ys i d) ∷ []) ∙ ap (λ l. front ++ l) (mapped-next f ys i d lt ∙ ap (λ n. map f (take n ys)) next)

take-whole : {X : Type 0} (ys : List X) (i : ℕ) → length ys ≤ i → take i ys ≡ ys
take-whole [] zero le = refl
take-whole [] (suc i) le = refl
take-whole (y ∷ ys) zero le = absurd (omega (arith, le))
take-whole (y ∷ ys) (suc i) le = ap (λ l. y ∷ l) (take-whole ys i (omega (arith, le)))

pub pushed-all : {X Y : Type 0} (f : X → Y) (front now : List Y) (ys : List X) (i : ℕ) → length ys ≤ i → now ≡ front ++ map f (take i ys) → now ≡ front ++ map f ys
pushed-all f front now ys i le so_far = so_far ∙ ap (λ l. front ++ map f l) (take-whole ys i le)

-- the same of what is pushed as it is
pub taken-next : {X : Type 0} (front now later ys : List X) (i : ℕ) (d z : X) → i < length ys → now ≡ front ++ take i ys → later ≡ now ++ z ∷ [] → z ≡ get_or ys i d → later ≡ front ++ take (i + 1) ys
taken-next front now later ys i d z lt so_far pushed is =
    let next : suc i ≡ i + 1 = omega arith in
    pushed ∙ (λ k. so_far k ++ is k ∷ []) ∙ append_assoc front (take i ys) (get_or ys i d ∷ []) ∙ ap (λ l. front ++ l) (at ys i lt ∙ ap (λ n. take n ys) next)
  where
    at : (ys : List _) (i : ℕ) → i < length ys → take i ys ++ get_or ys i d ∷ [] ≡ take (suc i) ys
    at [] i lt = absurd (omega (arith, lt))
    at (y ∷ ys) zero lt = refl
    at (y ∷ ys) (suc i) lt = ap (λ l. y ∷ l) (at ys i (omega (arith, lt)))

pub taken-all : {X : Type 0} (front now ys : List X) (i : ℕ) → length ys ≤ i → now ≡ front ++ take i ys → now ≡ front ++ ys
taken-all front now ys i le so_far = so_far ∙ ap (λ l. front ++ l) (take-whole ys i le)
