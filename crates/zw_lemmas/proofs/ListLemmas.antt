-- Lists: turned round, with one more element, and made of others by a function.
use Rattle.std.proofs.Common.{◌≡◌, ℕ, suc, ◌<◌, ◌+◌, List, [], ◌∷◌, ◌++◌, length, get_or, map, reverse, take, drop, refl, ap, sym, ◌∙◌, arith}
use Rattle.std.specs.List.{All, insert}
use Rattle.std.proofs.Math.Seq.{drop-cons}
use Rattle.std.proofs.lemmas.Grind.{get_or_after_one}
use Rattle.std.proofs.lemmas.List.{map-append, take-map, drop-map, length-map, length-take, length-drop, get_or-map, get_or-take, take_more}
use Rattle.std.proofs.lemmas.List.Elements.{All-nil, All-cons, All-head, All-tail}
use mathlib.Core.List.{reverse_aux}

-- what follows a place, with the element that stands there
pub drop-at : {A : Type 0} (xs : List A) (i j : ℕ) (d : A) → i < length xs → suc i ≡ j → drop i xs ≡ get_or xs i d ∷ drop j xs
drop-at xs i j d within next = drop-cons xs i d within ∙ ap (λ k. get_or xs i d ∷ drop k xs) next

-- two functions that agree where P holds
pub map-same : {X Y : Type 0} (f g : X → Y) (P : X → Type 0) (xs : List X) → ((x : X) → P x → f x ≡ g x) → All P xs → map f xs ≡ map g xs
map-same f g P [] same all = refl
map-same f g P (x ∷ xs) same all = λ i. same x (All-head P x xs all) i ∷ map-same f g P xs same (All-tail P x xs all) i

-- two lists that tell the same, with one more at the end of each
pub map-pushed : {A B C : Type 0} (f : A → C) (g : B → C) (xs : List A) (ys : List B) (x : A) (y : B) → map f xs ≡ map g ys → f x ≡ g y → map f (xs ++ x ∷ []) ≡ map g (ys ++ y ∷ [])
map-pushed f g xs ys x y e h = map-append f xs (x ∷ []) ∙ (λ i. e i ++ h i ∷ []) ∙ sym (map-append g ys (y ∷ []))

pub insert-map : {X Y : Type 0} (f : X → Y) (xs : List X) (i : ℕ) (x : X) → map f (insert xs i x) ≡ insert (map f xs) i (f x)
insert-map f xs i x = map-append f (take i xs) (x ∷ drop i xs) ∙ (λ j. sym (take-map f i xs) j ++ f x ∷ sym (drop-map f i xs) j)

-- ---- turned round

reverse_aux-map : {A B : Type 0} (f : A → B) (xs acc : List A) → reverse_aux (map f xs) (map f acc) ≡ map f (reverse_aux xs acc)
reverse_aux-map f [] acc = refl
reverse_aux-map f (x ∷ xs) acc = reverse_aux-map f xs (x ∷ acc)

pub reverse-map : {A B : Type 0} (f : A → B) (xs : List A) → reverse (map f xs) ≡ map f (reverse xs)
reverse-map f xs = reverse_aux-map f xs []

All-reverse_aux : {A : Type 0} (P : A → Type 0) (xs acc : List A) → All P xs → All P acc → All P (reverse_aux xs acc)
All-reverse_aux P [] acc all rest = rest
All-reverse_aux P (x ∷ xs) acc all rest = All-reverse_aux P xs (x ∷ acc) (All-tail P x xs all) (All-cons P x acc (All-head P x xs all) rest)

pub All-reverse : {A : Type 0} (P : A → Type 0) (xs : List A) → All P xs → All P (reverse xs)
All-reverse P xs all = All-reverse_aux P xs [] all (All-nil P)

-- ---- a list that tells another

module _ {A B : Type 0} (f : A → B) (all : List A) (told : List B) (tells : map f all ≡ told) where
  pub read_at : (i : ℕ) (x : A) → i < length all → x ≡ get_or all i x → (i < length told) × (f x ≡ get_or told i (f x))
  read_at i x h e = (omega (arith, length-map all f, ap length tells), ap f e ∙ sym (get_or-map f all i x (f x) h) ∙ ap (λ t. get_or t i (f x)) tells)

  pub read_after : (n i : ℕ) (x : A) → i < length (take n (drop 1 all)) → x ≡ get_or (take n (drop 1 all)) i x → (i + 1 < length told) × (f x ≡ get_or told (i + 1) (f x))
  read_after n i x h e =
      let few = length-take n (drop 1 all) in
      let rest = length-drop 1 all in
      read_at (i + 1) x (omega (arith, few, rest)) (e ∙ get_or-take n (drop 1 all) i x (omega (arith, few)) ∙ get_or_after_one all i x ∙ ap (λ k. get_or all k x) (omega arith))

  -- the front of a path, with a text that is like the next one
  pub front_more : (xs : List A) (i : ℕ) (x y : A) → i < length all → x ≡ get_or all i x → f y ≡ f x → map f xs ≡ take i told → map f (xs ++ y ∷ []) ≡ take (i + 1) told
  front_more xs i x y h e same so =
      let at = read_at i x h e in
      map-append f xs (y ∷ []) ∙ (λ j. so j ++ (same ∙ at.1) j ∷ []) ∙ sym (take_more told i (f x) at.0)
