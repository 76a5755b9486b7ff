-- A text tells a path exactly where it has no fault.
use Rattle.std.proofs.Common.{◌≡◌, ◌↔◌, ℕ, ◌<◌, ◌≤◌, zero, suc, Bool, true, false, not, ◌&&◌, cond, eqb, leb, List, [], ◌∷◌, ◌++◌, length, get_or, take, Option, Some, None, IsSome, refl, ap, sym, ◌∙◌, arith}
use Rattle.std.specs.List.{list_all}
use Rattle.std.specs.Option.{option_or, is_some}
use Rattle.std.proofs.lemmas.Bool.{le-leb, and_parts}
use Rattle.zw_def.specs.Text.{Text}
use Rattle.zw_def.specs.Path.{Path, is_dots, is_component, is_component_byte, components, path_of}
use Rattle.zw_path.specs.BadPath.{is_empty, begins_with_slash, bad_component, first_bad, bad_path}
use Rattle.zw_path.specs.declared.bad_path.BadPath.{BadPath}
use Rattle.zw_path.specs.declared.bad_path.BadPath.TheVariants.{Empty, Dots, Absolute, BadChar}

both_none : (o p : Option BadPath) → option_or o p ≡ None → (o ≡ None) × (p ≡ None)
both_none None p e = (refl, e)
both_none (Some x) p e = cc

-- the first piece with a fault is at the place n
pub first_bad_at : (all : List Text) (n : ℕ) (text : Text) (fault : BadPath) → n < length all → text ≡ get_or all n text → first_bad (take n all) ≡ None → bad_component text ≡ Some fault → first_bad all ≡ Some fault
first_bad_at [] n text fault h e so f = absurd (omega arith)
first_bad_at (t ∷ ts) zero text fault h e so f = ap (λ x. option_or (bad_component x) (first_bad ts)) (sym e) ∙ ap (λ o. option_or o (first_bad ts)) f
first_bad_at (t ∷ ts) (suc n) text fault h e so f =
    let both = both_none (bad_component t) (first_bad (take n ts)) so in
    ap (λ o. option_or o (first_bad ts)) both.0 ∙ first_bad_at ts n text fault (omega arith) e both.1 f

-- one more piece without a fault
pub first_bad_more : (all : List Text) (text : Text) → first_bad all ≡ None → bad_component text ≡ None → first_bad (all ++ text ∷ []) ≡ None
first_bad_more [] text so e = ap (λ o. option_or o None) e
first_bad_more (t ∷ ts) text so e =
    let both = both_none (bad_component t) (first_bad ts) so in
    ap (λ o. option_or o (first_bad (ts ++ text ∷ []))) both.0 ∙ first_bad_more ts text both.1 e

component_from_bad : (text : Text) → bad_component text ≡ None → is_component text ≡ true
component_from_bad text = chosen (is_empty text) (is_dots text) (is_component text) where
  chosen : (a b c : Bool) → cond a (Some Empty) (cond b (Some Dots) (cond c None (Some BadChar))) ≡ None → c ≡ true
  chosen true b c e = cc
  chosen false true c e = cc
  chosen false false true e = refl
  chosen false false false e = cc

pub whole_from_bad : (all : List Text) → first_bad all ≡ None → list_all is_component all ≡ true
whole_from_bad [] e = refl
whole_from_bad (t ∷ ts) e =
    let both = both_none (bad_component t) (first_bad ts) e in
    λ i. component_from_bad t both.0 i && whole_from_bad ts both.1 i

no_dots : (a b d c : Bool) → (a && b && not d && c) ≡ true → d ≡ false
no_dots a b false c e = refl
no_dots true true true c e = cc
no_dots true false true c e = cc
no_dots false b true c e = cc

bad_from_component : (text : Text) → is_component text ≡ true → bad_component text ≡ None
bad_from_component [] e = cc
bad_from_component (b ∷ bs) e =
    λ i. cond (no_dots (leb 1 (length (b ∷ bs))) (leb (length (b ∷ bs)) 255) (is_dots (b ∷ bs)) (list_all is_component_byte (b ∷ bs)) e i) (Some Dots) (cond (e i) None (Some BadChar))

bad_from_whole : (all : List Text) → list_all is_component all ≡ true → first_bad all ≡ None
bad_from_whole [] e = refl
bad_from_whole (t ∷ ts) e =
    let both = and_parts (is_component t) (list_all is_component ts) e in
    (λ i. option_or (bad_from_component t both.0 i) (first_bad ts)) ∙ bad_from_whole ts both.1

relative : (text : Text) → list_all is_component (components text) ≡ true → begins_with_slash text ≡ false
relative [] e = refl
relative (b ∷ bs) e = chosen (eqb b 47) _ _ e where
  chosen : (s : Bool) (parts others : List Text) → list_all is_component (cond s ([] ∷ parts) others) ≡ true → s ≡ false
  chosen true parts others e = cc
  chosen false parts others e = refl

-- the tests of a component, one by one
pub component_tests : (text : Text) → 0 < length text → length text ≤ 255 → is_dots text ≡ false → list_all is_component_byte text ≡ is_component text
component_tests text some few plain =
    λ i. sym (le-leb 1 (length text) (omega arith)) i && sym (le-leb (length text) 255 few) i && not (sym plain i) && list_all is_component_byte text

begins_first : (text : Text) → begins_with_slash text ≡ eqb (get_or text 0 0) 47
begins_first [] = refl
begins_first (b ∷ bs) = refl

-- past the leading `/`, the fault is that of the components
pub bad_path_relative : (text : Text) → false ≡ eqb (get_or text 0 0) 47 → bad_path text ≡ first_bad (components text)
bad_path_relative text e = ap (λ s. cond s (Some Absolute) (first_bad (components text))) (begins_first text ∙ sym e)

pub path_of_whole : (text : Text) (path : Path) → path ≡ components text → first_bad (components text) ≡ None → path_of text ≡ Some path
path_of_whole text path e f = (λ i. cond (whole_from_bad (components text) f i) (Some (components text)) None) ∙ ap Some (sym e)

-- a text has no fault exactly where it tells a path
pub faultless : (text : Text) → (bad_path text ≡ None) ↔ IsSome (path_of text)
faultless text = (there (begins_with_slash text), back (list_all is_component (components text)) refl) where
  there : (s : Bool) → cond s (Some Absolute) (first_bad (components text)) ≡ None → IsSome (path_of text)
  there true e = cc
  there false e = λ i. is_some (cond (whole_from_bad (components text) e i) (Some (components text)) None)

  back : (w : Bool) → list_all is_component (components text) ≡ w → IsSome (cond w (Some (components text)) None) → bad_path text ≡ None
  back true e h = (λ i. cond (relative text e i) (Some Absolute) (bad_from_whole (components text) e i))
  back false e h = cc

path_by : (text : Text) (bad : BadPath) (o : Option Path) → path_of text ≡ o → bad_path text ≡ Some bad → path_of text ≡ None
path_by text bad None is has = is
path_by text bad (Some path) is has =
    let none : bad_path text ≡ None = (faultless text).1 (rw is refl) in
    absurd (cc)

-- a text that has a fault tells no path
pub no_path : (text : Text) (bad : BadPath) → bad_path text ≡ Some bad → path_of text ≡ None
no_path text bad has = path_by text bad (path_of text) refl has
