-- The tests of arguments, told by a list of kinds and how many of them are required.
use Rattle.std.proofs.Common.{◌≡◌, ℕ, ◌+◌, ◌≤◌, Bool, true, false, ◌&&◌, List, ◌++◌, length, map, take, drop, None, sym, ap, ◌∙◌, cond, nat_le}
use Rattle.std.proofs.lemmas.List.{length-map, length-take-le, map-append, take-append-drop, length-append}
use Rattle.zw_def_world.specs.Act.{Act}
use Rattle.zw_def_world.specs.Argument as defined
use Rattle.zw_def_world.specs.Fault.{wrong_number}
use Rattle.zw_def_world.specs.Site.{kinds_tested, tested}
use Rattle.zw_def_world.specs.Value.{Value}

module _ {K : Type 0} (f : K → defined.Kind) (least : ℕ) (kinds : List K) (few : least ≤ length kinds) where
  least-is : length (map f (take least kinds)) ≡ least
  least-is = length-map (take least kinds) f ∙ length-take-le least kinds few

  together : map f (take least kinds) ++ map f (drop least kinds) ≡ map f kinds
  together = sym (map-append f (take least kinds) (drop least kinds)) ∙ ap (map f) (take-append-drop least kinds)

  most-is : length (map f (take least kinds)) + length (map f (drop least kinds)) ≡ length kinds
  most-is = sym (length-append (map f (take least kinds)) (map f (drop least kinds))) ∙ ap length together ∙ length-map kinds f

  pub tested-is : (compares : Bool) (r : Value) (vs : List Value) (act : Act) → tested (record { required = map f (take least kinds); optional = map f (drop least kinds); rest = None; compares = compares }) r vs act ≡ cond (nat_le least (length vs) && nat_le (length vs) (length kinds)) (kinds_tested compares r None (map f kinds) vs act) (wrong_number (length vs) least (length kinds) false)
  tested-is compares r vs act = λ i.
      cond (nat_le (least-is i) (length vs) && nat_le (length vs) (most-is i)) (kinds_tested compares r None (together i) vs act) (wrong_number (length vs) (least-is i) (most-is i) false)

  abbrev taken : Bool → defined.Arguments
  taken compares = record { required = map f (take least kinds); optional = map f (drop least kinds); rest = None; compares = compares }

  module _ (compares : Bool) (r : Value) (vs : List Value) (n : ℕ) (act : Act) (len : length vs ≡ n) where
    pub tested-refused : (nat_le least n && nat_le n (length kinds)) ≡ false → tested (taken compares) r vs act ≡ wrong_number n least (length kinds) false
    tested-refused other =
        tested-is compares r vs act
        ∙ ap (λ m. cond (nat_le least m && nat_le m (length kinds)) (kinds_tested compares r None (map f kinds) vs act) (wrong_number m least (length kinds) false)) len
        ∙ ap (λ b. cond b (kinds_tested compares r None (map f kinds) vs act) (wrong_number n least (length kinds) false)) other

    pub tested-taken : (nat_le least n && nat_le n (length kinds)) ≡ true → tested (taken compares) r vs act ≡ kinds_tested compares r None (map f kinds) vs act
    tested-taken is =
        tested-is compares r vs act
        ∙ ap (λ m. cond (nat_le least m && nat_le m (length kinds)) (kinds_tested compares r None (map f kinds) vs act) (wrong_number m least (length kinds) false)) len
        ∙ ap (λ b. cond b (kinds_tested compares r None (map f kinds) vs act) (wrong_number n least (length kinds) false)) is
