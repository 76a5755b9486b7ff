-- What a level makes, turn by turn.
use Rattle.std.proofs.Common.{◌≡◌, ◌<◌, Bool, true, false, ◌&&◌, if◌then◌else◌, List, [], ◌∷◌, ◌++◌, length, Option, Some, None, option_map, refl, sym, ap, ◌∙◌, rules, arith}
use Rattle.std.specs.Option.{option_and_then}
use Rattle.std.proofs.lemmas.List.{map-append, length-map}
use Rattle.zw_def.specs.Text.{Text}
use Rattle.zw_def_syntax.specs.Tree.{Tree, Grown, over_both}
use Rattle.zw_def_syntax.specs.Levels as l
use Rattle.zw_def_syntax.specs.Levels.{Level, Operand, Chain, before, join, joined_from, joined_by, is_of, stands_alone, folded, or_level, and_level, equal_level, compare_level, sum_level, term_level}
use Rattle.zw_expr.specs.declared.operand.Operand as code
use Rattle.zw_expr.specs.Operand.{level_sign, operand_seen, operands_seen}
use Rattle.zw_expr.specs.Joined.{operands_of, paired, with_joined, with_last_joined, turn_of, resumed, joined, tight, loose, only, whole_of}

-- ---- the last of the operands

pub last_joined : (sign : Text) (front : List Operand) (o : Operand) (right : Grown Tree)
    → with_last_joined sign (front ++ o ∷ []) right ≡ option_map (λ p. front ++ p ∷ []) (with_joined sign o right)
unfolding with_last_joined
last_joined sign [] o right = refl
last_joined sign (f ∷ []) o right = onto (with_joined sign o right)
  where
    onto : (x : Option Operand) → option_map (λ all. f ∷ all) (option_map (λ p. p ∷ []) x) ≡ option_map (λ p. f ∷ p ∷ []) x
    onto None = refl
    onto (Some p) = refl
last_joined sign (f ∷ g ∷ front) o right =
    ap (option_map (λ all. f ∷ all)) (last_joined sign (g ∷ front) o right) ∙ onto (with_joined sign o right)
  where
    onto : (x : Option Operand) → option_map (λ all. f ∷ all) (option_map (λ p. g ∷ front ++ p ∷ []) x) ≡ option_map (λ p. f ∷ g ∷ front ++ p ∷ []) x
    onto None = refl
    onto (Some p) = refl

never_empty : (sign : Text) (ps : List Operand) (right : Grown Tree) → with_last_joined sign ps right ≡ Some [] → ⊥
unfolding with_last_joined
never_empty sign [] right e = cc
never_empty sign (o ∷ []) right e = one (with_joined sign o right) e
  where
    one : (x : Option Operand) → option_map (λ p. p ∷ []) x ≡ Some [] → ⊥
    one None e = cc
    one (Some p) e = cc
never_empty sign (o ∷ p ∷ os) right e = more (with_last_joined sign (p ∷ os) right) e
  where
    more : (x : Option (List Operand)) → option_map (λ all. o ∷ all) x ≡ Some [] → ⊥
    more None e = cc
    more (Some all) e = cc

-- the same of the code's operands
pub last_goes : (names : List Text) (sign : Text) (old front : List code.Operand) (last made : code.Operand) (right : Grown Tree)
    → old ≡ front ++ last ∷ [] → with_joined sign (operand_seen names last) right ≡ Some (operand_seen names made)
    → with_last_joined sign (operands_seen names old) right ≡ Some (operands_seen names (front ++ made ∷ []))
last_goes names sign old front last made right split e =
    ap (λ os. with_last_joined sign (operands_seen names os) right) split
    ∙ ap (λ os. with_last_joined sign os right) (map-append (operand_seen names) front (last ∷ []))
    ∙ last_joined sign (operands_seen names front) (operand_seen names last) right
    ∙ ap (option_map (λ p. operands_seen names front ++ p ∷ [])) e
    ∙ ap Some (sym (map-append (operand_seen names) front (made ∷ [])))

pub last_fails : (names : List Text) (sign : Text) (old front : List code.Operand) (last : code.Operand) (right : Grown Tree)
    → old ≡ front ++ last ∷ [] → with_joined sign (operand_seen names last) right ≡ None
    → with_last_joined sign (operands_seen names old) right ≡ None
last_fails names sign old front last right split e =
    ap (λ os. with_last_joined sign (operands_seen names os) right) split
    ∙ ap (λ os. with_last_joined sign os right) (map-append (operand_seen names) front (last ∷ []))
    ∙ last_joined sign (operands_seen names front) (operand_seen names last) right
    ∙ ap (option_map (λ p. operands_seen names front ++ p ∷ [])) e

-- a sign of the level is the one before the operand
pub level_sign_is : (level : Level) (sign found : Text) → Some found ≡ level_sign level sign → found ≡ sign
level_sign_is level sign found e = at (is_of level sign) e
  where
    at : (mine : Bool) → Some found ≡ (if mine then Some sign else None) → found ≡ sign
    at true e = search (rules, e)
    at false e = cc

-- ---- one turn

-- another sign stands before the operand: the last one is done
passes : (level : Level) (made : Bool) (done : List Operand) (b : Operand) (rest : List Operand) → 0 < length done
    → is_of level b.sign ≡ false → resumed level made done (b ∷ rest) ≡ resumed level false (done ++ b ∷ []) rest
unfolding resumed joined_from
passes level made [] b rest some other = absurd (omega (arith, some))
passes level made (o ∷ []) b rest some other = rw other (onto (joined_from level false b.value rest))
  where
    onto : (x : Option Chain) → option_map (operands_of o) (option_map (λ c. before o.value b.sign c) x) ≡ option_map (λ all. o ∷ all) (option_map (operands_of b) x)
    onto None = refl
    onto (Some c) = refl
passes level made (o ∷ p ∷ os) b rest some other = ap (option_map (λ all. o ∷ all)) (passes level made (p ∷ os) b rest (omega arith) other)

-- a sign of the level stands before it
joins : (level : Level) (made : Bool) (done : List Operand) (b : Operand) (rest : List Operand) → 0 < length done
    → is_of level b.sign ≡ true → (made && stands_alone level) ≡ false
    → resumed level made done (b ∷ rest) ≡ option_and_then (λ os. resumed level true os rest) (with_last_joined b.sign done b.value)
unfolding resumed joined_from with_last_joined
joins level made [] b rest some mine once = absurd (omega (arith, some))
joins level made (o ∷ []) b rest some mine once = rw mine (rw once (onto (over_both (join b.sign) o.value b.value)))
  where
    onto : (x : Option (Grown Tree)) → option_map (operands_of o) (option_and_then (λ w. joined_from level true w rest) x)
        ≡ option_and_then (λ os. resumed level true os rest) (option_map (λ p. p ∷ []) (option_map (λ w. record o { value = w }) x))
    onto None = refl
    onto (Some w) = refl
joins level made (o ∷ p ∷ os) b rest some mine once =
    ap (option_map (λ all. o ∷ all)) (joins level made (p ∷ os) b rest (omega arith) mine once) ∙ over (p ∷ os) (omega arith)
  where
    over : (ps : List Operand) → 0 < length ps → option_map (λ all. o ∷ all) (option_and_then (λ qs. resumed level true qs rest) (with_last_joined b.sign ps b.value))
        ≡ option_and_then (λ qs. resumed level true qs rest) (option_map (λ all. o ∷ all) (with_last_joined b.sign ps b.value))
    over ps some = onto (with_last_joined b.sign ps b.value) refl
      where
        onto : (x : Option (List Operand)) → with_last_joined b.sign ps b.value ≡ x → option_map (λ all. o ∷ all) (option_and_then (λ qs. resumed level true qs rest) x)
            ≡ option_and_then (λ qs. resumed level true qs rest) (option_map (λ all. o ∷ all) x)
        onto None e = refl
        onto (Some []) e = absurd (never_empty b.sign ps b.value e)
        onto (Some (q ∷ qs)) e = refl

module _ (level : Level) (made : Bool) (done : List Operand) (b : Operand) (rest : List Operand) (some : 0 < length done) where
  joined_goes : (m : Bool) (os : List Operand) → is_of level b.sign ≡ true → (made && stands_alone level) ≡ false
      → option_map (paired true) (with_last_joined b.sign done b.value) ≡ Some (paired m os)
      → resumed level made done (b ∷ rest) ≡ resumed level m os rest
  joined_goes m os mine once e = joins level made done b rest some mine once ∙ at (with_last_joined b.sign done b.value) e
    where
      at : (x : Option (List Operand)) → option_map (paired true) x ≡ Some (paired m os)
          → option_and_then (λ all. resumed level true all rest) x ≡ resumed level m os rest
      at None e = cc
      at (Some all) e = let p : paired true all ≡ paired m os = search (rules, e) in ap (λ q. resumed level q.1 q.0 rest) p

  joined_fails : is_of level b.sign ≡ true → (made && stands_alone level) ≡ false
      → option_map (paired true) (with_last_joined b.sign done b.value) ≡ None → resumed level made done (b ∷ rest) ≡ None
  joined_fails mine once e = joins level made done b rest some mine once ∙ at (with_last_joined b.sign done b.value) e
    where
      at : (x : Option (List Operand)) → option_map (paired true) x ≡ None
          → option_and_then (λ all. resumed level true all rest) x ≡ None
      at None e = refl
      at (Some all) e = cc

repeated_fails : (level : Level) (made : Bool) (done : List Operand) (b : Operand) (rest : List Operand) → 0 < length done
    → is_of level b.sign ≡ true → (made && stands_alone level) ≡ true → resumed level made done (b ∷ rest) ≡ None
unfolding resumed joined_from
repeated_fails level made [] b rest some mine twice = absurd (omega (arith, some))
repeated_fails level made (o ∷ []) b rest some mine twice = rw mine (rw twice refl)
repeated_fails level made (o ∷ p ∷ os) b rest some mine twice = rw (repeated_fails level made (p ∷ os) b rest (omega arith) mine twice) refl

abbrev flagged : Bool → Bool → Option (List Operand × Bool) → Option (List Operand × Bool) → Option (List Operand × Bool)
flagged mine twice on over = if mine then (if twice then None else on) else over

pub turn_goes : (level : Level) (made m : Bool) (done os : List Operand) (b : Operand) (rest : List Operand) → 0 < length done
    → turn_of level made done b ≡ Some (paired m os) → resumed level made done (b ∷ rest) ≡ resumed level m os rest
unfolding turn_of
turn_goes level made m done os b rest some e = at (is_of level b.sign) (made && stands_alone level) refl refl e
  where
    at : (mine twice : Bool) → is_of level b.sign ≡ mine → (made && stands_alone level) ≡ twice
        → flagged mine twice (option_map (paired true) (with_last_joined b.sign done b.value)) (Some (paired false (done ++ b ∷ []))) ≡ Some (paired m os)
        → resumed level made done (b ∷ rest) ≡ resumed level m os rest
    at true true is t e = cc
    at true false is t e = joined_goes level made done b rest some m os is t e
    at false twice is t e =
        let p : paired false (done ++ b ∷ []) ≡ paired m os = search (rules, e) in
        passes level made done b rest some is ∙ ap (λ q. resumed level q.1 q.0 rest) p

pub turn_fails : (level : Level) (made : Bool) (done : List Operand) (b : Operand) (rest : List Operand) → 0 < length done
    → turn_of level made done b ≡ None → resumed level made done (b ∷ rest) ≡ None
unfolding turn_of
turn_fails level made done b rest some e = at (is_of level b.sign) (made && stands_alone level) refl refl e
  where
    at : (mine twice : Bool) → is_of level b.sign ≡ mine → (made && stands_alone level) ≡ twice
        → flagged mine twice (option_map (paired true) (with_last_joined b.sign done b.value)) (Some (paired false (done ++ b ∷ []))) ≡ None
        → resumed level made done (b ∷ rest) ≡ None
    at true true is t e = repeated_fails level made done b rest some is t
    at true false is t e = joined_fails level made done b rest some is t e
    at false twice is t e = cc

-- the same of the code's operands
module _ (names : List Text) (level : Level) (made : Bool) where
  pub turned_goes : (m : Bool) (done next rest left : List code.Operand) (b : code.Operand) → rest ≡ b ∷ left → 0 < length done
      → turn_of level made (operands_seen names done) (operand_seen names b) ≡ Some (paired m (operands_seen names next))
      → resumed level made (operands_seen names done) (operands_seen names rest) ≡ resumed level m (operands_seen names next) (operands_seen names left)
  turned_goes m done next rest left b split some e =
      ap (λ os. resumed level made (operands_seen names done) (operands_seen names os)) split
      ∙ turn_goes level made m (operands_seen names done) (operands_seen names next) (operand_seen names b) (operands_seen names left)
      (omega (arith, some, length-map done (operand_seen names))) e

  pub turned_fails : (done rest left : List code.Operand) (b : code.Operand) → rest ≡ b ∷ left → 0 < length done
      → turn_of level made (operands_seen names done) (operand_seen names b) ≡ None
      → resumed level made (operands_seen names done) (operands_seen names rest) ≡ None
  turned_fails done rest left b split some e =
      ap (λ os. resumed level made (operands_seen names done) (operands_seen names os)) split
      ∙ turn_fails level made (operands_seen names done) (operand_seen names b) (operands_seen names left)
      (omega (arith, some, length-map done (operand_seen names))) e

-- nothing is left
pub level_ends : (level : Level) (made : Bool) (done : List Operand) → resumed level made done [] ≡ Some done
unfolding resumed joined_from
level_ends level made [] = refl
level_ends level made (o ∷ []) = refl
level_ends level made (o ∷ p ∷ os) = rw (level_ends level made (p ∷ os)) refl

-- ---- all levels

-- the operands of a chain are those that a level makes of its operands
joined_chain : (level : Level) (first : Operand) (more : List Operand)
    → joined level (first ∷ more) ≡ option_map (operands_of first) (l.joined level (record { first = first.value; more = more }))
unfolding resumed
joined_chain level first more = refl

pub folded_by_levels : (os : List Operand) → option_and_then only (option_and_then loose (tight os)) ≡ whole_of os
unfolding folded resumed
folded_by_levels [] = refl
folded_by_levels (o ∷ os) = by_term (l.joined term_level (record { first = o.value; more = os }))
  where
    by_or : (x : Option Chain) → option_and_then only (option_map (operands_of o) x) ≡ option_and_then (λ c. l.only_operand c.first c.more) x
    by_or None = refl
    by_or (Some c) = at c.more
      where
        at : (more : List Operand) → only (record { sign = o.sign; value = c.first } ∷ more) ≡ l.only_operand c.first more
        at [] = refl
        at (p ∷ ps) = refl

    by_and : (x : Option Chain) → option_and_then only (option_and_then (joined or_level) (option_map (operands_of o) x))
        ≡ option_and_then (λ c. l.only_operand c.first c.more) (option_and_then (l.joined or_level) x)
    by_and None = refl
    by_and (Some c) = by_or (l.joined or_level c)

    by_equal : (x : Option Chain) → option_and_then only (option_and_then (joined or_level) (option_and_then (joined and_level) (option_map (operands_of o) x)))
        ≡ option_and_then (λ c. l.only_operand c.first c.more) (option_and_then (l.joined or_level) (option_and_then (l.joined and_level) x))
    by_equal None = refl
    by_equal (Some c) = by_and (l.joined and_level c)

    by_compare : (x : Option Chain) → option_and_then only (option_and_then loose (option_map (operands_of o) x))
        ≡ option_and_then (λ c. l.only_operand c.first c.more) (option_and_then (l.joined or_level) (option_and_then (l.joined and_level) (option_and_then (l.joined equal_level) x)))
    by_compare None = refl
    by_compare (Some c) = by_equal (l.joined equal_level c)

    by_sum : (x : Option Chain) → option_and_then only (option_and_then loose (option_and_then (joined compare_level) (option_map (operands_of o) x)))
        ≡ option_and_then (λ c. l.only_operand c.first c.more) (option_and_then (l.joined or_level) (option_and_then (l.joined and_level) (option_and_then (l.joined equal_level) (option_and_then (l.joined compare_level) x))))
    by_sum None = refl
    by_sum (Some c) = by_compare (l.joined compare_level c)

    by_term : (x : Option Chain) → option_and_then only (option_and_then loose (option_and_then (joined compare_level) (option_and_then (joined sum_level) (option_map (operands_of o) x))))
        ≡ option_and_then (λ c. l.only_operand c.first c.more) (option_and_then (l.joined or_level) (option_and_then (l.joined and_level) (option_and_then (l.joined equal_level) (option_and_then (l.joined compare_level) (option_and_then (l.joined sum_level) x)))))
    by_term None = refl
    by_term (Some c) = by_sum (l.joined sum_level c)

pub folded_goes : (os tighter looser : List Operand) → tight os ≡ Some tighter → loose tighter ≡ Some looser → whole_of os ≡ only looser
folded_goes os tighter looser t l =
    sym (folded_by_levels os) ∙ ap (λ x. option_and_then only (option_and_then loose x)) t ∙ ap (option_and_then only) l

pub folded_fails : (os : List Operand) → tight os ≡ None → whole_of os ≡ None
folded_fails os t = sym (folded_by_levels os) ∙ ap (λ x. option_and_then only (option_and_then loose x)) t

pub folded_ends : (os tighter : List Operand) → tight os ≡ Some tighter → loose tighter ≡ None → whole_of os ≡ None
folded_ends os tighter t l =
    sym (folded_by_levels os) ∙ ap (λ x. option_and_then only (option_and_then loose x)) t ∙ ap (option_and_then only) l
