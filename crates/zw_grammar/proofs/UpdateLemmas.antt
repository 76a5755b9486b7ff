-- The sign after a variable that is updated.
use Rattle.std.proofs.Common.{◌≡◌, Bool, true, false, ◌&&◌, ◌||◌, List, [], ◌∷◌, refl, ap, sym, ◌∙◌}
use Rattle.std.specs.Prelude.{codes, Option, Some, None, option_map}
use Rattle.std.specs.Option.{option_map_or}
use Rattle.std.specs.Str.{bytes_eq}
use Rattle.zw_def.specs.Text.{Text}
use Rattle.zw_def_syntax.specs.Token.{Kind, Token, newline, identifier, constant, integer, instance_variable, class_variable, symbol, text, text_begin, text_middle, text_end, keyword, sign}
use Rattle.zw_def_syntax.specs.Input.{Input, is_plain, is_sign_of, kind_is, learn, next, token_at}
use Rattle.zw_def_syntax.specs.Grammar.{is_update, update_next}

second_of : (a b : Bool) → (a && b) ≡ true → b ≡ true
second_of true b e = e
second_of false b e = cc

longer : (a b c d e more : Bool) → (a || (b || (c || (d || (e || false))))) ≡ true → (a || (b || (c || (d || (e || more))))) ≡ true
longer true b c d e more h = refl
longer false true c d e more h = refl
longer false false true d e more h = refl
longer false false false true e more h = refl
longer false false false false true more h = refl
longer false false false false false more h = cc

is_any : (op : Kind) → is_sign_of "+= -= *= /= %=" op ≡ true → is_sign_of "+= -= *= /= %= ||= &&=" op ≡ true
is_any newline e = cc
is_any (identifier x) e = cc
is_any (constant x) e = cc
is_any (integer n) e = cc
is_any (instance_variable x) e = cc
is_any (class_variable x) e = cc
is_any (symbol x) e = cc
is_any (text t) e = cc
is_any (text_begin t) e = cc
is_any (text_middle t) e = cc
is_any (text_end t) e = cc
is_any (keyword k) e = cc
is_any (sign s) e =
    longer (bytes_eq s (codes "+=")) (bytes_eq s (codes "-=")) (bytes_eq s (codes "*=")) (bytes_eq s (codes "/="))
    (bytes_eq s (codes "%=")) (bytes_eq s (codes "||=") || (bytes_eq s (codes "&&=") || false)) e

updates : (target op : Kind) → is_update target op ≡ true → is_sign_of "+= -= *= /= %= ||= &&=" op ≡ true
updates newline op e = cc
updates (identifier x) op e = second_of (is_plain x) _ e
updates (constant x) op e = cc
updates (integer n) op e = cc
updates (instance_variable x) op e = e
updates (class_variable x) op e = is_any op e
updates (symbol x) op e = cc
updates (text t) op e = cc
updates (text_begin t) op e = cc
updates (text_middle t) op e = cc
updates (text_end t) op e = cc
updates (keyword k) op e = cc
updates (sign s) op e = cc

pub sign_after_target : (i : Input) → update_next i ≡ true → kind_is (is_sign_of "+= -= *= /= %= ||= &&=") 0 (next i) ≡ true
unfolding token_at next
sign_after_target i e = at i.rest e
  where
    at : (rest : List Token) → update_next (record i { rest = rest }) ≡ true
        → kind_is (is_sign_of "+= -= *= /= %= ||= &&=") 0 (next (record i { rest = rest })) ≡ true
    at [] e = cc
    at (t ∷ []) e = cc
    at (t ∷ u ∷ more) e = updates t.kind u.kind e

rest_of : Option (Unit {0} × Input) → List Token
rest_of (Some p) = p.1.rest
rest_of None = []

-- a variable that becomes known changes nothing of the tokens
pub after_learn : (test : Kind → Bool) (x : Text) (i j : Input) (u : Unit {0}) → learn x i ≡ Some (u, j) → kind_is test 0 i ≡ true → kind_is test 0 j ≡ true
unfolding learn token_at rest_of
after_learn test x i j u e holds =
    let same : j.rest ≡ i.rest = sym (ap rest_of e) in
    ap (λ ts. option_map_or test (option_map (λ t. t.kind) (token_at 0 (record i { rest = ts }))) false) same ∙ holds
