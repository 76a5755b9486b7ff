-- Methods, three lines at a time.
use Rattle.std.proofs.Common.{◌≡◌, ◌≤◌, ◌<◌, ◌+◌, ◌++◌, ℕ, List, [], ◌∷◌, Option, Some, None, option_map, length, drop, get_or, take, ◌-◌, Bor, length-drop, cond, codes, Bool, true, false, append-nil, refl, sym, ap, ◌∙◌, append_assoc, arith}
use Rattle.std.specs.Option.{option_and_then}
use Rattle.std.specs.Str.{bytes_eq}
use Rattle.zw_def_thin.specs.ClassFile.{Method, method_of, methods_of}
use Rattle.std.proofs.lemmas.List.{take_all, length-map}
use Rattle.zw_lemmas.proofs.ListLemmas.{drop-at}
use Rattle.zw_thin.specs.Lines.{is_last_end, lines_seen}

-- methods in front of those that the other lines have
abbrev pub with_front : List Method → Option (List Method) → Option (List Method)
with_front found more = option_map (λ methods. found ++ methods) more

three : {A : Type 0} (xs : List A) (at : ℕ) (d : A) → at + 2 < length xs → drop at xs ≡ get_or xs at d ∷ get_or xs (at + 1) d ∷ get_or xs (at + 2) d ∷ drop (at + 3) xs
three xs at d within =
    drop-at xs at (at + 1) d (omega arith) (omega arith)
    ∙ ap (λ l. get_or xs at d ∷ l) (drop-at xs (at + 1) (at + 2) d (omega arith) (omega arith))
    ∙ ap (λ l. get_or xs at d ∷ get_or xs (at + 1) d ∷ l) (drop-at xs (at + 2) (at + 3) d (omega arith) (omega arith))

three_lines : (x y z : List ℕ) (rest : List (List ℕ)) (o : Option Method) → method_of x y z ≡ o → methods_of (x ∷ y ∷ z ∷ rest) ≡ option_and_then (λ m. option_map (λ methods. m ∷ methods) (methods_of rest)) o
three_lines x y z rest o is = ap (option_and_then (λ m. option_map (λ methods. m ∷ methods) (methods_of rest))) is

front_more : (found : List Method) (m : Method) (o : Option (List Method)) → with_front found (option_map (λ methods. m ∷ methods) o) ≡ with_front (found ++ m ∷ []) o
front_more found m None = refl
front_more found m (Some methods) = ap Some (sym (append_assoc found (m ∷ []) methods))

pub methods_step : (ls : List (List ℕ)) (found : List Method) (x y z : List ℕ) (rest : List (List ℕ)) (m : Method) → ls ≡ x ∷ y ∷ z ∷ rest → method_of x y z ≡ Some m → with_front found (methods_of ls) ≡ with_front (found ++ m ∷ []) (methods_of rest)
methods_step ls found x y z rest m front is =
    ap (λ l. with_front found (methods_of l)) front ∙ ap (with_front found) (three_lines x y z rest (Some m) is) ∙ front_more found m (methods_of rest)

pub methods_none : (ls : List (List ℕ)) (found : List Method) (x y z : List ℕ) (rest : List (List ℕ)) → ls ≡ x ∷ y ∷ z ∷ rest → method_of x y z ≡ None → with_front found (methods_of ls) ≡ None
methods_none ls found x y z rest front is =
    ap (λ l. with_front found (methods_of l)) front ∙ ap (with_front found) (three_lines x y z rest None is)

last_by : (found : List Method) (t : Bool) → with_front found (cond t (Some []) None) ≡ cond t (Some found) None
last_by found true = ap Some (append-nil found)
last_by found false = refl

pub methods_last : (ls : List (List ℕ)) (found : List Method) → length ls ≤ 2 → with_front found (methods_of ls) ≡ cond (is_last_end ls) (Some found) None
methods_last [] found few = refl
methods_last (l ∷ []) found few = last_by found (bytes_eq l (codes "end"))
methods_last (l ∷ m ∷ []) found few = refl
methods_last (l ∷ m ∷ n ∷ more) found few = absurd (omega arith)

-- one turn of the reader
pub one_more : (lines : List (Bor (List ℕ))) (at : ℕ) (d : Bor (List ℕ)) (found : List Method) (m : Method) → at + 2 < length lines → Some m ≡ method_of (get_or lines at d).now (get_or lines (at + 1) d).now (get_or lines (at + 2) d).now → with_front (found ++ m ∷ []) (methods_of (lines_seen (drop (at + 3) lines))) ≡ with_front found (methods_of (lines_seen (drop at lines)))
one_more lines at d found m within is = sym (methods_step _ found _ _ _ _ m (ap lines_seen (three lines at d within)) (sym is))

pub none_more : (lines : List (Bor (List ℕ))) (at : ℕ) (d : Bor (List ℕ)) (found : List Method) → at + 2 < length lines → None ≡ method_of (get_or lines at d).now (get_or lines (at + 1) d).now (get_or lines (at + 2) d).now → None ≡ with_front found (methods_of (lines_seen (drop at lines)))
none_more lines at d found within is = sym (methods_none _ found _ _ _ _ (ap lines_seen (three lines at d within)) (sym is))

-- the end of the reader
pub at_end : (lines : List (Bor (List ℕ))) (at : ℕ) (found : List Method) (t : Bool) → length lines ≤ at + 2 → t ≡ is_last_end (lines_seen (take (length lines - at) (drop at lines))) → cond t (Some found) None ≡ with_front found (methods_of (lines_seen (drop at lines)))
at_end lines at found t few is =
    let same : take (length lines - at) (drop at lines) ≡ drop at lines = take_all (length lines - at) (drop at lines) (omega (arith, length-drop at lines)) in
    ap (λ b. cond b (Some found) None) (is ∙ ap (λ ls. is_last_end (lines_seen ls)) same)
    ∙ sym (methods_last (lines_seen (drop at lines)) found (omega (arith, length-map (drop at lines) (λ (l : Bor (List ℕ)). l.now), length-drop at lines)))
