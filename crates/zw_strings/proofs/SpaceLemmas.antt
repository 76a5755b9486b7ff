-- Texts without white space and NUL at their ends.
use Rattle.std.proofs.Common.{◌≡◌, ◌<◌, ◌≤◌, ◌-◌, ◌⊎◌, inl, inr, ℕ, Bool, true, false, List, [], ◌∷◌, ◌++◌, length, reverse, take, drop, get_or, cond, Option, Some, None, IfSome, encode_utf8, encode_utf8_all, IsUtf8, refl, sym, ap, subst, ◌∙◌, append-nil, append_assoc, take-append-drop, drop_of_length-le, length-append, arith}
use Rattle.std.specs.Char.{IsScalar, char_set_contains}
use Rattle.std.specs.Str.{all_scalars}
use Rattle.std.specs.Str.Pattern.{CutsPrefixes, CutsSuffixes, IsFullyTrimmed, FindsPrefixBy, FindsSuffixBy}
use Rattle.std.proofs.lemmas.Bool.{cases_lt, and_parts}
use Rattle.std.proofs.lemmas.Bool.Decides.{nat_tests}
use Rattle.std.proofs.lemmas.List.{reverse-append, reverse-reverse}
use Rattle.std.proofs.Math.Seq.{get_or-append_seam}
use Rattle.std.proofs.lemmas.Str.{encode_ascii, inside_one, length-encode, len_utf8_bounds, encodes-append}
use Rattle.zw_def.specs.Text.{Text}
use Rattle.zw_def_world.specs.StringRows.{is_space, without_spaces, stripped}

high_other : (b : ℕ) → 128 ≤ b → is_space b ≡ false
high_other b high = grind (arith, nat_tests)

space_low : (c : ℕ) → is_space c ≡ true → c < 128
space_low c space = by (cases_lt c 128)
  where
    by : (c < 128) ⊎ (128 ≤ c) → c < 128
    by (inl low) = low
    by (inr high) = let both : true ≡ false = sym space ∙ high_other c high in absurd (cc)

-- ---- at the begin

past : (c : ℕ) (rest : Text) → is_space c ≡ true → without_spaces (encode_utf8 c ++ rest) ≡ without_spaces rest
past c rest space = ap (λ t. without_spaces (t ++ rest)) (encode_ascii c (space_low c space)) ∙ ap (λ b. cond b (without_spaces rest) (c ∷ rest)) space

-- a byte of a character that is no space
byte_other : (c k : ℕ) (bs : Text) → encode_utf8 c ≡ bs → k < length bs → is_space c ≡ false → is_space (get_or bs k 0) ≡ false
byte_other c k bs is lt other = by (cases_lt (get_or bs k 0) 128)
  where
    by : (get_or bs k 0 < 128) ⊎ (128 ≤ get_or bs k 0) → is_space (get_or bs k 0) ≡ false
    by (inl low) =
        let same : c ≡ get_or bs k 0 = inside_one c [] bs k (sym is ∙ sym (append-nil (encode_utf8 c))) (subst (λ t. k < length t) (sym is) lt) low in
        ap is_space (sym same) ∙ other
    by (inr high) = high_other (get_or bs k 0) high

first_kept : (c : ℕ) (bs rest : Text) → encode_utf8 c ≡ bs → is_space c ≡ false → without_spaces (bs ++ rest) ≡ bs ++ rest
first_kept c [] rest is other = absurd (omega (arith, ap length is, length-encode c, len_utf8_bounds c))
first_kept c (b ∷ bs) rest is other = ap (λ t. cond t (without_spaces (bs ++ rest)) (b ∷ bs ++ rest)) (byte_other c 0 (b ∷ bs) is (omega arith) other)

begins_kept : (cs : List ℕ) (r : Text) → all_scalars cs ≡ true → encode_utf8_all cs ≡ r → FindsPrefixBy is_space r None → without_spaces r ≡ r
begins_kept [] r scalars is lacks = ap without_spaces (sym is) ∙ is
begins_kept (c ∷ cs) r scalars is lacks =
    ap without_spaces (sym is)
    ∙ first_kept c (encode_utf8 c) (encode_utf8_all cs) refl (lacks c (encode_utf8_all cs) (and_parts _ _ scalars).0 (sym is))
    ∙ is

module _ (R : Text → Option ℕ → Type 0) (gives : (s : Text) (o : Option ℕ) → R s o → FindsPrefixBy is_space s o) where
  cut_begin : (s : Text) (ns : List ℕ) (r : Text) → CutsPrefixes R s ns r → without_spaces s ≡ without_spaces r
  cut_begin s [] r cuts = ap without_spaces (sym cuts)
  cut_begin s (n ∷ ns) r cuts =
      let found = gives cuts.0 (Some n) cuts.2 in
      cut_begin s ns cuts.0 cuts.1
      ∙ ap without_spaces found.2.split ∙ past found.0 (drop n cuts.0) found.1 ∙ ap without_spaces (sym cuts.3)

  begin_done : (r : Text) → IsUtf8 r → IsFullyTrimmed R r → without_spaces r ≡ r
  begin_done r utf8 trimmed = by trimmed.0 (gives r trimmed.0 trimmed.1) trimmed.2
    where
      by : (o : Option ℕ) → FindsPrefixBy is_space r o → IfSome o (λ n. n ≡ 0) → without_spaces r ≡ r
      by (Some n) found none = absurd (omega (arith, found.2.ends, none, len_utf8_bounds found.0))
      by None lacks none = begins_kept utf8.0 r utf8.1.0 utf8.1.1 lacks

  pub trimmed_begin : (s r : Text) → IsUtf8 r → (ns : List ℕ) → CutsPrefixes R s ns r → IsFullyTrimmed R r → without_spaces s ≡ r
  trimmed_begin s r utf8 ns cuts trimmed = cut_begin s ns r cuts ∙ begin_done r utf8 trimmed

-- ---- at the end

past_end : (c : ℕ) (front : Text) → is_space c ≡ true → without_spaces (reverse (front ++ encode_utf8 c)) ≡ without_spaces (reverse front)
past_end c front space =
    ap (λ t. without_spaces (reverse (front ++ t))) (encode_ascii c (space_low c space))
    ∙ ap without_spaces (reverse-append front (c ∷ []))
    ∙ ap (λ b. cond b (without_spaces (reverse front)) (c ∷ reverse front)) space

-- the last byte of a text that is not empty
snoc : (bs : Text) → 0 < length bs → (front : Text) × (b : ℕ) × (bs ≡ front ++ b ∷ [])
snoc [] some = absurd (omega (arith, some))
snoc (b ∷ []) some = ([], b, refl)
snoc (b ∷ c ∷ bs) some = let more = snoc (c ∷ bs) (omega arith) in (b ∷ more.0, more.1, ap (λ t. b ∷ t) more.2)

last_kept : (c : ℕ) (front : Text) → is_space c ≡ false → without_spaces (reverse (front ++ encode_utf8 c)) ≡ reverse (front ++ encode_utf8 c)
last_kept c front other =
    let parts = snoc (encode_utf8 c) (omega (arith, length-encode c, len_utf8_bounds c)) in
    let at : get_or (parts.0 ++ parts.1 ∷ []) (length parts.0) 0 ≡ parts.1 = get_or-append_seam parts.0 parts.1 [] 0 in
    let no : is_space parts.1 ≡ false =
    ap is_space (sym at) ∙ byte_other c (length parts.0) (parts.0 ++ parts.1 ∷ []) parts.2 (omega (arith, length-append parts.0 (parts.1 ∷ []))) other in
    let all : reverse (front ++ encode_utf8 c) ≡ parts.1 ∷ reverse (front ++ parts.0) =
    ap (λ t. reverse (front ++ t)) parts.2 ∙ ap reverse (sym (append_assoc front parts.0 (parts.1 ∷ []))) ∙ reverse-append (front ++ parts.0) (parts.1 ∷ []) in
    ap without_spaces all ∙ ap (λ t. cond t (without_spaces (reverse (front ++ parts.0))) (parts.1 ∷ reverse (front ++ parts.0))) no ∙ sym all

ends_kept : (cs : List ℕ) (r : Text) → all_scalars cs ≡ true → encode_utf8_all cs ≡ r → FindsSuffixBy is_space r None → without_spaces (reverse r) ≡ reverse r
ends_kept [] r scalars is lacks = ap (λ t. without_spaces (reverse t)) (sym is) ∙ ap reverse is
ends_kept (c ∷ cs) r scalars is lacks =
    let parts = snoc (c ∷ cs) (omega arith) in
    let whole : r ≡ encode_utf8_all parts.0 ++ encode_utf8 parts.1 =
    sym is ∙ ap encode_utf8_all parts.2 ∙ encodes-append parts.0 (parts.1 ∷ []) ∙ ap (λ t. encode_utf8_all parts.0 ++ t) (append-nil (encode_utf8 parts.1)) in
    let scalar : IsScalar parts.1 = last_scalar parts.0 parts.1 (subst (λ ds. all_scalars ds ≡ true) parts.2 scalars) in
    ap (λ t. without_spaces (reverse t)) whole
    ∙ last_kept parts.1 (encode_utf8_all parts.0) (lacks parts.1 (encode_utf8_all parts.0) scalar whole)
    ∙ ap reverse (sym whole)
  where
    last_scalar : (ds : List ℕ) (d : ℕ) → all_scalars (ds ++ d ∷ []) ≡ true → IsScalar d
    last_scalar [] d all = (and_parts _ _ all).0
    last_scalar (e ∷ ds) d all = last_scalar ds d (and_parts _ _ all).1

module _ (R : Text → Option ℕ → Type 0) (gives : (s : Text) (o : Option ℕ) → R s o → FindsSuffixBy is_space s o) where
  cut_end : (s : Text) (ns : List ℕ) (r : Text) → CutsSuffixes R s ns r → without_spaces (reverse s) ≡ without_spaces (reverse r)
  cut_end s [] r cuts = ap (λ t. without_spaces (reverse t)) (sym cuts)
  cut_end s (n ∷ ns) r cuts =
      let m = cuts.0 in
      let k = length m - n in
      let found = gives m (Some n) cuts.2 in
      let behind : drop k m ≡ encode_utf8 found.0 =
      found.2.split ∙ ap (λ t. encode_utf8 found.0 ++ t) (drop_of_length-le m (omega arith)) ∙ append-nil (encode_utf8 found.0) in
      let whole : m ≡ take k m ++ encode_utf8 found.0 = sym (take-append-drop k m) ∙ ap (λ t. take k m ++ t) behind in
      cut_end s ns m cuts.1 ∙ ap (λ t. without_spaces (reverse t)) whole ∙ past_end found.0 (take k m) found.1
      ∙ ap (λ t. without_spaces (reverse t)) (sym cuts.3)

  end_done : (r : Text) → IsUtf8 r → IsFullyTrimmed R r → without_spaces (reverse r) ≡ reverse r
  end_done r utf8 trimmed = by trimmed.0 (gives r trimmed.0 trimmed.1) trimmed.2
    where
      by : (o : Option ℕ) → FindsSuffixBy is_space r o → IfSome o (λ n. n ≡ 0) → without_spaces (reverse r) ≡ reverse r
      by (Some n) found none = absurd (omega (arith, found.2.ends, none, len_utf8_bounds found.0))
      by None lacks none = ends_kept utf8.0 r utf8.1.0 utf8.1.1 lacks

  pub trimmed_end : (s m r : Text) → without_spaces s ≡ m → IsUtf8 r → (ns : List ℕ) → CutsSuffixes R m ns r → IsFullyTrimmed R r → r ≡ stripped s
  trimmed_end s m r begun utf8 ns cuts trimmed =
      sym (ap (λ t. reverse (without_spaces (reverse t))) begun ∙ ap reverse (cut_end m ns r cuts ∙ end_done r utf8 trimmed) ∙ reverse-reverse r)

-- ---- as the code has them

abbrev pub spaces : List ℕ
spaces = 0 ∷ 9 ∷ 10 ∷ 11 ∷ 12 ∷ 13 ∷ 32 ∷ []

abbrev pub Begins : Text → Option ℕ → Type 0
Begins s o = (k : ℕ → Bool) → ((c : ℕ) → char_set_contains spaces c ≡ k c) → FindsPrefixBy k s o

abbrev pub Ends : Text → Option ℕ → Type 0
Ends s o = (k : ℕ → Bool) → ((c : ℕ) → char_set_contains spaces c ≡ k c) → FindsSuffixBy k s o

pub spaces-are : (c : ℕ) → char_set_contains spaces c ≡ is_space c
spaces-are c = grind (arith, nat_tests)
