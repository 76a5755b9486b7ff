-- Paths as lists of names: the parts that are read, and the names that are written.
use Rattle.std.proofs.Common.{◌≡◌, ℕ, suc, ◌+◌, ◌<◌, List, [], ◌∷◌, ◌++◌, map, length, get_or, slice_get, Some, ap, sym, ◌∙◌, subst, arith, append_assoc, take, codes}
use Rattle.std.proofs.lemmas.List.{length-map, map-append, take_more}
use Rattle.zw_def.proofs.NameLemmas.{texts_of-grown, texts_of-pushed, AreNamed-pushed, AreNamed-grown}
use Rattle.zw_def.proofs.ConstantPathLemmas.{scoped-pushed}
use Rattle.zw_names.specs.declared.names.Name.{Name}
use Rattle.zw_def.specs.Text.{Text}
use Rattle.zw_def.specs.Names.{OnlyGrows, AreNamed, texts_of}
use Rattle.std.proofs.Math.ListN.{get_or-map}
use Rattle.zw_def.proofs.NameLemmas.{texts_of-pushed}
use Rattle.zw_def.specs.ConstantPath.{scoped}

pub part_read : (old new : List Text) (path more_path : List Name) (name : Name) (part : Text) (all left more : List Text) → OnlyGrows old new → slice_get new name.0 ≡ Some part → more_path ≡ path ++ name ∷ [] → left ≡ part ∷ more → all ≡ texts_of old (map (λ n. n.0) path) ++ left → AreNamed old (map (λ n. n.0) path) → (all ≡ texts_of new (map (λ n. n.0) more_path) ++ more) × AreNamed new (map (λ n. n.0) more_path)
part_read old new path more_path name part all left more g at m l e named =
    let number : Name → ℕ = λ n. n.0 in
    let ns = map number path in
    let more_ns : map number more_path ≡ ns ++ name.0 ∷ [] = ap (map number) m ∙ map-append number path (name ∷ []) in
    let texts : texts_of new (ns ++ name.0 ∷ []) ≡ texts_of old ns ++ part ∷ [] = texts_of-pushed new ns name.0 part at ∙ ap (λ ts. ts ++ part ∷ []) (texts_of-grown old new ns g named) in (
      e ∙ ap (λ xs. texts_of old ns ++ xs) l ∙ sym (ap (λ ts. ts ++ more) (ap (texts_of new) more_ns ∙ texts) ∙ append_assoc (texts_of old ns) (part ∷ []) more),
      subst (AreNamed new) (sym more_ns) (AreNamed-pushed new ns name.0 part at (AreNamed-grown old new ns g named)),
    )

pub number_named : (names : List Text) (path : List Name) (i : ℕ) (d : Name) → AreNamed names (map (λ n. n.0) path) → i < length path → (get_or path i d).0 < length names
number_named names path i d named lt =
    let number : Name → ℕ = λ n. n.0 in
    subst (λ n. n < length names) (get_or-map number path i d) (named i d.0 (omega (arith, lt, length-map path number)))

pub others_named : (names : List Text) (items : List Name) (path : List ℕ) (first : Name) (others : List Name) → map (λ n. n.0) items ≡ path → items ≡ first ∷ others → AreNamed names path → AreNamed names (map (λ n. n.0) others)
others_named names items path first others v e named =
    let number : Name → ℕ = λ n. n.0 in
    let all : path ≡ first.0 ∷ map number others = sym v ∙ ap (map number) e in
    let h : AreNamed names (first.0 ∷ map number others) = subst (AreNamed names) all named in
    λ k d lt. h (suc k) d (omega (arith, lt))

-- one name more is written
pub name_pushed : (names : List Text) (path : List Name) (i : ℕ) (d : Name) (base text marked new part : Text) → i < length path → slice_get names (get_or path i d).0 ≡ Some part → text ≡ scoped base (texts_of names (map (λ n. n.0) (take i path))) → marked ≡ text ++ codes "::" → new ≡ marked ++ part → new ≡ scoped base (texts_of names (map (λ n. n.0) (take (i + 1) path)))
name_pushed names path i d base text marked new part lt at e m n =
    let number : Name → ℕ = λ n. n.0 in
    let ns = map number (take i path) in
    let more : map number (take (i + 1) path) ≡ ns ++ (get_or path i d).0 ∷ [] = ap (map number) (take_more path i d lt) ∙ map-append number (take i path) (get_or path i d ∷ []) in
    let texts : texts_of names (map number (take (i + 1) path)) ≡ texts_of names ns ++ part ∷ [] = ap (texts_of names) more ∙ texts_of-pushed names ns (get_or path i d).0 part at in
    n ∙ ap (λ t. t ++ part) (m ∙ ap (λ t. t ++ codes "::") e) ∙ sym (ap (scoped base) texts ∙ scoped-pushed base (texts_of names ns) part)
