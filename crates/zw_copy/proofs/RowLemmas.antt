-- One copy after another.
use Rattle.std.proofs.Common.{◌≡◌, ◌≤◌, ◌<◌, ◌+◌, ℕ, List, [], ◌∷◌, ◌++◌, take, length, get_or, ap, sym, ◌∙◌, subst}
use Rattle.std.proofs.lemmas.List.{take_more, take_all}
use Rattle.zw_lemmas.proofs.ListLemmas.{map-pushed}
use Rattle.zw_def.specs.Text.{Text}
use Rattle.zw_copy.specs.Copy.{IsSame, AreSame}

module _ {A X : Type 0} (tell : List Text → A → X) (holds : A → ℕ) where
  pub one_more : (olds news : List A) (i : ℕ) (old new : A) → i < length olds → old ≡ get_or olds i old
      → AreSame tell holds (take i olds) news → IsSame tell holds old new → AreSame tell holds (take (i + 1) olds) (news ++ new ∷ [])
  one_more olds news i old new lt here before same =
      subst (λ front. AreSame tell holds front (news ++ new ∷ []))
      (sym (take_more olds i old lt ∙ ap (λ x. take i olds ++ x ∷ []) (sym here)))
      (record {
        told = λ names. map-pushed (tell names) (tell names) news (take i olds) new old (before.told names) (same.told names);
        named = map-pushed holds holds news (take i olds) new old before.named same.named;
      })

  pub all_done : (olds news : List A) (i : ℕ) → length olds ≤ i → AreSame tell holds (take i olds) news → AreSame tell holds olds news
  all_done olds news i le = subst (λ front. AreSame tell holds front news) (take_all i olds le)
