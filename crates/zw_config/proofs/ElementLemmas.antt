-- Elements of an array, one after another.
use Rattle.std.proofs.Common.{◌≡◌, ℕ, ◌+◌, ◌<◌, List, [], ◌∷◌, ◌++◌, length, get_or, drop, Ok, Err, ap, sym, ◌∙◌}
use Rattle.toml.specs.Data.{Data}
use Rattle.toml.specs.View.{view, items_view}
use Rattle.toml.proofs.Views.{items_view-drop}
use Rattle.toml.specs.declared.value.Value.{Value}
use Rattle.zw_def_config.specs.Fault.{Fault, Reading, ◌>>=◌}
use Rattle.zw_def_config.specs.Value.{elements_after}

module _ {X : Type 0} (read : List X → Data → Reading X) (before : List X) (values : List Value) (i : ℕ) (value : Value)
    (within : i < length values) (whole : Reading (List X)) (so : elements_after read before (items_view (drop i values)) ≡ whole) where
  split : elements_after read before (items_view (drop i values)) ≡ (read before (view (get_or values i value)) >>= λ x. elements_after read (before ++ x ∷ []) (items_view (drop (i + 1) values)))
  split = ap (elements_after read before) (items_view-drop values i value within)

  pub element_read : (x : X) → read before (view (get_or values i value)) ≡ Ok x → elements_after read (before ++ x ∷ []) (items_view (drop (i + 1) values)) ≡ whole
  element_read x is =
      sym (split ∙ ap (λ r. r >>= λ x. elements_after read (before ++ x ∷ []) (items_view (drop (i + 1) values))) is) ∙ so

  pub element_refused : (fault : Fault) → read before (view (get_or values i value)) ≡ Err fault → whole ≡ Err fault
  element_refused fault is =
      sym so ∙ split ∙ ap (λ r. r >>= λ x. elements_after read (before ++ x ∷ []) (items_view (drop (i + 1) values))) is
