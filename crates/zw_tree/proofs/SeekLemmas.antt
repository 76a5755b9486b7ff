-- What stands at a path, by what stands at its first name.
use Rattle.std.proofs.Common.{◌≡◌, ℕ, ◌<◌, Bool, true, false, not, cond, Some, None, List, [], ◌∷◌, length, refl, ap, sym, ◌∙◌, arith, subst}
use Rattle.zw_def.specs.Text.{Text}
use Rattle.zw_def.specs.Path.{Path, same_path}
use Rattle.zw_def.specs.Tree.{Tree}
use Rattle.zw_tree.specs.Row.{Node, Rows, Row, file, folder, told, told_rows, listed, rows_of}
use Rattle.zw_tree.specs.Sound.{IsSound, IsWhole}
use Rattle.zw_tree.specs.Text.{text_at}
use Rattle.zw_tree.specs.Edit.{is_blocked}
use Rattle.zw_tree.specs.Places.{Found}
use Rattle.zw_tree.specs.Lookup.{file_at, folder_at, rows_in, text_in}
use Rattle.zw_tree.specs.Middle.{inner, AllBegin}
use Rattle.zw_tree.specs.Code.{listed_rows}
use Rattle.zw_tree.proofs.RowLemmas.{told_rows-of, rows-listed, paths_some-within, folder_found, file_found}
use Rattle.zw_tree.proofs.SoundLemmas.{sound_at, sound_listed}
use Rattle.zw_tree.proofs.MiddleLemmas.{text-first}
use Rattle.zw_tree.proofs.EditLemmas.{found_text, found_blocked, whole_blocked}

text_empty : (rows : Rows) → text_at [] (told_rows rows) ≡ None
text_empty rows = by (told_rows rows) (paths_some-within rows) where
  by : (tree : Tree) → AllBegin (λ p. 0 < length p) tree → text_at [] tree ≡ None
  by [] all = refl
  by (f ∷ fs) all = text-first f fs [] false (at f.path all.0) ∙ by fs all.1 where
    at : (p : Path) → 0 < length p → same_path p [] ≡ false
    at [] lt = absurd (omega arith)
    at (x ∷ xs) lt = refl

module _ (here : List Row) (c : Text) (n : ℕ) (found : Found here c n) where
  -- a file
  module _ (old : Text) (is : file_at here n ≡ Some old) where
    is_file : found.node ≡ file old
    is_file = by found.node refl where
      by : (node : Node) → found.node ≡ node → found.node ≡ file old
      by (file text) at =
          let h : Some text ≡ Some old = sym (file_found here c n found ∙ ap text_in at) ∙ is in
          let same : text ≡ old = cc in
          at ∙ ap file same
      by (folder rows) at = (let h : None ≡ Some old = sym (file_found here c n found ∙ ap text_in at) ∙ is in cc)

    pub file_text : (cs : Path) (last : Bool) → (last ≡ true → cs ≡ []) → (last ≡ false → 0 < length cs) → cond last (Some old) None ≡ text_at (c ∷ cs) (told here)
    file_text cs last end on = by cs last end on ∙ sym (found_text here c n found cs ∙ ap (λ node. text_at cs (inner node)) is_file) where
      by : (ds : Path) (b : Bool) → (b ≡ true → ds ≡ []) → (b ≡ false → 0 < length ds) → cond b (Some old) None ≡ text_at ds (inner (file old))
      by [] true end on = refl
      by [] false end on = absurd (omega (arith, on refl))
      by (d ∷ ds) true end on = (let h : d ∷ ds ≡ [] = end refl in cc)
      by (d ∷ ds) false end on = refl

    pub file_blocked : (cs : Path) (last : Bool) → (last ≡ true → cs ≡ []) → (last ≡ false → 0 < length cs) → not last ≡ is_blocked (told here) (c ∷ cs)
    file_blocked cs last end on = by cs last end on ∙ sym (found_blocked here c n found cs ∙ ap (λ node. is_blocked (inner node) cs) is_file) where
      by : (ds : Path) (b : Bool) → (b ≡ true → ds ≡ []) → (b ≡ false → 0 < length ds) → not b ≡ is_blocked (inner (file old)) ds
      by [] true end on = refl
      by [] false end on = absurd (omega (arith, on refl))
      by (d ∷ ds) true end on = (let h : d ∷ ds ≡ [] = end refl in cc)
      by (d ∷ ds) false end on = refl

  -- a directory
  module _ (below : List Row) (is : folder_at here n ≡ Some below) where
    pub is_folder : found.node ≡ folder (rows_of below)
    is_folder = by found.node refl where
      by : (node : Node) → found.node ≡ node → found.node ≡ folder (rows_of below)
      by (file text) at = (let h : None ≡ Some below = sym (folder_found here c n found ∙ ap rows_in at) ∙ is in cc)
      by (folder rows) at =
          let h : Some (listed rows) ≡ Some below = sym (folder_found here c n found ∙ ap rows_in at) ∙ is in
          let same : listed rows ≡ below = cc in
          at ∙ ap folder (sym (rows-listed rows) ∙ ap rows_of same)

    pub folder_text : (cs : Path) → text_at cs (told below) ≡ text_at (c ∷ cs) (told here)
    folder_text cs = sym (found_text here c n found cs ∙ ap (λ node. text_at cs (inner node)) is_folder ∙ ap (text_at cs) (told_rows-of below))

    pub folder_blocked : (cs : Path) → is_blocked (told below) cs ≡ is_blocked (told here) (c ∷ cs)
    folder_blocked cs = sym (found_blocked here c n found cs ∙ ap (λ node. is_blocked (inner node) cs) is_folder ∙ ap (λ t. is_blocked t cs) (told_rows-of below))

    module _ (sound : IsSound here) where
      whole : IsWhole (folder (rows_of below))
      whole = subst IsWhole is_folder (sound_at found.front record { name = c; node = found.node } found.back (subst IsSound found.is sound))

      pub folder_sound : IsSound below
      folder_sound = subst IsSound (listed_rows below) (sound_listed (rows_of below) whole.1)

      pub folder_text-end : None ≡ text_at (c ∷ []) (told here)
      folder_text-end = sym (text_empty (rows_of below)) ∙ ap (text_at []) (told_rows-of below) ∙ folder_text []

      pub folder_blocked-end : true ≡ is_blocked (told here) (c ∷ [])
      folder_blocked-end = sym (whole_blocked (rows_of below) whole) ∙ ap (λ t. is_blocked t []) (told_rows-of below) ∙ folder_blocked []

  -- one of the two
  pub some_node : file_at here n ≡ None → folder_at here n ≡ None → ⊥
  some_node no_file no_folder = by found.node refl where
    by : (node : Node) → found.node ≡ node → ⊥
    by (file text) at = (let h : Some text ≡ None = sym (file_found here c n found ∙ ap text_in at) ∙ no_file in cc)
    by (folder rows) at = (let h : Some (listed rows) ≡ None = sym (folder_found here c n found ∙ ap rows_in at) ∙ no_folder in cc)
