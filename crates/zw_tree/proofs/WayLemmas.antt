-- An edit at the end of the way down, for the whole tree.
use Rattle.std.proofs.Common.{◌≡◌, ℕ, suc, ◌+◌, ◌<◌, Bool, true, false, cond, Option, Some, None, Result, Ok, Err, List, [], ◌∷◌, ◌++◌, length, take, drop, get_or, refl, ap, sym, ◌∙◌, arith, subst}
use Rattle.std.specs.Prelude.{IfOk, OnOk, OnErr, is_some}
use Rattle.std.specs.List.{remove}
use Rattle.zw_def.specs.Text.{Text}
use Rattle.zw_def.specs.Path.{Path}
use Rattle.zw_tree.specs.Row.{Row, told}
use Rattle.zw_tree.specs.Sound.{IsSound}
use Rattle.zw_tree.specs.Places.{Places, Found}
use Rattle.zw_tree.specs.Lookup.{folder_at, file_at}
use Rattle.zw_tree.specs.AtEnd.{put_at, del_at}
use Rattle.zw_tree.specs.Edit.{is_blocked, without_file, tree_with}
use Rattle.zw_tree.specs.Trail.{Leads, closed}
use Rattle.zw_tree.specs.declared.trail.Level.{Level}
use Rattle.zw_tree.proofs.ListLemmas.{parts_at, drop-length, none_of}
use Rattle.zw_tree.proofs.MiddleLemmas.{middle_with, middle_without}
use Rattle.zw_tree.proofs.TrailLemmas.{leads_sound, leads_blocked, closed_sound, closed_same, closed_told}
use Rattle.zw_tree.proofs.EditLemmas.{Ends, put_here, put_sound, del_here, del_folder, del_beyond, gap_without, removed_sound}

-- the way down a path of sound rows, as far as it goes
module _ (rows : List Row) (path : Path) (d : ℕ) (ls : List Level) (here : List Row) (place : Result ℕ ℕ) (sound : IsSound rows) (lt : d < length path) (leads : Leads rows (take d path) ls here) (at : Places here (get_or path d []) place) (ends : d + 1 < length path → IfOk place (λ n. folder_at here n ≡ None)) where
  abbrev name : Text
  name = get_or path d []

  abbrev rest : Path
  rest = drop (suc d) path

  path_is : path ≡ take d path ++ name ∷ rest
  path_is = parts_at path d [] lt

  here_sound : IsSound here
  here_sound = leads_sound rows (take d path) ls here sound leads

  here_ends : Ends here rest place
  here_ends some = ends (omega (arith, some, drop-length path (suc d) (omega arith)))

  pub way_put : (text : Text) → is_blocked (told rows) path ≡ false → told (closed ls (put_at here (name ∷ rest) text place)) ≡ tree_with (told rows) path text
  way_put text free =
      let here_free = sym (leads_blocked rows (take d path) ls here leads (name ∷ rest)) ∙ ap (is_blocked (told rows)) (sym path_is) ∙ free in
      closed_told (λ p t. tree_with t p text) (λ c front back before after tree cs. middle_with c front back before after tree cs text) rows (take d path) ls here (put_at here (name ∷ rest) text place) leads (name ∷ rest) (put_here here name here_sound rest text place at here_free here_ends)
      ∙ ap (λ p. tree_with (told rows) p text) (sym path_is)

  pub way_put_sound : (text : Text) → IsSound (closed ls (put_at here (name ∷ rest) text place))
  way_put_sound text = closed_sound rows (take d path) ls here (put_at here (name ∷ rest) text place) sound leads (put_sound here name here_sound rest text place at)

  pub way_same : closed ls here ≡ rows
  way_same = closed_same rows (take d path) ls here sound leads

  ended : d + 1 ≡ length path → rest ≡ []
  ended e = none_of rest (omega (arith, drop-length path (suc d) (omega arith), e))

  record Gone (x : List Row) : Type 0 where
    pub stays : IsSound x
    pub told_is : told x ≡ without_file (told here) (name ∷ rest)

  -- the path ends here, or not
  last_gone : (n : ℕ) (found : Found here name n) → d + 1 ≡ length path → (o : Option Text) → file_at here n ≡ o → Gone (cond (is_some o) (remove here n) here)
  last_gone n found end None file = record { stays = here_sound; told_is = del_folder here name here_sound n found file ∙ ap (λ cs. without_file (told here) (name ∷ cs)) (sym (ended end)) }
  last_gone n found end (Some text) file = record { stays = removed_sound here name n found here_sound; told_is = del_here here name here_sound n found text file ∙ ap (λ cs. without_file (told here) (name ∷ cs)) (sym (ended end)) }

  gone : (p : Result ℕ ℕ) → place ≡ p → (last : Bool) → (last ≡ true → d + 1 ≡ length path) → (last ≡ false → d + 1 < length path) → Gone (del_at here last p)
  gone (Err n) is last end on = record { stays = here_sound; told_is = sym (gap_without here name n (subst (Places here name) is at) rest) }
  gone (Ok n) is true end on = last_gone n (subst (Places here name) is at) (end refl) (file_at here n) refl
  gone (Ok n) is false end on = record {
    stays = here_sound;
    told_is = del_beyond here name here_sound n (subst (Places here name) is at) rest (omega (arith, on refl, drop-length path (suc d) (omega arith))) (subst (λ r. IfOk r (λ k. folder_at here k ≡ None)) is (ends (on refl)));
  }

  module _ (last : Bool) (end : last ≡ true → d + 1 ≡ length path) (on : last ≡ false → d + 1 < length path) where
    pub way_del_sound : IsSound (closed ls (del_at here last place))
    way_del_sound = closed_sound rows (take d path) ls here (del_at here last place) sound leads (gone place refl last end on).stays

    pub way_del : told (closed ls (del_at here last place)) ≡ without_file (told rows) path
    way_del =
        closed_told (λ p t. without_file t p) middle_without rows (take d path) ls here (del_at here last place) leads (name ∷ rest) (gone place refl last end on).told_is
        ∙ ap (without_file (told rows)) (sym path_is)

  -- after a put that was made, or found no memory
  module _ {E : Type 0} (text : Text) (free : is_blocked (told rows) path ≡ false) (x : List Row) where
    pub after_put_sound : (r : Result (Unit {0}) E) → OnOk r (x ≡ put_at here (name ∷ rest) text place) → OnErr r (x ≡ here) → IsSound (closed ls x)
    after_put_sound (Ok u) ok err = subst (λ y. IsSound (closed ls y)) (sym ok) (way_put_sound text)
    after_put_sound (Err e) ok err = subst (λ y. IsSound (closed ls y)) (sym err) (closed_sound rows (take d path) ls here here sound leads here_sound)

    pub after_put_told : (r : Result (Unit {0}) E) → OnOk r (x ≡ put_at here (name ∷ rest) text place) → OnOk r (told (closed ls x) ≡ tree_with (told rows) path text)
    after_put_told (Ok u) ok = ap (λ y. told (closed ls y)) ok ∙ way_put text free
    after_put_told (Err e) ok = tt

    pub after_put_same : (r : Result (Unit {0}) E) → OnErr r (x ≡ here) → OnErr r (closed ls x ≡ rows)
    after_put_same (Ok u) err = tt
    after_put_same (Err e) err = ap (closed ls) err ∙ way_same
