use Rattle.std.proofs.Common.{rules, of_calls, string_bytes, ap, sym, subst, ◌≡◌, ◌∙◌}
use Rattle.std.proofs.lemmas.Fn.{always_returns_same}
use Rattle.std.specs.Global.{Box}
use Rattle.zw_tree.specs.Sound.{text_cmp, IsSound}
use Rattle.zw_tree.specs.Places.{Places}
use Rattle.zw_tree.specs.Seen.{row_seen, rows_seen}
use Rattle.zw_tree.specs.declared.folder.Entry.{Entry}
use Rattle.zw_tree.proofs.PlaceLemmas.{placed}
use Rattle.zw_tree.proofs.folder.Folder.place.Goals as goal

pub returns : goal.returns
returns c =
    let es = c.deref.result.now in
    let are : rows_seen es ≡ c.args.self.now = ap rows_seen c.deref.ensures.value ∙ c.self.view_is in
    let sound = subst IsSound (sym are) c.requires in
    let found = placed (λ (e : Box Entry). row_seen e.value) c.args.name.now es sound c.binary_search_by.result c.binary_search_by.ensures.bound (c.binary_search_by.ensures.position (λ (e : Box Entry). text_cmp (string_bytes e.value.name) c.args.name.now) (always_returns_same _ _ _ (λ a r f k. search (rules, of_calls)))) in
    subst (λ rows. Places rows c.args.name.now c.binary_search_by.result) are found
