use Rattle.std.proofs.Common.{IfSome, ap, sym, subst, ◌∙◌}
use Rattle.std.specs.Option.{option_map}
use Rattle.std.proofs.lemmas.Result.{IfOk-weaker}
use Rattle.zw_def.specs.Names.{AreNamed, texts_of}
use Rattle.zw_def.specs.Map.{all_expecting, expecting_files}
use Rattle.zw_def.specs.Shadow.{unless_defined}
use Rattle.zw_map.specs.ShadowSeen.{IsShadowNamed, after_winner}
use Rattle.zw_map.proofs.ClaimLemmas.{winner_is}
use Rattle.zw_map.proofs.shadow.shadow_at.Goals as goal

pub returns-in_ok-files_at-in-None : goal.returns-in_ok-files_at-in-None
returns-in_ok-files_at-in-None c = record {
  named = IfOk-weaker c.behind_winner.result _ _ (λ row is table named. is table) c.behind_winner.ensures.named;
  told = IfOk-weaker c.behind_winner.result _ _ (λ row is table layout tree scan distinct boot_named named.
      let p = texts_of table c.args.names.now in
      let files = expecting_files layout tree in
      let kept = c.in_ok-defined.ensures.told table distinct boot_named named in
      is table
      ∙ ap (after_winner c.args.path.now) (c.in_ok-files_at-in-None.ensures table layout tree scan distinct named)
      ∙ winner_is c.args.path.now (all_expecting p files)
      ∙ ap (unless_defined files c.args.path.now p) (ap (option_map (texts_of table)) (sym c.in-None.is) ∙ kept))
      c.behind_winner.ensures.told;
}

pub returns-in-Some-clause-named : goal.returns-in-Some-clause-named
returns-in-Some-clause-named c =
    IfOk-weaker c.row.result _ _ (λ row is table named.
    subst (λ o. IfSome o (IsShadowNamed table)) (sym is) (subst (λ o. IfSome o (AreNamed table)) c.in-Some.is (c.in_ok-defined.ensures.named table named)))
    c.row.ensures
