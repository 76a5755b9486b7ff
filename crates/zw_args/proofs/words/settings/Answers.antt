use Rattle.std.proofs.Common.{◌∙◌, sym, ap, subst}
use Rattle.clap.specs.Words.{is_simple, is_simple_and_free}
use Rattle.zw_args.specs.Settings.{Tells}
use Rattle.zw_args.proofs.WordLemmas.{zw_is_simple, zw_is_free, settings_of_accepted, settings_of_refused}
use Rattle.zw_args.proofs.words.settings.Goals as goal

pub returns-in-Ok-clause-told : goal.returns-in-Ok-clause-told
returns-in-Ok-clause-told c =
    let app = c.in_ok-command.ensures in
    let same = settings_of_accepted _ _ _ app (c.in-Ok.ensures.kinds (ap is_simple_and_free app ∙ zw_is_free)) (c.in-Ok.ensures.matches (ap is_simple app ∙ zw_is_simple)).0 in
    subst (Tells c.told.result) (sym same) c.told.ensures.told

pub returns : goal.returns
returns c =
    let app = c.in_ok-command.ensures in
    record {
      told = settings_of_refused _ _ c.in-Err.error app (c.in-Err.ensures.kinds (ap is_simple_and_free app ∙ zw_is_free)) (λ memory. c.in_default.not-OutOfMemory (c.kind.ensures ∙ memory));
      budget = tt;
    }
