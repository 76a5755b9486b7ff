-- What `clap` says of the words, as the settings.
use Rattle.std.proofs.Common.{◌≡◌, ◌≢◌, true, false, List, [], ◌∷◌, None, ap, refl, ◌∙◌, sym, inl, inr, cond}
use Rattle.clap.specs.Words.{App, Row, Text, is_simple, matches_of, fault_of, is_simple_and_free, kind_of, Kinds, HasKind}
use Rattle.clap.specs.declared.error.Error.{Error}
use Rattle.clap.specs.declared.error.kind.ErrorKind.TheVariants as kind
use Rattle.clap.proofs.OnLiterals.{clap_on_literals}
use Rattle.zw_def_session.specs.Settings.{zw_app, settings_of, settings_in, are_accepted, rows_of_words, is_no_fault}

pub zw_is_simple : is_simple zw_app ≡ true
unfolding clap_on_literals
zw_is_simple = refl

pub zw_is_free : is_simple_and_free zw_app ≡ true
unfolding clap_on_literals
zw_is_free = refl

pub settings_of_accepted : (app : App) (words : List Text) (found : List Row) → app ≡ zw_app → fault_of app words ≡ [] → found ≡ matches_of app words → settings_of words ≡ settings_in found
unfolding are_accepted rows_of_words
settings_of_accepted app words found is none same =
    let none_here : fault_of zw_app words ≡ [] = ap (λ (a : App). fault_of a words) (sym is) ∙ none in
    let same_here : found ≡ matches_of zw_app words = same ∙ ap (λ (a : App). matches_of a words) is in
    ap (λ ks. cond (is_no_fault ks) (settings_in (matches_of zw_app words)) None) none_here ∙ ap settings_in (sym same_here)

refused_by : (kinds : Kinds) (e : Error) → HasKind kinds e → kind_of e ≢ kind.OutOfMemory → is_no_fault kinds ≡ false
refused_by [] e (inl memory) other = absurd (other memory)
refused_by [] e (inr among) other = absurd among
refused_by (k ∷ ks) e has other = refl

pub settings_of_refused : (app : App) (words : List Text) (e : Error) → app ≡ zw_app → HasKind (fault_of app words) e → kind_of e ≢ kind.OutOfMemory → settings_of words ≡ None
unfolding are_accepted rows_of_words
settings_of_refused app words e is has other =
    let refused : is_no_fault (fault_of zw_app words) ≡ false = ap (λ (a : App). is_no_fault (fault_of a words)) (sym is) ∙ refused_by (fault_of app words) e has other in
    ap (λ t. cond t (settings_in (matches_of zw_app words)) None) refused
