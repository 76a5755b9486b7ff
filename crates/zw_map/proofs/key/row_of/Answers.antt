use Rattle.std.proofs.Common.{ap, ◌∙◌}
use Rattle.zw_def.specs.Names.{texts_of}
use Rattle.zw_def.specs.Map.{all_expecting, expecting_files}
use Rattle.zw_map.specs.KeySeen.{kind_told}
use Rattle.zw_map.proofs.ClaimLemmas.{kind_is}
use Rattle.zw_map.proofs.key.row_of.Goals as goal

pub returns-clause-told : goal.returns-clause-told
returns-clause-told c names layout tree scan distinct named =
    let p = texts_of names c.args.path.now in
    let files = c.in_ok-files_at.ensures names layout tree scan distinct named in
    let kind = c.in_ok-key.ensures ∙ ap kind_told files ∙ kind_is (all_expecting p (expecting_files layout tree)) in
    let directories = c.in_ok-directories.ensures ∙ c.in_ok-directories_at.ensures names layout tree scan distinct named in
    λ i. record { path = texts_of names (c.in_ok-path.ensures i); kind = kind i; directories = directories i }
