use Rattle.std.proofs.Common.{◌≡◌}
use Rattle.zw_def_world.specs.StringRows.{is_space, without_spaces}
use Rattle.zw_strings.proofs.SpaceLemmas.{Begins, Ends, spaces-are, trimmed_begin, trimmed_end}
use Rattle.zw_strings.proofs.text.stripped.Goals as goal

pub returns : goal.returns
returns c =
    let t = c.args.text.now in
    let m = c.trim_start_matches.result.now in
    let starts = c.trim_start_matches.ensures.matches in
    let ends = c.trim_end_matches.ensures.matches in
    let begun : without_spaces t ≡ m =
    trimmed_begin Begins (λ s o gives. gives is_space spaces-are) t m c.trim_start_matches.utf8 starts.0.0 starts.0.1 starts.1 in
    trimmed_end Ends (λ s o gives. gives is_space spaces-are) t m c.trim_end_matches.result.now begun c.trim_end_matches.utf8 ends.0.0 ends.0.1 ends.1
