use Rattle.std.proofs.Common.{rules, ◌∙◌, ap, refl}
use Rattle.zw_def.proofs.ToldLemmas.{draws_more}
use Rattle.zw_top.proofs.StreamLemmas.{cut_serves, goes_on, goes_start, reply_serves}
use Rattle.zw_top.proofs.ReplyLemmas.{cut_counts, counts_at, tie, reply_counts}
use Rattle.zw_top.proofs.PassingLemmas.{passes_start, passes_on, passes_end, draws_start, takes_by, none_left, not_cut, ends_done}
use Rattle.zw_top.proofs.stream.serve.Goals as goal

pub returns-in-Err-clause-serves : goal.returns-in-Err-clause-serves
returns-in-Err-clause-serves g c = λ s stands.
    cut_serves s _ c.cut_short.result c.in-Err.fault _ _ _ _ _ _ _ _ _ _ _ (c.stream.invariant.told s stands)
    (c.in-Err.ensures.answer c.stream.invariant.fresh) (c.in-Err.ensures.met c.stream.invariant.fresh)
    (tie g.S.Source.left _ _ _ _ (search rules) (c.in-Err.ensures.drained c.stream.invariant.fresh)) (search (rules, c.cut_short.ensures.cuts))

pub returns-in-Err-clause-counts : goal.returns-in-Err-clause-counts
returns-in-Err-clause-counts g c =
    counts_at c.cut_short.result _ _ _ _ _ _ _ _ (cut_counts c.cut_short.result c.in-Err.fault _ _ _ _ _ _ (c.in-Err.ensures.cause c.stream.invariant.fresh) c.cut_short.ensures.cuts c.cut_short.ensures.counts)
    (search rules) (search rules) (search rules) (search rules)

pub stream-preserved : goal.stream-preserved
stream-preserved g c = record {
  same_source = search rules;
  same_sink = search rules;
  fresh = search rules;
  named = search rules;
  source_counts = c.in-Ok.ensures.cause c.stream.invariant.fresh ∙ c.stream.invariant.source_counts;
  sink_counts = search rules;
  told = λ s stands.
      goes_on s _ _ c.in-Ok.got _ _ _ _ _ _ _ _ _ _ (c.stream.invariant.told s stands)
      (c.in-Ok.ensures.answer c.stream.invariant.fresh) (c.in-Ok.ensures.met c.stream.invariant.fresh) c.in-Ok.ensures.room c.in-Ok-reply.ensures.replies;
  passes =
      passes_on c.in-Ok.got _ _ _ _ _ _ _ c.stream.invariant.passes
      (c.in-Ok.ensures.answer c.stream.invariant.fresh) (c.in-Ok.ensures.met c.stream.invariant.fresh) c.in-Ok.ensures.room c.in-Ok-reply.ensures.ends;
  draws = draws_more _ _ _ _ _ _ _ _ _ c.stream.invariant.draws c.next_command.ensures.draws;
  sound = c.next_command.ensures.sound c.stream.invariant.sound;
}

pub returns-in-Err-reply-clause-serves : goal.returns-in-Err-reply-clause-serves
returns-in-Err-reply-clause-serves g c = λ s stands.
    reply_serves s _ c.reply.new.session c.in-Err-reply.status c.in-Ok.got _ _ _ _ _ _ _ _ _ _ _ (c.stream.invariant.told s stands)
    (c.in-Ok.ensures.answer c.stream.invariant.fresh) (c.in-Ok.ensures.met c.stream.invariant.fresh) c.in-Ok.ensures.room c.in-Err-reply.ensures.replies

pub returns-in-Err-reply-clause-counts : goal.returns-in-Err-reply-clause-counts
returns-in-Err-reply-clause-counts g c =
    counts_at c.in-Err-reply.status _ _ _ _ _ _ _ _ (reply_counts c.in-Err-reply.status _ _ _ _ (c.in-Ok.ensures.cause c.stream.invariant.fresh) c.in-Err-reply.ensures.counts)
    (search rules) (search rules) (search rules) (search rules)

pub stream-init : goal.stream-init
stream-init g c = record {
  same_source = search rules;
  same_sink = search rules;
  fresh = search rules;
  named = search rules;
  source_counts = search rules;
  sink_counts = search rules;
  told = λ s stands. goes_start s _ _ _ _ _ _ _ stands c.new-lines.ensures.left refl c.new-lines.ensures.room;
  passes = passes_start _ _ _ _ c.new-lines.ensures.left c.new-lines.ensures.room;
  draws = draws_start _ _ _ _ (ap g.S.Source.left c.new-lines.ensures.source) c.new-lines.ensures.block c.new-lines.ensures.room;
  sound = c.new-lines.ensures.sound;
}

-- ---- what is taken

pub returns-in-Err-clause-takes : goal.returns-in-Err-clause-takes
returns-in-Err-clause-takes g c =
    takes_by g.S.Source.left _ _ c.cut_short.result _ _ _ (search rules) (draws_more _ _ _ _ _ _ _ _ _ c.stream.invariant.draws c.next_command.ensures.draws)
    (c.next_command.ensures.sound c.stream.invariant.sound).within (λ done. not_cut c.cut_short.result _ _ _ _ _ c.cut_short.ensures.cuts done)

pub returns-in-Err-reply-clause-takes : goal.returns-in-Err-reply-clause-takes
returns-in-Err-reply-clause-takes g c =
    let draws = draws_more _ _ _ _ _ _ _ _ _ c.stream.invariant.draws c.next_command.ensures.draws in
    let sound = c.next_command.ensures.sound c.stream.invariant.sound in
    takes_by g.S.Source.left _ _ c.in-Err-reply.status _ _ _ (search rules) draws sound.within (λ done.
    passes_end c.in-Ok.got _ _ _ _ _ _ _ c.stream.invariant.passes (ends_done c.in-Err-reply.status _ done c.in-Err-reply.ensures.ends)
    (c.in-Ok.ensures.met c.stream.invariant.fresh) (λ met. none_left _ _ _ _ draws (sound.ended met)))
