use Rattle.zw_show.proofs.TellingLemmas.{inspected-told, built_in-told, receiver-told}
use Rattle.zw_show.proofs.value.tells_values.Goals as goal

pub returns-clause-inspect : goal.returns-clause-inspect
returns-clause-inspect c = λ x known I w fit agrees. inspected-told I c.args.names.now c.args.heap.now w
    (record {
      fit = fit;
      agrees = agrees;
      sound = c.is_sound.ensures.sound;
      named = c.requires;
      core = λ n lt. c.tells_core.ensures.modules I c.args.names.now n fit lt;
      main = c.tells_core.ensures.main I c.args.names.now fit;
      excepts = λ class lt. c.tells_exceptions.ensures I c.args.names.now w class fit agrees lt;
      earlier = c.holds_earlier.ensures;
    }) x known

pub returns-clause-built_in : goal.returns-clause-built_in
returns-clause-built_in c = λ x known I w fit agrees. built_in-told I c.args.names.now c.args.heap.now w
    (record {
      fit = fit;
      agrees = agrees;
      sound = c.is_sound.ensures.sound;
      named = c.requires;
      core = λ n lt. c.tells_core.ensures.modules I c.args.names.now n fit lt;
      main = c.tells_core.ensures.main I c.args.names.now fit;
      excepts = λ class lt. c.tells_exceptions.ensures I c.args.names.now w class fit agrees lt;
      earlier = c.holds_earlier.ensures;
    }) x known

pub returns-clause-receiver : goal.returns-clause-receiver
returns-clause-receiver c = λ x known I w fit agrees. receiver-told I c.args.names.now c.args.heap.now w
    (record {
      fit = fit;
      agrees = agrees;
      sound = c.is_sound.ensures.sound;
      named = c.requires;
      core = λ n lt. c.tells_core.ensures.modules I c.args.names.now n fit lt;
      main = c.tells_core.ensures.main I c.args.names.now fit;
      excepts = λ class lt. c.tells_exceptions.ensures I c.args.names.now w class fit agrees lt;
      earlier = c.holds_earlier.ensures;
    }) x known
