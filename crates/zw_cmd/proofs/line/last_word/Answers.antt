use Rattle.std.proofs.Common.{sym, lit<}
use Rattle.std.proofs.lemmas.Str.Pattern.{NoCharPasses-char}
use Rattle.zw_cmd.proofs.PartLemmas.{last_word-none, last_word-found}
use Rattle.zw_cmd.proofs.line.last_word.Goals as goal

pub returns-in-Some-clause-before : goal.returns-in-Some-clause-before
returns-in-Some-clause-before c =
    let h = c.in-Some.ensures.cases in
    sym (last_word-found c.args.rest.now c.in-Some.front.now c.in-Some.word.now h.0 h.1 h.2 (lit< tt) h.3 h.4).0

pub returns-in-Some-clause-word : goal.returns-in-Some-clause-word
returns-in-Some-clause-word c =
    let h = c.in-Some.ensures.cases in
    sym (last_word-found c.args.rest.now c.in-Some.front.now c.in-Some.word.now h.0 h.1 h.2 (lit< tt) h.3 h.4).1

pub returns-in-None-clause-before : goal.returns-in-None-clause-before
returns-in-None-clause-before c =
    sym (last_word-none c.args.rest.now (λ i. NoCharPasses-char 32 c.args.rest.now i c.in-None.ensures.cases (lit< tt))).0

pub returns-in-None-clause-word : goal.returns-in-None-clause-word
returns-in-None-clause-word c =
    sym (last_word-none c.args.rest.now (λ i. NoCharPasses-char 32 c.args.rest.now i c.in-None.ensures.cases (lit< tt))).1
