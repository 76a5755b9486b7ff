use Rattle.std.proofs.Common.{◌≡◌, ◌++◌, string_bytes}
use Rattle.zw_def_world.specs.Quote.{escaped_text}
use Rattle.zw_show.proofs.quote.push_escaped_text.Given as goal

abbrev pub invariant-loop-character : goal.invariant-loop-character
invariant-loop-character l = record {
  most : l.writer.most ≡ l.fn.writer.most;
  written : string_bytes l.writer.text ++ escaped_text l.rest.rest.now ≡ string_bytes l.fn.writer.text ++ escaped_text l.fn.text;
}
