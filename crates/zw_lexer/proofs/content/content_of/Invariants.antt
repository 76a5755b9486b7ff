use Rattle.std.proofs.Common.{◌≡◌, ◌≤◌, ◌-◌, length, drop, string_bytes}
use Rattle.std.specs.Str.{encode_utf8_all}
use Rattle.zw_def_syntax.specs.Character.{Characters}
use Rattle.zw_def_syntax.specs.Content.{content}
use Rattle.zw_lexer.specs.Content.{ends_at, opens_at, element_by}
use Rattle.zw_lexer.proofs.ContentLemmas.{onto}
use Rattle.zw_lexer.proofs.content.content_of.Given as goal

abbrev pub invariant-elements : goal.invariant-elements
invariant-elements l = record {
  within : l.at ≤ length l.characters;
  read : (front : Characters) × (string_bytes l.held ≡ encode_utf8_all front)
      × (content (ends_at l.start) (opens_at l.start) (element_by l.start) 0 l.characters ≡ onto front l.at (content (ends_at l.start) (opens_at l.start) (element_by l.start) 0 (drop l.at l.characters)));
}

abbrev pub decreases-elements : goal.decreases-elements
decreases-elements l = length l.characters - l.at
