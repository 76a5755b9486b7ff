use Rattle.std.proofs.Common.{rules}
use Rattle.std.specs.Char.{is_ascii_hexdigit}
use Rattle.zw_lexer.proofs.FrontLemmas.{front_all}
use Rattle.zw_lexer.proofs.content.unicode_escape.Goals as goal

pub character_of-requires-clause-digits : goal.character_of-requires-clause-digits
character_of-requires-clause-digits c = front_all is_ascii_hexdigit c.args.characters.now _ (c.front_length-size.ensures.size is_ascii_hexdigit (search rules))
