-- What the lines of a source have left.
use Rattle.std.specs.Prelude.{ℕ, List, Option}
use Rattle.zw_def.specs.Told.{held_then, until_end}
use Rattle.zw_io.specs.declared.lines.Lines.{Lines}

module _ {S : Type 0} where
  -- the bytes that are still to be given, where the source tells what it has: those that are held, and until the end of
  -- input is met those that the source has left
  abbrev pub bytes_left : (S → Option (List ℕ)) → Lines S → Option (List ℕ)
  bytes_left left l = held_then l.block (until_end l.is_ended (left l.source.now))
