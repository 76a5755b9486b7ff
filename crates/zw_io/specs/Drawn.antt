-- What is drawn from a source: how its bytes become bytes that are held, and these become bytes that are given.
use Rattle.std.specs.Prelude.{◌≡◌, ◌≤◌, ◌+◌, ◌∷◌, ℕ, true, Option, Some, None, Result, Ok, Err, IfSome, [], length}
use Rattle.zw_def.specs.Text.{Text}
use Rattle.zw_def.specs.Told.{Draws}
use Rattle.zw_io.specs.declared.lines.Lines.{Lines}
use Rattle.zw_io.specs.declared.lines.LinesFault.{LinesFault}
use Rattle.zw_io.specs.declared.lines.LinesFault.TheVariants.{ReadFault, TooMuch, Memory}

module _ {S : Type 0} where
  -- what a call draws, where the source tells what it has left
  abbrev pub DrawsFrom : (S → Option Text) → Lines S → Lines S → Type 0
  DrawsFrom left old new =
      IfSome (left old.source.now) (λ bytes.
      Draws bytes (length old.block) old.room (left new.source.now) (length new.block) new.room)

  -- no more bytes are held than may be given and one more; and once the end of input is met, the source has none left
  pub record IsSound (left : S → Option Text) (lines : Lines S) : Type 0 where
    pub within : length lines.block ≤ lines.room + 1
    pub ended : lines.is_ended ≡ true → IfSome (left lines.source.now) (λ bytes. bytes ≡ [])

-- of bytes that are held the first one is given, or all are kept where no more may be given
abbrev pub Pops : Result (Option ℕ) LinesFault → Text → Text → Type 0
Pops (Ok (Some b)) old new = old ≡ b ∷ new
Pops (Ok None) old new = ⊥
Pops (Err TooMuch) old new = new ≡ old
Pops (Err ReadFault) old new = ⊥
Pops (Err Memory) old new = ⊥
