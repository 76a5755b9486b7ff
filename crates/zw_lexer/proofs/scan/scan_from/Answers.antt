use Rattle.std.proofs.Common.{◌≡◌, ◌+◌, ◌-◌, ◌<◌, ◌≤◌, List, ℕ, map, option_map, Ok, Err, take, drop, length, arith, rules, ap, sym, ◌∙◌}
use Rattle.std.proofs.lemmas.List.{length-drop, length-take, drop-drop}
use Rattle.zw_def_syntax.specs.Scan.{Opening, Scanned, piece_in, scanned, with_piece, at_end}
use Rattle.zw_def_syntax.specs.Character.{after_characters}
use Rattle.zw_lexer.specs.Fault.{fault_seen}
use Rattle.zw_lexer.specs.Lexeme.{piece_seen, Locates}
use Rattle.zw_lexer.specs.declared.scan.Scan.{Scan}
use Rattle.std.proofs.Common.{[], subst}
use Rattle.zw_lexer.specs.Place.{place_seen, nest_seen}
use Rattle.zw_lexer.specs.Scan.{raw_seen, onto, scan_seen, EndsAs}
use Rattle.zw_lexer.proofs.PlaceLemmas.{bytes, bytes_split, byte_after, line_after}
use Rattle.zw_lexer.proofs.ScanLemmas.{map_IfOk, size_of_piece, piece_read, ends_with_fault, ends_at_end}
use Rattle.zw_lexer.proofs.scan.scan_from.Goals as goal

pub returns-in-Err : goal.returns-in-Err
returns-in-Err c =
    let rest = c.after-rest.result.now in
    let size : length rest ≡ length c.args.characters.now - c.pieces.at = ap (λ (cs : List ℕ). length cs) c.after-rest.ensures ∙ length-drop c.pieces.at c.args.characters.now in
    let nest = nest_seen c.pieces.reader.nest.items in
    let place = place_seen c.pieces.reader.place in
    let front = map raw_seen c.pieces.reader.tokens.items in
    let read : Locates (Err c.in-Err.fault) (piece_in nest place rest) = subst (λ ns. Locates (Err c.in-Err.fault) (piece_in (nest_seen ns) place rest)) c.deref.ensures.value c.in-Err.ensures in
    let fits : (s : Scan) → EndsAs front (piece_in nest place rest) (scan_seen s) → scan_seen s ≡ scanned 0 [] (place_seen c.args.first) c.args.characters.now =
    λ s ends. ends_with_fault nest place rest front (scan_seen s) (omega (arith, size, c.pieces-test.true)) ends ∙ ap (λ ds. onto front (scanned 0 nest place ds)) c.after-rest.ensures ∙ c.pieces.invariant.read in
    map_IfOk c.ended.result _ _ (λ s told. fits s (told (piece_in nest place rest) read)) c.ended.ensures

pub overflow_add-at : goal.overflow_add-at
overflow_add-at c =
    let size : length c.after-rest.result.now ≡ length c.args.characters.now - c.pieces.at = ap (λ (cs : List ℕ). length cs) c.after-rest.ensures ∙ length-drop c.pieces.at c.args.characters.now in
    let (some, few) = size_of_piece _ _ c.after-rest.result.now _ (omega (arith, size, c.pieces-test.true)) c.in-Ok.ensures in
    omega (arith, size, few)

pub take-requires-clause-within : goal.take-requires-clause-within
take-requires-clause-within c =
    let size : length c.after-rest.result.now ≡ length c.args.characters.now - c.pieces.at = ap (λ (cs : List ℕ). length cs) c.after-rest.ensures ∙ length-drop c.pieces.at c.args.characters.now in
    (size_of_piece _ _ c.after-rest.result.now _ (omega (arith, size, c.pieces-test.true)) c.in-Ok.ensures).1

pub pieces-smaller : goal.pieces-smaller
pieces-smaller c =
    let size : length c.after-rest.result.now ≡ length c.args.characters.now - c.pieces.at = ap (λ (cs : List ℕ). length cs) c.after-rest.ensures ∙ length-drop c.pieces.at c.args.characters.now in
    let (some, few) = size_of_piece _ _ c.after-rest.result.now _ (omega (arith, size, c.pieces-test.true)) c.in-Ok.ensures in
    omega (arith, size, few, some, c.pieces-test.true)

pub pieces-preserved : goal.pieces-preserved
pieces-preserved c =
    let rest = c.after-rest.result.now in
    let n = c.in-Ok.piece.size in
    let size : length rest ≡ length c.args.characters.now - c.pieces.at = ap (λ (cs : List ℕ). length cs) c.after-rest.ensures ∙ length-drop c.pieces.at c.args.characters.now in
    let left : 0 < length rest = omega (arith, size, c.pieces-test.true) in
    let (some, few) = size_of_piece _ _ rest _ left c.in-Ok.ensures in
    let place : place_seen c.take.new.self.place ≡ after_characters (take n rest) (place_seen c.pieces.reader.place) = search rules in
    let later : drop n rest ≡ drop (c.pieces.at + n) c.args.characters.now = ap (drop n) c.after-rest.ensures ∙ drop-drop n c.pieces.at c.args.characters.now in
    let line : c.take.new.self.place.line ≤ c.pieces.reader.place.line + length (take n rest) = rw (ap (λ p. p.line) place) (line_after (take n rest) (place_seen c.pieces.reader.place)) in
    let byte : c.take.new.self.place.byte ≡ c.pieces.reader.place.byte + bytes (take n rest) = ap (λ p. p.byte) place ∙ byte_after (take n rest) (place_seen c.pieces.reader.place) in
    let room = bytes_split n rest in
    let read : piece_in (nest_seen c.pieces.reader.nest.items) (place_seen c.pieces.reader.place) rest ≡ Ok (piece_seen c.in-Ok.piece) = ap (λ ns. piece_in (nest_seen ns) (place_seen c.pieces.reader.place) rest) (sym c.deref.ensures.value) ∙ c.in-Ok.ensures in
    let takes : (more : List Opening → Scanned) → onto (map raw_seen c.take.new.self.tokens.items) (more (nest_seen c.take.new.self.nest.items)) ≡ onto (map raw_seen c.pieces.reader.tokens.items) (with_piece (piece_seen c.in-Ok.piece).kind (place_seen c.pieces.reader.place) (place_seen c.take.new.self.place) (drop n rest) (nest_seen c.pieces.reader.nest.items) more) = c.in_ok-take-in-Ok.ensures.tokens in
    record {
      within = omega (arith, size, few, c.pieces-test.true);
      line = omega (arith, line, length-take n rest, size, few, length-drop (c.pieces.at + n) c.args.characters.now, length-drop c.pieces.at c.args.characters.now, c.pieces.invariant.line, c.pieces-test.true);
      byte = omega (arith, byte, room, ap bytes later, ap bytes c.after-rest.ensures, c.pieces.invariant.byte);
      read = piece_read (nest_seen c.pieces.reader.nest.items) (nest_seen c.take.new.self.nest.items) (place_seen c.pieces.reader.place) (place_seen c.take.new.self.place) rest c.args.characters.now c.pieces.at (piece_seen c.in-Ok.piece) (map raw_seen c.pieces.reader.tokens.items) (map raw_seen c.take.new.self.tokens.items) _ c.after-rest.ensures left read place takes c.pieces.invariant.read;
    }

pub returns : goal.returns
returns c =
    let rest = drop c.pieces.at c.args.characters.now in
    let nest = nest_seen c.pieces.reader.nest.items in
    let place = place_seen c.pieces.reader.place in
    let front = map raw_seen c.pieces.reader.tokens.items in
    let none : length rest ≡ 0 = omega (arith, length-drop c.pieces.at c.args.characters.now, c.pieces-test.false) in
    let fault : option_map fault_seen c.fault_at_end.result ≡ (at_end nest).fault = c.fault_at_end.ensures ∙ ap (λ ns. (at_end (nest_seen ns)).fault) c.deref-2.ensures.value in
    (λ i. record { tokens = front; fault = fault i }) ∙ ends_at_end nest place rest front none ∙ c.pieces.invariant.read
