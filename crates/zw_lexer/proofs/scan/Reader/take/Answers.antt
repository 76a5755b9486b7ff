use Rattle.std.proofs.Common.{◌≡◌, ◌≤◌, take, length, arith, rules, ap}
use Rattle.zw_lexer.proofs.PlaceLemmas.{bytes, bytes_split}
use Rattle.zw_lexer.proofs.scan.Reader.take.Goals as goal

pub after-last-requires : goal.after-last-requires
after-last-requires c =
    let taken : c.split_at.result.0.now ≡ take c.args.piece.size c.args.characters.now = search rules in
    let size : length c.split_at.result.0.now ≤ length c.args.characters.now = search rules in
    let room : bytes c.split_at.result.0.now ≡ bytes (take c.args.piece.size c.args.characters.now) = ap bytes taken in
    (omega (arith, size, c.requires.room.0), omega (arith, room, bytes_split c.args.piece.size c.args.characters.now, c.requires.room.1))
