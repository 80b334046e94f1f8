use Rattle.std.proofs.Common.{[], refl, arith}
use Rattle.std.proofs.KnownBytes.{Consumes-more}
use Rattle.sb_io.proofs.reading.read_all.Goals as goal

pub turns-preserved : goal.turns-preserved
turns-preserved g c =
    let turn = c.in_ok-read_turn.ensures in
    (omega (arith, turn.count), Consumes-more _ _ _ [] _ _ refl turn.before c.turns.invariant.1 turn.given, omega (arith, turn.never_falls))
