use Rattle.std.proofs.Common.{arith}
use Rattle.sb_io.proofs.Streams.{Appends-piece}
use Rattle.sb_io.proofs.writing.write_all.Goals as goal

pub pieces-preserved : goal.pieces-preserved
pieces-preserved g c =
    let write = c.in-Ok.ensures in
    (omega (arith, write.fits), Appends-piece _ _ _ _ _ _ c.pieces.invariant.1 write.taken, omega (arith, write.never_falls))
