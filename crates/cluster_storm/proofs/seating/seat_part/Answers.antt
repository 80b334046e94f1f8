use Rattle.std.proofs.Common.{sym}
use Rattle.cluster_storm.proofs.seating.seat_part.Goals as goal

pub returns-in-Ok-clause-given : goal.returns-in-Ok-clause-given
returns-in-Ok-clause-given g c = rw (c.in-Ok.ensures.kept, sym c.from.ensures) c.in-Ok.ensures.given
