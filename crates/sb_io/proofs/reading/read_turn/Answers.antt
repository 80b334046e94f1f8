use Rattle.std.proofs.Common.{rules}
use Rattle.std.proofs.lemmas.List.{places}
use Rattle.sb_io.proofs.Streams.{Consumes-appended}
use Rattle.sb_io.proofs.reading.read_turn.Goals as goal

pub returns-in-Ok-clause-given : goal.returns-in-Ok-clause-given
returns-in-Ok-clause-given g c =
    Consumes-appended _ _ _ _ _ _ _ _ _ (search (rules, places)) (search (rules, places)) c.truncate.ensures.items c.in-Ok.ensures.given
