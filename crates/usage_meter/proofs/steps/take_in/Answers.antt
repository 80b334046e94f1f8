use Rattle.usage_meter.proofs.Keeps.{joins}
use Rattle.usage_meter.proofs.steps.take_in.Goals as goal

pub join_seat-requires : goal.join_seat-requires
join_seat-requires c = (c.requires.own.0, c.requires.own.1, c.requires.live.1.bare, c.requires.wide, joins _ _ _ _ _ c.requires.live.0.live c.requires.live.1.live)
