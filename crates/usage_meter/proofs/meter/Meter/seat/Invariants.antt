use Rattle.usage_meter.proofs.meter.Meter.seat.Given as goal

abbrev pub ghosts-share : goal.ghosts-share
ghosts-share a = record { ration = a.part }
