-- The numbers after the events that are left are those after all.
use Rattle.std.proofs.Common.{◌≡◌, ◌+◌, ◌≤◌, drop}
use Rattle.storm_model.specs.Phase.{packets_after}
use Rattle.cluster_storm.proofs.phases.numbers_after.Given as goal

abbrev pub invariant-events : goal.invariant-events
invariant-events l = record {
  packets : packets_after l.next.packet (drop l.event-index l.events) ≡ packets_after l.fn.first.packet l.events;
  packets_within : l.next.packet ≤ l.fn.first.packet + l.event-index;
  updates_within : l.next.update ≤ l.fn.first.update + l.event-index;
}
