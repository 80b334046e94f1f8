use Rattle.std.proofs.Common.{◌+◌, ◌<◌, ◌≤◌, ℕ, subst}
use Rattle.packet_reader.specs.declared.event.Part.{Part}
use Rattle.run_model.specs.Carrying.{turns_taken}
use Rattle.cluster_replay.proofs.cluster.Cluster.tell.Goals as goal

pub tell_tables-requires-clause-next : goal.tell_tables-requires-clause-next
tell_tables-requires-clause-next c =
    subst (λ (part : Part). (node : ℕ) → node < c.args.self.now.cluster.opened.size.nodes → c.args.turn ≤ turns_taken part c.args.self.now.cluster.nodes node c.args.owner + 1)
    c.in-Table.is c.requires.next

pub tell_fibs-requires-clause-next : goal.tell_fibs-requires-clause-next
tell_fibs-requires-clause-next c =
    subst (λ (part : Part). (node : ℕ) → node < c.args.self.now.cluster.opened.size.nodes → c.args.turn ≤ turns_taken part c.args.self.now.cluster.nodes node c.args.owner + 1)
    c.in-Fib.is c.requires.next
