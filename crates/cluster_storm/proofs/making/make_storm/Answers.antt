use Rattle.cluster_storm.proofs.Made.{are_new, senders_numbered}
use Rattle.cluster_storm.proofs.making.make_storm.Goals as goal

pub owners_of-requires-clause-senders : goal.owners_of-requires-clause-senders
owners_of-requires-clause-senders g c = senders_numbered c.args.shape c.args.flows c.args.parts.owners.items c.requires.owners

pub join-requires-clause-owners : goal.join-requires-clause-owners
join-requires-clause-owners g c =
    rw (c.as_slice-2.ensures, c.as_mut_slice.ensures.value)
    (are_new c.args.shape c.args.flows c.args.parts.owners.items c.requires.owners c.in_ok-owners.owners.items c.in_ok-owners.ensures.of c.in_ok-owners.ensures.unlinked)

pub join-requires-clause-readers : goal.join-requires-clause-readers
join-requires-clause-readers g c = rw c.as_mut_slice-2.ensures.value c.in_ok-appliers.ensures.readers
