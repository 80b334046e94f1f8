use Rattle.bucket_arena.proofs.Written.{within, still_written}
use Rattle.bucket_arena.proofs.Writing.{before_chain}
use Rattle.bucket_arena.proofs.chain.release.Goals as goal

pub returns-clause-numbers : goal.returns-clause-numbers
returns-clause-numbers g c =
    before_chain c.args.row.now c.write.new.self c.args.number c.args.item c.requires.written.0 c.requires.written.1 c.args.free c.write.ensures c.requires.apart

pub returns-clause-written : goal.returns-clause-written
returns-clause-written g c =
    still_written c.args.row.now c.write.new.self c.args.number (record { item = c.args.item; next = c.args.free.first }) c.write.ensures
    (within c.args.row.now c.args.number c.requires.written.0 c.requires.written.1)
