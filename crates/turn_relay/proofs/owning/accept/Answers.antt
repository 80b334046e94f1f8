use Rattle.turn_relay.proofs.Sends.{nothing_sent}
use Rattle.turn_relay.proofs.owning.accept.Goals as goal

pub returns-in-Err-clause-sent : goal.returns-in-Err-clause-sent
returns-in-Err-clause-sent g c =
    nothing_sent c.args.shape c.args.number c.args.flows.now c.args.sender.now c.accept.new.self c.args.ends.now c.in-Err.ensures.refused c.refused.result
