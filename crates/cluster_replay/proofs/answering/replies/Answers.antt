use Rattle.std.proofs.Common.{◌≡◌, [], ◌∷◌, ◌++◌, arith, rules}
use Rattle.cluster_replay.proofs.Replied.{all_replied, one_replied}
use Rattle.cluster_replay.proofs.answering.replies.Goals as goal

pub events-preserved : goal.events-preserved
events-preserved c =
    let reply = c.in_ok-handle.field-0 in
    let pushed : c.push.new.self.items ≡ c.events.replies.items ++ reply ∷ [] = search rules in
    rw pushed (record {
      so_far = one_replied c.args.cluster.now.cluster c.events.cluster.cluster _ c.args.script.now c.events.event-index _ c.events-test.true c.events.replies.items reply
          c.events.invariant.so_far c.in_ok-handle.ensures.reply c.in_ok-handle.ensures.goes_on;
    })

pub returns : goal.returns
returns c =
    all_replied c.args.cluster.now.cluster c.events.cluster.cluster c.args.script.now c.events.event-index c.events.replies.items (omega arith) c.events.invariant.so_far
