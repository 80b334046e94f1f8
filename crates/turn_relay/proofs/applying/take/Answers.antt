use Rattle.std.proofs.Common.{◌∙◌, List, Some, refl, sym, subst, ap}
use Rattle.delta_codec.specs.declared.message.Message.{Message}
use Rattle.node_link.specs.Ends.{TakesNext}
use Rattle.node_link.specs.declared.taken.Taken.{Taken}
use Rattle.turn_relay.specs.Follow.{Follow, GoesOn}
use Rattle.turn_relay.specs.PartState.{PartState, link_of}
use Rattle.turn_relay.proofs.Runs.{takes_on}
use Rattle.turn_relay.proofs.applying.take.Goals as goal

pub returns-in-Item : goal.returns-in-Item
returns-in-Item g c =
    let i = c.part.inside in
    let before : PartState = record { size = i.shape; owner = i.owner; table = i.table; fib = i.fib; end = i.end; state = i.state } in
    let acted = c.act_at-part-inside in
    let after : PartState = record {
      size = i.shape;
      owner = i.owner;
      table = acted.new.table;
      fib = acted.new.fib;
      end = Some c.receive.new.end;
      state = acted.result;
    } in
    let took : TakesNext c.in-Some.end c.in-Ok.taken c.receive.new.end = c.in-Ok.ensures.took in
    let item = subst (λ (t : Taken). TakesNext c.in-Some.end t c.receive.new.end) c.in-Item.is took in
    subst (λ (p : PartState). GoesOn p after) c.part.view_is
    (takes_on before after c.in-Some.end c.in-Item.message c.in-Some.is
    (record {
      size = refl;
      owner = refl;
      shard = acted.ensures.shard;
      book = acted.ensures.book;
      opening = acted.ensures.opening;
      link = ap (λ (line : _). Some line) c.receive.ensures.line ∙ sym (ap link_of c.in-Some.is);
    })
    (λ follows. subst (λ (messages : List Message). Follow acted.new.table acted.new.fib messages acted.result) (sym item.1) (acted.ensures.follow c.in-Some.end.messages follows)))
