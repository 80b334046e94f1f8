use Rattle.std.proofs.Common.{Ok, ap, length}
use Rattle.delta_codec.specs.declared.message.Message.{Message}
use Rattle.node_link.specs.declared.taken.Taken.TheVariants.{Item}
use Rattle.node_link.proofs.Letters.{begins, no_refusal, one_message}
use Rattle.node_link.proofs.letter.read_long.Goals as goal

pub unreachable-requires : goal.unreachable-requires
unreachable-requires c =
    no_refusal c.decode.result (c.requires.0, length c.args.letter.items) c.in-Err.field-0
    (c.decode.ensures.only c.requires.0 (length c.args.letter.items) c.requires.1.sized (begins c.args.shape _ _ c.as_slice.ensures c.requires.0 c.requires.1)) c.in-Err.is

pub returns : goal.returns
returns c message is =
    ap (λ (m : Message). Ok (Item m))
    (one_message c.in-Ok.message message c.in-Ok.field-0-1 (length c.args.letter.items)
    (c.in-Ok.ensures.only message (length c.args.letter.items) is.sized (begins c.args.shape _ _ c.as_slice.ensures message is)))
