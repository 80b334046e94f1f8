use Rattle.std.proofs.Common.{Ok, ◌∙◌, ap, length, sym}
use Rattle.delta_codec.specs.declared.message.Message.{Message}
use Rattle.delta_codec.specs.Short.{message_of}
use Rattle.node_link.specs.declared.taken.Taken.TheVariants.{Item}
use Rattle.node_link.proofs.Letters.{begins}
use Rattle.node_link.proofs.letter.read.Goals as goal

pub returns-in-Ok-Some : goal.returns-in-Ok-Some
returns-in-Ok-Some c message is =
    let same = rw (c.in-Ok-Some.field-0-is) at c.in-Ok-Some.ensures.only message (length c.args.letter.items) is.sized (begins c.args.shape _ _ c.as_slice.ensures message is) in
    c.short_item.ensures ∙ ap (λ (m : Message). Ok (Item m)) (ap message_of (sym c.in-Ok-Some.short-is) ∙ same.0)
