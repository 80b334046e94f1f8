use Rattle.std.proofs.Common.{[], ◌∷◌, arith}
use Rattle.std.specs.List.{flat_map}
use Rattle.group_search.specs.declared.record.GroupRecord.TheVariants.{Served}
use Rattle.delta_codec.specs.declared.message.Message.TheVariants.{Table}
use Rattle.delta_codec.specs.Spelling.{content_octets, head, pair_octets}
use Rattle.delta_codec.proofs.Begins.{begins}
use Rattle.delta_codec.proofs.Lengths.{pairs-long}
use Rattle.delta_codec.proofs.Standing.{Stand-append}
use Rattle.delta_codec.proofs.starting.read_content_start.Goals as goal

pub returns-in_ok-served-in-0-clause-starts : goal.returns-in_ok-served-in-0-clause-starts
returns-in_ok-served-in-0-clause-starts c =
    let bytes = c.args.bytes.now in
    let h = c.args.at_head in
    let served = c.in_ok-served-in-0.served in
    let read = c.in_ok-served-in-0.ensures in
    let content = Stand-append bytes 7 8 (0 ∷ []) (flat_map pair_octets served) (omega arith) (rw (c.in-0.is) at c.in_ok-take_octet.ensures.stands) read.stands in
    let whole = Stand-append bytes 0 7 (head 0x11 h.owner h.turn h.block h.group) (content_octets (Served served)) (omega arith) c.requires.stands content in
    rw (c.from.ensures) (
      begins c.args.shape bytes (Table (record { owner = h.owner; turn = h.turn; block = h.block; group = h.group; content = Served served })) c.in_ok-served-in-0.used
          (c.requires.fits, read.one_each) whole (omega (arith, read.end, pairs-long served)),
      (
        record { owner_fits = omega arith; turn_fits = omega arith; block_fits = omega arith; group_fits = omega arith },
        read.sized,
      ),
    )
