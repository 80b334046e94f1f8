use Rattle.std.proofs.Common.{◌≡◌, ◌∙◌, ℕ, List, ◌++◌, length, IsOk, ap, arith}
use Rattle.std.proofs.lemmas.Bool.{cond-true}
use Rattle.delta_codec.specs.Spelling.{spelling}
use Rattle.turn_log.proofs.Spelled.{spelled_last}
use Rattle.turn_log.proofs.octets.put_message.Goals as goal

pub returns-clause-spelled : goal.returns-clause-spelled
returns-clause-spelled c =
    let spelled : c.as_slice.result.now ≡ spelling c.args.message.now = c.as_slice.ensures.value ∙ c.encode.ensures.spelled.spelled in
    let done : IsOk c.extend_from_slice.result = c.extend_from_slice.ensures.succeeds (omega (arith, c.requires.room, ap length spelled)) in
    let items : c.extend_from_slice.new.self.items ≡ c.args.octets.now.items ++ spelling c.args.message.now =
    c.extend_from_slice.ensures.items ∙ cond-true _ _ _ done ∙ ap (λ (o : List ℕ). c.args.octets.now.items ++ o) spelled in
    spelled_last c.args.shape c.args.octets.now.items c.extend_from_slice.new.self.items c.len-at.result c.args.message.now c.requires.fits c.requires.sized
    (omega (arith, c.args.octets.now.ok.0, c.len-at.ensures)) items
