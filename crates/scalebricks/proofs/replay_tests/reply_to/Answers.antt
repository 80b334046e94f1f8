use Rattle.std.proofs.Common.{rules, subst, sym}
use Rattle.flow_types.specs.Size.{Size}
use Rattle.packet_reader.specs.Form.{IsFormed}
use Rattle.packet_reader.specs.declared.mode.Mode.TheVariants.{Replay}
use Rattle.scalebricks.proofs.replay_tests.reply_to.Goals as goal

pub handle-requires : goal.handle-requires
handle-requires g c =
    let formed : IsFormed Replay c.args.shape c.args.event.now = search rules in
    subst (λ (size : Size). IsFormed Replay size c.args.event.now) (sym c.requires) formed
