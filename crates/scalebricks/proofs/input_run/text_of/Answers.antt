use Rattle.std.proofs.Common.{◌≡◌, ℕ, subst, sym}
use Rattle.packet_reader.specs.declared.mode.Mode.{Mode}
use Rattle.cluster_open.specs.Reading.{IsReadFrom}
use Rattle.cluster_open.specs.Runs.{AnswersRun}
use Rattle.scalebricks.proofs.input_run.text_of.Goals as goal

pub replay_input-requires-clause-read : goal.replay_input-requires-clause-read
replay_input-requires-clause-read g c κs within =
    (c.args.bytes.items, subst (λ (mode : Mode). IsReadFrom mode c.args.bytes.items c.in-Ok.input.opening c.in-Ok.input.script.items) c.in-Replay.is c.in-Ok.ensures.read)

pub storm_input-requires-clause-read : goal.storm_input-requires-clause-read
storm_input-requires-clause-read g c κs within =
    (c.args.bytes.items, subst (λ (mode : Mode). IsReadFrom mode c.args.bytes.items c.in-Ok.input.opening c.in-Ok.input.script.items) c.in-Storm.is c.in-Ok.ensures.read)

pub returns-in-Replay : goal.returns-in-Replay
returns-in-Replay g c =
    let bytes = c.args.bytes.items in
    let read = subst (λ (mode : Mode). IsReadFrom mode bytes c.in-Ok.input.opening c.in-Ok.input.script.items) c.in-Replay.is c.in-Ok.ensures.read in
    subst (λ (lanes : ℕ). AnswersRun c.args.how.mode lanes bytes c.replay_input.result) (sym (c.requires.in_range.lane_of_replay c.in-Replay.is))
    (subst (λ (mode : Mode). AnswersRun mode 1 bytes c.replay_input.result) (sym c.in-Replay.is) (c.replay_input.ensures.run bytes read))

pub returns-in-Storm : goal.returns-in-Storm
returns-in-Storm g c =
    let bytes = c.args.bytes.items in
    let read = subst (λ (mode : Mode). IsReadFrom mode bytes c.in-Ok.input.opening c.in-Ok.input.script.items) c.in-Storm.is c.in-Ok.ensures.read in
    subst (λ (mode : Mode). AnswersRun mode c.args.how.lanes bytes c.storm_input.result) (sym c.in-Storm.is) (c.storm_input.ensures bytes read)
