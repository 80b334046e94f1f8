-- How an input can be run.
use Rattle.std.specs.Prelude.{◌≡◌, ◌≤◌}
use Rattle.packet_reader.specs.declared.mode.Mode.TheVariants.{Replay}
use Rattle.scalebricks.specs.declared.input_run.InputRun.{InputRun}

-- an input is run by 1 to 64 workers and 1 to 8 lanes; a replay has one lane
pub record IsInputRun (how : InputRun) : Type 0 where
  pub some_worker : 1 ≤ how.workers
  pub few_workers : how.workers ≤ 64
  pub some_lane : 1 ≤ how.lanes
  pub few_lanes : how.lanes ≤ 8
  pub lane_of_replay : how.mode ≡ Replay → how.lanes ≡ 1
