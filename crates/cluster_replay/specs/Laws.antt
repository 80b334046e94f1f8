-- What holds of every input that is replayed.
use Rattle.std.specs.Prelude.{◌≡◌, ◌↔◌, ℕ, List, Some, Ok, Err}
use Rattle.packet_reader.specs.declared.mode.Mode.TheVariants.{Replay}
use Rattle.cluster_open.specs.declared.fault.InputFault.{InputFault}
use Rattle.cluster_open.specs.Input.{fault_in}
use Rattle.cluster_open.specs.Runs.{IsRunOf}
use Rattle.cluster_replay.specs.Outcome.{outcome}

-- an input comes to a text exactly where that is a run's, on one lane, and to a fault exactly where it has that
pub record ComesToRun (octets : List ℕ) : Type 0 where
  pub printed : (text : List ℕ) → (outcome octets ≡ Ok text) ↔ IsRunOf Replay 1 octets text
  pub refused : (fault : InputFault) → (outcome octets ≡ Err fault) ↔ (fault_in Replay octets ≡ Some fault)
