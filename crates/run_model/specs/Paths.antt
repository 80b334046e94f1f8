-- The paths of a packet at any version between the two ends of its phase.
use Rattle.std.specs.Prelude.{ℕ, ◌<◌, ◌≤◌, length}
use mathlib.Core.List.{IsPrefix}
use Rattle.flow_types.specs.declared.key.FlowKey.{FlowKey}
use Rattle.packet_reader.specs.declared.event.Part.{Part}
use Rattle.packet_reader.specs.declared.event.Part.TheVariants.{Table, Fib}
use Rattle.run_model.specs.declared.reply.Reply.{Reply}
use Rattle.run_model.specs.Allowed.{Cuts, Moment, PathThen}
use Rattle.run_model.specs.Packets.{Stood}
use Rattle.run_model.specs.State.{ClusterOpening, Journals, journal_of}
use Rattle.run_model.specs.Told.{GoesByRecord}

-- the cuts of a part
abbrev pub cuts_of : Part → Moment → Cuts
cuts_of Table m = m.tables
cuts_of Fib m = m.fibs

-- what each lane may have seen at a moment of a phase that ends with these journals: all that was accepted when the phase began, and
-- no less than its cuts
pub record Stands (opened : ClusterOpening) (ends : Journals) (m : Moment) (stood : (lane : ℕ) → Stood) : Type 0 where
  pub grown : (owner : ℕ) → IsPrefix (journal_of m.start owner) (journal_of ends owner)
  pub late : (lane : ℕ) (part : Part) (node owner : ℕ) → node < opened.size.nodes → length (journal_of m.start owner) ≤ stood lane part node owner
  pub cuts : (part : Part) (lane node owner : ℕ) → cuts_of part m lane node owner ≤ stood lane part node owner

-- the reply is a path of the packet at this moment, and goes by the canonical record
pub record IsPathByRecord (opened : ClusterOpening) (lanes : ℕ) (m : Moment) (ends : Journals) (ingress : ℕ) (key : FlowKey) (reply : Reply) : Type 0 where
  pub path : PathThen opened lanes m ends ingress key reply (λ (next : Moment). Unit {0})
  pub by_record : GoesByRecord opened ends key reply
