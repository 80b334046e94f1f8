-- The reply to a packet in a replay is a path of the model.
use Rattle.std.proofs.Common.{◌≡◌, ◌+◌, ◌<◌, ◌≤◌, ℕ, length, subst}
use mathlib.Core.List.{IsPrefix}
use Rattle.flow_types.proofs.Prefixes.{prefix_trans}
use Rattle.flow_types.specs.declared.key.FlowKey.{FlowKey}
use Rattle.flow_types.specs.Size.{IsShape}
use Rattle.flow_types.specs.Key.{IsKeyValue}
use Rattle.packet_reader.specs.declared.event.Part.{Part}
use Rattle.packet_reader.specs.declared.event.Part.TheVariants.{Table, Fib}
use Rattle.run_model.specs.declared.reply.Reply.{Reply}
use Rattle.run_model.specs.Allowed.{Cuts, Moment, PathThen}
use Rattle.run_model.specs.Carrying.{turns_taken}
use Rattle.run_model.specs.Packets.{Stood, first_changes, packet_reply, reply_by_turns, reply_sent}
use Rattle.run_model.specs.Paths.{Stands, cuts_of}
use Rattle.run_model.specs.Sound.{AreSoundJournals}
use Rattle.run_model.specs.State.{ClusterOpening, Journals, home_of_key, journal_of, owner_of_group}
use Rattle.run_model.proofs.Cuts.{grown-take}
use Rattle.run_model.proofs.Parts.{sent_after}
use Rattle.run_model.proofs.Paths.{path-then}
use Rattle.run_model.proofs.Taking.{WereSent}

-- what holds of each moment of a replay
pub record IsInReplay (opened : ClusterOpening) (m : Moment) : Type 0 where
  pub one_each : length m.nodes ≡ opened.size.nodes
  pub grown : (owner : ℕ) → IsPrefix (journal_of m.start owner) (journal_of m.now owner)
  pub sounds : AreSoundJournals opened m.now
  pub sent : WereSent m.now m.nodes
  pub late : (part : Part) (node owner : ℕ) → node < opened.size.nodes → length (journal_of m.start owner) ≤ turns_taken part m.nodes node owner
  pub cuts : (part : Part) (lane node owner : ℕ) → cuts_of part m lane node owner ≤ turns_taken part m.nodes node owner

module _ (opened : ClusterOpening) (shape : IsShape opened.size.nodes opened.size.blocks) (m : Moment) (stands : IsInReplay opened m) (end : Journals)
    (ends : (owner : ℕ) → IsPrefix (journal_of m.now owner) (journal_of end owner)) (sounds : AreSoundJournals opened end) where
  -- each lane sees what the nodes have taken
  abbrev stood : Stood
  stood part node owner = turns_taken part m.nodes node owner

  all_stand : Stands opened end m (λ (lane : ℕ). stood)
  all_stand = record {
    grown = λ owner. prefix_trans (journal_of m.start owner) (journal_of m.now owner) (journal_of end owner) (stands.grown owner) (ends owner);
    late = λ lane part node owner low. stands.late part node owner low;
    cuts = stands.cuts;
  }

  module _ (key : FlowKey) (value : IsKeyValue key) (lanes ingress : ℕ) (entered : ingress < opened.size.nodes) where
    abbrev owner : ℕ
    owner = owner_of_group opened (home_of_key opened key)

    -- what nodes have taken of an owner's turns doesn't depend on what it accepts later
    same_first : (part : Part) (node : ℕ) → first_changes opened end key (stood part node owner) ≡ first_changes opened m.now key (stood part node owner)
    same_first part node = grown-take (journal_of m.now owner) (journal_of end owner) (stood part node owner) (ends owner) (stands.sent part node owner)

    same_reply : reply_by_turns opened end stood ingress key ≡ packet_reply opened m.now m.nodes ingress key
    unfolding packet_reply
    same_reply =
        λ i. reply_sent opened (same_first Table ingress i) (λ (node : ℕ). same_first Fib node i) key (sent_after opened (same_first Table ingress i) key)

    -- the reply to a packet is a path, and the run goes on from a moment of a replay
    pub packet-path : (Rest : Moment → Type 0)
        → ((packets : ℕ) (tables fibs : Cuts) → IsInReplay opened (record m { packets = packets; tables = tables; fibs = fibs })
        → Rest (record m { packets = packets; tables = tables; fibs = fibs }))
        → PathThen opened lanes m end ingress key (packet_reply opened m.now m.nodes ingress key) Rest
    packet-path Rest goes_on =
        subst (λ (reply : Reply). PathThen opened lanes m end ingress key reply Rest) same_reply
        (path-then opened shape end sounds m (λ (lane : ℕ). stood) all_stand key value lanes ingress entered Rest
        (λ (tables fibs : Cuts) (then : Stands opened end (record m { packets = m.packets + 1; tables = tables; fibs = fibs }) (λ (lane : ℕ). stood)).
        goes_on (m.packets + 1) tables fibs (record {
          one_each = stands.one_each;
          grown = stands.grown;
          sounds = stands.sounds;
          sent = stands.sent;
          late = stands.late;
          cuts = then.cuts;
        })))
