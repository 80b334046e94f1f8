-- What a storm's input that was read says, and that its printed replies are a run's text.
use Rattle.std.proofs.Common.{◌≡◌, ◌<◌, ◌^◌, ℕ, true, false, List, length, None, refl, arith}
use Rattle.std.specs.Prelude.{All}
use Rattle.std.proofs.lemmas.List.Elements.{All-weaker}
use Rattle.flow_types.specs.Size.{Size}
use Rattle.flow_reader.specs.declared.opening.Opening.{Opening}
use Rattle.group_search.specs.Build.{past_limit}
use Rattle.packet_reader.specs.declared.event.Event.{Event}
use Rattle.packet_reader.specs.declared.event.Event.TheVariants.{Set, Del, Packet, Carry, Sync}
use Rattle.packet_reader.specs.declared.mode.Mode.TheVariants.{Storm}
use Rattle.packet_reader.specs.Form.{IsFormed, IsRowOf}
use Rattle.run_model.specs.declared.reply.Reply.{Reply}
use Rattle.run_model.specs.Laws.{IsRow}
use Rattle.run_report.specs.Report.{AreOfTheirEvents, report}
use Rattle.run_report.proofs.EventKinds.{allowed_are_of_their_events}
use Rattle.storm_model.specs.Storm.{IsNoCarry}
use Rattle.cluster_open.specs.Input.{opened}
use Rattle.cluster_open.specs.Reading.{IsReadFrom}
use Rattle.cluster_open.specs.Runs.{AreRunReplies, IsRunOf}
use Rattle.cluster_open.proofs.ReadFacts.{counted, runs, scripted}

no-carry : (shape : Size) (event : Event) → IsFormed Storm shape event → IsNoCarry event
no-carry shape (Set flow) formed = tt
no-carry shape (Del key) formed = tt
no-carry shape (Packet ingress key) formed = tt
no-carry shape (Carry node owner turn part) formed = let isnt : false ≡ true = formed.allowed in cc
no-carry shape Sync formed = tt

module _ (octets : List ℕ) (opening : Opening) (script : List Event) (read : IsReadFrom Storm octets opening script) where
  pub no_carries : All IsNoCarry script
  no_carries = All-weaker (IsRowOf Storm opening.shape) IsNoCarry (λ event row. no-carry opening.shape event row.formed) script (scripted Storm octets opening script read).rows

  pub are_rows : All (IsRow (opened opening)) script
  are_rows = All-weaker (IsRowOf Storm opening.shape) (IsRow (opened opening)) (λ event row. record { in_range = row.formed.in_range; value = row.value }) script
      (scripted Storm octets opening script read).rows

  pub few_events : length script < 2 ^ 32
  few_events = let rows_are = counted Storm octets opening script read in omega (arith, rows_are, read.few)

  pub run_of : (lanes : ℕ) (replies : List Reply) → past_limit opening.shape opening.flows ≡ None → AreRunReplies Storm lanes (opened opening) script replies
      → IsRunOf Storm lanes octets (report script replies)
  run_of lanes replies within replied = record {
    input = record { opening = opening; script = script };
    replies = replies;
    runs = runs Storm octets opening script read within;
    replied = replied;
    prints = refl;
  }

-- each reply is of its event
pub of_their_events : (lanes : ℕ) (opening : Opening) (script : List Event) (replies : List Reply) → AreRunReplies Storm lanes (opened opening) script replies
    → AreOfTheirEvents script replies
of_their_events lanes opening script replies replied = allowed_are_of_their_events (opened opening) lanes script replies replied.allowed
