-- What owners and lanes have said, once every reader was told all: there is a reply to each event, and the merged replies are the phase's.
use Rattle.std.proofs.Common.{◌≡◌, ◌∙◌, ◌<◌, ℕ, List, [], length, sym, subst, arith}
use Rattle.std.proofs.lemmas.List.{ext_get_or}
use Rattle.flow_types.specs.Size.{IsShape}
use Rattle.packet_reader.specs.declared.event.Event.{Event}
use Rattle.run_model.specs.Allowed.{phase_end}
use Rattle.run_model.specs.State.{Journals, ClusterOpening, journal_of}
use Rattle.storm_model.specs.Lists.{IsLater, SaysByLists}
use Rattle.storm_model.specs.Merging.{CanMerge, Queues}
use Rattle.storm_model.specs.Laws.{CanBeSaid, LanesWalkByTurns, PhasesAreSaid}
use Rattle.storm_model.specs.Owners.{own_replies}
use Rattle.storm_model.specs.Run.{AreJournals, WorkersGave}
use Rattle.storm_model.specs.Stood.{Rises, SaysByTurns, WalksByTurns, all_seen}
use Rattle.storm_model.proofs.Joined.{can-merge}
use Rattle.storm_model.proofs.Journals.{journals_go_on}
use Rattle.storm_model.proofs.Lists.{later-on, walk-of-phase}
use Rattle.storm_model.proofs.Phases.{own-end, whole-end}
use Rattle.storm_model.proofs.Walks.{walk-on}

-- a lane that has answered its packets sees more when it is told all, and has then seen the turns of the phase's end
pub lanes_walk_by_turns : LanesWalkByTurns
lanes_walk_by_turns opened lanes lane journals ends packets script replies shape sounds rows gave =
    walk-of-phase opened shape gave.parts journals ends sounds gave.from gave.last gave.before gave.after lanes lane script packets replies rows
    (walk-on IsLater later-on (SaysByLists opened.size gave.parts) lanes lane script gave.from gave.now gave.last packets replies gave.told gave.walk)

module _ (opened : ClusterOpening) (lanes : ℕ) (journals ends : Journals) (packets : ℕ) (script : List Event) (owners by_lane : Queues)
    (shape : IsShape opened.size.nodes opened.size.blocks) (some : 0 < lanes) (gave : WorkersGave opened lanes journals ends packets script owners by_lane) where
  ends-so : phase_end opened journals script ≡ ends
  ends-so =
      ext_get_or [] (phase_end opened journals script) ends (whole-end opened script journals ∙ sym gave.as_many)
      (λ owner low.
      let within : owner < length journals = omega (arith, low, whole-end opened script journals) in
      own-end opened script journals owner gave.one within ∙ sym (gave.owned owner within).accepted)

  fit-next : AreJournals opened ends
  fit-next = subst (AreJournals opened) ends-so (journals_go_on opened journals script shape gave.one gave.rows gave.fit)

  owned : (owner : ℕ) → owner < length journals → owners owner ≡ own_replies opened owner (journal_of journals owner) script
  owned owner low = (gave.owned owner low).said

  walked : (lane : ℕ) → lane < lanes → WalksByTurns opened ends lanes lane (all_seen opened journals) packets script (by_lane lane) (all_seen opened ends)
  walked lane low = lanes_walk_by_turns opened lanes lane journals ends packets script (by_lane lane) shape fit-next.sounds gave.rows (gave.walked lane low)

  can : CanMerge opened.size lanes owners by_lane packets script
  can =
      can-merge Rises (SaysByTurns opened ends) opened shape lanes some script packets journals (λ (lane : ℕ). all_seen opened journals) (λ (lane : ℕ). all_seen opened ends) owners by_lane
      gave.one gave.fit.whole owned walked

  can-be-said : CanBeSaid opened lanes journals ends packets script owners by_lane
  can-be-said = record {
    can = can;
    said = λ replies merged. record {
      owners = owners;
      by_lane = by_lane;
      rows = gave.rows;
      ends_so = ends-so;
      owned = owned;
      walked = walked;
      merged = merged;
    };
    fit = fit-next;
  }

pub phases_are_said : PhasesAreSaid
phases_are_said = can-be-said
