-- What an input comes to is a run's.
use Rattle.std.proofs.Common.{◌≡◌, ◌∙◌, ℕ, List, Option, None, Some, Result, Ok, Err, refl, sym, ap, subst}
use Rattle.std.specs.Prelude.{IfSome}
use Rattle.std.specs.Result.{result_err}
use Rattle.csv_rows.specs.Rows.{rows}
use Rattle.packet_reader.specs.declared.mode.Mode.TheVariants.{Replay}
use Rattle.run_model.specs.declared.reply.Reply.{Reply}
use Rattle.run_model.specs.Allowed.{Allowed}
use Rattle.run_model.proofs.NeverBack.{no_lane_goes_back}
use Rattle.run_model.proofs.OneVersion.{one_version_tells}
use Rattle.run_model.proofs.Records.{replays_go_by_records}
use Rattle.run_model.proofs.Replays.{replays_are_allowed}
use Rattle.run_report.specs.Report.{AreOfTheirEvents, report}
use Rattle.run_report.proofs.EventKinds.{allowed_are_of_their_events}
use Rattle.cluster_open.specs.declared.fault.InputFault.{InputFault}
use Rattle.cluster_open.specs.FirstBad.{CanRun}
use Rattle.cluster_open.specs.Input.{Input, fault_in, input_in, opened}
use Rattle.cluster_open.specs.Runs.{AreRunReplies, IsRunOf}
use Rattle.cluster_open.proofs.FirstBadFacts.{input_law}
use Rattle.cluster_open.proofs.InputFacts.{can_be_run}
use Rattle.cluster_replay.specs.Laws.{ComesToRun}
use Rattle.cluster_replay.specs.Outcome.{Replies, made_of, outcome, outcome_by, replay_replies, replay_report, replayed_input}

-- ---- the replies of a replay

module _ (octets : List ℕ) (input : Input) (runs : CanRun Replay (rows octets) input) where
  allowed : Allowed (opened input.opening) 1 input.script (replayed_input input)
  allowed =
      let law = can_be_run Replay octets in
      replays_are_allowed (opened input.opening) input.script 1 (law.opens input.opening runs.readable.opens runs.within)
      (law.formed input.opening input.script runs.readable).rows

  -- they are a run's
  replied : AreRunReplies Replay 1 (opened input.opening) input.script (replayed_input input)
  replied =
      let cluster = opened input.opening in
      record {
        allowed = allowed;
        by_records = replays_go_by_records cluster input.script;
        at_one_version = one_version_tells cluster 1 input.script (replayed_input input) allowed;
        never_back = no_lane_goes_back cluster 1 input.script (replayed_input input) allowed;
        of_mode = (refl, refl);
      }

  -- and each is of its event
  pub replies_fit : AreOfTheirEvents input.script (replayed_input input)
  replies_fit = allowed_are_of_their_events (opened input.opening) 1 input.script (replayed_input input) allowed

-- ---- what an input comes to

module _ (octets : List ℕ) where
  run-of : (input : Input) → input_in Replay octets ≡ Ok input → IsRunOf Replay 1 octets (replay_report input)
  run-of input says =
      let runs = ((input_law Replay octets).said input).0 says in
      record { input = input; replies = replayed_input input; runs = runs; replied = replied octets input runs; prints = refl }

  is-run : (text : List ℕ) (said : Result Input InputFault) → input_in Replay octets ≡ said → made_of replay_report said ≡ Ok text → IsRunOf Replay 1 octets text
  is-run text (Ok input) says e = let same : replay_report input ≡ text = cc e in subst (IsRunOf Replay 1 octets) same (run-of input says)
  is-run text (Err fault) says e = cc e

  comes-to : (text : List ℕ) → IsRunOf Replay 1 octets text → outcome octets ≡ Ok text
  unfolding outcome_by
  comes-to text r =
      let says = ((input_law Replay octets).said r.input).1 r.runs in
      let with : List Reply → Result (List ℕ) InputFault = λ replies. Ok (report r.input.script replies) in
      let ok : List ℕ → Result (List ℕ) InputFault = λ text. Ok text in
      ap (made_of replay_report) says ∙ ap with (sym r.replied.of_mode.1) ∙ ap ok (sym r.prints)

  has-fault : (fault : InputFault) (said : Result Input InputFault) → made_of replay_report said ≡ Err fault → result_err said ≡ Some fault
  has-fault fault (Ok input) e = cc e
  has-fault fault (Err other) e = let same : other ≡ fault = cc e in ap (λ (f : InputFault). Some f) same

  gives-fault : (fault : InputFault) (said : Result Input InputFault) → result_err said ≡ Some fault → made_of replay_report said ≡ Err fault
  gives-fault fault (Ok input) e = cc e
  gives-fault fault (Err other) e = let same : other ≡ fault = cc e in ap (λ (f : InputFault). Err f) same

pub replays_are_runs : (octets : List ℕ) → ComesToRun octets
unfolding outcome_by
replays_are_runs octets = record {
  printed = λ text. (is-run octets text (input_in Replay octets) refl, comes-to octets text);
  refused = λ fault. (has-fault octets fault (input_in Replay octets), gives-fault octets fault (input_in Replay octets));
}

-- ---- what is made of the script and its replies

module _ {A : Type 0} (made : Input → A) (octets : List ℕ) where
  -- what is made of an input that was read and built
  pub made_of_input : (input : Input) → input_in Replay octets ≡ Ok input → outcome_by made octets ≡ Ok (made input)
  unfolding outcome_by
  made_of_input input says = ap (made_of made) says

  by-fault : (said : Result Input InputFault) (fault : InputFault) → result_err said ≡ Some fault → made_of made said ≡ Err fault
  by-fault (Ok input) fault e = cc e
  by-fault (Err other) fault e = let same : other ≡ fault = cc e in ap (λ (f : InputFault). Err f) same

  -- the fault that is named, if one is
  pub named_of_fault : (named : Option InputFault) → IfSome named (λ fault. fault_in Replay octets ≡ Some fault) → IfSome named (λ fault. outcome_by made octets ≡ Err fault)
  unfolding outcome_by
  named_of_fault None e = e
  named_of_fault (Some fault) e = by-fault (input_in Replay octets) fault e

  in-fault : (said : Result Input InputFault) (fault : InputFault) → made_of made said ≡ Err fault → result_err said ≡ Some fault
  in-fault (Ok input) fault e = cc e
  in-fault (Err other) fault e = let same : other ≡ fault = cc e in ap (λ (f : InputFault). Some f) same

  pub fault_named : (named : Option InputFault) → IfSome named (λ fault. outcome_by made octets ≡ Err fault) → IfSome named (λ fault. fault_in Replay octets ≡ Some fault)
  unfolding outcome_by
  fault_named None e = e
  fault_named (Some fault) e = in-fault (input_in Replay octets) fault e

-- what is made of the script and its replies is what the input comes to by that
module _ {A : Type 0} (f : Replies → A) (octets : List ℕ) where
  abbrev by_f : Input → A
  by_f input = f (replay_replies input)

  pub made_of_replies : (r : Replies) → outcome_by replay_replies octets ≡ Ok r → outcome_by by_f octets ≡ Ok (f r)
  unfolding outcome_by
  made_of_replies r e = by (input_in Replay octets) e
    where
      by : (said : Result Input InputFault) → made_of replay_replies said ≡ Ok r → made_of by_f said ≡ Ok (f r)
      by (Ok input) e = let is : replay_replies input ≡ r = cc e in ap (λ (x : Replies). Ok (f x)) is
      by (Err fault) e = cc e

  pub fault_of_replies : (fault : InputFault) → outcome_by replay_replies octets ≡ Err fault → outcome_by by_f octets ≡ Err fault
  unfolding outcome_by
  fault_of_replies fault e = by (input_in Replay octets) e
    where
      by : (said : Result Input InputFault) → made_of replay_replies said ≡ Err fault → made_of by_f said ≡ Err fault
      by (Ok input) e = cc e
      by (Err other) e = let is : other ≡ fault = cc e in ap (λ (x : InputFault). Err x) is

  -- the fault that is named, if one is
  pub named_of_replies : (named : Option InputFault) → IfSome named (λ reason. outcome_by replay_replies octets ≡ Err reason) → IfSome named (λ reason. outcome_by by_f octets ≡ Err reason)
  named_of_replies None e = e
  named_of_replies (Some fault) e = fault_of_replies fault e
