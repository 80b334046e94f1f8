-- An input says an opening and a script, or its fault is its first bad row, or its first block past a limit.
use Rattle.std.proofs.Common.{◌≡◌, ◌∙◌, ℕ, List, drop, Option, Some, None, Result, Ok, Err, refl, ap, subst, inl, inr}
use Rattle.csv_rows.specs.Rows.{Row, rows}
use Rattle.flow_types.specs.declared.why.BadRow.{BadRow}
use Rattle.flow_reader.specs.FirstBad.{OpeningLaw}
use Rattle.flow_reader.specs.Opening.{opening_of}
use Rattle.flow_reader.specs.declared.opening.Opening.{Opening}
use Rattle.flow_reader.proofs.FirstBadFacts.{opening-law}
use Rattle.group_search.specs.Build.{PastLimit, past_limit}
use Rattle.group_search.specs.Build.PastLimit.{TooManyFlows, TooManyRows}
use Rattle.packet_reader.specs.declared.event.Event.{Event}
use Rattle.packet_reader.specs.declared.mode.Mode.{Mode}
use Rattle.packet_reader.specs.Events.{events_in}
use Rattle.packet_reader.specs.FirstBad.{ScriptLaw}
use Rattle.packet_reader.specs.Script.{script_of}
use Rattle.packet_reader.proofs.FirstBadFacts.{script-law}
use Rattle.cluster_open.specs.declared.fault.InputFault.{InputFault}
use Rattle.cluster_open.specs.declared.fault.InputFault.TheVariants.{Bad, BlockFull, RowsFull}
use Rattle.cluster_open.specs.FirstBad.{AreReadable, CanRun, InputLaw, IsFirstBadRow, IsPast}
use Rattle.cluster_open.specs.Input.{Input, input_in, input_of_build, input_of_rows}
use Rattle.cluster_open.specs.Limits.{fault_of_limit}

module _ (mode : Mode) (all : List Row) where
  -- what all rows say
  says : Result Input InputFault
  says = input_of_rows mode all (opening_of all)

  law : OpeningLaw all
  law = opening-law all

  script_in : Opening → Result (List Event) BadRow
  script_in opening = script_of (events_in mode opening.shape) opening.begin_row (drop opening.begin_row all)

  script_law : (opening : Opening) → ScriptLaw (events_in mode opening.shape) opening.begin_row (drop opening.begin_row all)
  script_law opening = script-law (events_in mode opening.shape) opening.begin_row (drop opening.begin_row all)

  -- what is read, and what it says then: an opening and a script, a bad row, or a block
  data Read : Type 0 where
    Runs : (input : Input) → CanRun mode all input → says ≡ Ok input → Read
    Past : (opening : Opening) (script : List Event) (past : PastLimit) → AreReadable mode all opening script → past_limit opening.shape opening.flows ≡ Some past
        → says ≡ Err (fault_of_limit past) → Read
    First : (bad : BadRow) → IsFirstBadRow mode all bad → says ≡ Err (Bad bad) → Read

  read : Read
  unfolding says script_in
  read = by (opening_of all) refl
    where
      with_past : (opening : Opening) (script : List Event) → AreReadable mode all opening script
          → says ≡ input_of_build opening script (past_limit opening.shape opening.flows) → (past : Option PastLimit) → past_limit opening.shape opening.flows ≡ past → Read
      with_past opening script readable is None within =
          Runs (record { opening = opening; script = script }) (record { readable = readable; within = within }) (is ∙ ap (input_of_build opening script) within)
      with_past opening script readable is (Some past) first = Past opening script past readable first (is ∙ ap (input_of_build opening script) first)

      with_script : (opening : Opening) → opening_of all ≡ Ok opening → (o : Result (List Event) BadRow) → script_in opening ≡ o → Read
      with_script opening opens (Err bad) goes_on =
          First bad (inr (opening, (law.made opening).0 opens, ((script_law opening).bad bad).0 goes_on)) (rw (opens, goes_on) refl)
      with_script opening opens (Ok script) goes_on =
          with_past opening script
          (record { opens = (law.made opening).0 opens; goes_on = ((script_law opening).made script).0 goes_on })
          (rw (opens, goes_on) refl) (past_limit opening.shape opening.flows) refl

      by : (o : Result Opening BadRow) → opening_of all ≡ o → Read
      by (Err bad) opens = First bad (inl ((law.bad bad).0 opens)) (rw opens refl)
      by (Ok opening) opens = with_script opening opens (script_in opening) refl

  can-run : (input : Input) → Read → says ≡ Ok input → CanRun mode all input
  can-run input (Runs other runs is) e =
      let same : other ≡ input = cc in
      subst (CanRun mode all) same runs
  can-run input (Past opening script past readable first is) e = absurd cc
  can-run input (First bad first is) e = absurd cc

  gives-input : (input : Input) → CanRun mode all input → says ≡ Ok input
  unfolding says
  gives-input input r =
      let opens = (law.made input.opening).1 r.readable.opens in
      let goes_on = ((script_law input.opening).made input.script).1 r.readable.goes_on in
      rw (opens, goes_on, r.within) refl

  is-full : (block : ℕ) → Read → says ≡ Err (BlockFull block) → IsPast mode all (TooManyFlows block)
  is-full block (Runs input runs is) e = absurd cc
  is-full block (Past opening script (TooManyFlows other) readable first is) e =
      let same : other ≡ block = cc in
      record { opening = opening; script = script; readable = readable; first = first ∙ ap (λ (b : ℕ). Some (TooManyFlows b)) same }
  is-full block (Past opening script (TooManyRows other needed) readable first is) e = absurd cc
  is-full block (First bad first is) e = absurd cc

  is-rows : (block : ℕ) → Read → says ≡ Err (RowsFull block) → (needed : ℕ) × IsPast mode all (TooManyRows block needed)
  is-rows block (Runs input runs is) e = absurd cc
  is-rows block (Past opening script (TooManyFlows other) readable first is) e = absurd cc
  is-rows block (Past opening script (TooManyRows other needed) readable first is) e =
      let same : other ≡ block = cc in
      (needed, record { opening = opening; script = script; readable = readable; first = first ∙ ap (λ (b : ℕ). Some (TooManyRows b needed)) same })
  is-rows block (First bad first is) e = absurd cc

  gives-past : (past : PastLimit) → IsPast mode all past → says ≡ Err (fault_of_limit past)
  unfolding says
  gives-past past r =
      let opens = (law.made r.opening).1 r.readable.opens in
      let goes_on = ((script_law r.opening).made r.script).1 r.readable.goes_on in
      rw (opens, goes_on, r.first) refl

  is-first-bad : (bad : BadRow) → Read → says ≡ Err (Bad bad) → IsFirstBadRow mode all bad
  is-first-bad bad (Runs input runs is) e = absurd cc
  is-first-bad bad (Past opening script (TooManyFlows other) readable first is) e = absurd cc
  is-first-bad bad (Past opening script (TooManyRows other needed) readable first is) e = absurd cc
  is-first-bad bad (First other first is) e =
      let same : other ≡ bad = cc in
      subst (IsFirstBadRow mode all) same first

  gives-bad : (bad : BadRow) → IsFirstBadRow mode all bad → says ≡ Err (Bad bad)
  unfolding says
  gives-bad bad (inl first) = let e = (law.bad bad).1 first in rw e refl
  gives-bad bad (inr (opening, opens, first)) =
      let is = (law.made opening).1 opens in
      let goes_on = ((script_law opening).bad bad).1 first in
      rw (is, goes_on) refl

pub input_law : (mode : Mode) (octets : List ℕ) → InputLaw mode octets
unfolding input_in says
input_law mode octets =
    let all = rows octets in
    let seen = read mode all in
    record {
      said = λ input. (can-run mode all input seen, gives-input mode all input);
      refused = λ bad. (is-first-bad mode all bad seen, gives-bad mode all bad);
      block_full = λ block. (is-full mode all block seen, gives-past mode all (TooManyFlows block));
      rows_full = λ block. (is-rows mode all block seen, λ (past : (needed : ℕ) × IsPast mode all (TooManyRows block needed)). gives-past mode all (TooManyRows block past.0) past.1);
    }
