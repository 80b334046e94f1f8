-- What the rows after `begin` say is a script, or the first bad row.
use Rattle.std.proofs.Common.{◌≡◌, ◌+◌, ℕ, Bool, true, false, cond, List, [], ◌∷◌, ◌++◌, length, map, Option, Some, None, Result, Ok, Err, refl, sym, subst, ap, arith, inl, inr, ◌∙◌, add-zero}
use Rattle.std.specs.Prelude.{if◌then◌else◌, ◌&&◌, ◌<◌, nat_le}
use Rattle.std.proofs.lemmas.Bool.{leb-false, leb-true, lt-leb}
use Rattle.std.proofs.lemmas.List.{append-nil, append_assoc, length-append, map-append}
use Rattle.std.proofs.lemmas.List.Sums.{sum_by-append, sum_by-cons}
use Rattle.flow_types.specs.declared.why.BadRow.{BadRow}
use Rattle.flow_types.specs.declared.why.Why.{Why}
use Rattle.flow_types.specs.declared.why.Why.TheVariants as why
use Rattle.csv_rows.specs.Rows.{Row}
use Rattle.row_fields.specs.Fields.{and_then}
use Rattle.row_fields.specs.Refused.{bad_row}
use Rattle.packet_reader.specs.FirstBad.{BreaksAfter, IsFirstBadAfter, IsPhaseTooMany, IsScript, SayEvents, ScriptLaw}
use Rattle.packet_reader.specs.Meaning.{HasFewPhases, Meaning, is_one_too_many, syncs_of}
use Rattle.packet_reader.specs.Script.{Progress, counted, script_from, script_of}
use Rattle.packet_reader.proofs.Scripts.{goes_on}

-- what an event's row says
abbrev says_event : {E : Type 0} → E → Result (Option E) Why
says_event event = Ok (Some event)

-- these events were read, and no `end`
abbrev going_on : {E : Type 0} → List E → Progress E
going_on events = record { events = events; ended = false }

-- these events were read, and then `end`
abbrev at_the_end : {E : Type 0} → List E → Progress E
at_the_end events = record { events = events; ended = true }

-- what an event adds to a count
abbrev counts : Bool → ℕ
counts is = cond is 1 0

module _ {E : Type 0} (meaning : Meaning E) where
  -- what an event adds to the `sync`s
  abbrev adds : E → ℕ
  adds event = counts (meaning.is_sync event)

  -- no events make few phases
  no-phases : HasFewPhases meaning []
  no-phases phased = omega arith

  -- one more event that isn't one `sync` too many leaves few phases
  few-more : (events : List E) (event : E) → HasFewPhases meaning events → is_one_too_many meaning events event ≡ false → HasFewPhases meaning (events ++ event ∷ [])
  few-more events event few fits phased = by (meaning.is_sync event) refl (subst (λ b. (b && (meaning.is_sync event && nat_le 256 (syncs_of meaning events + 1))) ≡ false) phased fits)
    where
      by : (is : Bool) → meaning.is_sync event ≡ is → (is && nat_le 256 (syncs_of meaning events + 1)) ≡ false → syncs_of meaning (events ++ event ∷ []) < 256
      by true sync fits =
          let below = leb-false 256 (syncs_of meaning events + 1) fits in
          let count : syncs_of meaning (events ++ event ∷ []) ≡ syncs_of meaning events + syncs_of meaning (event ∷ []) = sum_by-append adds events (event ∷ []) in
          let one : syncs_of meaning (event ∷ []) ≡ counts (meaning.is_sync event) + 0 = sum_by-cons adds event [] in
          let added : counts (meaning.is_sync event) ≡ 1 = ap counts sync in
          omega arith
      by false other fits =
          let below = few phased in
          let count : syncs_of meaning (events ++ event ∷ []) ≡ syncs_of meaning events + syncs_of meaning (event ∷ []) = sum_by-append adds events (event ∷ []) in
          let one : syncs_of meaning (event ∷ []) ≡ counts (meaning.is_sync event) + 0 = sum_by-cons adds event [] in
          let added : counts (meaning.is_sync event) ≡ 0 = ap counts other in
          omega arith

  -- one that is one too many is the script's 256th `sync`
  too-many : (events : List E) (row : Row) (event : E) → HasFewPhases meaning events → is_one_too_many meaning events event ≡ true → meaning.says row ≡ Ok (Some event)
      → IsPhaseTooMany meaning events row
  too-many events row event few many says = by meaning.in_phases (meaning.is_sync event) refl refl many
    where
      by : (phased sync : Bool) → meaning.in_phases ≡ phased → meaning.is_sync event ≡ sync → (phased && (sync && nat_le 256 (syncs_of meaning events + 1))) ≡ true
          → IsPhaseTooMany meaning events row
      by false sync p s enough = cc enough
      by true false p s enough = cc enough
      by true true p s enough =
          let least = leb-true 256 (syncs_of meaning events + 1) enough in
          let below = few p in
          record { has_phases = p; event = event; says = says; is_sync = s; makes_256 = omega arith }

  -- where all events make few phases, none of them is one `sync` too many
  fits : (before : List E) (event : E) (after : List E) → HasFewPhases meaning (before ++ event ∷ after) → is_one_too_many meaning before event ≡ false
  fits before event after few = by meaning.in_phases (meaning.is_sync event) refl refl
    where
      by : (phased sync : Bool) → meaning.in_phases ≡ phased → meaning.is_sync event ≡ sync → (phased && (sync && nat_le 256 (syncs_of meaning before + 1))) ≡ false
      by false sync p s = refl
      by true false p s = refl
      by true true p s =
          let count : syncs_of meaning (before ++ event ∷ after) ≡ syncs_of meaning before + syncs_of meaning (event ∷ after) = sum_by-append adds before (event ∷ after) in
          let this : syncs_of meaning (event ∷ after) ≡ counts (meaning.is_sync event) + syncs_of meaning after = sum_by-cons adds event after in
          let one : counts (meaning.is_sync event) ≡ 1 = ap counts s in
          let below = few p in
          lt-leb 256 (syncs_of meaning before + 1) (omega arith)

  -- no row says no event
  say-none : SayEvents meaning [] []
  say-none = record { each_says = refl; few_phases = no-phases }

  -- one more event
  say-more : (before : List Row) (events : List E) (row : Row) (event : E) → SayEvents meaning before events → meaning.says row ≡ Ok (Some event)
      → is_one_too_many meaning events event ≡ false → SayEvents meaning (before ++ row ∷ []) (events ++ event ∷ [])
  say-more before events row event said says fits = record {
    each_says = map-append meaning.says before (row ∷ []) ∙ rw (said.each_says, says) (sym (map-append says_event events (event ∷ [])));
    few_phases = few-more events event said.few_phases fits;
  }

  module _ (begin_row : ℕ) where
    -- what is said is a script that the rows make, or their first bad row
    Said : List Row → Result (List E) BadRow → Type 0
    Said rest (Ok events) = IsScript meaning rest events
    Said rest (Err bad) = IsFirstBadAfter meaning begin_row rest bad

    says-after-end : (rest before : List Row) (events : List E) (number : ℕ) → IsScript meaning before events → number ≡ begin_row + length before + 1
        → Said (before ++ rest) (script_from meaning rest (at_the_end events) number)
    unfolding Said script_from
    says-after-end [] before events number script n = rw (append-nil before) script
    says-after-end (row ∷ rest) before events number script n =
        inl (record { before = before; row = row; after = rest; split = refl; breaks = inr (inr (events, script, refl)); number = n })

    says-from : (rest before : List Row) (events : List E) (number : ℕ) → SayEvents meaning before events → number ≡ begin_row + length before + 1
        → Said (before ++ rest) (script_from meaning rest (going_on events) number)
    unfolding Said script_from
    says-from [] before events number said n = rw (append-nil before) (inr (record { events = events; say_events = said; reason = refl; number = n }))
    says-from (row ∷ rest) before events number said n = by (meaning.says row) refl (says-from rest)
      where
        with_event : (event : E) (many : Bool) → is_one_too_many meaning events event ≡ many → meaning.says row ≡ Ok (Some event)
            → ((more : List Row) (es : List E) (k : ℕ) → SayEvents meaning more es → k ≡ begin_row + length more + 1 → Said (more ++ rest) (script_from meaning rest (going_on es) k))
            → Said (before ++ row ∷ rest) (goes_on meaning rest (going_on events) number (if many then Err why.TooManyPhases else Ok (Some event)))
        with_event event true many says ih =
            inl (record {
              before = before;
              row = row;
              after = rest;
              split = refl;
              breaks = inr (inl (events, said, too-many events row event said.few_phases many says, refl));
              number = n;
            })
        with_event event false many says ih =
            rw (← append_assoc before (row ∷ []) rest)
            (ih (before ++ row ∷ []) (events ++ event ∷ []) (number + 1) (say-more before events row event said says many)
            (let size = length-append before (row ∷ []) in omega arith))

        by : (o : Result (Option E) Why) → meaning.says row ≡ o
            → ((more : List Row) (es : List E) (k : ℕ) → SayEvents meaning more es → k ≡ begin_row + length more + 1 → Said (more ++ rest) (script_from meaning rest (going_on es) k))
            → Said (before ++ row ∷ rest) (goes_on meaning rest (going_on events) number (and_then o (counted meaning events)))
        by (Err reason) says ih = inl (record { before = before; row = row; after = rest; split = refl; breaks = inl (events, said, says); number = n })
        by (Ok None) says ih =
            rw (append-nil events, ← append_assoc before (row ∷ []) rest)
            (says-after-end rest (before ++ row ∷ []) events (number + 1)
            (record { before = before; last = row; split = refl; say_events = said; says_end = says })
            (let size = length-append before (row ∷ []) in omega arith))
        by (Ok (Some event)) says ih = with_event event (is_one_too_many meaning events event) refl says ih

    says-all : (rest : List Row) → Said rest (script_of meaning begin_row rest)
    unfolding script_of
    says-all rest = says-from rest [] [] (begin_row + 1) say-none (omega arith)

    numbered : {A : Type 0} (bad : BadRow) (n : ℕ) (reason : Why) → bad.row ≡ n → bad.why ≡ reason → ◌≡◌ {A = Result A BadRow} (Err (bad_row n reason)) (Err bad)
    numbered bad n reason row why =
        ap (λ k. Err (record { row = k; why = reason })) (sym row) ∙ ap (λ r. Err (record { row = bad.row; why = r })) (sym why)

    -- rows that say events are read to their end
    read-events : (rest before : List Row) (done events : List E) (number : ℕ) → map meaning.says before ≡ map says_event events → HasFewPhases meaning (done ++ events)
        → script_from meaning (before ++ rest) (going_on done) number ≡ script_from meaning rest (going_on (done ++ events)) (number + length before)
    unfolding script_from
    read-events rest [] done [] number said few = rw (append-nil done, add-zero) refl
    read-events rest [] done (event ∷ events) number said few = cc said
    read-events rest (row ∷ before) done [] number said few = cc said
    read-events rest (row ∷ before) done (event ∷ events) number said few =
        let says : meaning.says row ≡ Ok (Some event) = cc in
        let others : map meaning.says before ≡ map says_event events = cc in
        rw (says, fits done event events few)
        (read-events rest before (done ++ event ∷ []) events (number + 1) others (rw (append_assoc done (event ∷ []) events) few)
        ∙ rw (append_assoc done (event ∷ []) events) (ap (script_from meaning rest (going_on (done ++ event ∷ events))) (omega arith)))

    -- and the `end` after them ends the script
    read-script : (before rest : List Row) (events : List E) → IsScript meaning before events
        → script_of meaning begin_row (before ++ rest) ≡ script_from meaning rest (at_the_end events) (begin_row + length before + 1)
    unfolding script_of script_from
    read-script before rest events script =
        let size = length-append script.before (script.last ∷ []) in
        rw (script.split, append_assoc script.before (script.last ∷ []) rest)
        (read-events (script.last ∷ rest) script.before [] events (begin_row + 1) script.say_events.each_says script.say_events.few_phases
        ∙ rw (script.says_end, append-nil events) (ap (script_from meaning rest (at_the_end events)) (omega arith)))

    made : (rest : List Row) (events : List E) → IsScript meaning rest events → script_of meaning begin_row rest ≡ Ok events
    unfolding script_from
    made rest events script = ap (script_of meaning begin_row) (sym (append-nil rest)) ∙ read-script rest [] events script

    -- the script's 256th `sync` is one too many
    is-too-many : (events : List E) (row : Row) (many : IsPhaseTooMany meaning events row) → is_one_too_many meaning events many.event ≡ true
    is-too-many events row many = rw (many.has_phases, many.is_sync, many.makes_256) refl

    bad-after : (before : List Row) (row : Row) (after : List Row) (bad : BadRow) → BreaksAfter meaning before row bad.why → bad.row ≡ begin_row + length before + 1
        → script_of meaning begin_row (before ++ row ∷ after) ≡ Err bad
    unfolding script_of script_from
    bad-after before row after bad (inl (events, said, says)) n =
        read-events (row ∷ after) before [] events (begin_row + 1) said.each_says said.few_phases
        ∙ rw says (numbered bad (begin_row + 1 + length before) bad.why (omega arith) refl)
    bad-after before row after bad (inr (inl (events, said, many, reason))) n =
        read-events (row ∷ after) before [] events (begin_row + 1) said.each_says said.few_phases
        ∙ rw (many.says, is-too-many events row many) (numbered bad (begin_row + 1 + length before) why.TooManyPhases (omega arith) reason)
    bad-after before row after bad (inr (inr (events, script, reason))) n =
        read-script before (row ∷ after) events script ∙ numbered bad (begin_row + length before + 1) why.AfterEnd n reason

    refused : (rest : List Row) (bad : BadRow) → IsFirstBadAfter meaning begin_row rest bad → script_of meaning begin_row rest ≡ Err bad
    unfolding script_of script_from
    refused rest bad (inl at) = rw at.split (bad-after at.before at.row at.after bad at.breaks at.number)
    refused rest bad (inr never) =
        ap (script_of meaning begin_row) (sym (append-nil rest))
        ∙ read-events [] rest [] never.events (begin_row + 1) never.say_events.each_says never.say_events.few_phases
        ∙ numbered bad (begin_row + 1 + length rest) why.NoEnd (let n = never.number in omega arith) never.reason

    pub says-script : (rest : List Row) (events : List E) → script_of meaning begin_row rest ≡ Ok events → IsScript meaning rest events
    unfolding Said
    says-script rest events e = rw e at (says-all rest)

    says-bad : (rest : List Row) (bad : BadRow) → script_of meaning begin_row rest ≡ Err bad → IsFirstBadAfter meaning begin_row rest bad
    unfolding Said
    says-bad rest bad e = rw e at (says-all rest)

    pub script-law : (rest : List Row) → ScriptLaw meaning begin_row rest
    script-law rest = record {
      made = λ events. (says-script rest events, made rest events);
      bad = λ bad. (says-bad rest bad, refused rest bad);
    }
