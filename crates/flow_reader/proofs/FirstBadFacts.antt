-- What the rows say is an opening, or the first bad row.
use Rattle.std.proofs.Common.{◌≡◌, ◌≢◌, ◌+◌, ◌<◌, ℕ, Bool, true, false, List, [], ◌∷◌, ◌++◌, length, map, get_or, Option, Some, None, Result, Ok, Err, refl, sym, ap, arith, inl, inr, ◌∙◌, add-zero}
use Rattle.std.specs.Prelude.{AllPairs, if◌then◌else◌}
use Rattle.std.proofs.Math.Seq.{get_or-append_seam}
use Rattle.std.proofs.lemmas.List.{append-nil, append_assoc, get_or_append_left, length-append, map-append}
use Rattle.std.proofs.lemmas.List.Quantifiers.{all_pairs_push}
use Rattle.flow_types.specs.Key.{number}
use Rattle.flow_types.specs.Size.{Size}
use Rattle.flow_types.specs.declared.record.Flow.{Flow}
use Rattle.flow_types.specs.declared.why.BadRow.{BadRow}
use Rattle.flow_types.specs.declared.why.Why.{Why}
use Rattle.flow_types.specs.declared.why.Why.TheVariants as why
use Rattle.csv_rows.specs.Rows.{Row}
use Rattle.flow_reader.specs.FirstBad.{Begins, Breaks, BreaksAfterFlows, IsFirstBad, IsOpening, NeverBegins, OpeningLaw}
use Rattle.row_fields.specs.Fields.{and_then}
use Rattle.row_fields.specs.Refused.{bad_row}
use Rattle.flow_reader.specs.Opening.{adds, has_key, later_row, opening_after, ends_or, opening_from, opening_of, shape_of, with_said}
use Rattle.flow_reader.specs.declared.opening.Opening.{Opening}
use Rattle.flow_reader.proofs.FlowFacts.{each-fits, row-fits, same-numbers}
use Rattle.flow_reader.proofs.KeyFacts.{has_key-false, has_key-none, has_key-there, has_key-true}

-- two flows with different keys
abbrev Differ : Flow → Flow → Type 0
Differ a b = number a.key ≢ number b.key

-- what a flow row says
abbrev says_flow : Flow → Result (Option Flow) Why
says_flow flow = Ok (Some flow)

-- the first row alone
begins-first : (first : Row) (shape : Size) → shape_of first ≡ Ok shape → Begins (first ∷ []) shape []
begins-first first shape says = record {
  first = first;
  others = [];
  split = refl;
  says_shape = says;
  say_flows = refl;
  distinct = λ i j d below within. absurd (omega arith);
}

-- one more flow
begins-flow : (sound : List Row) (shape : Size) (flows : List Flow) (row : Row) (flow : Flow) → Begins sound shape flows
    → later_row shape.nodes row ≡ Ok (Some flow) → has_key flow.key flows ≡ false → Begins (sound ++ row ∷ []) shape (flows ++ flow ∷ [])
begins-flow sound shape flows row flow b says new = record {
  first = b.first;
  others = b.others ++ row ∷ [];
  split = ap (λ rows. rows ++ row ∷ []) b.split;
  says_shape = b.says_shape;
  say_flows = map-append (later_row shape.nodes) b.others (row ∷ []) ∙ rw (b.say_flows, says) (sym (map-append says_flow flows (flow ∷ [])));
  distinct = all_pairs_push Differ flows flow b.distinct (λ k d low same.
      let there = each-fits shape.nodes b.others flows b.say_flows k d low in
      has_key-false flow.key flows new k d low
      (same-numbers (get_or flows k d).key flow.key there.key (row-fits shape.nodes row flow says).key same));
}

never-begins : (sound : List Row) (shape : Size) (flows : List Flow) → Begins sound shape flows → NeverBegins sound
never-begins [] shape flows b = tt
never-begins (first ∷ others) shape flows b = (shape, flows, b)

breaks-after : (sound : List Row) (shape : Size) (flows : List Flow) (row : Row) (reason : Why) → Begins sound shape flows
    → BreaksAfterFlows shape flows row reason → Breaks sound row reason
breaks-after [] shape flows row reason b breaks = cc b.split
breaks-after (first ∷ others) shape flows row reason b breaks = (shape, flows, b, breaks)

-- what is said is an opening that the rows make, or their first bad row
abbrev Said : List Row → Result Opening BadRow → Type 0
Said all (Ok opening) = IsOpening all opening
Said all (Err bad) = IsFirstBad all bad

-- what the rows say, where the first of them says this
abbrev goes_on : Size → List Row → List Flow → ℕ → Result (Option Flow) Why → Result Opening BadRow
goes_on shape rest flows number said = ends_or shape flows number said (opening_from shape rest (with_said flows said) (number + 1))

says-from : (shape : Size) (rest sound : List Row) (flows : List Flow) (number : ℕ) → Begins sound shape flows → number ≡ length sound + 1
    → Said (sound ++ rest) (opening_from shape rest flows number)
unfolding opening_from
says-from shape [] sound flows number b n =
    inr (record { never_begins = rw (append-nil sound) (never-begins sound shape flows b); reason = refl; number = rw (append-nil sound) n })
says-from shape (row ∷ rest) sound flows number b n = by (later_row shape.nodes row) refl (says-from shape rest)
  where
    added : (flow : Flow) (test : Bool) → has_key flow.key flows ≡ test → later_row shape.nodes row ≡ Ok (Some flow)
        → ((more : List Row) (fs : List Flow) (k : ℕ) → Begins more shape fs → k ≡ length more + 1 → Said (more ++ rest) (opening_from shape rest fs k))
        → Said (sound ++ row ∷ rest) (goes_on shape rest flows number (if test then Err why.Duplicate else Ok (Some flow)))
    added flow true e says ih =
        inl (record {
          sound = sound;
          row = row;
          after = rest;
          split = refl;
          breaks = breaks-after sound shape flows row why.Duplicate b (inr (refl, flow, says, has_key-true flow.key flows e));
          number = n;
        })
    added flow false e says ih =
        rw (append_assoc sound (row ∷ []) rest) at
        (ih (sound ++ row ∷ []) (flows ++ flow ∷ []) (number + 1) (begins-flow sound shape flows row flow b says e)
        (let size = length-append sound (row ∷ []) in omega arith))

    by : (o : Result (Option Flow) Why) → later_row shape.nodes row ≡ o
        → ((more : List Row) (fs : List Flow) (k : ℕ) → Begins more shape fs → k ≡ length more + 1 → Said (more ++ rest) (opening_from shape rest fs k))
        → Said (sound ++ row ∷ rest) (goes_on shape rest flows number (and_then o (adds flows)))
    by (Err reason) says ih =
        inl (record { sound = sound; row = row; after = rest; split = refl; breaks = breaks-after sound shape flows row reason b (inl says); number = n })
    by (Ok None) says ih = record { sound = sound; begin = row; after = rest; split = refl; begins = b; says_begin = says; number = n }
    by (Ok (Some flow)) says ih = added flow (has_key flow.key flows) refl says ih

pub says-all : (all : List Row) → Said all (opening_of all)
unfolding opening_of
says-all [] = inr (record { never_begins = tt; reason = refl; number = refl })
says-all (row ∷ rest) = by (shape_of row) refl
  where
    by : (o : Result Size Why) → shape_of row ≡ o → Said (row ∷ rest) (opening_after rest o)
    by (Err reason) says = inl (record { sound = []; row = row; after = rest; split = refl; breaks = says; number = refl })
    by (Ok shape) says = says-from shape rest (row ∷ []) [] 2 (begins-first row shape says) refl

says-first : (nodes : ℕ) (row : Row) (others : List Row) (flow : Flow) (flows : List Flow)
    → map (later_row nodes) (row ∷ others) ≡ map says_flow (flow ∷ flows)
    → (later_row nodes row ≡ Ok (Some flow)) × (map (later_row nodes) others ≡ map says_flow flows)
says-first nodes row others flow flows says = (cc, cc)

-- a later flow has another key than those before it
differs-before : (done : List Flow) (flow : Flow) (flows : List Flow) → AllPairs Differ (done ++ flow ∷ flows)
    → (k : ℕ) (d : Flow) → k < length done → (get_or done k d).key ≢ flow.key
differs-before done flow flows apart k d h =
    let size = length-append done (flow ∷ flows) in
    let other : number (get_or done k d).key ≢ number flow.key =
    rw (get_or_append_left done (flow ∷ flows) d k h, get_or-append_seam done flow flows d) at (apart k (length done) d h (omega arith)) in
    λ same. other (ap number same)

-- rows that say flows are read to their end
read-flows : (shape : Size) (rest others : List Row) (flows done : List Flow) (number : ℕ) → map (later_row shape.nodes) others ≡ map says_flow flows
    → AllPairs Differ (done ++ flows)
    → opening_from shape (others ++ rest) done number ≡ opening_from shape rest (done ++ flows) (number + length others)
unfolding opening_from
read-flows shape rest [] [] done number says apart = rw (append-nil done, add-zero) refl
read-flows shape rest [] (flow ∷ flows) done number says apart = cc says
read-flows shape rest (row ∷ others) [] done number says apart = cc says
read-flows shape rest (row ∷ others) (flow ∷ flows) done number says apart =
    let both = says-first shape.nodes row others flow flows says in
    let new = has_key-none flow.key done (differs-before done flow flows apart) in
    rw (both.0, new)
    (read-flows shape rest others flows (done ++ flow ∷ []) (number + 1) both.1 (rw (append_assoc done (flow ∷ []) flows) apart)
    ∙ rw (append_assoc done (flow ∷ []) flows) (ap (opening_from shape rest (done ++ flow ∷ flows)) (omega arith)))

-- so are sound rows
read-sound : (sound : List Row) (shape : Size) (flows : List Flow) (rest : List Row) → Begins sound shape flows
    → opening_of (sound ++ rest) ≡ opening_from shape rest flows (length sound + 1)
unfolding opening_of
read-sound sound shape flows rest b =
    rw (b.split, b.says_shape)
    (read-flows shape rest b.others flows [] 2 b.say_flows b.distinct ∙ ap (opening_from shape rest flows) (omega arith))

pub opening_of-made : (all : List Row) (opening : Opening) → IsOpening all opening → opening_of all ≡ Ok opening
unfolding opening_from
opening_of-made all opening o =
    rw o.split
    (read-sound o.sound opening.shape opening.flows (o.begin ∷ o.after) o.begins
    ∙ rw o.says_begin (ap (λ n. Ok (record { shape = opening.shape; flows = opening.flows; begin_row = n })) (sym o.number)))

after-bad : (shape : Size) (flows : List Flow) (row : Row) (rest : List Row) (number : ℕ) (reason : Why) → BreaksAfterFlows shape flows row reason
    → opening_from shape (row ∷ rest) flows number ≡ Err (bad_row number reason)
unfolding opening_from
after-bad shape flows row rest number reason (inl says) = rw says refl
after-bad shape flows row rest number reason (inr (why, flow, says, there)) =
    rw (says, has_key-there flow.key flows there) (ap (λ r. Err (bad_row number r)) (sym why))

numbered : (bad : BadRow) (n : ℕ) → bad.row ≡ n → ◌≡◌ {A = Result Opening BadRow} (Err (bad_row n bad.why)) (Err bad)
numbered bad n e = ap (λ k. Err (record { row = k; why = bad.why })) (sym e)

bad-at : (sound : List Row) (row : Row) (after : List Row) (bad : BadRow) → Breaks sound row bad.why → bad.row ≡ length sound + 1
    → opening_of (sound ++ row ∷ after) ≡ Err bad
unfolding opening_of
bad-at [] row after bad breaks n = rw breaks (numbered bad 1 n)
bad-at (first ∷ others) row after bad (shape, flows, b, breaks) n =
    read-sound (first ∷ others) shape flows (row ∷ after) b
    ∙ after-bad shape flows row after (length (first ∷ others) + 1) bad.why breaks
    ∙ numbered bad (length (first ∷ others) + 1) n

ends-early : (all : List Row) (bad : BadRow) → NeverBegins all → bad.why ≡ why.NoBegin → bad.row ≡ length all + 1 → opening_of all ≡ Err bad
unfolding opening_of opening_from
ends-early [] bad never reason n = rw (← reason) (numbered bad 1 n)
ends-early (first ∷ others) bad (shape, flows, b) reason n =
    ap opening_of (sym (append-nil (first ∷ others)))
    ∙ read-sound (first ∷ others) shape flows [] b
    ∙ rw (← reason) (numbered bad (length (first ∷ others) + 1) n)

pub opening_of-bad : (all : List Row) (bad : BadRow) → IsFirstBad all bad → opening_of all ≡ Err bad
opening_of-bad all bad (inl at) = rw at.split (bad-at at.sound at.row at.after bad at.breaks at.number)
opening_of-bad all bad (inr early) = ends-early all bad early.never_begins early.reason early.number

pub opening-law : (all : List Row) → OpeningLaw all
opening-law all = record {
  made = λ opening. (λ e. rw e at (says-all all), opening_of-made all opening);
  bad = λ bad. (λ e. rw e at (says-all all), opening_of-bad all bad);
}

pub is-opening : (all : List Row) (opening : Opening) → opening_of all ≡ Ok opening → IsOpening all opening
is-opening all opening e = rw e at (says-all all)
