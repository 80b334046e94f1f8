-- A script with one more row.
use Rattle.std.proofs.Common.{ℕ, ◌≡◌, ◌∙◌, ◌+◌, ◌<◌, Bool, true, false, cond, List, ◌++◌, length, drop, drop-cons, add-one, Option, Some, None, option_to_list, Result, Ok, Err, ap, sym, subst, refl}
use Rattle.std.specs.Prelude.{is_none}
use Rattle.csv_rows.specs.Rows.{Row, TakesRow}
use Rattle.flow_types.specs.declared.why.BadRow.{BadRow}
use Rattle.flow_types.specs.declared.why.Why.{Why}
use Rattle.flow_types.specs.declared.why.Why.TheVariants as why
use Rattle.row_fields.specs.Refused.{bad_row}
use Rattle.packet_reader.specs.Meaning.{Meaning}
use Rattle.packet_reader.specs.Script.{Progress, row_after, script_ends, refused_or, script_from, script_of, start, with_row, with_row_said}

-- what the rows say, where the first of them says this
abbrev pub goes_on : {E : Type 0} → Meaning E → List Row → Progress E → ℕ → Result (Option E) Why → Result (List E) BadRow
goes_on meaning rest so_far number said = refused_or number said (script_from meaning rest (with_row_said so_far said) (number + 1))

-- one more row skipped
pub row_skipped : (found : Bool) (all before after : List Row) (row : Row) (i : ℕ) → i < length all → before ≡ drop i all → TakesRow found before row after → after ≡ drop (i + 1) all
row_skipped true all before after row i inside left takes = let more = drop-cons all i row inside in rw add-one cc
row_skipped false all before after row i inside left takes = let more = drop-cons all i row inside in cc

-- one more row was read, piece by piece
pub with_row_is : {E : Type 0} (so_far : Progress E) (said : Option E) (events : List E) (ended : Bool) → events ≡ so_far.events ++ option_to_list said → ended ≡ is_none said
    → ◌≡◌ {A = Progress E} (record { events = events; ended = ended }) (with_row so_far said)
with_row_is {E = E} so_far said events ended added is =
    ap (λ (es : List E). record { events = es; ended = ended }) added ∙ ap (λ (e : Bool). record { events = so_far.events ++ option_to_list said; ended = e }) is

-- no row was read yet
pub script_begins : {E : Type 0} (meaning : Meaning E) (begin_row : ℕ) (rest : List Row) → script_from meaning rest start (begin_row + 1) ≡ script_of meaning begin_row rest
unfolding script_of
script_begins meaning begin_row rest = refl

module _ {E : Type 0} (meaning : Meaning E) (so_far : Progress E) (number : ℕ) (before after : List Row) (row : Row) (whole : Result (List E) BadRow) (found : Bool)
    (takes : TakesRow found before row after) (said_so_far : script_from meaning before so_far number ≡ whole) where
  module _ (there : found ≡ true) where
    read_on : goes_on meaning after so_far number (row_after meaning so_far row) ≡ whole
    unfolding script_from
    read_on =
        let taken = subst (λ f. TakesRow f before row after) there takes in
        sym (ap (λ rows. script_from meaning rows so_far number) taken) ∙ said_so_far

    -- the row says an event, or ends the script
    pub row_says : (said : Option E) (then : Progress E) → row_after meaning so_far row ≡ Ok said → then ≡ with_row so_far said
        → script_from meaning after then (number + 1) ≡ whole
    row_says said then says is =
        ap (λ p. script_from meaning after p (number + 1)) is
        ∙ sym (ap (goes_on meaning after so_far number) says) ∙ read_on

    -- the row is bad
    pub row_refused : (reason : Why) → row_after meaning so_far row ≡ Err reason → whole ≡ Err (bad_row number reason)
    row_refused reason says = sym read_on ∙ ap (goes_on meaning after so_far number) says

    -- there is one row less
    pub fewer : length before ≡ length after + 1
    fewer = ap length (subst (λ f. TakesRow f before row after) there takes) ∙ sym (add-one (length after))

  module _ (none : found ≡ false) where
    at_end : whole ≡ script_ends so_far number
    unfolding script_from
    at_end =
        let taken = subst (λ f. TakesRow f before row after) none takes in
        sym said_so_far ∙ ap (λ rows. script_from meaning rows so_far number) taken

    -- no row is left, and the script has ended
    pub ends_well : so_far.ended ≡ true → (events : List E) → events ≡ so_far.events → whole ≡ Ok events
    ends_well is events same = at_end ∙ ap (λ e. cond e (Ok so_far.events) (Err (bad_row number why.NoEnd))) is ∙ ap Ok (sym same)

    -- no row is left, and there was no `end`
    pub lacks_end : so_far.ended ≡ false → whole ≡ Err (bad_row number why.NoEnd)
    lacks_end is = at_end ∙ ap (λ e. cond e (Ok so_far.events) (Err (bad_row number why.NoEnd))) is
