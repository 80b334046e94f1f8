-- The rows after `begin` one by one: when they make a script, and which of them is the first bad one.
use Rattle.std.specs.Prelude.{◌≡◌, ◌⊎◌, ◌↔◌, ℕ, ◌+◌, List, [], ◌∷◌, ◌++◌, length, map, true, Some, None, Ok, Err}
use Rattle.flow_types.specs.declared.why.BadRow.{BadRow}
use Rattle.flow_types.specs.declared.why.Why.{Why}
use Rattle.flow_types.specs.declared.why.Why.TheVariants as why
use Rattle.csv_rows.specs.Rows.{Row}
use Rattle.packet_reader.specs.Meaning.{HasFewPhases, Meaning, syncs_of}
use Rattle.packet_reader.specs.Script.{script_of}

-- a row for each of these events, and none breaks a rule
pub record SayEvents {E : Type 0} (meaning : Meaning E) (before : List Row) (events : List E) : Type 0 where
  pub each_says : map meaning.says before ≡ map (λ event. Ok (Some event)) events
  pub few_phases : HasFewPhases meaning events

-- a row for each of these events, and then `end`
pub record IsScript {E : Type 0} (meaning : Meaning E) (rest : List Row) (events : List E) : Type 0 where
  pub before : List Row
  pub last : Row
  pub split : rest ≡ before ++ last ∷ []
  pub say_events : SayEvents meaning before events
  pub says_end : meaning.says last ≡ Ok None

-- the script has phases, and after these events the row is its 256th `sync`
pub record IsPhaseTooMany {E : Type 0} (meaning : Meaning E) (events : List E) (row : Row) : Type 0 where
  pub has_phases : meaning.in_phases ≡ true
  pub event : E
  pub says : meaning.says row ≡ Ok (Some event)
  pub is_sync : meaning.is_sync event ≡ true
  pub makes_256 : syncs_of meaning events + 1 ≡ 256

-- a row breaks a rule for this reason, and the rows between `begin` and it break none: it is bad by itself, or it is one
-- `sync` too many, or it stands after the `end`
abbrev pub BreaksAfter : {E : Type 0} → Meaning E → List Row → Row → Why → Type 0
BreaksAfter {E = E} meaning before row reason =
    ((events : List E) × SayEvents meaning before events × (meaning.says row ≡ Err reason))
    ⊎ (((events : List E) × SayEvents meaning before events × IsPhaseTooMany meaning events row × (reason ≡ why.TooManyPhases))
    ⊎ ((events : List E) × IsScript meaning before events × (reason ≡ why.AfterEnd)))

-- so the bad row stands there among the rows after `begin`, which stands in the row of this number
pub record IsBadAfter {E : Type 0} (meaning : Meaning E) (begin_row : ℕ) (rest : List Row) (bad : BadRow) : Type 0 where
  pub before : List Row
  pub row : Row
  pub after : List Row
  pub split : rest ≡ before ++ row ∷ after
  pub breaks : BreaksAfter meaning before row bad.why
  pub number : bad.row ≡ begin_row + length before + 1

-- no row breaks a rule, and none is `end`
pub record NeverEnds {E : Type 0} (meaning : Meaning E) (begin_row : ℕ) (rest : List Row) (bad : BadRow) : Type 0 where
  pub events : List E
  pub say_events : SayEvents meaning rest events
  pub reason : bad.why ≡ why.NoEnd
  pub number : bad.row ≡ begin_row + length rest + 1

-- the first bad row after `begin`, where the `end` row that is missing counts as one
abbrev pub IsFirstBadAfter : {E : Type 0} → Meaning E → ℕ → List Row → BadRow → Type 0
IsFirstBadAfter meaning begin_row rest bad = IsBadAfter meaning begin_row rest bad ⊎ NeverEnds meaning begin_row rest bad

-- what the rows say is a script exactly where they make it, and a bad row exactly where it is the first
pub record ScriptLaw {E : Type 0} (meaning : Meaning E) (begin_row : ℕ) (rest : List Row) : Type 0 where
  pub made : (events : List E) → (script_of meaning begin_row rest ≡ Ok events) ↔ IsScript meaning rest events
  pub bad : (bad : BadRow) → (script_of meaning begin_row rest ≡ Err bad) ↔ IsFirstBadAfter meaning begin_row rest bad
