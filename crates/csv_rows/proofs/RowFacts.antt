-- How the rows of the bytes follow from reading one record after the other.
use Rattle.std.proofs.Common.{◌≡◌, ◌≤◌, ◌<◌, ◌+◌, ℕ, zero, suc, Bool, true, false, List, [], ◌∷◌, ◌++◌, length, Option, Some, None, refl, sym, ap, arith, ◌∙◌}
use Rattle.std.specs.Prelude.{if◌then◌else◌, ◌==◌}
use Rattle.csv.specs.Machine.{Read, after_end, ends_at_end, field_after, fields_after, in_field, is_end, next_record, start_field, start_record, step}
use Rattle.csv.specs.Reading.{records_from, records_next, strip_bom, is_bom}
use Rattle.csv.specs.declared.parser.Config.{Config}
use Rattle.csv.specs.declared.parser.Terminator.{Terminator}
use Rattle.csv.specs.declared.parser.Terminator.TheVariants as term
use Rattle.csv.specs.declared.parser.State.{State}
use Rattle.csv.specs.declared.parser.Action.{Action}
use Rattle.csv.specs.declared.parser.State.TheVariants as st
use Rattle.csv.specs.declared.parser.Action.TheVariants as act

-- one for a record that has begun, since the end of the text ends it
abbrev pub begun : State → ℕ
begun s = if ends_at_end s then 1 else 0

pub begun-small : (s : State) → begun s ≤ 1
begun-small s = by (ends_at_end s)
  where
    by : (b : Bool) → (if b then 1 else 0) ≤ 1
    by true = omega arith
    by false = omega arith

-- where an action ends the record, none has begun after it
record EndsClean (t : State × Action) : Type 0 where
  none : is_end t.1 ≡ true → begun t.0 ≡ 0

either : (b : Bool) (x y : State × Action) → EndsClean x → EndsClean y → EndsClean (if b then x else y)
either true x y p q = p
either false x y p q = q

goes_on : (s : State) (a : Action) → is_end a ≡ false → EndsClean (s, a)
goes_on s a e = record { none = λ f. cc (sym e ∙ f) }

after_end-clean : (t : Terminator) (c : ℕ) → begun (after_end t c) ≡ 0
after_end-clean term.CRLF c = by (c == 13)
  where
    by : (b : Bool) → begun (if b then st.AfterCr else st.StartRecord) ≡ 0
    by true = refl
    by false = refl
after_end-clean (term.Any t) c = refl

in_field-clean : (cfg : Config) (c : ℕ) → EndsClean (in_field cfg c)
in_field-clean cfg c =
    either _ _ _ (goes_on st.StartField act.EndField refl)
    (either _ (after_end cfg.terminator c, act.EndRecord) _ (record { none = λ e. after_end-clean cfg.terminator c }) (goes_on st.InField act.Copy refl))

start_field-clean : (cfg : Config) (c : ℕ) → EndsClean (start_field cfg c)
start_field-clean cfg c = either _ _ _ (goes_on st.InQuoted act.Skip refl) (in_field-clean cfg c)

start_record-clean : (cfg : Config) (c : ℕ) → EndsClean (start_record cfg c)
start_record-clean cfg c =
    either _ _ _ (goes_on st.StartRecord act.Skip refl) (either _ _ _ (goes_on st.InComment act.Skip refl) (start_field-clean cfg c))

step-clean : (cfg : Config) (s : State) (c : ℕ) → EndsClean (step cfg s c)
step-clean cfg st.StartRecord c = start_record-clean cfg c
step-clean cfg st.StartField c = start_field-clean cfg c
step-clean cfg st.InField c = in_field-clean cfg c
step-clean cfg st.InQuoted c =
    either _ _ _ (goes_on st.AfterQuote act.Skip refl) (either _ _ _ (goes_on st.InEscape act.Skip refl) (goes_on st.InQuoted act.Copy refl))
step-clean cfg st.InEscape c = goes_on st.InQuoted act.Copy refl
step-clean cfg st.AfterQuote c = either _ _ _ (goes_on st.InQuoted act.Copy refl) (in_field-clean cfg c)
step-clean cfg st.InComment c = either _ _ _ (goes_on st.StartRecord act.Skip refl) (goes_on st.InComment act.Skip refl)
step-clean cfg st.AfterCr c = either _ _ _ (goes_on st.StartRecord act.Skip refl) (start_record-clean cfg c)

-- how much of a text is left, with one more for a record that has begun
abbrev pub room : State → List ℕ → ℕ
room s xs = length xs + begun s

some-room : (q : Read) (fields : List (List ℕ)) (s : State) (xs : List ℕ) → Some (fields, s, xs) ≡ Some q → room q.1 q.2 ≡ room s xs
some-room q fields s xs e = let same : q ≡ (fields, s, xs) = cc in rw same refl

-- a record that was read leaves less of the text
pub shrinks : (cfg : Config) (s : State) (fields : List (List ℕ)) (field xs : List ℕ) (q : Read)
    → next_record cfg s fields field xs ≡ Some q → room q.1 q.2 < room s xs
unfolding next_record
shrinks cfg s fields field [] q e = by (ends_at_end s) e
  where
    by : (b : Bool) → (if b then Some (fields ++ (field ∷ []), st.StartRecord, []) else None) ≡ Some q → room q.1 q.2 < 0 + (if b then 1 else 0)
    by true e = let r = some-room q _ st.StartRecord [] e in omega arith
    by false e = cc e
shrinks cfg s fields field (c ∷ rest) q e =
    by (is_end (step cfg s c).1) refl e (shrinks cfg (step cfg s c).0 (fields_after (step cfg s c).1 fields field) (field_after (step cfg s c).1 c field) rest q)
  where
    by : (b : Bool) → is_end (step cfg s c).1 ≡ b
        → (if b then Some (fields_after (step cfg s c).1 fields field, (step cfg s c).0, rest)
        else next_record cfg (step cfg s c).0 (fields_after (step cfg s c).1 fields field) (field_after (step cfg s c).1 c field) rest) ≡ Some q
        → (next_record cfg (step cfg s c).0 (fields_after (step cfg s c).1 fields field) (field_after (step cfg s c).1 c field) rest ≡ Some q → room q.1 q.2 < room (step cfg s c).0 rest)
        → room q.1 q.2 < room s (c ∷ rest)
    by true ends e more =
        let r = some-room q _ (step cfg s c).0 rest e in
        let none = (step-clean cfg s c).none ends in
        omega arith
    by false ends e more =
        let r = more e in
        let few = begun-small (step cfg s c).0 in
        omega arith

-- enough fuel is enough
pub records_from-fuel : (cfg : Config) (n m : ℕ) (s : State) (xs : List ℕ) → room s xs < n → room s xs < m
    → records_from cfg n s xs ≡ records_from cfg m s xs
unfolding records_from
records_from-fuel cfg zero m s xs p q = absurd (omega arith)
records_from-fuel cfg (suc n) zero s xs p q = absurd (omega arith)
records_from-fuel cfg (suc n) (suc m) s xs p q = by (next_record cfg s [] [] xs) refl (records_from-fuel cfg n m)
  where
    by : (o : Option Read) → next_record cfg s [] [] xs ≡ o
        → ((t : State) (ys : List ℕ) → room t ys < n → room t ys < m → records_from cfg n t ys ≡ records_from cfg m t ys)
        → records_next (records_from cfg n) o ≡ records_next (records_from cfg m) o
    by None e more = refl
    by (Some r) e more =
        let less = shrinks cfg s [] [] xs r e in
        ap (λ rows. r.0 ∷ rows) (more r.1 r.2 (omega arith) (omega arith))

-- there are at most as many rows as there is room
pub length-records_from : (cfg : Config) (n : ℕ) (s : State) (xs : List ℕ) → length (records_from cfg n s xs) ≤ room s xs
unfolding records_from
length-records_from cfg zero s xs = omega arith
length-records_from cfg (suc n) s xs = by (next_record cfg s [] [] xs) refl (length-records_from cfg n)
  where
    by : (o : Option Read) → next_record cfg s [] [] xs ≡ o
        → ((t : State) (ys : List ℕ) → length (records_from cfg n t ys) ≤ room t ys)
        → length (records_next (records_from cfg n) o) ≤ room s xs
    by None e more = omega arith
    by (Some r) e more =
        let less = shrinks cfg s [] [] xs r e in
        let rest = more r.1 r.2 in
        omega arith

-- a byte order mark at the start only shortens
pub length-strip_bom : (xs : List ℕ) → length (strip_bom xs) ≤ length xs
unfolding strip_bom
length-strip_bom [] = omega arith
length-strip_bom (a ∷ []) = omega arith
length-strip_bom (a ∷ b ∷ []) = omega arith
length-strip_bom (a ∷ b ∷ c ∷ rest) = by (is_bom a b c)
  where
    by : (m : Bool) → length (if m then rest else a ∷ b ∷ c ∷ rest) ≤ length (a ∷ b ∷ c ∷ rest)
    by true = omega arith
    by false = omega arith
