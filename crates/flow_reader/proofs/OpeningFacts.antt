-- What the next row does to what the rows say.
use Rattle.std.proofs.Common.{◌≡◌, ◌+◌, ◌-◌, ◌≤◌, ◌∙◌, ℕ, zero, suc, Bool, true, false, List, [], ◌∷◌, length, drop, Result, Ok, Err, refl, sym, ap, arith}
use Rattle.flow_types.specs.Size.{Size}
use Rattle.flow_types.specs.declared.record.Flow.{Flow}
use Rattle.flow_types.specs.declared.why.BadRow.{BadRow}
use Rattle.flow_types.specs.declared.why.Why.TheVariants as why
use Rattle.csv_rows.specs.Rows.{Row, TakesRow}
use Rattle.row_fields.specs.Refused.{bad_row}
use Rattle.flow_reader.specs.Opening.{opening_after, opening_from, opening_of, row_after_flows, shape_of}
use Rattle.flow_reader.specs.Steps.{BeginsAt, TakesIn}
use Rattle.flow_reader.specs.declared.opening.Opening.{Opening}
use Rattle.row_fields.specs.declared.refused.RowRefused.{RowRefused}
use Rattle.row_fields.specs.declared.refused.RowRefused.TheVariants as refused

-- a row was taken, or none is left
took : (found : Bool) (before after : List Row) (row : Row) → found ≡ true → TakesRow found before row after → before ≡ row ∷ after
took true before after row e t = t
took false before after row e t = cc e

none_left : (found : Bool) (before after : List Row) (row : Row) → found ≡ false → TakesRow found before row after → before ≡ []
none_left true before after row e t = cc e
none_left false before after row e t = t

-- so one row fewer is left
pub length-took : (found : Bool) (before after : List Row) (row : Row) → found ≡ true → TakesRow found before row after → length before ≡ length after + 1
length-took found before after row e t = rw (took found before after row e t) (omega arith)

-- it follows the rows taken so far
after_more : (number : ℕ) (all before after : List Row) (row : Row) → before ≡ drop number all → before ≡ row ∷ after → after ≡ drop (suc number) all
after_more zero all before after row left taken = rw (sym left ∙ taken) refl
after_more (suc number) [] before after row left taken = cc (sym taken ∙ left)
after_more (suc number) (first ∷ all) before after row left taken = after_more number all before after row left taken

pub left_more : (found : Bool) (all before after : List Row) (row : Row) (number next : ℕ) → found ≡ true → TakesRow found before row after → before ≡ drop number all → next ≡ suc number
    → after ≡ drop next all
left_more found all before after row number next e t left is = rw is (after_more number all before after row left (took found before after row e t))

-- the rows after the first are counted from it
pub left_after : (number : ℕ) (all rest left : List Row) (first : Row) → 1 ≤ number → all ≡ first ∷ rest → left ≡ drop (number - 1) rest → left ≡ drop number all
left_after zero all rest left first some taken is = absurd (omega arith)
left_after (suc number) all rest left first some taken is =
    let same : suc number - 1 ≡ number = omega arith in
    rw taken (is ∙ ap (λ n. drop n rest) same)

-- no row: the rows end before `begin`
module _ (shape : Size) (nodes : ℕ) (flows : List Flow) (number : ℕ) (found : Bool) (before after : List Row) (row : Row) where
  pub opening_from-end : found ≡ false → TakesRow found before row after → opening_from shape before flows number ≡ Err (bad_row number why.NoBegin)
  unfolding opening_from
  opening_from-end e t = rw (none_left found before after row e t) refl

  -- a row that is refused
  pub opening_from-refused : (said : Result Opening BadRow) (refusal : RowRefused) (new kept : List Flow) → opening_from shape before flows number ≡ said → nodes ≡ shape.nodes → found ≡ true → TakesRow found before row after
      → TakesIn number (row_after_flows nodes flows row) flows new (Err refusal)
      → BeginsAt shape said kept (Err refusal)
  unfolding opening_from
  opening_from-refused said (refused.Bad bad) new kept so_far same e t h =
      rw (← so_far, ← same, took found before after row e t, h.1) (ap (λ n. Err (record { row = n; why = bad.why })) (sym h.0))
  opening_from-refused said refused.OutOfMemory new kept so_far same e t h = tt

  -- the row `begin`
  pub opening_from-begin : (new : List Flow) → nodes ≡ shape.nodes → found ≡ true → TakesRow found before row after
      → TakesIn number (row_after_flows nodes flows row) flows new (Ok false)
      → opening_from shape before flows number ≡ Ok (record { shape = shape; flows = new; begin_row = number })
  unfolding opening_from
  opening_from-begin new same e t h = rw (← same, took found before after row e t, h.0, h.1) refl

  -- a flow
  pub opening_from-flow : (new : List Flow) → nodes ≡ shape.nodes → found ≡ true → TakesRow found before row after
      → TakesIn number (row_after_flows nodes flows row) flows new (Ok true)
      → opening_from shape before flows number ≡ opening_from shape after new (number + 1)
  unfolding opening_from
  opening_from-flow new same e t h = rw (← same, took found before after row e t, h.1, h.2) refl

module _ (found : Bool) (all after : List Row) (row : Row) where
  pub opening_of-none : found ≡ false → TakesRow found all row after → opening_of all ≡ Err (bad_row 1 why.NoBegin)
  unfolding opening_of
  opening_of-none e t = rw (none_left found all after row e t) refl

  pub opening_of-some : found ≡ true → TakesRow found all row after → opening_of all ≡ opening_after after (shape_of row)
  unfolding opening_of
  opening_of-some e t = rw (took found all after row e t) refl
