use Rattle.std.proofs.Common.{◌∙◌, rules, sym, arith, refl}
use Rattle.packet_reader.proofs.FirstBadFacts.{says-script}
use Rattle.packet_reader.proofs.Scripts.{row_says, row_refused, ends_well, lacks_end, fewer, with_row_is}
use Rattle.packet_reader.specs.Script.{Progress}
use Rattle.packet_reader.proofs.reading.read_rows.Goals as goal

pub returns-in-Err-clause-answers : goal.returns-in-Err-clause-answers
returns-in-Err-clause-answers g c =
    rw c.refusal.ensures (row_refused (g.M.RowMeaning.meaning c.args.meaning.now) (record { events = c.rows.events.items; ended = c.rows.ended }) c.rows.number _ _ _ _ _ c.in_ok-next_row.ensures.takes c.rows.invariant.said c.if-branch.true _
    (sym (c.in_ok-said.ensures c.rows.events.items c.rows.invariant.counted) ∙ c.in-Err.is))

pub rows-preserved : goal.rows-preserved
rows-preserved g c =
    let meaning = g.M.RowMeaning.meaning c.args.meaning.now in
    let so_far : Progress g.row.M-Said.Denot = record { events = c.rows.events.items; ended = c.rows.ended } in
    let less = fewer meaning so_far c.rows.number _ _ _ _ _ c.in_ok-next_row.ensures.takes c.rows.invariant.said c.if-branch.true in
    let added = c.in_ok-syncs-in-Ok.ensures in
    let more = added.one_more in
    let bounded = c.rows.invariant.bounded in
    let few = c.rows.invariant.few in
    record {
      reading = c.in_ok-next_row.ensures.reading;
      said =
          row_says meaning so_far c.rows.number _ _ _ _ _ c.in_ok-next_row.ensures.takes c.rows.invariant.said c.if-branch.true
          c.in-Ok.said _ (sym (c.in_ok-said.ensures c.rows.events.items c.rows.invariant.counted) ∙ c.in-Ok.is)
          (with_row_is so_far c.in-Ok.said _ c.is_none-ended.result added.added (search rules));
      few = omega arith;
      bounded = omega arith;
      counted = added.counted;
    }

pub returns-then-ended-clause-answers : goal.returns-then-ended-clause-answers
returns-then-ended-clause-answers g c =
    ends_well (g.M.RowMeaning.meaning c.args.meaning.now) (record { events = c.rows.events.items; ended = c.rows.ended }) c.rows.number _ _ _ _ _ c.in_ok-next_row.ensures.takes c.rows.invariant.said c.if-branch.false c.if-ended.true _ refl

pub returns-then-ended-clause-script : goal.returns-then-ended-clause-script
returns-then-ended-clause-script g c = says-script (g.M.RowMeaning.meaning c.args.meaning.now) c.args.begin_row _ _ (returns-then-ended-clause-answers g c)

pub returns-else-ended-clause-answers : goal.returns-else-ended-clause-answers
returns-else-ended-clause-answers g c =
    rw c.refusal-else-ended.ensures
    (lacks_end (g.M.RowMeaning.meaning c.args.meaning.now) (record { events = c.rows.events.items; ended = c.rows.ended }) c.rows.number _ _ _ _ _ c.in_ok-next_row.ensures.takes c.rows.invariant.said c.if-branch.false c.if-ended.false)
