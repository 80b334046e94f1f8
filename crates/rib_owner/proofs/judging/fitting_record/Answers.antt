use Rattle.std.proofs.Common.{◌≡◌, ◌∙◌, subst, sym, ap, arith}
use Rattle.group_search.specs.Build.{rows_needed}
use Rattle.group_search.specs.Records.{entries}
use Rattle.group_search.proofs.NeededRows.{rows_of_canonical, without_record}
use Rattle.flow_types.specs.Map.{HaveDistinctKeys}
use Rattle.group_search.specs.Rows.{entry_key}
use Rattle.group_history.specs.Change.{step}
use Rattle.group_history.proofs.Versions.{distinct-step}
use Rattle.rib_owner.specs.Rib.{map_in}
use Rattle.rib_owner.specs.Stock.{part_in}
use Rattle.rib_owner.proofs.Gathered.{distinct_entries}
use Rattle.rib_owner.proofs.Rows.{rows_allowed, rows_refused}
use Rattle.rib_owner.proofs.judging.fitting_record.Goals as goal

pub canon-requires-clause-distinct : goal.canon-requires-clause-distinct
canon-requires-clause-distinct c =
    let is : c.as_slice.result.now ≡ entries (step (map_in (part_in c.args.block.now) c.args.change.now.group) c.args.change.now) = c.as_slice.ensures.value ∙ c.in_ok-gather.ensures in
    subst (HaveDistinctKeys entry_key) (sym is)
    (distinct_entries (step (map_in (part_in c.args.block.now) c.args.change.now.group) c.args.change.now)
    (distinct-step (map_in (part_in c.args.block.now) c.args.change.now.group) c.args.change.now (c.requires.kept.distinct c.args.change.now.group)))

pub returns-in-Ok-clause-rows : goal.returns-in-Ok-clause-rows
returns-in-Ok-clause-rows c =
    let is : c.as_slice.result.now ≡ entries (step (map_in (part_in c.args.block.now) c.args.change.now.group) c.args.change.now) = c.as_slice.ensures.value ∙ c.in_ok-gather.ensures in
    let needed : c.rows.result ≡ rows_needed c.args.bits (entries (step (map_in (part_in c.args.block.now) c.args.change.now.group) c.args.change.now)) =
    c.rows.ensures ∙ rows_of_canonical c.as_slice.result.now c.args.bits _ (sym c.in-Ok.ensures.value) ∙ ap (rows_needed c.args.bits) is in
    rows_allowed c.args.bits (part_in c.args.block.now) c.args.change.now c.rows.result c.rows_left-free.result c.rows_left-free.ensures.value needed c.if-rows-free.true

pub returns-in-Ok-2-clause-rows : goal.returns-in-Ok-2-clause-rows
returns-in-Ok-2-clause-rows c =
    let is : c.as_slice.result.now ≡ entries (step (map_in (part_in c.args.block.now) c.args.change.now.group) c.args.change.now) = c.as_slice.ensures.value ∙ c.in_ok-gather.ensures in
    let needed : c.from.result ≡ rows_needed c.args.bits (entries (step (map_in (part_in c.args.block.now) c.args.change.now.group) c.args.change.now)) =
    c.from.ensures ∙ c.rows-in-Ok-2.ensures ∙ rows_of_canonical c.as_slice.result.now c.args.bits _ (sym c.in-Ok.ensures.value) ∙ ap (rows_needed c.args.bits) is in
    rows_refused c.args.bits (part_in c.args.block.now) c.args.change.now c.from.result c.rows_left-free.result c.rows_left-free.ensures.value needed
    (omega (arith, c.from.ensures, c.rows-in-Ok-2.ensures, c.rows.ensures, c.if-rows-free.false))

pub returns-in-Err-clause-rows : goal.returns-in-Err-clause-rows
returns-in-Err-clause-rows c =
    let is : c.as_slice.result.now ≡ entries (step (map_in (part_in c.args.block.now) c.args.change.now.group) c.args.change.now) = c.as_slice.ensures.value ∙ c.in_ok-gather.ensures in
    let large = without_record c.as_slice.result.now c.args.bits (sym c.in-Err.ensures.value) in
    let needed : c.from-in-Err.result ≡ rows_needed c.args.bits (entries (step (map_in (part_in c.args.block.now) c.args.change.now.group) c.args.change.now)) =
    c.from-in-Err.ensures ∙ c.in-Err.ensures.keys ∙ sym large.0 ∙ ap (rows_needed c.args.bits) is in
    rows_refused c.args.bits (part_in c.args.block.now) c.args.change.now c.from-in-Err.result c.rows_left-free.result c.rows_left-free.ensures.value needed
    (omega (arith, large.0, large.1, c.in-Err.ensures.keys, c.from-in-Err.ensures, c.rows_left-free.ensures.most))
