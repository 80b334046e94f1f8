use Rattle.std.proofs.Common.{ℕ, ◌≡◌, ◌≢◌, ◌∙◌, ◌+◌, ◌<◌, ◌++◌, ◌∷◌, [], List, Some, None, length, map, set, refl, sym, ap, subst, arith, length-append}
use Rattle.std.proofs.lemmas.List.{get_or_default, length-map, map-set}
use Rattle.std.proofs.Math.ListN.{get_or-map}
use Rattle.std.specs.Prelude.{IfSome}
use Rattle.std.specs.List.{slice_get}
use Rattle.flow_types.specs.declared.key.FlowKey.{FlowKey}
use Rattle.flow_types.specs.Map.{flow_at}
use Rattle.flow_types.specs.Size.{Size, value_bits}
use Rattle.flow_types.specs.Limits.{most_turns}
use Rattle.hash_family.specs.Hash.{place}
use Rattle.group_search.specs.Canon.{canonical}
use Rattle.group_search.specs.Records.{entries}
use Rattle.group_history.specs.declared.change.Change.{Change}
use Rattle.group_history.specs.Change.{step}
use Rattle.group_history.specs.declared.refused.UpdateRefused.{UpdateRefused}
use Rattle.group_history.specs.declared.refused.UpdateRefused.TheVariants.{RowsFull}
use Rattle.group_history.specs.Acceptance.{grounds_in, refusal_of_place, updated_key, wanted}
use Rattle.rib_owner.specs.Judging.{IsFor, refusal_in_rows}
use Rattle.group_history.specs.Journal.{Log}
use Rattle.group_search.specs.Home.{group_of}
use Rattle.rib_owner.specs.Part.{IsOwner}
use Rattle.rib_owner.specs.Rib.{IsRibOf, Part, Rib, map_in}
use Rattle.rib_owner.specs.Stock.{part_in, standing_in, bucket_for}
use Rattle.rib_owner.specs.Turn.{plan_of}
use Rattle.rib_owner.proofs.Accepting.{err_is, found_kept, same_err, seen, seen_accepted, seen_place, seen_rows, seen_small, seen_turn}
use Rattle.rib_owner.proofs.Answering.{answer_spent}
use Rattle.rib_owner.proofs.KeysBucket.{bucket_of_place}
use Rattle.rib_owner.proofs.Removed.{place_not_rows, removed_fits}
use Rattle.rib_owner.proofs.owner.Owner.judge.Goals as goal
use Rattle.rib_owner.specs.declared.block.Found.{Found}
use Rattle.rib_owner.specs.Decision.{IsSeen}

pub returns-then-turns-eq-MOST_TURNS-clause-answer : goal.returns-then-turns-eq-MOST_TURNS-clause-answer
returns-then-turns-eq-MOST_TURNS-clause-answer c flows is =
    let last : length c.args.self.now.journal.changes ≡ most_turns =
    sym (ap (λ (r : Rib). length r.journal.changes) c.self.view_is) ∙ sym c.len-turns.ensures ∙ c.if-turns-eq-MOST_TURNS.true in
    answer_spent c.args.self.now.size flows c.args.self.now.journal.changes c.args.update last

pub find-found-requires : goal.find-found-requires
find-found-requires c =
    sym (c.spot-spot.ensures.bucket ∙ bucket_of_place c.args.self.now.size.blocks c.key-key.result)

pub check_place-requires : goal.check_place-requires
check_place-requires c =
    let is_seen : IsSeen c.args.self.now c.args.update c.spot-spot.result.block c.spot-spot.result.group c.spot-spot.result.index (part_in c.index-block.result.now)
    (record { block = c.spot-spot.result.block; group = c.spot-spot.result.group; key = c.key-key.result; to = c.wanted.result }) =
    seen c.args.self.now (record { size = c.self.inside.shape; number = c.self.inside.number; parts = map part_in c.self.inside.blocks.items; journal = c.self.inside.journal }) c.self.view_is
    c.args.update c.key-key.result c.key-key.ensures c.spot-spot.result.block c.spot-spot.result.group c.spot-spot.result.index
    c.spot-spot.ensures.block c.spot-spot.ensures.index c.spot-spot.ensures.inside c.spot-spot.ensures.group c.spot-spot.ensures.in_range
    (part_in c.index-block.result.now) (ap part_in c.index-block.ensures ∙ sym (get_or-map part_in c.self.inside.blocks.items c.spot-spot.result.index c.index-block.result.now)) c.wanted.result c.wanted.ensures in
    c.flow_of-before.ensures ∙ c.find-found.ensures.flow ∙ c.find-found.ensures.in_group
    ∙ ap (λ (k : FlowKey). flow_at k (map_in (part_in c.index-block.result.now) (group_of c.index-block.result.now.choices c.spot-spot.result.bucket))) c.key-key.ensures
    ∙ ap (λ (g : ℕ). flow_at (updated_key c.args.update) (map_in (part_in c.index-block.result.now) g)) (sym (is_seen.group_is ∙ ap (λ (p : Part). group_of p.choices (place c.args.self.now.size.blocks (updated_key c.args.update)).bucket) (sym is_seen.found_is)
    ∙ ap (group_of (part_in c.index-block.result.now).choices) (ap (λ (k : FlowKey). (place c.args.self.now.size.blocks k).bucket) (sym c.key-key.ensures) ∙ sym c.spot-spot.ensures.bucket)))

pub returns-in_err-check_place-clause-answer : goal.returns-in_err-check_place-clause-answer
returns-in_err-check_place-clause-answer c flows is =
    let is_seen : IsSeen c.args.self.now c.args.update c.spot-spot.result.block c.spot-spot.result.group c.spot-spot.result.index (part_in c.index-block.result.now)
    (record { block = c.spot-spot.result.block; group = c.spot-spot.result.group; key = c.key-key.result; to = c.wanted.result }) =
    seen c.args.self.now (record { size = c.self.inside.shape; number = c.self.inside.number; parts = map part_in c.self.inside.blocks.items; journal = c.self.inside.journal }) c.self.view_is
    c.args.update c.key-key.result c.key-key.ensures c.spot-spot.result.block c.spot-spot.result.group c.spot-spot.result.index
    c.spot-spot.ensures.block c.spot-spot.ensures.index c.spot-spot.ensures.inside c.spot-spot.ensures.group c.spot-spot.ensures.in_range
    (part_in c.index-block.result.now) (ap part_in c.index-block.ensures ∙ sym (get_or-map part_in c.self.inside.blocks.items c.spot-spot.result.index c.index-block.result.now)) c.wanted.result c.wanted.ensures in
    let sound : IsOwner c.args.self.now.size c.args.self.now.number c.args.self.now.parts =
    subst (λ (r : Rib). IsOwner r.size r.number r.parts) c.self.view_is c.self.invariant.owner in
    let left : length c.args.self.now.journal.changes ≢ most_turns =
    λ last. c.if-turns-eq-MOST_TURNS.false (c.len-turns.ensures ∙ ap (λ (r : Rib). length r.journal.changes) c.self.view_is ∙ last) in
    let low : (place c.args.self.now.size.blocks (updated_key c.args.update)).block < c.args.self.now.size.blocks = omega (arith, is_seen.block_is, c.spot-spot.ensures.below) in
    rw (err_is c.from_residual.result c.in_err-check_place.field-0.0 c.from_residual.ensures.1)
    (seen_place c.args.self.now c.args.update c.spot-spot.result.block c.spot-spot.result.group c.spot-spot.result.index (part_in c.index-block.result.now)
    (record { block = c.spot-spot.result.block; group = c.spot-spot.result.group; key = c.key-key.result; to = c.wanted.result }) is_seen c.requires.owns c.spot-spot.ensures.some_node sound
    low flows is left c.in_err-check_place.field-0.0 c.in_err-check_place.ensures)

pub fitting_record-requires-clause-kept : goal.fitting_record-requires-clause-kept
fitting_record-requires-clause-kept c =
    let is_seen : IsSeen c.args.self.now c.args.update c.spot-spot.result.block c.spot-spot.result.group c.spot-spot.result.index (part_in c.index-block.result.now)
    (record { block = c.spot-spot.result.block; group = c.spot-spot.result.group; key = c.key-key.result; to = c.wanted.result }) =
    seen c.args.self.now (record { size = c.self.inside.shape; number = c.self.inside.number; parts = map part_in c.self.inside.blocks.items; journal = c.self.inside.journal }) c.self.view_is
    c.args.update c.key-key.result c.key-key.ensures c.spot-spot.result.block c.spot-spot.result.group c.spot-spot.result.index
    c.spot-spot.ensures.block c.spot-spot.ensures.index c.spot-spot.ensures.inside c.spot-spot.ensures.group c.spot-spot.ensures.in_range
    (part_in c.index-block.result.now) (ap part_in c.index-block.ensures ∙ sym (get_or-map part_in c.self.inside.blocks.items c.spot-spot.result.index c.index-block.result.now)) c.wanted.result c.wanted.ensures in
    let sound : IsOwner c.args.self.now.size c.args.self.now.number c.args.self.now.parts =
    subst (λ (r : Rib). IsOwner r.size r.number r.parts) c.self.view_is c.self.invariant.owner in
    let size_is : c.self.inside.shape ≡ c.args.self.now.size = ap (λ (r : Rib). r.size) c.self.view_is in
    let bits : c.value_bits-bits.result ≡ value_bits c.args.self.now.size.nodes = c.value_bits-bits.ensures.value ∙ ap (λ (s : Size). value_bits s.nodes) size_is in
    rw bits (found_kept c.args.self.now c.args.update c.spot-spot.result.block c.spot-spot.result.group c.spot-spot.result.index (part_in c.index-block.result.now)
    (record { block = c.spot-spot.result.block; group = c.spot-spot.result.group; key = c.key-key.result; to = c.wanted.result }) is_seen c.requires.owns c.spot-spot.ensures.some_node sound)

pub fitting_record-requires-clause-few : goal.fitting_record-requires-clause-few
fitting_record-requires-clause-few c =
    let is_seen : IsSeen c.args.self.now c.args.update c.spot-spot.result.block c.spot-spot.result.group c.spot-spot.result.index (part_in c.index-block.result.now)
    (record { block = c.spot-spot.result.block; group = c.spot-spot.result.group; key = c.key-key.result; to = c.wanted.result }) =
    seen c.args.self.now (record { size = c.self.inside.shape; number = c.self.inside.number; parts = map part_in c.self.inside.blocks.items; journal = c.self.inside.journal }) c.self.view_is
    c.args.update c.key-key.result c.key-key.ensures c.spot-spot.result.block c.spot-spot.result.group c.spot-spot.result.index
    c.spot-spot.ensures.block c.spot-spot.ensures.index c.spot-spot.ensures.inside c.spot-spot.ensures.group c.spot-spot.ensures.in_range
    (part_in c.index-block.result.now) (ap part_in c.index-block.ensures ∙ sym (get_or-map part_in c.self.inside.blocks.items c.spot-spot.result.index c.index-block.result.now)) c.wanted.result c.wanted.ensures in
    let sound : IsOwner c.args.self.now.size c.args.self.now.number c.args.self.now.parts =
    subst (λ (r : Rib). IsOwner r.size r.number r.parts) c.self.view_is c.self.invariant.owner in
    seen_small c.args.self.now c.args.update c.spot-spot.result.block c.spot-spot.result.group c.spot-spot.result.index (part_in c.index-block.result.now)
    (record { block = c.spot-spot.result.block; group = c.spot-spot.result.group; key = c.key-key.result; to = c.wanted.result }) is_seen c.requires.owns c.spot-spot.ensures.some_node sound
    c.in_ok-check_place.ensures

pub returns-in_err-content-clause-answer : goal.returns-in_err-content-clause-answer
returns-in_err-content-clause-answer c flows is =
    let is_seen : IsSeen c.args.self.now c.args.update c.spot-spot.result.block c.spot-spot.result.group c.spot-spot.result.index (part_in c.index-block.result.now)
    (record { block = c.spot-spot.result.block; group = c.spot-spot.result.group; key = c.key-key.result; to = c.wanted.result }) =
    seen c.args.self.now (record { size = c.self.inside.shape; number = c.self.inside.number; parts = map part_in c.self.inside.blocks.items; journal = c.self.inside.journal }) c.self.view_is
    c.args.update c.key-key.result c.key-key.ensures c.spot-spot.result.block c.spot-spot.result.group c.spot-spot.result.index
    c.spot-spot.ensures.block c.spot-spot.ensures.index c.spot-spot.ensures.inside c.spot-spot.ensures.group c.spot-spot.ensures.in_range
    (part_in c.index-block.result.now) (ap part_in c.index-block.ensures ∙ sym (get_or-map part_in c.self.inside.blocks.items c.spot-spot.result.index c.index-block.result.now)) c.wanted.result c.wanted.ensures in
    let sound : IsOwner c.args.self.now.size c.args.self.now.number c.args.self.now.parts =
    subst (λ (r : Rib). IsOwner r.size r.number r.parts) c.self.view_is c.self.invariant.owner in
    let left : length c.args.self.now.journal.changes ≢ most_turns =
    λ last. c.if-turns-eq-MOST_TURNS.false (c.len-turns.ensures ∙ ap (λ (r : Rib). length r.journal.changes) c.self.view_is ∙ last) in
    let low : (place c.args.self.now.size.blocks (updated_key c.args.update)).block < c.args.self.now.size.blocks = omega (arith, is_seen.block_is, c.spot-spot.ensures.below) in
    let size_is : c.self.inside.shape ≡ c.args.self.now.size = ap (λ (r : Rib). r.size) c.self.view_is in
    let bits : c.value_bits-bits.result ≡ value_bits c.args.self.now.size.nodes = c.value_bits-bits.ensures.value ∙ ap (λ (s : Size). value_bits s.nodes) size_is in
    rw (err_is c.from_residual-in_err-content.result c.in_err-content.field-0.0 c.from_residual-in_err-content.ensures.1)
    (seen_rows c.args.self.now c.args.update c.spot-spot.result.block c.spot-spot.result.group c.spot-spot.result.index (part_in c.index-block.result.now)
    (record { block = c.spot-spot.result.block; group = c.spot-spot.result.group; key = c.key-key.result; to = c.wanted.result }) is_seen c.requires.owns c.spot-spot.ensures.some_node sound
    low flows is left c.in_ok-check_place.ensures c.in_err-content.field-0.0 (rw bits at c.in_err-content.ensures.rows))

pub returns-in_err-check_place-clause-removes : goal.returns-in_err-check_place-clause-removes
returns-in_err-check_place-clause-removes c key block needed free removes err =
    let same : c.in_err-check_place.field-0.0 ≡ RowsFull block needed free =
    same_err c.from_residual.result c.in_err-check_place.field-0.0 (RowsFull block needed free)
    (err_is c.from_residual.result c.in_err-check_place.field-0.0 c.from_residual.ensures.1) err in
    place_not_rows c.args.update key removes
    (grounds_in 0 0 (record { block = c.spot-spot.result.block; group = c.spot-spot.result.group }) (map_in (part_in c.index-block.result.now)) c.args.update) block needed free
    (subst
    (λ (e : UpdateRefused).
    IsFor
    (refusal_of_place c.args.update
    (grounds_in 0 0 (record { block = c.spot-spot.result.block; group = c.spot-spot.result.group }) (map_in (part_in c.index-block.result.now)) c.args.update))
    e)
    same (c.in_err-check_place.ensures 0 0))

pub returns-in_err-content-clause-removes : goal.returns-in_err-content-clause-removes
returns-in_err-content-clause-removes c key block needed free removes err =
    let is_seen : IsSeen c.args.self.now c.args.update c.spot-spot.result.block c.spot-spot.result.group c.spot-spot.result.index (part_in c.index-block.result.now)
    (record { block = c.spot-spot.result.block; group = c.spot-spot.result.group; key = c.key-key.result; to = c.wanted.result }) =
    seen c.args.self.now (record { size = c.self.inside.shape; number = c.self.inside.number; parts = map part_in c.self.inside.blocks.items; journal = c.self.inside.journal }) c.self.view_is
    c.args.update c.key-key.result c.key-key.ensures c.spot-spot.result.block c.spot-spot.result.group c.spot-spot.result.index
    c.spot-spot.ensures.block c.spot-spot.ensures.index c.spot-spot.ensures.inside c.spot-spot.ensures.group c.spot-spot.ensures.in_range
    (part_in c.index-block.result.now) (ap part_in c.index-block.ensures ∙ sym (get_or-map part_in c.self.inside.blocks.items c.spot-spot.result.index c.index-block.result.now)) c.wanted.result c.wanted.ensures in
    let sound : IsOwner c.args.self.now.size c.args.self.now.number c.args.self.now.parts =
    subst (λ (r : Rib). IsOwner r.size r.number r.parts) c.self.view_is c.self.invariant.owner in
    let size_is : c.self.inside.shape ≡ c.args.self.now.size = ap (λ (r : Rib). r.size) c.self.view_is in
    let bits : c.value_bits-bits.result ≡ value_bits c.args.self.now.size.nodes = c.value_bits-bits.ensures.value ∙ ap (λ (s : Size). value_bits s.nodes) size_is in
    let same : c.in_err-content.field-0.0 ≡ RowsFull block needed free =
    same_err c.from_residual-in_err-content.result c.in_err-content.field-0.0 (RowsFull block needed free)
    (err_is c.from_residual-in_err-content.result c.in_err-content.field-0.0 c.from_residual-in_err-content.ensures.1) err in
    let full : refusal_in_rows (value_bits c.args.self.now.size.nodes) (part_in c.index-block.result.now) (record { block = c.spot-spot.result.block; group = c.spot-spot.result.group; key = c.key-key.result; to = c.wanted.result }) ≡ Some (RowsFull block needed free) =
    subst (λ (e : UpdateRefused). IsFor (refusal_in_rows (value_bits c.args.self.now.size.nodes) (part_in c.index-block.result.now) (record { block = c.spot-spot.result.block; group = c.spot-spot.result.group; key = c.key-key.result; to = c.wanted.result })) e)
    same (rw bits at c.in_err-content.ensures.rows) in
    let none : refusal_in_rows (value_bits c.args.self.now.size.nodes) (part_in c.index-block.result.now) (record { block = c.spot-spot.result.block; group = c.spot-spot.result.group; key = c.key-key.result; to = c.wanted.result }) ≡ None =
    removed_fits (value_bits c.args.self.now.size.nodes) (part_in c.index-block.result.now) (record { block = c.spot-spot.result.block; group = c.spot-spot.result.group; key = c.key-key.result; to = c.wanted.result })
    (found_kept c.args.self.now c.args.update c.spot-spot.result.block c.spot-spot.result.group c.spot-spot.result.index (part_in c.index-block.result.now)
    (record { block = c.spot-spot.result.block; group = c.spot-spot.result.group; key = c.key-key.result; to = c.wanted.result }) is_seen c.requires.owns c.spot-spot.ensures.some_node sound)
    c.spot-spot.ensures.in_range (c.wanted.ensures ∙ ap wanted removes) in
    cc

pub overflow_add-number : goal.overflow_add-number
overflow_add-number c = omega (arith, c.self.invariant.turns, c.len-turns.ensures)

pub returns-clause-answer : goal.returns-clause-answer
returns-clause-answer c flows is =
    let is_seen : IsSeen c.args.self.now c.args.update c.spot-spot.result.block c.spot-spot.result.group c.spot-spot.result.index (part_in c.index-block.result.now)
    (record { block = c.spot-spot.result.block; group = c.spot-spot.result.group; key = c.key-key.result; to = c.wanted.result }) =
    seen c.args.self.now (record { size = c.self.inside.shape; number = c.self.inside.number; parts = map part_in c.self.inside.blocks.items; journal = c.self.inside.journal }) c.self.view_is
    c.args.update c.key-key.result c.key-key.ensures c.spot-spot.result.block c.spot-spot.result.group c.spot-spot.result.index
    c.spot-spot.ensures.block c.spot-spot.ensures.index c.spot-spot.ensures.inside c.spot-spot.ensures.group c.spot-spot.ensures.in_range
    (part_in c.index-block.result.now) (ap part_in c.index-block.ensures ∙ sym (get_or-map part_in c.self.inside.blocks.items c.spot-spot.result.index c.index-block.result.now)) c.wanted.result c.wanted.ensures in
    let sound : IsOwner c.args.self.now.size c.args.self.now.number c.args.self.now.parts =
    subst (λ (r : Rib). IsOwner r.size r.number r.parts) c.self.view_is c.self.invariant.owner in
    let before : c.flow_of-before.result ≡ flow_at (updated_key c.args.update) (map_in (part_in c.index-block.result.now) c.spot-spot.result.group) =
    c.flow_of-before.ensures ∙ c.find-found.ensures.flow ∙ c.find-found.ensures.in_group
    ∙ ap (λ (k : FlowKey). flow_at k (map_in (part_in c.index-block.result.now) (group_of c.index-block.result.now.choices c.spot-spot.result.bucket))) c.key-key.ensures
    ∙ ap (λ (g : ℕ). flow_at (updated_key c.args.update) (map_in (part_in c.index-block.result.now) g)) (sym (is_seen.group_is ∙ ap (λ (p : Part). group_of p.choices (place c.args.self.now.size.blocks (updated_key c.args.update)).bucket) (sym is_seen.found_is)
    ∙ ap (group_of (part_in c.index-block.result.now).choices) (ap (λ (k : FlowKey). (place c.args.self.now.size.blocks k).bucket) (sym c.key-key.ensures) ∙ sym c.spot-spot.ensures.bucket))) in
    let left : length c.args.self.now.journal.changes ≢ most_turns =
    λ last. c.if-turns-eq-MOST_TURNS.false (c.len-turns.ensures ∙ ap (λ (r : Rib). length r.journal.changes) c.self.view_is ∙ last) in
    let low : (place c.args.self.now.size.blocks (updated_key c.args.update)).block < c.args.self.now.size.blocks = omega (arith, is_seen.block_is, c.spot-spot.ensures.below) in
    let size_is : c.self.inside.shape ≡ c.args.self.now.size = ap (λ (r : Rib). r.size) c.self.view_is in
    let bits : c.value_bits-bits.result ≡ value_bits c.args.self.now.size.nodes = c.value_bits-bits.ensures.value ∙ ap (λ (s : Size). value_bits s.nodes) size_is in
    let content : canonical (value_bits c.args.self.now.size.nodes) (entries (step (map_in (part_in c.index-block.result.now) c.spot-spot.result.group) (record { block = c.spot-spot.result.block; group = c.spot-spot.result.group; key = c.key-key.result; to = c.wanted.result }))) ≡ Some c.in_ok-content.content =
    rw bits at c.in_ok-content.ensures.record in (
      seen_accepted c.args.self.now c.args.update c.spot-spot.result.block c.spot-spot.result.group c.spot-spot.result.index (part_in c.index-block.result.now)
          (record { block = c.spot-spot.result.block; group = c.spot-spot.result.group; key = c.key-key.result; to = c.wanted.result }) is_seen c.requires.owns c.spot-spot.ensures.some_node sound
          low flows is left c.in_ok-check_place.ensures (rw bits at c.in_ok-content.ensures.rows),
      seen_turn c.args.self.now c.args.update c.spot-spot.result.block c.spot-spot.result.group c.spot-spot.result.index (part_in c.index-block.result.now)
          (record { block = c.spot-spot.result.block; group = c.spot-spot.result.group; key = c.key-key.result; to = c.wanted.result }) is_seen c.requires.owns c.spot-spot.ensures.some_node sound
          low flows is _ (ap (λ (n : ℕ). n + 1) (c.len-turns.ensures ∙ ap (λ (r : Rib). length r.journal.changes) c.self.view_is)) refl content
          (c.of-fib.ensures ∙ ap (plan_of c.args.update) before),
    )

pub returns-clause-decision : goal.returns-clause-decision
returns-clause-decision c =
    let is_seen : IsSeen c.args.self.now c.args.update c.spot-spot.result.block c.spot-spot.result.group c.spot-spot.result.index (part_in c.index-block.result.now)
    (record { block = c.spot-spot.result.block; group = c.spot-spot.result.group; key = c.key-key.result; to = c.wanted.result }) =
    seen c.args.self.now (record { size = c.self.inside.shape; number = c.self.inside.number; parts = map part_in c.self.inside.blocks.items; journal = c.self.inside.journal }) c.self.view_is
    c.args.update c.key-key.result c.key-key.ensures c.spot-spot.result.block c.spot-spot.result.group c.spot-spot.result.index
    c.spot-spot.ensures.block c.spot-spot.ensures.index c.spot-spot.ensures.inside c.spot-spot.ensures.group c.spot-spot.ensures.in_range
    (part_in c.index-block.result.now) (ap part_in c.index-block.ensures ∙ sym (get_or-map part_in c.self.inside.blocks.items c.spot-spot.result.index c.index-block.result.now)) c.wanted.result c.wanted.ensures in
    let sound : IsOwner c.args.self.now.size c.args.self.now.number c.args.self.now.parts =
    subst (λ (r : Rib). IsOwner r.size r.number r.parts) c.self.view_is c.self.invariant.owner in
    let before : c.flow_of-before.result ≡ flow_at (updated_key c.args.update) (map_in (part_in c.index-block.result.now) c.spot-spot.result.group) =
    c.flow_of-before.ensures ∙ c.find-found.ensures.flow ∙ c.find-found.ensures.in_group
    ∙ ap (λ (k : FlowKey). flow_at k (map_in (part_in c.index-block.result.now) (group_of c.index-block.result.now.choices c.spot-spot.result.bucket))) c.key-key.ensures
    ∙ ap (λ (g : ℕ). flow_at (updated_key c.args.update) (map_in (part_in c.index-block.result.now) g)) (sym (is_seen.group_is ∙ ap (λ (p : Part). group_of p.choices (place c.args.self.now.size.blocks (updated_key c.args.update)).bucket) (sym is_seen.found_is)
    ∙ ap (group_of (part_in c.index-block.result.now).choices) (ap (λ (k : FlowKey). (place c.args.self.now.size.blocks k).bucket) (sym c.key-key.ensures) ∙ sym c.spot-spot.ensures.bucket))) in
    let left : length c.args.self.now.journal.changes ≢ most_turns =
    λ last. c.if-turns-eq-MOST_TURNS.false (c.len-turns.ensures ∙ ap (λ (r : Rib). length r.journal.changes) c.self.view_is ∙ last) in
    let low : (place c.args.self.now.size.blocks (updated_key c.args.update)).block < c.args.self.now.size.blocks = omega (arith, is_seen.block_is, c.spot-spot.ensures.below) in
    let size_is : c.self.inside.shape ≡ c.args.self.now.size = ap (λ (r : Rib). r.size) c.self.view_is in
    let bits : c.value_bits-bits.result ≡ value_bits c.args.self.now.size.nodes = c.value_bits-bits.ensures.value ∙ ap (λ (s : Size). value_bits s.nodes) size_is in
    let content : canonical (value_bits c.args.self.now.size.nodes) (entries (step (map_in (part_in c.index-block.result.now) c.spot-spot.result.group) (record { block = c.spot-spot.result.block; group = c.spot-spot.result.group; key = c.key-key.result; to = c.wanted.result }))) ≡ Some c.in_ok-content.content =
    rw bits at c.in_ok-content.ensures.record in
    let in_group : c.spot-spot.result.group ≡ group_of (part_in c.index-block.result.now).choices c.spot-spot.result.bucket =
    is_seen.group_is ∙ ap (λ (p : Part). group_of p.choices (place c.args.self.now.size.blocks (updated_key c.args.update)).bucket) (sym is_seen.found_is)
    ∙ ap (group_of (part_in c.index-block.result.now).choices) (ap (λ (k : FlowKey). (place c.args.self.now.size.blocks k).bucket) (sym c.key-key.ensures) ∙ sym c.spot-spot.ensures.bucket) in
    let placed = subst
    (λ (g : ℕ). IfSome c.find-found.result (λ (it : Found). slice_get (standing_in (part_in c.index-block.result.now) g c.spot-spot.result.bucket) it.place ≡ Some it.flow))
    (sym in_group) c.find-found.ensures.place in
    record {
      update = c.args.update;
      part = part_in c.index-block.result.now;
      owned = c.requires.owns;
      left = left;
      some_node = c.spot-spot.ensures.some_node;
      below = c.spot-spot.ensures.below;
      seen = is_seen;
      bucket = c.spot-spot.ensures.bucket ∙ bucket_of_place c.args.self.now.size.blocks c.key-key.result ∙ ap bucket_for c.key-key.ensures;
      in_group = in_group;
      found = record { flow = sym c.flow_of-before.ensures ∙ before; place = placed };
      there = c.in_ok-check_place.ensures;
      content = content;
      room = c.in_ok-content.ensures.free;
    }
