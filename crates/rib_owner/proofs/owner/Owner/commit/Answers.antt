use Rattle.std.proofs.Common.{ℕ, ◌≡◌, ◌∙◌, ◌++◌, ◌∷◌, [], List, length, map, set, sym, ap, subst, arith, length-append}
use Rattle.std.proofs.lemmas.List.{map-set}
use Rattle.std.proofs.Math.ListN.{get_or-map}
use Rattle.group_history.specs.declared.change.Change.{Change}
use Rattle.group_history.specs.Journal.{Log}
use Rattle.rib_owner.specs.Part.{IsOwner}
use Rattle.rib_owner.specs.Rib.{IsRibOf, Part, Rib}
use Rattle.rib_owner.specs.Stock.{part_in}
use Rattle.rib_owner.proofs.Accepting.{IsChanged, changed, on_err, part_same, part_there, parts_same}
use Rattle.rib_owner.proofs.Committing.{bucket_there, distinct_here, few_here, few_rows_here, found_here, owner_after, stands_after}
use Rattle.rib_owner.proofs.owner.Owner.commit.Goals as goal

pub reserve-requires : goal.reserve-requires
reserve-requires c =
    let sound : IsOwner c.args.self.now.size c.args.self.now.number c.args.self.now.parts =
    subst (λ (r : Rib). IsOwner r.size r.number r.parts) c.self.view_is c.self.invariant.owner in
    let here : part_in c.index_mut-block.result.now ≡ c.requires.decision.part =
    part_there c.args.self.now (record { size = c.self.inside.shape; number = c.self.inside.number; parts = map part_in c.self.inside.blocks.items; journal = c.self.inside.journal })
    c.self.view_is c.args.decision.spot.block c.args.decision.spot.index c.requires.decision.seen.index_is c.requires.decision.seen.inside (part_in c.index_mut-block.result.now)
    (ap part_in c.index_mut-block.ensures.value ∙ sym (get_or-map part_in c.self.inside.blocks.items c.args.decision.spot.index c.index_mut-block.result.now))
    ∙ sym c.requires.decision.seen.found_is in
    few_here c.args.self.now c.args.decision c.requires.decision sound c.index_mut-block.result.now here

pub invariant_of-self : goal.invariant_of-self
invariant_of-self c =
    let same : map part_in (set c.self.inside.blocks.items c.args.decision.spot.index c.reserve.new.self) ≡ map part_in c.self.inside.blocks.items =
    parts_same c.self.inside.blocks.items c.args.decision.spot.index c.index_mut-block.result.now c.reserve.new.self c.index_mut-block.ensures.value
    c.reserve.ensures.choices c.reserve.ensures.rows c.reserve.ensures.buckets in
    record {
      owner = rw same c.self.invariant.owner;
      turns = c.self.invariant.turns;
    }

pub returns-in_err-reserve-clause-refused : goal.returns-in_err-reserve-clause-refused
returns-in_err-reserve-clause-refused c =
    let same : map part_in (set c.self.inside.blocks.items c.args.decision.spot.index c.reserve.new.self) ≡ map part_in c.self.inside.blocks.items =
    parts_same c.self.inside.blocks.items c.args.decision.spot.index c.index_mut-block.result.now c.reserve.new.self c.index_mut-block.ensures.value
    c.reserve.ensures.choices c.reserve.ensures.rows c.reserve.ensures.buckets in
    let with : List Part → Rib = λ (ps : List Part). record { size = c.self.inside.shape; number = c.self.inside.number; parts = ps; journal = c.self.inside.journal } in
    let stays = ap with same ∙ c.self.view_is in
    on_err c.from_residual.result stays

pub returns-in_err-reserve-clause-stands : goal.returns-in_err-reserve-clause-stands
returns-in_err-reserve-clause-stands c flows is =
    let same : map part_in (set c.self.inside.blocks.items c.args.decision.spot.index c.reserve.new.self) ≡ map part_in c.self.inside.blocks.items =
    parts_same c.self.inside.blocks.items c.args.decision.spot.index c.index_mut-block.result.now c.reserve.new.self c.index_mut-block.ensures.value
    c.reserve.ensures.choices c.reserve.ensures.rows c.reserve.ensures.buckets in
    let with : List Part → Rib = λ (ps : List Part). record { size = c.self.inside.shape; number = c.self.inside.number; parts = ps; journal = c.self.inside.journal } in
    let stays = ap with same ∙ c.self.view_is in
    subst (IsRibOf c.args.self.now.size flows) (sym stays) is

pub invariant_of-self-in_err-reserve-2 : goal.invariant_of-self-in_err-reserve-2
invariant_of-self-in_err-reserve-2 c =
    let same : map part_in (set c.self.inside.blocks.items c.args.decision.spot.index c.reserve.new.self) ≡ map part_in c.self.inside.blocks.items =
    parts_same c.self.inside.blocks.items c.args.decision.spot.index c.index_mut-block.result.now c.reserve.new.self c.index_mut-block.ensures.value
    c.reserve.ensures.choices c.reserve.ensures.rows c.reserve.ensures.buckets in
    record {
      owner = rw same c.self.invariant.owner;
      turns = omega (arith, ap length c.in_err-reserve-2.ensures.changes, c.self.invariant.turns);
    }

pub returns-in_err-reserve-2-clause-refused : goal.returns-in_err-reserve-2-clause-refused
returns-in_err-reserve-2-clause-refused c =
    let same : map part_in (set c.self.inside.blocks.items c.args.decision.spot.index c.reserve.new.self) ≡ map part_in c.self.inside.blocks.items =
    parts_same c.self.inside.blocks.items c.args.decision.spot.index c.index_mut-block.result.now c.reserve.new.self c.index_mut-block.ensures.value
    c.reserve.ensures.choices c.reserve.ensures.rows c.reserve.ensures.buckets in
    let with : List Part → Rib = λ (ps : List Part). record { size = c.self.inside.shape; number = c.self.inside.number; parts = ps; journal = c.self.inside.journal } in
    let logged : Log → Rib = λ (log : Log).
    record { size = c.self.inside.shape; number = c.self.inside.number; parts = map part_in (set c.self.inside.blocks.items c.args.decision.spot.index c.reserve.new.self); journal = log } in
    let stays = ap logged c.in_err-reserve-2.ensures.refused ∙ ap with same ∙ c.self.view_is in
    on_err c.from_residual-in_err-reserve-2.result stays

pub returns-in_err-reserve-2-clause-stands : goal.returns-in_err-reserve-2-clause-stands
returns-in_err-reserve-2-clause-stands c flows is =
    let same : map part_in (set c.self.inside.blocks.items c.args.decision.spot.index c.reserve.new.self) ≡ map part_in c.self.inside.blocks.items =
    parts_same c.self.inside.blocks.items c.args.decision.spot.index c.index_mut-block.result.now c.reserve.new.self c.index_mut-block.ensures.value
    c.reserve.ensures.choices c.reserve.ensures.rows c.reserve.ensures.buckets in
    let with : List Part → Rib = λ (ps : List Part). record { size = c.self.inside.shape; number = c.self.inside.number; parts = ps; journal = c.self.inside.journal } in
    let logged : Log → Rib = λ (log : Log).
    record { size = c.self.inside.shape; number = c.self.inside.number; parts = map part_in (set c.self.inside.blocks.items c.args.decision.spot.index c.reserve.new.self); journal = log } in
    let stays = ap logged c.in_err-reserve-2.ensures.refused ∙ ap with same ∙ c.self.view_is in
    subst (IsRibOf c.args.self.now.size flows) (sym stays) is

pub change-requires-clause-bucket : goal.change-requires-clause-bucket
change-requires-clause-bucket c =
    let sound : IsOwner c.args.self.now.size c.args.self.now.number c.args.self.now.parts =
    subst (λ (r : Rib). IsOwner r.size r.number r.parts) c.self.view_is c.self.invariant.owner in
    bucket_there c.args.self.now c.args.decision c.requires.decision sound

pub change-requires-clause-found : goal.change-requires-clause-found
change-requires-clause-found c =
    let sound : IsOwner c.args.self.now.size c.args.self.now.number c.args.self.now.parts =
    subst (λ (r : Rib). IsOwner r.size r.number r.parts) c.self.view_is c.self.invariant.owner in
    let here : part_in c.index_mut-block.result.now ≡ c.requires.decision.part =
    part_there c.args.self.now (record { size = c.self.inside.shape; number = c.self.inside.number; parts = map part_in c.self.inside.blocks.items; journal = c.self.inside.journal })
    c.self.view_is c.args.decision.spot.block c.args.decision.spot.index c.requires.decision.seen.index_is c.requires.decision.seen.inside (part_in c.index_mut-block.result.now)
    (ap part_in c.index_mut-block.ensures.value ∙ sym (get_or-map part_in c.self.inside.blocks.items c.args.decision.spot.index c.index_mut-block.result.now))
    ∙ sym c.requires.decision.seen.found_is in
    let reserved : part_in c.reserve.new.self ≡ c.requires.decision.part =
    part_same c.reserve.new.self c.index_mut-block.result.now c.reserve.ensures.choices c.reserve.ensures.rows c.reserve.ensures.buckets ∙ here in
    found_here c.args.self.now c.args.decision c.requires.decision sound c.reserve.new.self reserved

pub change-requires-clause-distinct : goal.change-requires-clause-distinct
change-requires-clause-distinct c =
    let sound : IsOwner c.args.self.now.size c.args.self.now.number c.args.self.now.parts =
    subst (λ (r : Rib). IsOwner r.size r.number r.parts) c.self.view_is c.self.invariant.owner in
    let here : part_in c.index_mut-block.result.now ≡ c.requires.decision.part =
    part_there c.args.self.now (record { size = c.self.inside.shape; number = c.self.inside.number; parts = map part_in c.self.inside.blocks.items; journal = c.self.inside.journal })
    c.self.view_is c.args.decision.spot.block c.args.decision.spot.index c.requires.decision.seen.index_is c.requires.decision.seen.inside (part_in c.index_mut-block.result.now)
    (ap part_in c.index_mut-block.ensures.value ∙ sym (get_or-map part_in c.self.inside.blocks.items c.args.decision.spot.index c.index_mut-block.result.now))
    ∙ sym c.requires.decision.seen.found_is in
    let reserved : part_in c.reserve.new.self ≡ c.requires.decision.part =
    part_same c.reserve.new.self c.index_mut-block.result.now c.reserve.ensures.choices c.reserve.ensures.rows c.reserve.ensures.buckets ∙ here in
    distinct_here c.args.self.now c.args.decision c.requires.decision sound c.reserve.new.self reserved _

pub change-requires-clause-few : goal.change-requires-clause-few
change-requires-clause-few c =
    let sound : IsOwner c.args.self.now.size c.args.self.now.number c.args.self.now.parts =
    subst (λ (r : Rib). IsOwner r.size r.number r.parts) c.self.view_is c.self.invariant.owner in
    let here : part_in c.index_mut-block.result.now ≡ c.requires.decision.part =
    part_there c.args.self.now (record { size = c.self.inside.shape; number = c.self.inside.number; parts = map part_in c.self.inside.blocks.items; journal = c.self.inside.journal })
    c.self.view_is c.args.decision.spot.block c.args.decision.spot.index c.requires.decision.seen.index_is c.requires.decision.seen.inside (part_in c.index_mut-block.result.now)
    (ap part_in c.index_mut-block.ensures.value ∙ sym (get_or-map part_in c.self.inside.blocks.items c.args.decision.spot.index c.index_mut-block.result.now))
    ∙ sym c.requires.decision.seen.found_is in
    let reserved : part_in c.reserve.new.self ≡ c.requires.decision.part =
    part_same c.reserve.new.self c.index_mut-block.result.now c.reserve.ensures.choices c.reserve.ensures.rows c.reserve.ensures.buckets ∙ here in
    few_here c.args.self.now c.args.decision c.requires.decision sound c.reserve.new.self reserved

pub change-requires-clause-few_rows : goal.change-requires-clause-few_rows
change-requires-clause-few_rows c =
    let sound : IsOwner c.args.self.now.size c.args.self.now.number c.args.self.now.parts =
    subst (λ (r : Rib). IsOwner r.size r.number r.parts) c.self.view_is c.self.invariant.owner in
    let here : part_in c.index_mut-block.result.now ≡ c.requires.decision.part =
    part_there c.args.self.now (record { size = c.self.inside.shape; number = c.self.inside.number; parts = map part_in c.self.inside.blocks.items; journal = c.self.inside.journal })
    c.self.view_is c.args.decision.spot.block c.args.decision.spot.index c.requires.decision.seen.index_is c.requires.decision.seen.inside (part_in c.index_mut-block.result.now)
    (ap part_in c.index_mut-block.ensures.value ∙ sym (get_or-map part_in c.self.inside.blocks.items c.args.decision.spot.index c.index_mut-block.result.now))
    ∙ sym c.requires.decision.seen.found_is in
    let reserved : part_in c.reserve.new.self ≡ c.requires.decision.part =
    part_same c.reserve.new.self c.index_mut-block.result.now c.reserve.ensures.choices c.reserve.ensures.rows c.reserve.ensures.buckets ∙ here in
    few_rows_here c.args.self.now c.args.decision c.requires.decision sound c.reserve.new.self reserved

pub invariant_of-self-2 : goal.invariant_of-self-2
invariant_of-self-2 c =
    let sound : IsOwner c.args.self.now.size c.args.self.now.number c.args.self.now.parts =
    subst (λ (r : Rib). IsOwner r.size r.number r.parts) c.self.view_is c.self.invariant.owner in
    let here : part_in c.index_mut-block.result.now ≡ c.requires.decision.part =
    part_there c.args.self.now (record { size = c.self.inside.shape; number = c.self.inside.number; parts = map part_in c.self.inside.blocks.items; journal = c.self.inside.journal })
    c.self.view_is c.args.decision.spot.block c.args.decision.spot.index c.requires.decision.seen.index_is c.requires.decision.seen.inside (part_in c.index_mut-block.result.now)
    (ap part_in c.index_mut-block.ensures.value ∙ sym (get_or-map part_in c.self.inside.blocks.items c.args.decision.spot.index c.index_mut-block.result.now))
    ∙ sym c.requires.decision.seen.found_is in
    let is_changed : IsChanged c.requires.decision.part (part_in c.change.new.self) c.args.decision.spot.group c.rows.result c.args.decision.turn.change =
    changed c.index_mut-block.result.now c.reserve.new.self c.change.new.self c.requires.decision.part c.args.decision.spot.bucket c.args.decision.spot.group c.rows.result c.args.decision.turn.change
    here c.reserve.ensures.choices c.reserve.ensures.rows c.reserve.ensures.buckets c.change.ensures.choices c.change.ensures.rows c.change.ensures.maps c.change.ensures.map
    c.requires.decision.in_group in
    record {
      owner = rw (map-set part_in c.self.inside.blocks.items c.args.decision.spot.index c.change.new.self)
          (subst (λ (r : Rib). IsOwner r.size r.number (set r.parts c.args.decision.spot.index (part_in c.change.new.self))) (sym c.self.view_is)
          (owner_after c.args.self.now c.args.decision c.requires.decision sound (part_in c.change.new.self) c.rows.result is_changed c.rows.ensures));
      turns = omega (
        arith,
        ap length c.push.ensures.changes,
        ap length c.in_ok-reserve-2.ensures.changes,
        length-append c.reserve-2.new.self.changes (c.args.decision.turn.change ∷ []),
        c.self.invariant.turns,
        ap (λ (r : Rib). length r.journal.changes) c.self.view_is,
        c.requires.decision.left,
      );
    }

pub returns-clause-stands : goal.returns-clause-stands
returns-clause-stands c flows is =
    let sound : IsOwner c.args.self.now.size c.args.self.now.number c.args.self.now.parts =
    subst (λ (r : Rib). IsOwner r.size r.number r.parts) c.self.view_is c.self.invariant.owner in
    let here : part_in c.index_mut-block.result.now ≡ c.requires.decision.part =
    part_there c.args.self.now (record { size = c.self.inside.shape; number = c.self.inside.number; parts = map part_in c.self.inside.blocks.items; journal = c.self.inside.journal })
    c.self.view_is c.args.decision.spot.block c.args.decision.spot.index c.requires.decision.seen.index_is c.requires.decision.seen.inside (part_in c.index_mut-block.result.now)
    (ap part_in c.index_mut-block.ensures.value ∙ sym (get_or-map part_in c.self.inside.blocks.items c.args.decision.spot.index c.index_mut-block.result.now))
    ∙ sym c.requires.decision.seen.found_is in
    let is_changed : IsChanged c.requires.decision.part (part_in c.change.new.self) c.args.decision.spot.group c.rows.result c.args.decision.turn.change =
    changed c.index_mut-block.result.now c.reserve.new.self c.change.new.self c.requires.decision.part c.args.decision.spot.bucket c.args.decision.spot.group c.rows.result c.args.decision.turn.change
    here c.reserve.ensures.choices c.reserve.ensures.rows c.reserve.ensures.buckets c.change.ensures.choices c.change.ensures.rows c.change.ensures.maps c.change.ensures.map
    c.requires.decision.in_group in
    stands_after c.args.self.now c.args.decision c.requires.decision sound (part_in c.change.new.self) c.rows.result is_changed flows is _
    (ap (λ (r : Rib). r.size) c.self.view_is) (ap (λ (r : Rib). r.number) c.self.view_is)
    (map-set part_in c.self.inside.blocks.items c.args.decision.spot.index c.change.new.self
    ∙ ap (λ (r : Rib). set r.parts c.args.decision.spot.index (part_in c.change.new.self)) c.self.view_is)
    (c.push.ensures.changes ∙ ap (λ (cs : List Change). cs ++ c.args.decision.turn.change ∷ []) (c.in_ok-reserve-2.ensures.changes ∙ ap (λ (r : Rib). r.journal.changes) c.self.view_is))
