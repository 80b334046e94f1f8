use Rattle.std.proofs.Common.{◌≡◌, ◌∙◌, true, false, is_some, ap, sym}
use Rattle.flow_types.specs.Map.{flow_at}
use Rattle.group_history.specs.declared.update.Update.{Update}
use Rattle.group_history.specs.Acceptance.{updated_key}
use Rattle.rib_owner.specs.Rib.{map_in}
use Rattle.rib_owner.specs.Stock.{part_in}
use Rattle.rib_owner.proofs.Judged.{place_absent, place_full, place_known, place_new}
use Rattle.rib_owner.proofs.judging.check_place.Goals as goal

pub returns-then-is_some : goal.returns-then-is_some
returns-then-is_some c bits turns =
    let known : is_some (flow_at (updated_key c.args.update.now) (map_in (part_in c.args.block.now) c.args.group)) ≡ true =
    ap is_some (sym c.requires) ∙ sym c.is_some.ensures ∙ c.if-is_some.true in
    place_known bits turns (record { block = c.args.number; group = c.args.group }) (map_in (part_in c.args.block.now)) c.args.update.now known

pub returns-in-Del : goal.returns-in-Del
returns-in-Del c bits turns =
    let unknown : is_some (flow_at (updated_key c.args.update.now) (map_in (part_in c.args.block.now) c.args.group)) ≡ false =
    ap is_some (sym c.requires) ∙ sym c.is_some.ensures ∙ c.if-is_some.false in
    let here : is_some (flow_at c.in-Del.field-0 (map_in (part_in c.args.block.now) c.args.group)) ≡ false =
    ap (λ (u : Update). is_some (flow_at (updated_key u) (map_in (part_in c.args.block.now) c.args.group))) (sym c.in-Del.is) ∙ unknown in
    rw c.in-Del.is (place_absent bits turns (record { block = c.args.number; group = c.args.group }) (map_in (part_in c.args.block.now)) c.in-Del.field-0 here)

pub returns-in-Set : goal.returns-in-Set
returns-in-Set c bits turns =
    let unknown : is_some (flow_at (updated_key c.args.update.now) (map_in (part_in c.args.block.now) c.args.group)) ≡ false =
    ap is_some (sym c.requires) ∙ sym c.is_some.ensures ∙ c.if-is_some.false in
    let here : is_some (flow_at c.in-Set.field-0.key (map_in (part_in c.args.block.now) c.args.group)) ≡ false =
    ap (λ (u : Update). is_some (flow_at (updated_key u) (map_in (part_in c.args.block.now) c.args.group))) (sym c.in-Set.is) ∙ unknown in
    rw c.in-Set.is
    (place_full bits turns (record { block = c.args.number; group = c.args.group }) (map_in (part_in c.args.block.now)) c.in-Set.field-0 here
    (sym c.keys.ensures ∙ c.if-keys-eq-MOST_ENTRIES.true))

pub returns-in-Set-2 : goal.returns-in-Set-2
returns-in-Set-2 c bits turns =
    let unknown : is_some (flow_at (updated_key c.args.update.now) (map_in (part_in c.args.block.now) c.args.group)) ≡ false =
    ap is_some (sym c.requires) ∙ sym c.is_some.ensures ∙ c.if-is_some.false in
    let here : is_some (flow_at c.in-Set.field-0.key (map_in (part_in c.args.block.now) c.args.group)) ≡ false =
    ap (λ (u : Update). is_some (flow_at (updated_key u) (map_in (part_in c.args.block.now) c.args.group))) (sym c.in-Set.is) ∙ unknown in
    rw c.in-Set.is
    (place_new bits turns (record { block = c.args.number; group = c.args.group }) (map_in (part_in c.args.block.now)) c.in-Set.field-0
    (λ full. c.if-keys-eq-MOST_ENTRIES.false (c.keys.ensures ∙ full)) here)
