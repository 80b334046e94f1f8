use Rattle.std.proofs.Common.{ℕ, ◌≡◌, ◌≢◌, ◌∙◌, [], List, Some, length, get_or, set, ap, sym, arith, ⊎_elim}
use Rattle.std.specs.List.{slice_get}
use Rattle.std.proofs.lemmas.Bool.{cases_eq}
use Rattle.std.proofs.lemmas.List.Elements.{All-nil}
use Rattle.std.proofs.lemmas.List.{get_or-set_other, get_or-set_same, length-replicate, length-set}
use Rattle.flow_types.specs.declared.record.Flow.{Flow}
use Rattle.group_search.specs.Canon.{rows_in}
use Rattle.rib_owner.proofs.Counted.{no_flows, none_at_all, rows_are, used_more}
use Rattle.rib_owner.specs.Stock.{bucket_for}
use Rattle.rib_owner.proofs.Buckets.{in_bucket}
use Rattle.group_search.proofs.Sums.{sum_from}
use Rattle.rib_owner.proofs.block.OwnedBlock.open.Goals as goal

pub groups-preserved : goal.groups-preserved
groups-preserved c = record {
  numbers = length-set c.groups.rows c.groups.group c.rows.result ∙ c.groups.invariant.numbers;
  rows = λ group content low is. ⊎_elim
      (λ (same : group ≡ c.groups.group).
      let got : slice_get c.args.image.now.records c.groups.group ≡ Some content = ap (λ (g : ℕ). slice_get c.args.image.now.records g) (sym same) ∙ is in
      let read : Some c.record.result.now ≡ Some content = sym c.record.ensures ∙ got in
      let content_is : c.record.result.now ≡ content = cc in
      ap (λ (g : ℕ). get_or (set c.groups.rows c.groups.group c.rows.result) g 0) same
      ∙ get_or-set_same c.groups.rows c.groups.group c.rows.result 0 (omega (arith, c.groups.invariant.numbers))
      ∙ c.rows.ensures ∙ ap rows_in content_is)
      (λ (other : group ≢ c.groups.group).
      get_or-set_other c.groups.rows c.groups.group group c.rows.result 0 other ∙ c.groups.invariant.rows group content (omega arith) is)
      (cases_eq group c.groups.group);
  used = used_more c.groups.rows c.groups.group c.rows.result c.groups.used (omega (arith, c.groups.invariant.numbers)) c.groups.invariant.used;
  few = omega (arith, get_or-set_same c.groups.rows c.groups.group c.rows.result 0 (omega (arith, c.groups.invariant.numbers)), c.rows.type_inv, c.groups.invariant.few);
}

pub invariant_of-result : goal.invariant_of-result
invariant_of-result c =
    let last : c.groups.group ≡ 64 = omega arith in
    let empty : c.reserve.new.self.buckets ≡ c.new-arena.result.buckets = c.reserve.ensures.lists in
    let none : (x : ℕ) → in_bucket c.reserve.new.self.buckets x ≡ [] =
    λ x. ap (λ (ls : List (List Flow)). in_bucket ls x) (empty ∙ c.new-arena.ensures.buckets) ∙ none_at_all 256 x in
    record {
      one_list_each = ap length (empty ∙ c.new-arena.ensures.buckets) ∙ length-replicate 256 no_flows;
      one_number_each = c.groups.invariant.numbers;
      placed = λ x. rw (none x) (All-nil (λ (flow : Flow). bucket_for flow.key ≡ x));
      keys = sym (c.reserve.ensures.count ∙ c.new-arena.ensures.count);
      used = rows_are _ c.groups.used (c.groups.invariant.used ∙ ap (λ (n : ℕ). sum_from (λ (x : ℕ). get_or c.groups.rows x 0) 0 n) last);
    }

pub returns-clause-rows : goal.returns-clause-rows
returns-clause-rows c group content low is = c.groups.invariant.rows group content (omega arith) is
