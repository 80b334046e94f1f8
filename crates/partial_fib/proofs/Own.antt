-- A FIB that is opened with the flows of its own alone.
use Rattle.std.proofs.Common.{ℕ, ◌≡◌, ◌≢◌, ◌∙◌, Bool, true, false, cond, List, [], ◌∷◌, Some, ap, sym, refl}
use Rattle.std.specs.Prelude.{filter, find, option_map}
use Rattle.std.specs.List.{All}
use Rattle.std.proofs.lemmas.Bool.{cond-true, cond-false}
use Rattle.std.proofs.lemmas.List.Elements.{All-filter}
use Rattle.std.proofs.lemmas.List.Kept.{AllPairs-filter}
use Rattle.flow_types.specs.declared.record.Flow.{Flow}
use Rattle.flow_types.specs.Key.{number, IsKeyValue}
use Rattle.flow_types.specs.Map.{AreDistinct}
use Rattle.flow_types.specs.Size.{Size}
use Rattle.group_history.specs.Journal.{change_count}
use Rattle.partial_fib.specs.Fib.{fib_after, is_handled_of, record_after}
use Rattle.partial_fib.proofs.Handled.{counts_at, records_of_opening}

module _ (size : Size) (node owner : ℕ) where
  abbrev own : Flow → Bool
  own = is_handled_of size node owner

  found_again : (n : ℕ) (flows : List Flow) → find (counts_at own n) (filter own flows) ≡ find (counts_at own n) flows
  found_again n [] = refl
  found_again n (flow ∷ flows) = by _ refl (found_again n flows)
    where
      by : (handled : Bool) → own flow ≡ handled → find (counts_at own n) (filter own flows) ≡ find (counts_at own n) flows
          → find (counts_at own n) (filter own (flow ∷ flows)) ≡ find (counts_at own n) (flow ∷ flows)
      by true is rest =
          ap (find (counts_at own n)) (cond-true _ (flow ∷ filter own flows) (filter own flows) is)
          ∙ ap (cond (counts_at own n flow) (Some flow)) rest
      by false isnt rest =
          let left_out : counts_at own n flow ≡ false = rw isnt refl in
          ap (find (counts_at own n)) (cond-false _ (flow ∷ filter own flows) (filter own flows) isnt)
          ∙ rest
          ∙ sym (cond-false _ (Some flow) (find (counts_at own n) flows) left_out)

  pub own_distinct : (flows : List Flow) → AreDistinct flows → AreDistinct (filter own flows)
  own_distinct flows distinct = AllPairs-filter (λ (a : Flow) (b : Flow). number a.key ≢ number b.key) own flows distinct

  module _ (flows : List Flow) (distinct : AreDistinct flows) (fit : All (λ (flow : Flow). IsKeyValue flow.key) flows) where
    same_records : (n : ℕ) → record_after size node owner (filter own flows) [] n ≡ record_after size node owner flows [] n
    same_records n =
        sym (records_of_opening size node owner (filter own flows) (own_distinct flows distinct) (All-filter own (λ (flow : Flow). IsKeyValue flow.key) flows fit) n)
        ∙ ap (option_map (λ (flow : Flow). flow.info)) (found_again n flows)
        ∙ records_of_opening size node owner flows distinct fit n

    -- the flows that the node doesn't handle in the owner's blocks change nothing in the opened FIB
    pub opened_by_own : fib_after size node owner (filter own flows) [] ≡ fib_after size node owner flows []
    opened_by_own = λ i. record {
      size = size;
      node = node;
      owner = owner;
      records = λ n. same_records n i;
      versions = λ at. change_count at [];
      taken = 0;
    }
