-- The record of a key's home gives the key its handler.
use Rattle.std.proofs.Common.{ℕ, ◌≡◌, ◌≢◌, ◌<◌, ◌≤◌, ◌^◌, Bool, true, false, cond, List, get_or, Some, refl, eq-eqb}
use Rattle.std.specs.Prelude.{All, nat_le}
use Rattle.std.proofs.lemmas.Bool.{and_from, leb-true}
use Rattle.std.proofs.lemmas.List.Elements.{All-filter, All-map}
use Rattle.std.proofs.lemmas.List.Kept.{AllPairs-filter}
use Rattle.flow_types.specs.declared.record.Flow.{Flow}
use Rattle.flow_types.specs.Key.{number}
use Rattle.flow_types.specs.Size.{Size, IsShape, value_bits}
use Rattle.flow_types.specs.Map.{AreDistinct}
use Rattle.hash_family.specs.Hash.{pair}
use Rattle.group_search.specs.declared.entry.Entry.{Entry}
use Rattle.group_search.specs.declared.record.GroupRecord.{GroupRecord}
use Rattle.group_search.specs.Decoding.{decode}
use Rattle.group_search.specs.Home.{Home, home, is_home, opening}
use Rattle.group_search.specs.Laws.{AreEntries}
use Rattle.group_search.specs.Records.{AreHandled, content_of, entries, entry_of, record_of}
use Rattle.group_search.specs.Routing.{GivesEachHandler, RoutesEachFlow}
use Rattle.group_search.proofs.EachNode.{gives_each_node}
use Rattle.group_search.proofs.Mapped.{all_mapped, all_pairs_mapped, all_passed}

-- what is read past the end of a list of flows
abbrev nobody : Flow
nobody = record {
  key = record { source = 0; destination = 0; source_port = 0; destination_port = 0; protocol = 0 };
  node = 0;
  info = record { teid = 0; base = 0 };
}

bits_of : (nodes : ℕ) (two four eight : Bool) → nat_le nodes 2 ≡ two → nat_le nodes 4 ≡ four → nat_le nodes 8 ≡ eight → nodes ≤ 16
    → nodes ≤ 2 ^ cond two 1 (cond four 2 (cond eight 3 4))
bits_of nodes true four eight a b c few = leb-true nodes 2 a
bits_of nodes false true eight a b c few = leb-true nodes 4 b
bits_of nodes false false true a b c few = leb-true nodes 8 c
bits_of nodes false false false a b c few = few

enough_bits : (nodes blocks : ℕ) → IsShape nodes blocks → nodes ≤ 2 ^ value_bits nodes
enough_bits nodes blocks shape = bits_of nodes (nat_le nodes 2) (nat_le nodes 4) (nat_le nodes 8) refl refl refl shape.few_nodes

module _ (nodes : ℕ) (flows : List Flow) where
  are_entries : AreDistinct flows → AreHandled nodes flows → AreEntries nodes (entries flows)
  are_entries distinct handled = record {
    distinct = all_pairs_mapped (λ (a : Entry) (b : Entry). number a.key ≢ number b.key) entry_of nobody flows distinct;
    hashed = All-map (λ (e : Entry). e.pair ≡ pair e.key) entry_of flows (λ k d low. refl);
    known = All-map (λ (e : Entry). e.node < nodes) entry_of flows handled;
  }

pub gives_each_handler : GivesEachHandler
unfolding content_of
gives_each_handler size flows content shape distinct handled is =
    all_mapped (λ (e : Entry). decode content size.nodes e.key ≡ Some e.node) entry_of flows
    (gives_each_node (value_bits size.nodes) size.nodes (entries flows) content (enough_bits size.nodes size.blocks shape) (are_entries size.nodes flows distinct handled) is)

module _ (size : Size) (flows : List Flow) (shape : IsShape size.nodes size.blocks) (distinct : AreDistinct flows) (handled : AreHandled size.nodes flows) where
  routed : (flow : Flow) (content : GroupRecord) → record_of size flows (home size.blocks flows flow.key) ≡ Some content
      → All (λ (other : Flow). is_home (home size.blocks flows other.key) (home size.blocks flows flow.key) ≡ true → decode content size.nodes other.key ≡ Some other.node) flows
  unfolding record_of opening
  routed flow content is =
      all_passed (λ (other : Flow). is_home (home size.blocks flows other.key) (home size.blocks flows flow.key))
      (λ (other : Flow). decode content size.nodes other.key ≡ Some other.node) flows
      (gives_each_handler size (opening size.blocks flows (home size.blocks flows flow.key)) content shape
      (AllPairs-filter (λ (a : Flow) (b : Flow). number a.key ≢ number b.key) (λ (other : Flow). is_home (home size.blocks flows other.key) (home size.blocks flows flow.key)) flows distinct)
      (All-filter (λ (other : Flow). is_home (home size.blocks flows other.key) (home size.blocks flows flow.key)) (λ (other : Flow). other.node < size.nodes) flows handled)
      is)

at_home : (at : Home) → is_home at at ≡ true
at_home at = and_from _ _ (eq-eqb at.block at.block refl) (eq-eqb at.group at.group refl)

pub routes_each_flow : RoutesEachFlow
routes_each_flow size flows shape distinct handled = λ k d low content is.
    routed size flows shape distinct handled (get_or flows k d) content is k d low (at_home (home size.blocks flows (get_or flows k d).key))
