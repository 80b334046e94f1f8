-- Parts that stay the same, one step after the other, and what is known of them then.
use Rattle.std.proofs.Common.{◌∙◌, ◌<◌, ℕ, length, refl, sym, ap, subst}
use Rattle.flow_types.specs.Size.{Size}
use Rattle.storm_lane.specs.Readers.{Seats}
use Rattle.embed_cluster.specs.declared.lane.Lane.{Lane}
use Rattle.embed_cluster.specs.declared.node.Node.{Node}
use Rattle.embed_cluster.specs.declared.owner.Owner.{Owner}
use Rattle.embed_cluster.specs.Parts.{AreSameReaders, CanAnswer, HasShape, IsSameNode, IsSameOwner}

pub owner_self : (owner : Owner) → IsSameOwner owner owner
owner_self owner = record { first = refl; second = refl; first_size = refl; second_size = refl }

pub owner_trans : (a b c : Owner) → IsSameOwner a b → IsSameOwner b c → IsSameOwner a c
owner_trans a b c one two = record {
  first = two.first ∙ one.first;
  second = two.second ∙ one.second;
  first_size = two.first_size ∙ one.first_size;
  second_size = two.second_size ∙ one.second_size;
}

pub node_self : (node : Node) → IsSameNode node node
node_self node = record { line = refl; size = refl; shard = refl; book = refl; opening = refl }

pub node_trans : (a b c : Node) → IsSameNode a b → IsSameNode b c → IsSameNode a c
node_trans a b c one two = record {
  line = two.line ∙ one.line;
  size = two.size ∙ one.size;
  shard = two.shard ∙ one.shard;
  book = two.book ∙ one.book;
  opening = two.opening ∙ one.opening;
}

pub node_shape : (size : Size) (a b : Node) → HasShape size a → IsSameNode a b → HasShape size b
node_shape size a b has same = record {
  link = same.size ∙ has.link;
  table = ap (λ (s : _). s.shape) same.shard ∙ has.table;
  fib = ap (λ (f : _). f.size) same.opening ∙ has.fib;
}

pub readers_self : (lane : Lane) → AreSameReaders lane lane
readers_self lane = record { seats = refl; ingress = refl }

pub readers_trans : (a b c : Lane) → AreSameReaders a b → AreSameReaders b c → AreSameReaders a c
readers_trans a b c one two = record { seats = two.seats ∙ one.seats; ingress = two.ingress ∙ one.ingress }

pub still_answers : (size : Size) (a b : Lane) → CanAnswer size a → AreSameReaders a b → CanAnswer size b
still_answers size a b can same = record {
  sized = ap (λ (s : Seats). s.size) same.seats ∙ can.sized;
  of_owner = ap (λ (s : Seats). s.owner) same.seats ∙ can.of_owner;
  whole = ap (λ (s : Seats). length s.shards) same.seats ∙ can.whole;
  enters = subst (λ (n : ℕ). n < size.nodes) (sym same.ingress) can.enters;
}

pub ruleset staying = (owner_self, owner_trans, node_self, node_trans, node_shape, readers_self, readers_trans, still_answers)
