-- The reader of the node is of a FIB of the owner's, and no other changes.
use Rattle.std.proofs.Common.{ℕ, ◌∙◌, ◌%◌, sym, ap, arith}
use Rattle.flow_types.specs.Key.{number}
use Rattle.flow_types.specs.Size.{Size}
use Rattle.group_search.specs.Home.{Home}
use Rattle.replica_shard.specs.Seats.{shard_at}
use Rattle.replica_shard.specs.Shard.{home_in_state}
use Rattle.replica_shard.specs.Store.{shard_state_of}
use Rattle.partial_fib.specs.Ends.{shared_after}
use Rattle.partial_fib.specs.Fib.{FibState}
use Rattle.packet_path.specs.Path.{home_at}
use Rattle.packet_path.proofs.Asking.{asks-its, its-fib, its-fibs, its-seen}
use Rattle.packet_path.proofs.path.found_at.Goals as goal

pub find-requires-clause-within : goal.find-requires-clause-within
find-requires-clause-within g c =
    let shared = its-fib c.args.shard.now.shape c.args.shard.now.owner c.args.fibs.now c.requires.fibs c.args.node c.requires.in_cluster c.index-fibs-node.result c.index-fibs-node.is in
    omega (arith, ap (λ (s : Size). s.blocks) shared.size_is, c.home_at-block.ensures.within)

pub find-requires-clause-owned : goal.find-requires-clause-owned
find-requires-clause-owned g c =
    let shared = its-fib c.args.shard.now.shape c.args.shard.now.owner c.args.fibs.now c.requires.fibs c.args.node c.requires.in_cluster c.index-fibs-node.result c.index-fibs-node.is in
    let nodes_is = ap (λ (s : Size). s.nodes) shared.size_is in
    ap (λ (n : ℕ). c.home_at-block.result.0 % n) nodes_is ∙ c.home_at-block.ensures.owned ∙ sym shared.owner_is

pub returns-clause-version : goal.returns-clause-version
returns-clause-version g c = λ list.
    let new = c.find.new.self in
    let seen = its-seen c.args.shard.now.shape c.args.shard.now.owner c.args.fibs.now c.requires.fibs c.args.node c.requires.in_cluster c.index-fibs-node.result c.index-fibs-node.is new in
    c.find.ensures.version
    ∙ ap (λ (h : Home). (shared_after new.opening new.turns).versions h) (c.home_at-block.ensures.home list ∙ ap (home_in_state (shard_state_of (shard_at c.args.shard.now list))) c.requires.placed)
    ∙ ap (λ (f : FibState). f.versions (home_at c.args.shard.now list c.args.key)) (sym seen)

pub returns-clause-answer : goal.returns-clause-answer
returns-clause-answer g c =
    let seen = its-seen c.args.shard.now.shape c.args.shard.now.owner c.args.fibs.now c.requires.fibs c.args.node c.requires.in_cluster c.index-fibs-node.result c.index-fibs-node.is c.find.new.self in
    c.find.ensures.answer ∙ ap (λ (f : FibState). f.records (number c.args.key)) (sym seen)

pub returns-clause-asked : goal.returns-clause-asked
returns-clause-asked g c =
    asks-its c.args.shard.now.shape c.args.shard.now.owner c.args.fibs.now c.requires.fibs c.args.node c.requires.in_cluster c.index-fibs-node.result c.index-fibs-node.is c.find.new.self c.find.ensures.later

pub returns-clause-fibs : goal.returns-clause-fibs
returns-clause-fibs g c =
    its-fibs c.args.shard.now.shape c.args.shard.now.owner c.args.fibs.now c.requires.fibs c.args.node c.requires.in_cluster c.index-fibs-node.result c.index-fibs-node.is c.find.new.self c.find.ensures.later
