-- The next owner's part.
use Rattle.std.proofs.Common.{Global, Vec, rules, ◌≡◌, ◌∙◌, [], ℕ, List, arith, ap, length, refl, sym, subst}
use Rattle.std.specs.List.{slice_get}
use Rattle.replica_shard.specs.Shard.{shard_after}
use Rattle.replica_shard.specs.Store.{ShardStore, shard_state_of}
use Rattle.partial_fib.specs.Fib.{fib_after}
use Rattle.partial_fib.specs.Store.{FibStore, state_of}
use Rattle.flow_types.specs.Size.{owners_in}
use Rattle.storm_lane.specs.declared.readers.OwnerReaders.{OwnerReaders}
use Rattle.turn_relay.specs.Each.{AllFrom, Every}
use Rattle.turn_relay.specs.Linking.{IsFresh}
use Rattle.turn_relay.specs.PartState.{PartState}
use Rattle.cluster_storm.specs.Seating.{ReadsSoFar, column_with}
use Rattle.cluster_storm.proofs.Seats.{all-begin, all-from-numbers, all-read-to, all-taken, each-many, new-fresh, placed-more}
use Rattle.cluster_storm.proofs.seating.seat_parts.Goals as goal

pub owners-init : goal.owners-init
owners-init g c =
    let shape = c.args.shape in
    let flows = c.args.flows.now in
    let node = length c.args.appliers.now in
    let tables = all-from-numbers shard_state_of (λ (owner : ℕ). shard_after shape owner flows []) 0 (owners_in shape) c.args.node.tables.items c.requires.node.tables in
    let fibs = all-from-numbers state_of (λ (owner : ℕ). fib_after shape node owner flows []) 0 (owners_in shape) c.args.node.fibs.items c.requires.node.fibs in
    let none = c.in_ok-parts.ensures.items in
    let owners : c.owners-owners.result ≡ owners_in shape = c.owners-owners.ensures.value in
    let tables_many = tables.1 in
    let fibs_many = fibs.1 in
    record {
      owners = owners;
      tables = subst (AllFrom (λ (owner : ℕ) (table : ShardStore). shard_state_of table ≡ shard_after shape owner flows []) 0) (sym c.into_iter-tables.ensures.rest) tables.0;
      fibs = subst (AllFrom (λ (owner : ℕ) (fib : FibStore). state_of fib ≡ fib_after shape node owner flows []) 0) (sym c.into_iter-fibs.ensures.rest) fibs.0;
      tables_left = omega (arith, owners, tables_many, c.into_iter-tables.ensures.len, c.args.node.tables.ok);
      fibs_left = omega (arith, owners, fibs_many, c.into_iter-fibs.ensures.len, c.args.node.fibs.ok);
      many = ap length none;
      room = search rules;
      fresh = λ owner part there. absurd (let past = ap (λ (parts : List PartState). slice_get parts owner) (sym none) ∙ there in cc);
      lanes = refl;
      reads = subst (λ (parts : List PartState). Every (λ (lane : Vec OwnerReaders Global). ReadsSoFar shape (column_with c.args.appliers.now parts) lane.items) c.args.lanes.now) (sym none)
          (all-begin (λ (lane : Vec OwnerReaders Global). lane.items) shape c.args.appliers.now c.args.lanes.now c.requires.reads);
    }

pub seat_part-requires-clause-next : goal.seat_part-requires-clause-next
seat_part-requires-clause-next g c =
    let shape = c.args.shape in
    let flows = c.args.flows.now in
    let node = length c.args.appliers.now in
    let shared = (subst (AllFrom (λ (owner : ℕ) (fib : FibStore). state_of fib ≡ fib_after shape node owner flows []) c.owners.owner) c.in-Some-next.ensures.cases.0 c.owners.invariant.fibs).0 in
    let low = c.owners-test.true in
    all-read-to (λ (lane : Vec OwnerReaders Global). lane.items) shape c.args.appliers.now c.owners.parts.items c.owners.owner c.in-Some-next.fib.node c.owners.invariant.many (ap (λ s. s.node) shared)
    (omega (arith, low, c.owners.invariant.owners)) c.owners.lanes c.owners.invariant.reads

pub owners-preserved : goal.owners-preserved
owners-preserved g c =
    let shape = c.args.shape in
    let flows = c.args.flows.now in
    let node = length c.args.appliers.now in
    let tables = subst (AllFrom (λ (owner : ℕ) (table : ShardStore). shard_state_of table ≡ shard_after shape owner flows []) c.owners.owner) c.in-Some.ensures.cases.0 c.owners.invariant.tables in
    let fibs = subst (AllFrom (λ (owner : ℕ) (fib : FibStore). state_of fib ≡ fib_after shape node owner flows []) c.owners.owner) c.in-Some-next.ensures.cases.0 c.owners.invariant.fibs in
    let parts = c.owners.parts.items in
    let part = c.in-Ok.part in
    let fresh = new-fresh shape c.owners.owner flows node c.in-Some.table c.in-Some-next.fib part tables.0 fibs.0 c.in-Ok.ensures.part in
    record {
      owners = c.owners.invariant.owners;
      tables = tables.1;
      fibs = fibs.1;
      tables_left = omega (arith, c.owners.invariant.tables_left, c.in-Some.ensures.cases.1);
      fibs_left = omega (arith, c.owners.invariant.fibs_left, c.in-Some-next.ensures.cases.1);
      many = search rules;
      room = search rules;
      fresh = λ owner other there.
          placed-more (λ (o : ℕ) (p : PartState). IsFresh shape flows node o p) parts part c.owners.invariant.fresh
          (subst (λ (o : ℕ). IsFresh shape flows node o part) (sym c.owners.invariant.many) fresh) owner other
          (ap (λ (all : List PartState). slice_get all owner) (sym c.push_reserved.ensures.items) ∙ there);
      lanes = each-many _ c.owners.lanes c.seat_part.new.lanes c.in-Ok.ensures.given ∙ c.owners.invariant.lanes;
      reads = subst (λ (all : List PartState). Every (λ (lane : Vec OwnerReaders Global). ReadsSoFar shape (column_with c.args.appliers.now all) lane.items) c.seat_part.new.lanes)
          (sym c.push_reserved.ensures.items)
          (all-taken (λ (lane : Vec OwnerReaders Global). lane.items) shape c.args.appliers.now parts part c.owners.owner c.owners.invariant.many c.owners.lanes c.seat_part.new.lanes
          c.owners.invariant.reads c.in-Ok.ensures.given);
    }
