-- The next node's applier.
use Rattle.std.proofs.Common.{Global, Vec, rules, ◌≡◌, ◌∙◌, ◌+◌, ◌++◌, ◌∷◌, [], ℕ, List, arith, ap, get_or, length, refl, sym, subst}
use Rattle.std.specs.List.{slice_get}
use Rattle.std.specs.Vec.Iter.{into_iter_items}
use Rattle.cluster_open.specs.Opened.{IsOpenedNode}
use Rattle.storm_lane.specs.declared.readers.OwnerReaders.{OwnerReaders}
use Rattle.turn_relay.specs.Each.{AllFrom, Every}
use Rattle.turn_relay.specs.PartState.{ApplierState}
use Rattle.cluster_storm.specs.Opening.{IsFreshNode}
use Rattle.cluster_storm.specs.Seating.{ReadsSoFar, column}
use Rattle.cluster_storm.proofs.Seats.{all-from-each, placed-more}
use Rattle.cluster_storm.proofs.seating.seat_nodes.Goals as goal

pub nodes-init : goal.nodes-init
nodes-init g c =
    let shape = c.args.shape in
    let flows = c.args.flows.now in
    let gives = c.into_iter-node-iterator.ensures.into_iter_gives in
    let none = c.in_ok-appliers.ensures.items in
    let no : length c.in_ok-appliers.appliers.items ≡ 0 = ap length none in
    let gives_len = gives.1 in
    let many = c.requires.nodes.0 in
    record {
      nodes = subst (λ (n : ℕ). AllFrom (IsOpenedNode shape flows) n (into_iter_items c.into_iter-node-iterator.result)) (sym no)
          (subst (AllFrom (IsOpenedNode shape flows) 0) (sym gives.0)
          (all-from-each (IsOpenedNode shape flows) 0 c.args.nodes.items
          (λ i d low. let same : i ≡ 0 + i = omega arith in subst (λ (n : ℕ). IsOpenedNode shape flows n (get_or c.args.nodes.items i d)) same (c.requires.nodes.1 i d low))));
      left = omega (arith, no, gives_len, many, c.args.nodes.ok);
      room = omega (arith, no, gives_len, c.in_ok-appliers.ensures.exact, c.len.ensures);
      fresh = λ node applier there. absurd (let past = ap (λ (all : List ApplierState). slice_get all node) (sym none) ∙ there in cc);
      lanes = refl;
      reads = subst (λ (all : List ApplierState). Every (λ (lane : Vec OwnerReaders Global). ReadsSoFar shape (column all) lane.items) c.args.lanes.now) (sym none) c.requires.reads;
    }

pub seat_node-requires-clause-reads : goal.seat_node-requires-clause-reads
seat_node-requires-clause-reads g c =
    subst (λ (all : List ApplierState). Every (λ (lane : Vec OwnerReaders Global). ReadsSoFar c.args.shape (column all) lane.items) c.nodes.lanes) (sym c.as_slice.ensures.value) c.nodes.invariant.reads

pub nodes-preserved : goal.nodes-preserved
nodes-preserved g c =
    let shape = c.args.shape in
    let flows = c.args.flows.now in
    let steps = c.in-Some.ensures.steps in
    let fewer = steps.1 in
    let before = c.nodes.appliers.items in
    let applier = c.in-Ok.applier in
    let items = c.push_reserved.ensures.items in
    let one : length c.push_reserved.new.self.items ≡ length before + 1 = search rules in
    let nodes = subst (AllFrom (IsOpenedNode shape flows) (length before)) steps.0 c.nodes.invariant.nodes in
    record {
      nodes = subst (λ (n : ℕ). AllFrom (IsOpenedNode shape flows) n (into_iter_items c.next.new.self)) (sym one) nodes.1;
      left = omega (arith, one, fewer, c.nodes.invariant.left);
      room = omega (arith, one, fewer, c.nodes.invariant.room, c.push_reserved.ensures.capacity);
      fresh = λ node other there.
          placed-more (IsFreshNode shape flows) before applier c.nodes.invariant.fresh
          (subst (λ (all : List ApplierState). IsFreshNode shape flows (length all) applier) c.as_slice.ensures.value c.in-Ok.ensures.fresh) node other
          (ap (λ (all : List ApplierState). slice_get all node) (sym items) ∙ there);
      lanes = search rules;
      reads = subst (λ (all : List ApplierState). Every (λ (lane : Vec OwnerReaders Global). ReadsSoFar shape (column all) lane.items) c.seat_node.new.lanes)
          (ap (λ (all : List ApplierState). all ++ applier ∷ []) c.as_slice.ensures.value ∙ sym items) c.in-Ok.ensures.reads;
    }
