use Rattle.std.proofs.Common.{ℕ, ◌≡◌, ◌≢◌, ◌∙◌, ◌/◌, ◌%◌, ◌<◌, ◌++◌, ◌∷◌, [], length, map, get_or, set, ap, subst, sym, arith}
use Rattle.std.specs.Prelude.{IsPermutation}
use Rattle.std.proofs.Math.ListN.{get_or-map}
use Rattle.std.proofs.lemmas.List.{get_or_default, map-set}
use Rattle.hash_family.specs.Hash.{place}
use Rattle.group_search.specs.Home.{group_of}
use Rattle.rib_owner.specs.Rib.{Part, map_in, no_part}
use Rattle.rib_owner.specs.Stock.{ChangesGroup, part_in}
use Rattle.rib_owner.proofs.Filled.{few_read, filled_foreign, filled_own, group_below, index_inside}
use Rattle.rib_owner.proofs.Gathered.{nobody}
use Rattle.rib_owner.proofs.KeysBucket.{bucket_of_place}
use Rattle.rib_owner.proofs.opening.filled_blocks.Goals as goal
use Rattle.rib_owner.proofs.opening.filled_blocks.Goals.{then-owner-number+in_ok-push, else-owner-number}

pub push-requires-clause-bucket : goal.push-requires-clause-bucket
push-requires-clause-bucket c = sym (ap (λ p. p.bucket) c.place-at.ensures.value ∙ bucket_of_place c.args.shape.blocks _)

pub push-requires-clause-few : goal.push-requires-clause-few
push-requires-clause-few c =
    let block_is : c.place-at.result.block ≡ (place c.args.shape.blocks (get_or c.args.flows.now c.flows.flow-index nobody).key).block = ap (λ p. p.block) c.place-at.ensures.value in
    let index_is : c.from.result ≡ c.place-at.result.block / c.args.shape.nodes = c.from.ensures ∙ ap (λ (n : ℕ). c.place-at.result.block / n) c.nodes.ensures.value in
    let owned : c.place-at.result.block % c.args.shape.nodes ≡ c.args.number = sym c.owner.ensures.value ∙ c.if-owner-number.true in
    let inside : c.place-at.result.block / c.args.shape.nodes < length (map part_in c.flows.blocks.items) =
    index_inside c.args.shape.nodes c.args.number c.place-at.result.block c.args.shape.blocks (length (map part_in c.flows.blocks.items)) (omega arith) c.place-at.ensures.in_range owned
    c.flows.invariant.enough in
    let there : c.from.result < length (map part_in c.flows.blocks.items) = omega (arith, index_is, inside) in
    let part_is : part_in c.index_mut-block.result.now ≡ get_or (map part_in c.flows.blocks.items) c.from.result no_part =
    ap part_in c.index_mut-block.ensures.value ∙ sym (get_or-map part_in c.flows.blocks.items c.from.result _)
    ∙ get_or_default (map part_in c.flows.blocks.items) c.from.result _ no_part there in
    rw part_is
    (few_read c.args.shape c.args.number c.args.flows.now (omega arith) c.requires.node c.flows.flow-index c.flows-test.true (map part_in c.flows.blocks.items) c.flows.invariant
    c.args.images.now c.requires.built c.from.result there (index_is ∙ ap (λ (b : ℕ). b / c.args.shape.nodes) block_is) (ap (λ (b : ℕ). b % c.args.shape.nodes) (sym block_is) ∙ owned))

pub flows-preserved : goal.flows-preserved
flows-preserved c =
    let block_is : c.place-at.result.block ≡ (place c.args.shape.blocks (get_or c.args.flows.now c.flows.flow-index nobody).key).block = ap (λ p. p.block) c.place-at.ensures.value in
    let bucket_is : c.place-at.result.bucket ≡ (place c.args.shape.blocks (get_or c.args.flows.now c.flows.flow-index nobody).key).bucket = ap (λ p. p.bucket) c.place-at.ensures.value in
    elim c.if-owner-number.branch [
      | then-owner-number+in_ok-push w ↦
          let index_is : w.from.result ≡ c.place-at.result.block / c.args.shape.nodes = w.from.ensures ∙ ap (λ (n : ℕ). c.place-at.result.block / n) w.nodes.ensures.value in
          let owned : c.place-at.result.block % c.args.shape.nodes ≡ c.args.number = sym c.owner.ensures.value ∙ w.if-owner-number.true in
          let inside : c.place-at.result.block / c.args.shape.nodes < length (map part_in c.flows.blocks.items) =
          index_inside c.args.shape.nodes c.args.number c.place-at.result.block c.args.shape.blocks (length (map part_in c.flows.blocks.items)) (omega arith) c.place-at.ensures.in_range owned
          c.flows.invariant.enough in
          let there : w.from.result < length (map part_in c.flows.blocks.items) = omega (arith, index_is, inside) in
          let part_is : part_in w.index_mut-block.result.now ≡ get_or (map part_in c.flows.blocks.items) w.from.result no_part =
          ap part_in w.index_mut-block.ensures.value ∙ sym (get_or-map part_in c.flows.blocks.items w.from.result _)
          ∙ get_or_default (map part_in c.flows.blocks.items) w.from.result _ no_part there in
          let items : map part_in c.if-owner-number.blocks.items ≡ set (map part_in c.flows.blocks.items) w.from.result (part_in w.push.new.self) =
          ap (λ v. map part_in v.items) w.blocks-is ∙ map-set part_in c.flows.blocks.items w.from.result w.push.new.self in
          rw items
          (filled_own c.args.shape c.args.number c.args.flows.now (omega arith) c.requires.node c.flows.flow-index c.flows-test.true (map part_in c.flows.blocks.items) c.flows.invariant
          w.from.result (group_of (get_or (map part_in c.flows.blocks.items) w.from.result no_part).choices c.place-at.result.bucket) (part_in w.push.new.self)
          (ap (λ (b : ℕ). b % c.args.shape.nodes) (sym block_is) ∙ owned) (index_is ∙ ap (λ (b : ℕ). b / c.args.shape.nodes) block_is) there
          (group_below (get_or (map part_in c.flows.blocks.items) w.from.result no_part).choices c.place-at.result.bucket)
          (ap (group_of (get_or (map part_in c.flows.blocks.items) w.from.result no_part).choices) bucket_is)
          (w.in_ok-push.ensures.choices ∙ ap (λ (p : Part). p.choices) part_is)
          (w.in_ok-push.ensures.rows ∙ ap (λ (p : Part). p.rows) part_is)
          (subst (λ (p : Part). ChangesGroup p (part_in w.push.new.self) (group_of p.choices c.place-at.result.bucket)) part_is w.in_ok-push.ensures.maps)
          (subst
          (λ (p : Part).
          IsPermutation (map_in p (group_of p.choices c.place-at.result.bucket) ++ get_or c.args.flows.now c.flows.flow-index nobody ∷ [])
          (map_in (part_in w.push.new.self) (group_of p.choices c.place-at.result.bucket)))
          part_is w.in_ok-push.ensures.map))
      | else-owner-number w ↦
          let foreign : (place c.args.shape.blocks (get_or c.args.flows.now c.flows.flow-index nobody).key).block % c.args.shape.nodes ≢ c.args.number =
          λ same. w.if-owner-number.false (c.owner.ensures.value ∙ ap (λ (b : ℕ). b % c.args.shape.nodes) block_is ∙ same) in
          let items : map part_in c.if-owner-number.blocks.items ≡ map part_in c.flows.blocks.items = ap (λ v. map part_in v.items) w.blocks-is in
          rw items
          (filled_foreign c.args.shape c.args.number c.args.flows.now (omega arith) c.requires.node c.flows.flow-index c.flows-test.true (map part_in c.flows.blocks.items) c.flows.invariant foreign)
    ]
