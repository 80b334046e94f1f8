use Rattle.partial_fib.proofs.Places.{no_versions}
use Rattle.partial_fib.proofs.fib.Fib.open.Goals as goal

pub returns : goal.returns
returns c =
    let zeros = c.in_ok-vec.ensures.items_if_clones_equal (λ y is. is) in
    let versions = no_versions c.args.shape c.args.owner c.slots.result c.in_ok-vec.field-0.items zeros in
    λ i. record {
      size = c.args.shape;
      node = c.args.node;
      owner = c.args.owner;
      records = c.in_ok-handled.ensures i;
      versions = versions i;
      taken = 0;
    }
