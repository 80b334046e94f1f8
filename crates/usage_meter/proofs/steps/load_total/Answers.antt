use Rattle.std.proofs.Common.{◌<◌, ℕ, sym, subst}
use Rattle.usage_meter.proofs.Keeps.{loads_total}
use Rattle.usage_meter.proofs.steps.load_total.Goals as goal

pub load-requires : goal.load-requires
load-requires c = (
  c.requires.own,
  subst (λ (words : ℕ). c.args.node < words) (sym c.requires.wide) c.requires.inside,
  loads_total _ _ _ c.args.inner.now.me c.requires.live.live _ c.requires.inside,
)
