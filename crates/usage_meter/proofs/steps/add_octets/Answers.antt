use Rattle.std.proofs.Common.{◌<◌, ℕ, sym, subst}
use Rattle.usage_meter.proofs.Keeps.{adds_octets}
use Rattle.usage_meter.proofs.steps.add_octets.Goals as goal

pub fetch_add-requires : goal.fetch_add-requires
fetch_add-requires c = (
  c.requires.own,
  subst (λ (words : ℕ). c.args.node < words) (sym c.requires.wide) c.requires.inside,
  adds_octets _ _ _ c.args.inner.now.me c.requires.live.live _ _ c.requires.inside c.requires.enough c.requires.fits,
)
