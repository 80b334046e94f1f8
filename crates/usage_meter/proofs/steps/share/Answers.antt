use Rattle.std.proofs.Common.{◌≤◌, ℕ, subst}
use Rattle.usage_meter.specs.Seating.{account_of}
use Rattle.usage_meter.proofs.Keeps.{splits}
use Rattle.usage_meter.proofs.steps.share.Goals as goal

pub split_seat-requires : goal.split_seat-requires
split_seat-requires g c = (c.requires.own, c.requires.wide, splits _ _ _ _ c.requires.live.live (subst (λ (x : ℕ). x ≤ (account_of c.args.inner.now).ration) c.requires.named c.requires.enough))
