use Rattle.partial_fib.proofs.Keeping.{before_self, turns}
use Rattle.partial_fib.proofs.sharing.reader.inside.Goals as goal

pub enter_as-requires : goal.enter_as-requires
enter_as-requires g c x = turns _ _ x x (λ right. (right, before_self x))
