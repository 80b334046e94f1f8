use Rattle.std.proofs.Common.{◌∙◌, ap, arith}
use Rattle.hash_family.specs.Hash.{mix}
use Rattle.grind_rows.specs.Draws.{draw}
use Rattle.grind_rows.proofs.Drawn.{drawn}
use Rattle.grind_rows.proofs.drawing.draw.Goals as goal

pub returns : goal.returns
unfolding draw
returns c =
    let mixed = rw (c.from.ensures, c.from-2.ensures) at c.mix.ensures in
    mixed ∙ ap mix (drawn c.args.seed c.args.number (omega arith))
