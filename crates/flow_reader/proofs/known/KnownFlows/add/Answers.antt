use Rattle.std.proofs.Common.{sym, ◌∙◌}
use Rattle.flow_reader.proofs.known.KnownFlows.add.Goals as goal

pub returns-then-not-branch-clause-new_key : goal.returns-then-not-branch-clause-new_key
returns-then-not-branch-clause-new_key c =
    let added = rw c.self.invariant at c.in_ok-insert.ensures.added in
    rw (← c.self.view_is) (sym c.if-not-branch.true ∙ added)
