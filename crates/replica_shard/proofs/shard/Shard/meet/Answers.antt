use Rattle.std.proofs.Common.{◌∙◌, map, ap, sym}
use Rattle.std.proofs.lemmas.List.{map-append}
use Rattle.replica_shard.specs.Owners.{in_cluster}
use Rattle.replica_shard.proofs.shard.Shard.meet.Goals as goal

pub returns-clause-before : goal.returns-clause-before
returns-clause-before c =
    let up = in_cluster c.args.self.now.shape.nodes c.args.self.now.owner in
    let rest = c.meet.ensures.before in
    (map up rest.0, sym (map-append up _ rest.0) ∙ ap (map up) rest.1)
