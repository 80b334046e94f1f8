use Rattle.std.proofs.Common.{◌≡◌, ◌∙◌, ◌++◌, List, ap, sym, arith}
use Rattle.flow_types.specs.declared.record.Flow.{Flow}
use Rattle.flow_types.specs.Map.{without}
use Rattle.group_search.specs.declared.entry.Entry.{Entry}
use Rattle.group_search.specs.Home.{group_of}
use Rattle.group_search.specs.Records.{entries}
use Rattle.rib_owner.specs.Stock.{Stock}
use Rattle.rib_owner.proofs.Buckets.{flows_from, in_bucket}
use Rattle.rib_owner.proofs.GatheredSoFar.{gathered_all, gathered_no, gathered_none, gathered_yes}
use Rattle.rib_owner.proofs.block.OwnedBlock.gather_others.Goals as goal
use Rattle.rib_owner.proofs.block.OwnedBlock.gather_others.Goals.{then-group+in_ok-add_others, else-group}

pub buckets-init : goal.buckets-init
buckets-init c = c.requires ∙ gathered_none c.args.self.now.choices c.args.group c.args.self.now.arena.buckets c.args.key

pub buckets-preserved : goal.buckets-preserved
buckets-preserved c =
    let group_is : c.group.result ≡ group_of c.args.self.now.choices c.buckets.number =
    c.group.ensures.value ∙ ap (λ (s : Stock). group_of s.choices c.buckets.number) c.self.view_is in
    elim c.if-group.branch [
      | then-group+in_ok-add_others w ↦
          let flows : w.iter.result ≡ in_bucket c.args.self.now.arena.buckets c.buckets.number =
          w.iter.ensures ∙ ap (λ (s : Stock). in_bucket s.arena.buckets c.buckets.number) c.self.view_is in
          ap (λ r. r.items) w.room-is ∙ w.in_ok-add_others.ensures
          ∙ ap (λ (es : List Entry). es ++ entries (without c.args.key w.iter.result)) c.buckets.invariant
          ∙ ap (λ (l : List Flow). entries (without c.args.key (flows_from c.args.self.now.choices c.args.group c.args.self.now.arena.buckets 0 c.buckets.number)) ++ entries (without c.args.key l)) flows
          ∙ gathered_yes c.args.self.now.choices c.args.group c.args.self.now.arena.buckets c.args.key c.buckets.number (sym group_is ∙ w.if-group.true)
      | else-group w ↦
          ap (λ r. r.items) w.room-is ∙ c.buckets.invariant
          ∙ gathered_no c.args.self.now.choices c.args.group c.args.self.now.arena.buckets c.args.key c.buckets.number (λ same. w.if-group.false (group_is ∙ same))
    ]

pub returns : goal.returns
returns c = c.buckets.invariant ∙ gathered_all c.args.self.now.choices c.args.group c.args.self.now.arena.buckets c.args.key c.buckets.number (omega arith)
