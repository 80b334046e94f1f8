use Rattle.std.proofs.Common.{◌≡◌, ◌∙◌, ◌++◌, ◌∷◌, [], List, ap, sym}
use Rattle.flow_types.specs.declared.record.Flow.{Flow}
use Rattle.flow_types.specs.Map.{without}
use Rattle.group_search.specs.declared.entry.Entry.{Entry}
use Rattle.group_search.specs.Records.{entries}
use Rattle.rib_owner.specs.Rib.{map_in}
use Rattle.rib_owner.specs.Stock.{part_in}
use Rattle.rib_owner.proofs.Gathered.{gathered_removed, gathered_set}
use Rattle.rib_owner.proofs.GroupMaps.{map_at}
use Rattle.rib_owner.proofs.block.OwnedBlock.gather.Goals as goal

pub returns-in_ok-push : goal.returns-in_ok-push
returns-in_ok-push c =
    let others : c.gather_others.new.room.items ≡ entries (without c.args.change.now.key (map_in (part_in c.args.self.now) c.args.group)) =
    c.in_ok-gather_others.ensures
    ∙ ap (λ (flows : List Flow). entries (without c.args.change.now.key flows)) (sym (map_at c.args.self.now.choices c.args.self.now.arena.buckets c.args.group c.requires)) in
    c.in_ok-push.ensures.items ∙ ap (λ (es : List Entry). es ++ c.entry.result ∷ []) others
    ∙ ap (λ (e : Entry). entries (without c.args.change.now.key (map_in (part_in c.args.self.now) c.args.group)) ++ e ∷ []) c.entry.ensures
    ∙ gathered_set (map_in (part_in c.args.self.now) c.args.group) c.args.change.now _ c.in-Some.is

pub returns-in_default : goal.returns-in_default
returns-in_default c =
    c.in_ok-gather_others.ensures
    ∙ ap (λ (flows : List Flow). entries (without c.args.change.now.key flows)) (sym (map_at c.args.self.now.choices c.args.self.now.arena.buckets c.args.group c.requires))
    ∙ gathered_removed (map_in (part_in c.args.self.now) c.args.group) c.args.change.now c.in_default.not-Some
