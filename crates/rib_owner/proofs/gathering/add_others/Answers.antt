use Rattle.std.proofs.Common.{◌≡◌, ◌≢◌, ◌∙◌, ◌++◌, ◌∷◌, [], List, ap, sym, append_assoc}
use Rattle.std.proofs.lemmas.List.{append-nil}
use Rattle.flow_types.specs.declared.record.Flow.{Flow}
use Rattle.flow_types.specs.Key.{number}
use Rattle.flow_types.specs.Map.{without}
use Rattle.group_search.specs.declared.entry.Entry.{Entry}
use Rattle.group_search.specs.Records.{entries, entry_of}
use Rattle.rib_owner.proofs.Buckets.{without_nothing}
use Rattle.rib_owner.proofs.Lookups.{without_here, without_later}
use Rattle.rib_owner.proofs.gathering.add_others.Goals as goal

pub items-preserved-in-Continue-1 : goal.items-preserved-in-Continue-1
items-preserved-in-Continue-1 c =
    let other : number c.in-Some.item.key ≢ number c.args.key =
    λ same. c.if-number.true (c.number.ensures.value ∙ ap (λ (f : Flow). number f.key) c.flow-flow.ensures ∙ same ∙ sym c.number-number.ensures.value) in
    let made : c.entry.result ≡ entry_of c.in-Some.item = c.entry.ensures ∙ ap entry_of c.flow-flow.ensures in
    ap (λ (es : List Entry). es ++ entries (without c.args.key c.next.new.self)) c.in_ok-push.ensures.items
    ∙ ap (λ (e : Entry). (c.items.room.items ++ e ∷ []) ++ entries (without c.args.key c.next.new.self)) made
    ∙ append_assoc c.items.room.items (entry_of c.in-Some.item ∷ []) (entries (without c.args.key c.next.new.self))
    ∙ ap (λ (l : List Flow). c.items.room.items ++ entries l) (sym (without_later c.args.key c.in-Some.item c.next.new.self other))
    ∙ ap (λ (l : List Flow). c.items.room.items ++ entries (without c.args.key l)) (sym c.in-Some.ensures.steps)
    ∙ c.items.invariant

pub items-preserved : goal.items-preserved
items-preserved c =
    let same : number c.in-Some.item.key ≡ number c.args.key =
    ap (λ (f : Flow). number f.key) (sym c.flow-flow.ensures) ∙ sym c.number.ensures.value ∙ c.if-number.false ∙ c.number-number.ensures.value in
    ap (λ (l : List Flow). c.items.room.items ++ entries l) (sym (without_here c.args.key c.in-Some.item c.next.new.self same))
    ∙ ap (λ (l : List Flow). c.items.room.items ++ entries (without c.args.key l)) (sym c.in-Some.ensures.steps)
    ∙ c.items.invariant

pub returns : goal.returns
returns c =
    sym (append-nil c.items.room.items)
    ∙ ap (λ (l : List Flow). c.items.room.items ++ entries l) (without_nothing c.args.key)
    ∙ ap (λ (l : List Flow). c.items.room.items ++ entries (without c.args.key l)) (sym c.in-None.ensures.steps.0)
    ∙ c.items.invariant
