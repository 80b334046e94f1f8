-- Walks that go on to a later state, and walks seen in other words.
use Rattle.std.proofs.Common.{◌+◌, ◌%◌, ℕ, Bool, true, false, List, [], ◌∷◌}
use Rattle.std.specs.Prelude.{◌==◌, All}
use Rattle.std.proofs.lemmas.List.Elements.{All-head, All-tail}
use Rattle.flow_types.specs.declared.key.FlowKey.{FlowKey}
use Rattle.packet_reader.specs.declared.event.Event.{Event}
use Rattle.packet_reader.specs.declared.event.Event.TheVariants.{Set, Del, Packet, Carry, Sync}
use Rattle.run_model.specs.declared.reply.Reply.{Reply}
use Rattle.storm_model.specs.Walk.{TakesNext, Walk}

-- what is said of a packet's reply may be said in other words
next-map : (own : Bool) (replies : List Reply) (Next Then : Reply → List Reply → Type 0) (Skip Pass : List Reply → Type 0)
    → ((reply : Reply) (rest : List Reply) → Next reply rest → Then reply rest) → ((rest : List Reply) → Skip rest → Pass rest)
    → TakesNext own replies Next Skip → TakesNext own replies Then Pass
next-map true [] Next Then Skip Pass f g takes = takes
next-map true (reply ∷ replies) Next Then Skip Pass f g takes = f reply replies takes
next-map false replies Next Then Skip Pass f g takes = g replies takes

-- what both ways of a packet give
next-gives : (own : Bool) (replies : List Reply) (Next : Reply → List Reply → Type 0) (Skip : List Reply → Type 0) (Holds : Type 0)
    → ((reply : Reply) (rest : List Reply) → Next reply rest → Holds) → ((rest : List Reply) → Skip rest → Holds)
    → TakesNext own replies Next Skip → Holds
next-gives true [] Next Skip Holds f g takes = absurd takes
next-gives true (reply ∷ replies) Next Skip Holds f g takes = f reply replies takes
next-gives false replies Next Skip Holds f g takes = g replies takes

module _ {S : Type 0} (Later : S → S → Type 0) (later-on : (a b c : S) → Later a b → Later b c → Later a c) where
  module _ (Says : S → (ingress : ℕ) → FlowKey → Reply → Type 0) (lanes lane : ℕ) where
    abbrev Walks : S → ℕ → List Event → List Reply → S → Type 0
    Walks from packets script replies to = Walk Later Says lanes lane from packets script replies to

    -- the walk's last state is a later one
    pub walk-ends : (script : List Event) (from to : S) (packets : ℕ) (replies : List Reply) → Walks from packets script replies to → Later from to
    walk-ends [] from to packets replies walk = walk.1
    walk-ends (Set flow ∷ script) from to packets replies walk = walk-ends script from to packets replies walk
    walk-ends (Del key ∷ script) from to packets replies walk = walk-ends script from to packets replies walk
    walk-ends (Packet ingress key ∷ script) from to packets replies walk =
        next-gives (packets % lanes == lane) replies _ _ (Later from to)
        (λ reply rest (next : (now : S) × Later from now × Says now ingress key reply × Walks now (packets + 1) script rest to).
        later-on from next.0 to next.1 (walk-ends script next.0 to (packets + 1) rest next.3))
        (λ rest (skip : Walks from (packets + 1) script rest to). walk-ends script from to (packets + 1) rest skip)
        walk
    walk-ends (Carry node owner turn part ∷ script) from to packets replies walk = walk-ends script from to packets replies walk
    walk-ends (Sync ∷ script) from to packets replies walk = walk-ends script from to packets replies walk

    -- the readers may see more when all packets are answered
    pub walk-on : (script : List Event) (from to last : S) (packets : ℕ) (replies : List Reply) → Later to last → Walks from packets script replies to
        → Walks from packets script replies last
    walk-on [] from to last packets replies more walk = (walk.0, later-on from to last walk.1 more)
    walk-on (Set flow ∷ script) from to last packets replies more walk = walk-on script from to last packets replies more walk
    walk-on (Del key ∷ script) from to last packets replies more walk = walk-on script from to last packets replies more walk
    walk-on (Packet ingress key ∷ script) from to last packets replies more walk =
        next-map (packets % lanes == lane) replies _ _ _ _
        (λ reply rest (next : (now : S) × Later from now × Says now ingress key reply × Walks now (packets + 1) script rest to).
        (next.0, next.1, next.2, walk-on script next.0 to last (packets + 1) rest more next.3))
        (λ rest (skip : Walks from (packets + 1) script rest to). walk-on script from to last (packets + 1) rest more skip)
        walk
    walk-on (Carry node owner turn part ∷ script) from to last packets replies more walk = walk-on script from to last packets replies more walk
    walk-on (Sync ∷ script) from to last packets replies more walk = walk-on script from to last packets replies more walk

    -- a walk in other words: what is said at a state that comes before the last is said of it in those words
    module _ {T : Type 0} (Rises : T → T → Type 0) (Tells : T → (ingress : ℕ) → FlowKey → Reply → Type 0) (seen : S → T) (Fits : Event → Type 0) (last : S)
        (rises : (a b : S) → Later a b → Later b last → Rises (seen a) (seen b))
        (tells : (now : S) (ingress : ℕ) (key : FlowKey) (reply : Reply) → Fits (Packet ingress key) → Later now last → Says now ingress key reply
        → Tells (seen now) ingress key reply)
        (stays : Later last last) where
      pub walk-as : (script : List Event) (from : S) (packets : ℕ) (replies : List Reply) → All Fits script → Walks from packets script replies last
          → Walk Rises Tells lanes lane (seen from) packets script replies (seen last)
      walk-as [] from packets replies fit walk = (walk.0, rises from last walk.1 stays)
      walk-as (Set flow ∷ script) from packets replies fit walk = walk-as script from packets replies (All-tail Fits (Set flow) script fit) walk
      walk-as (Del key ∷ script) from packets replies fit walk = walk-as script from packets replies (All-tail Fits (Del key) script fit) walk
      walk-as (Packet ingress key ∷ script) from packets replies fit walk =
          let fits = All-head Fits (Packet ingress key) script fit in
          let later = All-tail Fits (Packet ingress key) script fit in
          next-map (packets % lanes == lane) replies _ _ _ _
          (λ reply rest (next : (now : S) × Later from now × Says now ingress key reply × Walks now (packets + 1) script rest last).
          let after = walk-ends script next.0 last (packets + 1) rest next.3 in
          (seen next.0, rises from next.0 next.1 after, tells next.0 ingress key reply fits after next.2, walk-as script next.0 (packets + 1) rest later next.3))
          (λ rest (skip : Walks from (packets + 1) script rest last). walk-as script from (packets + 1) rest later skip)
          walk
      walk-as (Carry node owner turn part ∷ script) from packets replies fit walk = walk-as script from packets replies (All-tail Fits (Carry node owner turn part) script fit) walk
      walk-as (Sync ∷ script) from packets replies fit walk = walk-as script from packets replies (All-tail Fits Sync script fit) walk
