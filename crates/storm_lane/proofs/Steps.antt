-- A lane's steps along the events of a phase.
use Rattle.std.proofs.Common.{◌≡◌, ◌≢◌, ◌∙◌, ◌+◌, ◌%◌, ◌<◌, length, drop, get_or, add-one, drop-cons, ℕ, Bool, true, false, List, [], ◌∷◌, ◌++◌, Option, Some, None, refl, sym, ap, subst, append_assoc, append-nil}
use Rattle.std.specs.Prelude.{◌==◌}
use Rattle.std.proofs.lemmas.Bool.{eq-eqb, eqb-true}
use Rattle.flow_types.specs.declared.key.FlowKey.{FlowKey}
use Rattle.flow_types.specs.Size.{Size}
use Rattle.packet_reader.specs.declared.event.Event.{Event}
use Rattle.packet_reader.specs.declared.event.Event.TheVariants.{Set, Del, Packet, Carry, Sync}
use Rattle.run_model.specs.declared.reply.Reply.{Reply}
use Rattle.storm_model.specs.Lists.{IsLater, Lists, Parts, SaysByLists, reply_by_lists}
use Rattle.storm_model.specs.Merging.{behind_with}
use Rattle.storm_model.specs.Phase.{packets_after}
use Rattle.storm_model.specs.Walk.{TakesNext, Walk}
use Rattle.storm_lane.specs.Stepping.{TakesStep, WalksBehind, WalksSoFar}
use Rattle.storm_model.proofs.Lists.{later-on, later-same}

module _ (size : Size) (parts : Parts) (lanes lane : ℕ) where
  pub step-own : (ingress : ℕ) (key : FlowKey) (packet : ℕ) (from now : Lists) (reply : Reply) → packet % lanes ≡ lane → IsLater from now
      → reply ≡ reply_by_lists size parts now ingress key → TakesStep size parts lanes lane (Packet ingress key) packet (packet + 1) from now (Some reply)
  step-own ingress key packet from now reply own later said = record {
    on = λ script rest to walk.
        subst (λ (mine : Bool). TakesNext mine (reply ∷ rest)
        (λ (r : Reply) (rs : List Reply). (then : Lists) × IsLater from then × SaysByLists size parts then ingress key r × Walk IsLater (SaysByLists size parts) lanes lane then (packet + 1) script rs to)
        (λ (rs : List Reply). Walk IsLater (SaysByLists size parts) lanes lane from (packet + 1) script rs to))
        (sym (eq-eqb (packet % lanes) lane own)) (now, later, said, walk);
  }

  pub step-other : (ingress : ℕ) (key : FlowKey) (packet : ℕ) (from : Lists) → packet % lanes ≢ lane
      → TakesStep size parts lanes lane (Packet ingress key) packet (packet + 1) from from None
  step-other ingress key packet from other = record {
    on = λ script rest to walk. by script rest to (packet % lanes == lane) refl walk;
  }
    where
      by : (script : List Event) (rest : List Reply) (to : Lists) (mine : Bool) → (packet % lanes == lane) ≡ mine
          → Walk IsLater (SaysByLists size parts) lanes lane from (packet + 1) script rest to
          → TakesNext mine rest
          (λ (r : Reply) (rs : List Reply). (then : Lists) × IsLater from then × SaysByLists size parts then ingress key r × Walk IsLater (SaysByLists size parts) lanes lane then (packet + 1) script rs to)
          (λ (rs : List Reply). Walk IsLater (SaysByLists size parts) lanes lane from (packet + 1) script rs to)
      by script rest to true is walk = absurd (other (eqb-true (packet % lanes) lane is))
      by script rest to false is walk = walk

  abbrev IsPacket : Event → Type 0
  IsPacket (Packet ingress key) = Unit {0}
  IsPacket _ = ⊥

  pub step-past : (event : Event) (packet : ℕ) (from : Lists) → ((ingress : ℕ) (key : FlowKey) → event ≢ Packet ingress key)
      → TakesStep size parts lanes lane event packet (packets_after packet (event ∷ [])) from from None
  step-past (Set flow) packet from isnt = record { on = λ script rest to walk. walk }
  step-past (Del key) packet from isnt = record { on = λ script rest to walk. walk }
  step-past (Packet ingress key) packet from isnt = absurd (isnt ingress key refl)
  step-past (Carry node owner turn part) packet from isnt = record { on = λ script rest to walk. walk }
  step-past Sync packet from isnt = record { on = λ script rest to walk. walk }

  -- ---- the whole walk

  pub walks-first : (from : Lists) (first : ℕ) (events : List Event) (before : List Reply) → WalksSoFar size parts lanes lane from first events before from first events before
  walks-first from first events before = record { made = []; behind = sym (append-nil before); later = later-same from; on = λ more to walk. walk }

  module _ (start : Lists) (first : ℕ) (events : List Event) (before : List Reply) where
    pub walks-step : (event : Event) (rest : List Event) (packet next : ℕ) (from now : Lists) (said : Option Reply) (replies : List Reply) → IsLater from now
        → TakesStep size parts lanes lane event packet next from now said
        → WalksSoFar size parts lanes lane start first events before from packet (event ∷ rest) replies
        → WalksSoFar size parts lanes lane start first events before now next rest (behind_with replies said)
    walks-step event rest packet next from now None replies later takes far = record {
      made = far.made;
      behind = far.behind;
      later = later-on start from now far.later later;
      on = λ more to walk. far.on more to (takes.on rest more to walk);
    }
    walks-step event rest packet next from now (Some reply) replies later takes far = record {
      made = far.made ++ reply ∷ [];
      behind = ap (λ (rs : List Reply). rs ++ reply ∷ []) far.behind ∙ append_assoc before far.made (reply ∷ []);
      later = later-on start from now far.later later;
      on = λ more to walk.
          subst (λ (rs : List Reply). Walk IsLater (SaysByLists size parts) lanes lane start first events rs to) (sym (append_assoc far.made (reply ∷ []) more))
          (far.on (reply ∷ more) to (takes.on rest more to walk));
    }

    pub walks-all : (packet : ℕ) (now : Lists) (replies : List Reply) → WalksSoFar size parts lanes lane start first events before now packet [] replies
        → WalksBehind size parts lanes lane start first events before replies now
    walks-all packet now replies far = record {
      made = far.made;
      behind = far.behind;
      walk = subst (λ (rs : List Reply). Walk IsLater (SaysByLists size parts) lanes lane start first events rs now) (append-nil far.made) (far.on [] now (refl, later-same now));
    }

-- the event at this place, and those behind it
pub dropped : {A : Type 0} (xs : List A) (i : ℕ) (d : A) → i < length xs → drop i xs ≡ get_or xs i d ∷ drop (i + 1) xs
dropped xs i d low = rw (add-one, drop-cons xs i d) refl
