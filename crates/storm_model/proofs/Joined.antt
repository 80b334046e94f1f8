-- Where each owner and each lane has said what it has to say, there is a reply to each event.
use Rattle.std.proofs.Common.{◌≡◌, ◌∙◌, ◌+◌, ◌%◌, ◌<◌, ℕ, Bool, true, false, cond, List, [], ◌∷◌, length, refl, sym, subst, arith, eq-eqb}
use Rattle.std.specs.Prelude.{◌==◌}
use Rattle.std.proofs.lemmas.Bool.{eqb-true, eqb-false}
use Rattle.flow_types.specs.declared.key.FlowKey.{FlowKey}
use Rattle.flow_types.specs.Size.{IsShape}
use Rattle.group_history.specs.declared.change.Change.{Change}
use Rattle.packet_reader.specs.declared.event.Event.{Event}
use Rattle.packet_reader.specs.declared.event.Event.TheVariants.{Set, Del, Packet, Carry, Sync}
use Rattle.group_history.specs.declared.update.Update.{Update}
use Rattle.group_history.specs.declared.update.Update.TheVariants as update
use Rattle.run_model.specs.declared.reply.Reply.{Reply}
use Rattle.run_model.specs.State.{Journals, ClusterOpening, journal_of}
use Rattle.run_model.specs.Updates.{after_update, update_owner}
use Rattle.storm_model.specs.Merging.{CanMerge, Merged, Queues, with_queue}
use Rattle.storm_model.specs.Owners.{own_after, own_replies, own_reply}
use Rattle.storm_model.specs.Phase.{IsOnePhase}
use Rattle.storm_model.specs.Walk.{TakesNext, Walk}
use Rattle.storm_model.proofs.Owned.{after-length, due, owner-key, owner-low, rests}

-- a packet of the lane has a reply
record HasFirst (replies : List Reply) (Next : Reply → List Reply → Type 0) : Type 0 where
  reply : Reply
  rest : List Reply
  is : replies ≡ reply ∷ rest
  next : Next reply rest

has-first : (own : Bool) (replies : List Reply) (Next : Reply → List Reply → Type 0) (Skip : List Reply → Type 0) → own ≡ true → TakesNext own replies Next Skip → HasFirst replies Next
has-first true [] Next Skip is takes = absurd takes
has-first true (reply ∷ replies) Next Skip is takes = record { reply = reply; rest = replies; is = refl; next = takes }
has-first false replies Next Skip is takes = cc is

passed : (own : Bool) (replies : List Reply) (Next : Reply → List Reply → Type 0) (Skip : List Reply → Type 0) → own ≡ false → TakesNext own replies Next Skip → Skip replies
passed true replies Next Skip is takes = cc is
passed false replies Next Skip is takes = takes

module _ {S : Type 0} (Later : S → S → Type 0) (Says : S → (ingress : ℕ) → FlowKey → Reply → Type 0) (opened : ClusterOpening)
    (shape : IsShape opened.size.nodes opened.size.blocks) (lanes : ℕ) (some : 0 < lanes) where
  abbrev Walks : (lane : ℕ) → S → ℕ → List Event → List Reply → S → Type 0
  Walks lane from packets script replies to = Walk Later Says lanes lane from packets script replies to

  abbrev Steps : (lane : ℕ) → S → (ingress : ℕ) → FlowKey → ℕ → List Event → S → Reply → List Reply → Type 0
  Steps lane from ingress key packets script to reply rest = (now : S) × Later from now × Says now ingress key reply × Walks lane now (packets + 1) script rest to

  walks-on : (from to : ℕ → S) (by_lane : Queues) (packets ingress : ℕ) (key : FlowKey) (script : List Event)
      → ((lane : ℕ) → lane < lanes → Walks lane (from lane) packets (Packet ingress key ∷ script) (by_lane lane) (to lane))
      → (reply : Reply) (rest : List Reply) (step : Steps (packets % lanes) (from (packets % lanes)) ingress key packets script (to (packets % lanes)) reply rest)
      → (asked : ℕ) → asked < lanes
      → Walks asked (cond (asked == packets % lanes) step.0 (from asked)) (packets + 1) script (with_queue by_lane (packets % lanes) rest asked) (to asked)
  walks-on from to by_lane packets ingress key script all reply rest step asked low = by (asked == packets % lanes) refl
    where
      by : (same : Bool) → (asked == packets % lanes) ≡ same
          → Walks asked (cond same step.0 (from asked)) (packets + 1) script (cond same rest (by_lane asked)) (to asked)
      by true is = subst (λ (l : ℕ). Walks l step.0 (packets + 1) script rest (to l)) (sym (eqb-true asked (packets % lanes) is)) step.3
      by false is =
          passed (packets % lanes == asked) (by_lane asked) (Steps asked (from asked) ingress key packets script (to asked))
          (λ (rest : List Reply). Walks asked (from asked) (packets + 1) script rest (to asked)) (other (packets % lanes == asked) refl) (all asked low)
        where
          other : (own : Bool) → (packets % lanes == asked) ≡ own → (packets % lanes == asked) ≡ false
          other true e = absurd (eqb-false asked (packets % lanes) is (sym (eqb-true (packets % lanes) asked e)))
          other false e = e

  abbrev Said : (script : List Event) → (owner : ℕ) → List Change → List Reply
  Said script owner changes = own_replies opened owner changes script

  updated : (asked : Update) (script : List Event) (packets : ℕ) (now : Journals) (owners by_lane : Queues) → length now ≡ opened.size.nodes
      → (owned : (owner : ℕ) → owner < length now → owners owner ≡ due opened now asked owners (Said script) owner)
      → ((next : Queues) → ((owner : ℕ) → owner < length (after_update opened now asked) → next owner ≡ own_replies opened owner (journal_of (after_update opened now asked) owner) script)
      → CanMerge opened.size lanes next by_lane packets script)
      → (all : List Reply) × (reply : Reply) × (rest : List Reply)
      × (owners (update_owner opened asked) ≡ reply ∷ rest) × Merged opened.size lanes (with_queue owners (update_owner opened asked) rest) by_lane packets script all
  updated asked script packets now owners by_lane whole owned later =
      let owner = update_owner opened asked in
      let mine : owner < length now = omega (arith, owner-low opened shape asked, whole) in
      let reply = own_reply opened owner (journal_of now owner) asked in
      let rest = own_replies opened owner (own_after opened (journal_of now owner) asked) script in
      let next : owners owner ≡ reply ∷ rest = owned owner mine ∙ own-first opened now asked owners script in
      let can = later (with_queue owners owner rest) (λ (o : ℕ) (low : o < length (after_update opened now asked)).
      rests opened now asked owners (Said script) mine owned reply rest next o (omega (arith, low, after-length opened now asked))) in
      (can.all, reply, rest, next, can.merged)
    where
      own-first : (opened : ClusterOpening) (now : Journals) (asked : Update) (owners : Queues) (script : List Event)
          → due opened now asked owners (λ (o : ℕ) (changes : List Change). own_replies opened o changes script) (update_owner opened asked)
          ≡ own_reply opened (update_owner opened asked) (journal_of now (update_owner opened asked)) asked ∷ own_replies opened (update_owner opened asked) (own_after opened (journal_of now (update_owner opened asked)) asked) script
      own-first opened now asked owners script = rw (eq-eqb (update_owner opened asked) (update_owner opened asked) refl) refl

  pub can-merge : (script : List Event) (packets : ℕ) (now : Journals) (from to : ℕ → S) (owners by_lane : Queues) → IsOnePhase script → length now ≡ opened.size.nodes
      → ((owner : ℕ) → owner < length now → owners owner ≡ own_replies opened owner (journal_of now owner) script)
      → ((lane : ℕ) → lane < lanes → Walks lane (from lane) packets script (by_lane lane) (to lane)) → CanMerge opened.size lanes owners by_lane packets script
  can-merge [] packets now from to owners by_lane one whole owned walked = record { all = []; merged = refl }
  can-merge (Set flow ∷ script) packets now from to owners by_lane one whole owned walked =
      let asked = update.Set flow in
      let is = updated asked script packets now owners by_lane whole owned
      (λ (next : Queues) (on : (owner : ℕ) → owner < length (after_update opened now asked) → next owner ≡ own_replies opened owner (journal_of (after_update opened now asked) owner) script).
      can-merge script packets (after_update opened now asked) from to next by_lane one (after-length opened now asked ∙ whole) on walked) in
      record {
        all = is.1 ∷ is.0;
        merged = subst (λ (o : ℕ). (rest : List Reply) × (owners o ≡ is.1 ∷ rest) × Merged opened.size lanes (with_queue owners o rest) by_lane packets script is.0)
            (owner-key opened asked) (is.2, is.3, is.4);
      }
  can-merge (Del key ∷ script) packets now from to owners by_lane one whole owned walked =
      let asked = update.Del key in
      let is = updated asked script packets now owners by_lane whole owned
      (λ (next : Queues) (on : (owner : ℕ) → owner < length (after_update opened now asked) → next owner ≡ own_replies opened owner (journal_of (after_update opened now asked) owner) script).
      can-merge script packets (after_update opened now asked) from to next by_lane one (after-length opened now asked ∙ whole) on walked) in
      record {
        all = is.1 ∷ is.0;
        merged = subst (λ (o : ℕ). (rest : List Reply) × (owners o ≡ is.1 ∷ rest) × Merged opened.size lanes (with_queue owners o rest) by_lane packets script is.0)
            (owner-key opened asked) (is.2, is.3, is.4);
      }
  can-merge (Packet ingress key ∷ script) packets now from to owners by_lane one whole owned walked =
      let lane = packets % lanes in
      let low : lane < lanes = omega arith in
      let first = has-first (lane == lane) (by_lane lane) (Steps lane (from lane) ingress key packets script (to lane))
      (λ (rest : List Reply). Walks lane (from lane) (packets + 1) script rest (to lane)) (eq-eqb lane lane refl) (walked lane low) in
      let can = can-merge script (packets + 1) now (λ (l : ℕ). cond (l == lane) (first.next.0) (from l)) to owners (with_queue by_lane lane first.rest) one whole owned
      (walks-on from to by_lane packets ingress key script walked first.reply first.rest first.next) in
      record { all = first.reply ∷ can.all; merged = (first.rest, first.is, can.merged) }
  can-merge (Carry node owner turn part ∷ script) packets now from to owners by_lane one whole owned walked = absurd one
  can-merge (Sync ∷ script) packets now from to owners by_lane one whole owned walked = absurd one
