-- One event's reply is taken, and then the others.
use Rattle.std.proofs.Common.{◌≡◌, ◌≢◌, ◌∙◌, ◌+◌, ◌%◌, ℕ, Bool, true, false, cond, List, [], ◌∷◌, ◌++◌, refl, sym, ap, subst, append_assoc, append-nil, add-one, drop-cons, drop, get_or, length, ◌<◌}
use Rattle.std.specs.Prelude.{◌==◌}
use Rattle.std.proofs.lemmas.Bool.{eqb-true, eqb-false}
use Rattle.flow_types.specs.declared.key.FlowKey.{FlowKey}
use Rattle.flow_types.specs.declared.record.Flow.{Flow}
use Rattle.flow_types.specs.Size.{Size}
use Rattle.packet_reader.specs.declared.event.Event.{Event}
use Rattle.packet_reader.specs.declared.event.Event.TheVariants.{Set, Del, Packet, Carry, Sync}
use Rattle.packet_reader.specs.declared.event.Part.{Part}
use Rattle.run_model.specs.declared.reply.Reply.{Reply}
use Rattle.storm_model.specs.Merging.{CanMerge, HasNext, Merged, MergesBehind, Queues, TakesFrom, TakesOne, owner_of_key, with_queue}

one-queue : (before after : Queues) (worker : ℕ) → ((other : ℕ) → other ≢ worker → after other ≡ before other) → after ≡ with_queue before worker (after worker)
one-queue before after worker others = λ i asked. by asked (asked == worker) refl i
  where
    by : (asked : ℕ) (same : Bool) → (asked == worker) ≡ same → after asked ≡ cond same (after worker) (before asked)
    by asked true is = ap after (eqb-true asked worker is)
    by asked false is = others asked (eqb-false asked worker is)

-- what was taken from a row of queues
module _ (before after : Queues) (worker : ℕ) (reply : Reply) (taken : before worker ≡ reply ∷ after worker)
    (others : (other : ℕ) → other ≢ worker → after other ≡ before other) (Goes : Queues → List Reply → Type 0) where
  took : (more : List Reply) → Goes after more → TakesFrom before worker reply (λ next. Goes next more)
  took more goes = (after worker, taken, subst (λ (q : Queues). Goes q more) (one-queue before after worker others) goes)

  record Left (first : Reply) (more : List Reply) : Type 0 where
    same : first ≡ reply
    goes : Goes after more

  left : (first : Reply) (more : List Reply) → TakesFrom before worker first (λ next. Goes next more) → Left first more
  left first more (rest, is, goes) =
      let both : first ∷ rest ≡ reply ∷ after worker = sym is ∙ taken in
      let tail : rest ≡ after worker = cc in record {
        same = cc;
        goes = subst (λ (q : Queues). Goes q more) (sym (one-queue before after worker others)) (subst (λ (r : List Reply). Goes (with_queue before worker r) more) tail goes);
      }

has-next : (queues : Queues) (worker : ℕ) (reply : Reply) (Rest : Queues → Type 0) → TakesFrom queues worker reply Rest → HasNext (queues worker)
has-next queues worker reply Rest (rest, is, goes) = subst HasNext (sym is) tt

module _ (size : Size) (lanes : ℕ) where
  module _ (owners by_lane : Queues) (packets : ℕ) (script : List Event) where
    pub next-set : (flow : Flow) → CanMerge size lanes owners by_lane packets (Set flow ∷ script) → HasNext (owners (owner_of_key size flow.key))
    next-set flow can = by can.all can.merged
      where
        by : (all : List Reply) → Merged size lanes owners by_lane packets (Set flow ∷ script) all → HasNext (owners (owner_of_key size flow.key))
        by [] merged = absurd merged
        by (reply ∷ more) merged = has-next owners (owner_of_key size flow.key) reply (λ (next : Queues). Merged size lanes next by_lane packets script more) merged

    pub next-del : (key : FlowKey) → CanMerge size lanes owners by_lane packets (Del key ∷ script) → HasNext (owners (owner_of_key size key))
    next-del key can = by can.all can.merged
      where
        by : (all : List Reply) → Merged size lanes owners by_lane packets (Del key ∷ script) all → HasNext (owners (owner_of_key size key))
        by [] merged = absurd merged
        by (reply ∷ more) merged = has-next owners (owner_of_key size key) reply (λ (next : Queues). Merged size lanes next by_lane packets script more) merged

    pub next-packet : (ingress : ℕ) (key : FlowKey) → CanMerge size lanes owners by_lane packets (Packet ingress key ∷ script) → HasNext (by_lane (packets % lanes))
    next-packet ingress key can = by can.all can.merged
      where
        by : (all : List Reply) → Merged size lanes owners by_lane packets (Packet ingress key ∷ script) all → HasNext (by_lane (packets % lanes))
        by [] merged = absurd merged
        by (reply ∷ more) merged = has-next by_lane (packets % lanes) reply (λ (next : Queues). Merged size lanes owners next (packets + 1) script more) merged

    pub no-carry : (node owner turn : ℕ) (part : Part) → CanMerge size lanes owners by_lane packets (Carry node owner turn part ∷ script) → ⊥
    no-carry node owner turn part can = can.merged

    pub no-sync : CanMerge size lanes owners by_lane packets (Sync ∷ script) → ⊥
    no-sync can = can.merged

  pub takes-set : (flow : Flow) (reply : Reply) (owners by_lane after : Queues) (packets : ℕ) → owners (owner_of_key size flow.key) ≡ reply ∷ after (owner_of_key size flow.key)
      → ((other : ℕ) → other ≢ owner_of_key size flow.key → after other ≡ owners other) → TakesOne size lanes (Set flow) reply owners by_lane after by_lane packets packets
  takes-set flow reply owners by_lane after packets taken others = record {
    after = λ script more merged. took owners after (owner_of_key size flow.key) reply taken others (λ (q : Queues) (rs : List Reply). Merged size lanes q by_lane packets script rs) more merged;
    before = λ script all merged. by script all merged;
  }
    where
      by : (script : List Event) (all : List Reply) → Merged size lanes owners by_lane packets (Set flow ∷ script) all
          → (more : List Reply) × (all ≡ reply ∷ more) × Merged size lanes after by_lane packets script more
      by script [] merged = absurd merged
      by script (first ∷ more) merged =
          let is = left owners after (owner_of_key size flow.key) reply taken others (λ (q : Queues) (rs : List Reply). Merged size lanes q by_lane packets script rs) first more merged in
          (more, ap (λ (r : Reply). r ∷ more) is.same, is.goes)

  pub takes-del : (key : FlowKey) (reply : Reply) (owners by_lane after : Queues) (packets : ℕ) → owners (owner_of_key size key) ≡ reply ∷ after (owner_of_key size key)
      → ((other : ℕ) → other ≢ owner_of_key size key → after other ≡ owners other) → TakesOne size lanes (Del key) reply owners by_lane after by_lane packets packets
  takes-del key reply owners by_lane after packets taken others = record {
    after = λ script more merged. took owners after (owner_of_key size key) reply taken others (λ (q : Queues) (rs : List Reply). Merged size lanes q by_lane packets script rs) more merged;
    before = λ script all merged. by script all merged;
  }
    where
      by : (script : List Event) (all : List Reply) → Merged size lanes owners by_lane packets (Del key ∷ script) all
          → (more : List Reply) × (all ≡ reply ∷ more) × Merged size lanes after by_lane packets script more
      by script [] merged = absurd merged
      by script (first ∷ more) merged =
          let is = left owners after (owner_of_key size key) reply taken others (λ (q : Queues) (rs : List Reply). Merged size lanes q by_lane packets script rs) first more merged in
          (more, ap (λ (r : Reply). r ∷ more) is.same, is.goes)

  pub takes-packet : (ingress : ℕ) (key : FlowKey) (reply : Reply) (owners by_lane after : Queues) (packets : ℕ) → by_lane (packets % lanes) ≡ reply ∷ after (packets % lanes)
      → ((other : ℕ) → other ≢ packets % lanes → after other ≡ by_lane other) → TakesOne size lanes (Packet ingress key) reply owners by_lane owners after packets (packets + 1)
  takes-packet ingress key reply owners by_lane after packets taken others = record {
    after = λ script more merged. took by_lane after (packets % lanes) reply taken others (λ (q : Queues) (rs : List Reply). Merged size lanes owners q (packets + 1) script rs) more merged;
    before = λ script all merged. by script all merged;
  }
    where
      by : (script : List Event) (all : List Reply) → Merged size lanes owners by_lane packets (Packet ingress key ∷ script) all
          → (more : List Reply) × (all ≡ reply ∷ more) × Merged size lanes owners after (packets + 1) script more
      by script [] merged = absurd merged
      by script (first ∷ more) merged =
          let is = left by_lane after (packets % lanes) reply taken others (λ (q : Queues) (rs : List Reply). Merged size lanes owners q (packets + 1) script rs) first more merged in
          (more, ap (λ (r : Reply). r ∷ more) is.same, is.goes)

pub ruleset takings = (next-set, next-del, next-packet, no-carry, no-sync)

-- ---- all events

-- how far the merging has come: these replies are there, and whatever is merged of what is left goes on from them
pub record MergesSoFar (size : Size) (lanes : ℕ) (first_owners first_lanes : Queues) (first : ℕ) (events : List Event) (before : List Reply)
    (owners by_lane : Queues) (packet : ℕ) (rest : List Event) (now : List Reply) : Type 0 where
  pub made : List Reply
  pub behind : now ≡ before ++ made
  pub can : CanMerge size lanes owners by_lane packet rest
  pub on : (more : List Reply) → Merged size lanes owners by_lane packet rest more → Merged size lanes first_owners first_lanes first events (made ++ more)

pub merges-first : (size : Size) (lanes : ℕ) (owners by_lane : Queues) (first : ℕ) (events : List Event) (before : List Reply) → CanMerge size lanes owners by_lane first events
    → MergesSoFar size lanes owners by_lane first events before owners by_lane first events before
merges-first size lanes owners by_lane first events before can = record { made = []; behind = sym (append-nil before); can = can; on = λ more merged. merged }

module _ (size : Size) (lanes : ℕ) (first_owners first_lanes : Queues) (first : ℕ) (events : List Event) (before : List Reply) where
  pub merges-one : (owners by_lane owners' by_lane' : Queues) (packet packet' : ℕ) (event : Event) (rest : List Event) (now : List Reply) (reply : Reply)
      → MergesSoFar size lanes first_owners first_lanes first events before owners by_lane packet (event ∷ rest) now
      → TakesOne size lanes event reply owners by_lane owners' by_lane' packet packet'
      → MergesSoFar size lanes first_owners first_lanes first events before owners' by_lane' packet' rest (now ++ reply ∷ [])
  merges-one owners by_lane owners' by_lane' packet packet' event rest now reply far takes =
      let left = takes.before rest far.can.all far.can.merged in record {
        made = far.made ++ reply ∷ [];
        behind = ap (λ (rs : List Reply). rs ++ reply ∷ []) far.behind ∙ append_assoc before far.made (reply ∷ []);
        can = record { all = left.0; merged = left.2 };
        on = λ more merged.
            subst (Merged size lanes first_owners first_lanes first events) (sym (append_assoc far.made (reply ∷ []) more)) (far.on (reply ∷ more) (takes.after rest more merged));
      }

  pub merges-all : (owners by_lane : Queues) (packet : ℕ) (now : List Reply)
      → MergesSoFar size lanes first_owners first_lanes first events before owners by_lane packet [] now
      → MergesBehind size lanes first_owners first_lanes first events before now
  merges-all owners by_lane packet now far = record {
    made = far.made;
    behind = far.behind;
    merged = subst (Merged size lanes first_owners first_lanes first events) (append-nil far.made) (far.on [] refl);
  }

pub dropped : {A : Type 0} (xs : List A) (i : ℕ) (d : A) → i < length xs → drop i xs ≡ get_or xs i d ∷ drop (i + 1) xs
dropped xs i d low = rw (add-one, drop-cons xs i d) refl
