-- Which replies the model allows for a script, in a run with a number of lanes.
use Rattle.std.specs.Prelude.{◌≡◌, ℕ, ◌+◌, ◌≤◌, ◌%◌, ◌==◌, ◌&&◌, List, [], ◌∷◌, length, take, replicate, Option, Some, None, if◌then◌else◌}
use Rattle.flow_types.specs.declared.key.FlowKey.{FlowKey}
use Rattle.flow_types.specs.declared.record.Flow.{Flow}
use Rattle.flow_types.specs.declared.record.Record.{Record}
use Rattle.group_search.specs.Home.{Home, opening}
use Rattle.group_history.specs.declared.change.Change.{Change}
use Rattle.group_history.specs.History.{at_version}
use Rattle.group_history.specs.Journal.{change_count}
use Rattle.group_history.specs.Routes.{Answer, Route}
use Rattle.packet_reader.specs.declared.event.Event.{Event}
use Rattle.packet_reader.specs.declared.event.Event.TheVariants.{Set, Del, Packet, Carry, Sync}
use Rattle.group_history.specs.declared.update.Update.TheVariants as update
use Rattle.run_model.specs.declared.reply.Reply.{Reply}
use Rattle.run_model.specs.declared.reply.Reply.TheVariants.{Found, Unknown, Nowhere, Synced}
use Rattle.run_model.specs.State.{Journals, ClusterOpening, Taken, home_of_key, journal_of, owner_of_group}
use Rattle.run_model.specs.Updates.{after_update, update_reply}
use Rattle.run_model.specs.Replaying.{fresh_node}
use Rattle.run_model.specs.Carrying.{after_carry, after_sync, carry_reply, turns_taken}

-- what the owners have accepted by the end of the phase in which this script goes on
unfoldable pub phase_end : ClusterOpening → Journals → List Event → Journals
phase_end opened journals [] = journals
phase_end opened journals (Set flow ∷ script) = phase_end opened (after_update opened journals (update.Set flow)) script
phase_end opened journals (Del key ∷ script) = phase_end opened (after_update opened journals (update.Del key)) script
phase_end opened journals (Packet ingress key ∷ script) = phase_end opened journals script
phase_end opened journals (Carry node owner turn part ∷ script) = phase_end opened journals script
phase_end opened journals (Sync ∷ script) = journals

-- the changes of the key's owner
abbrev pub changes_of_key : ClusterOpening → Journals → FlowKey → List Change
changes_of_key opened journals key = journal_of journals (owner_of_group opened (home_of_key opened key))

-- the key's group has this map at the version
abbrev pub IsAtVersion : ClusterOpening → List Change → FlowKey → (version : ℕ) → List Flow → Type 0
IsAtVersion opened changes key version flows =
    let at = home_of_key opened key in
    at_version (opening opened.size.blocks opened.flows at) changes at version ≡ Some flows

-- the version of the key's group is one of a phase that began with these journals and ends with those
pub record IsOfPhase (opened : ClusterOpening) (start end : Journals) (key : FlowKey) (version : ℕ) : Type 0 where
  pub late : change_count (home_of_key opened key) (changes_of_key opened start key) ≤ version
  pub early : version ≤ change_count (home_of_key opened key) (changes_of_key opened end key)

-- the cut in an owner's turns: the least number of them, not below the one before, of which as many are of the group as its
-- version says
pub record IsNextCut (changes : List Change) (at : Home) (version before cut : ℕ) : Type 0 where
  pub not_before : before ≤ cut
  pub counts : change_count at (take cut changes) ≡ version
  pub least : (other : ℕ) → before ≤ other → change_count at (take other changes) ≡ version → cut ≤ other

-- the cuts of one kind: of each lane, node and owner
abbrev pub Cuts : Type 0
Cuts = (lane node owner : ℕ) → ℕ

abbrev pub no_cuts : Cuts
no_cuts lane node owner = 0

abbrev pub with_cut : Cuts → (lane node owner cut : ℕ) → Cuts
with_cut cuts lane node owner cut l n o = if (l == lane) && (n == node) && (o == owner) then cut else cuts l n o

-- where a run stands: the packets so far, what the owners had accepted when the phase began and have accepted now, what each
-- node has taken by carries, and the cuts of tables and of FIBs
pub record Moment : Type 0 where
  pub packets : ℕ
  pub start : Journals
  pub now : Journals
  pub nodes : List Taken
  pub tables : Cuts
  pub fibs : Cuts

-- the ingress answers by a version of this phase, no older than its lane had seen there
pub record IsSeen (opened : ClusterOpening) (lanes : ℕ) (m : Moment) (end : Journals) (ingress : ℕ) (key : FlowKey) (to : Option ℕ) (seen cut : ℕ) : Type 0 where
  pub flows : List Flow
  pub at : IsAtVersion opened (changes_of_key opened end key) key seen flows
  pub sends : Route opened.size.nodes flows key to
  pub phase : IsOfPhase opened m.start end key seen
  pub cut_is : IsNextCut (changes_of_key opened end key) (home_of_key opened key) seen
      (m.tables (m.packets % lanes) ingress (owner_of_group opened (home_of_key opened key))) cut

-- the node answers by a version of this phase, no older than the lane had seen in its FIB
pub record IsAnswered (opened : ClusterOpening) (lanes : ℕ) (m : Moment) (end : Journals) (key : FlowKey) (node fib cut : ℕ) (said : Option Record) : Type 0 where
  pub flows : List Flow
  pub at : IsAtVersion opened (changes_of_key opened end key) key fib flows
  pub answers : Answer flows node key said
  pub phase : IsOfPhase opened m.start end key fib
  pub cut_is : IsNextCut (changes_of_key opened end key) (home_of_key opened key) fib
      (m.fibs (m.packets % lanes) node (owner_of_group opened (home_of_key opened key))) cut

-- the moment after a packet whose reply moved these cuts
abbrev pub after_seen : ClusterOpening → (lanes : ℕ) → Moment → (ingress : ℕ) → FlowKey → (cut : ℕ) → Moment
after_seen opened lanes m ingress key cut =
    record m {
      packets = m.packets + 1;
      tables = with_cut m.tables (m.packets % lanes) ingress (owner_of_group opened (home_of_key opened key)) cut;
    }

abbrev pub after_answered : ClusterOpening → (lanes : ℕ) → Moment → (ingress node : ℕ) → FlowKey → (cut fib_cut : ℕ) → Moment
after_answered opened lanes m ingress node key cut fib_cut =
    let seen = after_seen opened lanes m ingress key cut in
    record seen { fibs = with_cut m.fibs (m.packets % lanes) node (owner_of_group opened (home_of_key opened key)) fib_cut }

-- the reply is a path of the packet at this moment, and the rest goes on from the moment after it
abbrev pub PathThen : ClusterOpening → (lanes : ℕ) → Moment → Journals → (ingress : ℕ) → FlowKey → Reply → (Moment → Type 0) → Type 0
PathThen opened lanes m end ingress key (Found node seen fib info) Rest =
    (cut fib_cut : ℕ) × IsSeen opened lanes m end ingress key (Some node) seen cut
    × IsAnswered opened lanes m end key node fib fib_cut (Some info) × Rest (after_answered opened lanes m ingress node key cut fib_cut)
PathThen opened lanes m end ingress key (Unknown node seen fib) Rest =
    (cut fib_cut : ℕ) × IsSeen opened lanes m end ingress key (Some node) seen cut
    × IsAnswered opened lanes m end key node fib fib_cut None × Rest (after_answered opened lanes m ingress node key cut fib_cut)
PathThen opened lanes m end ingress key (Nowhere seen) Rest =
    (cut : ℕ) × IsSeen opened lanes m end ingress key None seen cut × Rest (after_seen opened lanes m ingress key cut)
PathThen opened lanes m end ingress key _ Rest = ⊥

-- the replies are allowed for the rest of a script from this moment on
abbrev pub AllowedFrom : ClusterOpening → (lanes : ℕ) → Moment → List Event → List Reply → Type 0
AllowedFrom opened lanes m [] [] = Unit {0}
AllowedFrom opened lanes m (Set flow ∷ script) (reply ∷ replies) =
    (reply ≡ update_reply opened m.now (update.Set flow))
    × AllowedFrom opened lanes (record m { now = after_update opened m.now (update.Set flow) }) script replies
AllowedFrom opened lanes m (Del key ∷ script) (reply ∷ replies) =
    (reply ≡ update_reply opened m.now (update.Del key))
    × AllowedFrom opened lanes (record m { now = after_update opened m.now (update.Del key) }) script replies
AllowedFrom opened lanes m (Packet ingress key ∷ script) (reply ∷ replies) =
    PathThen opened lanes m (phase_end opened m.now script) ingress key reply (λ (next : Moment). AllowedFrom opened lanes next script replies)
AllowedFrom opened lanes m (Carry node owner turn part ∷ script) (reply ∷ replies) =
    (reply ≡ carry_reply (length (journal_of m.now owner)) (turns_taken part m.nodes node owner) turn)
    × AllowedFrom opened lanes (record m { nodes = after_carry m.now m.nodes node owner turn part }) script replies
AllowedFrom opened lanes m (Sync ∷ script) (reply ∷ replies) =
    (reply ≡ Synced) × AllowedFrom opened lanes (record m { start = m.now; nodes = after_sync m.now m.nodes }) script replies
AllowedFrom opened lanes m _ _ = ⊥

-- the moment before the first event
abbrev pub beginning : ClusterOpening → Moment
beginning opened = record {
  packets = 0;
  start = replicate opened.size.nodes [];
  now = replicate opened.size.nodes [];
  nodes = replicate opened.size.nodes (fresh_node opened.size.nodes);
  tables = no_cuts;
  fibs = no_cuts;
}

-- the replies are allowed for the script, in a run with this number of lanes over this opening
abbrev pub Allowed : ClusterOpening → (lanes : ℕ) → List Event → List Reply → Type 0
Allowed opened lanes script replies = AllowedFrom opened lanes (beginning opened) script replies
