-- A new link, and those before it.
use Rattle.std.proofs.Common.{◌≡◌, ◌∙◌, ℕ, zero, suc, ◌+◌, ◌<◌, List, [], ◌∷◌, ◌++◌, length, take, set, Some, Ok, Err, refl, sym, ap, subst, arith, append_assoc, append-nil, length-append}
use Rattle.std.specs.Prelude.{OnOk, Result}
use Rattle.std.specs.List.{slice_get}
use Rattle.flow_types.specs.declared.record.Flow.{Flow}
use Rattle.flow_types.specs.Size.{Size}
use Rattle.group_search.specs.declared.published.Publication.{Publication}
use Rattle.group_history.specs.declared.change.Change.{Change}
use Rattle.delta_codec.specs.declared.message.FibMessage.{FibMessage}
use Rattle.delta_codec.specs.declared.message.Message.{Message}
use Rattle.replica_shard.specs.Seats.{shard_at}
use Rattle.replica_shard.specs.Shard.{shard_after}
use Rattle.replica_shard.specs.Store.{shard_state_of}
use Rattle.delta_codec.specs.Messages.{messages_after}
use Rattle.node_link.specs.Ends.{End}
use Rattle.storm_model.specs.Follows.{FibFollows, TableFollows}
use Rattle.turn_relay.specs.declared.state.State.{State}
use Rattle.turn_relay.specs.Each.{AllFrom, Each, Every, HasAt}
use Rattle.turn_relay.specs.Finish.{IsAtRest, IsAtRestAt, IsQuiet, IsQuietAt}
use Rattle.turn_relay.specs.Follow.{Follow}
use Rattle.turn_relay.specs.Linking.{AreFresh, HasMoreEnds, IsExtended, IsFresh, IsFreshAt, IsUnsent, KeepsOthers, KeepsTurns, LinksNode, LinksOne, LinksPart}
use Rattle.turn_relay.specs.OwnerState.{HasSentAll, OwnerState, journal_in}
use Rattle.turn_relay.specs.PartState.{ApplierState, PartState, taken_by}
use Rattle.turn_relay.specs.Sent.{AreSent}
use Rattle.turn_relay.proofs.Places.{set_others, set_there}
use Rattle.turn_relay.proofs.Resting.{one_place}
use Rattle.turn_relay.proofs.Sends.{stays}

last_there : {A : Type 0} (xs : List A) (x : A) → slice_get (xs ++ x ∷ []) (length xs) ≡ Some x
last_there [] x = refl
last_there (first ∷ xs) x = last_there xs x

-- ---- what stands before the first turn

opened_table : (size : Size) (owner : ℕ) (flows : List Flow) (part : PartState) → shard_state_of (shard_at part.table.shard []) ≡ shard_after size owner flows []
    → TableFollows size owner flows (shard_at part.table.shard []) [] []
opened_table size owner flows part opened = record { many = refl; each = each }
  where
    each : (turns : ℕ) → shard_state_of (shard_at part.table.shard (take turns [])) ≡ shard_after size owner flows (take turns [])
    each zero = opened
    each (suc turns) = opened

opened_fib : (size : Size) (node owner : ℕ) (flows : List Flow) → FibFollows size node owner flows [] []
unfolding messages_after
opened_fib size node owner flows = refl

-- nothing was sent of a journal without changes
pub unsent : (size : Size) (owner node : ℕ) (flows : List Flow) (changes : List Change) (messages : List Message) → changes ≡ [] → messages ≡ []
    → AreSent size owner node flows changes (length changes) messages
unsent size owner node flows changes messages none empty =
    subst (λ (cs : List Change). AreSent size owner node flows cs (length cs) messages) (sym none)
    (subst (λ (ms : List Message). AreSent size owner node flows [] 0 ms) (sym empty)
    (record { tables = λ i message there. absurd (cc there); fibs = λ i message there. absurd (cc there); all_tables = refl; all_fibs = refl }))

unsent_from : (size : Size) (owner : ℕ) (flows : List Flow) (changes : List Change) (node : ℕ) (ends : List End) → changes ≡ [] → Every IsUnsent ends
    → AllFrom (λ (n : ℕ) (end : End). AreSent size owner n flows changes (length changes) end.messages) node ends
unsent_from size owner flows changes node [] none all = tt
unsent_from size owner flows changes node (end ∷ ends) none all = (unsent size owner node flows changes end.messages none all.0, unsent_from size owner flows changes (node + 1) ends none all.1)

pub all_unsent : (flows : List Flow) (before owner : OwnerState) → journal_in before ≡ [] → HasMoreEnds before owner → Every IsUnsent owner.ends → HasSentAll flows owner
all_unsent flows before owner none more all =
    unsent_from owner.size owner.number flows (journal_in owner) 0 owner.ends (ap (λ (o : OwnerState). journal_in o) more.after_is ∙ none) all

-- ---- a part

module _ (flows : List Flow) (owner : OwnerState) (new : journal_in owner ≡ []) (node : ℕ) (before : PartState) (fresh : IsFresh owner.size flows node owner.number before) where
  table_now : TableFollows owner.size owner.number flows (shard_at before.table.shard []) before.table.list (journal_in owner)
  table_now =
      subst (λ (p : List Publication × List Change). TableFollows owner.size owner.number flows (shard_at before.table.shard []) p.0 p.1) (λ i. (sym fresh.list i, sym new i))
      (opened_table owner.size owner.number flows before fresh.of.table)

  fib_now : FibFollows owner.size node owner.number flows before.fib.turns (journal_in owner)
  fib_now =
      subst (λ (p : List FibMessage × List Change). FibFollows owner.size node owner.number flows p.0 p.1) (λ i. (sym fresh.turns i, sym new i))
      (opened_fib owner.size node owner.number flows)

  follows_none : (messages : List Message) → messages ≡ [] → Follow before.table before.fib messages before.state
  follows_none messages none = subst (λ (p : State × List Message). Follow before.table before.fib p.1 p.0) (λ i. (sym fresh.clear i, sym none i)) (fresh.list, fresh.turns)

  -- it is linked
  module _ (end : End) (end_there : slice_get owner.ends node ≡ Some end) (none : end.messages ≡ []) (after : PartState) (links : LinksPart end before after) where
    rests_new : IsAtRest flows node owner after
    rests_new = subst (IsAtRest flows node owner) (sym links.after_is) (record {
      of = record { sized = fresh.of.sized; numbered = fresh.of.numbered; table = fresh.of.table; fib = fresh.of.fib };
      settled = record {
        linked = record { end = end; there = end_there; size = fresh.of.sized; link = ap (λ line. Some line) links.line };
        all = links.none ∙ sym none;
      };
      follows = follows_none links.taker.messages links.none;
      clear = fresh.clear;
      current = record { table = table_now; fib = fib_now };
    })

  -- or the owner has no links
  quiet_new : owner.ends ≡ [] → 0 < owner.size.nodes → IsQuiet flows node owner before
  quiet_new unlinked some = record {
    of = fresh.of;
    settled = λ links. absurd (let many : length owner.ends ≡ 0 = ap length unlinked in omega (arith, links, many, some));
    follows = follows_none (taken_by before.end) (ap taken_by fresh.unlinked);
    clear = fresh.clear;
    current = record { table = table_now; fib = fib_now };
  }

-- at all nodes
pub quiet_nodes : (flows : List Flow) (owner : OwnerState) → journal_in owner ≡ [] → owner.ends ≡ [] → 0 < owner.size.nodes → (first : ℕ) (appliers : List ApplierState)
    → AreFresh flows owner first appliers → Every (IsQuietAt flows owner) appliers
quiet_nodes flows owner new unlinked some first [] fresh = tt
quiet_nodes flows owner new unlinked some first (applier ∷ appliers) fresh = (
  record {
    element = fresh.0.part.element;
    there = fresh.0.part.there;
    holds = subst (λ (node : ℕ). IsQuiet flows node owner fresh.0.part.element) (sym fresh.0.numbered)
        (quiet_new flows owner new first fresh.0.part.element fresh.0.part.holds unlinked some);
  },
  quiet_nodes flows owner new unlinked some (first + 1) appliers fresh.1,
)

-- it stays so where the owner has more ends
rests_on : (flows : List Flow) (before after : OwnerState) → HasMoreEnds before after → (node : ℕ) (part : PartState) → IsAtRest flows node before part → IsAtRest flows node after part
rests_on flows before after more node part rests =
    subst (λ (o : OwnerState). IsAtRest flows node o part) (sym more.after_is) (record {
      of = rests.of;
      settled = record {
        linked = record {
          end = rests.settled.linked.end;
          there = stays before.ends more.more node rests.settled.linked.end rests.settled.linked.there;
          size = rests.settled.linked.size;
          link = rests.settled.linked.link;
        };
        all = rests.settled.all;
      };
      follows = rests.follows;
      clear = rests.clear;
      current = record { table = rests.current.table; fib = rests.current.fib };
    })

-- ---- a node

extended_more : (before after : OwnerState) → IsExtended before after → HasMoreEnds before after
extended_more before after extended = record { more = extended.end ∷ []; after_is = extended.after_is }

pub more_none : (owner : OwnerState) → HasMoreEnds owner owner
more_none owner = record { more = []; after_is = λ i. record owner { ends = sym (append-nil owner.ends) i } }

pub more_trans : (first between last : OwnerState) → HasMoreEnds first between → HasMoreEnds between last → HasMoreEnds first last
more_trans first between last a b = record {
  more = a.more ++ b.more;
  after_is = b.after_is ∙ ap (λ (o : OwnerState). let r : OwnerState = record o { ends = o.ends ++ b.more } in r) a.after_is
      ∙ (λ i. record first { ends = append_assoc first.ends a.more b.more i });
}

unsent_last : (ends : List End) (end : End) → Every IsUnsent ends → end.messages ≡ [] → Every IsUnsent (ends ++ end ∷ [])
unsent_last [] end all none = (none, tt)
unsent_last (first ∷ ends) end all none = (all.0, unsent_last ends end all.1 none)

fresh_on : (flows : List Flow) (before after : OwnerState) → HasMoreEnds before after → (first : ℕ) (appliers : List ApplierState) → AreFresh flows before first appliers
    → AreFresh flows after first appliers
fresh_on flows before after more first appliers fresh =
    subst (λ (o : OwnerState). AreFresh flows o first appliers) (sym more.after_is) (go first appliers fresh)
  where
    go : (first : ℕ) (appliers : List ApplierState) → AreFresh flows before first appliers → AreFresh flows (record before { ends = before.ends ++ more.more }) first appliers
    go first [] fresh = tt
    go first (applier ∷ appliers) fresh =
        let part = fresh.0.part in (
          record {
            numbered = fresh.0.numbered;
            part = record {
              element = part.element;
              there = part.there;
              holds = record { of = part.holds.of; unlinked = part.holds.unlinked; list = part.holds.list; turns = part.holds.turns; clear = part.holds.clear };
            };
          },
          go (first + 1) appliers fresh.1,
        )

-- the part of the owner that was linked stands where it stood
pub node_links : {A E : Type 0} (before after : OwnerState) (applier : ApplierState) (element part new : PartState) → slice_get applier.parts before.number ≡ Some element
    → part ≡ element → (result : Result A E) → OnOk result (LinksOne before after part new)
    → OnOk result (LinksNode before after applier (record applier { parts = set applier.parts before.number new }))
node_links before after applier element part new there same (Err why) links = tt
node_links before after applier element part new there same (Ok done) links = record {
  extended = links.extended;
  numbered = refl;
  part = record {
    element = element;
    there = there;
    changed = new;
    then = set_there applier.parts before.number element new there;
    others = λ other away. set_others applier.parts before.number other new away;
    holds = subst (λ (p : PartState). LinksPart links.extended.end p new) same links.links;
  };
}

pub fresh_sized : (flows : List Flow) (owner : OwnerState) (node : ℕ) (applier : ApplierState) → IsFreshAt flows owner node applier
    → HasAt owner.number (λ (part : PartState). part.size ≡ owner.size) applier.parts
fresh_sized flows owner node applier fresh = record { element = fresh.part.element; there = fresh.part.there; holds = fresh.part.holds.of.sized }

module _ (before after : OwnerState) (applier linked : ApplierState) (links : LinksNode before after applier linked) where
  pub node_more : HasMoreEnds before after
  node_more = extended_more before after links.extended

  ends_are : after.ends ≡ before.ends ++ links.extended.end ∷ []
  ends_are = ap (λ (o : OwnerState). o.ends) links.extended.after_is

  pub node_count : length after.ends ≡ length before.ends + 1
  node_count = ap length ends_are ∙ length-append before.ends (links.extended.end ∷ [])

  pub node_unsent : Every IsUnsent before.ends → Every IsUnsent after.ends
  node_unsent all = subst (λ (ends : List End). Every IsUnsent ends) (sym ends_are) (unsent_last before.ends links.extended.end all links.extended.none)

  turns_kept : {part new : PartState} → LinksPart links.extended.end part new → KeepsTurns part new
  turns_kept l = record { table = ap (λ (p : PartState). p.table) l.after_is; fib = ap (λ (p : PartState). p.fib) l.after_is }

  pub node_others : KeepsOthers before.number applier linked
  node_others = (
    links.numbered,
    record { element = links.part.element; there = links.part.there; changed = links.part.changed; then = links.part.then; others = links.part.others; holds = turns_kept links.part.holds },
  )

  pub node_rests : (flows : List Flow) → journal_in before ≡ [] → IsFreshAt flows before (length before.ends) applier → IsAtRestAt flows after linked
  node_rests flows new fresh =
      let was : fresh.part.element ≡ links.part.element = one_place applier.parts before.number fresh.part.element links.part.element fresh.part.there links.part.there in
      let now : OwnerState = record before { ends = before.ends ++ links.extended.end ∷ [] } in
      let is_fresh : IsFresh now.size flows (length before.ends) now.number fresh.part.element =
      record { of = fresh.part.holds.of; unlinked = fresh.part.holds.unlinked; list = fresh.part.holds.list; turns = fresh.part.holds.turns; clear = fresh.part.holds.clear } in
      let rests : IsAtRest flows (length before.ends) now links.part.changed =
      rests_new flows now new (length before.ends) fresh.part.element is_fresh links.extended.end (last_there before.ends links.extended.end) links.extended.none links.part.changed
      (subst (λ (p : PartState). LinksPart links.extended.end p links.part.changed) (sym was) links.part.holds) in
      subst (λ (o : OwnerState). IsAtRestAt flows o linked) (sym links.extended.after_is)
      (subst (λ (node : ℕ). HasAt before.number (IsAtRest flows node now) linked.parts) (sym (links.numbered ∙ fresh.numbered))
      (record { element = links.part.changed; there = links.part.then; holds = rests }))

-- ---- all nodes

pub rests_on_at : (flows : List Flow) (before after : OwnerState) → HasMoreEnds before after → (applier : ApplierState) → IsAtRestAt flows before applier → IsAtRestAt flows after applier
rests_on_at flows before after more applier rests =
    let number : after.number ≡ before.number = ap (λ (o : OwnerState). o.number) more.after_is in
    subst (λ (n : ℕ). HasAt n (IsAtRest flows applier.node after) applier.parts) (sym number)
    (record { element = rests.element; there = rests.there; holds = rests_on flows before after more applier.node rests.element rests.holds })

pub fresh_next : (flows : List Flow) (before after : OwnerState) → HasMoreEnds before after → length after.ends ≡ length before.ends + 1 → (appliers : List ApplierState)
    → AreFresh flows before (length before.ends + 1) appliers → AreFresh flows after (length after.ends) appliers
fresh_next flows before after more one appliers fresh =
    subst (λ (n : ℕ). AreFresh flows after n appliers) (sym one) (fresh_on flows before after more (length before.ends + 1) appliers fresh)

pub same_journal : (before after : OwnerState) → HasMoreEnds before after → journal_in before ≡ [] → journal_in after ≡ []
same_journal before after more none = ap (λ (o : OwnerState). journal_in o) more.after_is ∙ none

pub same_nodes : (before after : OwnerState) → HasMoreEnds before after → after.size ≡ before.size
same_nodes before after more = ap (λ (o : OwnerState). o.size) more.after_is

pub keeps_on : (before after : OwnerState) → HasMoreEnds before after → (appliers linked : List ApplierState) → Each (KeepsOthers after.number) appliers linked
    → Each (KeepsOthers before.number) appliers linked
keeps_on before after more appliers linked each =
    subst (λ (n : ℕ). Each (KeepsOthers n) appliers linked) (ap (λ (o : OwnerState). o.number) more.after_is) each

pub ruleset going_on = (fresh_next, same_journal, same_nodes, rests_on_at, more_none, more_trans, keeps_on)

pub ruleset linking = (fresh_sized, node_more, node_count, node_unsent, node_others, node_rests)
