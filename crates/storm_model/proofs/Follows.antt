-- One more turn at a table and at a FIB.
use Rattle.std.proofs.Common.{◌≡◌, ◌∙◌, ◌+◌, ◌<◌, ◌≤◌, ℕ, zero, suc, List, [], ◌∷◌, ◌++◌, length, take, refl, sym, ap, arith, subst, length-append, append_assoc, append-nil, ⊎_elim, inl, inr, ◌⊎◌}
use Rattle.std.proofs.lemmas.Bool.{cases_lt, le-ltb, lt-ltb}
use Rattle.std.proofs.lemmas.List.{take-append-le, take_all}
use Rattle.flow_types.specs.declared.record.Flow.{Flow}
use Rattle.flow_types.specs.Size.{Size, owners_in}
use Rattle.group_search.specs.declared.published.Publication.{Publication}
use Rattle.group_history.specs.declared.change.Change.{Change}
use Rattle.delta_codec.specs.declared.message.FibMessage.{FibMessage}
use Rattle.delta_codec.specs.declared.message.TableMessage.{TableMessage}
use Rattle.delta_codec.specs.Messages.{IsTableMessage, message_after, messages_after}
use Rattle.replica_shard.specs.Owners.{publication_of}
use Rattle.replica_shard.specs.Shard.{ShardState, shard_after, with_content}
use Rattle.replica_shard.specs.Store.{ShardStore, shard_state_of}
use Rattle.delta_codec.specs.Journals.{IsOfOwner, IsJournalOf}
use Rattle.replica_shard.proofs.TurnFacts.{goes_on}
use Rattle.storm_model.specs.Follows.{AreOpenedParts, FibFollows, HaveTaken, TableFollows}
use Rattle.partial_fib.specs.Fib.{fib_after}
use Rattle.partial_fib.specs.Store.{state_of}
use Rattle.packet_reader.specs.declared.event.Part.{Part}
use Rattle.packet_reader.specs.declared.event.Part.TheVariants.{Table, Fib}
use Rattle.run_model.specs.State.{Journals, ClusterOpening, journal_of}
use Rattle.storm_model.specs.Lists.{AreTurns, Lists, Parts, stood_at, with_list}
use Rattle.storm_model.specs.Run.{AreJournals}
use Rattle.storm_model.specs.Stood.{all_seen}

module _ (size : Size) (owner : ℕ) (flows : List Flow) where
  pub table-first : (table : ShardStore) → shard_state_of (with_list table []) ≡ shard_after size owner flows [] → TableFollows size owner flows table [] []
  table-first table opened = record { many = refl; each = each }
    where
      each : (turns : ℕ) → shard_state_of (with_list table (take turns [])) ≡ shard_after size owner flows (take turns [])
      each zero = opened
      each (suc turns) = opened

  module _ (table : ShardStore) (list : List Publication) (changes : List Change) (follows : TableFollows size owner flows table list changes) (change : Change)
      (message : TableMessage) (is : IsTableMessage size owner flows changes change message) (own : IsOfOwner size owner change) (after : List Publication)
      (listed : after ≡ list ++ publication_of message ∷ [])
      (taken : shard_state_of (with_list table after) ≡ with_content (shard_state_of (with_list table list)) message) where
    whole : shard_state_of (with_list table list) ≡ shard_after size owner flows changes
    whole =
        ap (λ (ps : List Publication). shard_state_of (with_list table ps)) (sym (take_all (length list) list (omega arith)))
        ∙ follows.each (length list)
        ∙ ap (shard_after size owner flows) (take_all (length list) changes (omega (arith, follows.many)))

    new : shard_state_of (with_list table after) ≡ shard_after size owner flows (changes ++ change ∷ [])
    new = taken ∙ ap (λ (s : ShardState). with_content s message) whole ∙ goes_on size owner flows changes change message is own

    count : length after ≡ length list + 1
    count = ap length listed ∙ length-append list (publication_of message ∷ [])

    pub table-step : TableFollows size owner flows table after (changes ++ change ∷ [])
    table-step = record {
      many = omega (arith, count, follows.many, length-append changes (change ∷ []));
      each = λ turns.
          ⊎_elim
          (λ (past : length list < turns).
          ap (λ (ps : List Publication). shard_state_of (with_list table ps)) (take_all turns after (omega (arith, count, past)))
          ∙ new
          ∙ ap (shard_after size owner flows) (sym (take_all turns (changes ++ change ∷ []) (omega (arith, follows.many, past, length-append changes (change ∷ []))))))
          (λ (within : turns ≤ length list).
          ap (λ (ps : List Publication). shard_state_of (with_list table (take turns ps))) listed
          ∙ ap (λ (ps : List Publication). shard_state_of (with_list table ps)) (take-append-le turns list (publication_of message ∷ []) within)
          ∙ follows.each turns
          ∙ ap (shard_after size owner flows) (sym (take-append-le turns changes (change ∷ []) (omega (arith, follows.many, within)))))
          (cases_lt (length list) turns);
    }

module _ (size : Size) (node owner : ℕ) (flows : List Flow) where
  messages-more : (before later : List Change) (change : Change)
      → messages_after size node owner flows before (later ++ change ∷ []) ≡ messages_after size node owner flows before later ++ message_after size node owner flows (before ++ later) change ∷ []
  unfolding messages_after
  messages-more before [] change = ap (λ (b : List Change). message_after size node owner flows b change ∷ []) (sym (append-nil before))
  messages-more before (first ∷ later) change =
      ap (λ (ms : List FibMessage). message_after size node owner flows before first ∷ ms)
      (messages-more (before ++ first ∷ []) later change
      ∙ ap (λ (b : List Change). messages_after size node owner flows (before ++ first ∷ []) later ++ message_after size node owner flows b change ∷ []) (append_assoc before (first ∷ []) later))

  pub fib-step : (turns after : List FibMessage) (changes : List Change) (change : Change) → FibFollows size node owner flows turns changes
      → after ≡ turns ++ message_after size node owner flows changes change ∷ [] → FibFollows size node owner flows after (changes ++ change ∷ [])
  fib-step turns after changes change follows is =
      is ∙ ap (λ (ts : List FibMessage). ts ++ message_after size node owner flows changes change ∷ []) follows ∙ sym (messages-more [] changes change)

-- ---- all tables and FIBs

-- whose readers have seen just what the tables and FIBs have taken, has seen all turns
module _ (opened : ClusterOpening) (parts : Parts) (journals : Journals) (lists : Lists)
    (own : (owner : ℕ) → owner < owners_in opened.size → IsJournalOf opened.size owner opened.flows (journal_of journals owner))
    (none : (owner : ℕ) → owners_in opened.size ≤ owner → journal_of journals owner ≡ [])
    (tables : (node owner : ℕ) → node < opened.size.nodes → owner < owners_in opened.size
    → TableFollows opened.size owner opened.flows (parts.tables node owner) (lists.tables node owner) (journal_of journals owner))
    (fibs : (node owner : ℕ) → node < opened.size.nodes → owner < owners_in opened.size
    → FibFollows opened.size node owner opened.flows (lists.fibs node owner) (journal_of journals owner))
    (unturned : (node owner : ℕ) → node < opened.size.nodes → owner < owners_in opened.size → state_of (parts.fibs node owner) ≡ fib_after opened.size node owner opened.flows [])
    (no_tables : (node owner : ℕ) → (opened.size.nodes ≤ node) ⊎ (owners_in opened.size ≤ owner) → lists.tables node owner ≡ [])
    (no_fibs : (node owner : ℕ) → (opened.size.nodes ≤ node) ⊎ (owners_in opened.size ≤ owner) → lists.fibs node owner ≡ []) where
  seen-there : (part : Part) (node owner : ℕ) → node < opened.size.nodes → all_seen opened journals part node owner ≡ length (journal_of journals owner)
  seen-there part node owner low = rw (lt-ltb node opened.size.nodes low) refl

  seen-past : (part : Part) (node owner : ℕ) → opened.size.nodes ≤ node → all_seen opened journals part node owner ≡ 0
  seen-past part node owner past = rw (le-ltb node opened.size.nodes past) refl

  seen-none : (part : Part) (node owner : ℕ) → (opened.size.nodes ≤ node) ⊎ (owners_in opened.size ≤ owner) → all_seen opened journals part node owner ≡ 0
  seen-none part node owner either =
      ⊎_elim
      (λ (low : node < opened.size.nodes).
      ⊎_elim
      (λ (past : opened.size.nodes ≤ node). seen-past part node owner past)
      (λ (past : owners_in opened.size ≤ owner). seen-there part node owner low ∙ ap length (none owner past))
      either)
      (λ (past : opened.size.nodes ≤ node). seen-past part node owner past)
      (cases_lt node opened.size.nodes)

  fib-many : (size : Size) (node owner : ℕ) (flows : List Flow) (before changes : List Change) → length (messages_after size node owner flows before changes) ≡ length changes
  unfolding messages_after
  fib-many size node owner flows before [] = refl
  fib-many size node owner flows before (change ∷ changes) = ap suc (fib-many size node owner flows (before ++ change ∷ []) changes)

  many : (part : Part) (node owner : ℕ) → stood_at lists part node owner ≡ all_seen opened journals part node owner
  many part node owner =
      ⊎_elim
      (λ (low : node < opened.size.nodes).
      ⊎_elim
      (λ (has : owner < owners_in opened.size). here part low has ∙ sym (seen-there part node owner low))
      (λ (past : owners_in opened.size ≤ owner). empty part (inr past) ∙ sym (seen-none part node owner (inr past)))
      (cases_lt owner (owners_in opened.size)))
      (λ (past : opened.size.nodes ≤ node). empty part (inl past) ∙ sym (seen-none part node owner (inl past)))
      (cases_lt node opened.size.nodes)
    where
      here : (part : Part) → node < opened.size.nodes → owner < owners_in opened.size → stood_at lists part node owner ≡ length (journal_of journals owner)
      here Table low has = (tables node owner low has).many
      here Fib low has = ap length (fibs node owner low has) ∙ fib-many opened.size node owner opened.flows [] (journal_of journals owner)

      empty : (part : Part) → (opened.size.nodes ≤ node) ⊎ (owners_in opened.size ≤ owner) → stood_at lists part node owner ≡ 0
      empty Table either = ap length (no_tables node owner either)
      empty Fib either = ap length (no_fibs node owner either)

  pub are-turns : AreTurns opened parts journals lists
  are-turns = record {
    own = own;
    tables = λ node owner low has turns. (tables node owner low has).each turns;
    fibs = fibs;
    unturned = unturned;
    tables_many = many Table;
    fibs_many = many Fib;
  }

-- the same, where all is said in records
pub taken-are-turns : (opened : ClusterOpening) (parts : Parts) (journals : Journals) (lists : Lists) → AreJournals opened journals → AreOpenedParts opened parts
    → HaveTaken opened parts journals lists → AreTurns opened parts journals lists
taken-are-turns opened parts journals lists are opens taken =
    are-turns opened parts journals lists are.own are.none taken.tables taken.fibs opens.fibs taken.no_tables taken.no_fibs

-- before any turn
pub nothing-taken : (opened : ClusterOpening) (parts : Parts) (journals : Journals) (lists : Lists) → AreOpenedParts opened parts
    → ((owner : ℕ) → journal_of journals owner ≡ []) → ((node owner : ℕ) → lists.tables node owner ≡ []) → ((node owner : ℕ) → lists.fibs node owner ≡ [])
    → HaveTaken opened parts journals lists
unfolding messages_after
nothing-taken opened parts journals lists opens none no_tables no_fibs = record {
  tables = λ node owner low has.
      subst (λ (p : List Publication × List Change). TableFollows opened.size owner opened.flows (parts.tables node owner) p.0 p.1)
      (λ i. (sym (no_tables node owner) i, sym (none owner) i))
      (table-first opened.size owner opened.flows (parts.tables node owner) (opens.tables node owner low has));
  fibs = λ node owner low has. no_fibs node owner ∙ ap (messages_after opened.size node owner opened.flows []) (sym (none owner));
  no_tables = λ node owner past. no_tables node owner;
  no_fibs = λ node owner past. no_fibs node owner;
}
