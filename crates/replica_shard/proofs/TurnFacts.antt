-- A shard from turn to turn.
use Rattle.std.proofs.Common.{ℕ, suc, ◌≡◌, ◌∙◌, ◌+◌, Bool, true, false, cond, List, [], ◌∷◌, ◌++◌, length, take, get_or, Option, Some, None, refl, sym, ap, subst, arith, length-append}
use Rattle.std.specs.Prelude.{All, fold}
use Rattle.std.specs.List.{slice_get}
use Rattle.std.proofs.lemmas.Bool.{and_from, and_parts, cond-true, eq-eqb, eqb-true, lt-ltb}
use Rattle.std.proofs.lemmas.List.{take_more}
use Rattle.std.proofs.lemmas.Option.{get_or_from_slice_get, slice_get_within}
use Rattle.flow_types.specs.declared.record.Flow.{Flow}
use Rattle.flow_types.specs.Size.{Size}
use Rattle.group_search.specs.declared.record.GroupRecord.{GroupRecord}
use Rattle.group_search.specs.Home.{Home, is_home, opening}
use Rattle.group_search.specs.Records.{content_of}
use Rattle.group_history.specs.declared.change.Change.{Change}
use Rattle.group_history.specs.Change.{changed_group, concerns}
use Rattle.group_history.specs.Journal.{change_count, with_next_version}
use Rattle.group_history.proofs.Versions.{count_other, count_own, now_other}
use Rattle.group_history.specs.History.{content_after}
use Rattle.delta_codec.specs.declared.message.TableMessage.{TableMessage}
use Rattle.delta_codec.specs.Messages.{IsTableMessage, IsTableMessageOf}
use Rattle.replica_shard.specs.Shard.{ShardState, group_told, is_owned_group, shard_after, with_content, with_group_record}
use Rattle.delta_codec.specs.Journals.{IsOfOwner}
use Rattle.replica_shard.specs.Turns.{AreTableMessagesOf}

-- groups of one number of one block are one group
pub one_home : (a b : Home) → is_home a b ≡ true → a ≡ b
one_home a b e =
    let parts = and_parts _ _ e in
    λ i. record { block = eqb-true a.block b.block parts.0 i; group = eqb-true a.group b.group parts.1 i }

-- a group of a block of the owner is the owner's
pub owned_group : (size : Size) (owner : ℕ) (change : Change) → IsOfOwner size owner change → is_owned_group size owner (changed_group change) ≡ true
owned_group size owner change own = and_from _ _ (and_from _ _ (lt-ltb _ _ own.within) (eq-eqb _ _ own.owned)) (lt-ltb _ _ own.in_block)

-- ---- one more turn

module _ (size : Size) (owner : ℕ) (flows : List Flow) (before : List Change) (change : Change) (message : TableMessage)
    (is : IsTableMessage size owner flows before change message) (own : IsOfOwner size owner change) where
  abbrev after : List Change
  after = before ++ change ∷ []

  told : group_told message ≡ changed_group change
  told = λ i. record { block = is.of_block i; group = is.of_group i }

  abbrev record_at : List Change → Home → Option GroupRecord
  record_at changes at = cond (is_owned_group size owner at) (content_after size flows changes at) None

  record_goes_on : (at : Home) (here : Bool) → concerns at change ≡ here → cond here (Some message.content) (record_at before at) ≡ record_at after at
  record_goes_on at true e =
      sym (ap (record_at after) (sym (one_home (changed_group change) at e))
      ∙ cond-true _ (content_after size flows after (changed_group change)) None (owned_group size owner change own)
      ∙ is.canonical)
  record_goes_on at false e =
      ap (λ (map : List Flow). cond (is_owned_group size owner at) (content_of size.nodes map) None) (sym (now_other at (opening size.blocks flows at) before change e))

  version_goes_on : (at : Home) (here : Bool) → concerns at change ≡ here → cond here (change_count at before + 1) (change_count at before) ≡ change_count at after
  version_goes_on at true e = sym (count_own at before change e)
  version_goes_on at false e = sym (count_other at before change e)

  new_record : (at : Home) → with_group_record (record_at before) (group_told message) message.content at ≡ record_at after at
  new_record at = ap (λ (group : Home). with_group_record (record_at before) group message.content at) told ∙ record_goes_on at _ refl

  new_version : (at : Home) → with_next_version (λ (group : Home). change_count group before) (group_told message) at ≡ change_count at after
  new_version at = ap (λ (group : Home). with_next_version (λ (asked : Home). change_count asked before) group at) told ∙ version_goes_on at _ refl

  counted : length before + 1 ≡ length after
  counted = sym (length-append before (change ∷ []))

  pub goes_on : with_content (shard_after size owner flows before) message ≡ shard_after size owner flows (before ++ change ∷ [])
  goes_on = λ i. record {
    size = size;
    owner = owner;
    choices = (shard_after size owner flows before).choices;
    records = λ at. new_record at i;
    versions = λ at. new_version at i;
    taken = counted i;
  }

-- ---- many turns

module _ (size : Size) (owner : ℕ) (flows : List Flow) (changes : List Change) where
  -- one more change of an owner
  one_more : (before : ℕ) (change : Change) → slice_get changes before ≡ Some change → take before changes ++ change ∷ [] ≡ take (before + 1) changes
  one_more before change there =
      ap (λ (last : Change). take before changes ++ last ∷ []) (sym (get_or_from_slice_get changes before change change there))
      ∙ sym (take_more changes before change (slice_get_within changes before change there))

  -- the message of its next turn makes of a shard after turns the shard after one more
  pub next_turn : (turn : ℕ) (message : TableMessage) → All (IsOfOwner size owner) changes → IsTableMessageOf size owner flows changes (turn + 1) message
      → with_content (shard_after size owner flows (take turn changes)) message ≡ shard_after size owner flows (take (turn + 1) changes)
  next_turn turn message own of =
      let place : turn ≡ of.before = omega (arith, of.numbered) in
      let read : get_or changes of.before of.change ≡ of.change = get_or_from_slice_get changes of.before of.change of.change of.there in
      let owned : IsOfOwner size owner of.change =
      subst (IsOfOwner size owner) read (own of.before of.change (slice_get_within changes of.before of.change of.there)) in
      ap (λ (n : ℕ). with_content (shard_after size owner flows (take n changes)) message) place
      ∙ goes_on size owner flows (take of.before changes) of.change message of.says owned
      ∙ ap (shard_after size owner flows) (one_more of.before of.change of.there)
      ∙ ap (λ (n : ℕ). shard_after size owner flows (take (n + 1) changes)) (sym place)

  turns_from : (turn : ℕ) (messages : List TableMessage) → All (IsOfOwner size owner) changes
      → ((i : ℕ) (message : TableMessage) → slice_get messages i ≡ Some message → IsTableMessageOf size owner flows changes (turn + i + 1) message)
      → fold with_content (shard_after size owner flows (take turn changes)) messages ≡ shard_after size owner flows (take (turn + length messages) changes)
  turns_from turn [] own of = ap (λ (n : ℕ). shard_after size owner flows (take n changes)) (omega arith)
  turns_from turn (message ∷ messages) own of =
      let first : IsTableMessageOf size owner flows changes (turn + 1) message =
      subst (λ (n : ℕ). IsTableMessageOf size owner flows changes n message) (omega arith) (of 0 message refl) in
      ap (λ (shard : ShardState). fold with_content shard messages) (next_turn turn message own first)
      ∙ turns_from (turn + 1) messages own
      (λ i later there. subst (λ (n : ℕ). IsTableMessageOf size owner flows changes n later) (omega arith) (of (suc i) later there))
      ∙ ap (λ (n : ℕ). shard_after size owner flows (take n changes)) (omega arith)

  pub turns_make : (messages : List TableMessage) → All (IsOfOwner size owner) changes → AreTableMessagesOf size owner flows changes messages
      → fold with_content (shard_after size owner flows []) messages ≡ shard_after size owner flows (take (length messages) changes)
  turns_make messages own of =
      turns_from 0 messages own (λ i message there. subst (λ (n : ℕ). IsTableMessageOf size owner flows changes n message) (omega arith) (of i message there))
      ∙ ap (λ (n : ℕ). shard_after size owner flows (take n changes)) (omega arith)
