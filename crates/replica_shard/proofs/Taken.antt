-- A shard after one more record.
use Rattle.std.proofs.Common.{◌≡◌, ◌∙◌, ◌+◌, Bool, true, false, List, [], ◌∷◌, ◌++◌, length, Option, Some, refl, ap, append-nil, length-append}
use Rattle.std.specs.Prelude.{if◌then◌else◌}
use Rattle.group_search.specs.declared.published.Publication.{Publication}
use Rattle.group_search.specs.declared.record.GroupRecord.{GroupRecord}
use Rattle.group_search.specs.Home.{Home, is_home}
use Rattle.group_search.specs.Published.{records_of}
use Rattle.group_cell.proofs.Versions.{records_of-append}
use Rattle.delta_codec.specs.declared.message.TableMessage.{TableMessage}
use Rattle.replica_shard.specs.Owners.{publication_of}
use Rattle.replica_shard.specs.Shard.{group_told, with_content}
use Rattle.replica_shard.specs.Store.{ShardStore, image_in, last_or, record_shown, shard_state_of}

last_of_more : (before : Option GroupRecord) (records : List GroupRecord) (content : GroupRecord) → last_or before (records ++ content ∷ []) ≡ Some content
last_of_more before [] content = refl
last_of_more before (first ∷ records) content = last_of_more (Some first) records content

record_by : (before : Option GroupRecord) (records : List GroupRecord) (content : GroupRecord) (here : Bool)
    → last_or before (records ++ (if here then content ∷ [] else [])) ≡ (if here then Some content else last_or before records)
record_by before records content true = last_of_more before records content
record_by before records content false = ap (last_or before) (append-nil records)

count_by_case : (records : List GroupRecord) (content : GroupRecord) (here : Bool)
    → length (records ++ (if here then content ∷ [] else [])) ≡ (if here then length records + 1 else length records)
count_by_case records content true = length-append records (content ∷ [])
count_by_case records content false = ap length (append-nil records)

module _ (shard : ShardStore) (message : TableMessage) where
  abbrev more : List Publication
  more = shard.list ++ publication_of message ∷ []

  records_more : (at : Home) → records_of more at ≡ records_of shard.list at ++ (if is_home (group_told message) at then message.content ∷ [] else [])
  records_more at = records_of-append shard.list (publication_of message ∷ []) at

  -- a shard with the message's record last in its list has taken the message's turn
  pub with_one_more : shard_state_of (record shard { list = more }) ≡ with_content (shard_state_of shard) message
  with_one_more = λ i. record {
    size = shard.size;
    owner = shard.owner;
    choices = (shard_state_of shard).choices;
    records = λ (at : Home).
        (ap (last_or (record_shown (image_in shard at.block) at.group)) (records_more at)
        ∙ record_by (record_shown (image_in shard at.block) at.group) (records_of shard.list at) message.content (is_home (group_told message) at)) i;
    versions = λ (at : Home).
        (ap length (records_more at) ∙ count_by_case (records_of shard.list at) message.content (is_home (group_told message) at)) i;
    taken = length-append shard.list (publication_of message ∷ []) i;
  }
