-- What a table keeps of a block.
use Rattle.std.specs.Prelude.{ℕ, List}
use Rattle.group_search.specs.declared.record.GroupRecord.{GroupRecord}

-- what a contract sees of a block's image: the choice of each bucket, and the record of each group
pub record Image : Type 0 where
  pub choices : List ℕ
  pub records : List GroupRecord
