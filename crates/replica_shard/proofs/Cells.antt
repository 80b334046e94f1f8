-- What a shard says by the records of its cells.
use Rattle.std.proofs.Common.{ℕ, ◌≡◌, ◌≢◌, ◌∙◌, ◌+◌, ◌*◌, ◌/◌, ◌%◌, ◌<◌, ◌≤◌, Bool, ◌&&◌, List, [], ◌∷◌, length, map, get_or, Option, Some, refl, sym, ap, ⊎_elim, arith}
use Rattle.std.specs.Prelude.{◌==◌, if◌then◌else◌}
use Rattle.std.proofs.lemmas.Bool.{cases_eq, eq-eqb, ne_eqb}
use Rattle.std.proofs.lemmas.List.{get_or-map}
use Rattle.std.proofs.lemmas.Option.{slice_get-get_or}
use Rattle.flow_types.specs.declared.key.FlowKey.{FlowKey}
use Rattle.flow_types.specs.Size.{Size}
use Rattle.hash_family.specs.declared.bucket.Place.{Place}
use Rattle.group_search.specs.declared.published.Publication.{Publication}
use Rattle.group_search.specs.declared.record.GroupRecord.{GroupRecord}
use Rattle.group_search.specs.declared.record.GroupRecord.TheVariants.{Served}
use Rattle.group_search.specs.Decoding.{decode, decoded}
use Rattle.group_search.specs.Home.{Home, is_home}
use Rattle.group_search.specs.Image.{Image}
use Rattle.group_search.specs.Published.{count, opening_record, published_group, record_at, records_of}
use Rattle.group_cell.specs.Opening.{HaveAllGroups, Opened}
use Rattle.group_cell.specs.Rule.{latest}
use Rattle.group_cell.specs.Seats.{node_at_version}
use Rattle.replica_shard.specs.Owners.{AreOwnersCells, cell_of, in_cluster}
use Rattle.replica_shard.specs.Shard.{home_in_state, route_in_state}
use Rattle.replica_shard.specs.Store.{ShardStore, choices_shown, image_in, last_or, record_shown, shard_state_of}
use Rattle.replica_shard.proofs.OwnedBlocks.{its_place, one_place, owned_block, place_within}

abbrev pub no_image : Image
no_image = record { choices = []; records = [] }

-- ---- lists by the cluster's blocks

module _ (nodes owner : ℕ) (some : 1 ≤ nodes) where
  same_block : (place block : ℕ) → block % nodes ≡ owner → (owner + nodes * place == block) ≡ (place == block / nodes)
  same_block place block own =
      ⊎_elim
      (λ (here : place ≡ block / nodes).
      eq-eqb (owner + nodes * place) block (ap (λ (n : ℕ). owner + nodes * n) here ∙ its_place nodes owner block some own) ∙ sym (eq-eqb place (block / nodes) here))
      (λ (other : place ≢ block / nodes).
      ne_eqb (owner + nodes * place) block (λ (same : owner + nodes * place ≡ block). other (one_place nodes owner block place some own same))
      ∙ sym (ne_eqb place (block / nodes) other))
      (cases_eq place (block / nodes))

  same_home : (p : Publication) (at : Home) → at.block % nodes ≡ owner → is_home (published_group (in_cluster nodes owner p)) at ≡ is_home (published_group p) (cell_of nodes at)
  same_home p at own = ap (λ (b : Bool). b && (p.group == at.group)) (same_block p.block at.block own)

  -- a group has the records of its cell
  pub same_records : (ps : List Publication) (at : Home) → at.block % nodes ≡ owner → records_of (map (in_cluster nodes owner) ps) at ≡ records_of ps (cell_of nodes at)
  same_records [] at own = refl
  same_records (p ∷ ps) at own = λ i. if same_home p at own i then p.content ∷ same_records ps at own i else same_records ps at own i

-- the last of a group's records is that of its greatest version
pub last_is : (first d : GroupRecord) (rest : List GroupRecord) → Some (get_or (first ∷ rest) (length rest) d) ≡ last_or (Some first) rest
last_is first d [] = refl
last_is first d (next ∷ rest) = last_is next d rest

-- ---- one shard

module _ (size : Size) (owner : ℕ) (choices : List (List ℕ)) (cells : Opened) (are : AreOwnersCells size owner choices cells) (full : HaveAllGroups cells.images)
    (ps : List Publication) where
  abbrev pub store : ShardStore
  store = record { size = size; owner = owner; images = cells.images; list = map (in_cluster size.nodes owner) ps }

  some_node : 1 ≤ size.nodes
  some_node = omega (arith, are.node)

  module _ (block : ℕ) (within : block < size.blocks) (owned : block % size.nodes ≡ owner) where
    -- its place is one of the cells'
    pub block_low : block / size.nodes < length cells.images
    block_low = place_within size.nodes owner block size.blocks (length cells.images) some_node owned within are.enough

    abbrev image : Image
    image = get_or cells.images (block / size.nodes) no_image

    image_is : image_in store block ≡ Some image
    image_is = rw (owned_block size owner block within owned) (slice_get-get_or cells.images (block / size.nodes) no_image block_low)

    -- a block's choices stand at its place
    pub choices_there : (none : List ℕ) → get_or choices (block / size.nodes) none ≡ choices_shown (image_in store block)
    choices_there none =
        ap (λ (all : List (List ℕ)). get_or all (block / size.nodes) none) are.choices_are
        ∙ (get_or-map (λ (i : Image). i.choices) cells.images (block / size.nodes) no_image none block_low
        ∙ ap choices_shown (sym image_is))

    module _ (group : ℕ) (low : group < 64) where
      abbrev at : Home
      at = record { block = block; group = group }

      shown : record_shown (image_in store block) group ≡ Some (opening_record cells.images (cell_of size.nodes at))
      shown =
          let all = full (block / size.nodes) block_low in
          ap (λ (i : Option Image). record_shown i group) image_is ∙ slice_get-get_or image.records group (Served []) (omega arith)

      -- a group has the latest record of its cell
      pub latest_is : Some (latest cells ps (cell_of size.nodes at)) ≡ (shard_state_of store).records at
      latest_is =
          let first = opening_record cells.images (cell_of size.nodes at) in
          let rest = records_of ps (cell_of size.nodes at) in
          last_is first first rest
          ∙ (λ i. last_or (sym shown i) (sym (same_records size.nodes owner some_node ps at owned) i))

      -- and its version
      pub version_is : count ps (cell_of size.nodes at) ≡ (shard_state_of store).versions at
      version_is = ap length (sym (same_records size.nodes owner some_node ps at owned))

-- ---- a key

module _ (size : Size) (owner : ℕ) (choices : List (List ℕ)) (cells : Opened) (are : AreOwnersCells size owner choices cells) (full : HaveAllGroups cells.images)
    (ps : List Publication) (at : Place) (within : at.block < size.blocks) (owned : at.block % size.nodes ≡ owner) (cell : Home) (low : cell.group < 64)
    (cell_is : cell ≡ cell_of size.nodes (home_in_state (shard_state_of (store size owner choices cells are full ps)) at))
    (key : FlowKey) (version : ℕ) (node : Option ℕ) (version_said : version ≡ count ps cell) (node_said : node ≡ node_at_version cells ps cell version key) where
  abbrev kept : ShardStore
  kept = store size owner choices cells are full ps

  abbrev its_home : Home
  its_home = home_in_state (shard_state_of kept) at

  home_low : its_home.group < 64
  home_low = let same : cell.group ≡ its_home.group = ap (λ (h : Home). h.group) cell_is in omega arith

  version_there : version ≡ (shard_state_of kept).versions its_home
  version_there = version_said ∙ ap (count ps) cell_is ∙ version_is size owner choices cells are full ps at.block within owned its_home.group home_low

  node_there : node ≡ decoded size key ((shard_state_of kept).records its_home)
  node_there =
      node_said ∙ ap (λ (v : ℕ). decode (record_at cells.images ps cell v) cells.size.nodes key) version_said
      ∙ ap (λ (h : Home). decode (latest cells ps h) cells.size.nodes key) cell_is
      ∙ ap (λ (s : Size). decode (latest cells ps (cell_of size.nodes its_home)) s.nodes key) are.size_is
      ∙ ap (decoded size key) (latest_is size owner choices cells are full ps at.block within owned its_home.group home_low)

  -- what a look finds is the shard's answer
  pub route_is : record { version = version; node = node } ≡ route_in_state (shard_state_of kept) at key
  route_is = λ i. record { version = version_there i; node = node_there i }
