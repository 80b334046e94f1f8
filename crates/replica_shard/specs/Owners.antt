-- Where a shard's cells have the blocks of the cluster: the owner's blocks are numbered from 0.
use Rattle.std.specs.Prelude.{ℕ, ◌≡◌, ◌+◌, ◌*◌, ◌/◌, ◌≤◌, ◌<◌, List, length, map}
use Rattle.flow_types.specs.Size.{Size}
use Rattle.group_search.specs.declared.published.Publication.{Publication}
use Rattle.group_search.specs.Home.{Home}
use Rattle.group_search.specs.Image.{Image}
use Rattle.group_cell.specs.Opening.{Opened}
use Rattle.delta_codec.specs.declared.message.TableMessage.{TableMessage}

-- a record of the cells, by the cluster's blocks
abbrev pub in_cluster : (nodes owner : ℕ) → Publication → Publication
in_cluster nodes owner p = record { block = owner + nodes * p.block; group = p.group; content = p.content }

-- a group of the owner's, by the blocks of the cells
abbrev pub cell_of : (nodes : ℕ) → Home → Home
cell_of nodes at = record { block = at.block / nodes; group = at.group }

-- what a message says of its group
abbrev pub publication_of : TableMessage → Publication
publication_of message = record { block = message.block; group = message.group; content = message.content }

-- the cells are those of the owner's blocks, with these choices
pub record AreOwnersCells (size : Size) (owner : ℕ) (choices : List (List ℕ)) (cells : Opened) : Type 0 where
  pub node : owner < size.nodes
  pub size_is : cells.size ≡ size
  pub choices_are : choices ≡ map (λ (image : Image). image.choices) cells.images
  pub enough : size.blocks ≤ owner + size.nodes * length cells.images
