-- No lane goes back: what it sees at a node is no older than what it had seen there.
use Rattle.std.specs.Prelude.{◌≡◌, ℕ, ◌+◌, ◌≤◌, ◌%◌, List, ◌∷◌}
use Rattle.group_search.specs.Home.{Home}
use Rattle.packet_reader.specs.declared.event.Event.{Event}
use Rattle.packet_reader.specs.declared.event.Event.TheVariants.{Packet}
use Rattle.packet_reader.specs.declared.event.Part.{Part}
use Rattle.packet_reader.specs.declared.event.Part.TheVariants.{Table, Fib}
use Rattle.run_model.specs.declared.reply.Reply.{Reply}
use Rattle.run_model.specs.declared.reply.Reply.TheVariants.{Found, Unknown, Nowhere}
use Rattle.run_model.specs.State.{ClusterOpening, home_of_key}

-- the part of the node has answered for the packet, and stood at this version: the ingress's table, and the FIB of the node
-- that the packet was sent to
abbrev pub StoodAt : Part → (ingress : ℕ) → Reply → (node version : ℕ) → Type 0
StoodAt Table ingress (Found to seen fib info) node version = (ingress ≡ node) × (seen ≡ version)
StoodAt Table ingress (Unknown to seen fib) node version = (ingress ≡ node) × (seen ≡ version)
StoodAt Table ingress (Nowhere seen) node version = (ingress ≡ node) × (seen ≡ version)
StoodAt Fib ingress (Found to seen fib info) node version = (to ≡ node) × (fib ≡ version)
StoodAt Fib ingress (Unknown to seen fib) node version = (to ≡ node) × (fib ≡ version)
StoodAt _ ingress _ node version = ⊥

-- for each packet of the lane, from that of this number on, whose key is of the group, the part of the node stands at this
-- version or a later one
abbrev pub StaysFrom : ClusterOpening → (lanes lane : ℕ) → Part → (node : ℕ) → Home → (version : ℕ) → (packets : ℕ) → List Event → List Reply → Type 0
StaysFrom opened lanes lane part node at version packets (Packet ingress key ∷ script) (reply ∷ replies) =
    ((later : ℕ) → packets % lanes ≡ lane → home_of_key opened key ≡ at → StoodAt part ingress reply node later → version ≤ later)
    × StaysFrom opened lanes lane part node at version (packets + 1) script replies
StaysFrom opened lanes lane part node at version packets (event ∷ script) (reply ∷ replies) = StaysFrom opened lanes lane part node at version packets script replies
StaysFrom opened lanes lane part node at version packets _ _ = Unit {0}

-- from the packet of this number on, for one lane, part, node and group versions never fall
abbrev pub NeverFalls : ClusterOpening → (lanes packets : ℕ) → List Event → List Reply → Type 0
NeverFalls opened lanes packets (Packet ingress key ∷ script) (reply ∷ replies) =
    ((part : Part) (node version : ℕ) → StoodAt part ingress reply node version
    → StaysFrom opened lanes (packets % lanes) part node (home_of_key opened key) version (packets + 1) script replies)
    × NeverFalls opened lanes (packets + 1) script replies
NeverFalls opened lanes packets (event ∷ script) (reply ∷ replies) = NeverFalls opened lanes packets script replies
NeverFalls opened lanes packets _ _ = Unit {0}
