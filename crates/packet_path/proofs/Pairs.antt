-- Two readers are those of two nodes, and one image is that of one block.
use Rattle.std.proofs.Common.{◌≡◌, ◌<◌, ◌≤◌, ℕ, zero, suc, [], ◌∷◌, refl, sym, ap, subst, arith}
use Rattle.std.specs.Prelude.{All, sum_by}
use Rattle.std.proofs.lemmas.List.Elements.{All-cons}
use Rattle.flow_types.specs.Size.{Size, value_bits}
use Rattle.group_search.specs.Canon.{rows_in}
use Rattle.group_search.specs.Image.{Image}
use Rattle.group_search.specs.Words.{HasBits}
use Rattle.group_search.specs.Records.{HasNodes}
use Rattle.replica_shard.specs.Store.{CanBeTables}
use Rattle.partial_fib.specs.Ends.{ReaderState}
use Rattle.packet_path.specs.Fibs.{AreFibsOf, IsFibOf, opening_at}

pub two_fibs : (blocks owner : ℕ) (a b : ReaderState) → let size : Size = record { nodes = 2; blocks = blocks } in
    IsFibOf size owner 0 a.opening → IsFibOf size owner 1 b.opening → AreFibsOf size owner (a ∷ b ∷ [])
two_fibs blocks owner a b first second = record {
  one_each = refl;
  each = λ node low. at node low;
}
  where
    at : (node : ℕ) → node < 2 → IsFibOf (record { nodes = 2; blocks = blocks }) owner node (opening_at (a ∷ b ∷ []) node)
    at zero low = first
    at (suc zero) low = second
    at (suc (suc node)) low = absurd (omega (arith, low))

all-one : {A : Type 0} (P : A → Type 0) (x : A) → P x → All P (x ∷ [])
all-one P x holds = All-cons P x [] holds (λ k d low. absurd (omega (arith, low)))

pub one_table : (size : Size) (image : Image) → size ≡ record { nodes = 2; blocks = 1 } → sum_by rows_in image.records ≤ 64 → All (HasBits 1) image.records → All (HasNodes 2) image.records → CanBeTables size (image ∷ [])
one_table size image is few bits nodes = record {
  one_each = sym (ap (λ (s : Size). s.blocks) is);
  few_rows = all-one (λ (i : Image). sum_by rows_in i.records ≤ 64) image few;
  bits = subst (λ (s : Size). All (λ (i : Image). All (HasBits (value_bits s.nodes)) i.records) (image ∷ [])) (sym is) (all-one (λ (i : Image). All (HasBits 1) i.records) image bits);
  in_cluster = subst (λ (s : Size). All (λ (i : Image). All (HasNodes s.nodes) i.records) (image ∷ [])) (sym is) (all-one (λ (i : Image). All (HasNodes 2) i.records) image nodes);
}
