use Rattle.std.proofs.Common.{arith, ◌≡◌, ℕ, List, true, false, ◌-◌, ◌≤◌, ◌<◌, ◌^◌, get_or, sym, ap, ◌∙◌, subst}
use mathlib.Core.Logic.{dite}
use native.Mathlib.Decide.{ℕ_discrete}
use Rattle.flow_types.specs.Size.{value_bits}
use Rattle.group_search.specs.declared.entry.Pair.{Pair}
use Rattle.group_search.specs.declared.record.GroupRecord.TheVariants.{Served}
use Rattle.group_search.specs.Decoding.{decode}
use Rattle.group_search.specs.Words.{AreServedWords}
use Rattle.group_cell.proofs.Answering.{found_is, served_is}
use Rattle.group_cell.proofs.table.decoding.decoded.Goals as goal

pub returns-then-has_rows : goal.returns-then-has_rows
returns-then-has_rows c = found_is (value_bits c.args.shape.nodes) c.args.shape.nodes c.args.words c.args.key.now c.args.found (c.has_rows.ensures.0 c.if-has_rows.true)

below_or : (n : ℕ) → (2 ^ 48 ≤ n → ⊥) → n < 2 ^ 48
below_or n high = dite (ℕ_discrete (2 ^ 48 - n) 0) (λ e. absurd (high (omega arith))) (λ e. omega arith)

pub returns : goal.returns
returns c = let no = c.if-has_rows.false in
    let few : get_or c.args.words 0 0 < 2 ^ 48 = below_or (get_or c.args.words 0 0) (λ (many : 2 ^ 48 ≤ get_or c.args.words 0 0). let wrong : false ≡ true = c.if-has_rows.ensures.1 many in absurd (cc)) in
    served_is (value_bits c.args.shape.nodes) c.args.shape.nodes c.args.words c.args.key.now c.args.found c.served_node.result few
    (λ (pairs : List Pair) (h : AreServedWords (value_bits c.args.shape.nodes) pairs c.args.words).
    c.served_node.ensures pairs (subst (λ (n : ℕ). AreServedWords n pairs c.args.words) (sym c.value_bits.ensures.value) h) ∙ ap (λ (n : ℕ). decode (Served pairs) n c.args.key.now) c.nodes.ensures.value)
