use Rattle.std.proofs.Common.{◌≡◌, ◌∙◌, ◌++◌, ◌∷◌, [], true, false, get_or, ap, arith, eq-eqb, sym, length-append}
use Rattle.std.proofs.lemmas.Bool.{ne_eqb}
use Rattle.std.proofs.lemmas.Nat.Bits.{shr_and_one}
use Rattle.hash_family.specs.declared.pairing.HashPair.{HashPair}
use Rattle.group_search.specs.declared.entry.Entry.{Entry}
use Rattle.group_search.specs.Lanes.{has_bit, pairs_with}
use Rattle.group_search.proofs.Kept.{nobody, kept_yes, kept_no, room_left, kept_all}
use Rattle.group_search.proofs.search.keep.Goals as goal
use Rattle.group_search.proofs.search.keep.Goals.{then-entry-bit, else-entry-bit}

pub push-requires : goal.push-requires
push-requires c =
    let entry : Entry = get_or c.args.entries.now c.entries.entry-index nobody in
    let has : has_bit c.args.value c.args.bit entry ≡ true = eq-eqb _ _ (sym (shr_and_one entry.node c.args.bit) ∙ c.if-entry-bit.true) in
    let room = room_left c.args.value c.args.bit c.entries.entry-index c.args.entries.now c.entries-test.true c.entries.lines.items _ c.entries.invariant has in
    let all = length-append c.args.lines.now.items (pairs_with c.args.value c.args.bit c.args.entries.now) in
    (omega arith, omega (arith, room, all, c.requires.room))

pub entries-preserved : goal.entries-preserved
entries-preserved c =
    let entry : Entry = get_or c.args.entries.now c.entries.entry-index nobody in
    elim c.if-entry-bit.branch [
      | then-entry-bit w ↦
          let added : c.if-entry-bit.lines.items ≡ c.entries.lines.items ++ entry.pair ∷ [] =
          ap (λ v. v.items) w.lines-is ∙ w.push.ensures.items ∙ ap (λ (pair : HashPair). c.entries.lines.items ++ pair ∷ []) w.of.ensures in
          let has : has_bit c.args.value c.args.bit entry ≡ true = eq-eqb _ _ (sym (shr_and_one entry.node c.args.bit) ∙ w.if-entry-bit.true) in
          rw added (kept_yes c.args.value c.args.bit c.entries.entry-index c.args.entries.now c.entries-test.true c.entries.lines.items _ c.entries.invariant has)
      | else-entry-bit w ↦
          let same : c.if-entry-bit.lines.items ≡ c.entries.lines.items = ap (λ v. v.items) w.lines-is in
          let has_not : has_bit c.args.value c.args.bit entry ≡ false = ne_eqb _ _ (λ e. w.if-entry-bit.false (shr_and_one entry.node c.args.bit ∙ e)) in
          rw same (kept_no c.args.value c.args.bit c.entries.entry-index c.args.entries.now c.entries-test.true c.entries.lines.items _ c.entries.invariant has_not)
    ]

pub returns : goal.returns
returns c = kept_all c.args.value c.args.bit c.entries.entry-index c.args.entries.now c.entries.lines.items _ c.entries-test.false c.entries.invariant
