use Rattle.std.proofs.Common.{ℕ, ◌≡◌, ◌∙◌, ◌++◌, List, Option, Some, None, ap, sym, arith, length}
use Rattle.std.specs.Prelude.{IfSome}
use Rattle.group_search.specs.declared.entry.Entry.{Entry}
use Rattle.group_search.specs.declared.entry.Pair.{Pair}
use Rattle.hash_family.specs.declared.pairing.HashPair.{HashPair}
use Rattle.group_search.specs.Lanes.{pairs_with}
use Rattle.group_search.specs.Serving.{IsLeast, least_of}
use Rattle.group_search.proofs.FirstServing.{least_is_least, none_exactly}
use Rattle.group_search.proofs.Kept.{both_few}
use Rattle.group_search.proofs.Turns.{least_is_between}
use Rattle.group_search.proofs.search.least.Goals as goal
use Rattle.group_search.proofs.search.least.Goals.{After-first_of_all}

pub keep-requires-clause-room : goal.keep-requires-clause-room
keep-requires-clause-room c = omega (arith, ap length c.new-lines.ensures, both_few c.args.bit c.args.entries.now)

pub keep-requires-2-clause-room : goal.keep-requires-2-clause-room
keep-requires-2-clause-room c =
    let ones : c.keep.new.lines.items ≡ pairs_with 1 c.args.bit c.args.entries.now = c.keep.ensures ∙ ap (λ (l : List HashPair). l ++ pairs_with 1 c.args.bit c.args.entries.now) c.new-lines.ensures in
    omega (arith, ap length ones, both_few c.args.bit c.args.entries.now)

found : (c : After-first_of_all) → c.first_of_all.result ≡ least_of c.args.bit c.args.entries.now
found c =
    let ones : c.keep.new.lines.items ≡ pairs_with 1 c.args.bit c.args.entries.now = c.keep.ensures ∙ ap (λ (l : List HashPair). l ++ pairs_with 1 c.args.bit c.args.entries.now) c.new-lines.ensures in
    let items : c.as_slice.result.now ≡ pairs_with 1 c.args.bit c.args.entries.now ++ pairs_with 0 c.args.bit c.args.entries.now =
    c.as_slice.ensures.value ∙ c.keep-2.ensures ∙ ap (λ (l : List HashPair). l ++ pairs_with 0 c.args.bit c.args.entries.now) ones in
    c.first_of_all.ensures
    ∙ least_is_between c.args.bit c.len-count.result c.args.entries.now c.as_slice.result.now c.split_at.result.0.now c.split_at.result.1.now items
    (c.len-count.ensures.value ∙ ap length ones) c.split_at.ensures.front c.split_at.ensures.back

if_least : (bit : ℕ) (entries : List Entry) (found : Option Pair) → found ≡ least_of bit entries → IfSome found (IsLeast bit entries)
if_least bit entries None e = tt
if_least bit entries (Some pair) e = least_is_least bit entries pair (sym e)

pub returns-clause-value : goal.returns-clause-value
returns-clause-value c = found c

pub returns-clause-least : goal.returns-clause-least
returns-clause-least c = if_least c.args.bit c.args.entries.now c.first_of_all.result (found c)

pub returns-clause-none : goal.returns-clause-none
returns-clause-none c = none_exactly _ _ _ (found c)
