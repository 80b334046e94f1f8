-- What a step on a word does to the totals, beside the account of the seat that made it.
use Rattle.std.proofs.Common.{◌≡◌, ℕ, ◌+◌, ◌<◌, ◌≤◌, All, List, length, get_or, set, refl, sym, subst, arith}
use mathlib.Core.Logic.{dite}
use native.Mathlib.Decide.{ℕ_discrete}
use Rattle.std.proofs.lemmas.List.{get_or-set_same, get_or-set_other, set-get_or, length-set}
use Rattle.std.proofs.lemmas.List.Elements.{All-push}
use Rattle.usage_meter.specs.declared.view.Account.{Account}
use Rattle.usage_meter.specs.declared.view.Reading.{Reading}
use Rattle.usage_meter.specs.Adds.{octets, usage}
use Rattle.usage_meter.specs.Rule.{IsRead}
use Rattle.usage_meter.specs.Plays.{added, loaded, reading}
use Rattle.usage_meter.proofs.Usage.{octets-more, usage-elsewhere, usage-here}

-- a seat's account goes from a to b while the words become others: each total rises by what the seat then has added
pub record Goes (words words' : List ℕ) (a b : Account) : Type 0 where
  pub wide : length words' ≡ length words
  pub opening : b.opening ≡ a.opening
  pub given : b.ration + octets b.adds ≡ a.ration + octets a.adds
  pub totals : (node : ℕ) → get_or words' node 0 + usage node a.adds ≡ get_or words node 0 + usage node b.adds
  pub rises : (node : ℕ) → get_or words node 0 ≤ get_or words' node 0
  pub reads : All (IsRead words') b.readings

-- what was read stays below totals that rise
pub reads_on : (words words' : List ℕ) → ((node : ℕ) → get_or words node 0 ≤ get_or words' node 0) → (rs : List Reading) → All (IsRead words) rs → All (IsRead words') rs
reads_on words words' rise rs all i d less = let was = all i d less in let on = rise (get_or rs i d).node in omega arith

-- the word of a node rises by n, and its account has one more add
word_rises : (words : List ℕ) (node n new : ℕ) → node < length words → new ≡ get_or words node 0 + n → (m : ℕ) → get_or words m 0 ≤ get_or (set words node new) m 0
word_rises words node n new room is m = dite (ℕ_discrete m node)
    (λ here. subst (λ (k : ℕ). get_or words k 0 ≤ get_or (set words node new) k 0) (sym here) (let now = get_or-set_same words node new 0 room in omega arith))
    (λ other. let now = get_or-set_other words node m new 0 other in omega arith)

word_adds : (words : List ℕ) (node n new : ℕ) (a : Account) → node < length words → new ≡ get_or words node 0 + n
    → (m : ℕ) → get_or (set words node new) m 0 + usage m a.adds ≡ get_or words m 0 + usage m (added node n a).adds
word_adds words node n new a room is m = dite (ℕ_discrete m node)
    (λ here. subst (λ (k : ℕ). get_or (set words node new) k 0 + usage k a.adds ≡ get_or words k 0 + usage k (added node n a).adds) (sym here)
    (let now = get_or-set_same words node new 0 room in let more = usage-here node n a.adds in omega arith))
    (λ other. let now = get_or-set_other words node m new 0 other in let same = usage-elsewhere m node n a.adds (λ e. other (sym e)) in omega arith)

pub goes_by_add : (words : List ℕ) (node n new : ℕ) (a : Account) → node < length words → n ≤ a.ration → new ≡ get_or words node 0 + n → All (IsRead words) a.readings
    → Goes words (set words node new) a (added node n a)
goes_by_add words node n new a room enough is read = record {
  wide = length-set words node new;
  opening = refl;
  given = let more = octets-more node n a.adds in omega arith;
  totals = word_adds words node n new a room is;
  rises = word_rises words node n new room is;
  reads = reads_on words (set words node new) (word_rises words node n new room is) a.readings read;
}

-- a load leaves the words, and its account has one more reading
pub goes_by_load : (words : List ℕ) (node : ℕ) (a : Account) → All (IsRead words) a.readings → Goes words (set words node (get_or words node 0)) a (loaded node (get_or words node 0) a)
goes_by_load words node a read = subst (λ (w : List ℕ). Goes words w a (loaded node (get_or words node 0) a)) (sym (set-get_or words node 0)) (record {
  wide = refl;
  opening = refl;
  given = refl;
  totals = λ m. refl;
  rises = λ m. omega arith;
  reads = All-push (IsRead words) a.readings (reading node (get_or words node 0)) read (omega arith);
})

-- what was read of a node's total is at most what stands there
pub read_before : (words : List ℕ) (node : ℕ) (rs : List Reading) → All (IsRead words) rs → All (λ (r : Reading). r.node ≡ node → r.total ≤ get_or words node 0) rs
read_before words node rs all i d less here = subst (λ (k : ℕ). (get_or rs i d).total ≤ get_or words k 0) here (all i d less)
