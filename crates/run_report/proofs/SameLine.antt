-- The line of a packet tells its reply.
use Rattle.std.proofs.Common.{◌≡◌, ◌∙◌, ◌^◌, ◌<◌, ◌≤◌, ℕ, Bool, true, false, cond, List, [], ◌∷◌, ◌++◌, codes, decimal, get_or, sym, ap, arith}
use Rattle.std.proofs.lemmas.List.{append_cancel_left}
use Rattle.flow_types.specs.declared.record.Record.{Record}
use Rattle.flow_types.specs.Text.{address_text}
use Rattle.run_model.specs.declared.reply.Reply.{Reply}
use Rattle.run_model.specs.declared.reply.Reply.TheVariants.{Found, Unknown, Nowhere}
use Rattle.line_text.specs.Line.{line_feed}
use Rattle.run_report.specs.Report.{fib_words, found_line, hops, node_words, nowhere_line, packet_line, packet_words, record_words, seen_words, unknown_line, unknown_words}
use Rattle.run_report.proofs.Addresses.{address_texts_apart, glyphs-address}
use Rattle.run_report.proofs.Fields.{concat-spelled, ended, number_ended, spelled, spelled-cancel}

-- the numbers that a packet's line has after its ingress are ones that texts tell apart
pub record IsShortRecord (info : Record) : Type 0 where
  pub teid : info.teid < 2 ^ 64
  pub base : info.base < 2 ^ 32

pub record IsShortPath (node seen fib : ℕ) : Type 0 where
  pub node_few : node < 2 ^ 64
  pub seen_few : seen < 2 ^ 64
  pub fib_few : fib < 2 ^ 64

abbrev pub IsShort : Reply → Type 0
IsShort (Found node seen fib info) = IsShortPath node seen fib × IsShortRecord info
IsShort (Unknown node seen fib) = IsShortPath node seen fib
IsShort (Nowhere seen) = seen < 2 ^ 64
IsShort _ = ⊥

-- a number after a word, and what follows it
number_after_word : (word : List ℕ) (m n c d : ℕ) (rest more : List ℕ) → m < 2 ^ 64 → n < 2 ^ 64 → c ≤ 32 → d ≤ 32
    → word ++ (decimal m ++ c ∷ rest) ≡ word ++ (decimal n ++ d ∷ more) → (m ≡ n) × (c ∷ rest ≡ d ∷ more)
number_after_word word m n c d rest more low lower space end is =
    number_ended m n c d rest more low lower space end (append_cancel_left word (decimal m ++ c ∷ rest) (decimal n ++ d ∷ more) is)

hops-few : (ingress node : ℕ) → hops ingress node < 2 ^ 64
hops-few ingress node = by _
  where
    by : (here : Bool) → cond here 0 1 < 2 ^ 64
    by true = omega arith
    by false = omega arith

-- ---- the way of a packet

-- its node, and the versions there and at its ingress
abbrev way : (ingress node seen fib : ℕ) → List (List ℕ)
way ingress node seen fib = node_words ingress node ++ seen_words seen ++ fib_words fib

record SameWay (node seen fib : ℕ) (rest : List ℕ) (others-node others-seen others-fib : ℕ) (more : List ℕ) : Type 0 where
  node_is : node ≡ others-node
  seen_is : seen ≡ others-seen
  fib_is : fib ≡ others-fib
  rest_is : rest ≡ more

same_way : (ingress n v w n' v' w' : ℕ) (rest more : List ℕ) → IsShortPath n v w → IsShortPath n' v' w'
    → spelled (way ingress n v w) (32 ∷ rest) ≡ spelled (way ingress n' v' w') (32 ∷ more) → SameWay n v w (32 ∷ rest) n' v' w' (32 ∷ more)
same_way ingress n v w n' v' w' rest more short other is =
    let space : 32 ≤ 32 = omega arith in
    let node = number_after_word (codes " to ") n n' 32 32 _ _ short.node_few other.node_few space space is in
    let hop = number_after_word (codes " hops ") (hops ingress n) (hops ingress n') 32 32 _ _ (hops-few ingress n) (hops-few ingress n') space space node.1 in
    let seen = number_after_word (codes " seen ") v v' 32 32 _ _ short.seen_few other.seen_few space space hop.1 in
    let fib = number_after_word (codes " fib ") w w' 32 32 rest more short.fib_few other.fib_few space space seen.1 in
    record { node_is = node.0; seen_is = seen.0; fib_is = fib.0; rest_is = fib.1 }

-- ---- the line of a packet

-- what the line has after where the packet came in
abbrev reply_words : (ingress : ℕ) → Reply → List (List ℕ)
reply_words ingress (Found node seen fib info) = way ingress node seen fib ++ record_words info ++ line_feed ∷ []
reply_words ingress (Unknown node seen fib) = way ingress node seen fib ++ unknown_words ++ line_feed ∷ []
reply_words ingress (Nowhere seen) = seen_words seen ++ unknown_words ++ line_feed ∷ []
reply_words ingress _ = []

module _ (number ingress : ℕ) where
  line_text : (reply : Reply) (rest : List ℕ) → IsShort reply
      → packet_line number ingress reply ++ rest ≡ spelled (packet_words number ingress) (spelled (reply_words ingress reply) rest)
  unfolding found_line unknown_line nowhere_line
  line_text (Found node seen fib info) rest short = concat-spelled (packet_words number ingress ++ reply_words ingress (Found node seen fib info)) rest
  line_text (Unknown node seen fib) rest short = concat-spelled (packet_words number ingress ++ reply_words ingress (Unknown node seen fib)) rest
  line_text (Nowhere seen) rest short = concat-spelled (packet_words number ingress ++ reply_words ingress (Nowhere seen)) rest
  line_text _ rest short = absurd short

same_reply : (ingress : ℕ) (reply other : Reply) (rest more : List ℕ) → IsShort reply → IsShort other
    → spelled (reply_words ingress reply) rest ≡ spelled (reply_words ingress other) more → (reply ≡ other) × (rest ≡ more)
same_reply ingress (Found n v w i) (Found n' v' w' i') rest more short other is =
    let space : 32 ≤ 32 = omega arith in
    let feed : 10 ≤ 32 = omega arith in
    let same = same_way ingress n v w n' v' w' _ _ short.0 other.0 is in
    let teid = number_after_word (codes " teid ") i.teid i'.teid 32 32 _ _ (short.1).teid (other.1).teid space space same.rest_is in
    let base = ended (address_text i.base) (address_text i'.base) 10 10 rest more (glyphs-address i.base (short.1).base) (glyphs-address i'.base (other.1).base) feed feed
    (append_cancel_left (codes " base ") (address_text i.base ++ 10 ∷ rest) (address_text i'.base ++ 10 ∷ more) teid.1) in
    let base_is = address_texts_apart i.base i'.base (short.1).base (other.1).base base.0 in
    (λ k. Found (same.node_is k) (same.seen_is k) (same.fib_is k) (record { teid = teid.0 k; base = base_is k }), append_cancel_left (10 ∷ []) rest more base.1)
same_reply ingress (Found n v w i) (Unknown n' v' w') rest more short other is =
    let same = same_way ingress n v w n' v' w' _ _ short.0 other is in
    absurd (omega (arith, ap (λ (text : List ℕ). get_or text 1 0) same.rest_is))
same_reply ingress (Unknown n v w) (Found n' v' w' i') rest more short other is =
    let same = same_way ingress n v w n' v' w' _ _ short other.0 is in
    absurd (omega (arith, ap (λ (text : List ℕ). get_or text 1 0) same.rest_is))
same_reply ingress (Unknown n v w) (Unknown n' v' w') rest more short other is =
    let same = same_way ingress n v w n' v' w' _ _ short other is in
    (λ k. Unknown (same.node_is k) (same.seen_is k) (same.fib_is k), append_cancel_left (codes " unknown" ++ 10 ∷ []) rest more same.rest_is)
same_reply ingress (Nowhere v) (Nowhere v') rest more short other is =
    let space : 32 ≤ 32 = omega arith in
    let seen = number_after_word (codes " seen ") v v' 32 32 _ _ short other space space is in
    (λ k. Nowhere (seen.0 k), append_cancel_left (codes " unknown" ++ 10 ∷ []) rest more seen.1)
same_reply ingress (Nowhere v) (Found n' v' w' i') rest more short other is = absurd (omega (arith, ap (λ (text : List ℕ). get_or text 1 0) is))
same_reply ingress (Nowhere v) (Unknown n' v' w') rest more short other is = absurd (omega (arith, ap (λ (text : List ℕ). get_or text 1 0) is))
same_reply ingress (Found n v w i) (Nowhere v') rest more short other is = absurd (omega (arith, ap (λ (text : List ℕ). get_or text 1 0) is))
same_reply ingress (Unknown n v w) (Nowhere v') rest more short other is = absurd (omega (arith, ap (λ (text : List ℕ). get_or text 1 0) is))
same_reply ingress _ (Found n' v' w' i') rest more short other is = absurd short
same_reply ingress _ (Unknown n' v' w') rest more short other is = absurd short
same_reply ingress _ (Nowhere v') rest more short other is = absurd short
same_reply ingress _ _ rest more short other is = absurd other

-- packets of one number and ingress whose lines begin one text have one reply, and the text goes on as one
pub same_packet : (number ingress : ℕ) (reply other : Reply) (rest more : List ℕ) → IsShort reply → IsShort other
    → packet_line number ingress reply ++ rest ≡ packet_line number ingress other ++ more → (reply ≡ other) × (rest ≡ more)
same_packet number ingress reply other rest more short others is =
    same_reply ingress reply other rest more short others
    (spelled-cancel (packet_words number ingress) _ _ (sym (line_text number ingress reply rest short) ∙ is ∙ line_text number ingress other more others))
