-- Each step keeps the rule of the queue.
use Rattle.std.proofs.Common.{◌≡◌, ◌≢◌, ◌∙◌, ℕ, zero, suc, true, true≢false, List, [], ◌∷◌, ◌++◌, length, set, sym, refl, ap, subst, ⊎_elim, append_assoc, append-nil}
use mathlib.Core.Option.{some, some-ne-none}
use lib.ListN.{get_elem?}
use Rattle.smallvec.specs.SmallVec.{SmallVec}
use Rattle.crossbeam_queue.specs.Fifo.{Forks, Learns, Merges, Pops, Pushes}
use Rattle.crossbeam_queue.proofs.Lists.{at_set, at_snoc}
use Rattle.flow_types.specs.Size.{Size}
use Rattle.delta_codec.specs.declared.message.Message.{Message}
use Rattle.node_link.specs.declared.rule.Log.{Log}
use Rattle.node_link.specs.Letter.{AreLetters, IsLetter}
use Rattle.node_link.specs.Rule.{Carries, Knows, both_logs, new_log, sender_log, spent_log, taker_log}
use Rattle.node_link.specs.Moves.{AllIsTaken, HasSent, HasTaken}

at_end : (l : List Log) (a b : Log) (j : ℕ) → get_elem? l j ≢ some b → get_elem? (l ++ a ∷ []) j ≡ some b → j ≡ length l
at_end [] a b zero n e = refl
at_end [] a b (suc j) n e = absurd (some-ne-none b (sym e))
at_end (x ∷ xs) a b zero n e = absurd (n e)
at_end (x ∷ xs) a b (suc j) n e = ap suc (at_end xs a b j n e)

-- the letters behind one more
letters_more : (size : Size) (letters : List (SmallVec ℕ)) (messages : List Message) (letter : SmallVec ℕ) (message : Message) → AreLetters size letters messages
    → IsLetter size letter message → AreLetters size (letters ++ letter ∷ []) (messages ++ message ∷ [])
letters_more size [] [] letter message are is = (is, tt)
letters_more size [] (m ∷ ms) letter message are is = absurd are
letters_more size (x ∷ xs) [] letter message are is = absurd are
letters_more size (x ∷ xs) (m ∷ ms) letter message are is = (are.0, letters_more size xs ms letter message are.1 is)

-- the first letter's message, and those of the others
record First (size : Size) (letter : SmallVec ℕ) (letters : List (SmallVec ℕ)) (messages : List Message) : Type 0 where
  message : Message
  rest : List Message
  whole : messages ≡ message ∷ rest
  letter_of : IsLetter size letter message
  others : AreLetters size letters rest

first_of : (size : Size) (letter : SmallVec ℕ) (letters : List (SmallVec ℕ)) (messages : List Message) → AreLetters size (letter ∷ letters) messages → First size letter letters messages
first_of size letter letters [] are = absurd are
first_of size letter letters (m ∷ ms) are = record { message = m; rest = ms; whole = refl; letter_of = are.0; others = are.1 }

none_queued : (size : Size) (letters : List (SmallVec ℕ)) (messages : List Message) → AreLetters size letters messages → letters ≡ [] → messages ≡ []
none_queued size [] [] are e = refl
none_queued size [] (m ∷ ms) are e = absurd are
none_queued size (x ∷ xs) messages are e = absurd cc

no_letters : (size : Size) (letters : List (SmallVec ℕ)) (messages : List Message) → AreLetters size letters messages → messages ≡ [] → letters ≡ []
no_letters size [] messages are e = refl
no_letters size (x ∷ xs) [] are e = absurd are
no_letters size (x ∷ xs) (m ∷ ms) are e = absurd cc

-- what each pass knows, after one pass's log is another
known_set : (K : ℕ → Log → Type 0) (logs : List Log) (pass : ℕ) (log : Log) → K pass log → ((j : ℕ) (u : Log) → j ≢ pass → get_elem? logs j ≡ some u → K j u)
    → (j : ℕ) (u : Log) → get_elem? (set logs pass log) j ≡ some u → K j u
known_set K logs pass log mine others j u at =
    ⊎_elim (λ (x : (j ≡ pass) × (log ≡ u)). subst (λ (y : ℕ × Log). K y.0 y.1) (λ i. (sym x.0 i, x.1 i)) mine)
    (λ (x : (j ≢ pass) × (get_elem? logs j ≡ some u)). others j u x.0 x.1) (at_set logs pass j log u at)

-- a pass with neither part knows nothing
knows_nothing : (sender taker : ℕ) (size : Size) (sent taken : List Message) (pass : ℕ) → Knows sender taker size sent taken pass spent_log
knows_nothing sender taker size sent taken pass = record { sends = λ p. absurd (true≢false (sym p)); takes = λ p. absurd (true≢false (sym p)) }

pub begins : Carries [] (new_log ∷ [])
begins = record {
  sender = 0;
  taker = 0;
  size = new_log.shape;
  sent = [];
  taken = [];
  queued = [];
  in_order = refl;
  spelled = tt;
  known = known_set (Knows 0 0 new_log.shape [] []) (new_log ∷ []) 0 new_log (record { sends = λ _. (refl, refl, refl); takes = λ _. (refl, refl, refl) })
      (λ j u other at. absurd (other (at_end [] _ u j (λ x. some-ne-none u (sym x)) at)));
}

-- a message is sent
pub sends : (n pass : ℕ) (log : Log) (letter : SmallVec ℕ) (message : Message) → log.sends ≡ true → IsLetter log.shape letter message
    → Pushes Carries n pass log letter (HasSent log letter)
sends n pass log letter message may is letters logs room h at =
    let mine = (h.known pass log at).sends may in
    let after : Log = record log { sent = log.sent ++ message ∷ [] } in
    let sent = h.sent ++ message ∷ [] in (
      after,
      record {
        sender = h.sender;
        taker = h.taker;
        size = h.size;
        sent = sent;
        taken = h.taken;
        queued = h.queued ++ message ∷ [];
        in_order = ap (λ (l : List Message). l ++ message ∷ []) h.in_order ∙ append_assoc h.taken h.queued (message ∷ []);
        spelled = letters_more h.size letters h.queued letter message h.spelled (subst (λ (s : Size). IsLetter s letter message) mine.1 is);
        known = known_set (Knows h.sender h.taker h.size sent h.taken) logs pass after
            (record { sends = λ _. (mine.0, mine.1, ap (λ (l : List Message). l ++ message ∷ []) mine.2); takes = (h.known pass log at).takes })
            (λ j u other there. record { sends = λ p. absurd (other (((h.known j u there).sends p).0 ∙ sym mine.0)); takes = (h.known j u there).takes });
      },
      record { message = message; letter_of = is; sent = refl },
    )

-- a message is taken
pub takes : (pass : ℕ) (log : Log) → log.takes ≡ true → Pops Carries pass log (HasTaken log)
takes pass log may letter letters logs h at =
    let mine = (h.known pass log at).takes may in
    let first = first_of h.size letter letters h.queued h.spelled in
    let message = first.message in
    let after : Log = record log { taken = log.taken ++ message ∷ [] } in
    let taken = h.taken ++ message ∷ [] in
    let in_order : h.sent ≡ taken ++ first.rest =
    h.in_order ∙ ap (λ (q : List Message). h.taken ++ q) first.whole ∙ sym (append_assoc h.taken (message ∷ []) first.rest) in (
      after,
      record {
        sender = h.sender;
        taker = h.taker;
        size = h.size;
        sent = h.sent;
        taken = taken;
        queued = first.rest;
        in_order = in_order;
        spelled = first.others;
        known = known_set (Knows h.sender h.taker h.size h.sent taken) logs pass after
            (record { sends = (h.known pass log at).sends; takes = λ _. (mine.0, mine.1, ap (λ (l : List Message). l ++ message ∷ []) mine.2) })
            (λ j u other there. record { sends = (h.known j u there).sends; takes = λ p. absurd (other (((h.known j u there).takes p).0 ∙ sym mine.0)) });
      },
      record {
        message = message;
        letter_of = subst (λ (s : Size). IsLetter s letter message) (sym mine.1) first.letter_of;
        taken = refl;
        was_sent = λ p. (
          first.rest,
          ap (λ (l : List Message). (l ++ message ∷ []) ++ first.rest) mine.2 ∙ sym in_order ∙ sym ((h.known pass log at).sends p).2,
        );
      },
    )

-- who may send and take knows, where the queue is empty, that all that was sent was taken
pub all_is_taken : (pass : ℕ) (log : Log) → Learns Carries pass log (AllIsTaken log)
all_is_taken pass log letters logs h at may_send may_take none =
    let sent = ((h.known pass log at).sends may_send).2 in
    let taken = ((h.known pass log at).takes may_take).2 in
    let empty : h.queued ≡ [] = none_queued h.size letters h.queued h.spelled none in
    taken ∙ sym (append-nil h.taken) ∙ ap (λ (q : List Message). h.taken ++ q) (sym empty) ∙ sym h.in_order ∙ sym sent

-- a pass with both parts gives the sender's away
pub parts : (pass : ℕ) (log : Log) → log.sends ≡ true → log.takes ≡ true → Forks Carries pass log (taker_log log.shape log.taken) (sender_log log.shape log.sent)
parts pass log may_send may_take letters logs h at =
    let mine = h.known pass log at in
    let left : Log = taker_log log.shape log.taken in
    let right : Log = sender_log log.shape log.sent in
    let rest : List Log = set logs pass left in
    let Old : ℕ → Log → Type 0 = λ j u. (u.sends ≢ true) × (u.takes ≡ true → (j ≡ h.taker) × (u.shape ≡ h.size) × (u.taken ≡ h.taken)) in
    let old : (j : ℕ) (u : Log) → get_elem? rest j ≡ some u → Old j u =
    known_set Old logs pass left ((λ p. true≢false (sym p)), λ _. mine.takes may_take)
    (λ j u other there. ((λ p. other (((h.known j u there).sends p).0 ∙ sym (mine.sends may_send).0)), (h.known j u there).takes)) in
    record {
      sender = length rest;
      taker = h.taker;
      size = h.size;
      sent = h.sent;
      taken = h.taken;
      queued = h.queued;
      in_order = h.in_order;
      spelled = h.spelled;
      known = λ j u there. ⊎_elim
          (λ (x : get_elem? rest j ≡ some u). record { sends = λ p. absurd ((old j u x).0 p); takes = (old j u x).1 })
          (λ (is : right ≡ u). record {
            sends = λ p. (
              at_end rest right u j (λ x. (old j u x).0 p) there,
              ap (λ (y : Log). y.shape) (sym is) ∙ (mine.sends may_send).1,
              ap (λ (y : Log). y.sent) (sym is) ∙ (mine.sends may_send).2,
            );
            takes = λ p. absurd (true≢false (sym (ap (λ (y : Log). y.takes) is ∙ p)));
          })
          (at_snoc rest right u j there);
    }

-- the taker's pass takes in the sender's part
pub joined : (pass : ℕ) (log : Log) (other : ℕ) (theirs : Log) → log.takes ≡ true → theirs.sends ≡ true
    → Merges Carries pass log other theirs (both_logs log theirs) spent_log
joined pass log other theirs may_take may_send letters logs h at apart at_other =
    let mine = (h.known pass log at).takes may_take in
    let both : Log = both_logs log theirs in
    let rest : List Log = set logs pass both in
    let was : get_elem? logs other ≡ some theirs = ⊎_elim (λ x. absurd (apart x.0)) (λ x. x.1) (at_set logs pass other both theirs at_other) in
    let sender = (h.known other theirs was).sends may_send in
    let Now : ℕ → Log → Type 0 = λ j u. j ≢ other → Knows pass h.taker h.size h.sent h.taken j u in
    let now : (j : ℕ) (u : Log) → get_elem? rest j ≡ some u → Now j u =
    known_set Now logs pass both (λ _. record { sends = λ _. (refl, mine.1, sender.2); takes = λ _. mine })
    (λ j u _ there others. record { sends = λ p. absurd (others (((h.known j u there).sends p).0 ∙ sym sender.0)); takes = (h.known j u there).takes }) in
    record {
      sender = pass;
      taker = h.taker;
      size = h.size;
      sent = h.sent;
      taken = h.taken;
      queued = h.queued;
      in_order = h.in_order;
      spelled = h.spelled;
      known = known_set (Knows pass h.taker h.size h.sent h.taken) rest other spent_log (knows_nothing pass h.taker h.size h.sent h.taken other)
          (λ j u others there. now j u there others);
    }

-- before anything is sent the shape may become another
pub shaped : (pass : ℕ) (log : Log) (size : Size) → log.sends ≡ true → log.takes ≡ true → log.sent ≡ [] → log.taken ≡ []
    → Forks Carries pass log (record log { shape = size }) spent_log
shaped pass log size may_send may_take none_sent none_taken letters logs h at =
    let mine = h.known pass log at in
    let after : Log = record log { shape = size } in
    let rest : List Log = set logs pass after in
    let nothing : [] ≡ h.queued =
    sym none_sent ∙ (mine.sends may_send).2 ∙ h.in_order ∙ ap (λ (l : List Message). l ++ h.queued) (sym (mine.takes may_take).2 ∙ none_taken) in
    let empty : [] ≡ letters = sym (no_letters h.size letters h.queued h.spelled (sym nothing)) in
    let Now : ℕ → Log → Type 0 = Knows h.sender h.taker size h.sent h.taken in
    let now : (j : ℕ) (u : Log) → get_elem? rest j ≡ some u → Now j u =
    known_set Now logs pass after
    (record { sends = λ p. ((mine.sends p).0, refl, (mine.sends p).2); takes = λ p. ((mine.takes p).0, refl, (mine.takes p).2) })
    (λ j u other there. record {
      sends = λ p. absurd (other (((h.known j u there).sends p).0 ∙ sym (mine.sends may_send).0));
      takes = λ p. absurd (other (((h.known j u there).takes p).0 ∙ sym (mine.takes may_take).0));
    }) in
    record {
      sender = h.sender;
      taker = h.taker;
      size = size;
      sent = h.sent;
      taken = h.taken;
      queued = h.queued;
      in_order = h.in_order;
      spelled = subst (λ (y : List (SmallVec ℕ) × List Message). AreLetters size y.0 y.1) (λ i. (empty i, nothing i)) tt;
      known = λ j u there. ⊎_elim (λ (x : get_elem? rest j ≡ some u). now j u x)
          (λ (is : spent_log ≡ u). subst (λ (y : Log). Now j y) is (knows_nothing h.sender h.taker size h.sent h.taken j))
          (at_snoc rest spent_log u j there);
    }
