-- The text of events and their replies, one line at a time.
use Rattle.std.proofs.Common.{ℕ, zero, suc, ◌≡◌, ◌∙◌, ◌+◌, ◌≤◌, ◌<◌, List, [], ◌∷◌, ◌++◌, length, drop, get_or, arith, refl, ap, sym, append_assoc, append-nil}
use Rattle.std.proofs.lemmas.List.{at_drop_more, at_drop_all}
use Rattle.packet_reader.specs.declared.event.Event.{Event}
use Rattle.packet_reader.specs.declared.event.Event.TheVariants.{Packet}
use Rattle.run_model.specs.declared.reply.Reply.{Reply}
use Rattle.run_report.specs.Report.{AreOfTheirEvents, IsOfEvent, line, lines, packets_with}

-- ---- one reply for each event

pub as_many : (script : List Event) (replies : List Reply) → AreOfTheirEvents script replies → length script ≡ length replies
as_many [] [] are = refl
as_many (event ∷ script) (reply ∷ replies) are = omega (arith, as_many script replies are.1)
as_many [] (reply ∷ replies) are = absurd are
as_many (event ∷ script) [] are = absurd are

pub of_event_at : (script : List Event) (replies : List Reply) (i : ℕ) (d : Event) (e : Reply) → AreOfTheirEvents script replies → i < length script
    → IsOfEvent (get_or script i d) (get_or replies i e)
of_event_at [] replies i d e are inside = absurd (omega arith)
of_event_at (event ∷ script) [] i d e are inside = absurd are
of_event_at (event ∷ script) (reply ∷ replies) zero d e are inside = are.0
of_event_at (event ∷ script) (reply ∷ replies) (suc i) d e are inside = of_event_at script replies i d e are.1 (omega arith)

-- there are no more packets than events
pub packets-few : (packets events : ℕ) (event : Event) → packets ≤ events → packets_with packets event ≤ events + 1
packets-few packets events (Packet ingress key) few = omega arith
packets-few packets events _ few = omega arith

-- ---- one line more

module _ (script : List Event) (replies : List Reply) (i packets : ℕ) where
  -- the lines of what is left are the next line and the lines of what is left then
  lines_more : (d : Event) (e : Reply) → i < length script → length script ≡ length replies
      → lines packets (drop i script) (drop i replies)
      ≡ line packets (get_or script i d) (get_or replies i e) ++ lines (packets_with packets (get_or script i d)) (drop (i + 1) script) (drop (i + 1) replies)
  unfolding lines
  lines_more d e inside same =
      at_drop_more (λ s. lines packets s (drop i replies)) script i d inside
      ∙ at_drop_more (λ r. lines packets (get_or script i d ∷ drop (i + 1) script) r) replies i e (omega arith)

  -- nothing left, no line
  lines_end : length script ≤ i → lines packets (drop i script) (drop i replies) ≡ []
  unfolding lines
  lines_end past = at_drop_all (λ s. lines packets s (drop i replies)) script i past

  module _ (text whole : List ℕ) (so_far : text ++ lines packets (drop i script) (drop i replies) ≡ whole) where
    -- the text with one more line
    pub text_more : (d : Event) (e : Reply) (new : List ℕ) → i < length script → length script ≡ length replies
        → new ≡ text ++ line packets (get_or script i d) (get_or replies i e)
        → new ++ lines (packets_with packets (get_or script i d)) (drop (i + 1) script) (drop (i + 1) replies) ≡ whole
    text_more d e new inside same written =
        let left = lines (packets_with packets (get_or script i d)) (drop (i + 1) script) (drop (i + 1) replies) in
        ap (λ t. t ++ left) written
        ∙ append_assoc text (line packets (get_or script i d) (get_or replies i e)) left
        ∙ ap (λ t. text ++ t) (sym (lines_more d e inside same)) ∙ so_far

    -- the text with all lines
    pub text_end : length script ≤ i → text ≡ whole
    text_end past = sym (append-nil text) ∙ ap (λ t. text ++ t) (sym (lines_end past)) ∙ so_far
