-- Phase after phase, what owners and lanes have said is allowed.
use Rattle.std.proofs.Common.{◌≡◌, ◌∙◌, ◌<◌, ℕ, zero, suc, List, [], ◌∷◌, ◌++◌, sym, ap, subst, append_assoc}
use Rattle.packet_reader.specs.declared.event.Event.{Event}
use Rattle.packet_reader.specs.declared.event.Event.TheVariants.{Sync}
use Rattle.run_model.specs.declared.reply.Reply.{Reply}
use Rattle.run_model.specs.declared.reply.Reply.TheVariants.{Synced}
use Rattle.run_model.specs.Allowed.{Allowed}
use Rattle.run_model.specs.Laws.{CanBeOpened, no_journals}
use Rattle.run_model.specs.State.{ClusterOpening, Journals}
use Rattle.run_model.specs.Told.{EachPacket, GoesByRecord}
use Rattle.storm_model.specs.Laws.{IsStormSaid, StormsAreAllowed, StormsGoByRecords}
use Rattle.storm_model.specs.Phase.{packets_after}
use Rattle.storm_model.proofs.Phases.{IsReached, allowed-last, reached-first, reached-sync}

shifted : {A : Type 0} (done script : List A) (last : A) (rest : List A) → (done ++ (script ++ last ∷ [])) ++ rest ≡ done ++ (script ++ last ∷ rest)
shifted done script last rest =
    append_assoc done (script ++ last ∷ []) rest ∙ ap (λ l. done ++ l) (append_assoc script (last ∷ []) rest)

module _ (opened : ClusterOpening) (lanes : ℕ) (can : CanBeOpened opened) (some : 0 < lanes) where
  abbrev Holds : List Event → List Reply → Type 0
  Holds script replies = Allowed opened lanes script replies × EachPacket opened (GoesByRecord opened) (no_journals opened) script replies

  goes-on : (syncs : ℕ) (done : List Event) (before : List Reply) (journals : Journals) (packets : ℕ) → IsReached opened lanes done before journals packets
      → (script : List Event) (replies : List Reply) → IsStormSaid opened lanes syncs journals packets script replies → Holds (done ++ script) (before ++ replies)
  goes-on zero done before journals packets reached script replies said =
      allowed-last opened lanes can.shape some done before journals said.0 packets reached script replies said.1
  goes-on (suc syncs) done before journals packets reached script replies (ends, phase, rest, said, more, whole, all, here, later) =
      subst (λ (p : List Event × List Reply). Holds p.0 p.1)
      (λ i. ((shifted done phase Sync rest ∙ ap (λ (es : List Event). done ++ es) (sym whole)) i, (shifted before said Synced more ∙ ap (λ (rs : List Reply). before ++ rs) (sym all)) i))
      (goes-on syncs (done ++ (phase ++ Sync ∷ [])) (before ++ (said ++ Synced ∷ [])) ends (packets_after packets phase)
      (reached-sync opened lanes can.shape some done before journals ends packets reached phase said here) rest more later)

pub storms_are_allowed : StormsAreAllowed
storms_are_allowed opened lanes syncs script replies can some said =
    (goes-on opened lanes can some syncs [] [] (no_journals opened) 0 (reached-first opened lanes can) script replies said).0

pub storms_go_by_records : StormsGoByRecords
storms_go_by_records opened lanes syncs script replies can some said =
    (goes-on opened lanes can some syncs [] [] (no_journals opened) 0 (reached-first opened lanes can) script replies said).1
