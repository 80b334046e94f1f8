-- What stays of a cluster where memory is wanting, and what stays of it at every event.
use Rattle.std.proofs.Common.{◌≡◌, ◌∙◌, Result, Ok, Err, refl, sym, ap, subst}
use Rattle.std.specs.Prelude.{OnErr, OnOk}
use Rattle.packet_reader.specs.declared.event.Event.{Event}
use Rattle.run_model.specs.Replaying.{state_after}
use Rattle.run_model.specs.State.{ClusterState}
use Rattle.cluster_replay.specs.Cluster.{IsSameButForNodes, RunState}
use Rattle.cluster_replay.proofs.Replied.{opened_stays}

pub same_but_for_nodes : {A E : Type 0} (result : Result A E) (before now : RunState) → OnErr result (now ≡ before) → OnErr result (IsSameButForNodes before.cluster now.cluster)
same_but_for_nodes (Ok said) before now is = tt
same_but_for_nodes (Err error) before now is = subst (λ (r : RunState). r.cluster ≡ record (before.cluster) { nodes = r.cluster.nodes }) (sym is) refl

pub opening_stays : {A E : Type 0} (result : Result A E) (event : Event) (before now : ClusterState) → OnOk result (now ≡ state_after before event) → OnErr result (IsSameButForNodes before now) → now.opened ≡ before.opened
opening_stays (Ok said) event before now goes_on stays = ap (λ (s : ClusterState). s.opened) goes_on ∙ opened_stays before event
opening_stays (Err error) event before now goes_on stays = ap (λ (s : ClusterState). s.opened) stays
