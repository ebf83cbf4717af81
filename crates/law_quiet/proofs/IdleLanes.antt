-- What a silent round shows of each lane over a link that is up: nothing is due there, no acknowledgement is to be sent there, and
-- what is known and not in flight was acknowledged.
use Rattle.std.proofs.Common.{◌≡◌, ℕ, true, false, ◌&&◌, ◌||◌, List, [], ◌∷◌, map, refl, sym, ◌∙◌, ap, subst, Some}
use Rattle.std.specs.Prelude.{◌==◌, if◌then◌else◌}
use Rattle.std.specs.List.{list_any}
use Rattle.qkd_base.specs.Name.{Name, has}
use Rattle.qkd_base.specs.Lane.{lane_eq, reverse_lane}
use Rattle.qkd_base.specs.Route.{next_after}
use Rattle.qkd_base.specs.declared.lane.Lane.{Lane}
use Rattle.net_model.specs.declared.fact.Fact.{Fact}
use Rattle.net_model.specs.Table.{route_of, fact_at}
use Rattle.net_model.specs.Premises.{IsNetwork}
use Rattle.net_model.specs.Events.{is_lane}
use Rattle.net_model.specs.Site.{sender, receiver}
use Rattle.net_model.specs.World.{Network, World, Entry, PendingAck, Volatile}
use Rattle.net_model.specs.Window.{age}
use Rattle.net_model.specs.Step.{is_node}
use Rattle.law_base.proofs.Base.{by_test, eq_from, eq_same, not_both}
use Rattle.law_quiet.specs.Silent.{IsIdle, ticked, AreIdle}
use Rattle.law_quiet.specs.Still.{flies_on}
use Rattle.law_quiet.proofs.Delivering.{has_answer}
use Rattle.law_quiet.proofs.Windows.{none_due}
use Rattle.law_quiet.proofs.Standing.{none_pend, none_owed}
use Rattle.law_quiet.proofs.IdleTicks.{ticks}
use Rattle.law_quiet.proofs.Rounds.{IsCalm, AreNodes, calm_turn, puts, alive_still, paid_before, none_awaited}

pub record IsIdleOn (net : Network) (w : World) (l : Lane) : Type 0 where
  pub due : list_any (λ (e : Entry). lane_eq e.transmission.lane l && e.due) (map age (w.volatile (sender net.site l)).window) ≡ false
  pub pending : list_any (λ (a : PendingAck). lane_eq a.lane (reverse_lane l)) (w.volatile (sender net.site l)).pending_acks ≡ false
  pub paid : list_any (flies_on l) (w.volatile (sender net.site l)).window ≡ false → (n : Name) (f : Fact) → fact_at w.durable.facts n ≡ Some f →
      next_after (route_of f) (sender net.site l) ≡ Some (receiver net.site l) → has (w.durable.known (sender net.site l)) n ≡ true → has (w.durable.acked (sender net.site l)) n ≡ true

module _ (net : Network) (network : IsNetwork net) (w : World) (l : Lane) (site : is_lane net.site l ≡ true) (joined : w.link_up l.link ≡ true) (alive : w.up (sender net.site l) ≡ true) where
  abbrev from : ℕ
  from = sender net.site l

  idle_here : (x : World) → IsCalm net w x → is_node net from ≡ true → IsIdle net x from → x.volatile from ≡ w.volatile from → IsIdleOn net w l
  idle_here x calm node idle same =
      let nothing = puts net network w l site joined alive x calm node idle in
      let awaits = none_awaited net network w l site joined alive x calm in
      record {
        due = ap (λ (vol : Volatile). list_any (λ (e : Entry). lane_eq e.transmission.lane l && e.due) (map age vol.window)) (sym same) ∙ none_due (map age (x.volatile from).window) l nothing.due;
        pending = ap (λ (vol : Volatile). list_any (λ (a : PendingAck). lane_eq a.lane (reverse_lane l)) vol.pending_acks) (sym same) ∙ none_pend net x l nothing calm.conserved awaits;
        paid = λ flies.
            let owes = none_owed net x l nothing calm.conserved awaits (ap (λ (vol : Volatile). list_any (flies_on l) vol.window) same ∙ flies) in
            paid_before net network w l site joined alive w.durable x.durable calm.table
            (λ n f there next knows. has_answer net x n f there from (receiver net.site l) next (ap (λ (ns : List Name). has ns n) owes) knows);
      }

  same_turn : (x : World) → IsCalm net w x → (v : ℕ) → (v == from) ≡ false → is_node net v ≡ true → (x.up v ≡ true → IsIdle net x v) → x.volatile from ≡ w.volatile from →
      (if x.up v then ticked net x v else x).volatile from ≡ w.volatile from
  same_turn x calm v apart node idle same =
      by_test (λ (y : World). y.volatile from ≡ w.volatile from) (x.up v) (ticked net x v) x
      (λ up. (ticks net x network calm.conserved calm.quiet v node (idle up)).others from (λ is. not_both (v == from) (ap (λ (u : ℕ). v == u) is ∙ eq_same v) apart) ∙ same) (λ down. same)

  -- The lane's sender is idle in its turn.
  pub idles : (vs : List ℕ) → AreNodes net network w vs → list_any (λ v. v == from) vs ≡ true → (x : World) → IsCalm net w x → AreIdle net x vs → x.volatile from ≡ w.volatile from → IsIdleOn net w l
  idles [] nodes on x calm idle same = cc
  idles (v ∷ vs) nodes on x calm idle same = elim (v == from) as (λ t. (v == from) ≡ t → (t ≡ true → IsIdleOn net w l) → ((t || list_any (λ u. u == from) vs) ≡ true) → IsIdleOn net w l) [
    | true ↦ λ is here on'. here refl
    | false ↦ λ apart here on'.
        idles vs nodes.1 on' (if x.up v then ticked net x v else x) (calm_turn net network w x calm v nodes.0 idle.0) idle.1 (same_turn x calm v apart nodes.0 idle.0 same)
  ] refl (λ is.
      let e : v ≡ from = eq_from v from is in
      subst (λ (u : ℕ). is_node net u ≡ true → (x.up u ≡ true → IsIdle net x u) → IsIdleOn net w l) (sym e)
      (λ node idle'. idle_here x calm node (idle' (alive_still net network w l site joined alive x calm)) same) nodes.0 idle.0) on
