-- A lane that is idle, with nothing in flight, is still. Silent rounds leave it still.
use Rattle.std.proofs.Common.{◌≡◌, ℕ, Bool, true, false, ◌&&◌, List, [], ◌∷◌, map, refl, sym, ◌∙◌, ap, subst, Some, inl, inr}
use Rattle.std.specs.Prelude.{slice_get, is_none, if◌then◌else◌}
use Rattle.std.specs.List.{list_any}
use Rattle.qkd_base.specs.Name.{Name, name_eq, has}
use Rattle.qkd_base.specs.Lane.{lane_eq, reverse_lane}
use Rattle.qkd_base.specs.Route.{next_after}
use Rattle.qkd_base.specs.declared.lane.Lane.{Lane}
use Rattle.net_model.specs.declared.fact.Fact.{Fact}
use Rattle.net_model.specs.Table.{route_of, fact_at}
use Rattle.net_model.specs.Premises.{IsNetwork}
use Rattle.net_model.specs.Knowledge.{IsAdjacent}
use Rattle.net_model.specs.Site.{sender, receiver}
use Rattle.net_model.specs.World.{Network, World, Transmission, PendingAck, Volatile, first}
use Rattle.net_model.specs.View.{View}
use Rattle.net_model.specs.Needed.{masked, view_of}
use Rattle.net_model.specs.Window.{age, sent_again}
use Rattle.net_model.specs.Plan.{plan}
use Rattle.net_model.specs.Relay.{owed}
use Rattle.net_model.specs.Invariant.{Conserved}
use Rattle.net_model.specs.Step.{is_node}
use Rattle.law_base.proofs.Base.{by_test, name_eq_same, not_both}
use Rattle.law_base.proofs.Lists.{any_of}
use Rattle.law_invariant.proofs.Effects.{apart_cases}
use Rattle.law_invariant.proofs.Seen.{seen_is}
use Rattle.law_invariant.proofs.Steps.{first_keeps}
use Rattle.law_invariant.proofs.Wanted.{owed_known}
use Rattle.law_quiet.specs.Silent.{IsIdle, ticked, after_ticks, AreIdle}
use Rattle.law_quiet.specs.Still.{flies_on, IsStill}
use Rattle.law_quiet.proofs.Changes.{aged_same, again_same, any_sent}
use Rattle.law_quiet.proofs.Delivering.{has_answer}
use Rattle.law_quiet.proofs.IdleLanes.{IsIdleOn}
use Rattle.law_quiet.proofs.IdlePlans.{effect}
use Rattle.law_quiet.proofs.IdleTicks.{ticks}
use Rattle.law_quiet.proofs.Owing.{owed_is_open}
use Rattle.law_quiet.proofs.Rounds.{IsCalm, AreNodes, calm_turn, calm_round}

none_there : {A : Type 0} (xs : List A) → ((a : A) → slice_get xs 0 ≡ Some a → ⊥) → xs ≡ []
none_there [] h = refl
none_there (x ∷ xs) h = absurd (h x refl)

-- A node owes nothing where all that it knows was acknowledged.
pub owed_none : (net : Network) (w : World) → Conserved net w → (u v : ℕ) →
    ((n : Name) (f : Fact) → fact_at w.durable.facts n ≡ Some f → next_after (route_of f) u ≡ Some v → has (w.durable.known u) n ≡ true → has (w.durable.acked u) n ≡ true) → owed (view_of net w u) v ≡ []
owed_none net w c u v paid = none_there (owed (view_of net w u) v) (λ n at.
    let x : IsAdjacent w.durable.facts w.durable.known u u v n = owed_known net w u c v 0 n (subst (λ (a : View). slice_get (owed a v) 0 ≡ Some n) (seen_is net w u) at) in
    let owes : has (owed (view_of net w u) v) n ≡ true = any_of (λ (m : Name). name_eq m n) (owed (view_of net w u) v) n 0 at (name_eq_same n) in
    not_both (has (w.durable.acked u) n) (paid n x.fact x.there x.next x.knows) (owed_is_open net w u v n owes))

pub idle_still : (net : Network) (w : World) (l : Lane) → Conserved net w → IsIdleOn net w l → list_any (flies_on l) (w.volatile (sender net.site l)).window ≡ false → IsStill net w l
idle_still net w l c idle flies = record {
  owes = owed_none net w c (sender net.site l) (receiver net.site l) (idle.paid flies);
  flies = flies;
  answers = idle.pending;
}

-- In the first world each lane is still.
pub first_still : (net : Network) (l : Lane) → IsStill net first l
unfolding first
first_still net l = record { owes = owed_none net first (first_keeps net) (sender net.site l) (receiver net.site l) (λ n f there. cc); flies = refl; answers = refl }

module _ (net : Network) (network : IsNetwork net) (w : World) (l : Lane) where
  abbrev from : ℕ
  from = sender net.site l

  abbrev Rests : Volatile → Type 0
  Rests vol = (list_any (flies_on l) vol.window ≡ false) × (list_any (λ (a : PendingAck). lane_eq a.lane (reverse_lane l)) vol.pending_acks ≡ false)

  rest_plan : (x : World) (v : ℕ) → Rests (x.volatile v) → Rests (effect net x v).volatile
  unfolding plan view_of masked
  rest_plan x v h =
      let p : Transmission → Bool = λ t. lane_eq t.lane l && is_none t.received_offset in
      (any_sent p (sent_again _) (again_same _) (map age (x.volatile v).window) ∙ any_sent p age aged_same (x.volatile v).window ∙ h.0, h.1)

  rest_tick : (x : World) → IsCalm net w x → (v : ℕ) → is_node net v ≡ true → IsIdle net x v → Rests (x.volatile from) → Rests ((ticked net x v).volatile from)
  rest_tick x calm v node idle h =
      let t = ticks net x network calm.conserved calm.quiet v node idle in
      elim (apart_cases from v) [
        | inl is ↦ subst (λ (u : ℕ). Rests ((ticked net x v).volatile u)) (sym is) (subst Rests (sym t.mine) (rest_plan x v (subst (λ (u : ℕ). Rests (x.volatile u)) is h)))
        | inr apart ↦ subst Rests (sym (t.others from apart)) h
      ]

  rest_round : (vs : List ℕ) → AreNodes net network w vs → (x : World) → IsCalm net w x → AreIdle net x vs → Rests (x.volatile from) → Rests ((after_ticks net x vs).volatile from)
  rest_round [] nodes x calm idle h = h
  rest_round (v ∷ vs) nodes x calm idle h =
      rest_round vs nodes.1 (if x.up v then ticked net x v else x) (calm_turn net network w x calm v nodes.0 idle.0) idle.1
      (by_test (λ (y : World). Rests (y.volatile from)) (x.up v) (ticked net x v) x (λ up. rest_tick x calm v nodes.0 (idle.0 up) h) (λ down. h))

  pub still_round : (vs : List ℕ) → AreNodes net network w vs → IsCalm net w w → AreIdle net w vs → IsStill net w l → IsStill net (after_ticks net w vs) l
  still_round vs nodes calm idle still =
      let after : World = after_ticks net w vs in
      let calm' : IsCalm net w after = calm_round net network w vs nodes w calm idle in
      let rests = rest_round vs nodes w calm idle (still.flies, still.answers) in
      record {
        owes = owed_none net after calm'.conserved from (receiver net.site l) (λ n f there next knows.
            ap (λ (acked : ℕ → List Name). has (acked from) n) calm'.table.acked ∙
            has_answer net w n f (sym (ap (λ (facts : List Fact). fact_at facts n) calm'.table.facts) ∙ there) from (receiver net.site l) next (ap (λ (ns : List Name). has ns n) still.owes)
            (sym (ap (λ (known : ℕ → List Name). has (known from) n) calm'.table.known) ∙ knows));
        flies = rests.0;
        answers = rests.1;
      }
