-- The issuers of a node's lanes at a block's start.
use Rattle.std.proofs.Common.{◌≡◌, ℕ, zero, suc, ◌-◌, ◌<◌, ◌≤◌, true, List, [], ◌∷◌, length, refl, sym, ap, subst, ◌∙◌, arith, Some}
use Rattle.std.specs.Prelude.{slice_get}
use Rattle.qkd_base.specs.Lane.{lane_place}
use Rattle.qkd_base.specs.declared.lane.Lane.{Lane}
use Rattle.net_model.specs.Site.{Site, sender}
use Rattle.net_model.specs.World.{Network, World, received, needs}
use Rattle.net_model.specs.Events.{is_lane}
use Rattle.declared_site.specs.SiteOf.{site_of}
use Rattle.world_state.specs.Passed.{Post, LaneStands}
use Rattle.lane_shares.specs.declared.share.Share.{Share}
use Rattle.lane_shares.specs.declared.shares.Shares.{Shares}
use Rattle.lane_shares.specs.declared.view.View.{View}
use Rattle.lane_shares.specs.Names.{lane_cap}
use Rattle.lane_shares.specs.Views.{issuer, with_amount}
use Rattle.lane_sender.specs.Lane.{LaneForm}
use Rattle.run_ops.specs.Acting.{IsReady}
use Rattle.world_state.specs.declared.state.State.{State}
use Rattle.world_state.specs.Stands.{Stands}
use Rattle.par_lanes.specs.Emitting.{grant_at}
use Rattle.par_managers.specs.Leases.{lease_at}
use Rattle.par_managers.specs.Issuing.{IsIssuing, HasIssuers}
use Rattle.par_managers.specs.Opening.{IsOpened}
use Rattle.par_managers.specs.Posts.{is_on, planned_at, received_at}
use Rattle.par_managers.proofs.Places.{same_place, lane_within}
use Rattle.par_managers.proofs.Seen.{planned_seen, received_seen}
use Rattle.world_state.specs.Outside.{Outside}

record Has {A : Type 0} (xs : List A) (i : ℕ) : Type 0 where
  x : A
  at : slice_get xs i ≡ Some x

has : {A : Type 0} (xs : List A) (i : ℕ) → i < length xs → Has xs i
has [] i below = absurd (omega (arith, below))
has (y ∷ ys) zero below = record { x = y; at = refl }
has (y ∷ ys) (suc i) below = let rest = has ys i (omega (arith, below)) in record { x = rest.x; at = rest.at }

issuing_all : (lease used received : ℕ) (planned' : ℕ) (v : View) → planned' ≡ used → v ≡ with_amount (issuer lease lease received) (lease - used) → IsIssuing planned' lease v
issuing_all lease used received planned' v same is =
    subst (IsIssuing planned' lease) (sym is) (record { issues = refl; has = omega arith; behind = omega (arith, same); under = omega arith })

module _ {K Q E X : Type 0} (outside : Outside K Q E X) (opening : State K Q E X) (net : Network) (w : World) (ready : IsReady (Stands outside) opening net w)
    (v : ℕ) (post : Post K E) (there : slice_get opening.posts.items v ≡ Some post) (shares : List Shares) (issuers : List Share) (lanes : length shares ≡ length opening.lanes.items)
    (opened : (l : Lane) (side : LaneForm X) (d : Shares) → is_lane (site_of opening.site) l ≡ true → sender (site_of opening.site) l ≡ v → slice_get opening.lanes.items (lane_place l) ≡ Some side →
    slice_get shares (lane_place l) ≡ Some d → IsOpened post side d (grant_at (lane_place l) issuers)) where
  module _ (l : Lane) (at : is_lane net.site l ≡ true) (from : sender net.site l ≡ v) (on : is_on post ≡ true) where
    below : lane_place l < length opening.lanes.items
    below = let within = lane_within net.site l at in let sides = ready.stands.sides in omega (arith, within, sides)

    side : Has opening.lanes.items (lane_place l)
    side = has opening.lanes.items (lane_place l) below

    d : Has shares (lane_place l)
    d = has shares (lane_place l) (let within = below in omega (arith, within, lanes))

    lane : LaneStands outside.wire net w l side.x
    lane = ready.stands.lanes l side.x at (ap (slice_get opening.lanes.items) (same_place l) ∙ side.at)

    here : (e : Shares) → slice_get shares (lane_place l) ≡ Some e → IsOpened post side.x e (grant_at (lane_place l) issuers)
    here e is =
        opened l side.x e (subst (λ (s : Site). is_lane s l ≡ true) ready.stands.sited at) (subst (λ (s : Site). sender s l ≡ v) ready.stands.sited from) side.at is

    used : planned_at post l ≡ side.x.ledger.used
    used =
        let seen = planned_seen outside.disk outside.entropy net w v ready.stands.running l at from post (ready.stands.posts v post there) on in
        let none = ap (needs w.durable.facts) (ready.quiet.claimed l) in
        let own = lane.used in
        omega (arith, seen, none, own)

    issuing : IsIssuing (planned_at post l) (lease_at post l) (grant_at (lane_place l) issuers)
    issuing =
        issuing_all (lease_at post l) side.x.ledger.used side.x.ledger.received (planned_at post l) (grant_at (lane_place l) issuers) used
        (subst (λ (k : Lane). grant_at (lane_place l) issuers ≡ with_amount (issuer (lease_at post k) (lease_at post k) side.x.ledger.received) (lease_at post k - side.x.ledger.used)) lane.lane
        ((here d.x d.at).issued on))

    capped : (e : Shares) → slice_get shares (lane_place l) ≡ Some e → received_at post l ≤ lane_cap e
    capped e is =
        let seen = received_seen outside.disk outside.entropy net w v ready.stands.running l at from post (ready.stands.posts v post there) on in
        let got = lane.received in
        let cap = (here e is).cap in
        omega (arith, seen, got, cap)

  pub issued_first : HasIssuers (site_of opening.site) v post shares issuers
  issued_first =
      subst (λ (s : Site). HasIssuers s v post shares issuers) ready.stands.sited
      (record { issuing = λ l at from on. issuing l at from on; capped = λ l e at from on is. capped l at from on e is })
