-- The leases of lanes, as a manager has them, in order of the lanes' places.
use Rattle.std.specs.Prelude.{◌≡◌, ℕ, ◌<◌, true, List, length, slice_get, Option, Some, None}
use Rattle.qkd_base.specs.declared.lane.Lane.{Lane}
use Rattle.net_model.specs.Site.{Site, sender}
use Rattle.net_model.specs.View.{port_of}
use Rattle.net_model.specs.Events.{is_lane}
use Rattle.world_state.specs.Passed.{lease_of, Post, On, Off}
use Rattle.world_state.specs.Stands.{place_of}

-- a lane's lease, as its node's manager has it; 0 without a manager
abbrev pub lease_at : {K E : Type 0} → Post K E → Lane → ℕ
lease_at (On m) l = lease_of (port_of m.view l.link)
lease_at (Off disk entropy) l = 0

-- The value is the lease of the lane if it leaves the node. For any other lane, it is the value that was there.
pub record EndsOf (s : Site) (v : ℕ) (end : Lane → ℕ) (l : Lane) (before now : ℕ) : Type 0 where
  pub mine : sender s l ≡ v → now ≡ end l
  pub other : (sender s l ≡ v → ⊥) → now ≡ before

-- The value is that of the lane at a place.
abbrev pub EndsAt : Site → (v : ℕ) → (Lane → ℕ) → (place before now : ℕ) → Type 0
EndsAt s v end place before now = (l : Lane) → is_lane s l ≡ true → place_of l ≡ place → EndsOf s v end l before now

-- The leases of the lanes that leave the node were written down.
pub record WroteOf {K E : Type 0} (s : Site) (v : ℕ) (post : Post K E) (old new : List ℕ) : Type 0 where
  pub sides : length new ≡ length old
  pub mine : (l : Lane) → is_lane s l ≡ true → sender s l ≡ v → place_of l < length old → slice_get new (place_of l) ≡ Some (lease_at post l)
  pub others : (l : Lane) → is_lane s l ≡ true → (sender s l ≡ v → ⊥) → slice_get new (place_of l) ≡ slice_get old (place_of l)

-- If a plan was replied, the leases were written down.
abbrev pub WroteAt : {K E : Type 0} → Site → (v : ℕ) → (planner : Option ℕ) → Post K E → (old new : List ℕ) → Type 0
WroteAt s v None post old new = new ≡ old
WroteAt s v (Some u) post old new = WroteOf s v post old new
