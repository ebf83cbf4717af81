-- Pairs of worlds in which a node sees the same.
use Rattle.std.proofs.Common.{◌≡◌, ℕ, ◌+◌, true, List, [], ◌∷◌, length, refl, sym, ◌∙◌, ap}
use Rattle.std.specs.Prelude.{map, filter}
use Rattle.qkd_base.specs.declared.lane.Lane.{Lane}
use Rattle.net_model.specs.OctetSequence.{first_blocks}
use Rattle.net_model.specs.Site.{sender, receiver, outgoing_lanes}
use Rattle.net_model.specs.World.{Network, World, Owner, needs, planned}
use Rattle.net_model.specs.View.{Port, handed_at}
use Rattle.net_model.specs.Needed.{masked, view_of, port_at}
use Rattle.net_model.specs.Doubt.{Extends}
use Rattle.net_model.specs.Invariant.{Conserved}
use Rattle.law_base.proofs.Grow.{needs_grows}
use Rattle.law_base.proofs.Seen.{bare_view}
use Rattle.law_invariant.proofs.Outgoing.{AreOutgoing, outgoing_each}
use Rattle.law_locality.proofs.Durables.{SameDurable, same_durable, same_durable_then}

-- Everything that the turns of node v depend on is the same in both worlds.
pub record SameFor (net : Network) (v : ℕ) (a b : World) : Type 0 where
  pub durable : SameDurable net.site v a.durable b.durable
  pub unclaimed : (l : Lane) → sender net.site l ≡ v → b.unclaimed l ≡ a.unclaimed l
  pub links : b.link_up ≡ a.link_up
  pub frames : b.frames ≡ a.frames
  pub wire : b.wire ≡ a.wire
  pub recovered : b.recovered ≡ a.recovered
  pub up : b.up v ≡ a.up v
  pub drawn : b.drawn v ≡ a.drawn v
  pub journal : b.journal v ≡ a.journal v
  pub volatile : b.volatile v ≡ a.volatile v

pub same_for : (net : Network) (v : ℕ) (w : World) → SameFor net v w w
same_for net v w =
    record {
      durable = same_durable net.site v w.durable;
      unclaimed = λ l e. refl;
      links = refl;
      frames = refl;
      wire = refl;
      recovered = refl;
      up = refl;
      drawn = refl;
      journal = refl;
      volatile = refl;
    }

pub same_for_then : (net : Network) (v : ℕ) (a b c : World) → SameFor net v a b → SameFor net v b c → SameFor net v a c
same_for_then net v a b c h k =
    record {
      durable = same_durable_then net.site v a.durable b.durable c.durable h.durable k.durable;
      unclaimed = λ l e. k.unclaimed l e ∙ h.unclaimed l e;
      links = k.links ∙ h.links;
      frames = k.frames ∙ h.frames;
      wire = k.wire ∙ h.wire;
      recovered = k.recovered ∙ h.recovered;
      up = k.up ∙ h.up;
      drawn = k.drawn ∙ h.drawn;
      journal = k.journal ∙ h.journal;
      volatile = k.volatile ∙ h.volatile;
    }

all_pass : {A : Type 0} (xs : List A) → filter (λ x. true) xs ≡ xs
all_pass [] = refl
all_pass (x ∷ xs) = ap (λ ys. x ∷ ys) (all_pass xs)

-- A node sees the same if its own facts, its marks, the ends of its lanes and its memory are the same.
module _ (net : Network) (v : ℕ) (a b : World) (x : Extends net.site v a.durable b.durable) (ends : (l : Lane) → sender net.site l ≡ v → planned b l ≡ planned a l)
    (leases : (l : Lane) → sender net.site l ≡ v → b.recovered l ≡ a.recovered l) where
  abbrev port_with : Lane → ℕ → ℕ → ℕ → ℕ → Port
  port_with l blocks lease end again = record { lane = l; blocks = first_blocks (net.device l.link) blocks; lease = lease; planned = end; recovered = again }

  port_same : (l : Lane) → sender net.site l ≡ v → port_at net b l ≡ port_at net a l
  port_same l at =
      let blocks = x.taken l at in
      let lease = x.leases l at in
      let end = ends l at in
      let again = leases l at in
      λ i. port_with l (blocks i) (lease i) (end i) (again i)

  ports_same : (ls : List Lane) → AreOutgoing net.site v ls → map (port_at net b) ls ≡ map (port_at net a) ls
  ports_same [] ok = refl
  ports_same (l ∷ ls) ok = let one = port_same l ok.0 in let rest = ports_same ls ok.2 in λ i. one i ∷ rest i

  outgoing_same : map (port_at net b) (outgoing_lanes net.site v) ≡ map (port_at net a) (outgoing_lanes net.site v)
  outgoing_same =
      ap (map (port_at net b)) (sym (all_pass (outgoing_lanes net.site v))) ∙
      ports_same (filter (λ l. true) (outgoing_lanes net.site v)) (outgoing_each net.site v (λ l. true)) ∙
      ap (map (port_at net a)) (all_pass (outgoing_lanes net.site v))

  bare_same : b.durable.acked v ≡ a.durable.acked v → b.durable.closed v ≡ a.durable.closed v → handed_at net.site v b.durable.handed ≡ handed_at net.site v a.durable.handed →
      b.volatile v ≡ a.volatile v → bare_view net b v ≡ bare_view net a v
  bare_same acked closed handed volatile =
      let seen = x.seen in
      let ports = outgoing_same in
      λ i. record { me = v; facts = seen i; acked = acked i; handed = handed i; closed = closed i; ports = ports i; volatile = volatile i }

  pub view_like : b.durable.acked v ≡ a.durable.acked v → b.durable.closed v ≡ a.durable.closed v → handed_at net.site v b.durable.handed ≡ handed_at net.site v a.durable.handed →
      b.volatile v ≡ a.volatile v → view_of net b v ≡ view_of net a v
  unfolding view_of
  view_like acked closed handed volatile = ap masked (bare_same acked closed handed volatile)

-- The planned end of a lane is the same if its owners and orders are, even if the table has grown.
module _ (net : Network) (v : ℕ) (a b : World) (c : Conserved net a) (d : SameDurable net.site v a.durable b.durable)
    (orders : (l : Lane) → sender net.site l ≡ v → b.unclaimed l ≡ a.unclaimed l) where
  needs_same : (l : Lane) → sender net.site l ≡ v → needs b.durable.facts (b.unclaimed l) ≡ needs a.durable.facts (a.unclaimed l)
  needs_same l at =
      ap (needs b.durable.facts) (orders l at) ∙
      needs_grows a.durable.facts b.durable.facts a.durable.known b.durable.known d.extends.grows d.extends.more (sender net.site l) (receiver net.site l) (a.unclaimed l)
      (c.now.carried l).wanted

  pub planned_same : (l : Lane) → sender net.site l ≡ v → planned b l ≡ planned a l
  planned_same l at =
      ap (λ (os : List Owner). length os + needs b.durable.facts (b.unclaimed l)) (d.own l at) ∙
      ap (λ (n : ℕ). length (a.durable.own l) + n) (needs_same l at)

pub view_same : (net : Network) (v : ℕ) (a b : World) → Conserved net a → SameFor net v a b → view_of net b v ≡ view_of net a v
view_same net v a b c h =
    view_like net v a b h.durable.extends (planned_same net v a b c h.durable h.unclaimed) (λ l at. ap (λ (f : Lane → ℕ). f l) h.recovered)
    h.durable.acked h.durable.closed h.durable.handed h.volatile
