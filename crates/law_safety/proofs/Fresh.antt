-- The next count of a node is above the counts of all names that it gave.
use Rattle.std.proofs.Common.{◌≡◌, ℕ, ◌+◌, ◌<◌, sym, ◌∙◌, ap, subst, arith, Some}
use Rattle.qkd_base.specs.Name.{Name}
use Rattle.net_model.specs.declared.fact.Fact.{Fact}
use Rattle.net_model.specs.Table.{PartOf, part_of, fact_at}
use Rattle.net_model.specs.World.{Network, World}
use Rattle.net_model.specs.Needed.{view_of}
use Rattle.net_model.specs.Decision.{last_count, next_count}
use Rattle.net_model.specs.Invariant.{Conserved}
use Rattle.law_base.proofs.Seen.{bare_view, view_sees, view_me}
use Rattle.law_invariant.proofs.Made.{IsBelow, is_below}

below : (net : Network) (w : World) → Conserved net w → (v : ℕ) → IsBelow w.durable v (last_count v (view_of net w v).facts)
below net w c v =
    subst (λ (u : ℕ). IsBelow w.durable u (last_count u (view_of net w v).facts)) (view_me net w v)
    (is_below net.site w.durable w.frames w.unclaimed c.now (view_of net w v) (bare_view net w v) (view_sees net w v))

next_is : (net : Network) (w : World) (v : ℕ) → next_count (view_of net w v) ≡ last_count v (view_of net w v).facts + 1
next_is net w v = ap (λ (u : ℕ). last_count u (view_of net w v).facts + 1) (view_me net w v)

pub fact_below : (net : Network) (w : World) → Conserved net w → (v : ℕ) (n : Name) (f : Fact) → fact_at w.durable.facts n ≡ Some f → n.node ≡ v → n.count < next_count (view_of net w v)
fact_below net w c v n f there at = let low = (below net w c v).table n f there at in let next = next_is net w v in omega (arith, low, next)

pub key_below : (net : Network) (w : World) → Conserved net w → (v : ℕ) (n : Name) (f : Fact) (p : PartOf) → fact_at w.durable.facts n ≡ Some f → part_of f ≡ Some p → p.key.node ≡ v →
    p.key.count < next_count (view_of net w v)
key_below net w c v n f p there is at =
    let mine : n.node ≡ v = (c.now.table n f there).maker ∙ sym (c.now.groups.own n f p there is).0 ∙ at in
    let low = (below net w c v).keys n f p there is mine at in
    let next = next_is net w v in
    omega (arith, low, next)
