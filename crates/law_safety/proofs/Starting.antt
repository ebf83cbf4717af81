-- A start gives up all bytes below each leased end, and may find a batch in doubt or not.
use Rattle.std.proofs.Common.{◌≡◌, ℕ, ◌-◌, ◌≤◌, Bool, true, false, not, List, length, length-append, replicate, refl, sym, ◌∙◌, ap, subst, arith, Option, None}
use Rattle.std.proofs.lemmas.List.{length-replicate}
use Rattle.qkd_base.specs.declared.lane.Lane.{Lane}
use Rattle.net_model.specs.World.{Network, World, Owner, Burnt}
use Rattle.net_model.specs.Journal.{is_nil}
use Rattle.net_model.specs.Start.{burnt_to, leaves, resolved, resolved_durable, restarted, recovers, start, agrees, may_recover}
use Rattle.net_model.specs.Action.{Start, Recovers}
use Rattle.net_model.specs.Step.{step, is_node, is_quiet, is_enabled}
use Rattle.net_model.specs.Invariant.{Invariant, Conserved}
use Rattle.law_base.proofs.Base.{and_both, when_true, when_false}
use Rattle.law_base.proofs.Lists.{burnt_length}
use Rattle.law_base.proofs.Keeping.{replay_keeps}

settled : (net : Network) (w : World) → Conserved net w → (v : ℕ) (committed : Bool) → Invariant net.site (resolved_durable net.site w v committed) w.frames w.unclaimed
settled net w c v true = replay_keeps net.site w.durable w.frames w.unclaimed c.now v (w.in_doubt v).batch (c.doubts v)
settled net w c v false = c.now

given_up : (net : Network) (w : World) (v : ℕ) (l : Lane) → leaves net.site v l ≡ true → length (w.durable.own l) ≤ w.durable.lease l →
    length ((restarted net w v).durable.own l) ≡ (restarted net w v).durable.lease l
unfolding restarted
given_up net w v l at h =
    ap length (when_true (leaves net.site v l) (burnt_to (w.durable.lease l) (w.durable.own l)) (w.durable.own l) at) ∙ burnt_length (w.durable.lease l) (w.durable.own l) h

pub start_gives_up : (net : Network) (w : World) (v : ℕ) (committed : Bool) (l : Lane) → Conserved net w → w.up v ≡ false → leaves net.site v l ≡ true →
    length ((step net w (Start v (Recovers committed))).0.durable.own l) ≡ (step net w (Start v (Recovers committed))).0.durable.lease l
unfolding step start
start_gives_up net w v committed l c down at =
    let out : World = (restarted net (resolved net.site w v committed) v) in
    let is : (start net w v (Recovers committed)).0 ≡ out = ap (λ r. r.0) (when_false (w.up v) _ (recovers net w v (Recovers committed)) down) in
    let room = (settled net w c v committed).room l in
    let planned : length ((resolved net.site w v committed).durable.own l) ≤ (resolved net.site w v committed).durable.lease l = omega (arith, room.planned) in
    subst (λ (x : World). length (x.durable.own l) ≡ x.durable.lease l) (sym is) (given_up net (resolved net.site w v committed) v l at planned)

either_agrees : (has_batch committed : Bool) → has_batch ≡ true → agrees None has_batch committed ≡ true
either_agrees true true h = refl
either_agrees true false h = refl
either_agrees false committed h = cc

pub doubt_is_either : (net : Network) (w : World) (v : ℕ) (committed : Bool) → is_node net v ≡ true → w.up v ≡ false → is_quiet net w v ≡ true →
    (w.in_doubt v).checkpointed ≡ None → is_nil (w.in_doubt v).batch ≡ false → is_enabled net w (Start v (Recovers committed)) ≡ true
unfolding is_enabled may_recover
doubt_is_either net w v committed here down quiet open' some =
    and_both (is_node net v) _ here (when_false (w.up v) _ _ down ∙ and_both (is_quiet net w v) _ quiet
    (ap (λ (o : Option Bool). agrees o (not (is_nil (w.in_doubt v).batch)) committed) open' ∙ either_agrees (not (is_nil (w.in_doubt v).batch)) committed (ap not some)))
