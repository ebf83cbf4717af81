-- A lane byte that a frame covers belongs to that frame, and isn't part of the hash key.
use Rattle.std.proofs.Common.{◌≡◌, ◌∙◌, ℕ, ◌+◌, ◌<◌, ◌≤◌, true, false, ◌&&◌, length, Option, Some, None, sym, ap, arith}
use Rattle.std.specs.Prelude.{nat_lt, slice_get}
use Rattle.std.proofs.lemmas.Bool.Decides.{nat_tests}
use Rattle.qkd_base.specs.declared.lane.Lane.{Lane}
use Rattle.net_model.specs.Item.{need}
use Rattle.net_model.specs.World.{Network, World, Allocation, Owner, HashKey, Frame, Burnt, received}
use Rattle.net_model.specs.Ownership.{is_frame, is_key, covers}
use Rattle.net_model.specs.Invariant.{Conserved}
use Rattle.law_safety.proofs.Covers.{in_range}

framed : (j : ℕ) (o : Option Owner) → is_frame j o ≡ true → o ≡ Some (Frame j)
framed j None h = cc
framed j (Some HashKey) h = cc
framed j (Some (Frame k)) h = ap (λ n. Some (Frame n)) (let same : k ≡ j = grind (arith, nat_tests) in same)
framed j (Some Burnt) h = cc

pub one_place : (net : Network) (w : World) → Conserved net w → (l : Lane) (j x : ℕ) (a : Allocation) → slice_get (w.frames l) j ≡ Some a →
    a.offset ≤ x → x < a.offset + need w.durable.facts a.item → slice_get (w.durable.own l) x ≡ Some (Frame j)
one_place net w k l j x a at lo hi =
    framed j _ ((k.now.owned l).frame x j ∙ ap (λ (o : Option Allocation). covers w.durable.facts o x) at ∙ in_range w.durable.facts a x lo hi)

no_key : (x got : ℕ) → (nat_lt x 8 && nat_lt 0 got) ≡ false → 0 < got → 8 ≤ x
no_key x got h some = grind (arith, nat_tests)

pub past_the_key : (net : Network) (w : World) → Conserved net w → (l : Lane) (j x : ℕ) (a : Allocation) → slice_get (w.frames l) j ≡ Some a →
    a.offset ≤ x → x < a.offset + need w.durable.facts a.item → x < length (w.durable.own l) → 8 ≤ x
past_the_key net w k l j x a at lo hi within =
    no_key x (received w.durable l) (sym ((k.now.owned l).key x) ∙ ap is_key (one_place net w k l j x a at lo hi))
    (let leased = (k.now.room l).leased in let planned = (k.now.room l).planned in omega arith)
