-- After a block's claims, the frames of its new orders are the last ones of their lanes, and wait for the wires.
use Rattle.std.proofs.Common.{◌≡◌, ℕ, ◌+◌, Bool, true, false, List, [], ◌∷◌, ◌++◌, length, map, refl, sym, ◌∙◌, ap, subst, append_assoc, append-nil}
use Rattle.std.specs.Prelude.{filter, if◌then◌else◌}
use Rattle.std.proofs.lemmas.List.{length-append}
use Rattle.qkd_base.specs.Lane.{lane_eq}
use Rattle.qkd_base.specs.Family.{lane_set}
use Rattle.qkd_base.specs.declared.lane.Lane.{Lane}
use Rattle.net_model.specs.declared.order.Order.{Order}
use Rattle.net_model.specs.World.{Network, World, Allocation, Outgoing}
use Rattle.net_model.specs.Tick.{item_in, ordered}
use Rattle.net_model.specs.Frames.{allocate}
use Rattle.net_model.specs.Step.{step, run}
use Rattle.law_base.proofs.Base.{lane_eq_from, lane_same}
use Rattle.law_locality.proofs.Claims.{lanes_apart}
use Rattle.law_locality.proofs.Runs.{run_none, run_one}
use Rattle.law_parallel.proofs.Claims.{claim}

-- The frames of new orders, numbered from n on.
abbrev pub fresh : ℕ → List Order → List Outgoing
fresh n [] = []
fresh n (o ∷ os) = record { frame = n; transmission = ordered o; fresh = true } ∷ fresh (n + 1) os

-- The second list has the first as a prefix.
pub record IsMore (before after : List Allocation) : Type 0 where
  pub more : List Allocation
  pub is : after ≡ before ++ more

pub no_more : (xs : List Allocation) → IsMore xs xs
no_more xs = record { more = []; is = sym (append-nil xs) }

pub more_then : (xs ys zs : List Allocation) → IsMore xs ys → IsMore ys zs → IsMore xs zs
more_then xs ys zs h k = record { more = h.more ++ k.more; is = k.is ∙ ap (λ (fs : List Allocation). fs ++ k.more) h.is ∙ append_assoc xs h.more k.more }

module _ (net : Network) where
  abbrev pub mine : Lane → List Order → List Order
  mine l os = filter (λ (o : Order). lane_eq o.lane l) os

  -- One claim appends one frame to its lane.
  pub record IsOneMore (w x : World) (o : Order) : Type 0 where
    pub frames : x.frames ≡ lane_set w.frames o.lane (w.frames o.lane ++ record { offset = length (w.durable.own o.lane); item = item_in o.payload } ∷ [])
    pub outgoing : x.outgoing ≡ lane_set w.outgoing o.lane (w.outgoing o.lane ++ record { frame = length (w.frames o.lane); transmission = ordered o; fresh = true } ∷ [])

  pub one_claim : (w : World) (o : Order) → IsOneMore w (step net w (claim o)).0 o
  unfolding step allocate
  one_claim w o = record { frames = refl; outgoing = refl }

  pub record IsClaimed (w x : World) (os : List Order) (l : Lane) : Type 0 where
    pub frames : IsMore (w.frames l) (x.frames l)
    pub outgoing : x.outgoing l ≡ w.outgoing l ++ fresh (length (w.frames l)) (mine l os)

  -- What a claim does on its own lane and on others.

  abbrev Now : World → Order → List Order → List Allocation → List Outgoing → Lane → Bool → Type 0
  Now w o os frames outgoing l t =
      IsMore (w.frames l) frames × (outgoing ++ fresh (length frames) (mine l os) ≡ w.outgoing l ++ fresh (length (w.frames l)) (if t then o ∷ mine l os else mine l os))

  here : (w : World) (o : Order) (os : List Order) (a : Allocation) (l : Lane) →
      Now w o os (w.frames l ++ a ∷ []) (w.outgoing l ++ record { frame = length (w.frames l); transmission = ordered o; fresh = true } ∷ []) l true
  here w o os a l =
      let size : length (w.frames l ++ a ∷ []) ≡ length (w.frames l) + 1 = length-append (w.frames l) (a ∷ []) in
      let last : Outgoing = record { frame = length (w.frames l); transmission = ordered o; fresh = true } in (
        record { more = a ∷ []; is = refl },
        ap (λ (n : ℕ). (w.outgoing l ++ last ∷ []) ++ fresh n (mine l os)) size ∙ append_assoc (w.outgoing l) (last ∷ []) (fresh (length (w.frames l) + 1) (mine l os)),
      )

  after_one : (w : World) (o : Order) (os : List Order) (l : Lane) → let x = (step net w (claim o)).0 in Now w o os (x.frames l) (x.outgoing l) l (lane_eq o.lane l)
  after_one w o os l =
      let x : World = (step net w (claim o)).0 in
      let one = one_claim w o in
      let a : Allocation = record { offset = length (w.durable.own o.lane); item = item_in o.payload } in
      let last : Outgoing = record { frame = length (w.frames o.lane); transmission = ordered o; fresh = true } in
      subst (λ (f : Lane → List Allocation). Now w o os (f l) (x.outgoing l) l (lane_eq o.lane l)) (sym one.frames)
      (subst (λ (g : Lane → List Outgoing). Now w o os (lane_set w.frames o.lane (w.frames o.lane ++ a ∷ []) l) (g l) l (lane_eq o.lane l)) (sym one.outgoing)
      (elim (lane_eq l o.lane) as (λ t. lane_eq l o.lane ≡ t → Now w o os (if t then w.frames o.lane ++ a ∷ [] else w.frames l) (if t then w.outgoing o.lane ++ last ∷ [] else w.outgoing l) l (lane_eq o.lane l)) [
        | true ↦ λ e.
            let is : l ≡ o.lane = lane_eq_from l o.lane e in
            subst (λ (k : Lane). Now w o os (w.frames o.lane ++ a ∷ []) (w.outgoing o.lane ++ last ∷ []) k (lane_eq o.lane k)) (sym is)
            (subst (λ (t : Bool). Now w o os (w.frames o.lane ++ a ∷ []) (w.outgoing o.lane ++ last ∷ []) o.lane t) (sym (lane_same o.lane)) (here w o os a o.lane))
        | false ↦ λ e.
            subst (λ (t : Bool). Now w o os (w.frames l) (w.outgoing l) l t) (sym (lanes_apart l o.lane e)) (no_more (w.frames l), refl)
      ] refl))

  pub claims_claimed : (os : List Order) (w : World) (l : Lane) → IsClaimed w (run net w (map claim os)) os l
  claims_claimed [] w l =
      subst (λ (x : World). IsClaimed w x [] l) (sym (run_none net w)) (record { frames = no_more (w.frames l); outgoing = sym (append-nil (w.outgoing l)) })
  claims_claimed (o ∷ os) w l =
      let next : World = (step net w (claim o)).0 in
      let one = after_one w o os l in
      let rest = claims_claimed os next l in
      subst (λ (x : World). IsClaimed w x (o ∷ os) l) (sym (run_one net w (claim o) (map claim os)))
      (record { frames = more_then (w.frames l) (next.frames l) _ one.0 rest.frames; outgoing = rest.outgoing ∙ one.1 })
