-- The next new order gets its bytes and its frame is put or refused; just the others are left to be sent.
use Rattle.std.proofs.Common.{◌≡◌, ℕ, zero, suc, ◌<◌, true, false, List, [], ◌∷◌, ◌++◌, length, map, refl, sym, ◌∙◌, ap, subst, arith, append-nil, Some}
use Rattle.std.specs.Prelude.{◌==◌, slice_get, filter, replicate, if◌then◌else◌}
use Rattle.std.specs.List.{list_any, AllByRecursion}
use Rattle.std.proofs.lemmas.Bool.Decides.{nat_tests}
use Rattle.std.proofs.lemmas.Option.{slice_get_within}
use Rattle.qkd_base.specs.Lane.{lane_eq}
use Rattle.qkd_base.specs.Family.{lane_set}
use Rattle.qkd_base.specs.declared.lane.Lane.{Lane}
use Rattle.net_model.specs.declared.order.Order.{Order}
use Rattle.net_model.specs.declared.repeat.Repeat.{Repeat}
use Rattle.net_model.specs.Item.{need}
use Rattle.net_model.specs.Site.{sender}
use Rattle.net_model.specs.World.{Network, World, Allocation, Transmission, Outgoing, Frame}
use Rattle.net_model.specs.Premises.{IsNetwork}
use Rattle.net_model.specs.Invariant.{Conserved}
use Rattle.net_model.specs.Window.{transmission_eq}
use Rattle.net_model.specs.Handle.{frame_at}
use Rattle.net_model.specs.Frames.{allocate, without, is_unclaimed, outgoing_of, without_frame}
use Rattle.net_model.specs.Events.{is_lane}
use Rattle.net_model.specs.Tick.{Emission, Again, New, item_in, ordered}
use Rattle.net_model.specs.Action.{Environment, Action, Allocate, Transmit}
use Rattle.net_model.specs.Step.{step, is_enabled, run}
use Rattle.law_base.proofs.Base.{and_both, by_other_lane, eq_same, lane_eq_from, lane_same, or_left, when_true, when_false}
use Rattle.law_base.proofs.Lists.{lane_set_same, transmission_same}
use Rattle.law_base.proofs.Lasting.{run_more}
use Rattle.law_locality.specs.Sending.{orders_in, repeats_in, repeated, IsNew, IsAgain}
use Rattle.law_locality.proofs.TickPuts.{lanes_apart, IsGone, gone}
use Rattle.law_parallel.specs.Remaining.{Remains}
use Rattle.law_parallel.proofs.Each.{IsOfSender, all_stay}

-- The frame of a repeat is still found at its offset when more frames follow.

frame_at-append : (fs gs : List Allocation) (j : ℕ) (a : Allocation) → slice_get fs j ≡ Some a → frame_at (fs ++ gs) a.offset ≡ frame_at fs a.offset
frame_at-append [] gs j a h = cc
frame_at-append (f ∷ fs) gs zero a h =
    let is : f ≡ a = cc in
    let same : (f.offset == a.offset) ≡ true = ap (λ (x : Allocation). f.offset == x.offset) (sym is) ∙ eq_same f.offset in
    when_true (f.offset == a.offset) 0 (suc (frame_at (fs ++ gs) a.offset)) same ∙ sym (when_true (f.offset == a.offset) 0 (suc (frame_at fs a.offset)) same)
frame_at-append (f ∷ fs) gs (suc j) a h = ap (λ (n : ℕ). if f.offset == a.offset then 0 else suc n) (frame_at-append fs gs j a h)

module _ (net : Network) (w : World) (k : Lane) (gs : List Allocation) where
  repeated_more : (v : ℕ) (r : Repeat) → IsAgain net w v r → r.lane ≡ k → repeated (w.frames k ++ gs) r ≡ repeated (w.frames k) r
  repeated_more v r h at =
      let on : h.entry.transmission.lane ≡ k = sym (ap (λ (x : Repeat). x.lane) h.is) ∙ at in
      let framed = ap (λ (m : Lane). slice_get (w.frames m) h.sent.number) (sym on) ∙ h.sent.frame in
      let same : frame_at (w.frames k ++ gs) h.entry.offset ≡ frame_at (w.frames k) h.entry.offset = frame_at-append (w.frames k) gs h.sent.number _ framed in
      let offset : r.offset ≡ h.entry.offset = ap (λ (x : Repeat). x.offset) h.is in
      let found : frame_at (w.frames k ++ gs) r.offset ≡ frame_at (w.frames k) r.offset =
      ap (frame_at (w.frames k ++ gs)) offset ∙ same ∙ ap (frame_at (w.frames k)) (sym offset) in
      λ i. record (repeated (w.frames k) r) { frame = found i }

  abbrev mine : List Emission → List Repeat
  mine es = filter (λ (x : Repeat). lane_eq x.lane k) (repeats_in es)

  repeats_more : (es : List Emission) → AllByRecursion (IsOfSender net w) es → map (repeated (w.frames k ++ gs)) (mine es) ≡ map (repeated (w.frames k)) (mine es)
  repeats_more [] h = refl
  repeats_more (New o ∷ es) h = repeats_more es h.1
  repeats_more (Again r ∷ es) h =
      let rest = repeats_more es h.1 in
      elim (lane_eq r.lane k) as (λ t. lane_eq r.lane k ≡ t → map (repeated (w.frames k ++ gs)) (if t then r ∷ mine es else mine es) ≡ map (repeated (w.frames k)) (if t then r ∷ mine es else mine es)) [
        | true ↦ λ e. let one = repeated_more (sender net.site r.lane) r h.0 (lane_eq_from r.lane k e) in λ i. one i ∷ rest i
        | false ↦ λ e. rest
      ] refl

-- The last waiting frame is found by its number and removed alone, since no other has that number.

other_frame : (a b : ℕ) → a < b → (a == b) ≡ false
other_frame a b h = grind (arith, nat_tests)

found_last : (os : List Outgoing) (o : Outgoing) → ((n : ℕ) (x : Outgoing) → slice_get os n ≡ Some x → x.frame < o.frame) → outgoing_of o.frame (os ++ o ∷ []) ≡ Some o
found_last [] o h = when_true (o.frame == o.frame) (Some o) _ (eq_same o.frame)
found_last (x ∷ os) o h =
    when_false (x.frame == o.frame) (Some x) (outgoing_of o.frame (os ++ o ∷ [])) (other_frame x.frame o.frame (h zero x refl)) ∙ found_last os o (λ n y at. h (suc n) y at)

last_gone : (os : List Outgoing) (o : Outgoing) → ((n : ℕ) (x : Outgoing) → slice_get os n ≡ Some x → x.frame < o.frame) → without_frame o.frame (os ++ o ∷ []) ≡ os
last_gone [] o h = when_true (o.frame == o.frame) [] (o ∷ []) (eq_same o.frame)
last_gone (x ∷ os) o h =
    when_false (x.frame == o.frame) (os ++ o ∷ []) (x ∷ without_frame o.frame (os ++ o ∷ [])) (other_frame x.frame o.frame (h zero x refl))
    ∙ ap (λ (ys : List Outgoing). x ∷ ys) (last_gone os o (λ n y at. h (suc n) y at))

module _ (net : Network) (w : World) (order : Order) (es : List Emission) (s : Remains net w (New order ∷ es)) where
  abbrev l : Lane
  l = order.lane

  abbrev t : Transmission
  t = ordered order

  -- The number of the lane's next frame.
  abbrev j : ℕ
  j = length (w.frames l)

  abbrev a : Allocation
  a = record { offset = length (w.durable.own l); item = item_in order.payload }

  abbrev o : Outgoing
  o = record { frame = j; transmission = t; fresh = true }

  abbrev after : World
  after = record w {
    durable = record (w.durable) { own = lane_set w.durable.own l (w.durable.own l ++ replicate (need w.durable.facts t.item) (Frame j)) };
    frames = lane_set w.frames l (w.frames l ++ a ∷ []);
    unclaimed = lane_set w.unclaimed l (without t (w.unclaimed l));
    outgoing = lane_set w.outgoing l (w.outgoing l ++ o ∷ []);
  }

  abbrev rest : Lane → List Transmission
  rest k = map ordered (filter (λ (x : Order). lane_eq x.lane k) (orders_in es))

  new : IsNew net w (sender net.site l) order
  new = s.each.0

  here : w.unclaimed l ≡ t ∷ rest l
  here = s.unclaimed l ∙ ap (map ordered) (when_true (lane_eq l l) (order ∷ filter (λ (x : Order). lane_eq x.lane l) (orders_in es)) _ (lane_same l))

  elsewhere : (k : Lane) → lane_eq l k ≡ false → w.unclaimed k ≡ rest k
  elsewhere k e = s.unclaimed k ∙ ap (map ordered) (when_false (lane_eq l k) (order ∷ filter (λ (x : Order). lane_eq x.lane k) (orders_in es)) _ e)

  first_gone : without t (w.unclaimed l) ≡ rest l
  first_gone = ap (without t) here ∙ when_true (transmission_eq t t) (rest l) (t ∷ without t (rest l)) (transmission_same t)

  pub order_enabled : is_enabled net w (Allocate t) ≡ true
  unfolding is_enabled
  order_enabled =
      and_both (is_lane net.site l) (is_unclaimed w t) new.site
      (ap (list_any (transmission_eq t)) here ∙ or_left (transmission_eq t t) (list_any (transmission_eq t) (rest l)) (transmission_same t))

  module _ (environment : Environment) where
    abbrev actions : List Action
    actions = Allocate t ∷ Transmit l j environment ∷ []

    abbrev then' : World
    then' = (step net after (Transmit l j environment)).0

    run_is : run net w actions ≡ then'
    unfolding run step allocate
    run_is = refl

    module _ (network : IsNetwork net) (c : Conserved net w) where
      older : (n : ℕ) (x : Outgoing) → slice_get (w.outgoing l) n ≡ Some x → x.frame < j
      older n x at = let r = (c.wired l).put n x at in slice_get_within (w.frames l) x.frame r.0 r.1

      may_be_put : outgoing_of j (after.outgoing l) ≡ Some o
      may_be_put = ap (outgoing_of j) (lane_set_same w.outgoing l (w.outgoing l ++ o ∷ [])) ∙ found_last (w.outgoing l) o older

      left : IsGone net after l o then'
      left = gone net after l j environment o may_be_put

      orders_after : (k : Lane) → then'.unclaimed k ≡ rest k
      orders_after k =
          ap (λ (f : Lane → List Transmission). f k) left.unclaimed
          ∙ by_other_lane (λ m b. (if b then without t (w.unclaimed l) else w.unclaimed m) ≡ rest m) l first_gone (λ m e. elsewhere m (lanes_apart m l e)) k

      put_after : without_frame j (after.outgoing l) ≡ w.outgoing l
      put_after = ap (without_frame j) (lane_set_same w.outgoing l (w.outgoing l ++ o ∷ [])) ∙ last_gone (w.outgoing l) o older

      outgoing_after : (k : Lane) → then'.outgoing k ≡ w.outgoing k
      outgoing_after k =
          ap (λ (f : Lane → List Outgoing). f k) left.outgoing
          ∙ by_other_lane (λ m b. (if b then without_frame j (after.outgoing l) else after.outgoing m) ≡ w.outgoing m) l put_after
          (λ m e. when_false (lane_eq m l) (w.outgoing l ++ o ∷ []) (w.outgoing m) e) k

      -- Only its own lane gets a further frame.
      record IsMore (k : Lane) (frames : List Allocation) : Type 0 where
        more : List Allocation
        is : frames ≡ w.frames k ++ more

      frames_after : (k : Lane) → IsMore k (then'.frames k)
      frames_after k =
          subst (λ (f : Lane → List Allocation). IsMore k (f k)) (sym left.frames)
          (by_other_lane (λ m b. IsMore m (if b then w.frames l ++ a ∷ [] else w.frames m)) l (record { more = a ∷ []; is = refl })
          (λ m e. record { more = []; is = sym (append-nil (w.frames m)) }) k)

      repeats_after : (k : Lane) → then'.outgoing k ≡ map (repeated (then'.frames k)) (filter (λ (x : Repeat). lane_eq x.lane k) (repeats_in es))
      repeats_after k =
          let m = frames_after k in
          outgoing_after k ∙ s.outgoing k ∙ sym (repeats_more net w k m.more es s.each.1)
          ∙ ap (λ (fs : List Allocation). map (repeated fs) (filter (λ (x : Repeat). lane_eq x.lane k) (repeats_in es))) (sym m.is)

      remain_after : Remains net then' es
      remain_after = record {
        each = subst (λ (x : World). AllByRecursion (IsOfSender net x) es) run_is
            (all_stay net w network c (run net w actions) (run_more net w actions) es s.each.1);
        unclaimed = orders_after;
        outgoing = repeats_after;
      }

      pub order_goes : Remains net (run net w actions) es
      order_goes = subst (λ (x : World). Remains net x es) (sym run_is) remain_after
