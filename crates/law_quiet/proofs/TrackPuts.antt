-- Where an order gets its bytes, or a frame is put on a wire or refused there, the frames of a lane stay followed.
use Rattle.std.proofs.Common.{◌≡◌, ℕ, ◌<◌, ◌≤◌, Bool, true, false, not, ◌&&◌, ◌||◌, List, [], ◌∷◌, ◌++◌, length, refl, sym, ◌∙◌, ap, subst, arith, inl, inr, Option, Some}
use Rattle.std.specs.Prelude.{◌==◌, slice_get, if◌then◌else◌}
use Rattle.std.specs.List.{list_any, AllByRecursion}
use Rattle.std.proofs.lemmas.List.Folds.{list_any-append}
use Rattle.qkd_base.specs.Family.{number_set}
use Rattle.qkd_base.specs.declared.lane.Lane.{Lane}
use Rattle.net_model.specs.declared.placing.Placing.{Placing}
use Rattle.net_model.specs.Item.{Item}
use Rattle.net_model.specs.Site.{sender}
use Rattle.net_model.specs.World.{Network, World, Allocation, Transmission, Outgoing}
use Rattle.net_model.specs.Frames.{offset_or_zero, allocate, without_frame, outgoing_of, placing_of, put}
use Rattle.net_model.specs.Invariant.{Conserved}
use Rattle.net_model.specs.Action.{Allocate}
use Rattle.net_model.specs.Step.{step}
use Rattle.law_base.proofs.Base.{by_lane, by_number, or_cases, or_left, or_right, not_false, eq_same, lane_same, lane_eq_from}
use Rattle.law_base.proofs.Lists.{all_both, any_at, any_of}
use Rattle.law_base.proofs.Lasting.{step_more}
use Rattle.law_quiet.proofs.Tracks.{puts_again, tells_again, again_in, IsPlacingKept, IsTracked, more_again}
use Rattle.law_quiet.proofs.AwaitedPuts.{found_number, any_found}

longer : {A : Type 0} (q : A → Bool) (xs ys : List A) → list_any q xs ≡ true → list_any q (xs ++ ys) ≡ true
longer q xs ys on = list_any-append q xs ys ∙ or_left (list_any q xs) (list_any q ys) on

module _ (net : Network) (w : World) (c : Conserved net w) (l : Lane) (class : Transmission → Bool) (kind : Item → Bool) (passed : ℕ → Bool) (done : Item → ℕ → Bool) (h : IsTracked net l class kind passed done w) where
  abbrev from : ℕ
  from = sender net.site l

  -- An order gets its bytes.

  framed_on : (t : Transmission) (k : Lane) (j : ℕ) (a : Allocation) → slice_get (w.frames k) j ≡ Some a → slice_get ((allocate w t).0.frames k) j ≡ Some a
  unfolding step
  framed_on t k j a at = (step_more net w (Allocate t)).frames k j a at

  claim_again : (t : Transmission) (x : ℕ) → again_in net l w x ≡ true → again_in net l (allocate w t).0 x ≡ true
  unfolding allocate
  claim_again t x is = elim (or_cases (list_any (puts_again (w.frames l) x) (w.outgoing l)) _ is) [
    | inr told ↦ or_right (list_any (puts_again ((allocate w t).0.frames l) x) ((allocate w t).0.outgoing l)) _ told
    | inl waits ↦
        let found = any_at (puts_again (w.frames l) x) (w.outgoing l) waits in
        let o : Outgoing = found.1 in
        let carried = (c.wired l).put found.0 o found.2 in
        let same : slice_get ((allocate w t).0.frames l) o.frame ≡ slice_get (w.frames l) o.frame = framed_on t l o.frame carried.0 carried.1 ∙ sym carried.1 in
        let passes : puts_again ((allocate w t).0.frames l) x o ≡ true = ap (λ (a : Option Allocation). not o.fresh && (offset_or_zero a == x)) same ∙ found.3 in
        let here : list_any (puts_again ((allocate w t).0.frames l) x) (w.outgoing l) ≡ true = any_of (puts_again ((allocate w t).0.frames l) x) (w.outgoing l) o found.0 found.2 passes in
        or_left (list_any (puts_again ((allocate w t).0.frames l) x) ((allocate w t).0.outgoing l)) _ (more (puts_again ((allocate w t).0.frames l) x) l here)
  ]
    where
      more : (q : Outgoing → Bool) (k : Lane) → list_any q (w.outgoing k) ≡ true → list_any q ((allocate w t).0.outgoing k) ≡ true
      more q k on = by_lane (λ m b. list_any q (w.outgoing m) ≡ true → list_any q (if b then w.outgoing t.lane ++ record { frame = length (w.frames t.lane); transmission = t; fresh = true } ∷ [] else w.outgoing m) ≡ true) t.lane
          (λ old. longer q (w.outgoing t.lane) _ old) (λ m old. old) k on

  pub claimed : (t : Transmission) → IsTracked net l class kind passed done (allocate w t).0
  unfolding allocate
  claimed t = record {
    entries = more_again l class passed done (again_in net l w) (again_in net l (allocate w t).0) (claim_again t) (w.volatile from).window h.entries;
    placings = h.placings;
    within = h.within;
  }

  -- A frame is put on its wire, or refused there.

  module _ (m : Lane) (j : ℕ) (o : Outgoing) (is : outgoing_of j (w.outgoing m) ≡ Some o) (wire : List ℕ) (number : Option ℕ)
      (grows : length (w.wire m) ≤ length wire) (new : (k : ℕ) → number ≡ Some k → k ≡ length (w.wire m)) where
    abbrev told : Placing
    told = placing_of net w m o number

    abbrev after : World
    after = put net w m o wire number

    abbrev told_by : ℕ → List Placing
    told_by u = number_set w.placings (sender net.site m) (w.placings (sender net.site m) ++ told ∷ []) u

    old_told : (q : Placing → Bool) (u : ℕ) → list_any q (w.placings u) ≡ true → list_any q (told_by u) ≡ true
    old_told q u on =
        by_number (λ k b. list_any q (w.placings k) ≡ true → list_any q (if b then w.placings (sender net.site m) ++ told ∷ [] else w.placings k) ≡ true) (sender net.site m)
        (λ old. longer q (w.placings (sender net.site m)) (told ∷ []) old) (λ k ne old. old) u on

    new_told : (q : Placing → Bool) → q told ≡ true → list_any q (told_by (sender net.site m)) ≡ true
    new_told q on = rw (eq_same (sender net.site m))
        (list_any-append q (w.placings (sender net.site m)) (told ∷ []) ∙ or_right (list_any q (w.placings (sender net.site m))) _ (or_left (q told) false on))

    tells_it : (x : ℕ) → puts_again (w.frames m) x o ≡ true → tells_again m x told ≡ true
    tells_it x on = ap (λ (b : Bool). not o.fresh && (b && (told.offset == x))) (lane_same m) ∙ on

    waits_again : (x : ℕ) → list_any (puts_again (w.frames l) x) (w.outgoing l) ≡ true → again_in net l after x ≡ true
    waits_again x on =
        by_lane (λ k b. list_any (puts_again (w.frames k) x) (w.outgoing k) ≡ true →
        (list_any (puts_again (w.frames k) x) (if b then without_frame o.frame (w.outgoing m) else w.outgoing k) || list_any (tells_again k x) (told_by (sender net.site k))) ≡ true) m
        (λ waits. elim (any_found (puts_again (w.frames m) x) j (w.outgoing m) o is waits) [
          | inl now ↦ or_right (list_any (puts_again (w.frames m) x) (without_frame o.frame (w.outgoing m))) _ (new_told (tells_again m x) (tells_it x now))
          | inr left ↦ or_left (list_any (puts_again (w.frames m) x) (without_frame o.frame (w.outgoing m))) _
              (ap (λ (k : ℕ). list_any (puts_again (w.frames m) x) (without_frame k (w.outgoing m))) (found_number j (w.outgoing m) o is) ∙ left)
        ])
        (λ k waits. or_left (list_any (puts_again (w.frames k) x) (w.outgoing k)) _ waits) l on

    put_again : (x : ℕ) → again_in net l w x ≡ true → again_in net l after x ≡ true
    put_again x on = elim (or_cases (list_any (puts_again (w.frames l) x) (w.outgoing l)) _ on) [
      | inl waits ↦ waits_again x waits
      | inr old ↦ or_right (list_any (puts_again (w.frames l) x) (after.outgoing l)) _ (old_told (tells_again l x) from old)
    ]

    -- A new number wasn't passed yet.
    told_kept : IsPlacingKept l kind passed done told
    told_kept lane of k at =
        let on : m ≡ l = lane_eq_from m l lane in
        inl (not_false (passed k) (λ was.
        let within = h.within k was in
        let last : k ≡ length (w.wire m) = new k at in
        let same : length (w.wire m) ≡ length (w.wire l) = ap (λ (x : Lane). length (w.wire x)) on in
        omega (arith, within, last, same)))

    pub put_kept : IsTracked net l class kind passed done after
    put_kept = record {
      entries = more_again l class passed done (again_in net l w) (again_in net l after) put_again (w.volatile from).window h.entries;
      placings = by_number (λ u b. from ≡ u → AllByRecursion (IsPlacingKept l kind passed done) (if b then w.placings (sender net.site m) ++ told ∷ [] else w.placings u)) (sender net.site m)
          (λ mine. all_both (IsPlacingKept l kind passed done) (w.placings (sender net.site m)) (told ∷ [])
          (subst (λ (u : ℕ). AllByRecursion (IsPlacingKept l kind passed done) (w.placings u)) mine h.placings) (told_kept, tt))
          (λ u ne mine. subst (λ (x : ℕ). AllByRecursion (IsPlacingKept l kind passed done) (w.placings x)) mine h.placings) from refl;
      within = λ k was. by_lane (λ x b. k < length (w.wire x) → k < length (if b then wire else w.wire x)) m (λ old. omega (arith, old, grows)) (λ x old. old) l (h.within k was);
    }
