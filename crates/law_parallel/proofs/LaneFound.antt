-- Each frame that is put waits for its wire after the claims, and belongs to the plan that ordered it.
use Rattle.std.proofs.Common.{◌≡◌, ℕ, zero, suc, ◌+◌, ◌<◌, ◌≤◌, Bool, true, false, not, ◌&&◌, ◌||◌, List, [], ◌∷◌, ◌++◌, length, map, refl, sym, ◌∙◌, ap, arith, append_assoc, Option, Some, None}
use Rattle.std.specs.Prelude.{◌==◌, slice_get, if◌then◌else◌}
use Rattle.std.specs.List.{list_all, list_any, flat_map, AllByRecursion}
use Rattle.std.proofs.lemmas.List.{length-append}
use Rattle.qkd_base.specs.Lane.{lane_eq}
use Rattle.qkd_base.specs.declared.lane.Lane.{Lane}
use Rattle.net_model.specs.declared.fact.Fact.{Fact}
use Rattle.net_model.specs.declared.order.Order.{Order}
use Rattle.net_model.specs.declared.repeat.Repeat.{Repeat}
use Rattle.net_model.specs.Item.{item_of, item_eq, need}
use Rattle.net_model.specs.World.{World, Allocation, Outgoing}
use Rattle.net_model.specs.Window.{transmission_eq}
use Rattle.net_model.specs.Handle.{frame_at}
use Rattle.net_model.specs.Tick.{Emission, Again, New, item_in, ordered}
use Rattle.net_model.specs.Frames.{offset_or_zero, outgoing_of}
use Rattle.net_model.specs.Action.{Environment}
use Rattle.run_model.specs.Works.{is_frame_of}
use Rattle.law_base.proofs.Base.{and_left, and_right, eq_from, eq_same, lane_eq_from, not_false, was_not, when_true, when_false}
use Rattle.law_base.proofs.Lists.{all_both, item_from}
use Rattle.law_parallel.proofs.Claimed.{fresh}
use Rattle.law_parallel.proofs.Found.{AreBelow}
use Rattle.law_parallel.proofs.Same.{is_same, lane_eq-sym}
use Rattle.law_parallel.specs.Logs.{Deed, Claims, Puts, Repeats, done_for_plans}
use Rattle.law_parallel.specs.Puts.{LaneFrame, allocation_of, claimed_from, with_answer, put_by}
use Rattle.law_parallel.proofs.AllClaims.{orders_of}
use Rattle.law_parallel.proofs.Counted.{again_frame}

-- Lemmas on the frames that wait.

-- The frame that was found is a repeat.
abbrev pub is_old : Option Outgoing → Bool
is_old None = false
is_old (Some o) = not o.fresh

pub old_first : (j : ℕ) (os more : List Outgoing) → AllByRecursion (λ (o : Outgoing). o.fresh ≡ false) os → list_any (λ (o : Outgoing). o.frame == j) os ≡ true → is_old (outgoing_of j (os ++ more)) ≡ true
old_first j [] more old h = cc
old_first j (o ∷ os) more old h =
    elim (o.frame == j) as (λ t. (t || list_any (λ (x : Outgoing). x.frame == j) os) ≡ true → is_old (if t then Some o else outgoing_of j (os ++ more)) ≡ true) [
      | true ↦ λ k. ap not old.0
      | false ↦ λ k. old_first j os more old.1 k
    ] h

pub found_next : (n : ℕ) (os more : List Outgoing) (o : Outgoing) → AreBelow n os → o.frame ≡ n → outgoing_of n (os ++ o ∷ more) ≡ Some o
found_next n [] more o h is = when_true (o.frame == n) (Some o) (outgoing_of n more) (ap (λ (k : ℕ). k == n) is ∙ eq_same n)
found_next n (x ∷ os) more o h is =
    when_false (x.frame == n) (Some x) (outgoing_of n (os ++ o ∷ more)) (not_false (x.frame == n) (λ e. let same = eq_from x.frame n e in let less = h.0 in absurd (omega (arith, less, same))))
    ∙ found_next n os more o h.1 is

more_below : (n m : ℕ) → n ≤ m → (os : List Outgoing) → AreBelow n os → AreBelow m os
more_below n m le [] h = tt
more_below n m le (o ∷ os) h = (let less = h.0 in omega (arith, less, le), more_below n m le os h.1)

-- Lemmas on the place of a frame.

abbrev pub is_at : Repeat → Option Allocation → Bool
is_at r None = false
is_at r (Some a) = (a.offset == r.offset) && item_eq a.item (item_of r.ack_of r.name)

stands : (r : Repeat) (o : Option Allocation) → is_at r o ≡ true → o ≡ Some (record { offset = r.offset; item = item_of r.ack_of r.name })
stands r None h = cc
stands r (Some a) h =
    let offset = eq_from a.offset r.offset (and_left (a.offset == r.offset) (item_eq a.item (item_of r.ack_of r.name)) h) in
    let item = item_from a.item (item_of r.ack_of r.name) (and_right (a.offset == r.offset) (item_eq a.item (item_of r.ack_of r.name)) h) in
    λ i. Some (record { offset = offset i; item = item i })

-- World x is the one after the claims, and `older` has the lane's frames before them.

module _ (x : World) (l : Lane) (older : List Allocation) where
  -- The repeat is on this lane, is found there, and its frame has the offset that it names.
  abbrev pub is_known : ℕ × Emission → Bool
  is_known (place, New o) = true
  is_known (place, Again r) = lane_eq r.lane l && (is_old (outgoing_of (frame_at older r.offset) (x.outgoing l)) && is_at r (slice_get (x.frames l) (frame_at older r.offset)))

  -- The frame is found, counts only for the plan that ordered it, and is in the lane's list under its number.
  pub record IsFound (f : LaneFrame) : Type 0 where
    pub one : Outgoing
    pub found : outgoing_of f.number (x.outgoing l) ≡ Some one
    pub counts : (e : Emission) → is_frame_of x e l f.number (outgoing_of f.number (x.outgoing l)) ≡ is_same e f.emission
    pub frame : slice_get (x.frames l) f.number ≡ Some (allocation_of f)

  module _ (r : Repeat) (here : r.lane ≡ l) where
    abbrev j : ℕ
    j = frame_at older r.offset

    counts_again : (o : Outgoing) → o.fresh ≡ false → offset_or_zero (slice_get (x.frames l) j) ≡ r.offset → (e : Emission) → is_frame_of x e l j (Some o) ≡ is_same e (Again r)
    counts_again o old at (Again s) =
        ap (λ (b : Bool). not b && lane_eq s.lane l && (offset_or_zero (slice_get (x.frames l) j) == s.offset)) old
        ∙ ap (λ (n : ℕ). lane_eq s.lane l && (n == s.offset)) at ∙ ap (λ (b : Bool). b && (r.offset == s.offset)) (lane_eq-sym s.lane l)
        ∙ ap (λ (k : Lane). lane_eq k s.lane && (r.offset == s.offset)) (sym here)
    counts_again o old at (New q) = ap (λ (b : Bool). b && transmission_eq (ordered q) o.transmission) old

    found_again : (place : ℕ) (o : Option Outgoing) → outgoing_of j (x.outgoing l) ≡ o → is_old o ≡ true → is_at r (slice_get (x.frames l) j) ≡ true → IsFound (again_frame older (place, r))
    found_again place None is old at = cc
    found_again place (Some o) is old at =
        let frame = stands r (slice_get (x.frames l) j) at in
        record {
          one = o;
          found = is;
          counts = λ e. ap (is_frame_of x e l j) is ∙ counts_again o (was_not o.fresh old) (ap offset_or_zero frame) e;
          frame = frame;
        }

  known_again : (place : ℕ) (r : Repeat) → is_known (place, Again r) ≡ true → IsFound (again_frame older (place, r))
  known_again place r h =
      let j : ℕ = frame_at older r.offset in
      let lane = and_left (lane_eq r.lane l) (is_old (outgoing_of j (x.outgoing l)) && is_at r (slice_get (x.frames l) j)) h in
      let rest = and_right (lane_eq r.lane l) (is_old (outgoing_of j (x.outgoing l)) && is_at r (slice_get (x.frames l) j)) h in
      found_again r (lane_eq_from r.lane l lane) place (outgoing_of j (x.outgoing l)) refl
      (and_left (is_old (outgoing_of j (x.outgoing l))) (is_at r (slice_get (x.frames l) j)) rest) (and_right (is_old (outgoing_of j (x.outgoing l))) (is_at r (slice_get (x.frames l) j)) rest)

  -- Lemmas on new frames in sequence.

  pub all_new : (facts : List Fact) (number offset : ℕ) (xs : List (ℕ × Order)) (before : List Outgoing) (front : List Allocation) → AreBelow number before →
      x.outgoing l ≡ before ++ fresh number (orders_of xs) → x.frames l ≡ front ++ map allocation_of (claimed_from facts number offset xs) → number ≡ length front →
      AllByRecursion IsFound (claimed_from facts number offset xs)
  all_new facts number offset [] before front below outgoing frames size = tt
  all_new facts number offset (y ∷ xs) before front below outgoing frames size =
      let o : Order = y.1 in
      let one : Outgoing = record { frame = number; transmission = ordered o; fresh = true } in
      let f : LaneFrame = record { place = y.0; emission = New o; number = number; offset = offset } in
      let next : ℕ = offset + need facts (item_in o.payload) in
      let found : outgoing_of number (x.outgoing l) ≡ Some one = ap (outgoing_of number) outgoing ∙ found_next number before (fresh (number + 1) (orders_of xs)) one below refl in (
        record {
          one = one;
          found = found;
          counts = λ e. ap (is_frame_of x e l number) found ∙ counts_new e o number;
          frame = ap (λ (fs : List Allocation). slice_get fs number) frames ∙ ap (slice_get (front ++ allocation_of f ∷ map allocation_of (claimed_from facts (number + 1) next xs))) size
              ∙ at_length front (allocation_of f) (map allocation_of (claimed_from facts (number + 1) next xs));
        },
        all_new facts (number + 1) next xs (before ++ one ∷ []) (front ++ allocation_of f ∷ [])
            (all_both (λ (q : Outgoing). q.frame < number + 1) before (one ∷ []) (more_below number (number + 1) (omega arith) before below) (omega arith, tt))
            (outgoing ∙ sym (append_assoc before (one ∷ []) (fresh (number + 1) (orders_of xs))))
            (frames ∙ sym (append_assoc front (allocation_of f ∷ []) (map allocation_of (claimed_from facts (number + 1) next xs))))
            (ap (λ (n : ℕ). n + 1) size ∙ sym (length-append front (allocation_of f ∷ []))),
      )
    where
      counts_new : (e : Emission) (o : Order) (n : ℕ) → is_frame_of x e l n (Some (record { frame = n; transmission = ordered o; fresh = true })) ≡ is_same e (New o)
      counts_new (Again r) o n = refl
      counts_new (New q) o n = refl

      at_length : (xs : List Allocation) (a : Allocation) (ys : List Allocation) → slice_get (xs ++ a ∷ ys) (length xs) ≡ Some a
      at_length [] a ys = refl
      at_length (b ∷ xs) a ys = at_length xs a ys

  -- Lemmas on everything that a log puts.

  found_one : (answer : Environment) (new : List LaneFrame) → AllByRecursion IsFound new → (n : ℕ) → AllByRecursion (λ (p : LaneFrame × Environment). IsFound p.0) (with_answer answer (slice_get new n))
  found_one answer [] h n = tt
  found_one answer (f ∷ new) h zero = (h.0, tt)
  found_one answer (f ∷ new) h (suc n) = found_one answer new h.1 n

  pub all_found : (new : List LaneFrame) → AllByRecursion IsFound new → (log : List Deed) → list_all is_known (done_for_plans log) ≡ true →
      AllByRecursion (λ (p : LaneFrame × Environment). IsFound p.0) (flat_map (put_by older new) log)
  all_found new h [] known = tt
  all_found new h (Claims place o ∷ log) known = all_found new h log known
  all_found new h (Puts claim answer ∷ log) known =
      all_both (λ (p : LaneFrame × Environment). IsFound p.0) (with_answer answer (slice_get new claim)) (flat_map (put_by older new) log) (found_one answer new h claim) (all_found new h log known)
  all_found new h (Repeats place r answer ∷ log) known =
      let test : Bool = is_known (place, Again r) in
      (known_again place r (and_left test (list_all is_known (done_for_plans log)) known), all_found new h log (and_right test (list_all is_known (done_for_plans log)) known))
