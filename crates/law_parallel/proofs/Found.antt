-- Each frame that is put waits for its wire after all claims, and belongs to the plan that ordered it.
use Rattle.std.proofs.Common.{◌≡◌, ℕ, zero, suc, ◌+◌, ◌<◌, ◌≤◌, Bool, true, false, not, ◌&&◌, ◌||◌, List, [], ◌∷◌, ◌++◌, length, map, refl, sym, ◌∙◌, ap, subst, arith, append_assoc, Some}
use Rattle.std.specs.Prelude.{◌==◌, filter, count_by, slice_get, if◌then◌else◌}
use Rattle.std.specs.List.{list_any, AllByRecursion}
use Rattle.qkd_base.specs.Lane.{lane_eq}
use Rattle.qkd_base.specs.declared.lane.Lane.{Lane}
use Rattle.net_model.specs.declared.order.Order.{Order}
use Rattle.net_model.specs.declared.repeat.Repeat.{Repeat}
use Rattle.net_model.specs.World.{Network, World, Allocation, Outgoing}
use Rattle.net_model.specs.Window.{transmission_eq}
use Rattle.net_model.specs.Handle.{frame_at}
use Rattle.net_model.specs.Tick.{Emission, Again, New, ordered}
use Rattle.net_model.specs.Frames.{offset_or_zero, outgoing_of}
use Rattle.run_model.specs.Works.{is_frame_of, is_put_of}
use Rattle.law_base.proofs.Base.{eq_from, eq_same, lane_same, not_false, or_left, or_right, when_true, when_false}
use Rattle.law_locality.proofs.Counting.{one_if, count_more}
use Rattle.law_base.proofs.Lists.{all_both, all_from, get_prefix}
use Rattle.law_locality.specs.Sending.{orders_in, repeats_in, repeated}
use Rattle.law_parallel.specs.Putting.{Putting, lane_of, one_by_one, puts_in}
use Rattle.law_parallel.proofs.Claims.{emissions}
use Rattle.law_parallel.proofs.Claimed.{IsMore, more_then, fresh}
use Rattle.law_parallel.proofs.Puts.{frame_for, put_work, after, put_first, no_puts, Grows, grown, after_grows}
use Rattle.law_parallel.proofs.WorkRepeats.{Framed}
use Rattle.law_parallel.proofs.Same.{is_same, lane_eq-sym}

-- A frame with a number below the new ones is found among the repeats.

record FoundOld (j : ℕ) (os : List Outgoing) : Type 0 where
  one : Outgoing
  is : outgoing_of j os ≡ Some one
  old : one.fresh ≡ false

found_old : (j : ℕ) (os more : List Outgoing) → AllByRecursion (λ (o : Outgoing). o.fresh ≡ false) os → list_any (λ (o : Outgoing). o.frame == j) os ≡ true → FoundOld j (os ++ more)
found_old j [] more old h = cc
found_old j (o ∷ os) more old h =
    elim (o.frame == j) as (λ t. (o.frame == j) ≡ t → (t || list_any (λ (x : Outgoing). x.frame == j) os) ≡ true → FoundOld j (o ∷ os ++ more)) [
      | true ↦ λ e k. record { one = o; is = when_true (o.frame == j) (Some o) (outgoing_of j (os ++ more)) e; old = old.0 }
      | false ↦ λ e k. let rest = found_old j os more old.1 k in
          record { one = rest.one; is = when_false (o.frame == j) (Some o) (outgoing_of j (os ++ more)) e ∙ rest.is; old = rest.old }
    ] refl h

-- All these frames have numbers below n.

abbrev pub AreBelow : ℕ → List Outgoing → Type 0
AreBelow n os = AllByRecursion (λ (o : Outgoing). o.frame < n) os

found_next : (n : ℕ) (os more : List Outgoing) (o : Outgoing) → AreBelow n os → o.frame ≡ n → outgoing_of n (os ++ o ∷ more) ≡ Some o
found_next n [] more o h is = when_true (o.frame == n) (Some o) (outgoing_of n more) (ap (λ (k : ℕ). k == n) is ∙ eq_same n)
found_next n (x ∷ os) more o h is =
    when_false (x.frame == n) (Some x) (outgoing_of n (os ++ o ∷ more)) (not_false (x.frame == n) (λ e. let same = eq_from x.frame n e in let less = h.0 in absurd (omega (arith, less, same)))) ∙
    found_next n os more o h.1 is

more_below : (n m : ℕ) → n ≤ m → (os : List Outgoing) → AreBelow n os → AreBelow m os
more_below n m le [] h = tt
more_below n m le (o ∷ os) h = (let less = h.0 in omega (arith, less, le), more_below n m le os h.1)

-- World x is the one after all claims, and `base` has the frames before them.

module _ (net : Network) (base : Lane → List Allocation) (x : World) where
  abbrev pub again : Lane → List Emission → List Outgoing
  again l es = map (repeated (base l)) (filter (λ (r : Repeat). lane_eq r.lane l) (repeats_in es))

  abbrev pub mine : Lane → List Emission → List Order
  mine l es = filter (λ (o : Order). lane_eq o.lane l) (orders_in es)

  -- A put with this number sends this frame and no other.
  abbrev pub Counts : Emission → ℕ → Type 0
  Counts s j = (e : Emission) → is_frame_of x e (lane_of s) j (outgoing_of j (x.outgoing (lane_of s))) ≡ is_same e s

  counts_again : (s : Repeat) (j : ℕ) (o : Outgoing) → o.fresh ≡ false → offset_or_zero (slice_get (x.frames s.lane) j) ≡ s.offset → outgoing_of j (x.outgoing s.lane) ≡ Some o → Counts (Again s) j
  counts_again s j o old at found (Again r) =
      ap (is_frame_of x (Again r) s.lane j) found
      ∙ ap (λ (b : Bool). not b && lane_eq r.lane s.lane && (offset_or_zero (slice_get (x.frames s.lane) j) == r.offset)) old
      ∙ ap (λ (n : ℕ). lane_eq r.lane s.lane && (n == r.offset)) at ∙ ap (λ (b : Bool). b && (s.offset == r.offset)) (lane_eq-sym r.lane s.lane)
  counts_again s j o old at found (New q) =
      ap (is_frame_of x (New q) s.lane j) found ∙ ap (λ (b : Bool). b && transmission_eq (ordered q) o.transmission) old

  counts_new : (s : Order) (j : ℕ) → outgoing_of j (x.outgoing s.lane) ≡ Some (record { frame = j; transmission = ordered s; fresh = true }) → Counts (New s) j
  counts_new s j found (Again r) = ap (is_frame_of x (Again r) s.lane j) found
  counts_new s j found (New q) = ap (is_frame_of x (New q) s.lane j) found

  -- Lemmas on repeats.

  abbrev pub IsKnown : Emission → Type 0
  IsKnown (Again r) = ((more : List Allocation) → frame_at (base r.lane ++ more) r.offset ≡ frame_at (base r.lane) r.offset) × Counts (Again r) (frame_at (base r.lane) r.offset)
  IsKnown (New o) = Unit {0}

  all_old : (l : Lane) (rs : List Repeat) → AllByRecursion (λ (o : Outgoing). o.fresh ≡ false) (map (repeated (base l)) rs)
  all_old l [] = tt
  all_old l (r ∷ rs) = (refl, all_old l rs)

  stands : (es : List Emission) (i : ℕ) (r : Repeat) → slice_get es i ≡ Some (Again r) → list_any (λ (o : Outgoing). o.frame == frame_at (base r.lane) r.offset) (again r.lane es) ≡ true
  stands [] i r at = cc
  stands (Again s ∷ es) zero r at =
      let is : s ≡ r = cc in
      let same : lane_eq s.lane r.lane ≡ true = ap (λ (y : Repeat). lane_eq y.lane r.lane) is ∙ lane_same r.lane in
      ap (λ (b : Bool). list_any (λ (o : Outgoing). o.frame == frame_at (base r.lane) r.offset)
      (map (repeated (base r.lane)) (if b then s ∷ filter (λ (y : Repeat). lane_eq y.lane r.lane) (repeats_in es) else filter (λ (y : Repeat). lane_eq y.lane r.lane) (repeats_in es)))) same
      ∙ or_left (frame_at (base r.lane) s.offset == frame_at (base r.lane) r.offset) (list_any (λ (o : Outgoing). o.frame == frame_at (base r.lane) r.offset) (again r.lane es))
      (ap (λ (y : Repeat). frame_at (base r.lane) y.offset == frame_at (base r.lane) r.offset) is ∙ eq_same (frame_at (base r.lane) r.offset))
  stands (New o ∷ es) zero r at = cc
  stands (New o ∷ es) (suc i) r at = stands es i r at
  stands (Again s ∷ es) (suc i) r at =
      let rest = stands es i r at in
      elim (lane_eq s.lane r.lane) as (λ b. list_any (λ (o : Outgoing). o.frame == frame_at (base r.lane) r.offset)
      (map (repeated (base r.lane)) (if b then s ∷ filter (λ (y : Repeat). lane_eq y.lane r.lane) (repeats_in es) else filter (λ (y : Repeat). lane_eq y.lane r.lane) (repeats_in es))) ≡ true) [
        | true ↦ or_right (frame_at (base r.lane) s.offset == frame_at (base r.lane) r.offset) (list_any (λ (o : Outgoing). o.frame == frame_at (base r.lane) r.offset) (again r.lane es)) rest
        | false ↦ rest
      ]

  module _ (es : List Emission) (outgoing : (l : Lane) → x.outgoing l ≡ again l es ++ fresh (length (base l)) (mine l es)) (frames : (l : Lane) → IsMore (base l) (x.frames l)) where
    known_again : (i : ℕ) (r : Repeat) → slice_get es i ≡ Some (Again r) → Framed (base r.lane) r.offset → IsKnown (Again r)
    known_again i r at f =
        let j : ℕ = frame_at (base r.lane) r.offset in
        let found = found_old j (again r.lane es) (fresh (length (base r.lane)) (mine r.lane es)) (all_old r.lane (filter (λ (y : Repeat). lane_eq y.lane r.lane) (repeats_in es))) (stands es i r at) in
        let more = frames r.lane in
        let framed : slice_get (x.frames r.lane) j ≡ Some f.frame = ap (λ (fs : List Allocation). slice_get fs j) more.is ∙ get_prefix (base r.lane) more.more j f.frame f.at in
        (f.stays, counts_again r j found.one found.old (ap offset_or_zero framed ∙ f.offset') (ap (outgoing_of j) (outgoing r.lane) ∙ found.is))

    known_one : (i : ℕ) (e : Emission) → slice_get es i ≡ Some e → ((r : Repeat) → e ≡ Again r → Framed (base r.lane) r.offset) → IsKnown e
    known_one i (Again r) at f = known_again i r at (f r refl)
    known_one i (New o) at f = tt

    pub all_known : ((i : ℕ) (r : Repeat) → slice_get es i ≡ Some (Again r) → Framed (base r.lane) r.offset) → AllByRecursion IsKnown es
    all_known f = all_from IsKnown es (λ i e at. known_one i e at (λ r is. f i r (at ∙ ap Some is)))

  -- Lemmas on new orders in sequence.

  pub record IsNext (u : World) (es : List Emission) (l : Lane) : Type 0 where
    pub more : IsMore (base l) (u.frames l)
    pub before : List Outgoing
    pub is : x.outgoing l ≡ before ++ fresh (length (u.frames l)) (mine l es)
    pub below : AreBelow (length (u.frames l)) before

  counted_one : (u : World) (e : Emission) (es : List Emission) → IsKnown e → ((l : Lane) → IsNext u (e ∷ es) l) → Counts e (frame_for u e)
  counted_one u (Again r) es known next =
      let more = (next r.lane).more in
      let same : frame_for u (Again r) ≡ frame_at (base r.lane) r.offset = ap (λ (fs : List Allocation). frame_at fs r.offset) more.is ∙ known.0 more.more in
      subst (Counts (Again r)) (sym same) known.1
  counted_one u (New o) es known next =
      let n : ℕ = length (u.frames o.lane) in
      let here = next o.lane in
      let first : fresh n (mine o.lane (New o ∷ es)) ≡ record { frame = n; transmission = ordered o; fresh = true } ∷ fresh (n + 1) (mine o.lane es) =
      ap (fresh n) (when_true (lane_eq o.lane o.lane) (o ∷ mine o.lane es) (mine o.lane es) (lane_same o.lane)) in
      counts_new o n (ap (outgoing_of n) (here.is ∙ ap (λ (os : List Outgoing). here.before ++ os) first) ∙
      found_next n here.before (fresh (n + 1) (mine o.lane es)) (record { frame = n; transmission = ordered o; fresh = true }) here.below refl)

  stays_next : (u after' : World) (es : List Emission) (l : Lane) (now : IsNext u es l) → IsMore (u.frames l) (after'.frames l) → length (after'.frames l) ≡ length (u.frames l) → IsNext after' es l
  stays_next u after' es l now more size = record {
    more = more_then (base l) (u.frames l) (after'.frames l) now.more more;
    before = now.before;
    is = now.is ∙ ap (λ (n : ℕ). now.before ++ fresh n (mine l es)) (sym size);
    below = subst (λ (n : ℕ). AreBelow n now.before) (sym size) now.below;
  }

  goes_next : (u after' : World) (o : Order) (es : List Emission) (l : Lane) (now : IsNext u (New o ∷ es) l) → lane_eq o.lane l ≡ true → IsMore (u.frames l) (after'.frames l) →
      length (after'.frames l) ≡ length (u.frames l) + 1 → IsNext after' es l
  goes_next u after' o es l now here more size =
      let n : ℕ = length (u.frames l) in
      let one : Outgoing = record { frame = n; transmission = ordered o; fresh = true } in
      let first : fresh n (mine l (New o ∷ es)) ≡ one ∷ fresh (n + 1) (mine l es) = ap (fresh n) (when_true (lane_eq o.lane l) (o ∷ mine l es) (mine l es) here) in
      record {
        more = more_then (base l) (u.frames l) (after'.frames l) now.more more;
        before = now.before ++ one ∷ [];
        is = now.is ∙ ap (λ (os : List Outgoing). now.before ++ os) first ∙ sym (append_assoc now.before (one ∷ []) (fresh (n + 1) (mine l es)))
            ∙ ap (λ (k : ℕ). (now.before ++ one ∷ []) ++ fresh k (mine l es)) (sym size);
        below = all_both (λ (y : Outgoing). y.frame < length (after'.frames l)) now.before (one ∷ []) (more_below n (length (after'.frames l)) (omega (arith, size)) now.before now.below)
            (omega (arith, size), tt);
      }

  abbrev Sized : World → World → Emission → Lane → Bool → Type 0
  Sized u after' e l t = length (after'.frames l) ≡ (if t then grown net e (length (u.frames l)) else length (u.frames l))

  then_next : (u after' : World) (e : Emission) (es : List Emission) (l : Lane) → IsNext u (e ∷ es) l → Grows net l e (u.frames l) (after'.frames l) → IsNext after' es l
  then_next u after' (Again r) es l now grows =
      stays_next u after' es l (record { more = now.more; before = now.before; is = now.is; below = now.below }) grows.more (elim (lane_eq r.lane l) as (λ t. Sized u after' (Again r) l t → length (after'.frames l) ≡ length (u.frames l)) [ true ↦ λ e. e | false ↦ λ e. e ] grows.size)
  then_next u after' (New o) es l now grows =
      elim (lane_eq o.lane l) as (λ t. lane_eq o.lane l ≡ t → Sized u after' (New o) l t → IsNext after' es l) [
        | true ↦ λ e size. goes_next u after' o es l now e grows.more size
        | false ↦ λ e size. stays_next u after' es l (record {
          more = now.more;
          before = now.before;
          is = now.is ∙ ap (λ (os : List Order). now.before ++ fresh (length (u.frames l)) os) (when_false (lane_eq o.lane l) (o ∷ mine l es) (mine l es) e);
          below = now.below;
        }) grows.more size
      ] refl grows.size

  -- So the puts of a line's frame are as many as the line ordered.

  abbrev pub is_one : (place : ℕ) → Emission → Putting → Bool
  is_one place e p = (p.place == place) && is_same e p.emission

  pub puts_counted : (place : ℕ) (e : Emission) (ps : List Putting) (u : World) → AllByRecursion IsKnown (emissions ps) → ((l : Lane) → IsNext u (emissions ps) l) →
      count_by (is_put_of x place e) (puts_in (one_by_one net u ps)) ≡ count_by (is_one place e) ps
  puts_counted place e [] u known next = ap (count_by (is_put_of x place e)) (no_puts net u)
  puts_counted place e (p ∷ ps) u known next =
      let first = ap (count_by (is_put_of x place e)) (put_first net u p ps) in
      let more = count_more (is_put_of x place e) (put_work u p) (puts_in (one_by_one net (after net u p) ps)) in
      let one : one_if (is_put_of x place e (put_work u p)) ≡ one_if (is_one place e p) =
      ap (λ (b : Bool). one_if ((p.place == place) && b)) (counted_one u p.emission (emissions ps) known.0 next e) in
      let rest = puts_counted place e ps (after net u p) known.1 (λ l. then_next u (after net u p) p.emission (emissions ps) l (next l) (after_grows net u p l)) in
      let all = count_more (is_one place e) p ps in
      omega (arith, first, more, one, rest, all)
