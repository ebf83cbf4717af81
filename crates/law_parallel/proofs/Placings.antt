-- What the senders of a block's frames are told.
use Rattle.std.proofs.Common.{◌≡◌, ℕ, zero, suc, ◌+◌, ◌<◌, ◌≤◌, Bool, true, false, not, ◌&&◌, ◌||◌, List, [], ◌∷◌, ◌++◌, length, map, refl, sym, ◌∙◌, ap, subst, arith, Some}
use Rattle.std.specs.Prelude.{◌==◌, nat_lt, slice_get}
use Rattle.std.specs.List.{list_all, flat_map, AllByRecursion}
use Rattle.std.proofs.lemmas.Bool.{ltb-true, lt-ltb}
use Rattle.qkd_base.specs.declared.lane.Lane.{Lane}
use Rattle.net_model.specs.declared.fact.Fact.{Fact}
use Rattle.net_model.specs.declared.order.Order.{Order}
use Rattle.net_model.specs.declared.placing.Placing.{Placing}
use Rattle.net_model.specs.declared.repeat.Repeat.{Repeat}
use Rattle.net_model.specs.Item.{item_name, need}
use Rattle.net_model.specs.World.{Network, World, Allocation, Transmission, Outgoing}
use Rattle.net_model.specs.Premises.{IsNetwork}
use Rattle.net_model.specs.Invariant.{Conserved}
use Rattle.net_model.specs.Window.{transmission_eq}
use Rattle.net_model.specs.Handle.{frame_at}
use Rattle.net_model.specs.Frames.{frame_octets}
use Rattle.net_model.specs.Tick.{Emission, Again, New, item_in, ordered}
use Rattle.net_model.specs.Action.{Environment}
use Rattle.run_model.specs.Lines.{all_lanes}
use Rattle.run_model.specs.Works.{Work, flat}
use Rattle.run_ops.specs.Quiet.{IsQuiet}
use Rattle.run_ops.specs.declared.job.Job.{Job}
use Rattle.law_base.proofs.Base.{and_left, and_right, and_both, eq_from, eq_same}
use Rattle.law_base.proofs.Lists.{all_at, all_both, all_from, transmission_from, transmission_same}
use Rattle.law_locality.specs.Sending.{repeats_in, repeated}
use Rattle.law_locality.proofs.Lists.{all_mapped}
use Rattle.law_parallel.proofs.Lists.{all_by_lane}
use Rattle.law_parallel.proofs.Claimed.{fresh}
use Rattle.law_parallel.proofs.Counting.{all_found}
use Rattle.law_parallel.proofs.Found.{AreBelow}
use Rattle.law_parallel.specs.Logs.{Deed, Claims, Puts, Repeats, claims_in, done_for_plans, wanted_on}
use Rattle.law_parallel.specs.Puts.{LaneFrame, claimed_from, new_frames, with_answer, put_by, frames_put}
use Rattle.law_parallel.specs.LaneWorks.{AreLaneWorks, placings_after}
use Rattle.law_parallel.proofs.Apart.{lanes_apart}
use Rattle.law_parallel.proofs.AllClaims.{orders_of, all_claims}
use Rattle.law_parallel.proofs.AllPuts.{LanePut, put_lane, puts_on_lane}
use Rattle.law_parallel.proofs.LaneBlock.{what, are_turns, conserved, wanted_here, outgoing_after}
use Rattle.law_parallel.proofs.Counted.{all_alike, again_frame}
use Rattle.law_parallel.proofs.LastWorld.{begun, then', made, last}
use Rattle.law_parallel.proofs.Noted.{IsFor, Agrees, noted, all_noted, noted_by_lane}
use Rattle.law_parallel.proofs.OldWindows.{AreOld, at_start, turns_old, one_transmission}
use Rattle.law_parallel.proofs.LanePutFor.{again, outgoing_before, repeats_here, below, all_old, mapped_get, all as all_wanted}
use Rattle.law_parallel.proofs.Reports.{puts_go, have_places, wire_before}
use Rattle.law_parallel.proofs.Rest.{claims_alone}
use Rattle.law_parallel.proofs.TurnPlacings.{turns_leave_placings}

-- Lemmas on everything that a log puts.

module _ (P : LaneFrame → Type 0) (older : List Allocation) (new : List LaneFrame) (of_new : AllByRecursion P new) (test : ℕ × Emission → Bool)
    (of_again : (place : ℕ) (r : Repeat) → test (place, Again r) ≡ true → P (again_frame older (place, r))) where
  one_of : (answer : Environment) (fs : List LaneFrame) → AllByRecursion P fs → (n : ℕ) → AllByRecursion (λ (p : LaneFrame × Environment). P p.0) (with_answer answer (slice_get fs n))
  one_of answer [] h n = tt
  one_of answer (f ∷ fs) h zero = (h.0, tt)
  one_of answer (f ∷ fs) h (suc n) = one_of answer fs h.1 n

  of_log : (log : List Deed) → list_all test (done_for_plans log) ≡ true → AllByRecursion (λ (p : LaneFrame × Environment). P p.0) (flat_map (put_by older new) log)
  of_log [] h = tt
  of_log (Claims place o ∷ log) h = of_log log (and_right (test (place, New o)) (list_all test (done_for_plans log)) h)
  of_log (Puts claim answer ∷ log) h =
      all_both (λ (p : LaneFrame × Environment). P p.0) (with_answer answer (slice_get new claim)) (flat_map (put_by older new) log) (one_of answer new of_new claim) (of_log log h)
  of_log (Repeats place r answer ∷ log) h =
      (of_again place r (and_left (test (place, Again r)) (list_all test (done_for_plans log)) h), of_log log (and_right (test (place, Again r)) (list_all test (done_for_plans log)) h))

tested_from : (test : ℕ × Emission → Bool) → ((place : ℕ) (o : Order) → test (place, New o) ≡ true) → (xs : List (ℕ × Emission)) →
    AllByRecursion (λ (r : Repeat). (place : ℕ) → test (place, Again r) ≡ true) (repeats_in (what xs)) → list_all test xs ≡ true
tested_from test new [] h = refl
tested_from test new ((place, New o) ∷ xs) h = and_both (test (place, New o)) (list_all test xs) (new place o) (tested_from test new xs h)
tested_from test new ((place, Again r) ∷ xs) h = and_both (test (place, Again r)) (list_all test xs) (h.0 place) (tested_from test new xs h.1)

-- Lemmas on new frames.

abbrev Q : LaneFrame → Outgoing → Type 0
Q f o = o.frame ≡ f.number → IsFor f.emission o

fresh_from : (n m : ℕ) → n ≤ m → (os : List Order) → AllByRecursion (λ (o : Outgoing). n ≤ o.frame) (fresh m os)
fresh_from n m le [] = tt
fresh_from n m le (o ∷ os) = (le, fresh_from n (m + 1) (omega (arith, le)) os)

claimed_above : (facts : List Fact) (n m offset : ℕ) → n ≤ m → (xs : List (ℕ × Order)) → AllByRecursion (λ (f : LaneFrame). n ≤ f.number) (claimed_from facts m offset xs)
claimed_above facts n m offset le [] = tt
claimed_above facts n m offset le (x ∷ xs) = (le, claimed_above facts n (m + 1) (offset + need facts (item_in (x.1).payload)) (omega (arith, le)) xs)

all_together : (f : LaneFrame → Type 0) (g : LaneFrame → Type 0) (h : LaneFrame → Type 0) → ((x : LaneFrame) → f x → g x → h x) → (xs : List LaneFrame) → AllByRecursion f xs → AllByRecursion g xs → AllByRecursion h xs
all_together f g h join [] a b = tt
all_together f g h join (x ∷ xs) a b = (join x a.0 b.0, all_together f g h join xs a.1 b.1)

not_both : (a b n : ℕ) → n + 1 ≤ a → b ≡ n → a ≡ b → ⊥
not_both a b n h e k = omega (arith, h, e, k)

fresh_agree : (facts : List Fact) (number offset : ℕ) (xs : List (ℕ × Order)) → AllByRecursion (λ (f : LaneFrame). AllByRecursion (Q f) (fresh number (orders_of xs))) (claimed_from facts number offset xs)
fresh_agree facts number offset [] = tt
fresh_agree facts number offset (x ∷ xs) =
    let next : ℕ = offset + need facts (item_in (x.1).payload) in
    let one : Outgoing = record { frame = number; transmission = ordered (x.1); fresh = true } in
    let f : LaneFrame = record { place = x.0; emission = New (x.1); number = number; offset = offset } in
    let later : List Outgoing = fresh (number + 1) (orders_of xs) in (
      (
        (λ e. record { name = refl; answers = refl; new = refl }),
        all_weaker_out (λ (o : Outgoing). number + 1 ≤ o.frame) (Q f) (λ o le e. absurd (not_both o.frame number number le refl e)) later (fresh_from (number + 1) (number + 1) (omega arith) (orders_of xs)),
      ),
      all_together (λ (g : LaneFrame). number + 1 ≤ g.number) (λ (g : LaneFrame). AllByRecursion (Q g) later) (λ (g : LaneFrame). AllByRecursion (Q g) (one ∷ later))
          (λ g le rest. ((λ e. absurd (not_both g.number number number le refl (sym e))), rest)) (claimed_from facts (number + 1) next xs)
          (claimed_above facts (number + 1) (number + 1) next (omega arith) xs) (fresh_agree facts (number + 1) next xs),
    )
  where
    all_weaker_out : (P R : Outgoing → Type 0) → ((x : Outgoing) → P x → R x) → (xs : List Outgoing) → AllByRecursion P xs → AllByRecursion R xs
    all_weaker_out P R h [] a = tt
    all_weaker_out P R h (x ∷ xs) a = (h x a.0, all_weaker_out P R h xs a.1)

module _ (net : Network) (network : IsNetwork net) (workers : ℕ) (some : 1 ≤ workers) (w : World) (c : Conserved net w) (quiet : IsQuiet w) (jobs : List Job) (histories : List (List Work))
    (logs : Lane → List Deed) (h : AreLaneWorks net workers w jobs histories logs) where
  abbrev b : World
  b = begun net network workers some w c quiet jobs histories logs h

  abbrev x : World
  x = then' net network workers some w c quiet jobs histories logs h

  abbrev puts : List LanePut
  puts = made net network workers some w c quiet jobs histories logs h

  olds : AreOld net w b
  olds = turns_old net w network c (flat histories) w c (at_start net w quiet) (are_turns net network workers w c quiet jobs histories logs h) h.turns

  module _ (l : Lane) where
    abbrev older : List Allocation
    older = b.frames l

    abbrev mine : List Repeat
    mine = again net network workers some w c quiet jobs histories logs h l

    abbrev n : ℕ
    n = length older

    abbrev news : List Outgoing
    news = fresh n (orders_of (claims_in (logs l)))

    -- A waiting frame with the number of a repeat is that repeat.
    abbrev is_agreed : ℕ × Emission → Bool
    is_agreed (place, New o) = true
    is_agreed (place, Again r) =
        nat_lt (frame_at older r.offset) n && list_all (λ (o : Outgoing). not (o.frame == frame_at older r.offset) || transmission_eq o.transmission (repeated older r).transmission) (b.outgoing l)

    agreed_at : (i : ℕ) (r : Repeat) → slice_get mine i ≡ Some r → (place : ℕ) → is_agreed (place, Again r) ≡ true
    agreed_at i r at place =
        let one : Outgoing = repeated older r in
        let there : slice_get (b.outgoing l) i ≡ Some one =
        ap (λ (os : List Outgoing). slice_get os i) (outgoing_before net network workers some w c quiet jobs histories logs h l) ∙ mapped_get older mine i r at in
        let within : one.frame < n =
        all_at (λ (o : Outgoing). o.frame < n) (map (repeated older) mine) i one (below net network workers some w c quiet jobs histories logs h l) (mapped_get older mine i r at) in
        and_both (nat_lt one.frame n) (list_all (λ (o : Outgoing). not (o.frame == one.frame) || transmission_eq o.transmission one.transmission) (b.outgoing l)) (lt-ltb one.frame n within)
        (all_found (λ (o : Outgoing). not (o.frame == one.frame) || transmission_eq o.transmission one.transmission) (b.outgoing l) (λ k o at'.
        elim (o.frame == one.frame) as (λ t. (o.frame == one.frame) ≡ t → (not t || transmission_eq o.transmission one.transmission) ≡ true) [
          | true ↦ λ e.
              ap (λ (t : Transmission). transmission_eq t one.transmission)
              (one_transmission net w c b (conserved net network workers w c quiet jobs histories logs h) olds l k i o one at' there (eq_from o.frame one.frame e)) ∙ transmission_same one.transmission
          | false ↦ λ e. refl
        ] refl))

    all_agreed : list_all is_agreed (done_for_plans (logs l)) ≡ true
    all_agreed =
        all_alike is_agreed (done_for_plans (logs l)) (wanted_on l (all_wanted net network workers some w c quiet jobs histories logs h)) (wanted_here net network workers w c quiet jobs histories logs h l)
        (tested_from is_agreed (λ place o. refl) (wanted_on l (all_wanted net network workers some w c quiet jobs histories logs h))
        (subst (AllByRecursion (λ (r : Repeat). (place : ℕ) → is_agreed (place, Again r) ≡ true)) (sym (repeats_here net network workers some w c quiet jobs histories logs h l))
        (all_from (λ (r : Repeat). (place : ℕ) → is_agreed (place, Again r) ≡ true) mine agreed_at)))

    abbrev P : LaneFrame → Type 0
    P f = AllByRecursion (Q f) (x.outgoing l)

    from_parts : (f : LaneFrame) → AllByRecursion (Q f) (map (repeated older) mine) → AllByRecursion (Q f) news → P f
    from_parts f old new =
        subst (AllByRecursion (Q f)) (sym (outgoing_after net network workers w c quiet jobs histories logs h l)) (all_both (Q f) (map (repeated older) mine) news old new)

    apart_above : (m : ℕ) (f : LaneFrame) → n ≤ f.number → (os : List Outgoing) → AreBelow n os → AllByRecursion (Q f) os
    apart_above m f le [] a = tt
    apart_above m f le (o ∷ os) a = (λ e. let less = a.0 in absurd (omega (arith, less, le, e)), apart_above m f le os a.1)

    apart_below : (f : LaneFrame) → f.number < n → (os : List Outgoing) → AllByRecursion (λ (o : Outgoing). n ≤ o.frame) os → AllByRecursion (Q f) os
    apart_below f lt [] a = tt
    apart_below f lt (o ∷ os) a = (λ e. let le = a.0 in absurd (omega (arith, le, lt, e)), apart_below f lt os a.1)

    of_new : AllByRecursion P (new_frames b l (logs l))
    of_new =
        all_together (λ (f : LaneFrame). n ≤ f.number) (λ (f : LaneFrame). AllByRecursion (Q f) news) P
        (λ f le new. from_parts f (apart_above n f le (map (repeated older) mine) (below net network workers some w c quiet jobs histories logs h l)) new) (new_frames b l (logs l))
        (claimed_above b.durable.facts n n (length (b.durable.own l)) (omega arith) (claims_in (logs l)))
        (fresh_agree b.durable.facts n (length (b.durable.own l)) (claims_in (logs l)))

    same_repeats : (place : ℕ) (r : Repeat) (os : List Outgoing) → AllByRecursion (λ (o : Outgoing). o.fresh ≡ false) os →
        list_all (λ (o : Outgoing). not (o.frame == frame_at older r.offset) || transmission_eq o.transmission (repeated older r).transmission) os ≡ true → AllByRecursion (Q (again_frame older (place, r))) os
    same_repeats place r [] old e = tt
    same_repeats place r (o ∷ os) old e =
        let j : ℕ = frame_at older r.offset in
        let test : Outgoing → Bool = λ (o : Outgoing). not (o.frame == j) || transmission_eq o.transmission (repeated older r).transmission in
        let mine' : test o ≡ true = and_left (test o) (list_all test os) e in (
          (λ is.
              let here : (o.frame == j) ≡ true = ap (λ (k : ℕ). k == j) is ∙ eq_same j in
              let same : o.transmission ≡ (repeated older r).transmission =
              transmission_from o.transmission (repeated older r).transmission (sym (ap (λ (t : Bool). not t || transmission_eq o.transmission (repeated older r).transmission) here) ∙ mine') in
              record { name = ap (λ (t : Transmission). item_name t.item) same; answers = ap (λ (t : Transmission). t.received_offset) same; new = old.0 }),
          same_repeats place r os old.1 (and_right (test o) (list_all test os) e),
        )

    of_again : (place : ℕ) (r : Repeat) → is_agreed (place, Again r) ≡ true → P (again_frame older (place, r))
    of_again place r e =
        let j : ℕ = frame_at older r.offset in
        let test : Bool = list_all (λ (o : Outgoing). not (o.frame == j) || transmission_eq o.transmission (repeated older r).transmission) (b.outgoing l) in
        let within : j < n = ltb-true j n (and_left (nat_lt j n) test e) in
        from_parts (again_frame older (place, r))
        (same_repeats place r (map (repeated older) mine) (all_old older mine)
        (ap (list_all (λ (o : Outgoing). not (o.frame == j) || transmission_eq o.transmission (repeated older r).transmission)) (sym (outgoing_before net network workers some w c quiet jobs histories logs h l))
        ∙ and_right (nat_lt j n) test e))
        (apart_below (again_frame older (place, r)) within news (fresh_from n n (omega arith) (orders_of (claims_in (logs l)))))

    lane_agrees : AllByRecursion (λ (p : LaneFrame × Environment). P p.0) (frames_put b l (logs l))
    lane_agrees = of_log P older (new_frames b l (logs l)) of_new is_agreed of_again (logs l) all_agreed

  all_agree : AllByRecursion (Agrees x.outgoing) puts
  all_agree =
      all_by_lane put_lane (Agrees x.outgoing) puts
      (λ l. subst (AllByRecursion (Agrees x.outgoing)) (sym (puts_on_lane net.site b logs h.undeclared l))
      (all_mapped (Agrees x.outgoing) (λ (p : LaneFrame × Environment). (l, p)) (frames_put b l (logs l)) (lane_agrees l)))

  -- So each sender is told of the frames of its lanes, lane by lane.

  none_before : (v : ℕ) → x.placings v ≡ []
  none_before v =
      ap (λ (y : World). y.placings v) (claims_alone net (all_claims net.site logs) b)
      ∙ ap (λ (f : ℕ → List Placing). f v) (turns_leave_placings net (flat histories) w (are_turns net network workers w c quiet jobs histories logs h)) ∙ quiet.noted v

  sealed_as : (l : Lane) (a : Allocation) → frame_octets net x l (Some a) ≡ frame_octets net b l (Some a)
  sealed_as l a = ap (λ (y : World). frame_octets net y l (Some a)) (claims_alone net (all_claims net.site logs) b)

  pub placings_are : (v : ℕ) → (last net network workers some w c quiet jobs histories logs h).placings v ≡ placings_after net b logs v
  placings_are v =
      all_noted net b v puts x (puts_go net network workers some w c quiet jobs histories logs h) sealed_as (have_places net network workers some w c quiet jobs histories logs h) all_agree
      ∙ ap (λ (xs : List Placing). xs ++ noted net b v (λ l. length (x.wire l)) puts) (none_before v)
      ∙ ap (λ (f : Lane → List ℕ). noted net b v (λ l. length (f l)) puts) (wire_before net network workers some w c quiet jobs histories logs h)
      ∙ noted_by_lane net b v (λ l. frames_put b l (logs l)) (λ l. length (b.wire l)) (all_lanes net.site) (lanes_apart net.site)
