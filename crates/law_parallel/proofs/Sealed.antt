-- The frames that workers put are ordered by their plans, and have the octets given for them.
use Rattle.std.proofs.Common.{◌≡◌, ℕ, zero, suc, ◌+◌, ◌≤◌, true, false, List, [], ◌∷◌, length, take, refl, sym, ◌∙◌, ap, subst, Some}
use Rattle.std.specs.Prelude.{◌==◌, ◌-◌, ◌%◌, replicate, slice_get, if◌then◌else◌}
use Rattle.std.specs.List.{flat_map, AllByRecursion}
use Rattle.std.proofs.lemmas.List.{take_at}
use Rattle.qkd_base.specs.Lane.{lane_eq}
use Rattle.qkd_base.specs.declared.lane.Lane.{Lane}
use Rattle.net_model.specs.declared.fact.Fact.{Fact}
use Rattle.net_model.specs.declared.repeat.Repeat.{Repeat}
use Rattle.net_model.specs.Item.{Item, item_of, need}
use Rattle.net_model.specs.Site.{sender}
use Rattle.net_model.specs.World.{Network, World, Allocation}
use Rattle.net_model.specs.Premises.{IsNetwork}
use Rattle.net_model.specs.Invariant.{Conserved}
use Rattle.net_model.specs.Window.{repeat_of}
use Rattle.net_model.specs.Events.{is_lane}
use Rattle.net_model.specs.Frames.{frame_octets, sealed}
use Rattle.net_model.specs.Tick.{Emission, Again, New, item_in}
use Rattle.net_model.specs.Action.{Environment}
use Rattle.run_model.specs.Works.{Work, flat, done_from}
use Rattle.run_ops.specs.Quiet.{IsQuiet}
use Rattle.run_ops.specs.declared.job.Job.{Job}
use Rattle.law_base.proofs.Base.{lane_eq_from}
use Rattle.law_base.proofs.Lists.{all_both, all_from, all_kept}
use Rattle.shared_objects.proofs.Holding.{all_of_merge}
use Rattle.law_locality.specs.Sending.{IsAgain, IsEmission}
use Rattle.law_parallel.specs.Putting.{lane_of, wanted_by}
use Rattle.law_parallel.specs.InOrder.{turns_over}
use Rattle.law_parallel.proofs.WorkRepeats.{AreEmissions}
use Rattle.law_parallel.specs.Logs.{Deed, Claims, Puts, Repeats, claims_in, done_for_plans, wanted_on}
use Rattle.law_parallel.specs.Puts.{LaneFrame, item_sent, claimed_from, new_frames, with_answer, put_by, frames_put}
use Rattle.law_parallel.specs.Places.{numbered}
use Rattle.law_parallel.specs.Calls.{placed_from, deeds, IsOfWorkers, AreWorkersWorks, octets_given, IsSealed}
use Rattle.law_parallel.proofs.LaneBlock.{what, remains}
use Rattle.law_parallel.proofs.Counted.{again_frame}
use Rattle.law_parallel.proofs.Numbered.{wanted_same}
use Rattle.law_parallel.proofs.WorkersCalls.{are_lane_works, deeds_placed}

-- What holds of everything that is done for plans holds of the deeds.

module _ (Q : ℕ × Emission → Type 0) where
  abbrev OfDeed : ℕ × Deed → Type 0
  OfDeed (place, Claims line order) = Q (line, New order)
  OfDeed (place, Puts claim answer) = Unit {0}
  OfDeed (place, Repeats line repeat answer) = Q (line, Again repeat)

  to_deeds : (calls : List (ℕ × Deed)) → AllByRecursion Q (done_for_plans (deeds calls)) → AllByRecursion OfDeed calls
  to_deeds [] h = tt
  to_deeds ((place, Claims line order) ∷ calls) h = (h.0, to_deeds calls h.1)
  to_deeds ((place, Puts claim answer) ∷ calls) h = (tt, to_deeds calls h)
  to_deeds ((place, Repeats line repeat answer) ∷ calls) h = (h.0, to_deeds calls h.1)

  from_deeds : (calls : List (ℕ × Deed)) → AllByRecursion OfDeed calls → AllByRecursion Q (done_for_plans (deeds calls))
  from_deeds [] h = tt
  from_deeds ((place, Claims line order) ∷ calls) h = (h.0, from_deeds calls h.1)
  from_deeds ((place, Puts claim answer) ∷ calls) h = from_deeds calls h.1
  from_deeds ((place, Repeats line repeat answer) ∷ calls) h = (h.0, from_deeds calls h.1)

  of_all_workers : (workers : ℕ) (wanted : List (ℕ × Emission)) (calls : List (List (ℕ × Deed))) (log : List Deed) → IsOfWorkers workers wanted calls log → AllByRecursion Q wanted →
      AllByRecursion Q (done_for_plans log)
  of_all_workers workers wanted calls log h all =
      subst (λ (ds : List Deed). AllByRecursion Q (done_for_plans ds)) (deeds_placed 0 log)
      (from_deeds (placed_from 0 log)
      (all_of_merge OfDeed h.merged
      (all_from (λ (mine : List (ℕ × Deed)). AllByRecursion OfDeed mine) calls (λ k mine at.
      to_deeds mine (subst (AllByRecursion Q) (sym (h.each k mine at).wants) (all_kept Q (λ (x : ℕ × Emission). x.0 % workers == k) wanted all))))))

-- What holds of the deeds holds of their frames.

module _ (Q : ℕ × Emission → Type 0) (P : LaneFrame → Type 0) (holds : (f : LaneFrame) → Q (f.place, f.emission) → (offset : (r : Repeat) → f.emission ≡ Again r → f.offset ≡ r.offset) → P f) where
  new_hold : (facts : List Fact) (number offset : ℕ) (log : List Deed) → AllByRecursion Q (done_for_plans log) → AllByRecursion P (claimed_from facts number offset (claims_in log))
  new_hold facts number offset [] h = tt
  new_hold facts number offset (Claims place o ∷ log) h =
      (holds (record { place = place; emission = New o; number = number; offset = offset }) h.0 (λ r e. cc), new_hold facts (number + 1) (offset + need facts (item_in o.payload)) log h.1)
  new_hold facts number offset (Puts claim answer ∷ log) h = new_hold facts number offset log h
  new_hold facts number offset (Repeats place r answer ∷ log) h = new_hold facts number offset log h.1

  one_holds : (answer : Environment) (fs : List LaneFrame) → AllByRecursion P fs → (n : ℕ) → AllByRecursion (λ (p : LaneFrame × Environment). P p.0) (with_answer answer (slice_get fs n))
  one_holds answer [] h n = tt
  one_holds answer (f ∷ fs) h zero = (h.0, tt)
  one_holds answer (f ∷ fs) h (suc n) = one_holds answer fs h.1 n

  puts_hold : (older : List Allocation) (new : List LaneFrame) → AllByRecursion P new → (log : List Deed) → AllByRecursion Q (done_for_plans log) →
      AllByRecursion (λ (p : LaneFrame × Environment). P p.0) (flat_map (put_by older new) log)
  puts_hold older new all [] h = tt
  puts_hold older new all (Claims place o ∷ log) h = puts_hold older new all log h.1
  puts_hold older new all (Puts claim answer ∷ log) h =
      all_both (λ (p : LaneFrame × Environment). P p.0) (with_answer answer (slice_get new claim)) (flat_map (put_by older new) log) (one_holds answer new all claim) (puts_hold older new all log h)
  puts_hold older new all (Repeats place r answer ∷ log) h =
      (holds (again_frame older (place, r)) h.0 (λ s e. let is : r ≡ s = cc in ap (λ (q : Repeat). q.offset) is), puts_hold older new all log h.1)

-- Lemmas on octets.

module _ (net : Network) (u : World) (l : Lane) where
  -- The frame is on the lane, and the lane's sender is to send it.
  abbrev pub IsOfLane : ℕ × Emission → Type 0
  IsOfLane x = (lane_of x.1 ≡ l) × IsEmission net u (sender net.site l) x.1

  repeat_octets : (r : Repeat) → r.lane ≡ l → IsAgain net u (sender net.site l) r → frame_octets net u l (Some (record { offset = r.offset; item = item_of r.ack_of r.name })) ≡ take r.length r.frame.octets
  repeat_octets r here again =
      let e = again.entry in
      let on : e.transmission.lane ≡ l = sym (ap (λ (q : Repeat). q.lane) again.is) ∙ here in
      let kept : take (repeat_of e).length (repeat_of e).frame.octets ≡ e.frame = take_at e.frame (replicate (600 - length e.frame) 0) (length e.frame) refl in
      ap (λ (q : Repeat). frame_octets net u l (Some (record { offset = q.offset; item = item_of q.ack_of q.name }))) again.is
      ∙ ap (λ (i : Item). frame_octets net u l (Some (record { offset = e.offset; item = i }))) (sym again.sent.shaped)
      ∙ ap (λ (k : Lane). frame_octets net u k (Some (record { offset = e.offset; item = e.transmission.item }))) (sym on)
      ∙ sym again.sent.octets ∙ sym kept ∙ sym (ap (λ (q : Repeat). take q.length q.frame.octets) again.is)

  sealed_one : (f : LaneFrame) (e : Emission) → f.emission ≡ e → lane_of e ≡ l → IsEmission net u (sender net.site l) e → ((r : Repeat) → f.emission ≡ Again r → f.offset ≡ r.offset) → IsSealed net u l f
  sealed_one f (Again r) is here emission offset = record {
    lane = ap lane_of is ∙ here;
    emission = subst (IsEmission net u (sender net.site l)) (sym is) emission;
    octets = ap (λ (e : Emission). frame_octets net u l (Some (record { offset = f.offset; item = item_sent e }))) is
        ∙ ap (λ (n : ℕ). frame_octets net u l (Some (record { offset = n; item = item_of r.ack_of r.name }))) (offset r is) ∙ repeat_octets r here emission
        ∙ ap (octets_given net u l f.offset) (sym is);
  }
  sealed_one f (New o) is here emission offset = record {
    lane = ap lane_of is ∙ here;
    emission = subst (IsEmission net u (sender net.site l)) (sym is) emission;
    octets = ap (λ (e : Emission). frame_octets net u l (Some (record { offset = f.offset; item = item_sent e }))) is
        ∙ ap (sealed net u l f.offset) emission.spelled ∙ ap (octets_given net u l f.offset) (sym is);
  }

  emissions_on : (xs : List (ℕ × Emission)) → AreEmissions net u (what xs) → AllByRecursion IsOfLane (wanted_on l xs)
  emissions_on [] h = tt
  emissions_on (x ∷ xs) h = elim (lane_eq (lane_of x.1) l) as (λ t. lane_eq (lane_of x.1) l ≡ t → AllByRecursion IsOfLane (if t then x ∷ wanted_on l xs else wanted_on l xs)) [
    | true ↦ λ e.
        let is : lane_of x.1 ≡ l = lane_eq_from (lane_of x.1) l e in
        ((is, subst (λ (k : Lane). IsEmission net u (sender net.site k) x.1) is h.0), emissions_on xs h.1)
    | false ↦ λ e. emissions_on xs h.1
  ] refl

-- Everything that is done for plans on a lane is a frame of the lane's sender.
pub all_of_lane : (net : Network) (workers : ℕ) (w : World) (jobs : List Job) (histories : List (List Work)) (calls : Lane → List (List (ℕ × Deed))) (logs : Lane → List Deed) → 1 ≤ workers →
    IsNetwork net → Conserved net w → IsQuiet w → AreWorkersWorks net workers w jobs histories calls logs → (l : Lane) → is_lane net.site l ≡ true →
    AllByRecursion (IsOfLane net (turns_over net w histories) l) (done_for_plans (logs l))
all_of_lane net workers w jobs histories calls logs some network c quiet h l declared =
    let u : World = turns_over net w histories in
    let wanted : List (ℕ × Emission) = wanted_by (done_from net w (flat histories)) in
    let lane_works = are_lane_works net workers w jobs histories calls logs some h in
    let each = (remains net network workers w c quiet jobs histories (λ k. numbered (logs k)) lane_works).each in
    of_all_workers (IsOfLane net u l) workers (wanted_on l wanted) (calls l) (logs l) (h.lanes l declared) (emissions_on net u l wanted each)

pub all_sealed : (net : Network) (workers : ℕ) (w : World) (jobs : List Job) (histories : List (List Work)) (calls : Lane → List (List (ℕ × Deed))) (logs : Lane → List Deed) → 1 ≤ workers →
    IsNetwork net → Conserved net w → IsQuiet w → AreWorkersWorks net workers w jobs histories calls logs → (l : Lane) → is_lane net.site l ≡ true →
    AllByRecursion (λ (p : LaneFrame × Environment). IsSealed net (turns_over net w histories) l p.0) (frames_put (turns_over net w histories) l (numbered (logs l)))
all_sealed net workers w jobs histories calls logs some network c quiet h l declared =
    let u : World = turns_over net w histories in
    let of_log = all_of_lane net workers w jobs histories calls logs some network c quiet h l declared in
    let of_numbered : AllByRecursion (IsOfLane net u l) (done_for_plans (numbered (logs l))) = subst (AllByRecursion (IsOfLane net u l)) (sym (wanted_same (logs l) (logs l))) of_log in
    let holds : (f : LaneFrame) → IsOfLane net u l (f.place, f.emission) → ((r : Repeat) → f.emission ≡ Again r → f.offset ≡ r.offset) → IsSealed net u l f =
    λ f q offset. sealed_one net u l f f.emission refl q.0 q.1 offset in
    puts_hold (IsOfLane net u l) (IsSealed net u l) holds (u.frames l) (new_frames u l (numbered (logs l)))
    (new_hold (IsOfLane net u l) (IsSealed net u l) holds u.durable.facts (length (u.frames l)) (length (u.durable.own l)) (numbered (logs l)) of_numbered) (numbered (logs l)) of_numbered
