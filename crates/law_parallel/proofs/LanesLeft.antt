-- What a block leaves on each lane.
use Rattle.std.proofs.Common.{◌≡◌, ℕ, zero, suc, ◌+◌, ◌<◌, ◌≤◌, Bool, true, false, List, [], ◌∷◌, ◌++◌, length, map, refl, sym, ◌∙◌, ap, arith, Some}
use Rattle.std.specs.Prelude.{filter, replicate, count_by, slice_get, if◌then◌else◌}
use Rattle.std.specs.List.{flat_map, AllByRecursion}
use Rattle.std.proofs.lemmas.List.{length-append, length-replicate, map-append}
use Rattle.qkd_base.specs.declared.lane.Lane.{Lane}
use Rattle.net_model.specs.declared.fact.Fact.{Fact}
use Rattle.net_model.specs.declared.order.Order.{Order}
use Rattle.net_model.specs.Item.{need}
use Rattle.net_model.specs.World.{Network, World, Allocation, Frame}
use Rattle.net_model.specs.Ledger.{is_burnt}
use Rattle.net_model.specs.Premises.{IsNetwork}
use Rattle.net_model.specs.Invariant.{Conserved}
use Rattle.net_model.specs.Frames.{frame_octets}
use Rattle.net_model.specs.Tick.{item_in}
use Rattle.net_model.specs.Action.{Environment}
use Rattle.run_model.specs.Works.{Work}
use Rattle.run_ops.specs.Quiet.{IsQuiet}
use Rattle.run_ops.specs.declared.job.Job.{Job}
use Rattle.law_base.proofs.Base.{slice_get-append_left}
use Rattle.law_locality.proofs.Counting.{count_more}
use Rattle.law_base.proofs.Lists.{all_from}
use Rattle.law_locality.proofs.Lists.{all_weaker}
use Rattle.law_parallel.proofs.Counting.{count-append}
use Rattle.law_parallel.specs.Logs.{Deed, claims_in}
use Rattle.law_parallel.specs.Puts.{LaneFrame, item_sent, allocation_of, claimed_from, new_frames, frames_put, owners, frames_after, octets_claimed, is_taken, numbers_taken, octets_on_wire, octets_taken}
use Rattle.law_parallel.specs.LaneWorks.{AreLaneWorks, world_after, IsLeft}
use Rattle.law_parallel.proofs.LaneBlock.{start, after, conserved}
use Rattle.law_parallel.proofs.LaneFound.{IsFound}
use Rattle.law_parallel.proofs.LanePutFor.{puts_found, frames_after as frames_claimed}

-- Lemmas on bytes.

owned_length : (facts : List Fact) (number offset : ℕ) (xs : List (ℕ × Order)) → length (flat_map (owners facts) (claimed_from facts number offset xs)) ≡ octets_claimed facts xs
owned_length facts number offset [] = refl
owned_length facts number offset (x ∷ xs) =
    let n : ℕ = need facts (item_in (x.1).payload) in
    length-append (replicate n (Frame number)) (flat_map (owners facts) (claimed_from facts (number + 1) (offset + n) xs))
    ∙ ap (λ (k : ℕ). k + length (flat_map (owners facts) (claimed_from facts (number + 1) (offset + n) xs))) (length-replicate n (Frame number))
    ∙ ap (λ (k : ℕ). n + k) (owned_length facts (number + 1) (offset + n) xs)

none_burnt : (n j : ℕ) → count_by is_burnt (replicate n (Frame j)) ≡ 0
none_burnt zero j = refl
none_burnt (suc n) j = let more = count_more is_burnt (Frame j) (replicate n (Frame j)) in let rest = none_burnt n j in omega (arith, more, rest)

owned_burnt : (facts : List Fact) (fs : List LaneFrame) → count_by is_burnt (flat_map (owners facts) fs) ≡ 0
owned_burnt facts [] = refl
owned_burnt facts (f ∷ fs) =
    let both = count-append is_burnt (owners facts f) (flat_map (owners facts) fs) in
    let one = none_burnt (need facts (item_sent f.emission)) f.number in
    let rest = owned_burnt facts fs in
    omega (arith, both, one, rest)

-- Lemmas on wires.

map_same : {A B : Type 0} (f g : A → B) (xs : List A) → AllByRecursion (λ (x : A). f x ≡ g x) xs → map f xs ≡ map g xs
map_same f g [] h = refl
map_same f g (x ∷ xs) h = let one = h.0 in let rest = map_same f g xs h.1 in λ i. one i ∷ rest i

module _ (f : ℕ → List ℕ) (g : LaneFrame → List ℕ) where
  taken_same : (ps : List (LaneFrame × Environment)) → AllByRecursion (λ (p : LaneFrame × Environment). f (p.0).number ≡ g p.0) ps →
      map f (numbers_taken ps) ≡ map (λ (p : LaneFrame × Environment). g p.0) (filter (λ (p : LaneFrame × Environment). is_taken p.1) ps)
  taken_same [] h = refl
  taken_same (p ∷ ps) h =
      let taken : LaneFrame × Environment → Bool = λ (q : LaneFrame × Environment). is_taken q.1 in
      elim (is_taken p.1) as (λ t. map f (map (λ (q : LaneFrame × Environment). (q.0).number) (if t then p ∷ filter taken ps else filter taken ps)) ≡
      map (λ (q : LaneFrame × Environment). g q.0) (if t then p ∷ filter taken ps else filter taken ps)) [
        | true ↦ let one = h.0 in let rest = taken_same ps h.1 in λ i. one i ∷ rest i
        | false ↦ taken_same ps h.1
      ]

module _ (net : Network) (network : IsNetwork net) (workers : ℕ) (some : 1 ≤ workers) (w : World) (c : Conserved net w) (quiet : IsQuiet w) (jobs : List Job) (histories : List (List Work))
    (logs : Lane → List Deed) (h : AreLaneWorks net workers w jobs histories logs) (l : Lane) where
  abbrev b : World
  b = start net network workers w c quiet jobs histories logs h

  abbrev x : World
  x = world_after net b logs

  abbrev log : List Deed
  log = logs l

  places : AllByRecursion (λ (p : LaneFrame × Environment). slice_get (frames_after b l log) (p.0).number ≡ Some (allocation_of p.0)) (frames_put b l log)
  places =
      all_weaker (λ (p : LaneFrame × Environment). IsFound (after net network workers w c quiet jobs histories logs h) l (b.frames l) p.0)
      (λ (p : LaneFrame × Environment). slice_get (frames_after b l log) (p.0).number ≡ Some (allocation_of p.0))
      (λ p f. ap (λ (fs : List Allocation). slice_get fs (p.0).number) (sym (frames_claimed net network workers some w c quiet jobs histories logs h l)) ∙ f.frame) (frames_put b l log)
      (puts_found net network workers some w c quiet jobs histories logs h l)

  abbrev octets_then : ℕ → List ℕ
  octets_then j = frame_octets net x l (slice_get (frames_after b l log) j)

  abbrev octets_before : ℕ → List ℕ
  octets_before j = frame_octets net b l (slice_get (b.frames l) j)

  older_stay : AllByRecursion (λ (j : ℕ). octets_then j ≡ octets_before j) (b.wire l)
  older_stay =
      all_from (λ (j : ℕ). octets_then j ≡ octets_before j) (b.wire l) (λ n j at.
      let within : j < length (b.frames l) = ((conserved net network workers w c quiet jobs histories logs h).wired l).wired n j at in
      ap (frame_octets net b l) (slice_get-append_left (b.frames l) (map allocation_of (new_frames b l log)) j within))

  newer_are : AllByRecursion (λ (p : LaneFrame × Environment). octets_then (p.0).number ≡ frame_octets net b l (Some (allocation_of p.0))) (frames_put b l log)
  newer_are =
      all_weaker (λ (p : LaneFrame × Environment). slice_get (frames_after b l log) (p.0).number ≡ Some (allocation_of p.0))
      (λ (p : LaneFrame × Environment). octets_then (p.0).number ≡ frame_octets net b l (Some (allocation_of p.0))) (λ p at. ap (frame_octets net b l) at) (frames_put b l log) places

  wire : octets_on_wire net x l ≡ octets_on_wire net b l ++ octets_taken net b l log
  wire =
      map-append octets_then (b.wire l) (numbers_taken (frames_put b l log)) ∙ ap (λ (os : List (List ℕ)). os ++ map octets_then (numbers_taken (frames_put b l log))) (map_same octets_then octets_before (b.wire l) older_stay)
      ∙ ap (λ (os : List (List ℕ)). octets_on_wire net b l ++ os) (taken_same octets_then (λ (f : LaneFrame). frame_octets net b l (Some (allocation_of f))) (frames_put b l log) newer_are)

  pub left : IsLeft net b logs l
  left = record {
    used = length-append (b.durable.own l) (flat_map (owners b.durable.facts) (new_frames b l log))
        ∙ ap (λ (k : ℕ). length (b.durable.own l) + k) (owned_length b.durable.facts (length (b.frames l)) (length (b.durable.own l)) (claims_in log));
    burnt = let both = count-append is_burnt (b.durable.own l) (flat_map (owners b.durable.facts) (new_frames b l log)) in
        let none = owned_burnt b.durable.facts (new_frames b l log) in
        omega (arith, both, none);
    places = places;
    wire = wire;
  }
