-- The frames that calls of a lane put are those that its log of deeds puts.
use Rattle.std.proofs.Common.{◌≡◌, ℕ, zero, suc, ◌+◌, List, [], ◌∷◌, ◌++◌, length, map, refl, sym, ◌∙◌, ap, arith, Option, Some, None}
use Rattle.std.specs.Prelude.{slice_get}
use Rattle.std.specs.List.{flat_map, AllByRecursion}
use Rattle.qkd_base.specs.declared.lane.Lane.{Lane}
use Rattle.net_model.specs.declared.fact.Fact.{Fact}
use Rattle.net_model.specs.declared.order.Order.{Order}
use Rattle.net_model.specs.declared.payload.Payload.{Payload}
use Rattle.net_model.specs.declared.repeat.Repeat.{Repeat}
use Rattle.net_model.specs.Item.{payload, need, len_or_zero}
use Rattle.net_model.specs.World.{Network, World}
use Rattle.net_model.specs.Handle.{frame_at}
use Rattle.net_model.specs.Tick.{Again, New, item_in}
use Rattle.net_model.specs.Action.{Environment}
use Rattle.lane_shares.specs.declared.share.Share.{Share}
use Rattle.lane_sender.specs.declared.claimed.Claimed.{Claimed}
use Rattle.lane_sender.specs.Lane.{LaneForm, frame_need}
use Rattle.lane_sender.specs.Sending.{answer_of}
use Rattle.law_parallel.specs.Logs.{Deed, claims_in, done_for_plans}
use Rattle.law_parallel.specs.Puts.{LaneFrame, claimed_from, new_frames, with_answer, put_by, frames_put, octets_claimed}
use Rattle.law_parallel.specs.Places.{claims_before, with_number, numbered}
use Rattle.law_parallel.specs.Calls.{placed_from}
use Rattle.law_parallel.proofs.Numbered.{claims_same}
use Rattle.law_parallel.proofs.Sealed.{IsOfLane}
use Rattle.world_state.specs.Passed.{wire_answer}
use Rattle.par_frames.specs.LaneCalls.{LaneCall, ClaimsFor, PutsFor, RepeatsFor, deed_of, IsSound}
use Rattle.par_frames.proofs.Stepping.{Leading, claim_used}
use Rattle.source_devices.specs.declared.wire.Wire as Wire

-- the frame of the claim with this number
abbrev frame_for : ℕ → LaneCall → Option LaneFrame
frame_for number (ClaimsFor line o grant claimed) = Some (record { place = line; emission = New o; number = number; offset = claimed.range.start })
frame_for number (PutsFor claim o claimed out) = None
frame_for number (RepeatsFor r out) = None

-- the number of claims before a place
abbrev pub before : List LaneCall → ℕ → ℕ
before log n = claims_before (map deed_of log) n

module _ (net : Network) (w : World) (l : Lane) where
  abbrev pub AllOfLane : List LaneCall → Type 0
  AllOfLane log = AllByRecursion (IsOfLane net w l) (done_for_plans (map deed_of log))

  module _ (all : List LaneCall) where
    -- the frame of a claimed order, and the frame of a repeat

    abbrev pub new_frame : (claim : ℕ) → Order → Claimed → (line : ℕ) → LaneFrame
    new_frame claim o claimed line = record { place = line; emission = New o; number = length (w.frames l) + before all claim; offset = claimed.range.start }

    abbrev pub old_frame : Repeat → (line : ℕ) → LaneFrame
    old_frame r line = record { place = line; emission = Again r; number = frame_at (w.frames l) r.offset; offset = r.offset }

    -- the frames that a call puts
    abbrev pub puts_by : LaneCall → List (LaneFrame × Environment)
    puts_by (ClaimsFor line o grant claimed) = []
    puts_by (PutsFor claim o claimed out) = (new_frame claim o claimed out.line, wire_answer (answer_of out.sent)) ∷ []
    puts_by (RepeatsFor r out) = (old_frame r out.line, wire_answer (answer_of out.sent)) ∷ []

module _ {X : Type 0} (wire_says : Wire.Ghosts X) (cap : ℕ) (net : Network) (w : World) (l : Lane) (bytes : List ℕ) where
  abbrev facts : List Fact
  facts = w.durable.facts

  needed : (o : Order) → payload facts (item_in o.payload) ≡ Some o.payload → need facts (item_in o.payload) ≡ frame_need o.payload
  needed o spelled = ap (λ (p : Option Payload). len_or_zero p + 8) spelled

  moved : (a b : ℕ) → a + 1 + b ≡ a + suc b
  moved a b = omega arith

  pub found : (log : List LaneCall) (old new : LaneForm X) → Leading wire_says cap l bytes old log new → AllOfLane net w l log → (number n line : ℕ) (o : Order) (grant : Share) (claimed : Claimed) →
      slice_get log n ≡ Some (ClaimsFor line o grant claimed) →
      slice_get (claimed_from facts number old.ledger.used (claims_in (map deed_of log))) (before log n) ≡ frame_for (number + before log n) (ClaimsFor line o grant claimed)
  found [] old new h of number n line o grant claimed is = cc
  found (ClaimsFor line' o' grant' claimed' ∷ log) old new h of number zero line o grant claimed is =
      let same : ClaimsFor line' o' grant' claimed' ≡ ClaimsFor line o grant claimed = cc in
      let start : claimed'.range.start ≡ old.ledger.used = ap (λ r. r.start) h.1.range in
      let none : number ≡ number + 0 = omega arith in
      (λ i. Some (record { place = line'; emission = New o'; number = none i; offset = sym start i })) ∙ ap (frame_for (number + 0)) same
  found (ClaimsFor line' o' grant' claimed' ∷ log) old new h of number (suc n) line o grant claimed is =
      let goes : h.0.ledger.used ≡ old.ledger.used + need facts (item_in o'.payload) =
      claim_used wire_says cap l bytes line' o' grant' claimed' old h.0 h.1 ∙ ap (λ (k : ℕ). old.ledger.used + k) (sym (needed o' of.0.1.spelled)) in
      ap (λ (k : ℕ). slice_get (claimed_from facts (number + 1) k (claims_in (map deed_of log))) (before log n)) (sym goes)
      ∙ found log h.0 new h.2 of.1 (number + 1) n line o grant claimed is ∙ ap (λ (k : ℕ). frame_for k (ClaimsFor line o grant claimed)) (moved number (before log n))
  found (PutsFor claim o' claimed' out ∷ log) old new h of number zero line o grant claimed is = cc
  found (PutsFor claim o' claimed' out ∷ log) old new h of number (suc n) line o grant claimed is =
      ap (λ g. slice_get (claimed_from facts number g.used (claims_in (map deed_of log))) (before log n)) (sym h.1.lane.2) ∙ found log h.0 new h.2 of number n line o grant claimed is
  found (RepeatsFor r out ∷ log) old new h of number zero line o grant claimed is = cc
  found (RepeatsFor r out ∷ log) old new h of number (suc n) line o grant claimed is =
      ap (λ g. slice_get (claimed_from facts number g.used (claims_in (map deed_of log))) (before log n)) (sym h.1.lane.2) ∙ found log h.0 new h.2 of.1 number n line o grant claimed is

  -- the bytes that all claims take
  pub all_used : (log : List LaneCall) (old new : LaneForm X) → Leading wire_says cap l bytes old log new → AllOfLane net w l log →
      new.ledger.used ≡ old.ledger.used + octets_claimed facts (claims_in (map deed_of log))
  all_used [] old new h of = let same = ap (λ (s : LaneForm X). s.ledger.used) h in omega (arith, same)
  all_used (ClaimsFor line o grant claimed ∷ log) old new h of =
      let one = claim_used wire_says cap l bytes line o grant claimed old h.0 h.1 in
      let need' = needed o of.0.1.spelled in
      let rest = all_used log h.0 new h.2 of.1 in omega (arith, one, need', rest)
  all_used (PutsFor claim o claimed out ∷ log) old new h of =
      let one = ap (λ g. g.used) h.1.lane.2 in let rest = all_used log h.0 new h.2 of in omega (arith, one, rest)
  all_used (RepeatsFor r out ∷ log) old new h of =
      let one = ap (λ g. g.used) h.1.lane.2 in let rest = all_used log h.0 new h.2 of.1 in omega (arith, one, rest)

  -- ---- the frames that are put

  module _ (all : List LaneCall) where
    module _ (old new : LaneForm X) (h : Leading wire_says cap l bytes old all new) (of : AllOfLane net w l all) (used : old.ledger.used ≡ length (w.durable.own l)) where
      abbrev log : List Deed
      log = map deed_of all

      abbrev news : List LaneFrame
      news = new_frames w l (numbered log)

      found_there : (claim line : ℕ) (o : Order) (grant : Share) (claimed : Claimed) → slice_get all claim ≡ Some (ClaimsFor line o grant claimed) →
          slice_get news (before all claim) ≡ Some (new_frame net w l all claim o claimed line)
      found_there claim line o grant claimed is =
          (λ i. slice_get (claimed_from facts (length (w.frames l)) (sym used i) (claims_same log log i)) (before all claim))
          ∙ found all old new h of (length (w.frames l)) claim line o grant claimed is

      go : (place : ℕ) (calls : List LaneCall) → AllByRecursion (IsSound l bytes all) (placed_from place calls) →
          flat_map (put_by (w.frames l) news) (map (with_number log) (map deed_of calls)) ≡ flat_map (puts_by net w l all) calls
      go place [] sound = refl
      go place (ClaimsFor line o grant claimed ∷ calls) sound = go (place + 1) calls sound.1
      go place (PutsFor claim o claimed out ∷ calls) sound =
          let is = found_there claim out.line o sound.0.grant claimed sound.0.claims in
          let rest = go (place + 1) calls sound.1 in
          λ i. with_answer (wire_answer (answer_of out.sent)) (is i) ++ rest i
      go place (RepeatsFor r out ∷ calls) sound =
          ap (λ (ps : List (LaneFrame × Environment)). (old_frame net w l all r out.line, wire_answer (answer_of out.sent)) ∷ ps)
          (go (place + 1) calls sound.1)

      pub frames_are : AllByRecursion (IsSound l bytes all) (placed_from 0 all) → frames_put w l (numbered log) ≡ flat_map (puts_by net w l all) all
      frames_are sound = go 0 all sound
