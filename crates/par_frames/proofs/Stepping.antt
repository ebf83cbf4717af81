-- Calls of a lane keep the lane and its bytes, and its ledger grows by what they claim.
use Rattle.std.proofs.Common.{◌≡◌, ℕ, ◌+◌, ◌≤◌, true, false, List, [], ◌∷◌, map, refl, sym, ◌∙◌, ap, subst, arith}
use Rattle.std.specs.Prelude.{nat_le, if◌then◌else◌}
use Rattle.qkd_base.specs.declared.lane.Lane.{Lane}
use Rattle.turnstile.specs.Turns.{Leads}
use Rattle.pad_ledger.specs.Ledger.{Ledger}
use Rattle.lane_sender.specs.Lane.{LaneForm, reaching, frame_need}
use Rattle.par_lanes.specs.Turns.{Turns}
use Rattle.par_frames.specs.LaneCalls.{LaneCall, ClaimsFor, PutsFor, RepeatsFor, asked}
use Rattle.source_devices.specs.declared.wire.Wire as Wire

-- a ledger whose end was raised

raised_used : (n : ℕ) (g : Ledger) → (reaching n g).used ≡ g.used
raised_used n g = elim (nat_le (g.used + n) g.end) as (λ t. (if t then g else record g { end = g.used + n }).used ≡ g.used) [ true ↦ refl | false ↦ refl ]

raised_received : (n : ℕ) (g : Ledger) → (reaching n g).received ≡ g.received
raised_received n g = elim (nat_le (g.used + n) g.end) as (λ t. (if t then g else record g { end = g.used + n }).received ≡ g.received) [ true ↦ refl | false ↦ refl ]

raised_burnt : (n : ℕ) (g : Ledger) → (reaching n g).burnt ≡ g.burnt
raised_burnt n g = elim (nat_le (g.used + n) g.end) as (λ t. (if t then g else record g { end = g.used + n }).burnt ≡ g.burnt) [ true ↦ refl | false ↦ refl ]

raised_end : (n : ℕ) (g : Ledger) (most : ℕ) → g.end ≤ most → g.used + n ≤ most → (reaching n g).end ≤ most
raised_end n g most low high = elim (nat_le (g.used + n) g.end) as (λ t. (if t then g else record g { end = g.used + n }).end ≤ most) [ true ↦ low | false ↦ high ]

module _ {X : Type 0} (wire_says : Wire.Ghosts X) (cap : ℕ) (l : Lane) (bytes : List ℕ) where
  -- These calls lead from one state of the lane to another.
  abbrev pub Leading : LaneForm X → List LaneCall → LaneForm X → Type 0
  Leading old log new = Leads (Turns wire_says cap) old (map (asked l bytes) log) new

  -- one of these calls
  abbrev pub Turned : LaneForm X → LaneCall → LaneForm X → Type 0
  Turned old c new = Turns wire_says cap old (asked l bytes c).0 (asked l bytes c).1 new

  pub record Stays (old new : LaneForm X) : Type 0 where
    pub lane : new.lane ≡ old.lane
    pub octets : new.bytes ≡ old.bytes
    pub received : new.ledger.received ≡ old.ledger.received
    pub burnt : new.ledger.burnt ≡ old.ledger.burnt
    pub later : old.ledger.used ≤ new.ledger.used
    pub end : (most : ℕ) → old.ledger.end ≤ most → new.ledger.used ≤ most → new.ledger.end ≤ most

  -- A claim takes what its frame needs.

  pub claim_used : (line : ℕ) (o : _) (grant : _) (c : _) (old new : LaneForm X) → Turned old (ClaimsFor line o grant c) new → new.ledger.used ≡ old.ledger.used + frame_need o.payload
  claim_used line o grant c old new t = ap (λ (s : LaneForm X). s.ledger.used) t.after ∙ ap (λ (n : ℕ). n + frame_need o.payload) (raised_used (frame_need o.payload) old.ledger)

  same_stays : (old new : LaneForm X) → (new.lane ≡ old.lane) × (new.bytes ≡ old.bytes) × (new.ledger ≡ old.ledger) → Stays old new
  same_stays old new same = record {
    lane = same.0;
    octets = same.1;
    received = ap (λ (g : Ledger). g.received) same.2;
    burnt = ap (λ (g : Ledger). g.burnt) same.2;
    later = let used = ap (λ (g : Ledger). g.used) same.2 in omega (arith, used);
    end = λ most low high. subst (λ (g : Ledger). g.end ≤ most) (sym same.2) low;
  }

  one_stays : (c : LaneCall) (old new : LaneForm X) → Turned old c new → Stays old new
  one_stays (ClaimsFor line o grant c) old new t =
      let n : ℕ = frame_need o.payload in
      let used = claim_used line o grant c old new t in
      record {
        lane = ap (λ (s : LaneForm X). s.lane) t.after;
        octets = ap (λ (s : LaneForm X). s.bytes) t.after;
        received = ap (λ (s : LaneForm X). s.ledger.received) t.after ∙ raised_received n old.ledger;
        burnt = ap (λ (s : LaneForm X). s.ledger.burnt) t.after ∙ raised_burnt n old.ledger;
        later = omega (arith, used);
        end = λ most low high. subst (λ (s : LaneForm X). s.ledger.end ≤ most) (sym t.after) (raised_end n old.ledger most low (omega (arith, used, high)));
      }
  one_stays (PutsFor claim o c out) old new t = same_stays old new t.lane
  one_stays (RepeatsFor r out) old new t = same_stays old new t.lane

  pub all_stay : (log : List LaneCall) (old new : LaneForm X) → Leading old log new → Stays old new
  all_stay [] old new h = record {
    lane = ap (λ (s : LaneForm X). s.lane) (sym h);
    octets = ap (λ (s : LaneForm X). s.bytes) (sym h);
    received = ap (λ (s : LaneForm X). s.ledger.received) (sym h);
    burnt = ap (λ (s : LaneForm X). s.ledger.burnt) (sym h);
    later = let used = ap (λ (s : LaneForm X). s.ledger.used) h in omega (arith, used);
    end = λ most low high. subst (λ (s : LaneForm X). s.ledger.end ≤ most) h low;
  }
  all_stay (c ∷ log) old new h =
      let one = one_stays c old h.0 h.1 in
      let rest = all_stay log h.0 new h.2 in
      record {
        lane = rest.lane ∙ one.lane;
        octets = rest.octets ∙ one.octets;
        received = rest.received ∙ one.received;
        burnt = rest.burnt ∙ one.burnt;
        later = let a = one.later in let b = rest.later in omega (arith, a, b);
        end = λ most low high. rest.end most (one.end most low (let b = rest.later in omega (arith, b, high))) high;
      }
