-- The turns of a desk.
use Rattle.std.proofs.Common.{◌≡◌, ℕ, take, drop, List, [], ◌∷◌, refl, sym, ap, subst, ◌∙◌, Result}
use Rattle.turnstile.specs.Turns.{Leads}
use Rattle.pad_ledger.specs.Ledger.{Range}
use Rattle.source_devices.specs.declared.wire.WireFailed.{WireFailed}
use Rattle.hop_frames.specs.Frame.{hash_key}
use Rattle.shared_objects.specs.Calling.{HasTurned}
use Rattle.lane_shares.specs.declared.share.Share.{Share}
use Rattle.lane_shares.specs.declared.shares.Shares.{Shares}
use Rattle.lane_sender.specs.declared.claimed.Claimed.{Claimed}
use Rattle.lane_sender.specs.Lane.{LaneForm}
use Rattle.par_lanes.specs.declared.ask.LaneAsk.{LaneAsk}
use Rattle.par_lanes.specs.declared.ask.LaneAsk.TheVariants.{Claim, Put, Again}
use Rattle.par_lanes.specs.declared.ask.LaneAnswer.{LaneAnswer}
use Rattle.par_lanes.specs.declared.ask.LaneAnswer.TheVariants as answers
use Rattle.par_lanes.specs.declared.charter.LaneCharter.{LaneCharter}
use Rattle.par_lanes.specs.Asking.{MayAsk}
use Rattle.par_lanes.specs.Turns.{DeskTurns}
use Rattle.par_lanes.proofs.DeskLanes.{desk_turn, charter_kept}
use Rattle.par_lanes.specs.Saying.{IsFrame}
use Rattle.source_devices.specs.declared.wire.Wire as Wire

pub may_put : (c : LaneCharter) (ask : LaneAsk) → IsFrame ask → MayAsk c ask
may_put c (Claim need grant) h = absurd h
may_put c (Put frame length) h = h
may_put c (Again number frame length) h = h

module _ {D X : Type 0} (wire_says : Wire.Ghosts X) (side : D → LaneForm X) (shares : D → Shares) where
  -- A machine whose turns are those of a desk has a history of a desk.

  leads_as : (turn : D → LaneAsk → LaneAnswer → D → Type 0) → ((d : D) (ask : LaneAsk) (answer : LaneAnswer) (n : D) → turn d ask answer n → desk_turn wire_says side shares d ask answer n) →
      (m n : D) (log : List (LaneAsk × LaneAnswer)) → Leads turn m log n → Leads (desk_turn wire_says side shares) m log n
  leads_as turn f m n [] h = h
  leads_as turn f m n (e ∷ es) (k, t, l) = (k, f m e.0 e.1 k t, leads_as turn f k n es l)

  pub turned_as : (turn : D → LaneAsk → LaneAnswer → D → Type 0) → ((d : D) (ask : LaneAsk) (answer : LaneAnswer) (n : D) → turn d ask answer n → desk_turn wire_says side shares d ask answer n) →
      (d : D) (ask : LaneAsk) (answer : LaneAnswer) → HasTurned turn d ask answer → HasTurned (desk_turn wire_says side shares) d ask answer
  turned_as turn f d ask answer t = record { earlier = t.earlier; before = t.before; after = t.after; leads = leads_as turn f d t.before t.earlier t.leads; turned = f t.before ask answer t.after t.turned }

  -- A put is answered with the wire's answer.

  placed : (ask : LaneAsk) → IsFrame ask → (answer : LaneAnswer) (b n : D) → DeskTurns wire_says side shares b ask answer n → (said : Result ℕ WireFailed) × (answer ≡ answers.Placed said)
  placed (Claim need grant) f answer b n h = absurd f
  placed (Put frame length) f (answers.Placed said) b n h = (said, refl)
  placed (Put frame length) f (answers.Claimed c) b n h = absurd h
  placed (Again number frame length) f (answers.Placed said) b n h = (said, refl)
  placed (Again number frame length) f (answers.Claimed c) b n h = absurd h

  pub put_placed : (d : D) (ask : LaneAsk) → IsFrame ask → (answer : LaneAnswer) → HasTurned (desk_turn wire_says side shares) d ask answer → (said : Result ℕ WireFailed) × (answer ≡ answers.Placed said)
  put_placed d ask f answer t = placed ask f answer t.before t.after t.turned.1

  -- A claim is answered with the next bytes.

  module _ (d : D) (need : ℕ) (grant : Share) where
    claims : (answer : LaneAnswer) (b n : D) → DeskTurns wire_says side shares b (Claim need grant) answer n → (c : Claimed) × (answer ≡ answers.Claimed c)
    claims (answers.Claimed c) b n h = (c, refl)
    claims (answers.Placed said) b n h = absurd h

    pub claim_claims : (answer : LaneAnswer) → HasTurned (desk_turn wire_says side shares) d (Claim need grant) answer → (c : Claimed) × (answer ≡ answers.Claimed c)
    claim_claims answer t = claims answer t.before t.after t.turned.1

    pub record Gave (c : Claimed) : Type 0 where
      pub len : c.range.len ≡ need
      pub given : (c.key ≡ hash_key (side d).bytes) × (take need c.pads.octets ≡ take need (drop c.range.start (side d).bytes))

    pub gave : (c : Claimed) (answer : LaneAnswer) → answer ≡ answers.Claimed c → HasTurned (desk_turn wire_says side shares) d (Claim need grant) answer → Gave c
    gave c answer is t =
        let turned = subst (λ (a : LaneAnswer). DeskTurns wire_says side shares t.before (Claim need grant) a t.after) is t.turned.1 in
        let bytes : (side t.before).bytes ≡ (side d).bytes = ap (λ (x : LaneCharter). x.bytes) (charter_kept wire_says side shares d t.before t.earlier t.leads) in
        record {
          len = ap (λ (r : Range). r.len) turned.range;
          given = (
            turned.key ∙ ap hash_key bytes,
            turned.pads ∙ ap (λ (n : ℕ). take need (drop n (side t.before).bytes)) (sym (ap (λ (r : Range). r.start) turned.range)) ∙ ap (λ (b : List ℕ). take need (drop c.range.start b)) bytes,
          );
        }
