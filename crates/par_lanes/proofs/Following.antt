-- The claims of a history take consecutive ranges.
use Rattle.std.proofs.Common.{◌≡◌, ℕ, ◌+◌, Bool, true, false, List, [], ◌∷◌, refl, ap, sym, ◌∙◌, subst, arith, if◌then◌else◌}
use Rattle.std.specs.Prelude.{nat_le}
use Rattle.pad_ledger.specs.Ledger.{Ledger, Range}
use Rattle.turnstile.specs.Turns.{Leads}
use Rattle.lane_sender.specs.Lane.{LaneForm}
use Rattle.par_lanes.specs.declared.ask.LaneAsk.{LaneAsk}
use Rattle.par_lanes.specs.declared.ask.LaneAsk.TheVariants.{Claim, Put, Again}
use Rattle.par_lanes.specs.declared.ask.LaneAnswer.{LaneAnswer}
use Rattle.par_lanes.specs.declared.ask.LaneAnswer.TheVariants as answers
use Rattle.par_lanes.specs.Turns.{Turns}
use Rattle.par_lanes.specs.Following.{ClaimsFollow}
use Rattle.source_devices.specs.declared.wire.Wire as Wire

either_used : (b : Bool) (l : Ledger) (end : ℕ) → (if b then l else record l { end = end }).used ≡ l.used
either_used true l end = refl
either_used false l end = refl

module _ {X : Type 0} (wire_says : Wire.Ghosts X) (cap : ℕ) where
  pub follow : (s t : LaneForm X) (log : List (LaneAsk × LaneAnswer)) → Leads (Turns wire_says cap) s log t → ClaimsFollow cap s.ledger.used t.ledger.used log
  follow s t [] h = ap (λ (x : LaneForm X). x.ledger.used) (sym h)
  follow s t ((Claim need grant, answers.Claimed c) ∷ rest) h =
      let len : c.range.len ≡ need = ap (λ (r : Range). r.len) h.1.range in
      let used : h.0.ledger.used ≡ s.ledger.used + c.range.len =
      ap (λ (x : LaneForm X). x.ledger.used) h.1.after ∙ ap (λ (n : ℕ). n + need) (either_used (nat_le (s.ledger.used + need) s.ledger.end) s.ledger (s.ledger.used + need)) ∙ ap (λ (n : ℕ). s.ledger.used + n) (sym len) in
      let under = h.1.capped in
      (ap (λ (r : Range). r.start) h.1.range, omega (arith, under, len), subst (λ (n : ℕ). ClaimsFollow cap n t.ledger.used rest) used (follow h.0 t rest h.2))
  follow s t ((Claim need grant, answers.Placed answer) ∷ rest) h = absurd h.1
  follow s t ((Put frame length, answers.Claimed c) ∷ rest) h = absurd h.1
  follow s t ((Put frame length, answers.Placed answer) ∷ rest) h = subst (λ (l : Ledger). ClaimsFollow cap l.used t.ledger.used rest) h.1.lane.2 (follow h.0 t rest h.2)
  follow s t ((Again number frame length, answers.Claimed c) ∷ rest) h = absurd h.1
  follow s t ((Again number frame length, answers.Placed answer) ∷ rest) h = subst (λ (l : Ledger). ClaimsFollow cap l.used t.ledger.used rest) h.1.lane.2 (follow h.0 t rest h.2)
