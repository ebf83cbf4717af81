-- Each frame that was sent for a line is recorded with that line's place.
use Rattle.std.proofs.Common.{◌≡◌, ℕ, List, [], ◌∷◌, map, refl, ◌∙◌, ap, ap₂}
use Rattle.std.specs.List.{AllByRecursion}
use Rattle.net_model.specs.Tick.{Emission}
use Rattle.par_lanes.specs.declared.emitted.Emitted.{Emitted}
use Rattle.par_lanes.specs.Calls.{IsOf}
use Rattle.par_frames.specs.OneLine.{AreOfLine}
use Rattle.par_frames.specs.Working.{IsOfItsLine, wanted_for}

module _ (line : ℕ) where
  of_own : (outs : List (Emission × Emitted)) → AllByRecursion (λ (x : Emission × Emitted). IsOf line x.0 x.1) outs → AllByRecursion IsOfItsLine outs
  of_own [] h = tt
  of_own (x ∷ outs) h = (record { line = refl; lane = h.0.lane; name = h.0.name; ack_of = h.0.ack_of; fresh = h.0.fresh; size = h.0.size }, of_own outs h.1)

  wanted_all : (outs : List (Emission × Emitted)) → AllByRecursion (λ (x : Emission × Emitted). IsOf line x.0 x.1) outs → map wanted_for outs ≡ map (λ e. (line, e)) (map (λ (x : Emission × Emitted). x.0) outs)
  wanted_all [] h = refl
  wanted_all (x ∷ outs) h = ap₂ (λ (n : ℕ) (xs : List (ℕ × Emission)). (n, x.0) ∷ xs) h.0.line (wanted_all outs h.1)

  pub are_of_line : (wants : List Emission) (outs : List (Emission × Emitted)) → map (λ (x : Emission × Emitted). x.0) outs ≡ wants → AllByRecursion (λ (x : Emission × Emitted). IsOf line x.0 x.1) outs → AreOfLine line wants outs
  are_of_line wants outs is h = record { each = of_own outs h; wanted = wanted_all outs h ∙ ap (map (λ e. (line, e))) is }
