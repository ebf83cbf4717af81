-- Each worker did its own part of the deeds on a lane.
use Rattle.std.proofs.Common.{◌≡◌, ℕ, zero, suc, List, [], ◌∷◌, length, map, refl, ◌∙◌, ap, subst, Some}
use Rattle.std.specs.Prelude.{slice_get}
use Rattle.std.specs.List.{AllZip}
use Rattle.net_model.specs.Tick.{Emission}
use Rattle.lane_sender.specs.Lane.{LaneForm}
use Rattle.par_lanes.specs.declared.ask.LaneAsk.{LaneAsk}
use Rattle.par_lanes.specs.declared.ask.LaneAnswer.{LaneAnswer}
use Rattle.law_parallel.specs.Logs.{Deed}
use Rattle.law_parallel.specs.Calls.{DidItsOwn, IsOfWorkers}
use Rattle.law_parallel.specs.Workers.{of_worker}
use Rattle.par_lanes.specs.declared.emitted.Emitted.{Emitted}
use Rattle.par_frames.specs.LaneCalls.{deed_of}
use Rattle.par_frames.specs.Working.{wanted_for, DidFor, HaveDone}

-- two lists, element by element

module _ {A B : Type 0} (R : A → B → Type 0) where
  as_long : (xs : List A) (ys : List B) → AllZip R xs ys → length ys ≡ length xs
  as_long [] [] h = refl
  as_long [] (y ∷ ys) h = absurd h
  as_long (x ∷ xs) [] h = absurd h
  as_long (x ∷ xs) (y ∷ ys) h = ap suc (as_long xs ys h.1)

  beside : (xs : List A) (ys : List B) → AllZip R xs ys → (k : ℕ) (y : B) → slice_get ys k ≡ Some y → (x : A) × (slice_get xs k ≡ Some x) × R x y
  beside [] [] h k y is = cc
  beside [] (z ∷ ys) h k y is = absurd h
  beside (x ∷ xs) [] h k y is = absurd h
  beside (x ∷ xs) (z ∷ ys) h zero y is = let same : z ≡ y = cc in (x, refl, subst (R x) same h.0)
  beside (x ∷ xs) (z ∷ ys) h (suc k) y is = beside xs ys h.1 k y is

module _ {X : Type 0} (side : LaneForm X) (outs : List (List (Emission × Emitted))) (history : List (LaneAsk × LaneAnswer)) (d : HaveDone side outs history) (workers : ℕ) (wanted : List (ℕ × Emission))
    (all : length outs ≡ workers) (own : (k : ℕ) (xs : List (Emission × Emitted)) → slice_get outs k ≡ Some xs → map wanted_for xs ≡ of_worker workers k wanted) where
  each_did : (k : ℕ) (mine : List (ℕ × Deed)) → slice_get d.done k ≡ Some mine → DidItsOwn workers k wanted mine
  each_did k mine at =
      let b = beside DidFor outs d.done d.each k mine at in
      record { wants = b.2.wants ∙ own k b.0 b.1; puts = b.2.puts; answered = b.2.answered }

  pub of_workers : IsOfWorkers workers wanted d.done (map deed_of d.log)
  of_workers = record {
    callers = as_long DidFor outs d.done d.each ∙ all;
    merged = d.merged;
    each = each_did;
  }
