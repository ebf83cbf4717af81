-- One frame of a list is recorded, and finally all are.
use Rattle.std.proofs.Common.{◌≡◌, ℕ, ◌+◌, ◌<◌, ◌≤◌, Bool, true, false, List, length, take, drop, refl, sym, ◌∙◌, subst}
use Rattle.std.specs.Prelude.{◌==◌, get_or}
use Rattle.std.specs.List.{list_all}
use Rattle.net_model.specs.Events.{is_lane}
use Rattle.net_model.specs.Site.{Site}
use Rattle.net_model.specs.BlockOrder.{lane_number}
use Rattle.law_base.proofs.Base.{eq_from, below_from}
use Rattle.par_lanes.specs.declared.emitted.Emitted.{Emitted}
use Rattle.world_state.specs.Stands.{place_of}
use Rattle.par_frames.specs.declared.log.Log.{Log}
use Rattle.par_frames.specs.Adding.{IsEnded}
use Rattle.par_frames.specs.Recording.{AddsFrame, AreRecorded}
use Rattle.par_frames.proofs.Nodes.{all_few}
use Rattle.par_frames.proofs.Records.{InLane, frame_added, goes_on, all_recorded}
use Rattle.par_frames.proofs.NoteRising.{Rises, number_of, next_from, next_rises, take_next, take_all}

module _ (frames : List Emitted) (i : ℕ) (e : Emitted) (below : i < length frames) (is : e ≡ get_or frames i e) (place next : ℕ) (here : next ≡ place_of e.lane) (rises : Rises place (drop i frames)) where
  number : lane_number e.lane ≡ next
  number = number_of e.lane ∙ sym here

  not_before : place ≤ next
  not_before = subst (λ (n : ℕ). place ≤ n) number (next_from frames i e below is place rises)

  pub others_rise : Rises next (drop (i + 1) frames)
  others_rise = subst (λ (n : ℕ). Rises n (drop (i + 1) frames)) number (next_rises frames i e below is place rises)

  module _ (s : Site) (old mid new : Log) (h : InLane s (take i frames) place old) (same : (place == next) ≡ true → mid ≡ old) (ended : (place == next) ≡ false → IsEnded old mid)
      (added : AddsFrame s e mid new) where
    there : InLane s (take i frames) next mid
    there = by (place == next) refl
      where
        by : (t : Bool) → (place == next) ≡ t → InLane s (take i frames) next mid
        by true t = subst (λ (n : ℕ). InLane s (take i frames) n mid) (eq_from place next t) (subst (InLane s (take i frames) place) (sym (same t)) h)
        by false t = goes_on s (take i frames) place old mid h (ended t) next (below_from place next not_before t)

    pub one_recorded : InLane s (take (i + 1) frames) next new
    one_recorded = subst (λ (es : List Emitted). InLane s es next new) (sym (take_next frames i e below is)) (frame_added s (take i frames) next e mid new number there added)

pub frames_recorded : (s : Site) (frames : List Emitted) (i place : ℕ) (old new : Log) → length frames ≤ i → list_all (λ (e : Emitted). is_lane s e.lane) frames ≡ true →
    InLane s (take i frames) place old → IsEnded old new → AreRecorded s frames new
frames_recorded s frames i place old new above there h ended =
    let all = take_all frames i above in
    all_recorded s frames place old new (subst (λ (es : List Emitted). InLane s es place old) all h) ended (all_few s frames there)
