-- The next repeat is put or refused; just the others are left to be sent.
use Rattle.std.proofs.Common.{◌≡◌, true, false, List, ◌∷◌, map, sym, ◌∙◌, ap, Some}
use Rattle.std.specs.Prelude.{◌==◌, filter, if◌then◌else◌}
use Rattle.qkd_base.specs.Lane.{lane_eq}
use Rattle.qkd_base.specs.declared.lane.Lane.{Lane}
use Rattle.net_model.specs.declared.repeat.Repeat.{Repeat}
use Rattle.net_model.specs.Site.{sender}
use Rattle.net_model.specs.World.{Network, World, Allocation, Transmission, Outgoing}
use Rattle.net_model.specs.Premises.{IsNetwork}
use Rattle.net_model.specs.Invariant.{Conserved}
use Rattle.net_model.specs.Frames.{outgoing_of, without_frame}
use Rattle.net_model.specs.Events.{is_lane}
use Rattle.net_model.specs.Tick.{Emission, Again}
use Rattle.net_model.specs.Action.{Environment, Transmit}
use Rattle.net_model.specs.Step.{step, is_enabled}
use Rattle.law_base.proofs.Base.{by_other_lane, eq_same, lane_same, when_true, when_false}
use Rattle.law_base.proofs.Lasting.{step_more}
use Rattle.law_locality.specs.Sending.{repeats_in, repeated, IsAgain, MayGoAgain}
use Rattle.law_locality.proofs.TickPuts.{lanes_apart, IsGone, gone, may_put, repeated_is}
use Rattle.law_parallel.specs.Remaining.{Remains}
use Rattle.law_parallel.proofs.Each.{all_stay}

module _ (net : Network) (w : World) (r : Repeat) (es : List Emission) (s : Remains net w (Again r ∷ es)) where
  abbrev l : Lane
  l = r.lane

  abbrev o : Outgoing
  o = repeated (w.frames l) r

  abbrev rest : Lane → List Outgoing
  rest k = map (repeated (w.frames k)) (filter (λ (x : Repeat). lane_eq x.lane k) (repeats_in es))

  here : w.outgoing l ≡ o ∷ rest l
  here =
      s.outgoing l ∙ ap (map (repeated (w.frames l))) (when_true (lane_eq l l) (r ∷ filter (λ (x : Repeat). lane_eq x.lane l) (repeats_in es)) _ (lane_same l))

  elsewhere : (k : Lane) → lane_eq l k ≡ false → w.outgoing k ≡ rest k
  elsewhere k e =
      s.outgoing k ∙ ap (map (repeated (w.frames k))) (when_false (lane_eq l k) (r ∷ filter (λ (x : Repeat). lane_eq x.lane k) (repeats_in es)) _ e)

  first_put : outgoing_of o.frame (w.outgoing l) ≡ Some o
  first_put = ap (outgoing_of o.frame) here ∙ when_true (o.frame == o.frame) (Some o) (outgoing_of o.frame (rest l)) (eq_same o.frame)

  first_gone : without_frame o.frame (w.outgoing l) ≡ rest l
  first_gone = ap (without_frame o.frame) here ∙ when_true (o.frame == o.frame) (rest l) (o ∷ without_frame o.frame (rest l)) (eq_same o.frame)

  again : IsAgain net w (sender net.site l) r
  again = s.each.0

  at : is_lane net.site l ≡ true
  at = ap (λ (x : Repeat). is_lane net.site x.lane) again.is ∙ again.sent.site

  pub may_go_again : MayGoAgain net w r
  may_go_again = record {
    entry = again.entry;
    is = again.is;
    sent = again.sent;
    outgoing = first_put ∙ ap Some (ap (repeated (w.frames l)) again.is ∙ repeated_is (w.frames l) again.entry again.sent.shaped);
  }

  pub again_enabled : (environment : Environment) → is_enabled net w (Transmit l o.frame environment) ≡ true
  again_enabled environment = may_put net w l o.frame environment o first_put at

  module _ (environment : Environment) where
    abbrev new : World
    new = (step net w (Transmit l o.frame environment)).0

    left : IsGone net w l o new
    left = gone net w l o.frame environment o first_put

    outgoing_after : (k : Lane) → new.outgoing k ≡ rest k
    outgoing_after k =
        ap (λ (f : Lane → List Outgoing). f k) left.outgoing
        ∙ by_other_lane (λ m b. (if b then without_frame o.frame (w.outgoing l) else w.outgoing m) ≡ rest m) l first_gone (λ m e. elsewhere m (lanes_apart m l e)) k

    pub again_goes : IsNetwork net → Conserved net w → Remains net new es
    again_goes network c = record {
      each = all_stay net w network c new (step_more net w (Transmit l o.frame environment)) es s.each.1;
      unclaimed = λ k. ap (λ (f : Lane → List Transmission). f k) left.unclaimed ∙ s.unclaimed k;
      outgoing = λ k. outgoing_after k
          ∙ ap (λ (f : Lane → List Allocation). map (repeated (f k)) (filter (λ (x : Repeat). lane_eq x.lane k) (repeats_in es))) (sym left.frames);
    }
