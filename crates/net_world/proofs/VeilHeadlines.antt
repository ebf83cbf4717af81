-- A run out of a bench and what the sink took of it give the headline of the veil.
use Rattle.std.proofs.Common.{◌≡◌, ℕ, List, [], ◌∷◌, Result, Ok, Err, refl, sym, subst, arith}
use Rattle.std.specs.Prelude.{MatchResult, OnOk}
use Rattle.net_model.specs.Premises.{IsNetwork}
use Rattle.net_model.specs.Sealing.{IsSealing}
use Rattle.net_model.specs.Invariant.{Conserved}
use Rattle.net_model.specs.World.{Network, World, first}
use Rattle.net_model.specs.Step.{run, IsRun}
use Rattle.declared_site.specs.SiteOf.{IsDeclared}
use Rattle.hop_frames.specs.Sealing.{hop_sealing}
use Rattle.run_types.specs.declared.scenario.Scenario.{Scenario}
use Rattle.run_model.specs.Turn.{HttpTexts}
use Rattle.run_model.specs.Play.{Played, Whole}
use Rattle.run_model.specs.Report.{Task, Performed, IsRunOf, report, actions_of}
use Rattle.run_model.specs.Begin.{MayBegin}
use Rattle.run_model.specs.Bench.{DiskBatches, Seen}
use Rattle.run_model.specs.Course.{Run, Course, tasks_of, last_world}
use Rattle.run_model.specs.Headline as headline
use Rattle.run_model.specs.Headline.{Given, unknown, Took, TookFirst, report_pieces}
use Rattle.run_ops.specs.Acting.{IsReady}
use Rattle.run_lines.specs.Reporting.{IsBlamed}
use Rattle.run_lines.specs.Running.{StopsAs}
use Rattle.run_lines.proofs.Taking.{took_unknown, first_none}
use Rattle.run_lines.specs.declared.stop.Stop.{Stop}
use Rattle.run_lines.specs.declared.stop.Stop.TheVariants as stops
use Rattle.law_run.specs.Benched.{IsBenched, lines_alone}
use Rattle.law_run.specs.Seen.{IsTold, IsSeen}
use Rattle.law_run.proofs.Resting.{first_begins}
use Rattle.net_world.specs.Other.{EveryKeyFits}
use Rattle.world_state.specs.Rests.{Rests}
use Rattle.world_state.specs.Stands.{Stands}
use Rattle.world_state.specs.declared.state.State.{State}
use Rattle.world_state.proofs.Resting.{comes_to_rest}
use Rattle.net_world.specs.Laid.{IsPutBack}
use Rattle.net_world.specs.New.{IsNew, network_on}
use Rattle.net_world.specs.Over.{IsOver}
use Rattle.net_world.specs.declared.bench.Bench.{Bench}
use Rattle.net_world.proofs.Headlines.{over_benched, over_seen}
use Rattle.net_world.specs.Running.{RanOut, ended}
use Rattle.net_world.specs.Lanes.{AreLanes, veil_line, Tells}
use Rattle.net_world.specs.Veiling.{Ends, IsVeilTold, HasVeiled}
use Rattle.world_state.specs.Outside.{Outside}

-- if a sink doesn't tell what it took, every text counts as given in part
none_taken : (texts : List (List ℕ)) → TookFirst unknown unknown texts
none_taken texts = first_none unknown texts

told_none : {T U W : Type 0} (given : W → Given) (result : Result T Stop) (nodes : List (List ℕ)) (p : Played) (line : List ℕ) (before after : W) (final : Result U Stop) →
    MatchResult result (λ answer. (p.ending ≡ Whole) × Took unknown unknown (report_pieces nodes p.items)) (λ stop. StopsAs stop nodes p unknown unknown) →
    Ends given result line before after final → IsTold (ended final) nodes p unknown unknown
told_none given (Ok done) nodes p line before after (Ok u) h e = (h.0, took_unknown unknown unknown (report_pieces nodes p.items) refl refl)
told_none given (Ok done) nodes p line before after (Err stops.WriteFault) h e = none_taken (report_pieces nodes p.items)
told_none given (Ok done) nodes p line before after (Err stops.Memory) h e = none_taken (report_pieces nodes p.items)
told_none given (Ok done) nodes p line before after (Err (stops.Forged number)) h e = absurd e
told_none given (Err stops.WriteFault) nodes p line before after final h e = subst (λ s. IsTold s nodes p unknown unknown) (sym e.0) h
told_none given (Err stops.Memory) nodes p line before after final h e = subst (λ s. IsTold s nodes p unknown unknown) (sym e.0) h
told_none given (Err (stops.Forged number)) nodes p line before after final h e = subst (λ s. IsTold s nodes p unknown unknown) (sym e.0) h

line_told : {T U W : Type 0} (given : W → Given) (result : Result T Stop) (nodes : List (List ℕ)) (p : Played) (net : Network) (w : World) (c : Course) (before after : W) (final : Result U Stop) →
    c.net ≡ net → last_world c ≡ w → (result ≡ Err stops.WriteFault → ⊥) →
    MatchResult result (λ answer. (p.ending ≡ Whole) × Took unknown unknown (report_pieces nodes p.items)) (λ stop. StopsAs stop nodes p unknown unknown) →
    Ends given result (veil_line net w) before after final → IsVeilTold given (ended final) p.ending c before after
line_told given (Ok done) nodes p net w c before after (Ok u) same leads calm h e =
    subst (λ (v : World). Took (given before) (given after) (veil_line c.net v ∷ [])) (sym leads) (subst (λ (n : Network). Took (given before) (given after) (veil_line n w ∷ [])) (sym same) e)
line_told given (Ok done) nodes p net w c before after (Err stops.WriteFault) same leads calm h e = (
  h.0,
  subst (λ (v : World). TookFirst (given before) (given after) (veil_line c.net v ∷ [])) (sym leads) (subst (λ (n : Network). TookFirst (given before) (given after) (veil_line n w ∷ [])) (sym same) e),
)
line_told given (Ok done) nodes p net w c before after (Err stops.Memory) same leads calm h e = e
line_told given (Ok done) nodes p net w c before after (Err (stops.Forged number)) same leads calm h e = absurd e
line_told given (Err stops.WriteFault) nodes p net w c before after final same leads calm h e = absurd (calm refl)
line_told given (Err stops.Memory) nodes p net w c before after final same leads calm h e = subst (λ s. IsVeilTold given s p.ending c before after) (sym e.0) e.1
line_told given (Err (stops.Forged number)) nodes p net w c before after final same leads calm h e = subst (λ s. IsVeilTold given s p.ending c before after) (sym e.0) e.1

-- if all lines were done
pub at_ok : {T E : Type 0} (P : Type 0) (r : Result T E) (x : T) → r ≡ Ok x → OnOk r P → P
at_ok P (Ok x) y is h = h
at_ok P (Err e) y is h = cc

pub ends_told : {T U W : Type 0} (given : W → Given) (ran : Result T Stop) (x : T) (line : List ℕ) (before after : W) (final : Result U Stop) → ran ≡ Ok x → Tells given final before after line →
    Ends given ran line before after final
ends_told given (Ok x) y line before after final is h = h
ends_told given (Err e) y line before after final is h = cc

-- a sink that never fails causes no write fault
pub never_blamed : {T : Type 0} (result : Result T Stop) → IsBlamed 0 0 result → result ≡ Err stops.WriteFault → ⊥
never_blamed (Ok done) h e = cc
never_blamed (Err stops.WriteFault) h e = omega (arith, h.rose refl)
never_blamed (Err stops.Memory) h e = cc
never_blamed (Err (stops.Forged line)) h e = cc

module _ {K Q E X : Type 0} (outside : Outside K Q E X) where
  rests_in : {T : Type 0} (s : State K Q E X) (net : Network) (w : World) (result : Result T Stop) →
      MatchResult result (λ answer. IsReady (Stands outside) s net w) (λ stop. Rests outside s net w) →
      Rests outside s net w
  rests_in s net w (Ok done) h = comes_to_rest outside net w s h.stands
  rests_in s net w (Err stop) h = h

  -- the lanes of a state
  pub are_lanes : (s : State K Q E X) (net : Network) (w : World) → Stands outside s net w → AreLanes outside.wire net w s.lanes.items
  are_lanes s net w h = record { running = h.running; count = h.sides; lanes = h.lanes }

  module _ {T U W : Type 0} (given : W → Given) (old stayed new : Bench K Q E X) (state : State K Q E X) (scenario : Scenario) (result : Result T Stop) (before after : W) (final : Result U Stop)
      (frame_law : IsSealing hop_sealing)
      (tasks_run : (http : HttpTexts) (net : Network) (workers : ℕ) (w : World) (tasks : List Task) (done : List Performed) → IsNetwork net → Conserved net w →
      IsRunOf http net workers w tasks done → IsRun net w (actions_of net done))
      (tasks_lead : (http : HttpTexts) (net : Network) (workers : ℕ) (w : World) (tasks : List Task) (done : List Performed) → IsNetwork net → Conserved net w →
      IsRunOf http net workers w tasks done → (report http net w tasks done).world ≡ run net w (actions_of net done))
      (headline_law : (http : HttpTexts) (scenario : Scenario) (workers : ℕ) (stop : headline.Stop) (reading : DiskBatches) (seen : Seen) (old new : Given) (net : Network) (begin : World) (done : List Performed) →
      IsBenched scenario net → MayBegin net begin → IsRunOf http net workers begin (tasks_of scenario) done →
      IsTold stop scenario.site.nodes (report http net begin (tasks_of scenario) done) old new →
      IsSeen reading net (report http net begin (tasks_of scenario) done).world (actions_of net done) seen →
      headline.Headline (Run workers) stop http reading scenario seen old new (lines_alone net begin done))
      (whole_law : (http : HttpTexts) (scenario : Scenario) (workers : ℕ) (net : Network) (begin : World) (done : List Performed) → IsBenched scenario net → Conserved net begin →
      IsRunOf http net workers begin (tasks_of scenario) done → (report http net begin (tasks_of scenario) done).world ≡ last_world (lines_alone net begin done))
      (fit_law : (net : Network) (w : World) → IsNetwork net → Conserved net w → net.sealing ≡ hop_sealing → EveryKeyFits net w)
      (fresh : IsNew outside old) (declared : IsDeclared scenario.site)
      (ran : RanOut outside old stayed 1 scenario unknown unknown state result)
      (back : IsPutBack outside.disk state stayed new) (calm : result ≡ Err stops.WriteFault → ⊥)
      (ends : (net : Network) (w : World) → OnOk result (Stands outside state net w) → Ends given result (veil_line net w) before after final) where
    pub veiled : HasVeiled outside given old new scenario before after (ended final)
    veiled http speaks =
        let net = network_on outside.device outside.entropy old scenario.site in
        let r = ran.ran http speaks in
        let actions = actions_of net r.done in
        let p = report http net first (tasks_of scenario) r.done in
        let rests = rests_in state net p.world result r.left in
        let over : IsOver outside old new scenario.site actions p.world = record {
          fresh = fresh;
          declared = declared;
          ran = record { begin = ran.begin; end = state; stayed = stayed; laid = ran.laid; rests = rests; tallied = r.tallied; back = back };
        } in
        let begins : MayBegin net first = first_begins net in
        let benched = over_benched outside old new scenario actions p.world frame_law over in
        let sees = over_seen outside old new scenario actions p.world frame_law over
        (tasks_run http net 1 first (tasks_of scenario) r.done benched.network begins.conserved r.is) (tasks_lead http net 1 first (tasks_of scenario) r.done benched.network begins.conserved r.is) in
        let end : Ends given result (veil_line net p.world) before after final = ends net p.world (stands_of net p.world result r.left) in
        let leads : last_world (lines_alone net first r.done) ≡ p.world = sym (whole_law http scenario 1 net first r.done benched begins.conserved r.is) in
        let fits : EveryKeyFits net p.world = fit_law net p.world benched.network rests.running.conserved rests.running.sealing in (
          lines_alone net first r.done,
          record {
            run = record {
              net = refl;
              begin = refl;
              holds = λ reading seen reads shows. headline_law http scenario 1 (ended final) reading seen unknown unknown net first r.done benched begins r.is
                  (told_none given result scenario.site.nodes p (veil_line net p.world) before after final r.told end) (sees reading seen reads shows);
              cut = r.cut;
            };
            fits = subst (λ (w : World). EveryKeyFits net w) (sym leads) fits;
            line = line_told given result scenario.site.nodes p net p.world (lines_alone net first r.done) before after final refl leads calm r.told end;
          },
        )
      where
        stands_of : {T : Type 0} (net : Network) (w : World) (result : Result T Stop) →
            MatchResult result (λ answer. IsReady (Stands outside) state net w) (λ stop. Rests outside state net w) →
            OnOk result (Stands outside state net w)
        stands_of net w (Ok done) h = h.stands
        stands_of net w (Err stop) h = tt
