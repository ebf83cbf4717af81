-- The contracts of the calls of a load give its headline.
use Rattle.std.proofs.Common.{◌≡◌, ℕ, List, Result, Ok, Err, refl, subst}
use Rattle.std.specs.Prelude.{MatchResult}
use Rattle.net_model.specs.World.{Network, World, first}
use Rattle.net_model.specs.Sealing.{IsSealing}
use Rattle.net_model.specs.Site.{Site}
use Rattle.net_model.specs.Action.{Action}
use Rattle.declared_site.specs.SiteOf.{IsDeclared}
use Rattle.hop_frames.specs.Sealing.{hop_sealing}
use Rattle.run_types.specs.declared.scenario.Scenario.{Scenario}
use Rattle.run_model.specs.Turn.{HttpTexts}
use Rattle.run_model.specs.Report.{Performed, IsRunOf, report, actions_of}
use Rattle.run_model.specs.Load.{load_scenario}
use Rattle.run_model.specs.Course.{Load, Course, tasks_of, lines_run, lines_played}
use Rattle.run_model.specs.Headline as headline
use Rattle.run_model.specs.Headline.{Given}
use Rattle.run_ops.specs.Acting.{IsReady}
use Rattle.run_lines.specs.declared.stop.Stop.{Stop}
use Rattle.run_lines.specs.declared.stop.Stop.TheVariants as stops
use Rattle.law_run.specs.Benched.{lines_alone}
use Rattle.law_run.specs.Handed.{enc_keys, dec_keys}
use Rattle.run_tasks.specs.Loaded.{RanLoad}
use Rattle.run_tasks.specs.Tasks.{IsCut}
use Rattle.run_tasks.specs.Told as loads
use Rattle.run_tasks.specs.Told.{IsLoadTold, IsLoadOver}
use Rattle.world_state.specs.Rests.{Rests}
use Rattle.world_state.specs.Stands.{Stands}
use Rattle.world_state.specs.Tallied.{Tallied}
use Rattle.world_state.specs.declared.state.State.{State}
use Rattle.world_state.proofs.Resting.{comes_to_rest}
use Rattle.net_world.specs.Laid.{IsLaidOut, IsPutBack}
use Rattle.net_world.specs.New.{IsNew, network_on}
use Rattle.net_world.specs.Over.{IsOver, HasHeadline}
use Rattle.net_world.specs.declared.bench.Bench.{Bench}
use Rattle.net_world.proofs.Headlines.{over_benched}
use Rattle.net_world.specs.Running.{ended, HasHeadlines}
use Rattle.world_state.specs.Outside.{Outside}

ends_alike : {T : Type 0} (result : Result T Stop) → loads.ended result ≡ ended result
ends_alike (Ok done) = refl
ends_alike (Err stops.WriteFault) = refl
ends_alike (Err stops.Memory) = refl
ends_alike (Err (stops.Forged line)) = refl

module _ {K Q E X S : Type 0} (outside : Outside K Q E X) (part : S → State K Q E X) where
  abbrev Standing : S → Network → World → Type 0
  Standing s = Stands outside (part s)

  abbrev Resting : S → Network → World → Type 0
  Resting s = Rests outside (part s)

  abbrev Counting : S → S → Site → List Action → Type 0
  Counting a b = Tallied outside (part a) (part b)

  rests_in : {T : Type 0} (s : S) (net : Network) (w : World) (result : Result T Stop) → MatchResult result (λ answer. IsReady Standing s net w) (λ stop. Resting s net w) → Resting s net w
  rests_in s net w (Ok done) h = comes_to_rest outside net w (part s) h.stands
  rests_in s net w (Err stop) h = h

  pub headlines : {T : Type 0} (old stayed new : Bench K Q E X) (begin end : S) (scenario : Scenario) (rounds : ℕ) (before after : Given) (result : Result T Stop) →
      ((http : HttpTexts) (scenario : Scenario) (rounds : ℕ) (stop : headline.Stop) (old new : Bench K Q E X) (before after : Given) (done : List Performed) →
      scenario ≡ load_scenario rounds →
      IsOver outside old new scenario.site
      (actions_of (network_on outside.device outside.entropy old scenario.site) done) (report http (network_on outside.device outside.entropy old scenario.site) first (tasks_of scenario) done).world →
      IsRunOf http (network_on outside.device outside.entropy old scenario.site) 1 first (tasks_of scenario) done →
      headline.IsReported (Load rounds) stop http scenario (lines_alone (network_on outside.device outside.entropy old scenario.site) first done) before after →
      IsCut (headline.written_of (Load rounds)) scenario.site.nodes http (network_on outside.device outside.entropy old scenario.site) first (tasks_of scenario) done before after →
      HasHeadline outside old new (Load rounds) stop http scenario before after
      (lines_alone (network_on outside.device outside.entropy old scenario.site) first done)) →
      ((http : HttpTexts) (scenario : Scenario) (rounds : ℕ) (c : Course) (stop : headline.Stop) (old new : Given) → IsLoadOver http scenario rounds c →
      IsLoadTold stop scenario.site.nodes (lines_played http scenario c) (enc_keys c.net c.begin (lines_run c)) (dec_keys c.net c.begin (lines_run c)) old new →
      headline.IsReported (Load rounds) stop http scenario c old new) →
      IsSealing hop_sealing → scenario ≡ load_scenario rounds →
      IsNew outside old → IsDeclared scenario.site → IsLaidOut old stayed scenario.site (part begin) →
      ((http : HttpTexts) →
      RanLoad Standing Resting Counting scenario.site.nodes begin end before after http (network_on outside.device outside.entropy old scenario.site) first (tasks_of scenario) result) →
      IsPutBack outside.disk (part end) stayed new →
      HasHeadlines outside old new (Load rounds) scenario before after (ended result)
  headlines old stayed new begin end scenario rounds before after result law reported frame_law is fresh declared laid ran back = λ http speaks.
      let net = network_on outside.device outside.entropy old scenario.site in
      let r = ran http in
      let w = (report http net first (tasks_of scenario) r.done).world in
      let over : IsOver outside old new scenario.site (actions_of net r.done) w = record {
        fresh = fresh;
        declared = declared;
        ran = record { begin = part begin; end = part end; stayed = stayed; laid = laid; rests = rests_in end net w result r.left; tallied = r.tallied; back = back };
      } in
      let benched = over_benched outside old new scenario (actions_of net r.done) w frame_law over in
      let told_so = subst (λ (stop : headline.Stop). IsLoadTold stop scenario.site.nodes (report http net first (tasks_of scenario) r.done)
      (enc_keys net first (actions_of net r.done)) (dec_keys net first (actions_of net r.done)) before after) (ends_alike result) r.told in (
        lines_alone net first r.done,
        law http scenario rounds (ended result) old new before after r.done is over r.is
            (reported http scenario rounds (lines_alone net first r.done) (ended result) before after
            (record { scenario_is = is; network = benched.network; begin = refl; lines = r.is; alone = refl }) told_so) r.cut,
      )
