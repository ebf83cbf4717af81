-- The contracts of the calls of a run give its headline.
use Rattle.std.proofs.Common.{◌≡◌, ℕ, List, Result, Ok, Err, subst}
use Rattle.std.specs.Prelude.{MatchResult, OnOk}
use Rattle.net_model.specs.World.{Network, World, first}
use Rattle.net_model.specs.Site.{Site}
use Rattle.net_model.specs.Action.{Action}
use Rattle.declared_site.specs.SiteOf.{IsDeclared}
use Rattle.run_types.specs.declared.scenario.Scenario.{Scenario}
use Rattle.run_model.specs.Turn.{HttpTexts}
use Rattle.run_model.specs.Play.{Played, Whole}
use Rattle.run_model.specs.Report.{Task, Performed, IsRunOf, report, actions_of}
use Rattle.run_model.specs.Course.{Run, tasks_of}
use Rattle.run_model.specs.Headline as headline
use Rattle.run_model.specs.Headline.{Given, report_pieces}
use Rattle.run_ops.specs.Acting.{IsReady}
use Rattle.run_lines.specs.Running.{StopsAs, IsReadySomewhere}
use Rattle.run_tasks.specs.Tasks.{IsCut, RanTasks}
use Rattle.run_lines.specs.declared.stop.Stop.{Stop}
use Rattle.run_lines.specs.declared.stop.Stop.TheVariants as stops
use Rattle.law_run.specs.Benched.{lines_alone}
use Rattle.law_run.specs.Seen.{IsTold}
use Rattle.run_http.specs.Speaking.{IsTextsOf}
use Rattle.world_state.specs.Rests.{Rests}
use Rattle.world_state.specs.Stands.{Stands}
use Rattle.world_state.specs.Tallied.{Tallied}
use Rattle.world_state.specs.declared.state.State.{State}
use Rattle.world_state.proofs.Resting.{comes_to_rest}
use Rattle.net_world.specs.Laid.{IsLaidOut, IsPutBack}
use Rattle.net_world.specs.New.{IsNew, network_on}
use Rattle.net_world.specs.Over.{IsOver, HasHeadline}
use Rattle.net_world.specs.declared.bench.Bench.{Bench}
use Rattle.net_world.specs.Running.{ended, HasHeadlines}
use Rattle.world_state.specs.Outside.{Outside}

told_of : {T : Type 0} (result : Result T Stop) (nodes : List (List ℕ)) (p : Played) (before after : Given) →
    MatchResult result (λ answer. (p.ending ≡ Whole) × headline.Took before after (report_pieces nodes p.items)) (λ stop. StopsAs stop nodes p before after) →
    IsTold (ended result) nodes p before after
told_of (Ok done) nodes p before after h = h
told_of (Err stops.WriteFault) nodes p before after h = h
told_of (Err stops.Memory) nodes p before after h = h
told_of (Err (stops.Forged line)) nodes p before after h = h

module _ {K Q E X S : Type 0} (outside : Outside K Q E X) (part : S → State K Q E X) where
  abbrev Standing : S → Network → World → Type 0
  Standing s = Stands outside (part s)

  abbrev Resting : S → Network → World → Type 0
  Resting s = Rests outside (part s)

  abbrev Told : S → S → Site → List Action → Type 0
  Told a b = Tallied outside (part a) (part b)

  left_of : {T : Type 0} (s : S) (net : Network) (w : World) (result : Result T Stop) → MatchResult result (λ answer. IsReady Standing s net w) (λ stop. Resting s net w) →
      MatchResult result (λ answer. IsReady (Stands outside) (part s) net w) (λ stop. Rests outside (part s) net w)
  left_of s net w (Ok done) h = record { stands = h.stands; quiet = h.quiet }
  left_of s net w (Err stop) h = h

  -- a run over a whole, told of its state alone
  pub of_states : {T : Type 0} (begin end : S) (b e : State K Q E X) → part begin ≡ b → part end ≡ e → (nodes : List (List ℕ)) (before after : Given) (http : HttpTexts) (net : Network) (workers : ℕ) (w : World)
      (tasks : List Task) (result : Result T Stop) → RanTasks Standing Resting Told nodes begin end before after http net workers w tasks result →
      RanTasks (Stands outside) (Rests outside) (Tallied outside) nodes b e before after
      http net workers w tasks result
  of_states begin end b e begins ends nodes before after http net workers w tasks result r = record {
    done = r.done;
    is = r.is;
    left = subst (λ (s : State K Q E X). MatchResult result (λ answer. IsReady (Stands outside) s net (report http net w tasks r.done).world)
        (λ stop. Rests outside s net (report http net w tasks r.done).world)) ends (left_of end net (report http net w tasks r.done).world result r.left);
    tallied = subst (λ (s : State K Q E X). Tallied outside b s net.site (actions_of net r.done)) ends
        (subst (λ (s : State K Q E X). Tallied outside s (part end) net.site (actions_of net r.done)) begins r.tallied);
    told = r.told;
    cut = r.cut;
  }

  -- if the run came to its end, the state stands for some network and world
  pub ready_after : {T : Type 0} (end : S) (e : State K Q E X) → part end ≡ e → (result : Result T Stop) → OnOk result (IsReadySomewhere Standing end) →
      OnOk result ((net : Network) × (w : World) × Stands outside e net w)
  ready_after end e ends (Ok done) h = (h.0, h.1, subst (λ (s : State K Q E X). Stands outside s h.0 h.1) ends h.2.stands)
  ready_after end e ends (Err stop) h = h

  rests_in : {T : Type 0} (s : S) (net : Network) (w : World) (result : Result T Stop) → MatchResult result (λ answer. IsReady Standing s net w) (λ stop. Resting s net w) → Resting s net w
  rests_in s net w (Ok done) h = comes_to_rest outside net w (part s) h.stands
  rests_in s net w (Err stop) h = h

  pub headlines : {T : Type 0} (old stayed new : Bench K Q E X) (begin end : S) (scenario : Scenario) (workers : ℕ) (before after : Given) (result : Result T Stop) →
      ((http : HttpTexts) (scenario : Scenario) (workers : ℕ) (stop : headline.Stop) (old new : Bench K Q E X) (before after : Given) (done : List Performed) →
      IsOver outside old new scenario.site
      (actions_of (network_on outside.device outside.entropy old scenario.site) done) (report http (network_on outside.device outside.entropy old scenario.site) first (tasks_of scenario) done).world →
      IsRunOf http (network_on outside.device outside.entropy old scenario.site) workers first (tasks_of scenario) done →
      IsTold stop scenario.site.nodes (report http (network_on outside.device outside.entropy old scenario.site) first (tasks_of scenario) done) before after →
      IsCut (headline.written_of (Run workers)) scenario.site.nodes http (network_on outside.device outside.entropy old scenario.site) first (tasks_of scenario) done before after →
      HasHeadline outside old new (Run workers) stop http scenario before after
      (lines_alone (network_on outside.device outside.entropy old scenario.site) first done)) →
      IsNew outside old → IsDeclared scenario.site → IsLaidOut old stayed scenario.site (part begin) →
      ((http : HttpTexts) → IsTextsOf scenario.site.nodes scenario.site.entitlements http →
      RanTasks Standing Resting Told scenario.site.nodes begin end before after http (network_on outside.device outside.entropy old scenario.site) workers first (tasks_of scenario) result) →
      IsPutBack outside.disk (part end) stayed new →
      HasHeadlines outside old new (Run workers) scenario before after (ended result)
  headlines old stayed new begin end scenario workers before after result law fresh declared laid ran back = λ http speaks.
      let net = network_on outside.device outside.entropy old scenario.site in
      let r = ran http speaks in (
        lines_alone net first r.done,
        law http scenario workers (ended result) old new before after r.done
            (record {
              fresh = fresh;
              declared = declared;
              ran = record {
                begin = part begin;
                end = part end;
                stayed = stayed;
                laid = laid;
                rests = rests_in end net (report http net first (tasks_of scenario) r.done).world result r.left;
                tallied = r.tallied;
                back = back;
              };
            })
            r.is (told_of result scenario.site.nodes (report http net first (tasks_of scenario) r.done) before after r.told) r.cut,
      )
