-- The lines of a scenario, and what was done after them, give the headline of the whole.
use Rattle.std.proofs.Common.{◌≡◌, ◌∙◌, ◌⊎◌, inl, inr, ℕ, true, List, [], ◌∷◌, length, Result, Ok, Err, sym, ap, subst}
use Rattle.std.specs.Prelude.{MatchResult, is_ok}
use Rattle.std.specs.List.{flat_map}
use Rattle.net_model.specs.Premises.{IsNetwork}
use Rattle.net_model.specs.Invariant.{Conserved}
use Rattle.net_model.specs.World.{Network, World, first}
use Rattle.net_model.specs.Action.{Action}
use Rattle.net_model.specs.Step.{run}
use Rattle.net_model.specs.BlockOrder.{AreChains}
use Rattle.declared_site.specs.SiteOf.{IsDeclared}
use Rattle.declared_site.specs.declared.site.Site.{Site as Declared}
use Rattle.run_types.specs.declared.scenario.Scenario.{Scenario}
use Rattle.run_types.specs.declared.item.NumberedItem.{NumberedItem}
use Rattle.run_types.specs.Texts.{served_text}
use Rattle.run_model.specs.Turn.{HttpTexts}
use Rattle.run_model.specs.Play.{Whole}
use Rattle.run_model.specs.Report.{Task, Performed, IsRunOf, report, actions_of}
use Rattle.run_model.specs.Course.{Serve, Course, tasks_of, served_by, whole_run, last_world}
use Rattle.run_model.specs.Headline as headline
use Rattle.run_model.specs.Headline.{Given, Took, report_pieces}
use Rattle.run_ops.specs.Acting.{IsReady}
use Rattle.run_lines.specs.Running.{StopsAs}
use Rattle.run_lines.specs.declared.stop.Stop.{Stop}
use Rattle.run_lines.specs.declared.stop.Stop.TheVariants as stops
use Rattle.run_lines.proofs.Taking.{took_none}
use Rattle.run_tasks.specs.Tasks.{IsCut}
use Rattle.run_tasks.proofs.Cuts.{HasTaken, taken_whole, taken_first, cut_behind}
use Rattle.law_locality.proofs.Runs.{run-append}
use Rattle.law_run.specs.Benched.{IsBenched}
use Rattle.law_run.proofs.Resting.{first_begins}
use Rattle.net_serve.specs.ServedRun.{course_on, MayFollow}
use Rattle.net_serve.specs.Told.{IsServeTold}
use Rattle.kme_serve.specs.Door.{Door}
use Rattle.kme_serve.specs.Doors.{PortsTold}
use Rattle.world_state.specs.Rests.{Rests}
use Rattle.world_state.specs.Stands.{Stands}
use Rattle.world_state.specs.declared.state.State.{State}
use Rattle.world_state.proofs.Tallies.{tallied_more}
use Rattle.net_world.specs.Laid.{IsPutBack}
use Rattle.net_world.specs.New.{IsNew, network_on}
use Rattle.net_world.specs.Over.{IsOver, HasHeadline}
use Rattle.net_world.specs.declared.bench.Bench.{Bench}
use Rattle.net_world.specs.Running.{RanOut}
use Rattle.net_serve.specs.BenchServing.{ended, ServedBehind, HasServedHeadlines}
use Rattle.net_serve.specs.Behind.{AreRequests, IsLineTold, Ends}
use Rattle.net_serve.specs.declared.stop.ServeStop.{ServeStop}
use Rattle.net_serve.specs.declared.stop.ServeStop.TheVariants.{Listen, Stopped}
use Rattle.net_serve.proofs.Told.{all_told}
use Rattle.world_state.specs.Outside.{Outside}

-- if the lines came to their end, requests may follow them
follows : {T : Type 0} (lines : Result T Stop) (http : HttpTexts) (scenario : Scenario) (net : Network) (done : List Performed) (served : List (List Action)) (before after : Given) →
    (report http net first (tasks_of scenario) done).world ≡ run net first (actions_of net done) →
    MatchResult lines (λ answer. ((report http net first (tasks_of scenario) done).ending ≡ Whole) × Took before after (report_pieces scenario.site.nodes (report http net first (tasks_of scenario) done).items))
    (λ stop. StopsAs stop scenario.site.nodes (report http net first (tasks_of scenario) done) before after) →
    (served ≡ []) ⊎ ((is_ok lines ≡ true) × AreRequests net (report http net first (tasks_of scenario) done).world served) → MayFollow http scenario net first done served
follows lines http scenario net done served before after leads told (inl none) = inl none
follows (Ok answer) http scenario net done served before after leads told (inr asked) = inr (record {
  whole = told.0;
  nodes = asked.1.nodes;
  chains = subst (λ (w : World). AreChains net w 0 served) leads asked.1.chains;
  requests = asked.1.requests;
})
follows (Err stop) http scenario net done served before after leads told (inr asked) = absurd (let wrong = asked.0 in cc)

-- where the lines and what came behind them were cut

taken_behind : {U : Type 0} (result : Result U ServeStop) (between after : Given) (text : List ℕ) → IsLineTold (ended result) between after text → HasTaken between after
taken_behind (Ok done) between after text told = taken_whole between after (text ∷ []) told
taken_behind (Err Listen) between after text told = subst (λ (t : Given). HasTaken between t) (sym told) (taken_whole between between [] (took_none between))
taken_behind (Err (Stopped stops.WriteFault)) between after text told = taken_first between after (text ∷ []) told
taken_behind (Err (Stopped stops.Memory)) between after text told = taken_first between after (text ∷ []) told
taken_behind (Err (Stopped (stops.Forged line))) between after text told = absurd told

cut_at : {T U : Type 0} (lines : Result T Stop) (result : Result U ServeStop) (nodes : List (List ℕ)) (http : HttpTexts) (net : Network) (tasks : List Task) (done : List Performed) (before between after : Given)
    (text : List ℕ) → MatchResult lines (λ answer. ((report http net first tasks done).ending ≡ Whole) × Took before between (report_pieces nodes (report http net first tasks done).items))
    (λ stop. StopsAs stop nodes (report http net first tasks done) before between) →
    MatchResult lines (λ done. IsLineTold (ended result) between after text) (λ stop. (result ≡ Err (Stopped stop)) × (after ≡ between)) →
    IsCut (λ (items : List NumberedItem). items) nodes http net first tasks done before between → IsCut (λ (items : List NumberedItem). items) nodes http net first tasks done before after
cut_at (Ok answer) result nodes http net tasks done before between after text told line cut =
    cut_behind (λ (items : List NumberedItem). items) nodes http net first tasks done before between after told.1 (taken_behind result between after text line)
cut_at (Err stop) result nodes http net tasks done before between after text told line cut =
    subst (λ (t : Given). IsCut (λ (items : List NumberedItem). items) nodes http net first tasks done before t) (sym line.1) cut

module _ {K Q E X D : Type 0} (outside : Outside K Q E X) (tell : D → Door) (failed : D → ℕ) (told_ports : Type 0) where
  left_of : {T : Type 0} (s : State K Q E X) (net : Network) (w : World) (result : Result T Stop) →
      MatchResult result (λ answer. IsReady (Stands outside) s net w) (λ stop. Rests outside s net w) →
      MatchResult result (λ answer. Stands outside s net w) (λ stop. Rests outside s net w)
  left_of s net w (Ok done) h = h.stands
  left_of s net w (Err stop) h = h

  module _ {T U : Type 0} (old stayed new : Bench K Q E X) (state final : State K Q E X) (scenario : Scenario) (workers connections port : ℕ) (before between after : Given)
      (ports_before ports_after : PortsTold D) (lines : Result T Stop) (result : Result U ServeStop)
      (tasks_lead : (http : HttpTexts) (net : Network) (workers : ℕ) (w : World) (tasks : List Task) (done : List Performed) → IsNetwork net → Conserved net w →
      IsRunOf http net workers w tasks done → (report http net w tasks done).world ≡ run net w (actions_of net done))
      (bench_begins : (b : Bench K Q E X) (scenario : Scenario) → IsNew outside b → IsDeclared scenario.site → IsBenched scenario (network_on outside.device outside.entropy b scenario.site))
      (bench_serves : (http : HttpTexts) (scenario : Scenario) (workers connections port : ℕ) (stop : headline.Stop) (old new : Bench K Q E X) (before after : Given)
      (done : List Performed) (served : List (List Action)) →
      IsOver outside old new scenario.site
      (whole_run (course_on outside.device outside.entropy old scenario done served)) (last_world (course_on outside.device outside.entropy old scenario done served)) →
      IsRunOf http (network_on outside.device outside.entropy old scenario.site) workers first (tasks_of scenario) done → MayFollow http scenario (network_on outside.device outside.entropy old scenario.site) first done served →
      IsServeTold stop scenario.site.nodes (report http (network_on outside.device outside.entropy old scenario.site) first (tasks_of scenario) done)
      (served_by (Serve workers connections port) (length scenario.site.nodes)) before after →
      IsCut (headline.written_of (Serve workers connections port)) scenario.site.nodes http (network_on outside.device outside.entropy old scenario.site) first (tasks_of scenario) done before after →
      HasHeadline outside old new (Serve workers connections port) stop http scenario before after
      (course_on outside.device outside.entropy old scenario done served))
      (fresh : IsNew outside old) (declared : IsDeclared scenario.site)
      (ran : RanOut outside old stayed workers scenario before between state lines)
      (ends : (net : Network) (w : World) →
      MatchResult lines (λ done. Stands outside state net w) (λ stop. Rests outside state net w) →
      Ends outside tell failed told_ports workers connections port state final net w ports_before ports_after
      between after (served_text (served_by (Serve workers connections port) (length state.site.nodes))) lines result)
      (back : IsPutBack outside.disk final stayed new) where
    pub headlines : HasServedHeadlines outside tell failed told_ports old new ports_before ports_after workers connections port
        scenario before after (ended result)
    headlines = λ http speaks.
        let net = network_on outside.device outside.entropy old scenario.site in
        let r = ran.ran http speaks in
        let p = report http net first (tasks_of scenario) r.done in
        let actions = actions_of net r.done in
        let benched = bench_begins old scenario fresh declared in
        let leads : p.world ≡ run net first actions = tasks_lead http net workers first (tasks_of scenario) r.done benched.network (first_begins net).conserved r.is in
        let e = ends net p.world (left_of state net p.world lines r.left) in
        let course : Course = course_on outside.device outside.entropy old scenario r.done e.served in
        let behind : List Action = flat_map (λ h. h) e.served in
        let last : run net p.world behind ≡ last_world course = ap (λ (w : World). run net w behind) {x = p.world} {y = run net first actions} leads ∙ sym (run-append net actions behind first) in
        let over : IsOver outside old new scenario.site (whole_run course) (last_world course) = record {
          fresh = fresh;
          declared = declared;
          ran = record {
            begin = ran.begin;
            end = final;
            stayed = stayed;
            laid = ran.laid;
            rests = subst (λ (w : World). Rests outside final net w) last e.rests;
            tallied = tallied_more outside net.site ran.begin state final actions behind r.tallied e.tallied;
            back = back;
          };
        } in
        let count = served_by (Serve workers connections port) (length scenario.site.nodes) in
        let line = subst (λ (s : Declared). MatchResult lines (λ done. IsLineTold (ended result) between after (served_text (served_by (Serve workers connections port) (length s.nodes))))
        (λ stop. (result ≡ Err (Stopped stop)) × (after ≡ between))) ran.sited e.line in
        let says = all_told scenario.site.nodes p count before between after lines result r.told line in (
          course,
          bench_serves http scenario workers connections port (ended result) old new before after r.done e.served over r.is
              (follows lines http scenario net r.done e.served before between leads r.told e.asked) says
              (cut_at lines result scenario.site.nodes http net (tasks_of scenario) r.done before between after (served_text count) r.told line r.cut),
          subst (λ (w : World). ServedBehind tell failed told_ports workers connections port scenario.site ports_before ports_after (ended result) net w e.served) leads
              (subst (λ (s : Declared). ServedBehind tell failed told_ports workers connections port s ports_before ports_after (ended result) net p.world e.served) ran.sited e.ports),
        )
