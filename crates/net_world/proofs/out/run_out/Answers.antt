-- The clauses of a run out of a bench.
use Rattle.std.proofs.Common.{◌≡◌, ℕ, ◌*◌, List, sym, ap, subst, ◌∙◌, arith}
use Rattle.std.specs.List.{All}
use Rattle.net_model.specs.World.{first}
use Rattle.declared_site.specs.SiteOf.{site_of}
use Rattle.declared_site.specs.declared.site.Site.{Site}
use Rattle.run_ops.specs.Acting.{IsReady}
use Rattle.run_ops.specs.Runnable.{IsEntryFor}
use Rattle.run_lines.specs.Reporting.{InLines, IsItemLine}
use Rattle.run_tasks.specs.Tasks.{RanTasks}
use Rattle.run_model.specs.Report.{tasks}
use Rattle.run_model.specs.Course.{tasks_of}
use Rattle.run_model.specs.Headline.{given_to}
use Rattle.run_http.specs.Speaking.{IsTextsOf}
use Rattle.net_world.specs.New.{network_on}
use Rattle.world_state.specs.Armed.{most_armed}
use Rattle.world_state.specs.Rests.{Rests}
use Rattle.world_state.specs.Stands.{Stands}
use Rattle.world_state.specs.declared.state.State.{State}
use Rattle.world_state.specs.Tallied.{Tallied}
use Rattle.kme_shared.specs.declared.run_state.Running.{Running}
use Rattle.world_state.specs.Sized.{IsSized}
use Rattle.net_world.proofs.RunHeadlines.{of_states, ready_after}
use Rattle.net_world.proofs.Rooms.{none_armed, first_is_quiet, has_room}
use Rattle.net_world.proofs.out.run_out.Goals as goal
use Rattle.world_state.specs.Outside.{outside}

pub new-running-requires-clause-sized : goal.new-running-requires-clause-sized
new-running-requires-clause-sized g c =
    let laid = c.in-Ok-lay_out.ensures.laid in
    let s = c.law_bench_begins.ensures.stands c.args.bench.now c.lay_out.new.bench c.args.scenario.site c.in-Ok-lay_out.state c.requires.fresh c.requires.runnable.site laid in
    record {
      nodes = s.nodes ∙ ap (λ (d : Site). (site_of d).nodes) (sym laid.sited);
      sides = s.sides ∙ ap (λ (d : Site). 2 * (site_of d).links) (sym laid.sited);
      links = s.links ∙ ap (λ (d : Site). (site_of d).links) (sym laid.sited);
    }

pub run_entries-ended-requires-clause-fit : goal.run_entries-ended-requires-clause-fit
run_entries-ended-requires-clause-fit g c =
    let sited = ap (λ (s : State g.row.K.Denot g.row.Q.Denot g.row.E.Denot g.row.X.Denot). s.site) c.new-running.ensures ∙ c.in-Ok-lay_out.ensures.laid.sited in
    subst (λ (d : Site). All (IsEntryFor d) c.args.scenario.entries) (sym sited) c.requires.runnable.entries

pub run_entries-ended-requires-clause-ready : goal.run_entries-ended-requires-clause-ready
run_entries-ended-requires-clause-ready g c =
    let net = network_on g.Q.Device g.E.Entropy c.args.bench.now c.args.scenario.site in
    let s = c.law_bench_begins.ensures.stands c.args.bench.now c.lay_out.new.bench c.args.scenario.site c.in-Ok-lay_out.state c.requires.fresh c.requires.runnable.site c.in-Ok-lay_out.ensures.laid in (
      net,
      first,
      record {
        stands = subst (λ (x : State g.row.K.Denot g.row.Q.Denot g.row.E.Denot g.row.X.Denot). Stands (outside g.K.Disk g.Q.Device g.E.Entropy g.X.Wire) x net first)
            (sym c.new-running.ensures) s;
        quiet = first_is_quiet;
      },
    )

pub run_entries-ended-requires-clause-few : goal.run_entries-ended-requires-clause-few
run_entries-ended-requires-clause-few g c =
    let nodes = (site_of c.args.scenario.site).nodes in
    let none : most_armed g.K.Disk c.new-running.result.state.posts.items ≡ 0 =
    ap (λ (s : State g.row.K.Denot g.row.Q.Denot g.row.E.Denot g.row.X.Denot). most_armed g.K.Disk s.posts.items) c.new-running.ensures ∙
    ap (most_armed g.K.Disk) c.in-Ok-lay_out.ensures.laid.posts ∙
    none_armed g.K.Disk nodes nodes c.args.bench.now.disks.items c.args.bench.now.entropies.items c.requires.unarmed in
    omega (arith, none, c.requires.runnable.arms)

pub returns-clause-ran : goal.returns-clause-ran
returns-clause-ran g c =
    let State-here = State g.row.K.Denot g.row.Q.Denot g.row.E.Denot g.row.X.Denot in
    let Running-here = Running g.row.K.Denot g.row.Q.Denot g.row.E.Denot g.row.X.Denot g.K.Disk g.Q.Device g.E.Entropy g.X.Wire in
    let net = network_on g.Q.Device g.E.Entropy c.args.bench.now c.args.scenario.site in
    let laid = c.in-Ok-lay_out.ensures.laid in
    let stands = c.law_bench_begins.ensures.stands c.args.bench.now c.lay_out.new.bench c.args.scenario.site c.in-Ok-lay_out.state c.requires.fresh c.requires.runnable.site laid in
    let ready : IsReady (λ (r : Running-here). Stands (outside g.K.Disk g.Q.Device g.E.Entropy g.X.Wire) r.state)
    c.new-running.result net first = record {
      stands = subst (λ (x : State-here). Stands (outside g.K.Disk g.Q.Device g.E.Entropy g.X.Wire) x net first)
          (sym c.new-running.ensures) stands;
      quiet = first_is_quiet;
    } in
    let sited : c.new-running.result.state.site ≡ c.args.scenario.site = ap (λ (s : State-here). s.site) c.new-running.ensures ∙ laid.sited in
    let left : c.into_state.result.site ≡ c.args.scenario.site = ap (λ (s : State-here). s.site) c.into_state.ensures.state ∙ c.run_entries-ended.ensures.site ∙ sited in
    let sized : IsSized c.in-Ok-lay_out.state = record {
      nodes = stands.nodes ∙ ap (λ (d : Site). (site_of d).nodes) (sym laid.sited);
      sides = stands.sides ∙ ap (λ (d : Site). 2 * (site_of d).links) (sym laid.sited);
      links = stands.links ∙ ap (λ (d : Site). (site_of d).links) (sym laid.sited);
    } in
    record {
      begin = c.in-Ok-lay_out.state;
      laid = laid;
      ran = λ http speaks.
          of_states (outside g.K.Disk g.Q.Device g.E.Entropy g.X.Wire)
          (λ (r : Running-here). r.state)
          c.new-running.result c.run_entries-ended.new.net c.in-Ok-lay_out.state c.into_state.result c.new-running.ensures (sym c.into_state.ensures.state)
          c.args.scenario.site.nodes (given_to g.W.Sink.taken g.W.Sink.pieces c.args.sink.now) (given_to g.W.Sink.taken g.W.Sink.pieces c.run_entries-ended.new.sink) http net c.args.workers first (tasks_of c.args.scenario) c.run_entries-ended.result
          (subst (λ (numbers : List ℕ). RanTasks (λ (r : Running-here). Stands (outside g.K.Disk g.Q.Device g.E.Entropy g.X.Wire) r.state)
          (λ (r : Running-here). Rests (outside g.K.Disk g.Q.Device g.E.Entropy g.X.Wire) r.state)
          (λ (a b : Running-here). Tallied (outside g.K.Disk g.Q.Device g.E.Entropy g.X.Wire) a.state b.state)
          c.args.scenario.site.nodes c.new-running.result c.run_entries-ended.new.net (given_to g.W.Sink.taken g.W.Sink.pieces c.args.sink.now) (given_to g.W.Sink.taken g.W.Sink.pieces c.run_entries-ended.new.sink)
          http net c.args.workers first (tasks numbers c.args.scenario.entries) c.run_entries-ended.result)
          c.as_slice.ensures
          (subst (λ (d : Site). RanTasks (λ (r : Running-here). Stands (outside g.K.Disk g.Q.Device g.E.Entropy g.X.Wire) r.state)
          (λ (r : Running-here). Rests (outside g.K.Disk g.Q.Device g.E.Entropy g.X.Wire) r.state)
          (λ (a b : Running-here). Tallied (outside g.K.Disk g.Q.Device g.E.Entropy g.X.Wire) a.state b.state)
          d.nodes c.new-running.result c.run_entries-ended.new.net (given_to g.W.Sink.taken g.W.Sink.pieces c.args.sink.now) (given_to g.W.Sink.taken g.W.Sink.pieces c.run_entries-ended.new.sink)
          http net c.args.workers first (tasks c.as_slice.result.now c.args.scenario.entries) c.run_entries-ended.result)
          sited
          (c.run_entries-ended.ensures.ran http net first
          (subst (λ ns. IsTextsOf ns c.in-Ok.requests.api.entitlements http) (sym c.in-Ok.ensures.nodes)
          (subst (λ gr. IsTextsOf c.args.scenario.site.nodes gr http) (sym c.in-Ok.ensures.entitlements) speaks))
          ready)));
      sized = c.into_state.ensures.sized;
      sited = left;
      room = has_room c.lay_out.new.bench c.in-Ok-lay_out.state c.into_state.result sized c.into_state.ensures.sized (left ∙ sym laid.sited) c.in-Ok-lay_out.ensures.room;
    }

pub returns-clause-ready : goal.returns-clause-ready
returns-clause-ready g c =
    let Running-here = Running g.row.K.Denot g.row.Q.Denot g.row.E.Denot g.row.X.Denot g.K.Disk g.Q.Device g.E.Entropy g.X.Wire in
    ready_after (outside g.K.Disk g.Q.Device g.E.Entropy g.X.Wire)
    (λ (r : Running-here). r.state)
    c.run_entries-ended.new.net c.into_state.result (sym c.into_state.ensures.state) c.run_entries-ended.result c.run_entries-ended.ensures.ready

pub returns-clause-lined : goal.returns-clause-lined
returns-clause-lined g c =
    let State-here = State g.row.K.Denot g.row.Q.Denot g.row.E.Denot g.row.X.Denot in
    let sited : c.new-running.result.state.site ≡ c.args.scenario.site = ap (λ (s : State-here). s.site) c.new-running.ensures ∙ c.in-Ok-lay_out.ensures.laid.sited in
    subst (λ (d : Site). InLines g.W.Sink.taken g.W.Sink.pieces (IsItemLine d.nodes) c.args.sink.now c.run_entries-ended.new.sink c.run_entries-ended.result) sited
    c.run_entries-ended.ensures.lined
