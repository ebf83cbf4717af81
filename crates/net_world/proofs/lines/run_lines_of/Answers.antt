-- The clauses of a load over a bench.
use Rattle.std.proofs.Common.{◌≡◌, inr, ℕ, ◌*◌, List, sym, ap, subst, ◌∙◌}
use Rattle.std.specs.List.{All}
use Rattle.net_model.specs.World.{first}
use Rattle.declared_site.specs.SiteOf.{site_of}
use Rattle.declared_site.specs.declared.site.Site.{Site}
use Rattle.run_ops.specs.Acting.{IsReady}
use Rattle.run_ops.specs.Runnable.{IsEntryFor}
use Rattle.run_tasks.specs.Loaded.{RanLoad}
use Rattle.run_model.specs.Report.{tasks}
use Rattle.run_model.specs.Headline.{given_to}
use Rattle.run_lines.specs.Reporting.{InLines}
use Rattle.run_tasks.specs.Pieces.{IsLoadLine}
use Rattle.world_state.specs.Rests.{Rests}
use Rattle.world_state.specs.Stands.{Stands}
use Rattle.world_state.specs.Tallied.{Tallied}
use Rattle.world_state.specs.declared.state.State.{State}
use Rattle.net_world.specs.Laid.{IsLaidOut, IsPutBack}
use Rattle.net_world.specs.New.{network_on}
use Rattle.net_world.proofs.Firsts.{stands_first}
use Rattle.kme_shared.specs.declared.run_state.Running.{Running}
use Rattle.net_world.proofs.Rooms.{first_is_quiet, whole_again}
use Rattle.net_world.proofs.LoadHeadlines.{headlines}
use Rattle.net_world.proofs.Lined.{none_written}
use Rattle.net_world.proofs.lines.run_lines_of.Goals as goal
use Rattle.world_state.specs.Outside.{outside}

pub new-running-requires-clause-sized : goal.new-running-requires-clause-sized
new-running-requires-clause-sized g c =
    let laid = c.in-Ok.ensures.laid in
    let s = stands_first (outside g.K.Disk g.Q.Device g.E.Entropy g.X.Wire) g.met.X.Wire.all_counted
    c.args.bench.now c.lay_out.new.bench c.requires.fresh c.args.scenario.site c.requires.runnable.site c.frames_of_a_network.ensures c.in-Ok.state laid in
    record {
      nodes = s.nodes ∙ ap (λ (d : Site). (site_of d).nodes) (sym laid.sited);
      sides = s.sides ∙ ap (λ (d : Site). 2 * (site_of d).links) (sym laid.sited);
      links = s.links ∙ ap (λ (d : Site). (site_of d).links) (sym laid.sited);
    }

pub run_load-result-requires-clause-fit : goal.run_load-result-requires-clause-fit
run_load-result-requires-clause-fit g c =
    let sited = ap (λ (s : State g.row.K.Denot g.row.Q.Denot g.row.E.Denot g.row.X.Denot). s.site) c.new-running.ensures ∙ c.in-Ok.ensures.laid.sited in
    subst (λ (d : Site). All (IsEntryFor d) c.args.scenario.entries) (sym sited) c.requires.runnable.entries

pub run_load-result-requires-clause-ready : goal.run_load-result-requires-clause-ready
run_load-result-requires-clause-ready g c =
    let net = network_on g.Q.Device g.E.Entropy c.args.bench.now c.args.scenario.site in
    let s = stands_first (outside g.K.Disk g.Q.Device g.E.Entropy g.X.Wire) g.met.X.Wire.all_counted
    c.args.bench.now c.lay_out.new.bench c.requires.fresh c.args.scenario.site c.requires.runnable.site c.frames_of_a_network.ensures c.in-Ok.state c.in-Ok.ensures.laid in (
      net,
      first,
      record {
        stands = subst (λ (x : State g.row.K.Denot g.row.Q.Denot g.row.E.Denot g.row.X.Denot). Stands (outside g.K.Disk g.Q.Device g.E.Entropy g.X.Wire) x net first)
            (sym c.new-running.ensures) s;
        quiet = first_is_quiet;
      },
    )

pub returns-clause-headline : goal.returns-clause-headline
returns-clause-headline g c rounds is =
    let State-here = State g.row.K.Denot g.row.Q.Denot g.row.E.Denot g.row.X.Denot in
    let Running-here = Running g.row.K.Denot g.row.Q.Denot g.row.E.Denot g.row.X.Denot g.K.Disk g.Q.Device g.E.Entropy g.X.Wire in
    let net = network_on g.Q.Device g.E.Entropy c.args.bench.now c.args.scenario.site in
    let laid = c.in-Ok.ensures.laid in
    let stands = stands_first (outside g.K.Disk g.Q.Device g.E.Entropy g.X.Wire) g.met.X.Wire.all_counted
    c.args.bench.now c.lay_out.new.bench c.requires.fresh c.args.scenario.site c.requires.runnable.site c.frames_of_a_network.ensures c.in-Ok.state laid in
    let ready : IsReady (λ (r : Running-here). Stands (outside g.K.Disk g.Q.Device g.E.Entropy g.X.Wire) r.state)
    c.new-running.result net first = record {
      stands = subst (λ (x : State-here). Stands (outside g.K.Disk g.Q.Device g.E.Entropy g.X.Wire) x net first)
          (sym c.new-running.ensures) stands;
      quiet = first_is_quiet;
    } in
    let sited : c.new-running.result.state.site ≡ c.args.scenario.site = ap (λ (s : State-here). s.site) c.new-running.ensures ∙ laid.sited in
    inr (headlines (outside g.K.Disk g.Q.Device g.E.Entropy g.X.Wire)
    (λ (r : Running-here). r.state)
    c.args.bench.now c.lay_out.new.bench c.put_back.new.bench c.new-running.result c.run_load-result.new.net c.args.scenario rounds
    (given_to g.W.Sink.taken g.W.Sink.pieces c.args.sink.now) (given_to g.W.Sink.taken g.W.Sink.pieces c.run_load-result.new.sink) c.run_load-result.result c.law_bench_headline.ensures.load
    c.law_load_is_reported.ensures c.frames_of_a_network.ensures is
    c.requires.fresh c.requires.runnable.site
    (subst (λ (x : State-here). IsLaidOut c.args.bench.now c.lay_out.new.bench c.args.scenario.site x) (sym c.new-running.ensures) laid)
    (λ http.
    subst (λ (numbers : List ℕ). RanLoad (λ (r : Running-here). Stands (outside g.K.Disk g.Q.Device g.E.Entropy g.X.Wire) r.state)
    (λ (r : Running-here). Rests (outside g.K.Disk g.Q.Device g.E.Entropy g.X.Wire) r.state)
    (λ (a b : Running-here). Tallied (outside g.K.Disk g.Q.Device g.E.Entropy g.X.Wire) a.state b.state)
    c.args.scenario.site.nodes c.new-running.result c.run_load-result.new.net (given_to g.W.Sink.taken g.W.Sink.pieces c.args.sink.now) (given_to g.W.Sink.taken g.W.Sink.pieces c.run_load-result.new.sink)
    http net first (tasks numbers c.args.scenario.entries) c.run_load-result.result)
    c.as_slice.ensures
    (subst (λ (d : Site). RanLoad (λ (r : Running-here). Stands (outside g.K.Disk g.Q.Device g.E.Entropy g.X.Wire) r.state)
    (λ (r : Running-here). Rests (outside g.K.Disk g.Q.Device g.E.Entropy g.X.Wire) r.state)
    (λ (a b : Running-here). Tallied (outside g.K.Disk g.Q.Device g.E.Entropy g.X.Wire) a.state b.state)
    d.nodes c.new-running.result c.run_load-result.new.net (given_to g.W.Sink.taken g.W.Sink.pieces c.args.sink.now) (given_to g.W.Sink.taken g.W.Sink.pieces c.run_load-result.new.sink)
    http net first (tasks c.as_slice.result.now c.args.scenario.entries) c.run_load-result.result)
    sited
    (c.run_load-result.ensures.ran http net first ready)))
    (subst (λ (x : State-here). IsPutBack g.K.Disk x c.lay_out.new.bench c.put_back.new.bench)
    c.into_state.ensures.state c.put_back.ensures))

pub returns-clause-whole : goal.returns-clause-whole
returns-clause-whole g c =
    let State-here = State g.row.K.Denot g.row.Q.Denot g.row.E.Denot g.row.X.Denot in
    let laid = subst (λ (x : State-here). IsLaidOut c.args.bench.now c.lay_out.new.bench c.args.scenario.site x) (sym c.new-running.ensures) c.in-Ok.ensures.laid in
    whole_again g.K.Disk c.args.bench.now c.lay_out.new.bench c.put_back.new.bench c.args.scenario.site
    c.new-running.result.state c.into_state.result c.requires.runnable.site c.requires.fresh.whole laid c.into_state.ensures.sized
    (ap (λ (s : State-here). s.site) c.into_state.ensures.state ∙ c.run_load-result.ensures.site ∙ laid.sited) c.put_back.ensures

pub returns-clause-lined : goal.returns-clause-lined
returns-clause-lined g c =
    let sited : c.new-running.result.state.site ≡ c.args.scenario.site = ap (λ (s : State g.row.K.Denot g.row.Q.Denot g.row.E.Denot g.row.X.Denot). s.site) c.new-running.ensures ∙ c.in-Ok.ensures.laid.sited in
    subst (λ (d : Site). InLines g.W.Sink.taken g.W.Sink.pieces (IsLoadLine d.nodes) c.args.sink.now c.run_load-result.new.sink c.run_load-result.result) sited
    c.run_load-result.ensures.lined

pub returns-in-Err-clause-lined : goal.returns-in-Err-clause-lined
returns-in-Err-clause-lined g c = none_written g.W.Sink.taken g.W.Sink.pieces c.args.scenario.site.nodes c.args.sink.now
