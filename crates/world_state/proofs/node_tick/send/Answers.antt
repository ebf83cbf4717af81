use Rattle.std.proofs.Common.{List, [], ap, ◌∙◌}
use Rattle.qkd_base.specs.declared.lane.Lane.{Lane}
use Rattle.declared_site.specs.SiteOf.{site_of}
use Rattle.net_model.specs.Site.{outgoing_lanes}
use Rattle.net_model.specs.Tick.{tick_order}
use Rattle.world_state.specs.Armed.{most_armed}
use Rattle.world_state.specs.declared.progress.Progress.{Progress}
use Rattle.world_state.proofs.Endings.{on_err}
use Rattle.world_state.proofs.Goings.{may_all, went_all, broke_all}
use Rattle.world_state.proofs.Sendings.{puts_none, puts_ends}
use Rattle.world_state.proofs.Ticks.{all_played, stayed_breaks}
use Rattle.world_state.proofs.node_tick.send.Goals as goal
use Rattle.world_state.specs.Outside.{outside}

pub returns-in_err-lanes-clause-err : goal.returns-in_err-lanes-clause-err
returns-in_err-lanes-clause-err g c =
    on_err c.from_residual.result (λ net w h.
    puts_ends (outside g.K.Disk g.Q.Device g.E.Entropy g.X.Wire) c.args.state.now c.args.state.now c.args.state.now net w c.args.node _ _ [] [] (puts_none (outside g.K.Disk g.Q.Device g.E.Entropy g.X.Wire) c.args.state.now net w c.args.node _ [] h))

pub put_lanes-requires : goal.put_lanes-requires
put_lanes-requires g c =
    let a = c.requires.next in
    let p : Progress = record { items = c.args.items; placings = c.new-placings.result } in
    record {
      next = may_all (outside g.K.Disk g.Q.Device g.E.Entropy g.X.Wire)
          c.args.state.now c.args.state.now c.args.node (tick_order c.as_slice.result.now c.args.repeats.now c.args.orders.now) (tick_order (outgoing_lanes (site_of c.args.state.now.site) c.args.node) c.args.repeats.now c.args.orders.now) p p (ap (λ (ls : List Lane). tick_order ls c.args.repeats.now c.args.orders.now) (c.as_slice.ensures.value ∙ c.in_ok-lanes.ensures)) c.new-placings.ensures a.0 a.1 a.2;
    }

pub returns-in_err-put_lanes-clause-armed : goal.returns-in_err-put_lanes-clause-armed
returns-in_err-put_lanes-clause-armed g c = ap (most_armed g.K.Disk) c.put_lanes.ensures.posts

pub returns-in_err-put_lanes-clause-err : goal.returns-in_err-put_lanes-clause-err
returns-in_err-put_lanes-clause-err g c =
    let p : Progress = record { items = c.args.items; placings = c.new-placings.result } in
    on_err c.from_residual-in_err-put_lanes.result (broke_all (outside g.K.Disk g.Q.Device g.E.Entropy g.X.Wire)
    c.args.state.now c.put_lanes.new.state c.args.node (tick_order c.as_slice.result.now c.args.repeats.now c.args.orders.now) (tick_order (outgoing_lanes (site_of c.args.state.now.site) c.args.node) c.args.repeats.now c.args.orders.now) p p (ap (λ (ls : List Lane). tick_order ls c.args.repeats.now c.args.orders.now) (c.as_slice.ensures.value ∙ c.in_ok-lanes.ensures)) c.new-placings.ensures c.in_err-put_lanes.ensures.err)

pub note-requires : goal.note-requires
note-requires g c =
    let a = c.requires.next in
    let p : Progress = record { items = c.args.items; placings = c.new-placings.result } in
    let far = went_all (outside g.K.Disk g.Q.Device g.E.Entropy g.X.Wire)
    c.args.state.now c.put_lanes.new.state c.args.node (tick_order c.as_slice.result.now c.args.repeats.now c.args.orders.now) (tick_order (outgoing_lanes (site_of c.args.state.now.site) c.args.node) c.args.repeats.now c.args.orders.now) p c.put_lanes.new.progress (ap (λ (ls : List Lane). tick_order ls c.args.repeats.now c.args.orders.now) (c.as_slice.ensures.value ∙ c.in_ok-lanes.ensures)) c.new-placings.ensures c.in_ok-put_lanes.ensures.ok a.0 a.1 a.2 in
    record { sent = (a.0, far.puts.after, far.puts.sending) }

pub returns-in_err-note-clause-armed : goal.returns-in_err-note-clause-armed
returns-in_err-note-clause-armed g c = c.note.ensures.armed ∙ ap (most_armed g.K.Disk) c.put_lanes.ensures.posts

pub returns-in_err-note-clause-err : goal.returns-in_err-note-clause-err
returns-in_err-note-clause-err g c =
    on_err c.from_residual-in_err-note.result (λ net w h.
    let p : Progress = record { items = c.args.items; placings = c.new-placings.result } in
    let far = went_all (outside g.K.Disk g.Q.Device g.E.Entropy g.X.Wire)
    c.args.state.now c.put_lanes.new.state c.args.node (tick_order c.as_slice.result.now c.args.repeats.now c.args.orders.now) (tick_order (outgoing_lanes (site_of c.args.state.now.site) c.args.node) c.args.repeats.now c.args.orders.now) p c.put_lanes.new.progress (ap (λ (ls : List Lane). tick_order ls c.args.repeats.now c.args.orders.now) (c.as_slice.ensures.value ∙ c.in_ok-lanes.ensures)) c.new-placings.ensures c.in_ok-put_lanes.ensures.ok net w h in
    stayed_breaks (outside g.K.Disk g.Q.Device g.E.Entropy g.X.Wire)
    c.args.state.now c.put_lanes.new.state c.note.new.state net w c.args.node (tick_order (outgoing_lanes (site_of c.args.state.now.site) c.args.node) c.args.repeats.now c.args.orders.now) far.reported c.put_lanes.new.progress.placings far.puts (c.in_err-note.ensures.err net far.puts.after far.puts.sending))

pub returns-clause-armed : goal.returns-clause-armed
returns-clause-armed g c = c.note.ensures.armed ∙ ap (most_armed g.K.Disk) c.put_lanes.ensures.posts

pub returns-clause-ok : goal.returns-clause-ok
returns-clause-ok g c net w h =
    let p : Progress = record { items = c.args.items; placings = c.new-placings.result } in
    let far = went_all (outside g.K.Disk g.Q.Device g.E.Entropy g.X.Wire)
    c.args.state.now c.put_lanes.new.state c.args.node (tick_order c.as_slice.result.now c.args.repeats.now c.args.orders.now) (tick_order (outgoing_lanes (site_of c.args.state.now.site) c.args.node) c.args.repeats.now c.args.orders.now) p c.put_lanes.new.progress (ap (λ (ls : List Lane). tick_order ls c.args.repeats.now c.args.orders.now) (c.as_slice.ensures.value ∙ c.in_ok-lanes.ensures)) c.new-placings.ensures c.in_ok-put_lanes.ensures.ok net w h in (
      far.reported,
      far.items,
      all_played (outside g.K.Disk g.Q.Device g.E.Entropy g.X.Wire)
          c.args.state.now c.put_lanes.new.state c.note.new.state net w c.args.node (tick_order (outgoing_lanes (site_of c.args.state.now.site) c.args.node) c.args.repeats.now c.args.orders.now) far.reported c.put_lanes.new.progress.placings far.puts (c.in_ok-note.ensures.ok net far.puts.after far.puts.sending),
    )
