use Rattle.std.proofs.Common.{◌∙◌, ◌<◌, ◌≤◌, refl, sym, arith}
use Rattle.world_state.proofs.Endings.{on_err}
use Rattle.par_frames.proofs.Noted.{noted_over}
use Rattle.par_frames.proofs.Notes.{noted_none, may_go_on, noted_more, noted_ends, noted_all}
use Rattle.par_frames.proofs.PlaceAmong.{left_there, left_below, left_next, none_left}
use Rattle.par_frames.proofs.node_notes.note_all.Goals as goal
use Rattle.world_state.specs.Outside.{outside}

pub loop-placings-init : goal.loop-placings-init
loop-placings-init g c = record {
  site = refl;
  armed = refl;
  within = omega arith;
  rest = c.into_iter-placings-iterator.ensures.into_iter_gives.0;
  went = λ net w h. noted_none (outside g.K.Disk g.Q.Device g.E.Entropy g.X.Wire) c.args.state.now net w h.stands;
}

pub note-requires : goal.note-requires
note-requires g c =
    let left = sym c.loop-placings.invariant.rest ∙ c.in-Some.ensures.steps.0 in
    let at = left_there c.args.all.items c.loop-placings.node c.in-Some.placings c.next.new.self.rest.items left in
    let below = left_below c.args.all.items c.loop-placings.node c.in-Some.placings c.next.new.self.rest.items left in
    let a = c.requires.asked in
    let far = c.loop-placings.invariant.went a.0 a.1 a.2 in
    let few : c.loop-placings.node < a.0.site.nodes = omega (arith, below, a.2.noted.nodes') in
    let may = may_go_on (outside g.K.Disk g.Q.Device g.E.Entropy g.X.Wire) c.args.state.now c.loop-placings.state a.0 a.1 c.args.all.items a.2 c.loop-placings.node far c.in-Some.placings at few in
    record { asked = (a.0, noted_over a.0 a.1 c.loop-placings.node, may) }

pub returns-in_err-note-clause-site : goal.returns-in_err-note-clause-site
returns-in_err-note-clause-site g c = c.note.ensures.site ∙ c.loop-placings.invariant.site

pub returns-in_err-note-clause-armed : goal.returns-in_err-note-clause-armed
returns-in_err-note-clause-armed g c = c.note.ensures.armed ∙ c.loop-placings.invariant.armed

pub returns-in_err-note-clause-err : goal.returns-in_err-note-clause-err
returns-in_err-note-clause-err g c =
    on_err c.from_residual.result (λ net w h.
    let left = sym c.loop-placings.invariant.rest ∙ c.in-Some.ensures.steps.0 in
    let at = left_there c.args.all.items c.loop-placings.node c.in-Some.placings c.next.new.self.rest.items left in
    let below = left_below c.args.all.items c.loop-placings.node c.in-Some.placings c.next.new.self.rest.items left in
    let far = c.loop-placings.invariant.went net w h in
    let few : c.loop-placings.node < net.site.nodes = omega (arith, below, h.noted.nodes') in
    let may = may_go_on (outside g.K.Disk g.Q.Device g.E.Entropy g.X.Wire) c.args.state.now c.loop-placings.state net w c.args.all.items h c.loop-placings.node far c.in-Some.placings at few in
    let few : c.loop-placings.node ≤ net.site.nodes = omega (arith, few) in
    noted_ends (outside g.K.Disk g.Q.Device g.E.Entropy g.X.Wire) c.args.state.now c.loop-placings.state net w c.args.all.items h c.loop-placings.node far c.note.new.state few
    (c.in_err-note.ensures.err net (noted_over net w c.loop-placings.node) may))

pub loop-placings-preserved : goal.loop-placings-preserved
loop-placings-preserved g c =
    let left = sym c.loop-placings.invariant.rest ∙ c.in-Some.ensures.steps.0 in
    let at = left_there c.args.all.items c.loop-placings.node c.in-Some.placings c.next.new.self.rest.items left in
    let below = left_below c.args.all.items c.loop-placings.node c.in-Some.placings c.next.new.self.rest.items left in
    record {
      site = c.note.ensures.site ∙ c.loop-placings.invariant.site;
      armed = c.note.ensures.armed ∙ c.loop-placings.invariant.armed;
      within = omega (arith, below);
      rest = left_next c.args.all.items c.loop-placings.node c.in-Some.placings c.next.new.self.rest.items left;
      went = λ net w h.
          let far = c.loop-placings.invariant.went net w h in
          let few : c.loop-placings.node < net.site.nodes = omega (arith, below, h.noted.nodes') in
          let may = may_go_on (outside g.K.Disk g.Q.Device g.E.Entropy g.X.Wire) c.args.state.now c.loop-placings.state net w c.args.all.items h c.loop-placings.node far c.in-Some.placings at few in
          noted_more (outside g.K.Disk g.Q.Device g.E.Entropy g.X.Wire) c.args.state.now c.loop-placings.state net w c.args.all.items h c.loop-placings.node far c.note.new.state few
          (c.in_ok-note.ensures.ok net (noted_over net w c.loop-placings.node) may);
    }

pub returns-clause-ok : goal.returns-clause-ok
returns-clause-ok g c net w h =
    let far = c.loop-placings.invariant.went net w h in
    let long = c.loop-placings.placings-iterator.rest.ok.0 in
    let none = c.in-None.ensures.steps.0 in
    let past = none_left c.args.all.items c.loop-placings.placings-iterator.rest.items c.loop-placings.node c.loop-placings.invariant.rest (omega (arith, long, none)) in
    let within = c.loop-placings.invariant.within in
    let nodes = h.noted.nodes' in
    noted_all (outside g.K.Disk g.Q.Device g.E.Entropy g.X.Wire) c.args.state.now c.loop-placings.state net w c.loop-placings.node (omega (arith, past, within, nodes)) far
