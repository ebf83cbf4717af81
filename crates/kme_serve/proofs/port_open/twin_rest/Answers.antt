use Rattle.std.proofs.Common.{◌≡◌, ◌≤◌, ◌%◌, ◌++◌, ◌∷◌, [], ◌∙◌, ℕ, List, length, refl, sym, ap, subst, arith}
use Rattle.std.specs.Prelude.{IsSome}
use Rattle.std.proofs.lemmas.Result.{err_from_is_err_and}
use Rattle.std.proofs.lemmas.List.{length-set}
use Rattle.kme_serve.specs.Doors.{AreNew, AreUnused, AreQueued, HasFailed, telling}
use Rattle.kme_serve.proofs.Listeners.{written_back, twin_came, twin_unused, twin_failed}
use Rattle.kme_serve.proofs.Queues.{AreLeft, first_queued, first_left, twin_queued, twin_left}
use Rattle.kme_serve.proofs.port_open.twin_rest.Goals as goal

pub returns-in_err-twin-clause-came : goal.returns-in_err-twin-clause-came
returns-in_err-twin-clause-came g c asked port new =
    let p = err_from_is_err_and c.from_residual.result c.from_residual.ensures.1 in
    let now = subst (λ (ds : List _). AreNew (telling g.D.Listener.port g.D.Listener.accepted g.D.Listener.finished g.D.Listener.waiting g.D.Listener.done) g.D.Listener.faults (IsSome asked) port c.args.nodes ds) (sym c.deref_mut.ensures.value) (c.loop-place.invariant.new asked port new) in
    let size : length c.twin_at.new.doors ≡ c.loop-place.doors.len =
    ap length c.twin_at.ensures.after_is ∙ length-set c.deref_mut.result.now (c.loop-place.place % c.args.nodes) c.twin_at.ensures.left ∙ ap length c.deref_mut.ensures.value ∙ sym c.loop-place.doors.ok.0 in
    rw p.1
    (subst (λ (ds : List _). AreUnused (telling g.D.Listener.port g.D.Listener.accepted g.D.Listener.finished g.D.Listener.waiting g.D.Listener.done) g.D.Listener.faults port c.args.nodes ds × HasFailed g.D.Listener.faults ds) (sym (written_back c.loop-place.doors.len c.twin_at.new.doors c.loop-place.doors.items size)) (
      twin_unused (telling g.D.Listener.port g.D.Listener.accepted g.D.Listener.finished g.D.Listener.waiting g.D.Listener.done) g.D.Listener.faults (IsSome asked) port g.D.Listener.twins c.args.nodes c.loop-place.place c.deref_mut.result.now c.twin_at.new.doors now c.in_err-twin.field-0.0 c.in_err-twin.ensures,
      twin_failed (telling g.D.Listener.port g.D.Listener.accepted g.D.Listener.finished g.D.Listener.waiting g.D.Listener.done) g.D.Listener.faults (IsSome asked) port g.D.Listener.twins c.args.nodes c.loop-place.place c.deref_mut.result.now c.twin_at.new.doors now c.in_err-twin.field-0.0 c.in_err-twin.ensures,
    ))

pub loop-place-init : goal.loop-place-init
loop-place-init g c =
    let long : length c.args.doors.now.items ≡ c.len-place.result = sym c.args.doors.now.ok.0 ∙ sym c.len-place.ensures in
    let few : length c.args.doors.now.items ≤ c.args.nodes = omega (arith, c.args.doors.now.ok.0, c.requires.first) in
    record {
      long = sym c.len-place.ensures;
      grown = omega arith;
      new = λ asked port new. new;
      queued = λ queues port first. (
        first_queued (telling g.D.Listener.port g.D.Listener.accepted g.D.Listener.finished g.D.Listener.waiting g.D.Listener.done) g.D.Listener.twins queues port c.args.nodes c.args.doors.now.items few first,
        subst (λ (n : ℕ). AreLeft (telling g.D.Listener.port g.D.Listener.accepted g.D.Listener.finished g.D.Listener.waiting g.D.Listener.done) g.D.Listener.twins queues port c.args.nodes n c.args.doors.now.items) long
            (first_left (telling g.D.Listener.port g.D.Listener.accepted g.D.Listener.finished g.D.Listener.waiting g.D.Listener.done) g.D.Listener.twins queues port c.args.nodes c.args.doors.now.items few first),
      );
      space = refl;
    }

pub returns-clause-queued : goal.returns-clause-queued
returns-clause-queued g c queues port first = (c.loop-place.invariant.queued queues port first).0

pub loop-place-preserved : goal.loop-place-preserved
loop-place-preserved g c =
    let size : length c.twin_at.new.doors ≡ c.loop-place.doors.len =
    ap length c.twin_at.ensures.after_is ∙ length-set c.deref_mut.result.now (c.loop-place.place % c.args.nodes) c.twin_at.ensures.left ∙ ap length c.deref_mut.ensures.value ∙ sym c.loop-place.doors.ok.0 in
    record {
      long = omega (arith, c.push_reserved.ensures.len, c.loop-place.invariant.long);
      grown = omega (arith, c.push_reserved.ensures.len, c.loop-place.invariant.grown);
      new = λ asked port new.
          twin_came (telling g.D.Listener.port g.D.Listener.accepted g.D.Listener.finished g.D.Listener.waiting g.D.Listener.done) g.D.Listener.faults (IsSome asked) port g.D.Listener.twins c.args.nodes c.loop-place.place c.deref_mut.result.now c.twin_at.new.doors
          (subst (λ (ds : List _). AreNew (telling g.D.Listener.port g.D.Listener.accepted g.D.Listener.finished g.D.Listener.waiting g.D.Listener.done) g.D.Listener.faults (IsSome asked) port c.args.nodes ds) (sym c.deref_mut.ensures.value) (c.loop-place.invariant.new asked port new))
          c.push_reserved.new.self.items c.in_ok-twin.twin c.in_ok-twin.ensures
          (c.push_reserved.ensures.items ∙ ap (λ (ds : List _). ds ++ c.in_ok-twin.twin ∷ []) (written_back c.loop-place.doors.len c.twin_at.new.doors c.loop-place.doors.items size))
          (ap length c.deref_mut.ensures.value ∙ sym c.loop-place.doors.ok.0 ∙ c.loop-place.invariant.long);
      queued = λ queues port first.
          let was = c.loop-place.invariant.queued queues port first in
          let all = c.push_reserved.ensures.items ∙ ap (λ (ds : List _). ds ++ c.in_ok-twin.twin ∷ []) (written_back c.loop-place.doors.len c.twin_at.new.doors c.loop-place.doors.items size) in
          let long : length c.deref_mut.result.now ≡ c.loop-place.place = ap length c.deref_mut.ensures.value ∙ sym c.loop-place.doors.ok.0 ∙ c.loop-place.invariant.long in
          let many : c.args.nodes ≤ c.loop-place.place = omega (arith, c.loop-place.invariant.grown, c.loop-place.invariant.long, c.requires.first, c.loop-place-test.true) in
          let left = subst (λ (ds : List _). AreLeft (telling g.D.Listener.port g.D.Listener.accepted g.D.Listener.finished g.D.Listener.waiting g.D.Listener.done) g.D.Listener.twins queues port c.args.nodes c.loop-place.place ds) (sym c.deref_mut.ensures.value) was.1 in
          let queued = subst (λ (ds : List _). AreQueued (telling g.D.Listener.port g.D.Listener.accepted g.D.Listener.finished g.D.Listener.waiting g.D.Listener.done) queues port c.args.nodes ds) (sym c.deref_mut.ensures.value) was.0 in (
            twin_queued (telling g.D.Listener.port g.D.Listener.accepted g.D.Listener.finished g.D.Listener.waiting g.D.Listener.done) g.D.Listener.twins queues port c.args.nodes g.D.Listener.faults c.loop-place.place c.deref_mut.result.now c.twin_at.new.doors c.push_reserved.new.self.items c.in_ok-twin.twin c.in_ok-twin.ensures
                all long c.requires.nodes left queued,
            twin_left (telling g.D.Listener.port g.D.Listener.accepted g.D.Listener.finished g.D.Listener.waiting g.D.Listener.done) g.D.Listener.twins queues port c.args.nodes g.D.Listener.faults c.loop-place.place c.deref_mut.result.now c.twin_at.new.doors c.push_reserved.new.self.items c.in_ok-twin.twin c.in_ok-twin.ensures
                all long c.requires.nodes left many,
          );
      space = c.push_reserved.ensures.capacity ∙ c.loop-place.invariant.space;
    }
