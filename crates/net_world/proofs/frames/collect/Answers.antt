use Rattle.std.proofs.Common.{◌≡◌, ◌∙◌, ◌<◌, Bool, true, false, List, [], ◌∷◌, ◌++◌, length, get_or, sym, ap, subst, arith}
use Rattle.std.specs.Prelude.{slice_get}
use Rattle.std.proofs.lemmas.List.{length-set, length-append}
use Rattle.law_base.proofs.Base.{not_true, was_not}
use Rattle.pad_veil.specs.declared.sealed_frame.SealedFrame.{SealedFrame}
use Rattle.net_world.specs.Other.{sealed_with}
use Rattle.net_world.specs.Veiled.{veiled_facts}
use Rattle.net_world.proofs.Apart.{is_sent, all_sent}
use Rattle.net_world.proofs.Collecting.{IsCollected, none_collected, all_collected, passed_on, collected_too, number_at, all_tests}
use Rattle.net_world.proofs.Octets.{marked, marked_few, mark_more, mark_new}
use Rattle.net_world.proofs.frames.collect.Goals as goal
use Rattle.net_world.proofs.frames.collect.Goals.{then-is_new+in_ok-push, else-is_new}

pub loop-number-init : goal.loop-number-init
loop-number-init g c = record {
  size = c.requires.size;
  few = omega (arith, ap length c.new-frames.ensures);
  collected = λ net w running at stands.
      let lane = c.args.side.now.lane in
      subst (λ (fs : List SealedFrame). IsCollected (λ j. sealed_with w.durable.facts (veiled_facts w) (slice_get (w.frames lane) j)) (w.wire lane) 0 fs c.args.marks.now) (sym c.new-frames.ensures)
      (none_collected (λ j. sealed_with w.durable.facts (veiled_facts w) (slice_get (w.frames lane) j)) (w.wire lane) c.args.marks.now c.requires.none);
}

pub loop-number-preserved : goal.loop-number-preserved
loop-number-preserved g c =
    let lane = c.args.side.now.lane in
    let f : SealedFrame = c.in_ok-frame.frame in
    let marks : List Bool = c.loop-number.marks in
    let inv = c.loop-number.invariant in
    let lt : f.offset < length marks = omega (arith, c.in_ok-frame.ensures.within, inv.size) in
    let size : length c.is_new.new.marks ≡ length marks = ap length c.is_new.ensures.marked ∙ length-set marks f.offset true in
    elim c.if-is_new.branch [
      | then-is_new+in_ok-push b ↦
          let new : get_or marks f.offset false ≡ false = was_not _ (sym c.is_new.ensures.new ∙ b.if-is_new.true) in
          let pushed : c.if-is_new.frames ≡ c.loop-number.frames ++ f ∷ [] = b.frames-is ∙ b.in_ok-push.ensures.ok in
          record {
            size = size ∙ inv.size;
            few = omega (arith, ap length pushed, length-append c.loop-number.frames (f ∷ []), inv.few, mark_new marks f.offset lt new, ap marked c.is_new.ensures.marked);
            collected = λ net w running at stands.
                let count : c.count-number-end.result ≡ length (w.wire lane) = c.count-number-end.ensures ∙ ap g.X.Wire.counted c.wire.ensures ∙ stands.wire.count in
                let on = number_at (w.wire lane) c.loop-number.number (omega (arith, c.loop-number-test.true, count)) in
                let sent = is_sent net w running.network running.conserved lane at c.loop-number.number on.0 on.1 in
                let tests = all_tests net w running.conserved lane on.0 sent (w.wire lane) (all_sent net w running.network running.conserved lane at) in
                collected_too (λ j. sealed_with w.durable.facts (veiled_facts w) (slice_get (w.frames lane) j)) (w.wire lane) c.loop-number.number on.0 on.1 tests
                f (c.in_ok-frame.ensures.frame net w on.0 running at stands on.1) marks c.is_new.new.marks lt c.is_new.ensures.marked c.loop-number.frames c.if-is_new.frames
                (inv.collected net w running at stands) new pushed;
          }
      | else-is_new b ↦
          let seen : get_or marks f.offset false ≡ true = not_true _ (sym c.is_new.ensures.new ∙ b.if-is_new.false) in
          record {
            size = size ∙ inv.size;
            few = omega (arith, ap length b.frames-is, inv.few, mark_more marks f.offset, ap marked c.is_new.ensures.marked);
            collected = λ net w running at stands.
                let count : c.count-number-end.result ≡ length (w.wire lane) = c.count-number-end.ensures ∙ ap g.X.Wire.counted c.wire.ensures ∙ stands.wire.count in
                let on = number_at (w.wire lane) c.loop-number.number (omega (arith, c.loop-number-test.true, count)) in
                let sent = is_sent net w running.network running.conserved lane at c.loop-number.number on.0 on.1 in
                let tests = all_tests net w running.conserved lane on.0 sent (w.wire lane) (all_sent net w running.network running.conserved lane at) in
                passed_on (λ j. sealed_with w.durable.facts (veiled_facts w) (slice_get (w.frames lane) j)) (w.wire lane) c.loop-number.number on.0 on.1 tests
                f (c.in_ok-frame.ensures.frame net w on.0 running at stands on.1) marks c.is_new.new.marks lt c.is_new.ensures.marked c.loop-number.frames c.if-is_new.frames
                (inv.collected net w running at stands) seen b.frames-is;
          }
    ]

pub returns-clause-frames : goal.returns-clause-frames
returns-clause-frames g c net w running at stands =
    let lane = c.args.side.now.lane in
    let count : c.count-number-end.result ≡ length (w.wire lane) = c.count-number-end.ensures ∙ ap g.X.Wire.counted c.wire.ensures ∙ stands.wire.count in
    let whole : length (w.wire lane) ≡ c.loop-number.number = omega (arith, count, c.loop-number-test.false, c.loop-number.auto.number-end) in
    all_collected (λ j. sealed_with w.durable.facts (veiled_facts w) (slice_get (w.frames lane) j)) (w.wire lane) c.loop-number.number c.loop-number.frames c.loop-number.marks whole
    (c.loop-number.invariant.collected net w running at stands)

pub returns-clause-few : goal.returns-clause-few
returns-clause-few g c =
    omega (arith, c.loop-number.invariant.few, marked_few c.loop-number.marks, c.loop-number.invariant.size)
