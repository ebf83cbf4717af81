use Rattle.std.proofs.Common.{◌≡◌, ◌+◌, ◌-◌, ◌*◌, ◌∷◌, ℕ, List, arith, sym, ap₂, subst, ◌∙◌}
use Rattle.block_run.specs.Jobs.{jobs_from}
use Rattle.block_run.proofs.Chaining.{chain_more, jobs_left}
use Rattle.block_run.proofs.worker.work_through.Goals as goal

pub run-answer-requires : goal.run-answer-requires
run-answer-requires g c =
    let rest = jobs_from (c.args.worker + (c.loop-turn.turn + 1) * c.args.workers) c.args.workers (c.count_jobs-count.result - (c.loop-turn.turn + 1)) in
    let job : c.from.result + c.from-in-loop-turn.result * c.from-in-loop-turn-2.result ≡ c.args.worker + c.loop-turn.turn * c.args.workers = ap₂ (λ (a b : ℕ). a + b) c.from.ensures (ap₂ (λ (a b : ℕ). a * b) c.from-in-loop-turn.ensures c.from-in-loop-turn-2.ensures) in
    let left = jobs_left c.args.worker c.args.workers c.loop-turn.turn c.count_jobs-count.result c.loop-turn-test.true in
    let fit = subst (λ (js : List ℕ). g.T.Work.fits c.args.work.now c.loop-turn.pass js) left c.loop-turn.invariant.fits in
    record { fits = (rest, subst (λ (j : ℕ). g.T.Work.fits c.args.work.now c.loop-turn.pass (j ∷ rest)) (sym job) fit) }

pub loop-turn-preserved : goal.loop-turn-preserved
loop-turn-preserved g c =
    let rest = jobs_from (c.args.worker + (c.loop-turn.turn + 1) * c.args.workers) c.args.workers (c.count_jobs-count.result - (c.loop-turn.turn + 1)) in
    let job : c.from.result + c.from-in-loop-turn.result * c.from-in-loop-turn-2.result ≡ c.args.worker + c.loop-turn.turn * c.args.workers = ap₂ (λ (a b : ℕ). a + b) c.from.ensures (ap₂ (λ (a b : ℕ). a * b) c.from-in-loop-turn.ensures c.from-in-loop-turn-2.ensures) in
    let left = jobs_left c.args.worker c.args.workers c.loop-turn.turn c.count_jobs-count.result c.loop-turn-test.true in
    let fit = subst (λ (js : List ℕ). g.T.Work.fits c.args.work.now c.loop-turn.pass js) left c.loop-turn.invariant.fits in
    record {
      room = omega (arith, c.push_reserved.ensures.len, c.push_reserved.ensures.capacity, c.loop-turn.invariant.room, c.loop-turn-test.true);
      done = chain_more (g.T.Work.gives c.args.work.now) c.args.worker c.args.workers c.loop-turn.turn c.args.pass.now c.loop-turn.pass c.run-answer.new.pass c.loop-turn.answers.items c.push_reserved.new.self.items _ c.run-answer.result c.loop-turn.invariant.done job c.run-answer.ensures.gives c.push_reserved.ensures.items;
      fits = c.run-answer.ensures.rest rest (subst (λ (j : ℕ). g.T.Work.fits c.args.work.now c.loop-turn.pass (j ∷ rest)) (sym job) fit);
    }
