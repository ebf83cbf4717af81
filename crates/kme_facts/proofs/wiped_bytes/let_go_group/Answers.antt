use Rattle.std.proofs.Common.{◌≡◌, ℕ, ◌+◌, ◌-◌, ◌<◌, ◌≤◌, length, ◌∙◌, ap, subst, arith}
use Rattle.relay_core.specs.Knowledge.{Knowledge}
use Rattle.relay_core.proofs.Firsts.{get_within}
use Rattle.end_store.specs.Waiting.{Ends}
use Rattle.kme_facts.proofs.Settling.{facts_in, lets_nothing, lets_both, length_stays, below_start, below_all, below_end, below_more, first_in, none_in}
use Rattle.kme_facts.proofs.wiped_bytes.let_go_group.Goals as goal

pub loop-from-init : goal.loop-from-init
loop-from-init c = record { lets = lets_nothing c.args.streams.now; below = below_start c.args.streams.now c.args.group.now }

pub loop-from-smaller : goal.loop-from-smaller
loop-from-smaller c =
    let k = c.known-in-loop-from.ensures ∙ ap (λ (e : Ends). e.known) c.ends-in-loop-from.ensures in
    let first = first_in c.loop-from.streams c.known-in-loop-from.result.now c.args.group.now c.loop-from.from c.in-Some.place k c.in-Some.ensures.first in
    smaller c.loop-from.from c.in-Some.place (length (facts_in c.loop-from.streams)) (length (facts_in c.let_go_at.new.streams)) first.behind
    (length_stays c.loop-from.streams c.let_go_at.new.streams c.let_go_at.ensures.lets) (get_within (facts_in c.loop-from.streams) c.in-Some.place first.item first.there)
  where
    smaller : (from place old new : ℕ) → from ≤ place → new ≡ old → place < old → new - (place + 1) < old - from
    smaller from place old new a b d = omega arith

pub loop-from-preserved : goal.loop-from-preserved
loop-from-preserved c =
    let k = c.known-in-loop-from.ensures ∙ ap (λ (e : Ends). e.known) c.ends-in-loop-from.ensures in
    record {
      lets = lets_both c.args.streams.now c.loop-from.streams c.let_go_at.new.streams c.loop-from.invariant.lets c.let_go_at.ensures.lets;
      below = below_more c.loop-from.streams c.let_go_at.new.streams c.args.group.now c.loop-from.from c.in-Some.place c.let_go_at.ensures.lets c.loop-from.invariant.below
          (first_in c.loop-from.streams c.known-in-loop-from.result.now c.args.group.now c.loop-from.from c.in-Some.place k c.in-Some.ensures.first) c.let_go_at.ensures.settled;
    }

pub returns-in-None-clause-settled : goal.returns-in-None-clause-settled
returns-in-None-clause-settled c =
    let k = c.known-in-loop-from.ensures ∙ ap (λ (e : Ends). e.known) c.ends-in-loop-from.ensures in
    below_all c.loop-from.streams c.args.group.now c.loop-from.from c.loop-from.invariant.below
    (none_in c.loop-from.streams c.known-in-loop-from.result.now c.args.group.now c.loop-from.from k c.in-None.ensures.none)

pub returns-clause-settled : goal.returns-clause-settled
returns-clause-settled c =
    let k = c.known.ensures ∙ ap (λ (e : Ends). e.known) c.ends.ensures in
    let count = c.len.ensures.length ∙ ap (λ (x : Knowledge). length x.facts) k in
    below_end c.loop-from.streams c.args.group.now c.loop-from.from c.loop-from.invariant.below (subst (λ (n : ℕ). n ≤ c.loop-from.from) count c.loop-from-test.false)
