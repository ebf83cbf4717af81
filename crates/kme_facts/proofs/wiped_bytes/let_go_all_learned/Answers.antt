use Rattle.std.proofs.Common.{ℕ, ◌<◌, ◌≤◌, length, ◌∙◌, sym, ap, subst, arith}
use Rattle.end_store.specs.Waiting.{Ends}
use Rattle.relay_core.specs.Knowledge.{Knowledge}
use Rattle.kme_facts.proofs.Settling.{lets_both, learned_more, length_stays}
use Rattle.kme_facts.proofs.wiped_bytes.let_go_all_learned.Goals as goal

pub loop-place-preserved : goal.loop-place-preserved
loop-place-preserved c = record {
  lets = lets_both c.args.streams.now c.loop-place.streams c.let_go_learned.new.streams c.loop-place.invariant.lets c.let_go_learned.ensures.lets;
  settled = learned_more c.loop-place.streams c.let_go_learned.new.streams c.args.from c.loop-place.place c.let_go_learned.ensures.lets c.loop-place.invariant.settled c.let_go_learned.ensures.settled;
}

pub returns-clause-settled : goal.returns-clause-settled
returns-clause-settled c p low high =
    let k = c.known.ensures ∙ ap (λ (e : Ends). e.known) c.ends.ensures in
    let count = c.len-place-end.ensures.length ∙ ap (λ (x : Knowledge). length x.facts) k in
    let same = length_stays c.args.streams.now c.loop-place.streams c.loop-place.invariant.lets in
    c.loop-place.invariant.settled p low (below p c.len-place-end.result c.loop-place.place (subst (λ (n : ℕ). p < n) (same ∙ sym count) high) c.loop-place-test.false)
  where
    below : (p n place : ℕ) → p < n → n ≤ place → p < place
    below p n place a b = omega arith
