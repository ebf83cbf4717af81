use Rattle.std.proofs.Common.{◌≡◌, ℕ, ◌<◌, ◌≤◌, List, length, ◌∙◌, sym, ap, subst, arith, ◌⊎◌, inl, inr}
use Rattle.qkd_base.specs.Name.{Name}
use Rattle.end_store.specs.Waiting.{Ends}
use Rattle.kme_facts.proofs.Finding.{sides}
use Rattle.kme_facts.proofs.Settling.{lets_both, given_more, handed_stays, past_end}
use Rattle.kme_facts.specs.Settled.{IsGivenSettled}
use Rattle.kme_facts.proofs.wiped_bytes.let_go_all_given.Goals as goal

pub loop-place-preserved : goal.loop-place-preserved
loop-place-preserved c = record {
  lets = lets_both c.args.streams.now c.loop-place.streams c.let_go_given_at.new.streams c.loop-place.invariant.lets c.let_go_given_at.ensures.lets;
  settled = given_more c.loop-place.streams c.let_go_given_at.new.streams c.args.from c.loop-place.place c.let_go_given_at.ensures.lets c.loop-place.invariant.settled c.let_go_given_at.ensures.settled;
}

pub returns-clause-settled : goal.returns-clause-settled
returns-clause-settled c p low =
    let same = handed_stays c.args.streams.now c.loop-place.streams c.loop-place.invariant.lets in
    let all = c.handed-place-end.ensures ∙ ap (λ (e : Ends). e.handed) c.ends.ensures in
    let end = ap (λ (xs : List (Name × ℕ)). length xs) (all ∙ sym same) in
    elim (sides p c.loop-place.place) [
      | inl lt ↦ c.loop-place.invariant.settled p low lt
      | inr (inl e) ↦ past_end c.loop-place.streams.ends.handed p (λ h. IsGivenSettled c.loop-place.streams h.0) (past p c.loop-place.place (length c.loop-place.streams.ends.handed) (subst (λ (n : ℕ). n ≤ c.loop-place.place) end c.loop-place-test.false) (inl e))
      | inr (inr gt) ↦ past_end c.loop-place.streams.ends.handed p (λ h. IsGivenSettled c.loop-place.streams h.0) (past p c.loop-place.place (length c.loop-place.streams.ends.handed) (subst (λ (n : ℕ). n ≤ c.loop-place.place) end c.loop-place-test.false) (inr gt))
    ]
  where
    past : (p place n : ℕ) → n ≤ place → (p ≡ place) ⊎ (place < p) → n ≤ p
    past p place n a (inl e) = omega arith
    past p place n a (inr lt) = omega arith
