use Rattle.std.proofs.Common.{◌+◌, ◌∷◌, ◌++◌, [], ℕ, List, length, eqb, ◌||◌, true, refl, sym, ap, ◌∙◌, ◌≡◌, arith}
use Rattle.std.specs.Prelude.{nat_lt}
use Rattle.std.proofs.lemmas.List.{take_all}
use Rattle.scenario_text.proofs.Lines.{cut_of}
use Rattle.scenario_check.specs.declared.reason.Reason.TheVariants.{BehindEnd}
use Rattle.scenario_check.specs.declared.refusal.Checked.TheVariants.{Refused}
use Rattle.scenario_check.specs.Check.{refusal}
use Rattle.scenario_check.proofs.Parts.{at_line, at_last, goes_on, ended, ended_early, refused_last, refused_on, last_ended, last_missing, last_refused, is_over, is_ten, is_not_yet}
use Rattle.scenario_check.proofs.check.check_parts.Goals as goal
use Rattle.scenario_check.proofs.check.check_parts.Goals.{then-left-all-via-then-left-all, then-left-all-via-else-left-all+then-len-eq-MOST_TOLD, in-More, in-Refused+in_ok-refuse-in-Refused+else-left-all+else-len-eq-MOST_TOLD}

pub loop-line-init : goal.loop-line-init
loop-line-init c = record {
  so_far = rw (c.new-reading.ensures, c.new-found.ensures, take_all 4194305 c.args.octets.now c.requires) refl;
  number = omega arith;
}

pub returns-then-is_empty : goal.returns-then-is_empty
returns-then-is_empty c =
    c.at_end.ensures ∙ ended c.loop-line.number _ c.loop-line.reading c.judge.new.reading c.loop-line.found c.loop-line.left (length c.in-Some.line.now + 1) c.without_return-own.result.now _ _ _ _ (rw c.in-Last.is at c.in_ok-judge.ensures) (sym c.is_empty.ensures ∙ c.if-is_empty.true) (at_line c.loop-line.left c.loop-line.number c.loop-line.reading c.loop-line.found c.in-Some.line.now c.without_return-own.result.now c.in-Some.behind.now c.loop-line.rest.now _ c.without_return-own.ensures c.in-Some.ensures.0 c.loop-line.invariant.so_far)

pub returns-in-Last : goal.returns-in-Last
returns-in-Last c =
    ap Refused (c.in_ok-refuse-in-Last.ensures {u = tt} ∙ ap (λ (line : List ℕ). c.loop-line.found ++ refusal (c.loop-line.number + 1) line BehindEnd ∷ []) (c.first_line-next.ensures _ _ (cut_of c.in-Some.behind.now).is))
    ∙ ended_early c.loop-line.number _ c.loop-line.reading c.judge.new.reading c.loop-line.found c.loop-line.left (length c.in-Some.line.now + 1) c.without_return-own.result.now _ _ _ _ (rw c.in-Last.is at c.in_ok-judge.ensures) (sym c.is_empty.ensures ∙ c.if-is_empty.false) (at_line c.loop-line.left c.loop-line.number c.loop-line.reading c.loop-line.found c.in-Some.line.now c.without_return-own.result.now c.in-Some.behind.now c.loop-line.rest.now _ c.without_return-own.ensures c.in-Some.ensures.0 c.loop-line.invariant.so_far)

pub returns-then-left-all : goal.returns-then-left-all
returns-then-left-all c =
    let enough : (nat_lt c.loop-line.left (length c.in-Some.line.now + 1) || eqb (length c.refuse-in-Refused.new.found) 10) ≡ true =
    elim c.then-left-all.branch [
      | then-left-all-via-then-left-all w ↦ is_over _ _ _ w.if-left-all.true
      | then-left-all-via-else-left-all+then-len-eq-MOST_TOLD w ↦ is_ten _ _ _ (sym w.len.ensures ∙ w.if-len-eq-MOST_TOLD.true)
    ] in
    refused_last c.loop-line.number _ c.loop-line.reading c.judge.new.reading c.loop-line.found c.refuse-in-Refused.new.found c.in-Refused.reason c.loop-line.left (length c.in-Some.line.now + 1) c.without_return-own.result.now _ _ _ _ (rw c.in-Refused.is at c.in_ok-judge.ensures) (c.in_ok-refuse-in-Refused.ensures {u = tt}) enough (at_line c.loop-line.left c.loop-line.number c.loop-line.reading c.loop-line.found c.in-Some.line.now c.without_return-own.result.now c.in-Some.behind.now c.loop-line.rest.now _ c.without_return-own.ensures c.in-Some.ensures.0 c.loop-line.invariant.so_far)

pub loop-line-preserved : goal.loop-line-preserved
loop-line-preserved c = record {
  so_far = elim c.match-branch-2.branch [
    | in-More w ↦ rw (c.saturating_sub-left.ensures, w.found-is) (goes_on c.loop-line.number _ c.loop-line.reading c.judge.new.reading c.loop-line.found c.loop-line.left (length c.in-Some.line.now + 1) c.without_return-own.result.now _ _ _ _ (rw w.in-More.is at c.in_ok-judge.ensures) (at_line c.loop-line.left c.loop-line.number c.loop-line.reading c.loop-line.found c.in-Some.line.now c.without_return-own.result.now c.in-Some.behind.now c.loop-line.rest.now _ c.without_return-own.ensures c.in-Some.ensures.0 c.loop-line.invariant.so_far))
    | in-Refused+in_ok-refuse-in-Refused+else-left-all+else-len-eq-MOST_TOLD w ↦
        rw (c.saturating_sub-left.ensures, w.found-is) (refused_on c.loop-line.number _ c.loop-line.reading c.judge.new.reading c.loop-line.found w.refuse-in-Refused.new.found w.in-Refused.reason c.loop-line.left (length c.in-Some.line.now + 1) c.without_return-own.result.now _ _ _ _ (rw w.in-Refused.is at c.in_ok-judge.ensures) (w.in_ok-refuse-in-Refused.ensures {u = tt}) (is_not_yet c.loop-line.left (length c.in-Some.line.now + 1) (length w.refuse-in-Refused.new.found) (omega (arith, w.if-left-all.false)) (λ e. absurd (omega (arith, e, w.len.ensures, w.if-len-eq-MOST_TOLD.false)))) (at_line c.loop-line.left c.loop-line.number c.loop-line.reading c.loop-line.found c.in-Some.line.now c.without_return-own.result.now c.in-Some.behind.now c.loop-line.rest.now _ c.without_return-own.ensures c.in-Some.ensures.0 c.loop-line.invariant.so_far))
  ];
  number = omega (arith, c.in-Some.ensures.1);
}

pub returns-in-More-2 : goal.returns-in-More-2
returns-in-More-2 c = ap Refused (c.in_ok-refuse-in-More-2.ensures {u = tt}) ∙ last_missing c.loop-line.number _ c.loop-line.reading c.judge-2.new.reading c.loop-line.found c.loop-line.left c.loop-line.rest.now _ (rw c.in-More-2.is at c.in_ok-judge-2.ensures) (at_last c.loop-line.left c.loop-line.number c.loop-line.reading c.loop-line.found c.loop-line.rest.now _ c.in_default.ensures c.loop-line.invariant.so_far)

pub returns-in-Last-2 : goal.returns-in-Last-2
returns-in-Last-2 c = c.at_end-in-Last-2.ensures ∙ last_ended c.loop-line.number _ c.loop-line.reading c.judge-2.new.reading c.loop-line.found c.loop-line.left c.loop-line.rest.now _ (rw c.in-Last-2.is at c.in_ok-judge-2.ensures) (at_last c.loop-line.left c.loop-line.number c.loop-line.reading c.loop-line.found c.loop-line.rest.now _ c.in_default.ensures c.loop-line.invariant.so_far)

pub returns : goal.returns
returns c =
    last_refused c.loop-line.number _ c.loop-line.reading c.judge-2.new.reading c.loop-line.found c.refuse-in-Refused-2.new.found c.in-Refused-2.reason c.loop-line.left c.loop-line.rest.now _ (rw c.in-Refused-2.is at c.in_ok-judge-2.ensures) (c.in_ok-refuse-in-Refused-2.ensures {u = tt}) (at_last c.loop-line.left c.loop-line.number c.loop-line.reading c.loop-line.found c.loop-line.rest.now _ c.in_default.ensures c.loop-line.invariant.so_far)
