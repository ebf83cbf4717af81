use Rattle.std.proofs.Common.{◌≡◌, ◌<◌, ℕ, List, length, take, get_or, refl, sym, subst, arith}
use Rattle.std.specs.List.{All}
use Rattle.std.proofs.lemmas.List.{take_more}
use Rattle.std.proofs.lemmas.List.Elements.{All-push}
use Rattle.std.proofs.Math.Seq.{take-length}
use Rattle.net_model.specs.declared.record.Record.{Record}
use Rattle.journal_records.specs.Grammar.{IsLearned}
use Rattle.kme_journal.proofs.forms.are_learned.Goals as goal

pub loop-change-preserved : goal.loop-change-preserved
loop-change-preserved c =
    let batch : List Record = c.args.batch.now in
    let i : ℕ = c.loop-change.change-index in
    let within : i < length batch = c.loop-change-test.true in
    let here : IsLearned (get_or batch i c.change-item.result) = subst IsLearned c.change-item.is (c.is_learned.ensures.0 c.if-not-is_learned.false) in
    subst (All IsLearned) (sym (take_more batch i c.change-item.result within)) (All-push IsLearned (take i batch) (get_or batch i c.change-item.result) c.loop-change.invariant here)

pub returns : goal.returns
returns c =
    let batch : List Record = c.args.batch.now in
    let end : c.loop-change.change-index ≡ length batch = omega arith in
    let cut : All IsLearned (take (length batch) batch) = subst (λ (n : ℕ). All IsLearned (take n batch)) end c.loop-change.invariant in
    let all : All IsLearned batch = subst (All IsLearned) (take-length batch) cut in
    (λ yes. all, λ every. refl)
