use Rattle.std.proofs.Common.{ℕ, List, length, ap, sym, subst, ◌∙◌}
use Rattle.std.specs.Prelude.{◌==◌}
use Rattle.kme_base.specs.declared.step.Step.{Step}
use Rattle.kme_journal.specs.Spelled.{MayRespell}
use Rattle.kme_journal.proofs.Bodies.{may_respell, nothing_drawn}
use Rattle.kme_journal.proofs.Held.{positive}
use Rattle.kme_journal.proofs.draft.Draft.put_random.Goals as goal

pub returns-then-is_empty-clause-step : goal.returns-then-is_empty-clause-step
returns-then-is_empty-clause-step c =
    nothing_drawn c.args.self.now.step c.args.self.now.random.items (ap (λ (xs : List ℕ). length xs == 0) (sym c.as_slice.ensures.value) ∙ sym c.is_empty.ensures ∙ c.if-is_empty.true)

pub respell_body-requires : goal.respell_body-requires
respell_body-requires c =
    subst (λ (s : Step). MayRespell s.batch c.args.self.now.body) (sym c.put_random.ensures.batch)
    (may_respell c.deref.result.now c.args.self.now.step.batch c.args.self.now.body c.requires.spelled
    (c.requires.learned (positive c.is_empty.result (length c.args.self.now.random.items) (c.is_empty.ensures ∙ ap (λ (xs : List ℕ). length xs == 0) c.as_slice.ensures.value) c.if-is_empty.false)))

pub returns-clause-body : goal.returns-clause-body
returns-clause-body c = λ version was. c.respell_body.ensures.body version
