use Rattle.std.proofs.Common.{◌∷◌, [], ◌++◌, ap, ◌∙◌}
use Rattle.kme_journal.specs.Batches.{Gathered}
use Rattle.kme_journal.proofs.Batched.{more_gathered, on_ok}
use Rattle.kme_journal.proofs.batches.Batches.push.Goals as goal

pub returns : goal.returns
returns c = λ rs was.
    on_ok c.push.result _ _
    (λ more.
    more_gathered c.go_on.new.self _ rs c.args.change (c.in_ok-go_on.ensures.same rs was) (ap (λ (g : Gathered). g.full) c.self.view_is)
    (more ∙ ap (λ (g : Gathered). g.rest ++ c.args.change ∷ []) c.self.view_is)) c.push.ensures.ok
