use Rattle.std.proofs.Common.{Bool, not, ◌&&◌, sym, ap, ◌∙◌}
use Rattle.net_model.specs.Needed.{is_needed}
use Rattle.kme_facts.specs.Needs.{needs_at}
use Rattle.kme_journal.proofs.facts.is_bare.Goals as goal

pub returns-then-is_secret : goal.returns-then-is_secret
returns-then-is_secret c = λ v sees.
    ap not (c.is_needed.ensures v sees ∙ ap (needs_at v) c.requires) ∙ ap (λ (t : Bool). t && not (is_needed v c.args.fact.now)) (sym c.if-is_secret.true ∙ c.is_secret.ensures)
