use Rattle.std.proofs.Common.{◌≡◌, length, sym, ap, ◌∙◌, arith}
use Rattle.kme_journal.specs.Batches.{Gathered}
use Rattle.kme_journal.proofs.Batched.{close_gathered, on_both}
use Rattle.kme_journal.proofs.batches.Batches.go_on.Goals as goal

pub returns-clause-same : goal.returns-clause-same
returns-clause-same c = λ rs was.
    let here : length c.self.inside.rest ≡ 65535 = omega (arith, c.self.invariant.few) in
    let size : length c.args.self.now.rest ≡ 65535 = ap (λ (g : Gathered). length g.rest) (sym c.self.view_is) ∙ here in
    on_both c.close.result _ _ _ (λ octets grammar. close_gathered c.args.self.now c.close.new.self rs was size octets c.close.ensures.rest grammar) c.close.ensures.octets c.close.ensures.grammar
