use Rattle.std.proofs.Common.{inl, ℕ, List, IsTrue, Option, None, sym, subst}
use Rattle.disk_model.specs.Images.{AtEachMoment}
use Rattle.disk_model.proofs.Moments.{started}
use Rattle.kme_journal.specs.Drafts.{HoldsEither}
use Rattle.kme_journal.proofs.batch_append.write.Goals as goal

pub returns-in-None-clause-moments : goal.returns-in-None-clause-moments
returns-in-None-clause-moments g c =
    let d = g.K.Disk in
    let j = c.args.journal in
    let kept = c.stands.ensures in
    let P : List ℕ → Type 0 = λ i. IsTrue (d.is_honest j.disk) → HoldsEither j None i in
    let run = started d.moment d.image j.disk P (λ i there h. subst (HoldsEither j None) (sym ((kept h).settled.only i there)) ((kept h).plain, inl (kept h).holds)) in
    subst (λ (b : Option (List ℕ)). AtEachMoment d.moment d.image j.disk j.disk (λ i. IsTrue (d.is_honest j.disk) → HoldsEither j b i)) (sym c.in-None.is) run
