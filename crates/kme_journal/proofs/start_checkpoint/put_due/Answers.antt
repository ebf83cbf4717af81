use Rattle.std.proofs.Common.{◌≡◌, inl, ℕ, IsTrue, List, refl, sym, ap, subst, ◌∙◌, false}
use Rattle.std.proofs.lemmas.Bool.{false≢true}
use Rattle.disk_model.specs.Images.{AtEachMoment}
use Rattle.net_model.specs.World.{Journal}
use Rattle.net_model.specs.View.{View}
use Rattle.std.specs.List.{All}
use Rattle.journal_records.specs.Grammar.{IsBatch}
use Rattle.journal_records.specs.declared.version.Version.TheVariants.{Second}
use Rattle.net_model.specs.Journal.{checkpoint_batches, checkpoint_need, checkpoint_place, is_checkpoint_due}
use Rattle.journal_snapshot.specs.Snapshots.{journal_of, need_of, fits_in}
use Rattle.journal_snapshot.specs.Refused.{place_of}
use Rattle.kme_node.specs.Holdings.{view}
use Rattle.kme_journal.proofs.Whole.{if_ok}
use Rattle.kme_journal.specs.Putting.{HoldsEither, checkpoint_bodies, disk_of}
use Rattle.kme_journal.proofs.Put.{is_ripe, ripe_due, unripe_due, kept_as, put_as, untouched, under, held_as}
use Rattle.kme_journal.proofs.start_checkpoint.put_due.Goals as goal

pub returns-then-not-is_ripe-clause-put : goal.returns-then-not-is_ripe-clause-put
returns-then-not-is_ripe-clause-put g c =
    let old = c.args.journal in
    let j : Journal = journal_of old in
    let v : View = view c.args.node.now in
    let ripe : c.is_ripe.result ≡ is_ripe j.length' j.version = c.is_ripe.ensures ∙ ap (λ (n : ℕ). is_ripe n c.version.result) c.length.ensures ∙ ap (is_ripe j.length') c.version.ensures in
    kept_as (is_checkpoint_due j (checkpoint_need v)) old old (checkpoint_bodies v) (unripe_due j (checkpoint_need v) c.is_ripe.result ripe c.if-not-is_ripe.true) refl

pub returns-then-not-is_ripe-clause-moments : goal.returns-then-not-is_ripe-clause-moments
returns-then-not-is_ripe-clause-moments g c =
    let d = g.K.Disk in
    let old = c.args.journal in
    untouched (d.is_honest old.disk) d.moment d.image old.disk (d.content old.disk) old.live old.batches _ c.stands.ensures (λ i plain is. inl ((λ unmade. plain), is))

pub returns-in-Err-clause-moments : goal.returns-in-Err-clause-moments
returns-in-Err-clause-moments g c =
    let d = g.K.Disk in
    let old = c.args.journal in
    let v : View = view c.args.node.now in
    let P : List ℕ → Type 0 = HoldsEither (is_checkpoint_due (journal_of old) (checkpoint_need v)) (All (IsBatch Second) (checkpoint_batches v)) old.live old.batches (checkpoint_place (journal_of old) (checkpoint_need v)) (checkpoint_bodies v) in
    subst (λ x. AtEachMoment d.moment d.image old.disk x (λ i. IsTrue (d.is_honest old.disk) → P i)) (sym c.into_disk.ensures.disk)
    (untouched (d.is_honest old.disk) d.moment d.image old.disk (d.content old.disk) old.live old.batches P c.stands.ensures (λ i plain is. inl ((λ unmade. plain), is)))

pub returns-in-Ok-clause-put : goal.returns-in-Ok-clause-put
returns-in-Ok-clause-put g c =
    let old = c.args.journal in
    let j : Journal = journal_of old in
    let v : View = view c.args.node.now in
    let need : ℕ = checkpoint_need v in
    let bodies : List (List ℕ) = c.deref.result.now in
    let ripe : c.is_ripe.result ≡ is_ripe j.length' j.version = c.is_ripe.ensures ∙ ap (λ (n : ℕ). is_ripe n c.version.result) c.length.ensures ∙ ap (is_ripe j.length') c.version.ensures in
    let needs : need_of bodies ≡ need = ap need_of c.deref.ensures.value ∙ c.in-Ok.ensures.need in
    let due : fits_in j (need_of bodies) ≡ is_checkpoint_due j need = ripe_due j (need_of bodies) c.is_ripe.result ripe c.if-not-is_ripe.false ∙ ap (is_checkpoint_due j) needs in
    if_ok c.put.result _ _
    (λ new is. put_as (fits_in j (need_of bodies)) (is_checkpoint_due j need) old new bodies (checkpoint_bodies v) due (c.deref.ensures.value ∙ c.in-Ok.ensures.spelled.octets) is) c.put.ensures.put

pub returns-in-Ok-clause-moments : goal.returns-in-Ok-clause-moments
returns-in-Ok-clause-moments g c =
    let d = g.K.Disk in
    let old = c.args.journal in
    let j : Journal = journal_of old in
    let v : View = view c.args.node.now in
    let need : ℕ = checkpoint_need v in
    let bodies : List (List ℕ) = c.deref.result.now in
    let ripe : c.is_ripe.result ≡ is_ripe j.length' j.version = c.is_ripe.ensures ∙ ap (λ (n : ℕ). is_ripe n c.version.result) c.length.ensures ∙ ap (is_ripe j.length') c.version.ensures in
    let needs : need_of bodies ≡ need = ap need_of c.deref.ensures.value ∙ c.in-Ok.ensures.need in
    let due : fits_in j (need_of bodies) ≡ is_checkpoint_due j need = ripe_due j (need_of bodies) c.is_ripe.result ripe c.if-not-is_ripe.false ∙ ap (is_checkpoint_due j) needs in
    under (d.is_honest old.disk) d.moment d.image old.disk (disk_of c.put.result) _ _
    (λ i is. held_as (fits_in j (need_of bodies)) (is_checkpoint_due j need) (All (IsBatch Second) (checkpoint_batches v)) old.live old.batches (place_of old bodies) (checkpoint_place j need) bodies (checkpoint_bodies v) due (ap (checkpoint_place j) needs)
    (c.deref.ensures.value ∙ c.in-Ok.ensures.spelled.octets) c.in-Ok.ensures.spelled.grammar i is) c.put.ensures.moments

pub returns-then-not-is_ripe-clause-spelled : goal.returns-then-not-is_ripe-clause-spelled
returns-then-not-is_ripe-clause-spelled g c =
    let j : Journal = journal_of c.args.journal in
    let need : ℕ = checkpoint_need (view c.args.node.now) in
    let ripe : c.is_ripe.result ≡ is_ripe j.length' j.version = c.is_ripe.ensures ∙ ap (λ (n : ℕ). is_ripe n c.version.result) c.length.ensures ∙ ap (is_ripe j.length') c.version.ensures in
    let unripe : is_checkpoint_due j need ≡ false = unripe_due j need c.is_ripe.result ripe c.if-not-is_ripe.true in
    λ due. absurd (false≢true (sym unripe ∙ due))

pub returns-in-Ok-clause-spelled : goal.returns-in-Ok-clause-spelled
returns-in-Ok-clause-spelled g c = if_ok c.put.result _ _ (λ new is due. c.in-Ok.ensures.spelled.grammar) c.put.ensures.put
