-- Replaying the journal from which a manager was recovered gives this manager.
use Rattle.std.proofs.Common.{◌≡◌, ℕ, sym, ap, subst, ◌∙◌}
use Rattle.net_model.specs.View.{View}
use Rattle.net_model.specs.Fold.{recovered_view, view_restarted}
use Rattle.declared_site.specs.SiteOf.{site_of}
use Rattle.declared_site.specs.declared.site.Site.{Site as Declared}
use Rattle.journal_snapshot.specs.Snapshots.{SnapshotForm}
use Rattle.law_recovery.specs.GivesBack.{GivesBack as LawGivesBack}
use Rattle.law_recovery.proofs.Kept.{recovered_kept}
use Rattle.law_recovery.proofs.Restarting.{recovered_restarts}
use Rattle.kme_journal.specs.Recovery.{GivesBack}
use Rattle.kme_store.specs.Manager.{IsToldBy}
use Rattle.kme_store.specs.declared.manager_state.Standing.TheVariants.{Up}

pub told_by : {K : Type 0} (declared site : Declared) (me : ℕ) (v : View) (journal : SnapshotForm K) → site ≡ declared → GivesBack (site_of declared) me journal v → IsToldBy site v (Up journal)
told_by {K} declared site me v journal at back =
    let given : recovered_view (site_of declared) me back.story ≡ view_restarted v = recovered_restarts (site_of declared) me back.story ∙ ap view_restarted (sym back.view) in
    let same : v.me ≡ me = ap (λ (x : View). x.me) back.view ∙ (recovered_kept (site_of declared) me back.story).me in
    let there : LawGivesBack (site_of declared) v.me back.story v = subst (λ (n : ℕ). LawGivesBack (site_of declared) n back.story v) (sym same) given in
    (back.story, record { read = back.spelled; back = subst (λ (s : Declared). LawGivesBack (site_of s) v.me back.story v) (sym at) there })
