-- Replaying the journal gives the manager, also after an event.
use Rattle.std.proofs.Common.{◌≡◌, ℕ, true, false, List, [], ◌∷◌, ◌++◌, map, refl, sym, ap, subst, ◌∙◌}
use Rattle.std.specs.Prelude.{◌&&◌, Option, Some, None, if◌then◌else◌}
use Rattle.std.specs.List.{list_any}
use Rattle.std.proofs.lemmas.List.{map-append}
use Rattle.std.proofs.lemmas.List.Elements.{All-push}
use Rattle.net_model.specs.declared.record.Record.{Record}
use Rattle.net_model.specs.declared.record.Record.TheVariants.{Block, Lease, Learned, Acked, Handed, Closed, Bare}
use Rattle.net_model.specs.Site.{Site}
use Rattle.net_model.specs.View.{View}
use Rattle.net_model.specs.Needed.{masked}
use Rattle.net_model.specs.Fold.{view_record, view_records, view_batch, view_after, owes, is_end_of, is_handed_by, is_stream_of, marked}
use Rattle.net_model.specs.Decision.{Effect}
use Rattle.declared_site.specs.SiteOf.{site_of}
use Rattle.declared_site.specs.declared.site.Site.{Site as Declared}
use Rattle.journal_records.specs.Grammar.{IsBatch}
use Rattle.journal_snapshot.specs.declared.live.Live.{Live}
use Rattle.journal_snapshot.specs.Snapshots.{SnapshotForm}
use Rattle.law_recovery.specs.GivesBack.{GivesBack}
use Rattle.kme_journal.specs.BatchRecovery.{AreReadAs}
use Rattle.kme_journal.specs.Spelled.{body, version_named, IsBody}
use Rattle.kme_journal.specs.Drafts.{with_octets}
use Rattle.kme_store.specs.Manager.{IsStory, IsToldBy}
use Rattle.kme_store.specs.declared.manager_state.Standing.TheVariants.{Up}

-- records don't change the node's number

me_record : (r : Record) (v : View) → (view_record r v).me ≡ v.me
unfolding view_record
me_record (Block link number bytes) v = refl
me_record (Lease lane end) v = refl
me_record (Learned f) v = refl
me_record (Acked n) v = elim (owes v n) as (λ t. (if t then record v { acked = v.acked ++ n ∷ [] } else v).me ≡ v.me) [ true ↦ refl | false ↦ refl ]
me_record (Handed n sae) v =
    elim (list_any (λ f. is_end_of v f && is_handed_by n sae f) v.facts) as (λ t. (if t then record v { handed = marked v.handed n sae } else v).me ≡ v.me) [ true ↦ refl | false ↦ refl ]
me_record (Closed n sae) v =
    elim (list_any (λ f. is_end_of v f && is_stream_of n f) v.facts) as (λ t. (if t then record v { closed = marked v.closed n sae } else v).me ≡ v.me) [ true ↦ refl | false ↦ refl ]
me_record (Bare f) v = refl

me_records : (rs : List Record) (v : View) → (view_records rs v).me ≡ v.me
unfolding view_records
me_records [] v = refl
me_records (r ∷ rs) v = me_records rs (view_record r v) ∙ me_record r v

me_masked : (v : View) → (masked v).me ≡ v.me
unfolding masked
me_masked v = refl

pub me_batch : (v : View) (batch : List Record) → (view_batch v batch).me ≡ v.me
me_batch v batch = me_masked (view_records batch v) ∙ me_records batch v

pub me_after : (v : View) (e : Effect) → (view_after v e).me ≡ v.me
unfolding view_after
me_after v e = me_batch v e.batch

-- the batches of a journal

-- laws about an effect and its batch
abbrev pub Appends : Type 0
Appends = (site : Site) (me : ℕ) (batches : List (List Record)) (v : View) (e : Effect) → GivesBack site me batches v → GivesBack site me (batches ++ e.batch ∷ []) (view_after v e)

abbrev pub Nothing : Type 0
Nothing = (site : Site) (me : ℕ) (batches : List (List Record)) (v : View) (e : Effect) → e.batch ≡ [] → GivesBack site me batches v → GivesBack site me batches (view_after v e)

module _ {K : Type 0} (site : Declared) (v : View) (old new : SnapshotForm K) where
  -- batches are read from the newer journal as from the older one
  read_on : (bodies : List (List ℕ)) (story : List (List Record)) → new.live ≡ old.live → new.batches ≡ bodies → AreReadAs old.live.version bodies story → AreReadAs new.live.version new.batches story
  read_on bodies story live batches read =
      subst (λ (l : Live). AreReadAs l.version new.batches story) (sym live) (subst (λ (bs : List (List ℕ)). AreReadAs old.live.version bs story) (sym batches) read)

  pub told_still : (site' : Declared) (v' : View) → site' ≡ site → v' ≡ v → new.live ≡ old.live → new.batches ≡ old.batches → IsToldBy site v (Up old) → IsToldBy site' v' (Up new)
  told_still site' v' same_site same_view live batches is =
      let here : IsToldBy site v (Up new) = (is.0, record { read = read_on old.batches is.0 live batches is.1.read; back = is.1.back }) in
      subst (λ (s : Declared). IsToldBy s v' (Up new)) (sym same_site) (subst (λ (w : View). IsToldBy site w (Up new)) (sym same_view) here)

  story_of : Appends → Nothing → (e : Effect) (octets : Option (List ℕ)) (story : List (List Record)) → IsStory site v old story → IsBody old.live.version e.batch octets → new.live ≡ old.live → new.batches ≡ with_octets old.batches octets →
      (more : List (List Record)) × IsStory site (view_after v e) new more
  story_of appends nothing e None story was none live batches = (
    story,
    record {
      read = read_on old.batches story live batches was.read;
      back = subst (λ (me : ℕ). GivesBack (site_of site) me story (view_after v e)) (sym (me_after v e)) (nothing (site_of site) v.me story v e none was.back);
    },
  )
  story_of appends nothing e (Some octets) story was spelled live batches =
      let read : AreReadAs old.live.version (old.batches ++ octets ∷ []) (story ++ e.batch ∷ []) = record {
        spelled =
            ap (λ (bs : List (List ℕ)). bs ++ octets ∷ []) was.read.spelled ∙ ap (λ (os : List ℕ). map (body old.live.version) story ++ os ∷ []) spelled.is
            ∙ sym (map-append (body old.live.version) story (e.batch ∷ []));
        each = All-push (IsBatch (version_named old.live.version)) story e.batch was.read.each spelled.grammar;
      } in (
        story ++ e.batch ∷ [],
        record {
          read = read_on (old.batches ++ octets ∷ []) (story ++ e.batch ∷ []) live batches read;
          back = subst (λ (me : ℕ). GivesBack (site_of site) me (story ++ e.batch ∷ []) (view_after v e)) (sym (me_after v e)) (appends (site_of site) v.me story v e was.back);
        },
      )

  pub told_more : Appends → Nothing → (e : Effect) (octets : Option (List ℕ)) (site' : Declared) (v' : View) → IsBody old.live.version e.batch octets → new.live ≡ old.live → new.batches ≡ with_octets old.batches octets →
      site' ≡ site → v' ≡ view_after v e → IsToldBy site v (Up old) → IsToldBy site' v' (Up new)
  told_more appends nothing e octets site' v' spelled live batches same_site same_view is =
      subst (λ (s : Declared). IsToldBy s v' (Up new)) (sym same_site) (subst (λ (w : View). IsToldBy site w (Up new)) (sym same_view) (story_of appends nothing e octets is.0 is.1 spelled live batches))
