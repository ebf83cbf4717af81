-- The story of a journal with one more batch.
use Rattle.std.proofs.Common.{◌≡◌, ℕ, ◌+◌, Bool, true, false, List, [], ◌∷◌, ◌++◌, sym, ap, subst, ◌∙◌, add-zero}
use Rattle.std.specs.Prelude.{Option, Some, None, if◌then◌else◌}
use Rattle.net_model.specs.declared.record.Record.{Record}
use Rattle.net_model.specs.Site.{Site}
use Rattle.net_model.specs.World.{Journal, InDoubt, Volatile}
use Rattle.net_model.specs.View.{View}
use Rattle.net_model.specs.Journal.{added_len, is_blank, new_journal, extended}
use Rattle.net_model.specs.Fold.{view_batch, view_after, view_restarted}
use Rattle.net_model.specs.Decision.{Effect}
use Rattle.range_journal.specs.Batches.{length_of}
use Rattle.range_journal.proofs.Whole.{length_more}
use Rattle.journal_snapshot.specs.declared.live.Live.{Live}
use Rattle.law_recovery.specs.GivesBack.{GivesBack}
use Rattle.law_recovery.proofs.Restarting.{effect_given, reply_given, batch_given}
use Rattle.kme_store.specs.Passed.{with_batch, IsBody, IsSpelling, added, AreReadAs, with_octets}
use Rattle.kme_store.proofs.Passed.{body_added, body_with, read_more}
use Rattle.kme_store.specs.Manager.{HasBodyIn}
use Rattle.world_nodes.specs.Stands.{HasStory, journal_with}
use Rattle.world_nodes.proofs.Images.{journal_read}

module _ (site : Site) (v version : ℕ) (bodies : List (List ℕ)) (view : View) where
  -- Nothing was written.
  unwritten : (batch : List Record) (next : View) → batch ≡ [] → (story : List (List Record)) → AreReadAs version bodies story → GivesBack site v story next → HasStory site v version (with_batch version bodies batch) next
  unwritten batch next none story read back =
      (story, record { read = subst (λ (rs : List Record). AreReadAs version (with_batch version bodies rs) story) (sym none) read; back = back })

  -- The batch was written.
  written : (batch : List Record) (next : View) (octets : List ℕ) → IsSpelling version batch octets → (story : List (List Record)) → AreReadAs version bodies story → GivesBack site v (story ++ batch ∷ []) next →
      HasStory site v version (with_batch version bodies batch) next
  written batch next octets s story read back = (
    story ++ batch ∷ [],
    record {
      read = subst (λ (bs : List (List ℕ)). AreReadAs version bs (story ++ batch ∷ [])) (body_with version bodies batch (Some octets) s) (read_more version bodies octets story batch read (record { is = s.is; grammar = s.grammar }));
      back = back;
    },
  )

  effect_as : (e : Effect) (octets : Option (List ℕ)) → IsBody version e.batch octets → HasStory site v version bodies view → HasStory site v version (with_batch version bodies e.batch) (view_after view e)
  effect_as e None none h = unwritten e.batch (view_after view e) none h.0 h.1.read (reply_given site v h.0 view e none h.1.back)
  effect_as e (Some octets) s h = written e.batch (view_after view e) octets s h.0 h.1.read (effect_given site v h.0 view e h.1.back)

  -- the story after an effect
  pub effect_told : (e : Effect) → HasBodyIn version e.batch → HasStory site v version bodies view → HasStory site v version (with_batch version bodies e.batch) (view_after view e)
  effect_told e b h = effect_as e b.0 b.1 h

  -- the story after a batch that was in doubt
  pub batch_told : (batch : List Record) (octets : List ℕ) → IsSpelling version batch octets → HasStory site v version bodies view → HasStory site v version (with_batch version bodies batch) (view_batch view batch)
  batch_told batch octets s h = written batch (view_batch view batch) octets s h.0 h.1.read (batch_given site v h.0 view batch h.1.back)

  -- No journal has what belongs to one life only.
  pub life_told : (life : Volatile) → HasStory site v version bodies view → HasStory site v version bodies (record view { volatile = life })
  unfolding view_restarted
  life_told life h = (h.0, record { read = h.1.read; back = h.1.back })

-- the length of the journal

with_length : (start : ℕ) (bodies : List (List ℕ)) (octets : Option (List ℕ)) → length_of start (with_octets bodies octets) ≡ length_of start bodies + added octets
with_length start bodies None = sym (add-zero (length_of start bodies))
with_length start bodies (Some octets) = length_more start bodies octets

pub journal_more : (live : Live) (bodies : List (List ℕ)) (batch : List Record) (octets : Option (List ℕ)) → IsBody live.version batch octets →
    journal_with live (with_batch live.version bodies batch) ≡ extended (journal_with live bodies) (added_len live.version batch)
journal_more live bodies batch octets s =
    ap (journal_with live) (sym (body_with live.version bodies batch octets s))
    ∙ ap (λ (n : ℕ). record (journal_with live bodies) { length' = n })
    (with_length live.start bodies octets ∙ ap (λ (n : ℕ). length_of live.start bodies + n) (body_added live.version batch octets s))

-- what a start reads of a journal that isn't blank
pub read_without : (j : Journal) (d : InDoubt) → is_blank j ≡ false → journal_read j d false ≡ j
read_without j d e =
    ap (λ (t : Bool). if t then new_journal else extended j 0) e ∙ ap (λ (n : ℕ). record j { length' = n }) (add-zero j.length')

pub read_with : (j : Journal) (batch : List Record) → is_blank j ≡ false → journal_read j (record { batch = batch; checkpointed = None }) true ≡ extended j (added_len j.version batch)
read_with j batch e = ap (λ (t : Bool). if t then new_journal else extended j (added_len j.version batch)) e
