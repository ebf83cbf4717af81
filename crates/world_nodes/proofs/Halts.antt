-- What a stopped start leaves is something that a later start may find.
use Rattle.std.proofs.Common.{◌≡◌, ◌⊎◌, inl, inr, ℕ, ◌+◌, Bool, true, false, List, [], ◌∷◌, ◌++◌, length, refl, sym, ap, subst, ◌∙◌, arith, Some, Result, length-append}
use Rattle.std.specs.Prelude.{if◌then◌else◌}
use Rattle.std.proofs.lemmas.Bool.{false≢true}
use Rattle.net_model.specs.World.{Network, World, Journal, InDoubt}
use Rattle.net_model.specs.View.{View}
use Rattle.net_model.specs.Needed.{view_of}
use Rattle.net_model.specs.Journal.{is_blank, new_journal, checkpoint_batches, checkpoint_need, checkpoint_place, checkpointed, is_checkpoint_due}
use Rattle.net_model.specs.Fold.{view_batch, view_restarted}
use Rattle.net_model.specs.Start.{may_resolve, agrees, resolved_journal}
use Rattle.range_journal.specs.Batches.{spelled}
use Rattle.range_journal.specs.Header.{new_header, is_blank as is_blank_disk}
use Rattle.range_journal.specs.Opening.{IsMadeNew}
use Rattle.range_journal.proofs.Heads.{made_new_head}
use Rattle.journal_snapshot.specs.declared.area.Area.{Area}
use Rattle.journal_snapshot.specs.declared.area.Area.TheVariants.{Header, Field, First, Second}
use Rattle.journal_snapshot.specs.declared.live.Live.{Live}
use Rattle.journal_snapshot.specs.Layout.{next_area, is_moved}
use Rattle.journal_snapshot.specs.Standing.{Holds, new_live}
use Rattle.journal_snapshot.specs.Opening.{IsClosing, IsOpened}
use Rattle.journal_snapshot.specs.Snapshots.{SnapshotForm, journal_of, moved_to}
use Rattle.journal_snapshot.proofs.Areas.{need_is}
use Rattle.journal_snapshot.proofs.Once.{opened_again}
use Rattle.journal_snapshot.proofs.Standings.{batches_of, closing_holds, closing_plain, new_closing}
use Rattle.kme_store.specs.Passed.{checkpoint_bodies, GivesBack, HasCheckpoint, HasRead, IsAfter, Recovered, RecoverRefusal}
use Rattle.kme_store.proofs.Passed.{bodies_need}
use Rattle.law_recovery.proofs.Restarting.{restarted_twice, recovered_restarts}
use Rattle.law_recovery.proofs.Checkpoint.{checkpoint_given, same_need}
use Rattle.law_recovery.specs.Starting.{resolved_view, checkpoint_of}
use Rattle.law_recovery.proofs.Journals.{checkpoint_stays, read_settled}
use Rattle.world_nodes.specs.Stands.{HasStory, journal_with, IsBehind, HoldsJournal, HoldsCheckpoint, MayFind, IsUnused, HoldsNothing}
use Rattle.world_nodes.proofs.Images.{journal_read}
use Rattle.world_nodes.proofs.Found.{same_manager, opened_is, header_opened, moved_plain}

-- the journal that is written as a checkpoint

goes_on : (a : Area) → is_moved (next_area a) ≡ true
goes_on Header = refl
goes_on Field = refl
goes_on First = refl
goes_on Second = refl

moved_journal : {K : Type 0} (old : SnapshotForm K) (a : View) →
    journal_with (moved_to old.live (checkpoint_place (journal_of old) (checkpoint_need a))) (checkpoint_bodies a) ≡ checkpointed (journal_of old) (checkpoint_need a)
unfolding checkpointed
moved_journal old a =
    let place : ℕ = checkpoint_place (journal_of old) (checkpoint_need a) in
    let live : Live = moved_to old.live place in
    let bodies = checkpoint_bodies a in
    let long : place + length (spelled bodies) + 1 ≡ place + checkpoint_need a = omega (arith, need_is bodies, bodies_need a, length-append (spelled bodies) (0 ∷ [])) in
    λ i. record { length' = long i; start = place; generation = live.generation; moved = goes_on old.live.area i; version = 2 }

agrees_itself : (committed some : Bool) → agrees (Some committed) some committed ≡ true
agrees_itself true some = refl
agrees_itself false some = refl

is_moved_on : (net : Network) (w : World) (v : ℕ) (read : List ℕ) (h : HoldsCheckpoint net w v read) → is_moved h.live.area ≡ true
unfolding checkpointed
is_moved_on net w v read h = ap (λ (j : Journal). j.moved) h.journaled

module _ (net : Network) (w : World) (v : ℕ) where
  -- The journal that was read is still there.
  pub journal_here : (live : Live) (bodies : List (List ℕ)) (read i : List ℕ) (h : HoldsJournal net w v read) → live ≡ h.live → bodies ≡ h.bodies → is_blank_disk i ≡ false → Holds live bodies [] i → HoldsJournal net w v i
  journal_here live bodies read i h same_live same_bodies plain holds = record {
    started = h.started;
    plain = plain;
    committed = h.committed;
    may = h.may;
    live = h.live;
    bodies = h.bodies;
    doubt = [];
    holds = subst (λ (l : Live). Holds l h.bodies [] i) same_live (subst (λ (bs : List (List ℕ)). Holds live bs [] i) same_bodies holds);
    journaled = h.journaled;
    told = h.told;
    behind = inl refl;
  }

  -- If the gate before the batch in doubt reads as open, the batch is made.
  made_behind : (read i : List ℕ) (h : HoldsJournal net w v read) → is_blank_disk i ≡ false → (h.doubt ≡ []) ⊎ IsBehind net w v h.live h.bodies h.doubt h.committed → (batch : List ℕ) → h.doubt ≡ batch ∷ [] →
      Holds h.live (h.bodies ++ batch ∷ []) [] i → HoldsJournal net w v i
  made_behind read i h plain (inl none) batch is holds = (let wrong : [] ≡ batch ∷ [] = sym none ∙ is in absurd (cc wrong))
  made_behind read i h plain (inr b) batch is holds =
      let pair : b.body ∷ [] ≡ batch ∷ [] = sym b.is ∙ is in
      let same : batch ≡ b.body = cc in
      record {
        started = h.started;
        plain = plain;
        committed = true;
        may = b.may;
        live = h.live;
        bodies = h.bodies ++ b.body ∷ [];
        doubt = [];
        holds = subst (λ (x : List ℕ). Holds h.live (h.bodies ++ x ∷ []) [] i) same holds;
        journaled = b.journaled;
        told = b.told;
        behind = inl refl;
      }

  closed_journal : (read i : List ℕ) → HoldsJournal net w v read → IsClosing read i → HoldsJournal net w v i
  closed_journal read i h closing =
      let plain = closing_plain read i closing in
      elim (closing_holds h.live h.bodies h.doubt read i h.holds closing) [
        | inl same ↦ record {
          started = h.started;
          plain = plain;
          committed = h.committed;
          may = h.may;
          live = h.live;
          bodies = h.bodies;
          doubt = h.doubt;
          holds = same;
          journaled = h.journaled;
          told = h.told;
          behind = h.behind;
        }
        | inr more ↦ made_behind read i h plain h.behind more.0 more.1 more.2
      ]

  -- The checkpoint of the journal was begun.
  module _ {K : Type 0} (stopped : w.interrupted v ≡ true) where
    checkpoint_here : (read i : List ℕ) (h : HoldsJournal net w v read) (old : SnapshotForm K) → old.live ≡ h.live → old.batches ≡ h.bodies → (a : View) → GivesBack net.site v old a → HasCheckpoint old a i → HoldsCheckpoint net w v i
    checkpoint_here read i h old same_live same_bodies a back c =
        let settled : View = resolved_view net w v h.committed in
        let seen : a ≡ view_restarted settled = same_manager net.site v h.live.version h.bodies settled old a (ap (λ (l : Live). l.version) same_live) same_bodies back h.told in
        let again : view_restarted a ≡ view_restarted settled = ap view_restarted seen ∙ restarted_twice settled in
        let need : checkpoint_need a ≡ checkpoint_need settled = same_need a settled again in
        let is : journal_of old ≡ resolved_journal w v h.committed = (λ j. journal_with (same_live j) (same_bodies j)) ∙ h.journaled in
        record {
          stopped = stopped;
          committed = h.committed;
          may = record { may = h.may; started = h.started; due = sym (λ j. is_checkpoint_due (is j) (need j)) ∙ c.due };
          live = moved_to old.live (checkpoint_place (journal_of old) (checkpoint_need a));
          bodies = checkpoint_bodies a;
          holds = c.is;
          journaled = moved_journal old a ∙ (λ j. checkpointed (is j) (need j));
          told = (
            checkpoint_batches a,
            record {
              read = record { spelled = refl; each = c.spelled };
              back = checkpoint_given net.site v back.story a (recovered_restarts net.site v back.story ∙ ap view_restarted (sym back.view)) ∙ again;
            },
          );
        }

    module _ (result : Result (Recovered K) (RecoverRefusal × K)) (read i : List ℕ) where
      pub after_journal : HoldsJournal net w v read → IsAfter net.site v result read i → MayFind net w v i
      after_journal h (inl (inl same)) = inl (subst (HoldsJournal net w v) (sym same) h)
      after_journal h (inl (inr (inl closing))) = inl (closed_journal read i h closing)
      after_journal h (inl (inr (inr made))) = absurd (false≢true (sym h.plain ∙ made.blank))
      after_journal h (inr opened) =
          let old : SnapshotForm K = opened.0 in
          let same = opened_is read old.live h.live old.batches h.bodies opened.1 (batches_of h.live h.bodies h.doubt read h.holds) h.plain in
          elim opened.2 [
            | inl there ↦ inl (journal_here old.live old.batches read i h same.0 same.1 there.0 there.1)
            | inr moved ↦ inr (inl (checkpoint_here read i h old same.0 same.1 moved.1.0 moved.1.1 moved.1.2))
          ]

  -- The disk had no journal.

  nothing : (read i : List ℕ) → HoldsNothing net w v read → IsUnused i ⊎ ((w.interrupted v ≡ true) × ((gate : ℕ) × (i ≡ new_header ++ gate ∷ []))) → HoldsNothing net w v i
  nothing read i h unused = record { blank = h.blank; certain = h.certain; empty = h.empty; unused = unused }

  abbrev Unused : List ℕ → Type 0
  Unused i = IsUnused i ⊎ ((w.interrupted v ≡ true) × ((gate : ℕ) × (i ≡ new_header ++ gate ∷ [])))

  -- An opening of an unused disk finds a new journal.
  pub new_opened : (read : List ℕ) → Unused read → (live : Live) (batches : List (List ℕ)) → IsOpened read live batches → (live ≡ new_live) × (batches ≡ [])
  new_opened read u live batches (inl new) = (new.1, new.2)
  new_opened read (inl (inl blank)) live batches (inr o) = absurd (false≢true (sym o.0 ∙ blank))
  new_opened read (inl (inr holds)) live batches (inr o) = (o.1 ∙ holds.says, (opened_again read live new_live batches [] (inr o) (batches_of new_live [] [] read holds)).0)
  new_opened read (inr h) live batches (inr o) = header_opened h.1.0 live batches (subst (λ (r : List ℕ). IsOpened r live batches) h.1.1 (inr o))

  closed_new : (read i : List ℕ) → Unused read → IsClosing read i → Unused i
  closed_new read i (inl (inl blank)) closing = absurd (false≢true (sym closing.plain ∙ blank))
  closed_new read i (inl (inr holds)) closing = elim (closing_holds new_live [] [] read i holds closing) [
    | inl same ↦ inl (inr same)
    | inr more ↦ (let wrong : [] ≡ more.0 ∷ [] = more.1 in absurd (cc wrong))
  ]
  closed_new read i (inr h) closing = inr (h.0, new_closing h.1.0 i (subst (λ (r : List ℕ). IsClosing r i) h.1.1 closing))

  made_new : w.interrupted v ≡ true → (read i : List ℕ) → IsMadeNew read i → Unused i
  made_new stopped read i made = elim (made_new_head read i made) [
    | inl blank ↦ inl (inl blank)
    | inr head ↦ inr (stopped, head)
  ]

  none_due : {K : Type 0} (old : SnapshotForm K) (need : ℕ) → old.live ≡ new_live → old.batches ≡ [] → is_checkpoint_due (journal_of old) need ≡ true → ⊥
  unfolding is_checkpoint_due
  none_due old need live batches due =
      let new : is_checkpoint_due new_journal need ≡ true = sym (λ j. is_checkpoint_due (journal_with (live j) (batches j)) need) ∙ due in
      absurd (cc new)

  module _ {K : Type 0} (stopped : w.interrupted v ≡ true) (result : Result (Recovered K) (RecoverRefusal × K)) (read i : List ℕ) where
    pub after_nothing : HoldsNothing net w v read → IsAfter net.site v result read i → MayFind net w v i
    after_nothing h (inl (inl same)) = inr (inr (subst (HoldsNothing net w v) (sym same) h))
    after_nothing h (inl (inr (inl closing))) = inr (inr (nothing read i h (closed_new read i h.unused closing)))
    after_nothing h (inl (inr (inr made))) = inr (inr (nothing read i h (made_new stopped read i made)))
    after_nothing h (inr opened) =
        let old : SnapshotForm K = opened.0 in
        let same = new_opened read h.unused old.live old.batches opened.1 in
        elim opened.2 [
          | inl there ↦ inr (inr (nothing read i h (inl (inr (subst (λ (l : Live). Holds l [] [] i) same.0 (subst (λ (bs : List (List ℕ)). Holds old.live bs [] i) same.1 there.1))))))
          | inr moved ↦ absurd (none_due old (checkpoint_need moved.1.0) same.0 same.1 moved.1.2.due)
        ]

  -- A start refuses what it read, and its disk didn't fail.
  pub refused_image : (read i : List ℕ) → MayFind net w v read → HasRead read i → MayFind net w v i
  refused_image read i (inl h) r =
      let same = opened_is read r.0 h.live r.1.0 h.bodies r.1.1 (batches_of h.live h.bodies h.doubt read h.holds) h.plain in inl (journal_here r.0 r.1.0 read i h same.0 same.1 r.1.2 r.1.3)
  refused_image read i (inr (inl h)) r =
      let plain = moved_plain h.live h.bodies [] read h.holds (is_moved_on net w v read h) in
      let same = opened_is read r.0 h.live r.1.0 h.bodies r.1.1 (batches_of h.live h.bodies [] read h.holds) plain in
      inr (inl (record {
        stopped = h.stopped;
        committed = h.committed;
        may = h.may;
        live = h.live;
        bodies = h.bodies;
        holds = subst (λ (l : Live). Holds l h.bodies [] i) same.0 (subst (λ (bs : List (List ℕ)). Holds r.0 bs [] i) same.1 r.1.3);
        journaled = h.journaled;
        told = h.told;
      }))
  refused_image read i (inr (inr h)) r =
      let same = new_opened read h.unused r.0 r.1.0 r.1.1 in
      inr (inr (nothing read i h (inl (inr (subst (λ (l : Live). Holds l [] [] i) same.0 (subst (λ (bs : List (List ℕ)). Holds r.0 bs [] i) same.1 r.1.3))))))

-- If a start was stopped and the next one finds its checkpoint, this checkpoint is the node's journal from then on.
module _ (net : Network) (w w' : World) (v : ℕ) (read : List ℕ) (h : HoldsCheckpoint net w v read) where
  pub checkpoint_plain : is_blank_disk read ≡ false
  checkpoint_plain = moved_plain h.live h.bodies [] read h.holds (is_moved_on net w v read h)

  module _ (journal : w'.journal v ≡ checkpoint_of net w v h.committed) (in_doubt : w'.in_doubt v ≡ record (w.in_doubt v) { checkpointed = Some h.committed }) (view : view_of net w' v ≡ view_of net w v) where
    stays : is_blank (checkpoint_of net w v h.committed) ≡ false
    stays = checkpoint_stays (resolved_journal w v h.committed) (checkpoint_need (resolved_view net w v h.committed))

    pub settled_journal : HoldsJournal net w' v read
    settled_journal = record {
      started = ap is_blank journal ∙ stays;
      plain = checkpoint_plain;
      committed = h.committed;
      may = ap (λ (d : InDoubt). may_resolve d h.committed) in_doubt ∙ agrees_itself h.committed _;
      live = h.live;
      bodies = h.bodies;
      doubt = [];
      holds = h.holds;
      journaled = h.journaled ∙ sym ((λ i. journal_read (journal i) (in_doubt i) h.committed) ∙ read_settled (checkpoint_of net w v h.committed) (w.in_doubt v) h.committed h.committed stays);
      told = subst (λ (a : View). HasStory net.site v h.live.version h.bodies a)
          (sym (λ i. if h.committed then view_batch (view i) (in_doubt i).batch else view i)) h.told;
      behind = inl refl;
    }
