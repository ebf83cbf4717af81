-- Starts keep the conserved properties: what was in doubt is settled, each lane goes on at the end of its lease, and
-- a checkpoint is made where one is due.
use Rattle.std.proofs.Common.{◌≡◌, ◌≢◌, ℕ, zero, suc, ◌-◌, ◌≤◌, Bool, true, false, ◌&&◌, not, List, [], ◌++◌, length, replicate, refl, sym, ◌∙◌, ap, subst, arith, Some, None, inl, inr, length-append}
use Rattle.std.specs.Prelude.{nat_lt, slice_get, if◌then◌else◌}
use Rattle.std.proofs.lemmas.List.{length-replicate}
use Rattle.std.proofs.lemmas.Option.{slice_get_past}
use Rattle.qkd_base.specs.Family.{number_set}
use Rattle.qkd_base.specs.declared.lane.Lane.{Lane}
use Rattle.qkd_base.specs.Name.{Name}
use Rattle.net_model.specs.declared.fact.Fact.{Fact}
use Rattle.net_model.specs.declared.record.Record.{Record}
use Rattle.net_model.specs.declared.record.Record.TheVariants.{Learned}
use Rattle.net_model.specs.Table.{is_secret, fact_at}
use Rattle.net_model.specs.Premises.{IsNetwork}
use Rattle.net_model.specs.World.{Network, World, Durable, Allocation, Transmission, Owner, Burnt, Journal, InDoubt, received, needs, no_volatile, no_doubt}
use Rattle.net_model.specs.Ownership.{IsOwned, HasRoom, is_frame, is_key, covers}
use Rattle.net_model.specs.Records.{replay}
use Rattle.net_model.specs.Doubt.{MayReplay}
use Rattle.net_model.specs.Drawn.{IsDrawn, AreDrawn}
use Rattle.net_model.specs.Windows.{IsVolatile}
use Rattle.net_model.specs.Needed.{view_of}
use Rattle.net_model.specs.Journal.{is_blank, new_journal, is_checkpoint_due, checkpointed, recovered_journal}
use Rattle.net_model.specs.Invariant.{Invariant, IsJournal, HasRoomFor, Conserved}
use Rattle.net_model.specs.Start.{resolved, resolved_durable, resolved_journal, need_at, burnt_to, leaves, restarted, interrupted_start, recovers, start, may_resolve, may_recover, is_plain}
use Rattle.law_base.proofs.Base.{by_number, by_test, get_cases, number_set_same, and_left, and_right, when_false}
use Rattle.law_base.proofs.Keeping.{replay_keeps}
use Rattle.law_base.proofs.Growing.{AreFew, replay_grows, replay_few, replay_more_blocks, replay_cases}
use Rattle.law_base.proofs.Later.{replay_owned}
use Rattle.law_base.proofs.Doubts.{doubt_stays}
use Rattle.law_base.proofs.Growth.{Outgrows, volatile_stays, placed_stays}
use Rattle.law_base.proofs.Allocating.{may_own, no_cover}
use Rattle.law_invariant.proofs.Journals.{IsKept, is_journal, kept_not_blank, new_kept, settled_kept, recovered_kept, checkpointed_kept}
use Rattle.law_invariant.proofs.Effects.{drawn_later}
use Rattle.law_invariant.proofs.Volatiles.{nothing_kept}
use Rattle.law_invariant.proofs.Quiet.{quiet_lane}
use Rattle.law_invariant.proofs.Lives.{aside_keeps}
use Rattle.net_model.specs.Step.{is_quiet, is_node, is_enabled}
use Rattle.net_model.specs.Action.{Recovery, Recovers, Resumes, Interrupted, NoMemory, Foreign, Outcome, Start, WasUp}

-- Lemmas on bytes that are burnt.

no_burnt : (j k x : ℕ) → is_frame j (slice_get (replicate k Burnt) x) ≡ false
no_burnt j zero x = refl
no_burnt j (suc k) zero = refl
no_burnt j (suc k) (suc x) = no_burnt j k x

no_burnt_key : (k x : ℕ) → is_key (slice_get (replicate k Burnt) x) ≡ false
no_burnt_key zero x = refl
no_burnt_key (suc k) zero = refl
no_burnt_key (suc k) (suc x) = no_burnt_key k x

-- No frame covers a byte after the owned ones, and such a byte isn't part of the hash key.
module _ (facts : List Fact) (own : List Owner) (frames : List Allocation) (got : ℕ) (o : IsOwned facts own frames got) where
  no_key : (x : ℕ) → length own ≤ x → (nat_lt x 8 && nat_lt 0 got) ≡ false
  no_key x h = sym (o.key x) ∙ ap is_key (slice_get_past own x h)

  pub burnt_owned : (k : ℕ) → IsOwned facts (own ++ replicate k Burnt) frames got
  burnt_owned k =
      record {
        frame = λ x j. elim (get_cases own (replicate k Burnt) x) [
          | inl (within, same) ↦ ap (is_frame j) same ∙ o.frame x j
          | inr (m, at, same) ↦ ap (is_frame j) same ∙ no_burnt j k m ∙ sym (no_cover facts own frames got o x j (omega (arith, at)))
        ];
        key = λ x. elim (get_cases own (replicate k Burnt) x) [
          | inl (within, same) ↦ ap is_key same ∙ o.key x
          | inr (m, at, same) ↦ ap is_key same ∙ no_burnt_key k m ∙ sym (no_key x (omega (arith, at)))
        ];
        reach = λ some. let r = o.reach some in omega (arith, r, length-append own (replicate k Burnt));
      }

burnt_room : (facts : List Fact) (own : List Owner) (unclaimed : List Transmission) (lease got : ℕ) → unclaimed ≡ [] → HasRoom facts own unclaimed lease got →
    HasRoom facts (burnt_to lease own) unclaimed lease got
burnt_room facts own unclaimed lease got none r =
    let nothing : needs facts unclaimed ≡ 0 = ap (needs facts) none in
    record {
      planned = omega (arith, r.planned, nothing, length-append own (replicate (lease - length own) Burnt), length-replicate (lease - length own) Burnt);
      leased = r.leased;
    }

burnt_recovered : (here : Bool) (lease recovered : ℕ) (own : List Owner) → recovered ≤ length own →
    (if here then lease else recovered) ≤ length (if here then burnt_to lease own else own)
burnt_recovered true lease recovered own h = omega (arith, length-append own (replicate (lease - length own) Burnt), length-replicate (lease - length own) Burnt)
burnt_recovered false lease recovered own h = h

module _ (net : Network) (w : World) (network : IsNetwork net) (c : Conserved net w) (v : ℕ) where
  -- Lemmas on settling what was in doubt.

  -- The table, the knowledge and the blocks after the doubt was settled.
  record IsSettled (d : Durable) : Type 0 where
    now : Invariant net.site d w.frames w.unclaimed
    more : Outgrows w (record w { durable = d })
    doubts : (u : ℕ) → u ≢ v → MayReplay net.site d u (w.in_doubt u).batch
    table : (n : Name) (f : Fact) → fact_at d.facts n ≡ Some f → is_secret f ≡ true → IsDrawn net w f
    few : AreFew d
    recovered : (l : Lane) → w.recovered l ≤ length (d.own l)

  settled : (committed : Bool) → IsSettled (resolved_durable net.site w v committed)
  settled true =
      let batch = (w.in_doubt v).batch in
      let d : Durable = replay net.site v batch w.durable in
      let grown = replay_grows net.site v batch w.durable in
      let more = replay_more_blocks net.site v batch w.durable in
      record {
        now = replay_keeps net.site w.durable w.frames w.unclaimed c.now v batch (c.doubts v);
        more = record { facts = grown.facts; known = grown.known; blocks = more; frames = λ l j a h. h; wire = λ l n j h. h };
        doubts = λ u apart. doubt_stays net.site w.durable w.frames w.unclaimed c.now u v apart batch (w.in_doubt u).batch (c.doubts v) (c.doubts u);
        table = λ n f there secret. elim (replay_cases net.site v batch w.durable (c.doubts v) n f there) [
          | inl old ↦ c.drawn.table n f old secret
          | inr (k, at) ↦ c.drawn.doubts v k f at secret
        ];
        few = replay_few net.site v batch w.durable (c.doubts v) c.few_blocks;
        recovered = λ l. omega (arith, c.recovered l, replay_owned net.site v batch w.durable w.frames w.unclaimed c.now (c.doubts v) l);
      }
  settled false =
      record {
        now = c.now;
        more = record { facts = λ n f h. h; known = λ u n h. h; blocks = λ l. omega arith; frames = λ l j a h. h; wire = λ l n j h. h };
        doubts = λ u apart. c.doubts u;
        table = c.drawn.table;
        few = c.few_blocks;
        recovered = c.recovered;
      }

  journal_settled : (committed : Bool) → IsKept (resolved_journal w v committed)
  journal_settled committed =
      by_test IsKept (is_blank (w.journal v)) new_journal _ (λ e. new_kept) (λ e. settled_kept (w.journal v) (w.in_doubt v) committed (c.journals v) (c.doubt_room v) e)

  abbrev next : Bool → World
  next committed = resolved net.site w v committed

  -- The journal of the node, as the start reads it.
  next_journal : (committed : Bool) → (next committed).journal v ≡ resolved_journal w v committed
  next_journal committed = number_set_same w.journal v (resolved_journal w v committed)

  -- Lemmas on a start that succeeds.

  module _ (committed : Bool) (quiet : is_quiet net w v ≡ true) where
    abbrev d : Durable
    d = resolved_durable net.site w v committed

    abbrev after : World
    after = restarted net (next committed) v

    abbrev after_own : Lane → List Owner
    after_own l = if leaves net.site v l then burnt_to (d.lease l) (d.own l) else d.own l

    abbrev after_journal : Journal
    after_journal = recovered_journal ((next committed).journal v) (need_at net (next committed) v)

    restarted_more : Outgrows w after
    unfolding restarted
    restarted_more =
        let m = (settled committed).more in record { facts = m.facts; known = m.known; blocks = m.blocks; frames = λ l j a h. h; wire = λ l n j h. h }

    restarted_now : Invariant net.site (record d { own = after_own }) w.frames w.unclaimed
    restarted_now =
        let k = (settled committed).now in
        record {
          owned = λ l. by_test (λ (own : List Owner). IsOwned d.facts own (w.frames l) (received d l)) (leaves net.site v l) (burnt_to (d.lease l) (d.own l)) (d.own l)
              (λ e. burnt_owned d.facts (d.own l) (w.frames l) (received d l) (k.owned l) (d.lease l - length (d.own l))) (λ e. k.owned l);
          room = λ l. by_test (λ (own : List Owner). HasRoom d.facts own (w.unclaimed l) (d.lease l) (received d l)) (leaves net.site v l) (burnt_to (d.lease l) (d.own l)) (d.own l)
              (λ e. burnt_room d.facts (d.own l) (w.unclaimed l) (d.lease l) (received d l) (quiet_lane net w v network.site quiet l e) (k.room l)) (λ e. k.room l);
          table = k.table;
          streams = k.streams;
          groups = k.groups;
          knowledge = k.knowledge;
          carried = k.carried;
          marked = k.marked;
          stored = k.stored;
          handings = k.handings;
        }

    restarted_journal : IsKept after_journal
    restarted_journal =
        subst (λ (j : Journal). IsKept (recovered_journal j (need_at net (next committed) v))) (sym (next_journal committed))
        (recovered_kept (resolved_journal w v committed) (view_of net (next committed) v) (journal_settled committed))

    restarted_drawn : AreDrawn net after
    unfolding restarted
    restarted_drawn =
        record {
          table = λ n f there secret. drawn_later net w after f (omega arith) ((settled committed).table n f there secret);
          doubts = by_number (λ u t. (n : ℕ) (f : Fact) → slice_get (if t then no_doubt else w.in_doubt u).batch n ≡ Some (Learned f) → is_secret f ≡ true → IsDrawn net after f) v
              (λ n f at secret. cc) (λ u ne n f at secret. drawn_later net w after f (omega arith) (c.drawn.doubts u n f at secret));
        }

    restarted_keeps : Conserved net after
    unfolding restarted
    restarted_keeps =
        let few = (settled committed).few in
        record {
          now = restarted_now;
          doubts = by_number (λ u t. MayReplay net.site (record d { own = after_own }) u (if t then no_doubt else w.in_doubt u).batch) v tt
              (λ u ne. may_own net.site u (w.in_doubt u).batch d after_own ((settled committed).doubts u ne));
          doubtful = by_number (λ u t. (if t then true else w.up u) ≡ true → (if t then no_doubt else w.in_doubt u) ≡ no_doubt) v (λ h. refl) (λ u ne. c.doubtful u);
          resting = by_number (λ u t. (if t then true else w.up u) ≡ false → (if t then no_volatile else w.volatile u) ≡ no_volatile) v (λ h. refl) (λ u ne. c.resting u);
          volatile = by_number (λ u t. IsVolatile net after u (if t then no_volatile else w.volatile u)) v (nothing_kept net after v)
              (λ u ne. volatile_stays net w network c after restarted_more u (w.volatile u) (c.volatile u));
          placed = λ u n p at. placed_stays net w network c after restarted_more u p (c.placed u n p at);
          posted = c.posted;
          wired = c.wired;
          journals = by_number (λ u t. IsJournal (if t then after_journal else if t then resolved_journal w v committed else w.journal u)) v
              (is_journal after_journal restarted_journal) (λ u ne. c.journals u);
          started = by_number (λ u t. (if t then true else w.up u) ≡ true → is_blank (if t then after_journal else if t then resolved_journal w v committed else w.journal u) ≡ false) v
              (λ h. kept_not_blank after_journal restarted_journal) (λ u ne. c.started u);
          doubt_room = by_number (λ u t. HasRoomFor (if t then after_journal else if t then resolved_journal w v committed else w.journal u) (if t then no_doubt else w.in_doubt u)) v
              (λ h. let k = restarted_journal.limit in omega (arith, k)) (λ u ne. c.doubt_room u);
          drawn = restarted_drawn;
          few_blocks = few;
          recovered = λ l. burnt_recovered (leaves net.site v l) (d.lease l) (w.recovered l) (d.own l) ((settled committed).recovered l);
        }

  -- Lemmas on a start that is interrupted after its checkpoint.

  module _ (down : w.up v ≡ false) (committed : Bool) (due : is_checkpoint_due ((next committed).journal v) (need_at net (next committed) v) ≡ true) where
    abbrev moved : Journal
    moved = checkpointed ((next committed).journal v) (need_at net (next committed) v)

    abbrev doubt : InDoubt
    doubt = record (w.in_doubt v) { checkpointed = Some committed }

    abbrev halted : World
    halted = interrupted_start net w v (Some committed)

    halted_more : Outgrows w halted
    halted_more =
        record { facts = λ n f h. h; known = λ u n h. h; blocks = λ l. omega arith; frames = λ l j a h. h; wire = λ l n j h. h }

    moved_kept : IsKept moved
    moved_kept = checkpointed_kept ((next committed).journal v) (view_of net (next committed) v) due

    same_batch : (u : ℕ) → (halted.in_doubt u).batch ≡ (w.in_doubt u).batch
    same_batch = by_number (λ u t. (if t then doubt else w.in_doubt u).batch ≡ (w.in_doubt u).batch) v refl (λ u ne. refl)

    halted_keeps : Conserved net halted
    halted_keeps =
        record {
          now = c.now;
          doubts = λ u. subst (λ (rs : List Record). MayReplay net.site w.durable u rs) (sym (same_batch u)) (c.doubts u);
          doubtful = by_number (λ u t. w.up u ≡ true → (if t then doubt else w.in_doubt u) ≡ no_doubt) v (λ h. absurd (cc)) (λ u ne. c.doubtful u);
          resting = c.resting;
          volatile = λ u. volatile_stays net w network c halted halted_more u (w.volatile u) (c.volatile u);
          placed = λ u n p at. placed_stays net w network c halted halted_more u p (c.placed u n p at);
          posted = c.posted;
          wired = c.wired;
          journals = by_number (λ u t. IsJournal (if t then moved else w.journal u)) v (is_journal moved moved_kept) (λ u ne. c.journals u);
          started = by_number (λ u t. w.up u ≡ true → is_blank (if t then moved else w.journal u) ≡ false) v (λ h. kept_not_blank moved moved_kept) (λ u ne. c.started u);
          doubt_room = by_number (λ u t. HasRoomFor (if t then moved else w.journal u) (if t then doubt else w.in_doubt u)) v (λ h. cc) (λ u ne. c.doubt_room u);
          drawn = record {
            table = λ n f there secret. drawn_later net w halted f (omega arith) (c.drawn.table n f there secret);
            doubts = λ u n f at secret. drawn_later net w halted f (omega arith)
                (c.drawn.doubts u n f (ap (λ (rs : List Record). slice_get rs n) (sym (same_batch u)) ∙ at) secret);
          };
          few_blocks = c.few_blocks;
          recovered = c.recovered;
        }

-- Starts that find the checkpoint of an interrupted one, and all other starts.

module _ (net : Network) (w : World) (network : IsNetwork net) (c : Conserved net w) (v : ℕ) where
  resumed_keeps : w.up v ≡ false → is_quiet net w v ≡ true → (committed : Bool) →
      is_checkpoint_due ((resolved net.site w v committed).journal v) (need_at net (resolved net.site w v committed) v) ≡ true → Conserved net (recovers net w v (Resumes committed)).0
  resumed_keeps down quiet committed due =
      restarted_keeps net (interrupted_start net w v (Some committed)) network (halted_keeps net w network c v down committed due) v committed quiet

  recovers_keeps : w.up v ≡ false → is_quiet net w v ≡ true → (recovery : Recovery) → may_recover net w v recovery ≡ true → Conserved net (recovers net w v recovery).0
  unfolding may_recover
  recovers_keeps down quiet (Recovers committed) may = restarted_keeps net w network c v committed quiet
  recovers_keeps down quiet (Resumes committed) may =
      let checkpoint = and_right (w.interrupted v && may_resolve (w.in_doubt v) committed) _ may in
      resumed_keeps down quiet committed (and_right (not (is_blank (w.journal v))) _ checkpoint)
  recovers_keeps down quiet (Interrupted None) may = aside_keeps net w network c w.link_up (number_set w.interrupted v true)
  recovers_keeps down quiet (Interrupted (Some committed)) may =
      let checkpoint = and_right (may_resolve (w.in_doubt v) committed) _ may in
      halted_keeps net w network c v down committed (and_right (not (is_blank (w.journal v))) _ checkpoint)
  recovers_keeps down quiet NoMemory may = c
  recovers_keeps down quiet Foreign may = c

  pub start_keeps : (recovery : Recovery) → is_enabled net w (Start v recovery) ≡ true → Conserved net (start net w v recovery).0
  unfolding start is_enabled
  start_keeps recovery may =
      by_test (λ (r : World × Outcome). Conserved net r.0) (w.up v) (w, WasUp) (recovers net w v recovery) (λ e. c)
      (λ down. let both = sym (when_false (w.up v) (is_plain recovery) _ down) ∙ and_right (is_node net v) _ may in
      recovers_keeps down (and_left (is_quiet net w v) _ both) recovery (and_right (is_quiet net w v) _ both))
