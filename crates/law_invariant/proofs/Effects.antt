-- An effect that may take place keeps the conserved properties, whether it is committed, stopped or refused.
use Rattle.std.proofs.Common.{◌≡◌, ◌≢◌, ℕ, ◌+◌, ◌≤◌, true, false, ◌&&◌, ◌||◌, not, refl, sym, subst, arith, Some, None, ◌⊎◌, inl, inr}
use Rattle.std.specs.Prelude.{◌==◌, nat_lt, slice_get, if◌then◌else◌}
use Rattle.std.specs.List.{list_all}
use Rattle.std.proofs.lemmas.Bool.{ltb-false}
use Rattle.std.proofs.lemmas.Bool.Decides.{nat_tests}
use Rattle.qkd_base.specs.Family.{number_set}
use Rattle.qkd_base.specs.declared.lane.Lane.{Lane}
use Rattle.net_model.specs.declared.fact.Fact.{Fact}
use Rattle.net_model.specs.declared.record.Record.TheVariants.{Learned}
use Rattle.net_model.specs.Table.{name_of, origin, fact_at, is_secret}
use Rattle.net_model.specs.Premises.{IsNetwork}
use Rattle.net_model.specs.OctetSequence.{has_octets}
use Rattle.net_model.specs.World.{Network, World, Durable, InDoubt, no_volatile, no_doubt}
use Rattle.net_model.specs.Ownership.{IsWired}
use Rattle.net_model.specs.Records.{replay}
use Rattle.net_model.specs.Doubt.{MayReplay}
use Rattle.net_model.specs.Drawn.{IsDrawn, AreDrawn}
use Rattle.net_model.specs.Windows.{IsVolatile, IsPosted}
use Rattle.net_model.specs.Journal.{journal_limit, added_len, is_nil, is_blank, extended}
use Rattle.net_model.specs.Invariant.{Invariant, IsJournal, HasRoomFor, Conserved}
use Rattle.net_model.specs.Decision.{Effect}
use Rattle.net_model.specs.Action.{Environment, Outcome, is_no_memory, is_entropy_fault, is_io_fault}
use Rattle.net_model.specs.Handle.{is_numbered, with_orders, with_repeats, commit, stopped, perform}
use Rattle.law_base.proofs.Base.{by_number, eq_from, by_test, or_second, not_true}
use Rattle.law_base.proofs.Keeping.{replay_keeps}
use Rattle.law_base.proofs.Walks.{perform_walk}
use Rattle.law_base.proofs.Growing.{AreFew, replay_grows, replay_few, replay_more_blocks, replay_cases}
use Rattle.law_base.proofs.Later.{replay_owned}
use Rattle.law_base.proofs.Doubts.{doubt_stays}
use Rattle.law_base.proofs.Growth.{Outgrows, volatile_stays, placed_stays}
use Rattle.law_invariant.proofs.Journals.{IsKept, is_journal, kept_journal, kept_not_blank, extended_kept}
use Rattle.law_invariant.proofs.Volatiles.{nothing_kept}

-- The world with more octets drawn by node v, and otherwise unchanged.
abbrev pub with_drawn : World → ℕ → ℕ → World
with_drawn w v octets = record w { drawn = number_set w.drawn v (w.drawn v + octets) }

-- The fact is in the table, or its bytes were drawn.
abbrev pub IsDrawnOrReceived : Network → World → ℕ → ℕ → Fact → Type 0
IsDrawnOrReceived net w v octets f = (fact_at w.durable.facts (name_of f) ≡ Some f) ⊎ IsDrawn net (with_drawn w v octets) f

-- The effect may take place: its batch is permitted, its orders fit and may be carried, and the memory that it leaves
-- is consistent with the world after it.
pub record MayTake (net : Network) (w : World) (v octets : ℕ) (e : Effect) : Type 0 where
  pub batch : MayReplay net.site w.durable v e.batch
  pub orders : Invariant net.site (replay net.site v e.batch w.durable) w.frames w.unclaimed →
      Invariant net.site (replay net.site v e.batch w.durable) w.frames (with_orders e.orders w.unclaimed)
  pub posted : (l : Lane) → IsPosted l (with_orders e.orders w.unclaimed l) (with_repeats e.repeats w.frames w.outgoing l)
  pub wired : (l : Lane) → IsWired (w.frames l) (w.wire l) (with_repeats e.repeats w.frames w.outgoing l)
  pub volatile : IsVolatile net (commit net.site w v octets e) v e.volatile
  pub drawn : (n : ℕ) (f : Fact) → slice_get e.batch n ≡ Some (Learned f) → is_secret f ≡ true → IsDrawnOrReceived net w v octets f

pub drawn_more : (w : World) (v octets u : ℕ) → w.drawn u ≤ (with_drawn w v octets).drawn u
drawn_more w v octets u = by_number (λ k t. w.drawn k ≤ (if t then w.drawn v + octets else w.drawn k)) v (omega arith) (λ k ne. omega arith) u

pub drawn_later : (net : Network) (w w' : World) (f : Fact) → w.drawn (origin f) ≤ w'.drawn (origin f) → IsDrawn net w f → IsDrawn net w' f
drawn_later net w w' f more x = record { place = x.place; bytes = x.bytes; within = omega (arith, x.within, more) }

-- Two numbers are equal or different.
pub apart_cases : (u v : ℕ) → (u ≡ v) ⊎ (u ≢ v)
apart_cases u v = elim (u == v) as (λ t. (u == v) ≡ t → (u ≡ v) ⊎ (u ≢ v)) [
  | true ↦ λ e. inl (eq_from u v e)
  | false ↦ λ e. inr (λ p. let yes : (u == v) ≡ true = grind (arith, nat_tests) in cc)
] refl

-- Lanes, wires, facts and knowledge only grow.
pub commit_more : (net : Network) (w : World) (v octets : ℕ) (e : Effect) → Outgrows w (commit net.site w v octets e)
unfolding commit
commit_more net w v octets e =
    let grown = replay_grows net.site v e.batch w.durable in
    let more = replay_more_blocks net.site v e.batch w.durable in
    record { facts = grown.facts; known = grown.known; blocks = more; frames = λ l j a h. h; wire = λ l n j h. h }

module _ (net : Network) (w : World) (network : IsNetwork net) (c : Conserved net w) (v : ℕ) (up : w.up v ≡ true) (octets : ℕ) (e : Effect)
    (may : MayTake net w v octets e) where
  abbrev durable' : Durable
  durable' = replay net.site v e.batch w.durable

  -- The number of octets that the batch adds to the journal.
  abbrev added : ℕ
  added = added_len (w.journal v).version e.batch

  journal_kept : IsKept (w.journal v)
  journal_kept = kept_journal (w.journal v) (c.journals v) (c.started v up)

  drawn_one : (w' : World) → ((u : ℕ) → w'.drawn u ≡ (with_drawn w v octets).drawn u) → (f : Fact) → is_secret f ≡ true → IsDrawnOrReceived net w v octets f → IsDrawn net w' f
  drawn_one w' same f secret h = elim h [
    | inl came ↦ drawn_later net w w' f (let a = drawn_more w v octets (origin f) in let b = same (origin f) in omega (arith, a, b)) (c.drawn.table (name_of f) f came secret)
    | inr new ↦ drawn_later net (with_drawn w v octets) w' f (let b = same (origin f) in omega (arith, b)) new
  ]

  committed_drawn : AreDrawn net (commit net.site w v octets e)
  unfolding commit
  committed_drawn =
      record {
        table = λ n f there secret. elim (replay_cases net.site v e.batch w.durable may.batch n f there) [
          | inl old ↦ drawn_later net w _ f (drawn_more w v octets (origin f)) (c.drawn.table n f old secret)
          | inr (k, at) ↦ drawn_one _ (λ u. refl) f secret (may.drawn k f at secret)
        ];
        doubts = λ u n f at secret. drawn_later net w _ f (drawn_more w v octets (origin f)) (c.drawn.doubts u n f at secret);
      }

  nothing_in_doubt : (d : Durable) → MayReplay net.site d v (w.in_doubt v).batch
  nothing_in_doubt d = subst (λ (x : InDoubt). MayReplay net.site d v x.batch) (sym (c.doubtful v up)) tt

  commit_keeps : (w.journal v).length' + added ≤ journal_limit → Conserved net (commit net.site w v octets e)
  unfolding commit
  commit_keeps fits =
      let few : AreFew durable' = replay_few net.site v e.batch w.durable may.batch c.few_blocks in
      let kept : IsKept (extended (w.journal v) added) = extended_kept (w.journal v) added journal_kept fits in
      record {
        now = may.orders (replay_keeps net.site w.durable w.frames w.unclaimed c.now v e.batch may.batch);
        doubts = λ u. elim (apart_cases u v) [
          | inl is ↦ subst (λ (x : ℕ). MayReplay net.site durable' x (w.in_doubt x).batch) (sym is) (nothing_in_doubt durable')
          | inr apart ↦ doubt_stays net.site w.durable w.frames w.unclaimed c.now u v apart e.batch (w.in_doubt u).batch may.batch (c.doubts u)
        ];
        doubtful = c.doubtful;
        resting = by_number (λ u t. w.up u ≡ false → (if t then e.volatile else w.volatile u) ≡ no_volatile) v (λ h. absurd (cc)) (λ u ne. c.resting u);
        volatile = by_number (λ u t. IsVolatile net (commit net.site w v octets e) u (if t then e.volatile else w.volatile u)) v may.volatile
            (λ u ne. volatile_stays net w network c (commit net.site w v octets e) (commit_more net w v octets e) u (w.volatile u) (c.volatile u));
        placed = λ u n p at. placed_stays net w network c (commit net.site w v octets e) (commit_more net w v octets e) u p (c.placed u n p at);
        posted = may.posted;
        wired = may.wired;
        journals = by_number (λ u t. IsJournal (if t then extended (w.journal v) added else w.journal u)) v (is_journal _ kept) (λ u ne. c.journals u);
        started = by_number (λ u t. w.up u ≡ true → is_blank (if t then extended (w.journal v) added else w.journal u) ≡ false) v
            (λ h. kept_not_blank _ kept) (λ u ne. c.started u);
        doubt_room = by_number (λ u t. HasRoomFor (if t then extended (w.journal v) added else w.journal u) (w.in_doubt u)) v
            (subst (λ (x : InDoubt). HasRoomFor (extended (w.journal v) added) x) (sym (c.doubtful v up)) (λ h. omega (arith, fits))) (λ u ne. c.doubt_room u);
        drawn = committed_drawn;
        few_blocks = few;
        recovered = λ l. omega (arith, c.recovered l, replay_owned net.site v e.batch w.durable w.frames w.unclaimed c.now may.batch l);
      }

  stopped_more : Outgrows w (stopped w v octets e)
  unfolding stopped
  stopped_more =
      record { facts = λ n f h. h; known = λ u n h. h; blocks = λ l. omega arith; frames = λ l j a h. h; wire = λ l n j h. h }

  abbrev doubt : InDoubt
  doubt = record { batch = e.batch; checkpointed = None }

  stopped_drawn : AreDrawn net (stopped w v octets e)
  unfolding stopped
  stopped_drawn =
      record {
        table = λ n f there secret. drawn_later net w _ f (drawn_more w v octets (origin f)) (c.drawn.table n f there secret);
        doubts = by_number (λ u t. (n : ℕ) (f : Fact) → slice_get (if t then doubt else w.in_doubt u).batch n ≡ Some (Learned f) → is_secret f ≡ true →
            IsDrawn net (stopped w v octets e) f) v (λ n f at secret. drawn_one _ (λ u. refl) f secret (may.drawn n f at secret))
            (λ u ne n f at secret. drawn_later net w _ f (drawn_more w v octets (origin f)) (c.drawn.doubts u n f at secret));
      }

  stopped_keeps : (w.journal v).length' + added ≤ journal_limit → Conserved net (stopped w v octets e)
  unfolding stopped
  stopped_keeps fits =
      record {
        now = c.now;
        doubts = by_number (λ u t. MayReplay net.site w.durable u (if t then doubt else w.in_doubt u).batch) v may.batch (λ u ne. c.doubts u);
        doubtful = by_number (λ u t. (if t then false else w.up u) ≡ true → (if t then doubt else w.in_doubt u) ≡ no_doubt) v (λ h. absurd (cc)) (λ u ne. c.doubtful u);
        resting = by_number (λ u t. (if t then false else w.up u) ≡ false → (if t then no_volatile else w.volatile u) ≡ no_volatile) v (λ h. refl) (λ u ne. c.resting u);
        volatile = by_number (λ u t. IsVolatile net (stopped w v octets e) u (if t then no_volatile else w.volatile u)) v (nothing_kept net _ v)
            (λ u ne. volatile_stays net w network c (stopped w v octets e) stopped_more u (w.volatile u) (c.volatile u));
        placed = λ u n p at. placed_stays net w network c (stopped w v octets e) stopped_more u p (c.placed u n p at);
        posted = c.posted;
        wired = c.wired;
        journals = c.journals;
        started = by_number (λ u t. (if t then false else w.up u) ≡ true → is_blank (w.journal u) ≡ false) v (λ h. absurd (cc)) (λ u ne. c.started u);
        doubt_room = by_number (λ u t. HasRoomFor (w.journal u) (if t then doubt else w.in_doubt u)) v (λ h. fits) (λ u ne. c.doubt_room u);
        drawn = stopped_drawn;
        few_blocks = c.few_blocks;
        recovered = c.recovered;
      }

-- The conserved properties hold whatever the outside answers.
pub perform_keeps : (net : Network) (w : World) → IsNetwork net → Conserved net w → (v : ℕ) → w.up v ≡ true → (octets : ℕ) (environment : Environment) (e : Effect) →
    (list_all is_numbered e.batch ≡ true → MayTake net w v octets e) → Conserved net (perform net w v octets environment e).0
perform_keeps net w network c v up octets environment e may =
    perform_walk net w (Conserved net) c v octets environment e
    (λ numbered fits. stopped_keeps net w network c v up octets e (may numbered) fits)
    (λ numbered fits. commit_keeps net w network c v up octets e (may numbered) fits)
