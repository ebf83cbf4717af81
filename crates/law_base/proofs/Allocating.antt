-- Giving an order the next bytes of its lane keeps the conserved properties.
use Rattle.std.proofs.Common.{◌≡◌, ℕ, zero, suc, ◌+◌, ◌<◌, ◌≤◌, Bool, true, false, ◌&&◌, List, [], ◌∷◌, ◌++◌, length, refl, sym, ◌∙◌, ap, subst, arith, Some, inl, inr, replicate, length-append}
use Rattle.std.specs.Prelude.{◌==◌, nat_lt, nat_le, slice_get, if◌then◌else◌}
use Rattle.std.proofs.lemmas.List.{length-replicate}
use Rattle.std.proofs.lemmas.Bool.Decides.{nat_tests}
use Rattle.std.proofs.lemmas.Option.{slice_get_past}
use Rattle.qkd_base.specs.declared.lane.Lane.{Lane}
use Rattle.net_model.specs.declared.fact.Fact.{Fact}
use Rattle.net_model.specs.declared.record.Record.{Record}
use Rattle.net_model.specs.declared.record.Record.TheVariants.{Block, Lease, Learned, Acked, Handed, Closed, Bare}
use Rattle.net_model.specs.Item.{Item, need}
use Rattle.net_model.specs.Site.{Site, sender, receiver, outgoing_lane}
use Rattle.net_model.specs.World.{Network, World, Durable, Allocation, Transmission, Outgoing, Owner, Frame, received}
use Rattle.net_model.specs.Records.{block_taken, apply_record}
use Rattle.net_model.specs.Ownership.{is_frame, is_key, covers, IsOwned, HasRoom, IsWired}
use Rattle.net_model.specs.Knowledge.{MayCarry, IsCarried}
use Rattle.net_model.specs.Doubt.{MayReplay}
use Rattle.net_model.specs.Events.{is_lane}
use Rattle.net_model.specs.Windows.{IsShaped, IsPosted}
use Rattle.net_model.specs.Invariant.{Conserved, Invariant}
use Rattle.net_model.specs.Premises.{IsNetwork}
use Rattle.net_model.specs.Action.{Allocate}
use Rattle.net_model.specs.Frames.{allocate, is_unclaimed, without}
use Rattle.net_model.specs.Step.{is_enabled}
use Rattle.law_base.proofs.Base.{get_cases, by_lane, and_right}
use Rattle.law_base.proofs.Lists.{get_prefix, get_last, last_cases, order_at, needs-without, order_before}
use Rattle.law_base.proofs.Growth.{Outgrows, volatile_stays, placed_stays, drawn_stays}

-- The next bytes belong to this frame, and nothing else changes.

less_suc : (m n : ℕ) → nat_lt m n ≡ nat_lt (suc m) (suc n)
less_suc m n = grind (arith, nat_tests)

is_frame-replicate : (j k n m : ℕ) → is_frame j (slice_get (replicate n (Frame k)) m) ≡ (nat_lt m n && (k == j))
is_frame-replicate j k zero m = grind (arith, nat_tests)
is_frame-replicate j k (suc n) zero = grind (arith, nat_tests)
is_frame-replicate j k (suc n) (suc m) = is_frame-replicate j k n m ∙ ap (λ b. b && (k == j)) (less_suc m n)

is_key-replicate : (k n m : ℕ) → is_key (slice_get (replicate n (Frame k)) m) ≡ false
is_key-replicate k zero m = refl
is_key-replicate k (suc n) zero = refl
is_key-replicate k (suc n) (suc m) = is_key-replicate k n m

below : (a n x : ℕ) → x < a → false ≡ (nat_le a x && nat_lt x (a + n))
below a n x h = grind (arith, nat_tests)

inside : (a n m j k x : ℕ) → x ≡ a + m → j ≡ k → (nat_lt m n && (k == j)) ≡ (nat_le a x && nat_lt x (a + n))
inside a n m j k x at same = grind (arith, nat_tests)

other : (b : Bool) (j k : ℕ) → (j ≡ k → ⊥) → (b && (k == j)) ≡ false
other true j k h = grind (arith, nat_tests)
other false j k h = refl

no_key : (x got : ℕ) → (0 < got → 8 ≤ x) → false ≡ (nat_lt x 8 && nat_lt 0 got)
no_key x zero h = grind (arith, nat_tests)
no_key x (suc got) h = let le : 8 ≤ x = h (omega arith) in grind (arith, nat_tests)

module _ (facts : List Fact) (own : List Owner) (frames : List Allocation) (got : ℕ) (o : IsOwned facts own frames got) where
  no_frame : (x j : ℕ) → length frames ≤ j → is_frame j (slice_get own x) ≡ false
  no_frame x j h = o.frame x j ∙ ap (λ c. covers facts c x) (slice_get_past frames j h)

  pub no_cover : (x j : ℕ) → length own ≤ x → covers facts (slice_get frames j) x ≡ false
  no_cover x j h = sym (o.frame x j) ∙ ap (is_frame j) (slice_get_past own x h)

  module _ (item : Item) where
    abbrev next : Allocation
    next = record { offset = length own; item = item }

    abbrev more : List Owner
    more = replicate (need facts item) (Frame (length frames))

    frame_claimed : (x j : ℕ) → is_frame j (slice_get (own ++ more) x) ≡ covers facts (slice_get (frames ++ next ∷ []) j) x
    frame_claimed x j =
        elim (get_cases own more x) [
          | inl (within, same) ↦ elim (get_cases frames (next ∷ []) j) [
            | inl (earlier, there) ↦ rw (same, there) (o.frame x j)
            | inr (zero, is, there) ↦ rw (same, there, no_frame x j (omega arith)) (below (length own) (need facts item) x within)
            | inr (suc k, is, there) ↦ rw (same, there) (no_frame x j (omega arith))
          ]
          | inr (m, at, same) ↦ elim (get_cases frames (next ∷ []) j) [
            | inl (earlier, there) ↦ rw (same, there, no_cover x j (omega arith), is_frame-replicate) (other _ j (length frames) (λ e. omega arith))
            | inr (zero, is, there) ↦ rw (same, there, is_frame-replicate) (inside (length own) (need facts item) m j (length frames) x at (omega arith))
            | inr (suc k, is, there) ↦ rw (same, there, is_frame-replicate) (other _ j (length frames) (λ e. omega arith))
          ]
        ]

    key_kept : (x : ℕ) → is_key (slice_get (own ++ more) x) ≡ (nat_lt x 8 && nat_lt 0 got)
    key_kept x = elim (get_cases own more x) [
      | inl (within, same) ↦ ap is_key same ∙ o.key x
      | inr (m, at, same) ↦ ap is_key same ∙ is_key-replicate (length frames) (need facts item) m ∙
          no_key x got (λ some. let le = o.reach some in omega arith)
    ]

    pub owned_claimed : IsOwned facts (own ++ more) (frames ++ next ∷ []) got
    owned_claimed = record { frame = frame_claimed; key = key_kept; reach = λ some. omega (arith, o.reach some, length-append own more) }

-- Whether a batch may be replayed doesn't depend on who owns which bytes.

taken_aside : (l : Lane) (x : Durable) (own : Lane → List Owner) → block_taken l (record x { own = own }) ≡
    record (block_taken l x) { own = (block_taken l (record x { own = own })).own }
unfolding block_taken
taken_aside l x own = refl

pub may_own : (s : Site) (v : ℕ) (rs : List Record) (d : Durable) (own : Lane → List Owner) → MayReplay s d v rs → MayReplay s (record d { own = own }) v rs
unfolding apply_record
may_own s v [] d own h = tt
may_own s v (Block link number bytes ∷ rs) d own h =
    let d' : Durable = block_taken (outgoing_lane s v link) d in
    (h.0, subst (λ (x : Durable). MayReplay s x v rs) (sym (taken_aside (outgoing_lane s v link) d own)) (may_own s v rs d' _ h.1))
may_own s v (Lease lane end ∷ rs) d own h = (h.0, may_own s v rs (apply_record s v (Lease lane end) d) own h.1)
may_own s v (Learned f ∷ rs) d own h = (h.0, may_own s v rs (apply_record s v (Learned f) d) own h.1)
may_own s v (Acked n ∷ rs) d own h = (h.0, may_own s v rs (apply_record s v (Acked n) d) own h.1)
may_own s v (Handed n sae ∷ rs) d own h = (h.0, may_own s v rs (apply_record s v (Handed n sae) d) own h.1)
may_own s v (Closed n sae ∷ rs) d own h = (h.0, may_own s v rs (apply_record s v (Closed n sae) d) own h.1)
may_own s v (Bare f ∷ rs) d own h = absurd h.0

module _ (net : Network) (w : World) (t : Transmission) (c : Conserved net w) (there : is_unclaimed w t ≡ true) where
  abbrev l : Lane
  l = t.lane

  abbrev facts : List Fact
  facts = w.durable.facts

  abbrev new : Allocation
  new = record { offset = length (w.durable.own l); item = t.item }

  abbrev claimed : List Owner
  claimed = replicate (need facts t.item) (Frame (length (w.frames l)))

  ordered : (k : ℕ) × (slice_get (w.unclaimed l) k ≡ Some t)
  ordered = order_at t (w.unclaimed l) there

  abbrev own' : Lane → Bool → List Owner
  own' k b = if b then w.durable.own l ++ claimed else w.durable.own k

  abbrev frames' : Lane → Bool → List Allocation
  frames' k b = if b then w.frames l ++ new ∷ [] else w.frames k

  abbrev unclaimed' : Lane → Bool → List Transmission
  unclaimed' k b = if b then without t (w.unclaimed l) else w.unclaimed k

  abbrev outgoing' : Lane → Bool → List Outgoing
  outgoing' k b = if b then w.outgoing l ++ record { frame = length (w.frames l); transmission = t; fresh = true } ∷ [] else w.outgoing k

  allocated_now : Invariant net.site ((allocate w t).0).durable ((allocate w t).0).frames ((allocate w t).0).unclaimed
  unfolding allocate
  allocated_now = record {
    owned = by_lane (λ k b. IsOwned facts (own' k b) (frames' k b) (received w.durable k)) l
        (owned_claimed facts (w.durable.own l) (w.frames l) (received w.durable l) (c.now.owned l) t.item) c.now.owned;
    room = by_lane (λ k b. HasRoom facts (own' k b) (unclaimed' k b) (w.durable.lease k) (received w.durable k)) l
        (record {
          planned = omega (arith, (c.now.room l).planned, needs-without facts t (w.unclaimed l) there, length-append (w.durable.own l) claimed, length-replicate (need facts t.item) (Frame (length (w.frames l))));
          leased = (c.now.room l).leased;
        })
        c.now.room;
    table = c.now.table;
    streams = c.now.streams;
    groups = c.now.groups;
    knowledge = c.now.knowledge;
    carried = by_lane (λ k b. IsCarried facts w.durable.known (sender net.site k) (receiver net.site k) (frames' k b) (unclaimed' k b)) l
        (record {
          framed = λ j a h. elim (last_cases (w.frames l) new j a h) [
            | inl old ↦ (c.now.carried l).framed j a old
            | inr (at, is) ↦ subst (λ (x : Allocation). MayCarry facts w.durable.known (sender net.site l) (receiver net.site l) x.item) is ((c.now.carried l).wanted ordered.0 t ordered.1)
          ];
          wanted = λ j x h. let r = order_before t (w.unclaimed l) x j h in (c.now.carried l).wanted r.0 x r.1;
        })
        c.now.carried;
    marked = c.now.marked;
    stored = c.now.stored;
    handings = c.now.handings;
  }

  allocated_more : Outgrows w (allocate w t).0
  unfolding allocate
  allocated_more = record {
    facts = λ n f h. h;
    known = λ u n h. h;
    blocks = λ k. omega arith;
    frames = by_lane (λ k b. (j : ℕ) (a : Allocation) → slice_get (w.frames k) j ≡ Some a → slice_get (frames' k b) j ≡ Some a) l
        (λ j a h. get_prefix (w.frames l) (new ∷ []) j a h) (λ k j a h. h);
    wire = λ k n j h. h;
  }

  allocated_keeps : IsNetwork net → Conserved net (allocate w t).0
  unfolding allocate
  allocated_keeps network = record {
    now = allocated_now;
    doubts = λ v. may_own net.site v (w.in_doubt v).batch w.durable _ (c.doubts v);
    doubtful = c.doubtful;
    resting = c.resting;
    volatile = λ v. volatile_stays net w network c _ allocated_more v (w.volatile v) (c.volatile v);
    placed = λ v n p h. placed_stays net w network c _ allocated_more v p (c.placed v n p h);
    posted = by_lane (λ k b. IsPosted k (unclaimed' k b) (outgoing' k b)) l
        (record {
          ordered = λ n x h. let r = order_before t (w.unclaimed l) x n h in (c.posted l).ordered r.0 x r.1;
          put = λ n o h. elim (last_cases (w.outgoing l) _ n o h) [
            | inl old ↦ (c.posted l).put n o old
            | inr (at, is) ↦ subst (λ (x : Outgoing). (x.transmission.lane ≡ l) × IsShaped x.transmission) is (refl, ((c.posted l).ordered ordered.0 t ordered.1).1)
          ];
        })
        c.posted;
    wired = by_lane (λ k b. IsWired (frames' k b) (w.wire k) (outgoing' k b)) l
        (record {
          wired = λ n j h. omega (arith, (c.wired l).wired n j h, length-append (w.frames l) (new ∷ []));
          put = λ n o h. elim (last_cases (w.outgoing l) _ n o h) [
            | inl old ↦ let r = (c.wired l).put n o old in (r.0, get_prefix (w.frames l) (new ∷ []) o.frame r.0 r.1, r.2)
            | inr (at, is) ↦ subst (λ (x : Outgoing). (a : Allocation) × (slice_get (w.frames l ++ new ∷ []) x.frame ≡ Some a) × (a.item ≡ x.transmission.item)) is (new, get_last (w.frames l) new, refl)
          ];
        })
        c.wired;
    journals = c.journals;
    started = c.started;
    doubt_room = c.doubt_room;
    drawn = drawn_stays net w _ (λ n f h. h) refl (λ v. omega arith) c.drawn;
    few_blocks = c.few_blocks;
    recovered = by_lane (λ k b. w.recovered k ≤ length (own' k b)) l (omega (arith, c.recovered l, length-append (w.durable.own l) claimed)) c.recovered;
  }

-- An allocation that is enabled keeps the conserved properties.
pub allocate_keeps : (net : Network) (w : World) (t : Transmission) → IsNetwork net → is_enabled net w (Allocate t) ≡ true → Conserved net w → Conserved net (allocate w t).0
unfolding is_enabled
allocate_keeps net w t network h c = allocated_keeps net w t c (and_right (is_lane net.site t.lane) (is_unclaimed w t) h) network
