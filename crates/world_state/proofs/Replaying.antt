-- A lane with all the blocks that a batch of its sender brings.
use Rattle.std.proofs.Common.{◌≡◌, ℕ, ◌+◌, ◌-◌, ◌≤◌, Bool, true, false, ◌&&◌, List, [], ◌∷◌, length, replicate, refl, sym, ap, subst, ◌∙◌, arith, Some}
use Rattle.std.specs.Prelude.{◌==◌, nat_lt, slice_get, count_by, if◌then◌else◌}
use Rattle.std.proofs.lemmas.Bool.Decides.{nat_tests}
use Rattle.qkd_base.specs.Lane.{lane_eq}
use Rattle.qkd_base.specs.Family.{lane_set}
use Rattle.qkd_base.specs.LaneBytes.{lane_len}
use Rattle.qkd_base.specs.declared.lane.Way.{Way}
use Rattle.qkd_base.specs.declared.lane.Way.TheVariants.{Up, Down}
use Rattle.qkd_base.specs.declared.lane.Lane.{Lane}
use Rattle.net_model.specs.declared.record.Record.{Record}
use Rattle.net_model.specs.declared.record.Record.TheVariants.{Block, Lease, Learned, Acked, Handed, Closed, Bare}
use Rattle.net_model.specs.Ledger.{is_burnt}
use Rattle.net_model.specs.Site.{Site, outgoing_lane}
use Rattle.net_model.specs.World.{Network, World, Durable, Owner, HashKey, Allocation, received}
use Rattle.net_model.specs.Records.{is_first, keyed_own, keyed_lease, apply_record, replay, block_taken}
use Rattle.net_model.specs.Doubt.{MayApply, MayReplay}
use Rattle.net_model.specs.Frames.{octets_sent}
use Rattle.net_model.specs.Events.{is_lane}
use Rattle.pad_ledger.specs.Ledger.{Ledger, received_more}
use Rattle.lane_sender.specs.Lane.{LaneForm}
use Rattle.law_base.proofs.Base.{eq_from, when_true, when_false, lane_eq_from}
use Rattle.law_base.proofs.Grow.{Grows}
use Rattle.law_base.proofs.Growing.{replay_grows}
use Rattle.law_base.proofs.LaneBlocks.{lane_length}
use Rattle.law_base.proofs.Lists.{lane_set_same}
use Rattle.world_nodes.specs.LaneStands.{IsRunning, LaneStands}
use Rattle.world_nodes.specs.Going.{IsReplayed}
use Rattle.world_nodes.proofs.LaneGoing.{octets_kept}
use Rattle.world_nodes.proofs.Wires.{wire_kept}
use Rattle.world_state.specs.Starting.{ledger_at, refilled}
use Rattle.source_devices.specs.declared.wire.Wire as Wire

-- A batch brings a lane blocks or none; the first block brings its hash key. It doesn't lower the lane's lease.
pub record Gains (d d' : Durable) (l : Lane) : Type 0 where
  pub blocks : d.blocks l ≤ d'.blocks l
  pub own : d'.own l ≡ keyed_own (received d l) (received d' l) (d.own l)
  pub lease : keyed_lease (received d l) (received d' l) (d.lease l) ≤ d'.lease l

not_first : (b c : ℕ) → c ≡ b → is_first b c ≡ false
not_first b c same = grind (arith, nat_tests)

len_grows : (way : Way) (a b : ℕ) → a ≤ b → lane_len way a ≤ lane_len way b
len_grows Up a b h = omega (arith, h)
len_grows Down a b h = omega (arith, h)

pub gains_none : (d d' : Durable) (l : Lane) → d'.blocks l ≡ d.blocks l → d'.own l ≡ d.own l → d.lease l ≤ d'.lease l → Gains d d' l
gains_none d d' l blocks own lease =
    let same : is_first (received d l) (received d' l) ≡ false = not_first (received d l) (received d' l) (ap (lane_len l.way) blocks) in
    record {
      blocks = omega (arith, blocks);
      own = own ∙ sym (when_false (is_first (received d l) (received d' l)) _ _ same);
      lease = subst (λ (n : ℕ). n ≤ d'.lease l) (sym (when_false (is_first (received d l) (received d' l)) 8 (d.lease l) same)) lease;
    }

-- If a count rises from zero in one of two steps, it rises from zero over both.

first_both : (a b c : ℕ) → a ≤ b → b ≤ c → is_first b c ≡ true → is_first a c ≡ true
first_both a b c h k e = grind (arith, nat_tests)

first_before : (a b c : ℕ) → a ≤ b → b ≤ c → is_first a b ≡ true → is_first a c ≡ true
first_before a b c h k e = grind (arith, nat_tests)

first_never : (a b c : ℕ) → a ≤ b → b ≤ c → is_first a b ≡ false → is_first b c ≡ false → is_first a c ≡ false
first_never a b c h k e f = grind (arith, nat_tests)

keyed_both : {A : Type 0} (a b c : ℕ) (x y : A) → a ≤ b → b ≤ c → (if is_first b c then x else (if is_first a b then x else y)) ≡ (if is_first a c then x else y)
keyed_both a b c x y h k = elim (is_first b c) as (λ t. is_first b c ≡ t → (if t then x else (if is_first a b then x else y)) ≡ (if is_first a c then x else y)) [
  | true ↦ λ e. sym (when_true (is_first a c) x y (first_both a b c h k e))
  | false ↦ λ e.
      (elim (is_first a b) as (λ t. is_first a b ≡ t → (if t then x else y) ≡ (if is_first a c then x else y)) [
        | true ↦ λ f. sym (when_true (is_first a c) x y (first_before a b c h k f))
        | false ↦ λ f. sym (when_false (is_first a c) x y (first_never a b c h k f e))
      ] refl)
] refl

keyed_less : (t : Bool) (a b : ℕ) → a ≤ b → (if t then 8 else a) ≤ (if t then 8 else b)
keyed_less true a b h = omega arith
keyed_less false a b h = h

least : (a b c : ℕ) → a ≤ b → b ≤ c → a ≤ c
least a b c h k = omega (arith, h, k)

pub gains_more : (a b c : Durable) (l : Lane) → Gains a b l → Gains b c l → Gains a c l
gains_more a b c l h k =
    let one = len_grows l.way (a.blocks l) (b.blocks l) h.blocks in
    let two = len_grows l.way (b.blocks l) (c.blocks l) k.blocks in
    record {
      blocks = omega (arith, h.blocks, k.blocks);
      own = k.own ∙ ap (keyed_own (received b l) (received c l)) h.own ∙ keyed_both (received a l) (received b l) (received c l) (replicate 8 HashKey) (a.own l) one two;
      lease = subst (λ (n : ℕ). n ≤ c.lease l) (keyed_both (received a l) (received b l) (received c l) 8 (a.lease l) one two)
          (least _ _ _ (keyed_less (is_first (received b l) (received c l)) _ (b.lease l) h.lease) k.lease);
    }

-- records

taken_here : (l : Lane) (d : Durable) → Gains d (block_taken l d) l
unfolding block_taken
taken_here l d =
    let more : (block_taken l d).blocks l ≡ d.blocks l + 1 = lane_set_same d.blocks l (d.blocks l + 1) in
    record {
      blocks = omega (arith, more);
      own = lane_set_same d.own l _ ∙ ap (λ (n : ℕ). keyed_own (received d l) (lane_len l.way n) (d.own l)) (sym more);
      lease = let is = lane_set_same d.lease l (keyed_lease (received d l) (lane_len l.way (d.blocks l + 1)) (d.lease l)) in
          let as_is = ap (λ (n : ℕ). keyed_lease (received d l) (lane_len l.way n) (d.lease l)) more in omega (arith, is, as_is);
    }

taken_gains : (k : Lane) (d : Durable) (l : Lane) → Gains d (block_taken k d) l
unfolding block_taken
taken_gains k d l = elim (lane_eq l k) as (λ t. lane_eq l k ≡ t → Gains d (block_taken k d) l) [
  | true ↦ λ e. subst (λ (m : Lane). Gains d (block_taken m d) l) (lane_eq_from l k e) (taken_here l d)
  | false ↦ λ e.
      let lease = when_false (lane_eq l k) (keyed_lease (lane_len k.way (d.blocks k)) (lane_len k.way (d.blocks k + 1)) (d.lease k)) (d.lease l) e in
      gains_none d (block_taken k d) l (when_false (lane_eq l k) _ _ e) (when_false (lane_eq l k) _ _ e) (omega (arith, lease))
] refl

leased : (k : Lane) (end : ℕ) (d : Durable) (l : Lane) → d.lease k ≤ end → d.lease l ≤ lane_set d.lease k end l
leased k end d l le = elim (lane_eq l k) as (λ t. lane_eq l k ≡ t → d.lease l ≤ (if t then end else d.lease l)) [
  | true ↦ λ e. let same = ap d.lease (lane_eq_from l k e) in omega (arith, same, le)
  | false ↦ λ e. omega arith
] refl

apply_gains : (s : Site) (v : ℕ) (r : Record) (d : Durable) (l : Lane) → MayApply s d v r → Gains d (apply_record s v r d) l
unfolding apply_record
apply_gains s v (Block link number bytes) d l may = taken_gains (outgoing_lane s v link) d l
apply_gains s v (Lease k end) d l may = gains_none d (record d { lease = lane_set d.lease k end }) l refl refl (leased k end d l may.1)
apply_gains s v (Learned f) d l may = gains_none d (apply_record s v (Learned f) d) l refl refl (omega arith)
apply_gains s v (Acked n) d l may = gains_none d (apply_record s v (Acked n) d) l refl refl (omega arith)
apply_gains s v (Handed n sae) d l may = gains_none d (apply_record s v (Handed n sae) d) l refl refl (omega arith)
apply_gains s v (Closed n sae) d l may = gains_none d (apply_record s v (Closed n sae) d) l refl refl (omega arith)
apply_gains s v (Bare f) d l may = gains_none d (apply_record s v (Bare f) d) l refl refl (omega arith)

replay_gains : (s : Site) (v : ℕ) (batch : List Record) (d : Durable) (l : Lane) → MayReplay s d v batch → Gains d (replay s v batch d) l
unfolding replay
replay_gains s v [] d l may = gains_none d d l refl refl (omega arith)
replay_gains s v (r ∷ batch) d l may =
    gains_more d (apply_record s v r d) (replay s v batch (apply_record s v r d)) l (apply_gains s v r d l may.0) (replay_gains s v batch (apply_record s v r d) l may.1)

-- the ledger

pub record Counts (g : Ledger) (n : ℕ) (own : List Owner) (lease : ℕ) : Type 0 where
  pub got : g.received ≡ n
  pub used : g.used ≡ length own
  pub burnt : g.burnt ≡ count_by is_burnt own
  pub end : g.end ≤ lease

none_of_none : (own : List Owner) → length own ≤ 0 → count_by is_burnt own ≡ 0
none_of_none [] h = refl
none_of_none (x ∷ own) h = absurd (omega arith)

later_first : (r n : ℕ) → r ≤ n → (r == n) ≡ false → (r == 0) ≡ true → is_first r n ≡ true
later_first r n h other none = grind (arith, nat_tests)

later_next : (r n : ℕ) → (r == 0) ≡ false → is_first r n ≡ false
later_next r n some = ap (λ (t : Bool). t && nat_lt 0 n) some

abbrev Keyed : Ledger → Ledger → ℕ → List Owner → ℕ → Type 0
Keyed g g' n own lease = Counts g' n (keyed_own g.received n own) (keyed_lease g.received n lease)

keyed_by : (g g' : Ledger) (n : ℕ) (own : List Owner) (lease : ℕ) (t : Bool) → is_first g.received n ≡ t → Counts g' n (if t then replicate 8 HashKey else own) (if t then 8 else lease) → Keyed g g' n own lease
keyed_by g g' n own lease t e h = subst (λ (b : Bool). Counts g' n (if b then replicate 8 HashKey else own) (if b then 8 else lease)) (sym e) h

counts_at : (g : Ledger) (n : ℕ) (own : List Owner) (lease : ℕ) → g.received ≤ n → Counts g g.received own lease → length own ≤ g.received → Keyed g (ledger_at n g) n own lease
counts_at g n own lease below c few = elim (g.received == n) as (λ t. (g.received == n) ≡ t → Keyed g (if t then g else received_more g (n - g.received)) n own lease) [
  | true ↦ λ e.
      let same : g.received ≡ n = eq_from g.received n e in
      keyed_by g g n own lease false (not_first g.received n (sym same)) (record { got = same; used = c.used; burnt = c.burnt; end = c.end })
  | false ↦ λ e.
      (elim (g.received == 0) as (λ t. (g.received == 0) ≡ t →
      Keyed g (if t then record { used = 8; end = 8; received = n - g.received; burnt = g.burnt } else record g { received = g.received + (n - g.received) }) n own lease) [
        | true ↦ λ f.
            let none : g.received ≡ 0 = eq_from g.received 0 f in
            keyed_by g (record { used = 8; end = 8; received = n - g.received; burnt = g.burnt }) n own lease true (later_first g.received n below e f)
            (record { got = omega (arith, none); used = refl; burnt = c.burnt ∙ none_of_none own (omega (arith, few, none)); end = omega arith })
        | false ↦ λ f.
            keyed_by g (record g { received = g.received + (n - g.received) }) n own lease false (later_next g.received n f)
            (record { got = omega (arith, below); used = c.used; burnt = c.burnt; end = c.end })
      ] refl)
] refl

-- the lane in a world where the batch is durable

module _ {X : Type 0} (wire_says : Wire.Ghosts X) (net : Network) (w w' : World) (v : ℕ) (batch : List Record) (l : Lane) (side : LaneForm X)
    (running : IsRunning net w) (at : is_lane net.site l ≡ true) (made : IsReplayed net w w' v batch) (s : LaneStands wire_says net w l side) where
  pub gains : Gains w.durable w'.durable l
  gains = subst (λ (d : Durable). Gains w.durable d l) (sym made.durable) (replay_gains net.site v batch w.durable l made.may)

  sent : length (octets_sent net w' l) ≡ received w'.durable l
  sent = lane_length l.way (net.device l.link) (w'.durable.blocks l)

  more : side.ledger.received ≤ length (octets_sent net w' l)
  more = omega (arith, s.received, sent, len_grows l.way (w.durable.blocks l) (w'.durable.blocks l) gains.blocks)

  few : length (w.durable.own l) ≤ side.ledger.received
  few = omega (arith, s.received, (running.conserved.now.room l).planned, (running.conserved.now.room l).leased)

  counts : Counts (ledger_at (length (octets_sent net w' l)) side.ledger) (received w'.durable l)
      (keyed_own (received w.durable l) (received w'.durable l) (w.durable.own l)) (keyed_lease (received w.durable l) (received w'.durable l) (w.durable.lease l))
  counts =
      subst (λ (r : ℕ). Counts (ledger_at (length (octets_sent net w' l)) side.ledger) (received w'.durable l) (keyed_own r (received w'.durable l) (w.durable.own l)) (keyed_lease r (received w'.durable l) (w.durable.lease l))) s.received
      (subst (λ (n : ℕ). Keyed side.ledger (ledger_at (length (octets_sent net w' l)) side.ledger) n (w.durable.own l) (w.durable.lease l)) sent
      (counts_at side.ledger (length (octets_sent net w' l)) (w.durable.own l) (w.durable.lease l) more (record { got = refl; used = s.used; burnt = s.burnt; end = s.end }) few))

  pub refilled_stands : LaneStands wire_says net w' l (refilled (octets_sent net w' l) side)
  refilled_stands = record {
    lane = s.lane;
    bytes = refl;
    received = counts.got;
    used = counts.used ∙ ap length (sym gains.own);
    burnt = counts.burnt ∙ ap (count_by is_burnt) (sym gains.own);
    end = omega (arith, counts.end, gains.lease);
    wire = wire_kept wire_says net w w' l side.wire side.wire s.wire
        (octets_kept net w w' running l at
        (subst (λ (d : Durable). Grows w.durable.facts d.facts) (sym made.durable) (replay_grows net.site v batch w.durable).facts)
        gains.blocks
        (subst (λ (fs : Lane → List Allocation). (j : ℕ) (a : Allocation) → slice_get (w.frames l) j ≡ Some a → slice_get (fs l) j ≡ Some a) (sym made.frames) (λ j a h. h)))
        (ap (λ (x : Lane → List ℕ). x l) made.wire) refl;
  }
