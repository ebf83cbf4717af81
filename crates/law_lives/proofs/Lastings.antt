-- Records lose nothing, and those that a node may make don't let a leased end go back.
use Rattle.std.proofs.Common.{◌≡◌, ℕ, zero, suc, ◌+◌, ◌<◌, ◌≤◌, Bool, true, false, List, [], ◌∷◌, ◌++◌, length, refl, sym, ◌∙◌, ap, subst, arith}
use Rattle.std.specs.Prelude.{◌==◌, ◌&&◌, nat_lt, slice_get, if◌then◌else◌}
use Rattle.qkd_base.specs.Name.{Name, has, name_eq}
use Rattle.qkd_base.specs.Family.{number_set}
use Rattle.qkd_base.specs.Lane.{lane_eq}
use Rattle.qkd_base.specs.LaneBytes.{lane_len}
use Rattle.qkd_base.specs.declared.lane.Lane.{Lane}
use Rattle.net_model.specs.declared.record.Record.{Record}
use Rattle.net_model.specs.declared.record.Record.TheVariants.{Block, Lease, Learned, Acked, Handed, Closed, Bare}
use Rattle.net_model.specs.Table.{was_handed}
use Rattle.net_model.specs.Site.{Site, count_up, outgoing_lane}
use Rattle.net_model.specs.World.{Network, World, Durable, Allocation, Transmission, Owner, Journal}
use Rattle.net_model.specs.Ownership.{is_frame}
use Rattle.net_model.specs.Records.{apply_record, replay, block_taken, is_first, keyed_lease}
use Rattle.net_model.specs.Doubt.{MayApply, MayReplay}
use Rattle.net_model.specs.Invariant.{Invariant, Conserved, with_doubts}
use Rattle.law_base.proofs.Base.{lane_eq_from, eq_from, and_left, or_left, by_test}
use Rattle.law_base.proofs.Tables.{has-push}
use Rattle.law_base.proofs.Keeping.{handed-push, apply_keeps}
use Rattle.law_base.proofs.Growing.{apply_grows, replay_more_blocks}
use Rattle.law_recovery.specs.Saved.{DoubtsFit}
use Rattle.law_lives.specs.AtRest.{at_rest}
use Rattle.law_lives.specs.Lasting.{Lasts, LeasesLast, FramesAreBelow}
use Rattle.law_lives.proofs.Doubts.{AreSettled, all_settled, made_then}

pub lasts_same : (d : Durable) → Lasts d d
lasts_same d = record {
  facts = λ n f h. h;
  known = λ v n h. h;
  acked = λ v n h. h;
  handed = λ n sae h. h;
  closed = λ v n sae h. h;
  blocks = λ l. omega arith;
}

pub lasts_then : (a b c : Durable) → Lasts a b → Lasts b c → Lasts a c
lasts_then a b c h k = record {
  facts = λ n f e. k.facts n f (h.facts n f e);
  known = λ v n e. k.known v n (h.known v n e);
  acked = λ v n e. k.acked v n (h.acked v n e);
  handed = λ n sae e. k.handed n sae (h.handed n sae e);
  closed = λ v n sae e. k.closed v n sae (h.closed v n sae e);
  blocks = λ l. omega (arith, h.blocks l, k.blocks l);
}

-- A family of lists, one of which gets one more item, passes each test that it passed.
more_there : {A : Type 0} (P : List A → Type 0) (f : ℕ → List A) (v u : ℕ) (x : A) → (P (f v) → P (f v ++ x ∷ [])) → P (f u) → P (number_set f v (f v ++ x ∷ []) u)
more_there P f v u x more h = elim (u == v) as (λ t. (u == v) ≡ t → P (if t then f v ++ x ∷ [] else f u)) [
  | true ↦ λ e. more (subst (λ (k : ℕ). P (f k)) (eq_from u v e) h)
  | false ↦ λ e. h
] refl

named_more : (ns : List Name) (m n : Name) → has ns n ≡ true → has (ns ++ m ∷ []) n ≡ true
named_more ns m n h = has-push ns m n ∙ or_left (has ns n) (name_eq m n) h

marked_more : (hs : List (Name × ℕ)) (m : Name) (t : ℕ) (n : Name) (sae : ℕ) → was_handed hs n sae ≡ true → was_handed (hs ++ (m, t) ∷ []) n sae ≡ true
marked_more hs m t n sae h = handed-push hs m t n sae ∙ or_left (was_handed hs n sae) (name_eq m n && (t == sae)) h

module _ (s : Site) (v : ℕ) (d : Durable) where
  taken_lasts : (k : Lane) → ((l : Lane) → d.blocks l ≤ (block_taken k d).blocks l) → Lasts d (block_taken k d)
  unfolding block_taken
  taken_lasts k blocks = record {
    facts = λ n f h. h;
    known = λ u n h. h;
    acked = λ u n h. h;
    handed = λ n sae h. h;
    closed = λ u n sae h. h;
    blocks = blocks;
  }

  apply_lasts : (r : Record) → ((l : Lane) → d.blocks l ≤ (apply_record s v r d).blocks l) → Lasts d (apply_record s v r d)
  unfolding apply_record
  apply_lasts (Block link number bytes) more = taken_lasts (outgoing_lane s v link) more
  apply_lasts (Lease k end) more = record {
    facts = λ n f h. h;
    known = λ u n h. h;
    acked = λ u n h. h;
    handed = λ n sae h. h;
    closed = λ u n sae h. h;
    blocks = more;
  }
  apply_lasts (Learned f) more = let grown = apply_grows s v (Learned f) d in record {
    facts = grown.facts;
    known = grown.known;
    acked = λ u n h. h;
    handed = λ n sae h. h;
    closed = λ u n sae h. h;
    blocks = more;
  }
  apply_lasts (Acked m) more = record {
    facts = λ n f h. h;
    known = λ u n h. h;
    acked = λ u n h. more_there (λ (ns : List Name). has ns n ≡ true) d.acked v u m (named_more (d.acked v) m n) h;
    handed = λ n sae h. h;
    closed = λ u n sae h. h;
    blocks = more;
  }
  apply_lasts (Handed m t) more = record {
    facts = λ n f h. h;
    known = λ u n h. h;
    acked = λ u n h. h;
    handed = marked_more d.handed m t;
    closed = λ u n sae h. h;
    blocks = more;
  }
  apply_lasts (Closed m t) more = record {
    facts = λ n f h. h;
    known = λ u n h. h;
    acked = λ u n h. h;
    handed = λ n sae h. h;
    closed = λ u n sae h. more_there (λ (hs : List (Name × ℕ)). was_handed hs n sae ≡ true) d.closed v u (m, t) (marked_more (d.closed v) m t n sae) h;
    blocks = more;
  }
  apply_lasts (Bare f) more = let grown = apply_grows s v (Bare f) d in record {
    facts = grown.facts;
    known = grown.known;
    acked = λ u n h. h;
    handed = λ n sae h. h;
    closed = λ u n sae h. h;
    blocks = more;
  }

pub replay_lasts : (s : Site) (v : ℕ) (rs : List Record) (d : Durable) → Lasts d (replay s v rs d)
unfolding replay
replay_lasts s v [] d = lasts_same d
replay_lasts s v (r ∷ rs) d =
    let next : Durable = apply_record s v r d in
    lasts_then d next (replay s v rs next) (apply_lasts s v d r (replay_more_blocks s v (r ∷ []) d)) (replay_lasts s v rs next)

-- The first block of a lane leases its hash key. Before it nothing was leased.
keyed_more : (before after lease : ℕ) → lease ≤ before → lease ≤ keyed_lease before after lease
keyed_more before after lease h = by_test (λ (n : ℕ). lease ≤ n) (is_first before after) 8 lease
    (λ e. let none = eq_from before 0 (and_left (before == 0) (nat_lt 0 after) e) in omega (arith, none, h)) (λ e. omega arith)

module _ (s : Site) (v : ℕ) (d : Durable) (frames : Lane → List Allocation) (unclaimed : Lane → List Transmission) (inv : Invariant s d frames unclaimed) where
  taken_leases : (k : Lane) → LeasesLast d (block_taken k d)
  unfolding block_taken
  taken_leases k l = elim (lane_eq l k) as (λ t. lane_eq l k ≡ t → d.lease l ≤ (if t then keyed_lease (lane_len k.way (d.blocks k)) (lane_len k.way (d.blocks k + 1)) (d.lease k) else d.lease l)) [
    | true ↦ λ e.
        let same = ap d.lease (lane_eq_from l k e) in
        let more = keyed_more (lane_len k.way (d.blocks k)) (lane_len k.way (d.blocks k + 1)) (d.lease k) (inv.room k).leased in
        omega (arith, same, more)
    | false ↦ λ e. omega arith
  ] refl

  apply_leases : (r : Record) → MayApply s d v r → LeasesLast d (apply_record s v r d)
  unfolding apply_record
  apply_leases (Block link number bytes) m = taken_leases (outgoing_lane s v link)
  apply_leases (Lease k end) m = λ l. elim (lane_eq l k) as (λ t. lane_eq l k ≡ t → d.lease l ≤ (if t then end else d.lease l)) [
    | true ↦ λ e. let same = ap d.lease (lane_eq_from l k e) in omega (arith, same, m.1)
    | false ↦ λ e. omega arith
  ] refl
  apply_leases (Learned f) m = λ l. omega arith
  apply_leases (Acked n) m = λ l. omega arith
  apply_leases (Handed n sae) m = λ l. omega arith
  apply_leases (Closed n sae) m = λ l. omega arith
  apply_leases (Bare f) m = λ l. omega arith

replay_leases : (s : Site) (v : ℕ) (frames : Lane → List Allocation) (unclaimed : Lane → List Transmission) (rs : List Record) (d : Durable) → Invariant s d frames unclaimed →
    MayReplay s d v rs → LeasesLast d (replay s v rs d)
unfolding replay
replay_leases s v frames unclaimed [] d inv m l = omega arith
replay_leases s v frames unclaimed (r ∷ rs) d inv m l =
    let one = apply_leases s v d frames unclaimed inv r m.0 l in
    let rest = replay_leases s v frames unclaimed rs (apply_record s v r d) (apply_keeps s d frames unclaimed inv v r m.0) m.1 l in
    omega (arith, one, rest)

module _ (net : Network) (w : World) (made : ℕ → Bool) where
  one_lasts : (n : ℕ) (d : Durable) (t : Bool) → Lasts d (if t then replay net.site n (w.in_doubt n).batch d else d)
  one_lasts n d true = replay_lasts net.site n (w.in_doubt n).batch d
  one_lasts n d false = lasts_same d

  all_last : (n : ℕ) → Lasts w.durable (with_doubts net.site w made (count_up n) w.durable)
  all_last zero = lasts_same w.durable
  all_last (suc n) =
      let d : Durable = with_doubts net.site w made (count_up n) w.durable in
      subst (Lasts w.durable) (sym (made_then net.site w made (count_up n) (n ∷ []) w.durable)) (lasts_then w.durable d _ (all_last n) (one_lasts n d (made n)))

  pub rest_lasts : (journals : ℕ → Journal) → Lasts w.durable (at_rest net.site made journals w).durable
  unfolding at_rest
  rest_lasts journals =
      let h = all_last net.site.nodes in record { facts = h.facts; known = h.known; acked = h.acked; handed = h.handed; closed = h.closed; blocks = h.blocks }

module _ (net : Network) (w : World) (c : Conserved net w) (fits : DoubtsFit net w) (made : ℕ → Bool) where
  one_leases : (n : ℕ) (d : Durable) → AreSettled net w c fits made n d → (t : Bool) → LeasesLast d (if t then replay net.site n (w.in_doubt n).batch d else d)
  one_leases n d h true l = replay_leases net.site n w.frames w.unclaimed (w.in_doubt n).batch d h.now (h.doubts n (omega arith)) l
  one_leases n d h false l = omega arith

  all_leases : (n : ℕ) → LeasesLast w.durable (with_doubts net.site w made (count_up n) w.durable)
  all_leases zero l = omega arith
  all_leases (suc n) l =
      let d : Durable = with_doubts net.site w made (count_up n) w.durable in
      let earlier = all_leases n l in
      let one = one_leases n d (all_settled net w c fits made n) (made n) l in
      subst (λ (x : Durable). w.durable.lease l ≤ x.lease l) (sym (made_then net.site w made (count_up n) (n ∷ []) w.durable)) (omega (arith, earlier, one))

  pub rest_leases : (journals : ℕ → Journal) → LeasesLast w.durable (at_rest net.site made journals w).durable
  unfolding at_rest
  rest_leases journals = all_leases net.site.nodes

  pub frames_below : (journals : ℕ → Journal) → FramesAreBelow w (at_rest net.site made journals w)
  frames_below journals l j x covered =
      let lease = rest_leases journals l in
      let room = c.now.room l in
      let own = (c.now.owned l).frame x j ∙ covered in
      let within = frame_within (w.durable.own l) x j own in
      omega (arith, lease, room.planned, within)
    where
      frame_within : (own : List Owner) (x j : ℕ) → is_frame j (slice_get own x) ≡ true → x < length own
      frame_within [] x j h = cc
      frame_within (o ∷ own) zero j h = omega arith
      frame_within (o ∷ own) (suc x) j h = let rest = frame_within own x j h in omega (arith, rest)
