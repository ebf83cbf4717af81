-- Each permitted durable change keeps the invariant.
use Rattle.std.proofs.Common.{◌≡◌, ℕ, ◌≤◌, true, false, ◌&&◌, ◌||◌, List, [], ◌∷◌, ◌++◌, refl, sym, ◌∙◌, ap, subst, arith, inl, inr}
use Rattle.std.specs.Prelude.{◌==◌, if◌then◌else◌}
use Rattle.qkd_base.specs.Name.{Name, name_eq, has}
use Rattle.qkd_base.specs.declared.lane.Lane.{Lane}
use Rattle.net_model.specs.declared.record.Record.{Record}
use Rattle.net_model.specs.declared.record.Record.TheVariants.{Block, Lease, Learned, Acked, Handed, Closed, Bare}
use Rattle.net_model.specs.declared.fact.Fact.{Fact}
use Rattle.net_model.specs.Table.{name_of, was_handed}
use Rattle.net_model.specs.Site.{Site, sender, receiver, outgoing_lane}
use Rattle.net_model.specs.World.{Durable, Allocation, Transmission, received}
use Rattle.net_model.specs.Ownership.{HasRoom}
use Rattle.net_model.specs.Knowledge.{IsAdjacent}
use Rattle.net_model.specs.Handings.{PairsDiffer, MayHave}
use Rattle.net_model.specs.Doubt.{MayBeReceived, MayBeMade, MayApply, MayReplay}
use Rattle.net_model.specs.Records.{apply_record, replay}
use Rattle.net_model.specs.Invariant.{Invariant}
use Rattle.law_base.proofs.Base.{by_lane, by_number, name_eq_from, name_eq_same, eq_from, eq_same, and_left, and_right, or_cases, or_first, or_second, or_both}
use Rattle.law_base.proofs.Tables.{has-push, learned_there, learned_new}
use Rattle.law_base.proofs.Grow.{adjacent_grows, owned_grows, room_grows, carried_grows}
use Rattle.law_base.proofs.Knowing.{known_with, known_with_grows}
use Rattle.law_base.proofs.Learning.{Learns, receipt_learns, made_learns, learned_knowledge, learned_table, learned_stored}
use Rattle.law_base.proofs.Chunks.{learned_streams}
use Rattle.law_base.proofs.Parts.{learned_groups, learned_handings}
use Rattle.law_base.proofs.Blocks.{taken_keeps}

-- Lemmas on the pairs of a key's name and an application that got it.

pub handed-push : (hs : List (Name × ℕ)) (m : Name) (t : ℕ) (n : Name) (sae : ℕ) →
    was_handed (hs ++ (m, t) ∷ []) n sae ≡ (was_handed hs n sae || (name_eq m n && (t == sae)))
handed-push [] m t n sae = elim (name_eq m n && (t == sae)) as (λ b. (b || false) ≡ b) [ true ↦ refl | false ↦ refl ]
handed-push (x ∷ hs) m t n sae =
    elim (name_eq x.0 n && (x.1 == sae)) as (λ b. (b || was_handed (hs ++ (m, t) ∷ []) n sae) ≡ ((b || was_handed hs n sae) || (name_eq m n && (t == sae)))) [
      | true ↦ refl
      | false ↦ handed-push hs m t n sae
    ]

pair_sym : (a b : Name) (t u : ℕ) → (name_eq a b && (t == u)) ≡ false → (name_eq b a && (u == t)) ≡ false
pair_sym a b t u h = elim (name_eq b a && (u == t)) as (λ x. (name_eq b a && (u == t)) ≡ x → x ≡ false) [
  | true ↦ λ e. let is : b ≡ a = name_eq_from b a (and_left (name_eq b a) (u == t) e) in
      let at : u ≡ t = eq_from u t (and_right (name_eq b a) (u == t) e) in
      let both : (name_eq a a && (t == t)) ≡ true = rw (name_eq_same a, eq_same t) refl in
      sym both ∙ ap (λ (x : Name). name_eq a x && (t == t)) (sym is) ∙ ap (λ (x : ℕ). name_eq a b && (t == x)) (sym at) ∙ h
  | false ↦ λ e. refl
] refl

pairs_push : (hs : List (Name × ℕ)) (m : Name) (t : ℕ) → PairsDiffer hs → was_handed hs m t ≡ false → PairsDiffer (hs ++ (m, t) ∷ [])
pairs_push [] m t d h = (refl, tt)
pairs_push (x ∷ hs) m t d h = (
  handed-push hs m t x.0 x.1 ∙
      or_both (was_handed hs x.0 x.1) (name_eq m x.0 && (t == x.1)) d.0 (pair_sym x.0 m x.1 t (or_first (name_eq x.0 m && (x.1 == t)) (was_handed hs m t) h)),
  pairs_push hs m t d.1 (or_second (name_eq x.0 m && (x.1 == t)) (was_handed hs m t) h),
)

module _ (s : Site) (d : Durable) (frames : Lane → List Allocation) (unclaimed : Lane → List Transmission) (c : Invariant s d frames unclaimed) (v : ℕ) where
  leased_keeps : (l : Lane) (end : ℕ) → d.lease l ≤ end → end ≤ received d l → Invariant s (apply_record s v (Lease l end) d) frames unclaimed
  unfolding apply_record
  leased_keeps l end low high =
      record {
        owned = c.owned;
        room = by_lane (λ k t. HasRoom d.facts (d.own k) (unclaimed k) (if t then end else d.lease k) (received d k)) l
            (record { planned = omega (arith, (c.room l).planned); leased = high }) c.room;
        table = c.table;
        streams = c.streams;
        groups = c.groups;
        knowledge = c.knowledge;
        carried = c.carried;
        marked = c.marked;
        stored = c.stored;
        handings = c.handings;
      }

  acked_keeps : (n : Name) → (u : ℕ) × IsAdjacent d.facts d.known u v u n → Invariant s (apply_record s v (Acked n) d) frames unclaimed
  unfolding apply_record
  acked_keeps n m =
      record {
        owned = c.owned;
        room = c.room;
        table = c.table;
        streams = c.streams;
        groups = c.groups;
        knowledge = c.knowledge;
        carried = c.carried;
        marked = λ x k h. by_number (λ y t. has (if t then d.acked v ++ n ∷ [] else d.acked y) k ≡ true → (u : ℕ) × IsAdjacent d.facts d.known u y u k) v
            (λ p. elim (or_cases (has (d.acked v) k) (name_eq n k) (sym (has-push (d.acked v) n k) ∙ p)) [
              | inl old ↦ c.marked v k old
              | inr is ↦ subst (λ (y : Name). (u : ℕ) × IsAdjacent d.facts d.known u v u y) (name_eq_from n k is) m
            ])
            (λ y ne p. c.marked y k p) x h;
        stored = c.stored;
        handings = c.handings;
      }

  handed_keeps : (n : Name) (sae : ℕ) → was_handed d.handed n sae ≡ false → MayHave s d.facts d.known n sae → Invariant s (apply_record s v (Handed n sae) d) frames unclaimed
  unfolding apply_record
  handed_keeps n sae fresh m =
      record {
        owned = c.owned;
        room = c.room;
        table = c.table;
        streams = c.streams;
        groups = c.groups;
        knowledge = c.knowledge;
        carried = c.carried;
        marked = c.marked;
        stored = c.stored;
        handings = record {
          differ = pairs_push d.handed n sae c.handings.differ fresh;
          entitled = λ k t h. elim (or_cases (was_handed d.handed k t) (name_eq n k && (sae == t)) (sym (handed-push d.handed n sae k t) ∙ h)) [
            | inl old ↦ c.handings.entitled k t old
            | inr is ↦ subst (λ (x : ℕ). MayHave s d.facts d.known k x) (eq_from sae t (and_right (name_eq n k) (sae == t) is))
                (subst (λ (x : Name). MayHave s d.facts d.known x sae) (name_eq_from n k (and_left (name_eq n k) (sae == t) is)) m)
          ];
        };
      }

  closed_keeps : (n : Name) (sae : ℕ) → Invariant s (apply_record s v (Closed n sae) d) frames unclaimed
  unfolding apply_record
  closed_keeps n sae = c

  learns_keeps : (f : Fact) (facts : List Fact) → Learns s d v f facts → Invariant s (record d { facts = facts; known = known_with d.known v (name_of f) }) frames unclaimed
  learns_keeps f facts l =
      let known' : ℕ → List Name = known_with d.known v (name_of f) in
      let more = known_with_grows d.known v (name_of f) in
      record {
        owned = λ l'. owned_grows d.facts facts d.known known' l.grows more (sender s l') (receiver s l') (d.own l') (frames l') (unclaimed l') (received d l') (c.carried l') (c.owned l');
        room = λ l'. room_grows d.facts facts d.known known' l.grows more (sender s l') (receiver s l') (d.own l') (frames l') (unclaimed l') (d.lease l') (received d l') (c.carried l') (c.room l');
        table = learned_table s d v f facts l c.table;
        streams = learned_streams s d v f facts l c.table c.knowledge c.streams;
        groups = learned_groups s d v f facts l c.table c.groups;
        knowledge = learned_knowledge s d v f facts l c.knowledge;
        carried = λ l'. carried_grows d.facts facts d.known known' l.grows more (sender s l') (receiver s l') (frames l') (unclaimed l') (c.carried l');
        marked = λ u n h. let r = c.marked u n h in (r.0, adjacent_grows d.facts facts d.known known' l.grows more r.0 u r.0 n r.1);
        stored = learned_stored s d v f facts l c.stored;
        handings = learned_handings s d v f facts l c.table c.groups c.handings;
      }

  receipt_keeps : (f : Fact) → has (d.known v) (name_of f) ≡ false → MayBeReceived d.facts d.known v f → Invariant s (apply_record s v (Learned f) d) frames unclaimed
  unfolding apply_record
  receipt_keeps f fresh m =
      subst (λ (facts : List Fact). Invariant s (record d { facts = facts; known = known_with d.known v (name_of f) }) frames unclaimed)
      (sym (learned_there d.facts f m.there)) (learns_keeps f d.facts (receipt_learns s d v f fresh m))

  made_keeps : (f : Fact) → has (d.known v) (name_of f) ≡ false → MayBeMade s d.facts d.known d.handed v f → Invariant s (apply_record s v (Learned f) d) frames unclaimed
  unfolding apply_record
  made_keeps f fresh m =
      subst (λ (facts : List Fact). Invariant s (record d { facts = facts; known = known_with d.known v (name_of f) }) frames unclaimed)
      (sym (learned_new d.facts f m.free)) (learns_keeps f (d.facts ++ f ∷ []) (made_learns s d v f fresh m))

  block_keeps : (link number : ℕ) (bytes : List ℕ) → Invariant s (apply_record s v (Block link number bytes) d) frames unclaimed
  unfolding apply_record
  block_keeps link number bytes = taken_keeps s d frames unclaimed (outgoing_lane s v link) c

  pub apply_keeps : (r : Record) → MayApply s d v r → Invariant s (apply_record s v r d) frames unclaimed
  apply_keeps (Block link number bytes) m = block_keeps link number bytes
  apply_keeps (Lease l end) m = leased_keeps l end m.1 m.2
  apply_keeps (Learned f) m = elim m.1 [ inl came ↦ receipt_keeps f m.0 came | inr made ↦ made_keeps f m.0 made ]
  apply_keeps (Acked n) m = acked_keeps n m
  apply_keeps (Handed n sae) m = handed_keeps n sae m.1 m.2
  apply_keeps (Closed n sae) m = closed_keeps n sae
  apply_keeps (Bare f) m = absurd m

pub replay_keeps : (s : Site) (d : Durable) (frames : Lane → List Allocation) (unclaimed : Lane → List Transmission) → Invariant s d frames unclaimed →
    (v : ℕ) (rs : List Record) → MayReplay s d v rs → Invariant s (replay s v rs d) frames unclaimed
unfolding replay
replay_keeps s d frames unclaimed c v [] m = c
replay_keeps s d frames unclaimed c v (r ∷ rs) m =
    replay_keeps s (apply_record s v r d) frames unclaimed (apply_keeps s d frames unclaimed c v r m.0) v rs m.1
