-- A block of bytes for a lane keeps the invariant's clauses on owned bytes and on room. The first block also brings
-- the hash key.
use Rattle.std.proofs.Common.{◌≡◌, ℕ, zero, suc, ◌+◌, ◌<◌, ◌≤◌, Bool, true, false, ◌&&◌, List, [], ◌∷◌, length, refl, sym, ◌∙◌, ap, subst, arith, replicate}
use Rattle.std.specs.Prelude.{◌==◌, nat_lt, slice_get, if◌then◌else◌}
use Rattle.std.proofs.lemmas.Bool.Decides.{nat_tests}
use Rattle.qkd_base.specs.Lane.{lane_eq}
use Rattle.qkd_base.specs.LaneBytes.{lane_len}
use Rattle.qkd_base.specs.declared.lane.Way.{Way}
use Rattle.qkd_base.specs.declared.lane.Way.TheVariants.{Up, Down}
use Rattle.qkd_base.specs.declared.lane.Lane.{Lane}
use Rattle.net_model.specs.declared.fact.Fact.{Fact}
use Rattle.net_model.specs.Site.{Site}
use Rattle.net_model.specs.World.{Durable, Allocation, Transmission, Owner, HashKey, received}
use Rattle.net_model.specs.Ownership.{IsOwned, HasRoom, is_frame, is_key}
use Rattle.net_model.specs.Records.{is_first, keyed_own, keyed_lease, block_taken}
use Rattle.net_model.specs.Invariant.{Invariant}
use Rattle.law_base.proofs.Base.{by_other_lane, lane_same}

no_frames : (n : ℕ) (x j : ℕ) → is_frame j (slice_get (replicate n HashKey) x) ≡ false
no_frames zero x j = refl
no_frames (suc n) zero j = refl
no_frames (suc n) (suc x) j = no_frames n x j

all_keys : (n : ℕ) (x : ℕ) → is_key (slice_get (replicate n HashKey) x) ≡ nat_lt x n
all_keys zero x = grind (arith, nat_tests)
all_keys (suc n) zero = grind (arith, nat_tests)
all_keys (suc n) (suc x) = let e = all_keys n x in grind (arith, nat_tests)

is_empty : (own : List Owner) → length own ≡ 0 → own ≡ []
is_empty [] h = refl
is_empty (x ∷ xs) h = absurd (omega arith)

module _ (T : List Fact) (own : List Owner) (frames : List Allocation) (unclaimed : List Transmission) (lease before after : ℕ) (more : before ≤ after)
    (key_fits : 0 < after → 8 ≤ after) (o : IsOwned T own frames before) (r : HasRoom T own unclaimed lease before) where
  keyed_owned : IsOwned T (keyed_own before after own) frames after
  keyed_owned = elim (is_first before after) as (λ t. is_first before after ≡ t → IsOwned T (if t then replicate 8 HashKey else own) frames after) [
    | true ↦ λ e. let nothing : before ≡ 0 = grind (arith, nat_tests) in
        let some : nat_lt 0 after ≡ true = grind (arith, nat_tests) in
        let empty : own ≡ [] = is_empty own (omega (arith, r.planned, r.leased)) in
        record {
          frame = λ x j. no_frames 8 x j ∙ ap (λ (os : List Owner). is_frame j (slice_get os x)) (sym empty) ∙ o.frame x j;
          key = λ x. all_keys 8 x ∙ grind (arith, nat_tests);
          reach = λ h. omega arith;
        }
    | false ↦ λ e. let same : nat_lt 0 before ≡ nat_lt 0 after = grind (arith, nat_tests) in
        record {
          frame = o.frame;
          key = λ x. o.key x ∙ ap (λ (t : Bool). nat_lt x 8 && t) same;
          reach = λ h. let some : 0 < before = grind (arith, nat_tests) in o.reach some;
        }
  ] refl

  keyed_room : HasRoom T (keyed_own before after own) unclaimed (keyed_lease before after lease) after
  keyed_room = elim (is_first before after) as (λ t. is_first before after ≡ t →
      HasRoom T (if t then replicate 8 HashKey else own) unclaimed (if t then 8 else lease) after) [
        | true ↦ λ e. let nothing : before ≡ 0 = grind (arith, nat_tests) in
            let some : 0 < after = grind (arith, nat_tests) in
            record { planned = omega (arith, r.planned, r.leased); leased = key_fits some }
        | false ↦ λ e. record { planned = r.planned; leased = omega (arith, r.leased) }
      ] refl

len_grows : (way : Way) (n : ℕ) → lane_len way n ≤ lane_len way (n + 1)
len_grows Up n = omega arith
len_grows Down n = omega arith

enough : (way : Way) (n : ℕ) → 0 < lane_len way n → 8 ≤ lane_len way n
enough Up n h = omega arith
enough Down n h = omega arith

pub taken_keeps : (s : Site) (d : Durable) (frames : Lane → List Allocation) (unclaimed : Lane → List Transmission) (l : Lane) →
    Invariant s d frames unclaimed → Invariant s (block_taken l d) frames unclaimed
unfolding block_taken
taken_keeps s d frames unclaimed l c =
    let before : ℕ = lane_len l.way (d.blocks l) in
    let after : ℕ = lane_len l.way (d.blocks l + 1) in
    let came : Lane → ℕ = received (block_taken l d) in
    let here : came l ≡ after = ap (λ (t : Bool). lane_len l.way (if t then d.blocks l + 1 else d.blocks l)) (lane_same l) in
    let other : (k : Lane) → lane_eq k l ≡ false → received d k ≡ came k =
    λ k ne. ap (λ (t : Bool). lane_len k.way (if t then d.blocks l + 1 else d.blocks k)) (sym ne) in
    record {
      owned = by_other_lane (λ k t. IsOwned d.facts (if t then keyed_own before after (d.own l) else d.own k) (frames k) (came k)) l
          (subst (λ (n : ℕ). IsOwned d.facts (keyed_own before after (d.own l)) (frames l) n) (sym here)
          (keyed_owned d.facts (d.own l) (frames l) (unclaimed l) (d.lease l) before after (len_grows l.way (d.blocks l)) (enough l.way (d.blocks l + 1)) (c.owned l) (c.room l)))
          (λ k ne. subst (λ (n : ℕ). IsOwned d.facts (d.own k) (frames k) n) (other k ne) (c.owned k));
      room = by_other_lane (λ k t. HasRoom d.facts (if t then keyed_own before after (d.own l) else d.own k) (unclaimed k) (if t then keyed_lease before after (d.lease l) else d.lease k) (came k)) l
          (subst (λ (n : ℕ). HasRoom d.facts (keyed_own before after (d.own l)) (unclaimed l) (keyed_lease before after (d.lease l)) n) (sym here)
          (keyed_room d.facts (d.own l) (frames l) (unclaimed l) (d.lease l) before after (len_grows l.way (d.blocks l)) (enough l.way (d.blocks l + 1)) (c.owned l) (c.room l)))
          (λ k ne. subst (λ (n : ℕ). HasRoom d.facts (d.own k) (unclaimed k) (d.lease k) n) (other k ne) (c.room k));
      table = c.table;
      streams = c.streams;
      groups = c.groups;
      knowledge = c.knowledge;
      carried = c.carried;
      marked = c.marked;
      stored = c.stored;
      handings = c.handings;
    }

-- No lane loses an owner of a byte. A lane's first block comes when nothing is owned yet.
pub taken_owned : (d : Durable) (unclaimed : Lane → List Transmission) (k : Lane) → HasRoom d.facts (d.own k) (unclaimed k) (d.lease k) (received d k) →
    (l : Lane) → length (d.own l) ≤ length ((block_taken k d).own l)
unfolding block_taken
taken_owned d unclaimed k r =
    let before : ℕ = lane_len k.way (d.blocks k) in
    let after : ℕ = lane_len k.way (d.blocks k + 1) in
    by_other_lane (λ l t. length (d.own l) ≤ length (if t then keyed_own before after (d.own k) else d.own l)) k
    (elim (is_first before after) as (λ t. is_first before after ≡ t → length (d.own k) ≤ length (if t then replicate 8 HashKey else d.own k)) [
      | true ↦ λ e. let nothing : before ≡ 0 = grind (arith, nat_tests) in omega (arith, r.planned, r.leased)
      | false ↦ λ e. omega arith
    ] refl)
    (λ l ne. omega arith)
