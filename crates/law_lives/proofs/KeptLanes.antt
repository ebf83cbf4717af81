-- The kept world's lanes: their owners, their room and their blocks.
use Rattle.std.proofs.Common.{◌≡◌, ℕ, zero, suc, ◌-◌, ◌<◌, ◌≤◌, Bool, true, false, ◌&&◌, List, [], ◌∷◌, length, replicate, refl, sym, ◌∙◌, ap, subst, arith, Some, None}
use Rattle.std.specs.Prelude.{nat_lt, min, slice_get, find, if◌then◌else◌}
use Rattle.std.proofs.lemmas.List.{length-replicate}
use Rattle.std.proofs.lemmas.Bool.Decides.{nat_tests}
use Rattle.qkd_base.specs.Lane.{lane_eq}
use Rattle.qkd_base.specs.LaneBytes.{lane_len}
use Rattle.qkd_base.specs.declared.lane.Way.{Way}
use Rattle.qkd_base.specs.declared.lane.Way.TheVariants.{Up, Down}
use Rattle.qkd_base.specs.declared.lane.Lane.{Lane}
use Rattle.net_model.specs.declared.fact.Fact.{Fact}
use Rattle.net_model.specs.Site.{Site, sender}
use Rattle.net_model.specs.World.{HashKey, received}
use Rattle.net_model.specs.Ownership.{IsOwned, HasRoom, is_frame, is_key}
use Rattle.net_model.specs.Start.{burnt_to}
use Rattle.net_model.specs.View.{View, Port, received_of}
use Rattle.net_model.specs.Fold.{empty_port}
use Rattle.law_base.proofs.Base.{lane_eq_from}
use Rattle.law_base.proofs.Lists.{burnt_length, found_at, all_at}
use Rattle.law_invariant.proofs.Starting.{burnt_owned}
use Rattle.law_recovery.proofs.Kept.{IsPort}
use Rattle.law_lives.specs.Belongs.{view_in}
use Rattle.law_lives.specs.KeptWorld.{port_or, kept_port, kept_owners, kept_durable}
use Rattle.law_lives.proofs.KeptFacts.{AllRead}

-- ---- ports

pub passes_at : {A : Type 0} (p : A → Bool) (xs : List A) (a : A) → find p xs ≡ Some a → p a ≡ true
passes_at p [] a h = cc
passes_at p (x ∷ xs) a h =
    elim (p x) as (λ t. p x ≡ t → (if t then Some x else find p xs) ≡ Some a → p a ≡ true) [
      | true ↦ λ e y. let is : x ≡ a = cc in ap p (sym is) ∙ e
      | false ↦ λ e y. passes_at p xs a y
    ] refl h

nothing_received : (way : Way) → lane_len way 0 ≡ 0
nothing_received Up = refl
nothing_received Down = refl

module _ (s : Site) (views : List View) (read : AllRead views) where
  -- A lane's port, as every journal gives it back.
  pub record IsLanePort (l : Lane) (p : Port) : Type 0 where
    pub lane : p.lane ≡ l
    pub port : IsPort p

  no_port : (l : Lane) → IsLanePort l (empty_port l)
  no_port l =
      let none = nothing_received l.way in
      record { lane = refl; port = record { few = omega arith; leased = omega (arith, none); key = λ some. absurd (omega (arith, none, some)) } }

  some_port : (v : ℕ) (l : Lane) (p : Port) → find (λ (q : Port). lane_eq q.lane l) (view_in views v).ports ≡ Some p → IsLanePort l p
  some_port v l p h =
      let at = found_at (λ (q : Port). lane_eq q.lane l) (view_in views v).ports p h in
      record {
        lane = lane_eq_from p.lane l (passes_at (λ (q : Port). lane_eq q.lane l) (view_in views v).ports p h);
        port = all_at IsPort (view_in views v).ports at.0 p (read v).ports at.1;
      }

  pub lane_port : (l : Lane) → IsLanePort l (kept_port s views l)
  unfolding kept_port
  lane_port l =
      elim (find (λ (q : Port). lane_eq q.lane l) (view_in views (sender s l)).ports) as (λ o. find (λ (q : Port). lane_eq q.lane l) (view_in views (sender s l)).ports ≡ o →
      IsLanePort l (port_or l o)) [
        | None ↦ λ e. no_port l
        | Some p ↦ λ e. some_port (sender s l) l p e
      ] refl

  pub received_kept : (l : Lane) → received_of (kept_port s views l) ≡ received (kept_durable s views) l
  unfolding kept_durable
  received_kept l = ap (λ (k : Lane). lane_len k.way (length (kept_port s views l).blocks)) (lane_port l).lane

-- ---- owners

key_bytes : (facts : List Fact) (got : ℕ) → 0 < got → IsOwned facts (replicate 8 HashKey) [] got
key_bytes facts got some = record {
  frame = λ x j. no_frame 8 x j;
  key = λ x. key_at 8 x ∙ (let has : nat_lt 0 got ≡ true = grind (arith, nat_tests) in with_true (nat_lt x 8) (nat_lt 0 got) has);
  reach = λ h. omega (arith, length-replicate 8 HashKey);
}
  where
    no_frame : (n x j : ℕ) → is_frame j (slice_get (replicate n HashKey) x) ≡ false
    no_frame zero x j = refl
    no_frame (suc n) zero j = refl
    no_frame (suc n) (suc x) j = no_frame n x j

    key_at : (n x : ℕ) → is_key (slice_get (replicate n HashKey) x) ≡ nat_lt x n
    key_at zero x = grind (arith, nat_tests)
    key_at (suc n) zero = grind (arith, nat_tests)
    key_at (suc n) (suc x) = key_at n x ∙ grind (arith, nat_tests)

    with_true : (a c : Bool) → c ≡ true → a ≡ (a && c)
    with_true true c h = sym h
    with_true false c h = refl

no_bytes : (facts : List Fact) (got : ℕ) → got ≡ 0 → IsOwned facts [] [] got
no_bytes facts got none = record {
  frame = λ x j. refl;
  key = λ x. sym (with_false (nat_lt x 8) (nat_lt 0 got) (grind (arith, nat_tests)));
  reach = λ h. absurd (omega arith);
}
  where
    with_false : (a c : Bool) → c ≡ false → (a && c) ≡ false
    with_false true c h = h
    with_false false c h = refl

pub owners_owned : (facts : List Fact) (lease got : ℕ) → lease ≤ got → (0 < got → 8 ≤ lease) → IsOwned facts (kept_owners lease) [] got
owners_owned facts lease got leased key =
    elim (nat_lt 0 got) as (λ t. nat_lt 0 got ≡ t → IsOwned facts (kept_owners lease) [] got) [
      | true ↦ λ e.
          let some : 0 < got = grind (arith, nat_tests) in
          let low : 8 ≤ lease = key some in
          let eight : 8 ≡ min 8 lease = omega arith in
          subst (λ (n : ℕ). IsOwned facts (burnt_to lease (replicate n HashKey)) [] got) eight
          (burnt_owned facts (replicate 8 HashKey) [] got (key_bytes facts got some) (lease - length (replicate 8 HashKey)))
      | false ↦ λ e.
          let none : got ≡ 0 = grind (arith, nat_tests) in
          let nothing : 0 ≡ min 8 lease = omega arith in
          subst (λ (n : ℕ). IsOwned facts (burnt_to lease (replicate n HashKey)) [] got) nothing
          (burnt_owned facts [] [] got (no_bytes facts got none) (lease - 0))
    ] refl

pub owners_length : (lease : ℕ) → length (kept_owners lease) ≡ lease
owners_length lease = burnt_length lease (replicate (min 8 lease) HashKey) (omega (arith, length-replicate (min 8 lease) HashKey))

module _ (s : Site) (views : List View) (read : AllRead views) where
  pub owned_kept : (facts : List Fact) (l : Lane) → IsOwned facts ((kept_durable s views).own l) [] (received (kept_durable s views) l)
  unfolding kept_durable
  owned_kept facts l =
      let p = lane_port s views read l in
      let got = received_kept s views read l in
      subst (λ (n : ℕ). IsOwned facts (kept_owners (kept_port s views l).lease) [] n) got
      (owners_owned facts (kept_port s views l).lease (received_of (kept_port s views l)) p.port.leased p.port.key)

  pub room_kept : (facts : List Fact) (l : Lane) → HasRoom facts ((kept_durable s views).own l) [] ((kept_durable s views).lease l) (received (kept_durable s views) l)
  unfolding kept_durable
  room_kept facts l =
      let p = lane_port s views read l in
      let got = received_kept s views read l in
      record {
        planned = omega (arith, owners_length (kept_port s views l).lease);
        leased = subst (λ (n : ℕ). (kept_port s views l).lease ≤ n) got p.port.leased;
      }

  pub few_kept : (l : Lane) → (kept_durable s views).blocks l ≤ 1024
  unfolding kept_durable
  few_kept l = (lane_port s views read l).port.few

pub length_kept : (s : Site) (views : List View) (l : Lane) → length ((kept_durable s views).own l) ≡ (kept_durable s views).lease l
unfolding kept_durable
length_kept s views l = owners_length (kept_port s views l).lease
