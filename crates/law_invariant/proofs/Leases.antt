-- The leases of a plan: each is permitted, and together they cover its orders.
use Rattle.std.proofs.Common.{◌≡◌, ℕ, ◌+◌, ◌<◌, ◌≤◌, ◌*◌, ◌/◌, Bool, true, false, List, [], ◌∷◌, ◌++◌, refl, sym, ◌∙◌, ap, subst, arith, inl, inr}
use Rattle.std.specs.Prelude.{nat_lt, if◌then◌else◌}
use Rattle.std.specs.List.{list_any, flat_map, AllByRecursion}
use Rattle.std.proofs.lemmas.Bool.Decides.{nat_tests}
use Rattle.qkd_base.specs.Lane.{lane_eq}
use Rattle.qkd_base.specs.Family.{lane_set}
use Rattle.qkd_base.specs.LaneBytes.{lane_len}
use Rattle.qkd_base.specs.declared.lane.Lane.{Lane}
use Rattle.net_model.specs.declared.fact.Fact.{Fact}
use Rattle.net_model.specs.declared.record.Record.{Record}
use Rattle.net_model.specs.declared.record.Record.TheVariants.{Lease}
use Rattle.net_model.specs.Item.{need}
use Rattle.net_model.specs.World.{Network, World, Durable, Transmission, needs, received, planned}
use Rattle.net_model.specs.Needed.{port_at}
use Rattle.net_model.specs.View.{received_of}
use Rattle.net_model.specs.Records.{apply_record, replay}
use Rattle.net_model.specs.Doubt.{MayReplay}
use Rattle.net_model.specs.Plan.{wanted_on, that_fit, orders_on, end_on, raise, leases_on}
use Rattle.net_model.specs.Invariant.{Conserved}
use Rattle.law_base.proofs.Base.{lane_eq_from, or_cases, not_both, lane_same}
use Rattle.law_base.proofs.LaneBlocks.{count_blocks}
use Rattle.law_invariant.proofs.Outgoing.{AreOutgoing}
use Rattle.law_invariant.proofs.Seen.{seen}
use Rattle.law_invariant.proofs.Wanted.{IsWanted, all_wanted, fitting}

-- Orders that fit stay within the received bytes.
fit_bound : (facts : List Fact) (got used : ℕ) (ts : List Transmission) → used ≤ got → used + needs facts (that_fit facts got used ts) ≤ got
fit_bound facts got used [] h = omega arith
fit_bound facts got used (t ∷ ts) h = elim (nat_lt got (used + need facts t.item)) as (λ b. nat_lt got (used + need facts t.item) ≡ b →
    used + needs facts (if b then [] else t ∷ that_fit facts got (used + need facts t.item) ts) ≤ got) [
      | true ↦ λ e. omega arith
      | false ↦ λ e. let le : used + need facts t.item ≤ got = grind (arith, nat_tests) in let r = fit_bound facts got (used + need facts t.item) ts le in omega (arith, r)
    ] refl

round_up : (e : ℕ) → e ≤ 4096 * ((e + 4095) / 4096)
round_up e = omega arith

by_lane_eq : (x l : Lane) (P : Bool → Type 0) → (x ≡ l → P true) → P false → P (lane_eq x l)
by_lane_eq x l P h n = elim (lane_eq x l) as (λ t. lane_eq x l ≡ t → P t) [ true ↦ λ e. h (lane_eq_from x l e) | false ↦ λ e. n ] refl

module _ (net : Network) (w : World) (v : ℕ) (c : Conserved net w) where
  abbrev pub orders_at : Lane → List Transmission
  orders_at l = orders_on net.site (seen net w v) (port_at net w l)

  abbrev pub end_at : Lane → ℕ
  end_at l = end_on net.site (seen net w v) (port_at net w l)

  abbrev pub leases_at : Lane → List Record
  leases_at l = leases_on net.site (seen net w v) (port_at net w l)

  pub orders_wanted : (l : Lane) → AllByRecursion (IsWanted net w v c l) (orders_at l)
  unfolding orders_on
  orders_wanted l = fitting net w v c l (seen net w v).facts (received_of (port_at net w l)) (planned w l) (wanted_on net.site (seen net w v) l) (all_wanted net w v c l)

  got_is : (l : Lane) → received_of (port_at net w l) ≡ received w.durable l
  got_is l = ap (lane_len l.way) (count_blocks (net.device l.link) (w.durable.blocks l))

  end_bound : (l : Lane) → end_at l ≤ received_of (port_at net w l)
  unfolding orders_on
  end_bound l =
      let r = c.now.room l in
      fit_bound (seen net w v).facts (received_of (port_at net w l)) (planned w l) (wanted_on net.site (seen net w v) l) (omega (arith, r.planned, r.leased, got_is l))

  abbrev goal : Lane → ℕ
  goal l = raise (end_at l) (received_of (port_at net w l))

  abbrev is_short : Lane → Bool
  is_short l = nat_lt (w.durable.lease l) (end_at l)

  goal_low : (l : Lane) → end_at l ≤ goal l
  goal_low l = omega (arith, round_up (end_at l), end_bound l)

  goal_high : (l : Lane) → goal l ≤ received w.durable l
  goal_high l = omega (arith, got_is l)

  -- The state of the leases after some lanes of a plan.
  record Far (d : Durable) : Type 0 where
    got : (l : Lane) → received d l ≡ received w.durable l
    low : (l : Lane) → w.durable.lease l ≤ d.lease l
    high : (l : Lane) → is_short l ≡ true → d.lease l ≤ goal l

  -- The batch of leases for these lanes is permitted and covers their orders.
  pub record Leased (d : Durable) (batch : List Record) (ls : List Lane) : Type 0 where
    pub may : MayReplay net.site d v batch
    pub up : (l : Lane) → d.lease l ≤ (replay net.site v batch d).lease l
    pub reach : (l : Lane) → list_any (λ x. lane_eq x l) ls ≡ true → end_at l ≤ (replay net.site v batch d).lease l
    pub facts : (replay net.site v batch d).facts ≡ d.facts
    pub known : (replay net.site v batch d).known ≡ d.known
    pub own : (replay net.site v batch d).own ≡ d.own

  raised : (d : Durable) (l : Lane) → Far d → is_short l ≡ true → Far (apply_record net.site v (Lease l (goal l)) d)
  unfolding apply_record
  raised d l f e = record {
    got = f.got;
    low = λ x. by_lane_eq x l (λ t. w.durable.lease x ≤ (if t then goal l else d.lease x))
        (λ is. subst (λ (y : Lane). w.durable.lease y ≤ goal l) (sym is) (omega (arith, f.low l, f.high l e))) (f.low x);
    high = λ x short. by_lane_eq x l (λ t. (if t then goal l else d.lease x) ≤ goal x) (λ is. subst (λ (y : Lane). goal l ≤ goal y) (sym is) (omega arith)) (f.high x short);
  }

  set_up : (d : Durable) (l x : Lane) → d.lease l ≤ goal l → d.lease x ≤ lane_set d.lease l (goal l) x
  set_up d l x h = by_lane_eq x l (λ t. d.lease x ≤ (if t then goal l else d.lease x)) (λ is. subst (λ (y : Lane). d.lease y ≤ goal l) (sym is) h) (omega arith)

  set_here : (d : Durable) (l x : Lane) → l ≡ x → goal x ≤ lane_set d.lease l (goal l) x
  set_here d l x is = elim (lane_eq x l) as (λ t. lane_eq x l ≡ t → goal x ≤ (if t then goal l else d.lease x)) [
    | true ↦ λ e. subst (λ (y : Lane). goal y ≤ goal l) is (omega arith)
    | false ↦ λ e. let same : lane_eq x l ≡ true = ap (lane_eq x) is ∙ lane_same x in absurd (not_both (lane_eq x l) same e)
  ] refl

  long_enough : (d : Durable) (l x : Lane) → Far d → is_short l ≡ false → l ≡ x → end_at x ≤ d.lease x
  long_enough d l x f e is =
      let no : nat_lt (w.durable.lease x) (end_at x) ≡ false = subst (λ (y : Lane). is_short y ≡ false) is e in
      let le : end_at x ≤ w.durable.lease x = grind (arith, nat_tests) in
      omega (arith, le, f.low x)

  lease_all : (ls : List Lane) → AreOutgoing net.site v ls → (d : Durable) → Far d → Leased d (flat_map leases_at ls) ls
  unfolding replay apply_record
  lease_all [] ok d f = record { may = tt; up = λ l. omega arith; reach = λ l h. cc; facts = refl; known = refl; own = refl }
  lease_all (l ∷ ls) ok d f =
      elim (is_short l) as (λ t. is_short l ≡ t → Leased d ((if t then Lease l (goal l) ∷ [] else []) ++ flat_map leases_at ls) (l ∷ ls)) [
        | true ↦ λ e. let r = lease_all ls ok.2 (apply_record net.site v (Lease l (goal l)) d) (raised d l f e) in
            record {
              may = ((ok.0, f.high l e, omega (arith, f.got l, goal_high l)), r.may);
              up = λ x. omega (arith, r.up x, set_up d l x (f.high l e));
              reach = λ x h. elim (or_cases (lane_eq l x) (list_any (λ y. lane_eq y x) ls) h) [
                | inl is ↦ omega (arith, r.up x, set_here d l x (lane_eq_from l x is), goal_low x)
                | inr later ↦ r.reach x later
              ];
              facts = r.facts;
              known = r.known;
              own = r.own;
            }
        | false ↦ λ e. let r = lease_all ls ok.2 d f in
            record {
              may = r.may;
              up = r.up;
              reach = λ x h. elim (or_cases (lane_eq l x) (list_any (λ y. lane_eq y x) ls) h) [
                | inl is ↦ omega (arith, r.up x, long_enough d l x f e (lane_eq_from l x is))
                | inr later ↦ r.reach x later
              ];
              facts = r.facts;
              known = r.known;
              own = r.own;
            }
      ] refl

  pub plan_leases : (ls : List Lane) → AreOutgoing net.site v ls → Leased w.durable (flat_map leases_at ls) ls
  plan_leases ls ok = lease_all ls ok w.durable
      (record { got = λ l. refl; low = λ l. omega arith; high = λ l e. let lt : w.durable.lease l < end_at l = grind (arith, nat_tests) in omega (arith, lt, goal_low l) })
