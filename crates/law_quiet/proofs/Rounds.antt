-- In silent rounds the table stays, and what is in flight gets older, until a lane over a link that is up is still.
use Rattle.std.proofs.Common.{◌≡◌, ℕ, ◌+◌, Bool, true, not, ◌||◌, List, [], ◌∷◌, refl, sym, ◌∙◌, ap, subst, arith, Some, inl, inr}
use Rattle.std.specs.Prelude.{◌==◌, nat_le, if◌then◌else◌}
use Rattle.std.specs.List.{list_any, list_all, AllByRecursion}
use Rattle.std.proofs.lemmas.Bool.Decides.{nat_tests}
use Rattle.qkd_base.specs.Name.{Name, has}
use Rattle.qkd_base.specs.Lane.{lane_eq}
use Rattle.qkd_base.specs.Route.{next_after}
use Rattle.qkd_base.specs.declared.lane.Lane.{Lane}
use Rattle.net_model.specs.declared.fact.Fact.{Fact}
use Rattle.net_model.specs.Table.{route_of, fact_at}
use Rattle.net_model.specs.Premises.{IsNetwork}
use Rattle.net_model.specs.Events.{is_lane}
use Rattle.net_model.specs.Site.{sender, receiver}
use Rattle.net_model.specs.World.{Network, World, Durable, Transmission, Entry, Volatile}
use Rattle.net_model.specs.Invariant.{Conserved}
use Rattle.net_model.specs.Step.{is_node}
use Rattle.law_base.proofs.Base.{by_test, eq_from, and_left, and_right, and_both, or_left, or_right, or_cases, not_both}
use Rattle.law_invariant.proofs.Effects.{apart_cases}
use Rattle.law_locality.specs.Quiet.{IsQuiet}
use Rattle.law_quiet.specs.Silent.{IsIdle, ticked, after_ticks, AreIdle, NoneAwaits}
use Rattle.law_quiet.specs.Still.{PutsNothing, flies_on, in_flight_for}
use Rattle.law_quiet.proofs.Delivering.{has_answer}
use Rattle.law_quiet.proofs.Standing.{older, still}
use Rattle.law_quiet.proofs.IdlePlans.{IsSameTable, puts_nothing, awaits_same}
use Rattle.law_quiet.proofs.IdleTicks.{planned, ticks}

-- What silent ticks leave of the world in which they began.
pub record IsCalm (net : Network) (w new : World) : Type 0 where
  pub conserved : Conserved net new
  pub quiet : IsQuiet new
  pub table : IsSameTable w.durable new.durable
  pub up : new.up ≡ w.up
  pub links : new.link_up ≡ w.link_up
  pub awaits : NoneAwaits new

younger : (l : Lane) (k : ℕ) (es : List Entry) → list_all (λ (e : Entry). not (flies_on l e) || nat_le (k + 1) e.age) es ≡ true →
    list_all (λ (e : Entry). not (flies_on l e) || nat_le k e.age) es ≡ true
younger l k [] h = refl
younger l k (e ∷ es) h =
    and_both (not (flies_on l e) || nat_le k e.age) _
    (elim (or_cases (not (flies_on l e)) (nat_le (k + 1) e.age) (and_left (not (flies_on l e) || nat_le (k + 1) e.age) _ h)) [
      | inl other ↦ or_left (not (flies_on l e)) _ other
      | inr old ↦ or_right (not (flies_on l e)) _ (less k e.age old)
    ])
    (younger l k es (and_right (not (flies_on l e) || nat_le (k + 1) e.age) _ h))
  where
    less : (k age : ℕ) → nat_le (k + 1) age ≡ true → nat_le k age ≡ true
    less k age old = grind (arith, nat_tests)

pub at_first : (l : Lane) (es : List Entry) → list_all (λ (e : Entry). not (flies_on l e) || nat_le 0 e.age) es ≡ true
at_first l [] = refl
at_first l (e ∷ es) = and_both (not (flies_on l e) || nat_le 0 e.age) _ (or_right (not (flies_on l e)) _ (none e.age)) (at_first l es)
  where
    none : (age : ℕ) → nat_le 0 age ≡ true
    none age = grind (arith, nat_tests)

module _ (net : Network) (network : IsNetwork net) (w : World) where
  abbrev pub AreNodes : List ℕ → Type 0
  AreNodes vs = AllByRecursion (λ (v : ℕ). is_node net v ≡ true) vs

  calm_tick : (x : World) → IsCalm net w x → (v : ℕ) → is_node net v ≡ true → IsIdle net x v → IsCalm net w (ticked net x v)
  calm_tick x calm v node idle =
      let t = ticks net x network calm.conserved calm.quiet v node idle in
      let p = planned net x network calm.conserved calm.quiet v node idle in
      record {
        conserved = t.conserved;
        quiet = t.quiet;
        table = record { facts = t.table.facts ∙ calm.table.facts; known = t.table.known ∙ calm.table.known; acked = t.table.acked ∙ calm.table.acked };
        up = t.up ∙ calm.up;
        links = t.links ∙ calm.links;
        awaits = λ u. elim (apart_cases u v) [
          | inl is ↦ subst (λ (k : ℕ). ((ticked net x v).volatile k).awaiting ≡ []) (sym is)
              (ap (λ (vol : Volatile). vol.awaiting) t.mine ∙ awaits_same net x v p.said ∙ calm.awaits v)
          | inr apart ↦ ap (λ (vol : Volatile). vol.awaiting) (t.others u apart) ∙ calm.awaits u
        ];
      }

  pub calm_turn : (x : World) → IsCalm net w x → (v : ℕ) → is_node net v ≡ true → (x.up v ≡ true → IsIdle net x v) → IsCalm net w (if x.up v then ticked net x v else x)
  calm_turn x calm v node idle = by_test (IsCalm net w) (x.up v) _ _ (λ up. calm_tick x calm v node (idle up)) (λ down. calm)

  pub calm_round : (vs : List ℕ) → AreNodes vs → (x : World) → IsCalm net w x → AreIdle net x vs → IsCalm net w (after_ticks net x vs)
  calm_round [] nodes x calm idle = calm
  calm_round (v ∷ vs) nodes x calm idle = calm_round vs nodes.1 (if x.up v then ticked net x v else x) (calm_turn x calm v nodes.0 idle.0) idle.1

  -- A lane over a link that is up, whose sender is up.
  module _ (l : Lane) (site : is_lane net.site l ≡ true) (joined : w.link_up l.link ≡ true) (alive : w.up (sender net.site l) ≡ true) where
    abbrev from : ℕ
    from = sender net.site l

    -- What is in flight there has seen so many plans.
    abbrev pub IsOld : ℕ → World → Type 0
    IsOld k x = in_flight_for k l (x.volatile from) ≡ true

    pub puts : (x : World) → IsCalm net w x → is_node net from ≡ true → IsIdle net x from → PutsNothing net x l
    puts x calm node idle =
        puts_nothing net x from (planned net x network calm.conserved calm.quiet from node idle).said network l site refl (ap (λ (f : ℕ → Bool). f l.link) calm.links ∙ joined)

    -- The sender's own tick makes it older, and no other tick changes it.

    own_tick : (k : ℕ) (x : World) → IsCalm net w x → is_node net from ≡ true → IsIdle net x from → IsOld k x → IsOld (k + 1) (ticked net x from)
    own_tick k x calm node idle old =
        ap (in_flight_for (k + 1) l) (ticks net x network calm.conserved calm.quiet from node idle).mine ∙ older net x l (puts x calm node idle) k old

    any_tick : (k : ℕ) (x : World) → IsCalm net w x → (v : ℕ) → is_node net v ≡ true → IsIdle net x v → IsOld k x → IsOld k (ticked net x v)
    any_tick k x calm v node idle old = elim (apart_cases from v) [
      | inl is ↦ subst (λ (u : ℕ). is_node net u ≡ true → IsIdle net x u → IsOld k (ticked net x u)) is
          (λ node' idle'. younger l k ((ticked net x from).volatile from).window (own_tick k x calm node' idle' old)) node idle
      | inr apart ↦ ap (in_flight_for k l) ((ticks net x network calm.conserved calm.quiet v node idle).others from apart) ∙ old
    ]

    any_turn : (k : ℕ) (x : World) → IsCalm net w x → (v : ℕ) → is_node net v ≡ true → (x.up v ≡ true → IsIdle net x v) → IsOld k x → IsOld k (if x.up v then ticked net x v else x)
    any_turn k x calm v node idle old = by_test (IsOld k) (x.up v) _ _ (λ up. any_tick k x calm v node (idle up) old) (λ down. old)

    any_round : (k : ℕ) (vs : List ℕ) → AreNodes vs → (x : World) → IsCalm net w x → AreIdle net x vs → IsOld k x → IsOld k (after_ticks net x vs)
    any_round k [] nodes x calm idle old = old
    any_round k (v ∷ vs) nodes x calm idle old =
        any_round k vs nodes.1 (if x.up v then ticked net x v else x) (calm_turn x calm v nodes.0 idle.0) idle.1 (any_turn k x calm v nodes.0 idle.0 old)

    pub alive_still : (x : World) → IsCalm net w x → x.up from ≡ true
    alive_still x calm = ap (λ (f : ℕ → Bool). f from) calm.up ∙ alive

    own_turn : (k : ℕ) (x : World) → IsCalm net w x → (v : ℕ) → v ≡ from → is_node net v ≡ true → (x.up v ≡ true → IsIdle net x v) → IsOld k x →
        IsOld (k + 1) (if x.up v then ticked net x v else x)
    own_turn k x calm v is node idle old =
        by_test (IsOld (k + 1)) (x.up v) _ _
        (λ up. subst (λ (u : ℕ). is_node net u ≡ true → IsIdle net x u → IsOld (k + 1) (ticked net x u)) (sym is) (λ node' idle'. own_tick k x calm node' idle' old) node (idle up))
        (λ down. absurd (not_both (x.up from) (alive_still x calm) (ap x.up (sym is) ∙ down)))

    -- So in a round of all nodes it gets one tick older.
    pub ages : (k : ℕ) (vs : List ℕ) → AreNodes vs → list_any (λ v. v == from) vs ≡ true → (x : World) → IsCalm net w x → AreIdle net x vs → IsOld k x →
        IsOld (k + 1) (after_ticks net x vs)
    ages k [] nodes on x calm idle old = cc
    ages k (v ∷ vs) nodes on x calm idle old = elim (or_cases (v == from) _ on) [
      | inl is ↦
          any_round (k + 1) vs nodes.1 (if x.up v then ticked net x v else x) (calm_turn x calm v nodes.0 idle.0) idle.1
          (own_turn k x calm v (eq_from v from is) nodes.0 idle.0 old)
      | inr later ↦
          ages k vs nodes.1 later (if x.up v then ticked net x v else x) (calm_turn x calm v nodes.0 idle.0) idle.1 (any_turn k x calm v nodes.0 idle.0 old)
    ]

    -- Each fact that the sender knows, and that goes this way, has the receiver's acknowledgement.
    abbrev pub IsPaid : Durable → Type 0
    IsPaid d = (n : Name) (f : Fact) → fact_at d.facts n ≡ Some f → next_after (route_of f) from ≡ Some (receiver net.site l) → has (d.known from) n ≡ true →
        has (d.acked from) n ≡ true

    pub paid_before : (a b : Durable) → IsSameTable a b → IsPaid b → IsPaid a
    paid_before a b same paid n f there next knows =
        sym (ap (λ (acked : ℕ → List Name). has (acked from) n) same.acked) ∙
        paid n f (ap (λ (facts : List Fact). fact_at facts n) same.facts ∙ there) next (ap (λ (known : ℕ → List Name). has (known from) n) same.known ∙ knows)

    pub none_awaited : (x : World) → IsCalm net w x → not (list_any (λ (t : Transmission). lane_eq t.lane l) (x.volatile from).awaiting) ≡ true
    none_awaited x calm = ap (λ (ts : List Transmission). not (list_any (λ (t : Transmission). lane_eq t.lane l) ts)) (calm.awaits from)

    paid_here : (x : World) → IsCalm net w x → is_node net from ≡ true → IsIdle net x from → IsOld 3 x → IsPaid w.durable
    paid_here x calm node idle old =
        let s = still net x l (puts x calm node idle) calm.conserved (none_awaited x calm) old in
        paid_before w.durable x.durable calm.table
        (λ n f there next knows. has_answer net x n f there from (receiver net.site l) next (ap (λ (ns : List Name). has ns n) s.owes) knows)

    -- In the fourth round the sender's plan shows it.
    pub pays : (vs : List ℕ) → AreNodes vs → list_any (λ v. v == from) vs ≡ true → (x : World) → IsCalm net w x → AreIdle net x vs → IsOld 3 x → IsPaid w.durable
    pays [] nodes on x calm idle old = cc
    pays (v ∷ vs) nodes on x calm idle old = elim (or_cases (v == from) _ on) [
      | inl is ↦
          let e : v ≡ from = eq_from v from is in
          subst (λ (u : ℕ). is_node net u ≡ true → (x.up u ≡ true → IsIdle net x u) → IsPaid w.durable) (sym e)
          (λ node idle'. paid_here x calm node (idle' (alive_still x calm)) old) nodes.0 idle.0
      | inr later ↦ pays vs nodes.1 later (if x.up v then ticked net x v else x) (calm_turn x calm v nodes.0 idle.0) idle.1 (any_turn 3 x calm v nodes.0 idle.0 old)
    ]
