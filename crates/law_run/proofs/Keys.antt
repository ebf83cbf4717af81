-- In every run, all clauses of the headline on keys and lane bytes hold.
use Rattle.std.proofs.Common.{◌≡◌, ◌∙◌, ℕ, zero, suc, ◌<◌, ◌≤◌, true, ◌&&◌, List, [], ◌∷◌, length, ap, subst, Option, Some, arith}
use Rattle.std.specs.Prelude.{nat_le, nat_lt, slice_get, take}
use Rattle.std.proofs.lemmas.Bool.Decides.{nat_tests}
use Rattle.qkd_base.specs.Name.{Name}
use Rattle.net_model.specs.declared.event.Event.{Event}
use Rattle.net_model.specs.declared.event.Event.TheVariants.{EncGroup}
use Rattle.net_model.specs.World.{Network, World, Allocation}
use Rattle.net_model.specs.Ownership.{covers}
use Rattle.net_model.specs.Premises.{IsNetwork}
use Rattle.net_model.specs.Invariant.{Conserved}
use Rattle.net_model.specs.Events.{are_slaves, is_count, is_rising, is_valid_event}
use Rattle.net_model.specs.Streams.{is_size}
use Rattle.net_model.specs.Action.{Action, Ask, Environment, is_shown, environment_of}
use Rattle.net_model.specs.Step.{step, run, is_enabled, is_node, is_asked, IsStep, IsRun}
use Rattle.net_model.specs.Deliveries.{Delivery, of_step}
use Rattle.law_base.proofs.Base.{and_left, and_right}
use Rattle.law_base.proofs.Grow.{Grows}
use Rattle.law_invariant.proofs.Steps.{run_keeps}
use Rattle.law_safety.proofs.Replies.{handled_true}
use Rattle.law_safety.proofs.Worlds.{grows_step}
use Rattle.law_locality.proofs.Runs.{first_step, later_steps}
use Rattle.run_model.specs.Course.{Course, whole_run, world_after, last_world}
use Rattle.run_model.specs.Keys.{AreBytesOf, Covers}
use Rattle.run_model.specs.Begin.{MayBegin}
use Rattle.qkd_base.specs.declared.lane.Lane.{Lane}
use Rattle.law_safety.proofs.Covers.{in_range}
use Rattle.law_run.proofs.Fronts.{front_is_run}
use Rattle.law_run.proofs.Owned.{one_place}
use Rattle.law_run.proofs.Continuing.{run_owns, frames_above}

pub got_within : {A : Type 0} (xs : List A) (i : ℕ) (x : A) → slice_get xs i ≡ Some x → i < length xs
got_within [] i x h = cc
got_within (y ∷ xs) zero x h = omega arith
got_within (y ∷ xs) (suc i) x h = let more = got_within xs i x h in omega arith

-- Each action of a run may happen in the world before it.
step_at : (net : Network) (k : ℕ) (w : World) (xs : List Action) (a : Action) → IsRun net w xs → slice_get xs k ≡ Some a → IsStep net (run net w (take k xs)) a
unfolding run
step_at net k w [] a h at = cc
step_at net zero w (x ∷ xs) a h at = let is : x ≡ a = cc in subst (λ (y : Action). IsStep net w y) is (first_step net w x xs h)
step_at net (suc k) w (x ∷ xs) a h at = step_at net k (step net w x).0 xs a (later_steps net w x xs h) at

-- Facts stay in the table during a run.
grows_run : (net : Network) (w : World) (xs : List Action) → Grows w.durable.facts (run net w xs).durable.facts
unfolding run
grows_run net w [] n f h = h
grows_run net w (x ∷ xs) n f h = grows_run net (step net w x).0 xs n f (grows_step net w x n f h)

facts_stay : (net : Network) (k : ℕ) (w : World) (xs : List Action) → Grows (run net w (take k xs)).durable.facts (run net w xs).durable.facts
unfolding run
facts_stay net zero w [] n f h = h
facts_stay net zero w (x ∷ xs) n f h = grows_run net (step net w x).0 xs n f (grows_step net w x n f h)
facts_stay net (suc k) w [] n f h = h
facts_stay net (suc k) w (x ∷ xs) n f h = facts_stay net k (step net w x).0 xs n f h

pub bytes_stay : (c : Course) (k : ℕ) (n : Name) (bytes : List ℕ) → AreBytesOf (world_after c k).durable.facts n bytes → AreBytesOf (last_world c).durable.facts n bytes
bytes_stay c k n bytes h =
    record {
      name = h.name;
      fact = h.fact;
      there = facts_stay c.net k c.begin (whole_run c) h.name h.fact h.there;
      is_secret = h.is_secret;
      is = h.is;
      bytes_are = h.bytes_are;
    }

-- A group of at least two slaves isn't empty.
two_or_more : (n : ℕ) → nat_le 2 n ≡ true → 0 < n
two_or_more n h = grind (arith, nat_tests)

enabled_group : (net : Network) (w : World) (v m n bits : ℕ) (slaves : List ℕ) (environment : Environment) → is_enabled net w (Ask v (EncGroup m slaves n bits) environment) ≡ true → 0 < length slaves
unfolding is_enabled is_valid_event
enabled_group net w v m n bits slaves environment h =
    let valid = and_right (is_node net v && true) (are_slaves slaves && is_count n && is_size bits) h in
    let prefix = and_left (are_slaves slaves && is_count n) (is_size bits) valid in
    let slaved = and_left (are_slaves slaves) (is_count n) prefix in
    let sizes = and_left (nat_le 2 (length slaves) && nat_le (length slaves) 5) (is_rising slaves) slaved in
    two_or_more (length slaves) (and_left (nat_le 2 (length slaves)) (nat_le (length slaves) 5) sizes)

pub group_has_slaves : (c : Course) → IsRun c.net c.begin (whole_run c) → (k v m n bits : ℕ) (slaves : List ℕ) (environment : Environment) →
    slice_get (whole_run c) k ≡ Some (Ask v (EncGroup m slaves n bits) environment) → 0 < length slaves
group_has_slaves c r k v m n bits slaves environment at =
    let a : Action = Ask v (EncGroup m slaves n bits) environment in
    let now : IsStep c.net (world_after c k) a = step_at c.net k c.begin (whole_run c) a r at in
    enabled_group c.net (world_after c k) v m n bits slaves environment (and_left (is_enabled c.net (world_after c k) a) (is_shown (environment_of a) (step c.net (world_after c k) a).1) now)

asked_at : (net : Network) (w : World) (v : ℕ) (event : Event) (environment : Environment) → is_enabled net w (Ask v event environment) ≡ true →
    (v < net.site.nodes) × (is_asked event ≡ true) × (is_valid_event net.site v event ≡ true)
unfolding is_enabled
asked_at net w v event environment h =
    let prefix = and_left (is_node net v && is_asked event) (is_valid_event net.site v event) h in (
      below v net.site.nodes (and_left (is_node net v) (is_asked event) prefix),
      and_right (is_node net v) (is_asked event) prefix,
      and_right (is_node net v && is_asked event) (is_valid_event net.site v event) h,
    )
  where
    below : (a b : ℕ) → nat_lt a b ≡ true → a < b
    below a b h = grind (arith, nat_tests)

-- A reply hands out keys only to applications that are at home at its node.
home_of : (net : Network) (w : World) (v : ℕ) (event : Event) (environment : Environment) → IsNetwork net → Conserved net w → is_enabled net w (Ask v event environment) ≡ true →
    (i : ℕ) (d : Delivery) → slice_get (of_step net w (Ask v event environment) (step net w (Ask v event environment)).1) i ≡ Some d → net.site.home d.sae ≡ v
unfolding step
home_of net w v event environment network k enabled i d at =
    let asked = asked_at net w v event environment enabled in
    (handled_true net w v event environment network k asked.0 asked.1 asked.2).home i d at

pub conserved_after : (c : Course) → IsNetwork c.net → Conserved c.net c.begin → IsRun c.net c.begin (whole_run c) → (k : ℕ) → Conserved c.net (world_after c k)
conserved_after c network begin r k = run_keeps c.net c.begin (take k (whole_run c)) network begin (front_is_run c.net c.begin (whole_run c) k r)

pub handed_at_home : (c : Course) → IsNetwork c.net → Conserved c.net c.begin → IsRun c.net c.begin (whole_run c) → (k v i : ℕ) (event : Event) (environment : Environment) (d : Delivery) →
    slice_get (whole_run c) k ≡ Some (Ask v event environment) →
    slice_get (of_step c.net (world_after c k) (Ask v event environment) (step c.net (world_after c k) (Ask v event environment)).1) i ≡ Some d → c.net.site.home d.sae ≡ v
handed_at_home c network begin r k v i event environment d at given =
    let a : Action = Ask v event environment in
    let now : IsStep c.net (world_after c k) a = step_at c.net k c.begin (whole_run c) a r at in
    home_of c.net (world_after c k) v event environment network (conserved_after c network begin r k)
    (and_left (is_enabled c.net (world_after c k) a) (is_shown (environment_of a) (step c.net (world_after c k) a).1) now) i d given

-- A frame's bytes are behind those leased at the beginning, and below the leased end.
pub is_apart : (c : Course) → IsNetwork c.net → MayBegin c.net c.begin → IsRun c.net c.begin (whole_run c) → Conserved c.net (last_world c) → (l : Lane) (j x : ℕ) (a : Allocation) →
    slice_get ((last_world c).frames l) j ≡ Some a → Covers (last_world c) a x → (c.begin.durable.lease l ≤ x) × (x < (last_world c).durable.lease l)
is_apart c network begins r last l j x a at range =
    let w : World = last_world c in
    let covered : covers w.durable.facts (slice_get (w.frames l) j) x ≡ true =
    ap (λ (o : Option Allocation). covers w.durable.facts o x) at ∙ in_range w.durable.facts a x range.0 range.1 in
    let within = got_within (w.durable.own l) x _ (one_place c.net w last l j x a at range.0 range.1) in
    let planned = (last.now.room l).planned in (
      frames_above c.net c.begin w begins.rest begins.conserved last (run_owns c.net network (whole_run c) c.begin begins.conserved r) l j x covered,
      omega (arith, within, planned),
    )
