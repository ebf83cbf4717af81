-- Every action keeps what is awaited on its way, so in every run a quiet network awaits nothing.
use Rattle.std.proofs.Common.{◌≡◌, ℕ, ◌+◌, ◌≤◌, Bool, true, false, ◌&&◌, ◌||◌, List, [], ◌∷◌, refl, sym, ◌∙◌, ap, subst, arith, inl, inr, Some}
use Rattle.std.specs.Prelude.{◌==◌, nat_lt, count_by, slice_get, if◌then◌else◌}
use Rattle.std.specs.List.{list_any, list_all, AllByRecursion}
use Rattle.std.proofs.lemmas.Bool.{ltb-true}
use Rattle.qkd_base.specs.Family.{number_set}
use Rattle.qkd_base.specs.Name.{Name}
use Rattle.qkd_base.specs.Lane.{lane_eq}
use Rattle.qkd_base.specs.declared.lane.Lane.{Lane}
use Rattle.net_model.specs.declared.event.Event.TheVariants.{Note}
use Rattle.net_model.specs.declared.placing.Placing.{Placing}
use Rattle.net_model.specs.declared.reply.Reply.TheVariants.{Noted}
use Rattle.net_model.specs.Premises.{IsNetwork}
use Rattle.net_model.specs.Journal.{journal_limit, added_len, is_nil}
use Rattle.net_model.specs.Site.{sender, outgoing_lanes}
use Rattle.net_model.specs.World.{Network, World, Allocation, Transmission, Outgoing, Volatile, no_volatile, first}
use Rattle.net_model.specs.Needed.{masked, view_of}
use Rattle.net_model.specs.Window.{transmission_eq, complete}
use Rattle.net_model.specs.Decision.{Effect}
use Rattle.net_model.specs.Decide.{decide, random_need}
use Rattle.net_model.specs.Invariant.{Conserved}
use Rattle.net_model.specs.Action.{Ok, Action, Start, Crash, Arm, SetLink, TakeBlock, Ask, Allocate, Transmit, Complete, Deliver, Flip, Forge, Outcome, is_shown, environment_of}
use Rattle.net_model.specs.Handle.{commit, perform, handle}
use Rattle.net_model.specs.Step.{complete_node, step, is_node, is_sent, is_enabled, is_step, run, is_run, IsRun}
use Rattle.law_base.proofs.Base.{by_number, by_test, and_left, and_right, or_cases, not_both, lane_eq_from, eq_from}
use Rattle.law_base.proofs.Lists.{all_at, any_of, order_at, transmission_same}
use Rattle.law_invariant.proofs.Steps.{first_keeps, step_keeps}
use Rattle.law_locality.specs.Quiet.{IsQuiet}
use Rattle.law_quiet.specs.Awaited.{brings, tells_of, IsOnItsWay, lies_at, told_at, waits_at, times_at, IsAwaited}
use Rattle.law_quiet.specs.Silent.{NoneAwaits}
use Rattle.law_quiet.proofs.Completed.{AreApart, still_awaited, told_off, all_placed}
use Rattle.law_quiet.proofs.AwaitedSteps.{take_block_awaited, ask_awaited, deliver_awaited, tampered_awaited, flip_awaited, start_awaited, crash_awaited}
use Rattle.law_quiet.proofs.AwaitedClaims.{claims}
use Rattle.law_quiet.proofs.AwaitedPuts.{transmits}
use Rattle.law_quiet.proofs.Counts.{count_zero}

nothing_in : {A : Type 0} (xs : List A) → ((i : ℕ) (x : A) → slice_get xs i ≡ Some x → ⊥) → xs ≡ []
nothing_in [] h = refl
nothing_in (x ∷ xs) h = absurd (h 0 x refl)

is_none : {A : Type 0} (xs : List A) → is_nil xs ≡ true → xs ≡ []
is_none [] h = refl
is_none (x ∷ xs) h = cc

at_lane : (q : Lane → Bool) (ls : List Lane) (l : Lane) → list_all q ls ≡ true → list_any (λ k. lane_eq k l) ls ≡ true → q l ≡ true
at_lane q [] l all on = cc
at_lane q (k ∷ ls) l all on = elim (or_cases (lane_eq k l) (list_any (λ m. lane_eq m l) ls) on) [
  | inl is ↦ subst (λ (m : Lane). q m ≡ true) (lane_eq_from k l is) (and_left (q k) (list_all q ls) all)
  | inr later ↦ at_lane q ls l (and_right (q k) (list_all q ls) all) later
]

module _ (net : Network) (w : World) (c : Conserved net w) (h : IsAwaited net w) (v : ℕ) where
  abbrev placings : List Placing
  placings = w.placings v

  -- The manager's window and its placings have no place twice.

  away : (l : Lane) → (sender net.site l ≡ v → ⊥) → (k : Lane) → sender net.site k ≡ v → (b : Bool) → lane_eq k l ≡ b → b ≡ false
  away l far k at true e = absurd (far (ap (sender net.site) (sym (lane_eq_from k l e)) ∙ at))
  away l far k at false e = refl

  none_and : (a b : Bool) → a ≡ false → (a && b) ≡ false
  none_and true b e = cc
  none_and false b e = refl

  and_none : (a b : Bool) → b ≡ false → (a && b) ≡ false
  and_none true b e = e
  and_none false b e = refl

  apart : AreApart (w.volatile v) placings
  apart l x = elim (sender net.site l == v) as (λ b. (sender net.site l == v) ≡ b → count_by (lies_at l x) (w.volatile v).window + count_by (told_at l x) placings ≤ 1) [
    | true ↦ λ e.
        let is = eq_from (sender net.site l) v e in
        let old = h.once l x in
        let a = ap (λ (u : ℕ). count_by (lies_at l x) (w.volatile u).window) is in
        let b = ap (λ (u : ℕ). count_by (told_at l x) (w.placings u)) is in
        omega (arith, old, a, b)
    | false ↦ λ e.
        let far : sender net.site l ≡ v → ⊥ = λ is. not_both (sender net.site l == v) (ap (λ (u : ℕ). u == v) is ∙ same v) e in
        let a = count_zero (lies_at l x) (w.volatile v).window (λ i y at. none_and (lane_eq y.transmission.lane l) (y.offset == x) (away l far y.transmission.lane ((c.volatile v).entries i y at).lane _ refl)) in
        let b = count_zero (told_at l x) placings (λ i y at. and_none y.fresh _ (none_and (lane_eq y.lane l) (y.offset == x) (away l far y.lane (c.placed v i y at).lane _ refl))) in
        omega (arith, a, b)
  ] refl
    where
      same : (u : ℕ) → (u == u) ≡ true
      same u = rw (eq_self u) refl
        where
          eq_self : (u : ℕ) → (u == u) ≡ true
          eq_self u = Rattle.law_base.proofs.Base.eq_same u

  -- Once all its orders are claimed and put, a manager that notes its placings awaits nothing.

  abbrev told : List Name → Volatile
  told acked = complete acked (w.volatile v) placings

  awaits_none : is_enabled net w (Complete v) ≡ true → (acked : List Name) → (told acked).awaiting ≡ []
  unfolding is_enabled
  awaits_none may acked = nothing_in (told acked).awaiting (λ i t at.
      let here = any_of (transmission_eq t) (told acked).awaiting t i at (transmission_same t) in
      let old = order_at t (w.volatile v).awaiting (still_awaited acked t (w.volatile v) placings here) in
      let way = all_at (IsOnItsWay net w v) (w.volatile v).awaiting old.0 t (h.coming v) old.1 in
      let sent = at_lane (λ l. is_nil (w.unclaimed l) && is_nil (w.outgoing l)) (outgoing_lanes net.site v) t.lane (and_right (is_node net v) (is_sent net w v) may) way.0 in
      let orders = is_none (w.unclaimed t.lane) (and_left (is_nil (w.unclaimed t.lane)) (is_nil (w.outgoing t.lane)) sent) in
      let puts = is_none (w.outgoing t.lane) (and_right (is_nil (w.unclaimed t.lane)) (is_nil (w.outgoing t.lane)) sent) in
      let left : list_any (tells_of t) placings ≡ true =
      sym (ap (λ (ts : List Transmission). list_any (transmission_eq t) ts || (list_any (brings t) (w.outgoing t.lane) || list_any (tells_of t) placings)) orders ∙
      ap (λ (os : List Outgoing). list_any (brings t) os || list_any (tells_of t) placings) puts) ∙ way.1 in
      not_both (list_any (transmission_eq t) (told acked).awaiting) here (told_off acked t (w.volatile v) placings apart left))

  -- The world after the note, of which only the manager's memory matters.
  record IsTold (x : World) : Type 0 where
    mine : Volatile
    volatile : (u : ℕ) → x.volatile u ≡ number_set w.volatile v mine u
    unclaimed : (l : Lane) → x.unclaimed l ≡ w.unclaimed l
    outgoing : (l : Lane) → x.outgoing l ≡ w.outgoing l
    frames : x.frames ≡ w.frames
    awaits : mine.awaiting ≡ []
    places : (l : Lane) (k : ℕ) → count_by (lies_at l k) mine.window ≤ count_by (lies_at l k) (w.volatile v).window + count_by (told_at l k) placings

  module _ (x : World) (s : IsTold x) where
    abbrev noted : World
    noted = record x { placings = number_set w.placings v [] }

    noted_coming : (u : ℕ) → AllByRecursion (IsOnItsWay net noted u) (noted.volatile u).awaiting
    noted_coming u =
        subst (λ (vol : Volatile). AllByRecursion (IsOnItsWay net noted u) vol.awaiting) (sym (s.volatile u))
        (by_number (λ k b. AllByRecursion (λ (t : Transmission). (list_any (λ m. lane_eq m t.lane) (outgoing_lanes net.site k) ≡ true) ×
        ((list_any (transmission_eq t) (x.unclaimed t.lane) || (list_any (brings t) (x.outgoing t.lane) || list_any (tells_of t) (if b then [] else w.placings k))) ≡ true))
        (if b then s.mine else w.volatile k).awaiting) v (subst (AllByRecursion _) (sym s.awaits) tt)
        (λ k ne. all_so (λ t way. (
          way.0,
          ap (λ (ts : List Transmission). list_any (transmission_eq t) ts || (list_any (brings t) (x.outgoing t.lane) || list_any (tells_of t) (w.placings k))) (s.unclaimed t.lane) ∙
              ap (λ (os : List Outgoing). list_any (transmission_eq t) (w.unclaimed t.lane) || (list_any (brings t) os || list_any (tells_of t) (w.placings k))) (s.outgoing t.lane) ∙ way.1,
        )) (w.volatile k).awaiting (h.coming k)) u)
      where
        all_so : {P Q : Transmission → Type 0} → ((t : Transmission) → P t → Q t) → (ts : List Transmission) → AllByRecursion P ts → AllByRecursion Q ts
        all_so so [] all = tt
        all_so so (t ∷ ts) all = (so t all.0, all_so so ts all.1)

    noted_once : (l : Lane) (k : ℕ) → times_at net noted l k ≤ 1
    noted_once l k =
        let volatile = ap (λ (vol : Volatile). count_by (lies_at l k) vol.window) (s.volatile (sender net.site l)) in
        let frames = ap (λ (fs : Lane → List Allocation). count_by (waits_at (fs l) k) (x.outgoing l)) s.frames in
        let outgoing = ap (count_by (waits_at (w.frames l) k)) (s.outgoing l) in
        let old = h.once l k in
        let both =
        by_number (λ u b. count_by (lies_at l k) (if b then s.mine else w.volatile u).window + count_by (told_at l k) (if b then [] else w.placings u) ≤
        count_by (lies_at l k) (w.volatile u).window + count_by (told_at l k) (w.placings u)) v (let places = s.places l k in omega (arith, places)) (λ u ne. omega arith) (sender net.site l) in
        omega (arith, volatile, frames, outgoing, old, both)

    is_noted : IsAwaited net noted
    is_noted = record { coming = noted_coming; once = noted_once }

  abbrev Told : World × Outcome → Type 0
  Told r = IsTold r.0

  abbrev effect : List Name → Effect
  effect acked = record { batch = []; volatile = told acked; orders = []; repeats = []; reply = Noted }

  committed : is_enabled net w (Complete v) ≡ true → (acked : List Name) → IsTold (commit net.site w v 0 (effect acked))
  unfolding commit
  committed may acked = record {
    mine = told acked;
    volatile = λ u. refl;
    unclaimed = λ l. refl;
    outgoing = λ l. refl;
    frames = refl;
    awaits = awaits_none may acked;
    places = λ l k. all_placed acked l k (w.volatile v) placings apart;
  }

  roomy : nat_lt journal_limit ((w.journal v).length' + added_len (w.journal v).version []) ≡ true → ⊥
  roomy full =
      let over = ltb-true journal_limit ((w.journal v).length' + added_len (w.journal v).version []) full in
      elim (c.journals v) [
        | inl empty ↦ omega (arith, over, empty)
        | inr (low, high, start) ↦ omega (arith, over, high)
      ]

  performed : is_enabled net w (Complete v) ≡ true → (acked : List Name) → Told (perform net w v 0 Ok (effect acked))
  unfolding perform
  performed may acked =
      by_test Told (nat_lt journal_limit ((w.journal v).length' + added_len (w.journal v).version [])) _ (commit net.site w v 0 (effect acked), _)
      (λ full. absurd (roomy full)) (λ t. committed may acked)

  rests : w.up v ≡ false → IsTold w
  rests down =
      let none = c.resting v down in
      record {
        mine = no_volatile;
        volatile = by_number (λ u b. w.volatile u ≡ (if b then no_volatile else w.volatile u)) v none (λ u ne. refl);
        unclaimed = λ l. refl;
        outgoing = λ l. refl;
        frames = refl;
        awaits = refl;
        places = λ l k. omega arith;
      }

  told_all : is_enabled net w (Complete v) ≡ true → Told (handle net w v (Note placings) Ok)
  unfolding handle decide random_need view_of masked
  told_all may = by_test Told (w.up v) _ _ (λ up. performed may (w.durable.acked v)) (λ down. rests down)

  pub completes : is_enabled net w (Complete v) ≡ true → IsAwaited net (complete_node net w v).0
  completes may = is_noted (handle net w v (Note placings) Ok).0 (told_all may)

-- Actions and runs.

pub action_awaited : (net : Network) (w : World) → IsNetwork net → Conserved net w → IsAwaited net w → (a : Action) → is_enabled net w a ≡ true → IsAwaited net (step net w a).0
unfolding step
action_awaited net w network c h (Start v recovery) may = start_awaited net w c h v recovery
action_awaited net w network c h (Crash v) may = crash_awaited net w c h v
action_awaited net w network c h (Arm v fault) may = h
action_awaited net w network c h (SetLink link up) may = record { coming = h.coming; once = h.once }
action_awaited net w network c h (TakeBlock v link environment) may = take_block_awaited net w c h v link environment
action_awaited net w network c h (Ask v event environment) may = ask_awaited net w c h network v event environment may
action_awaited net w network c h (Allocate t) may = claims net w c h t
action_awaited net w network c h (Transmit l j environment) may = transmits net w c h l j environment
action_awaited net w network c h (Complete v) may = completes net w c h v may
action_awaited net w network c h (Deliver l number environment) may = deliver_awaited net w c h l environment number
action_awaited net w network c h (Flip l number bit environment) may = flip_awaited net w c h l environment number bit
action_awaited net w network c h (Forge l octets environment) may = tampered_awaited net w c h l environment octets

pub first_awaited : (net : Network) → IsAwaited net first
unfolding first
first_awaited net = record { coming = λ v. tt; once = λ l x. omega arith }

run_from : (net : Network) → IsNetwork net → (actions : List Action) (w : World) → Conserved net w → IsAwaited net w → IsRun net w actions → IsAwaited net (run net w actions)
unfolding run is_run
run_from net network [] w c h r = h
run_from net network (a ∷ actions) w c h r =
    let new : World = (step net w a).0 in
    let here = and_left (is_step net w a) (is_run net new actions) r in
    run_from net network actions new (step_keeps net w a network here c)
    (action_awaited net w network c h a (and_left (is_enabled net w a) (is_shown (environment_of a) (step net w a).1) here))
    (and_right (is_step net w a) (is_run net new actions) r)

pub run_awaited : (net : Network) (actions : List Action) → IsNetwork net → IsRun net first actions → IsAwaited net (run net first actions)
run_awaited net actions network r = run_from net network actions first (first_keeps net) (first_awaited net) r

-- In a quiet network nothing is on its way.
pub quiet_awaits : (net : Network) (w : World) → IsAwaited net w → IsQuiet w → NoneAwaits w
quiet_awaits net w h quiet v = nothing_in (w.volatile v).awaiting (λ i t at.
    let way = all_at (IsOnItsWay net w v) (w.volatile v).awaiting i t (h.coming v) at in
    let none : false ≡ true =
    sym (ap (λ (ts : List Transmission). list_any (transmission_eq t) ts || (list_any (brings t) (w.outgoing t.lane) || list_any (tells_of t) (w.placings v))) (quiet.claimed t.lane) ∙
    ap (λ (os : List Outgoing). list_any (brings t) os || list_any (tells_of t) (w.placings v)) (quiet.put t.lane) ∙
    ap (list_any (tells_of t)) (quiet.noted v)) ∙ way.1 in
    cc)
