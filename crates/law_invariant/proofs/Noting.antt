-- Telling a manager what became of its frames keeps the conserved properties.
use Rattle.std.proofs.Common.{◌≡◌, ℕ, ◌+◌, ◌≤◌, true, false, [], refl, ap, subst, arith, Some}
use Rattle.std.specs.Prelude.{nat_lt, slice_get, if◌then◌else◌}
use Rattle.qkd_base.specs.Family.{number_set}
use Rattle.net_model.specs.declared.placing.Placing.{Placing}
use Rattle.net_model.specs.declared.event.Event.TheVariants.{Note}
use Rattle.net_model.specs.declared.reply.Reply.TheVariants.{Noted}
use Rattle.net_model.specs.World.{Network, World, Volatile, Journal, no_volatile}
use Rattle.net_model.specs.Needed.{view_of, masked}
use Rattle.net_model.specs.Records.{replay}
use Rattle.net_model.specs.Journal.{journal_limit, extended, is_blank}
use Rattle.net_model.specs.Window.{complete}
use Rattle.net_model.specs.Decision.{Effect}
use Rattle.net_model.specs.Decide.{decide, random_need}
use Rattle.net_model.specs.Action.{Ok, Outcome}
use Rattle.net_model.specs.Handle.{commit, perform, handle}
use Rattle.net_model.specs.Windows.{IsPlaced, IsVolatile}
use Rattle.net_model.specs.Invariant.{IsJournal, HasRoomFor, Conserved}
use Rattle.net_model.specs.Premises.{IsNetwork}
use Rattle.net_model.specs.Step.{complete_node}
use Rattle.law_base.proofs.Base.{by_number, by_test, not_both}
use Rattle.law_base.proofs.Growth.{Outgrows, volatile_stays, placed_stays, drawn_stays}
use Rattle.law_invariant.proofs.Completing.{placings_keep}

no_octets : (j : Journal) → j ≡ extended j 0
no_octets j = let e : j.length' ≡ j.length' + 0 = omega arith in ap (λ (n : ℕ). record j { length' = n }) e

module _ (net : Network) (w : World) (v : ℕ) (network : IsNetwork net) (c : Conserved net w) where
  abbrev noted : Volatile
  noted = complete (w.durable.acked v) (w.volatile v) (w.placings v)

  noted_is : IsVolatile net w v noted
  noted_is = placings_keep net w v c (w.durable.acked v) (w.volatile v) (w.placings v) (c.placed v) (c.volatile v)

  abbrev effect : Effect
  effect = record { batch = []; volatile = noted; orders = []; repeats = []; reply = Noted }

  abbrev without_placings : World → World
  without_placings x = record x { placings = number_set w.placings v [] }

  none_placed : (x : World) → Outgrows w x → (u n : ℕ) (p : Placing) → slice_get (number_set w.placings v [] u) n ≡ Some p → IsPlaced net x u p
  none_placed x g u n p = by_number (λ k b. slice_get (if b then [] else w.placings k) n ≡ Some p → IsPlaced net x k p) v
      (λ h. cc) (λ k ne h. placed_stays net w network c x g k p (c.placed k n p h)) u

  same_lanes : Outgrows w (without_placings w)
  same_lanes = record { facts = λ n f h. h; known = λ u n h. h; blocks = λ l. omega arith; frames = λ l j a h. h; wire = λ l n j h. h }

  -- A manager that is down or whose journal is full loses what it is told, and nothing else changes.
  vain_keeps : Conserved net (without_placings w)
  vain_keeps = record {
    now = c.now;
    doubts = c.doubts;
    doubtful = c.doubtful;
    resting = c.resting;
    volatile = λ u. volatile_stays net w network c (without_placings w) same_lanes u (w.volatile u) (c.volatile u);
    placed = none_placed (without_placings w) same_lanes;
    posted = c.posted;
    wired = c.wired;
    journals = c.journals;
    started = c.started;
    doubt_room = c.doubt_room;
    drawn = drawn_stays net w (without_placings w) (λ n f h. h) refl (λ u. omega arith) c.drawn;
    few_blocks = c.few_blocks;
    recovered = c.recovered;
  }

  abbrev after : World
  after = without_placings (commit net.site w v 0 effect)

  after_lanes : Outgrows w after
  unfolding commit replay
  after_lanes = record { facts = λ n f h. h; known = λ u n h. h; blocks = λ l. omega arith; frames = λ l j a h. h; wire = λ l n j h. h }

  noted_keeps : w.up v ≡ true → Conserved net after
  unfolding commit replay
  noted_keeps up = record {
    now = c.now;
    doubts = c.doubts;
    doubtful = c.doubtful;
    resting = by_number (λ u b. w.up u ≡ false → (if b then noted else w.volatile u) ≡ no_volatile) v (λ down. absurd (not_both (w.up v) up down)) (λ u ne. c.resting u);
    volatile = by_number (λ u b. IsVolatile net after u (if b then noted else w.volatile u)) v
        (volatile_stays net w network c after after_lanes v noted noted_is) (λ u ne. volatile_stays net w network c after after_lanes u (w.volatile u) (c.volatile u));
    placed = none_placed after after_lanes;
    posted = c.posted;
    wired = c.wired;
    journals = by_number (λ u b. IsJournal (if b then extended (w.journal v) 0 else w.journal u)) v (subst IsJournal (no_octets (w.journal v)) (c.journals v)) (λ u ne. c.journals u);
    started = by_number (λ u b. w.up u ≡ true → is_blank (if b then extended (w.journal v) 0 else w.journal u) ≡ false) v
        (subst (λ (j : Journal). w.up v ≡ true → is_blank j ≡ false) (no_octets (w.journal v)) (c.started v)) (λ u ne. c.started u);
    doubt_room = by_number (λ u b. HasRoomFor (if b then extended (w.journal v) 0 else w.journal u) (w.in_doubt u)) v
        (subst (λ (j : Journal). HasRoomFor j (w.in_doubt v)) (no_octets (w.journal v)) (c.doubt_room v)) (λ u ne. c.doubt_room u);
    drawn = drawn_stays net w after (λ n f h. h) refl
        (by_number (λ u b. w.drawn u ≤ (if b then w.drawn v + 0 else w.drawn u)) v (omega arith) (λ u ne. omega arith)) c.drawn;
    few_blocks = c.few_blocks;
    recovered = c.recovered;
  }

  abbrev Keeps : World × Outcome → Type 0
  Keeps x = Conserved net (without_placings x.0)

  performed : w.up v ≡ true → Keeps (perform net w v 0 Ok effect)
  unfolding perform
  performed up = by_test Keeps (nat_lt journal_limit ((w.journal v).length' + 0)) _ _ (λ full. vain_keeps) (λ room. noted_keeps up)

  handled : Keeps (handle net w v (Note (w.placings v)) Ok)
  unfolding handle decide random_need view_of masked
  handled = by_test Keeps (w.up v) _ _ performed (λ down. vain_keeps)

pub complete_keeps : (net : Network) (w : World) (v : ℕ) → IsNetwork net → Conserved net w → Conserved net (complete_node net w v).0
complete_keeps net w v network c = handled net w v network c
