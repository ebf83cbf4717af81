-- Crashes, link changes and starts that fail keep the conserved properties.
use Rattle.std.proofs.Common.{◌≡◌, ℕ, Bool, true, false, refl, arith}
use Rattle.std.specs.Prelude.{if◌then◌else◌}
use Rattle.qkd_base.specs.Family.{number_set}
use Rattle.net_model.specs.Premises.{IsNetwork}
use Rattle.net_model.specs.World.{Network, World, no_volatile, no_doubt}
use Rattle.net_model.specs.Windows.{IsVolatile}
use Rattle.net_model.specs.Journal.{is_blank}
use Rattle.net_model.specs.Invariant.{Conserved}
use Rattle.net_model.specs.Action.{Outcome}
use Rattle.net_model.specs.Step.{crash}
use Rattle.law_base.proofs.Base.{by_number, by_test}
use Rattle.law_base.proofs.Growth.{Outgrows, volatile_stays, placed_stays, drawn_stays}
use Rattle.law_invariant.proofs.Volatiles.{nothing_kept}

module _ (net : Network) (w : World) (network : IsNetwork net) (c : Conserved net w) where
  -- The world with other links up and other starts interrupted. No conserved property depends on these.
  abbrev aside : (ℕ → Bool) → (ℕ → Bool) → World
  aside link_up interrupted = record w { link_up = link_up; interrupted = interrupted }

  aside_more : (link_up interrupted : ℕ → Bool) → Outgrows w (aside link_up interrupted)
  aside_more link_up interrupted =
      record { facts = λ n f h. h; known = λ u n h. h; blocks = λ l. omega arith; frames = λ l j a h. h; wire = λ l n j h. h }

  pub aside_keeps : (link_up interrupted : ℕ → Bool) → Conserved net (aside link_up interrupted)
  aside_keeps link_up interrupted =
      record {
        now = c.now;
        doubts = c.doubts;
        doubtful = c.doubtful;
        resting = c.resting;
        volatile = λ u. volatile_stays net w network c _ (aside_more link_up interrupted) u (w.volatile u) (c.volatile u);
        placed = λ u n p at. placed_stays net w network c _ (aside_more link_up interrupted) u p (c.placed u n p at);
        posted = c.posted;
        wired = c.wired;
        journals = c.journals;
        started = c.started;
        doubt_room = c.doubt_room;
        drawn = drawn_stays net w _ (λ n f h. h) refl (λ u. omega arith) c.drawn;
        few_blocks = c.few_blocks;
        recovered = c.recovered;
      }

  abbrev downed : ℕ → World
  downed v = record w { up = number_set w.up v false; volatile = number_set w.volatile v no_volatile }

  downed_more : (v : ℕ) → Outgrows w (downed v)
  downed_more v =
      record { facts = λ n f h. h; known = λ u n h. h; blocks = λ l. omega arith; frames = λ l j a h. h; wire = λ l n j h. h }

  downed_keeps : (v : ℕ) → Conserved net (downed v)
  downed_keeps v =
      record {
        now = c.now;
        doubts = c.doubts;
        doubtful = by_number (λ u t. (if t then false else w.up u) ≡ true → w.in_doubt u ≡ no_doubt) v (λ h. absurd (cc)) (λ u ne. c.doubtful u);
        resting = by_number (λ u t. (if t then false else w.up u) ≡ false → (if t then no_volatile else w.volatile u) ≡ no_volatile) v (λ h. refl) (λ u ne. c.resting u);
        volatile = by_number (λ u t. IsVolatile net (downed v) u (if t then no_volatile else w.volatile u)) v (nothing_kept net _ v)
            (λ u ne. volatile_stays net w network c _ (downed_more v) u (w.volatile u) (c.volatile u));
        placed = λ u n p at. placed_stays net w network c _ (downed_more v) u p (c.placed u n p at);
        posted = c.posted;
        wired = c.wired;
        journals = c.journals;
        started = by_number (λ u t. (if t then false else w.up u) ≡ true → is_blank (w.journal u) ≡ false) v (λ h. absurd (cc)) (λ u ne. c.started u);
        doubt_room = c.doubt_room;
        drawn = drawn_stays net w _ (λ n f h. h) refl (λ u. omega arith) c.drawn;
        few_blocks = c.few_blocks;
        recovered = c.recovered;
      }

  pub crash_keeps : (v : ℕ) → Conserved net (crash w v).0
  crash_keeps v = by_test (λ (r : World × Outcome). Conserved net r.0) (w.up v) _ _ (λ e. downed_keeps v) (λ e. c)
