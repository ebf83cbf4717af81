-- Every action keeps the conserved properties, so every run does. The first world has them.
use Rattle.std.proofs.Common.{◌≡◌, ℕ, true, false, ◌&&◌, List, [], ◌∷◌, refl, arith, inl}
use Rattle.std.specs.Prelude.{nat_lt}
use Rattle.std.proofs.lemmas.Bool.Decides.{nat_tests}
use Rattle.qkd_base.specs.Family.{number_set}
use Rattle.qkd_base.specs.LaneBytes.{lane_len}
use Rattle.qkd_base.specs.declared.lane.Way.{Way}
use Rattle.qkd_base.specs.declared.lane.Way.TheVariants.{Up, Down}
use Rattle.net_model.specs.Premises.{IsNetwork}
use Rattle.net_model.specs.Site.{of_way, is_incident}
use Rattle.net_model.specs.World.{Network, World, first}
use Rattle.net_model.specs.Action.{Environment, Action, Start, Crash, Arm, SetLink, TakeBlock, Ask, Allocate, Transmit, Complete, Deliver, Flip, Forge, is_shown, environment_of}
use Rattle.net_model.specs.Invariant.{Invariant, Conserved}
use Rattle.net_model.specs.Step.{step, is_node, is_link, is_enabled, is_step, IsStep, run, is_run, IsRun}
use Rattle.law_base.proofs.Base.{and_left, and_right}
use Rattle.law_base.proofs.Allocating.{allocate_keeps}
use Rattle.law_base.proofs.Transmitting.{transmit_keeps}
use Rattle.law_invariant.proofs.Noting.{complete_keeps}
use Rattle.law_invariant.proofs.Volatiles.{nothing_kept}
use Rattle.law_invariant.proofs.Lives.{aside_keeps, crash_keeps}
use Rattle.law_invariant.proofs.Starting.{start_keeps}
use Rattle.law_invariant.proofs.Taking.{take_block_keeps}
use Rattle.law_invariant.proofs.Asking.{ask_keeps}
use Rattle.law_invariant.proofs.Delivering.{deliver_keeps, flip_keeps, tampered_keeps}

incident_is : (net : Network) (w : World) (v link : ℕ) (environment : Environment) → is_enabled net w (TakeBlock v link environment) ≡ true → is_incident net.site v link ≡ true
unfolding is_enabled
incident_is net w v link environment may = and_right (is_node net v && is_link net link) (is_incident net.site v link) may

pub action_keeps : (net : Network) (w : World) → IsNetwork net → Conserved net w → (a : Action) → is_enabled net w a ≡ true → Conserved net (step net w a).0
unfolding step
action_keeps net w network c (Start v recovery) may = start_keeps net w network c v recovery may
action_keeps net w network c (Crash v) may = crash_keeps net w network c v
action_keeps net w network c (Arm v fault) may = c
action_keeps net w network c (SetLink link up) may = aside_keeps net w network c (number_set w.link_up link up) w.interrupted
action_keeps net w network c (TakeBlock v link environment) may = take_block_keeps net w network c v link (incident_is net w v link environment may) environment
action_keeps net w network c (Ask v event environment) may = ask_keeps net w network c v event environment may
action_keeps net w network c (Allocate t) may = allocate_keeps net w t network may c
action_keeps net w network c (Transmit l j environment) may = transmit_keeps net w l j environment network may c
action_keeps net w network c (Complete v) may = complete_keeps net w v network c
action_keeps net w network c (Deliver l number environment) may = deliver_keeps net w network c l environment number
action_keeps net w network c (Flip l number bit environment) may = flip_keeps net w network c l environment number bit
action_keeps net w network c (Forge l octets environment) may = tampered_keeps net w network c l environment octets

pub step_keeps : (net : Network) (w : World) (a : Action) → IsNetwork net → IsStep net w a → Conserved net w → Conserved net (step net w a).0
step_keeps net w a network may c =
    action_keeps net w network c a (and_left (is_enabled net w a) (is_shown (environment_of a) (step net w a).1) may)

-- The world before any start has the conserved properties.

nothing_yet : (way : Way) → lane_len way 0 ≡ 0
nothing_yet Up = refl
nothing_yet Down = refl

no_key : (x got : ℕ) → got ≡ 0 → false ≡ (nat_lt x 8 && nat_lt 0 got)
no_key x got h = grind (arith, nat_tests)

first_now : (net : Network) → Invariant net.site first.durable first.frames first.unclaimed
unfolding first
first_now net =
    record {
      owned = λ l. record {
        frame = λ x j. refl;
        key = λ x. no_key x (lane_len l.way 0) (nothing_yet l.way);
        reach = λ h. let e = nothing_yet l.way in absurd (omega (arith, e, h));
      };
      room = λ l. record { planned = omega arith; leased = omega arith };
      table = λ n f h. cc;
      streams = record { differ = λ n m f g stream index h. cc; below = λ n f stream index h. cc };
      groups = record { alike = λ n m f g p q h. cc; own = λ n f p h. cc; free = λ n f p h. cc };
      knowledge = record { differ = λ v. tt; each = λ v n h. cc };
      carried = λ l. record { framed = λ j a h. cc; wanted = λ j t h. cc };
      marked = λ v n h. cc;
      stored = record { target = λ m n f h. cc; once = λ m m2 n f f2 h. cc };
      handings = record { differ = tt; entitled = λ n sae h. cc };
    }

pub first_keeps : (net : Network) → Conserved net first
unfolding first
first_keeps net =
    record {
      now = first_now net;
      doubts = λ v. tt;
      doubtful = λ v h. refl;
      resting = λ v h. refl;
      volatile = λ v. nothing_kept net first v;
      placed = λ v n p h. cc;
      posted = λ l. record { ordered = λ n t h. cc; put = λ n o h. cc };
      wired = λ l. record { wired = λ n j h. cc; put = λ n o h. cc };
      journals = λ v. inl refl;
      started = λ v h. cc;
      doubt_room = λ v h. omega arith;
      drawn = record { table = λ n f h. cc; doubts = λ v n f h. cc };
      few_blocks = λ l. omega arith;
      recovered = λ l. omega arith;
    }

-- Every run keeps the conserved properties.

pub run_keeps : (net : Network) (w : World) (actions : List Action) → IsNetwork net → Conserved net w → IsRun net w actions → Conserved net (run net w actions)
unfolding run is_run
run_keeps net w [] network c h = c
run_keeps net w (a ∷ actions) network c h =
    run_keeps net (step net w a).0 actions network (step_keeps net w a network (and_left (is_step net w a) (is_run net (step net w a).0 actions) h) c)
    (and_right (is_step net w a) (is_run net (step net w a).0 actions) h)
