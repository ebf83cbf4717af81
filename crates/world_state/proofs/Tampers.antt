-- Octets that need not be a frame come to their receiver: one post changes, or nothing.
use Rattle.std.proofs.Common.{◌≡◌, ℕ, ◌*◌, Bool, true, false, not, ◌&&◌, List, length, refl, sym, ap, subst, ◌∙◌, Option, Some, None}
use Rattle.std.specs.Prelude.{◌==◌, nat_lt, nat_le, slice_get, is_some, if◌then◌else◌}
use Rattle.std.specs.List.{list_all}
use Rattle.qkd_base.specs.declared.lane.Lane.{Lane}
use Rattle.net_model.specs.declared.reply.Reply.{Reply}
use Rattle.net_model.specs.Site.{Site, receiver}
use Rattle.net_model.specs.World.{Network, World}
use Rattle.net_model.specs.Events.{is_lane}
use Rattle.net_model.specs.Frames.{with_flipped, flip_octets, flip_number, flip, tampered}
use Rattle.net_model.specs.Action.{Environment, Flip, Forge, Outcome, NoFrame, NoBit, is_io_fault, Ok as Fine}
use Rattle.net_model.specs.Step.{step, is_enabled}
use Rattle.declared_site.specs.SiteOf.{site_of}
use Rattle.world_nodes.specs.Passed.{Post}
use Rattle.law_base.proofs.Base.{eq_same, and_left}
use Rattle.world_nodes.proofs.Counted.{here_too}
use Rattle.run_ops.specs.Fitting.{is_fit, fits_a_frame}
use Rattle.run_ops.specs.Acting.{IsReady, Does}
use Rattle.world_nodes.specs.Tampering.{put_as, would_match, is_forged, ReceiverStands, MayTamper, MayForge, MayFlip, HasForged, HasFlipped, tampered_outcome}
use Rattle.world_state.specs.Frames.{IsOnWire, IsChanged}
use Rattle.world_state.specs.Stands.{Stands}
use Rattle.world_state.specs.Tallied.{Tallied}
use Rattle.world_state.specs.declared.state.State.{State}
use Rattle.world_state.proofs.Changes.{OnePost}
use Rattle.world_state.proofs.OnePost.{ChangesOne, happened}
use Rattle.world_state.proofs.OneTallied.{CountsOne}
use Rattle.world_state.proofs.Receivers.{elsewhere, no_part, lane_at}
use Rattle.world_state.proofs.Staying.{stays_done}
use Rattle.world_state.specs.Outside.{Outside}

flips_one : (s : Site) (l : Lane) (number bit : ℕ) (environment : Environment) → ChangesOne s (Flip l number bit environment) (receiver s l)
flips_one s l number bit environment = record { nodes = λ u other. elsewhere (receiver s l) u other; lanes = λ k. refl; links = λ link. refl; sends = refl }

flips_counted : (s : Site) (l : Lane) (number bit : ℕ) (environment : Environment) → CountsOne s (Flip l number bit environment) (receiver s l) (is_io_fault environment) false
flips_counted s l number bit environment = record {
  disk = here_too (receiver s l == receiver s l) (is_io_fault environment) (eq_same (receiver s l));
  entropy = refl;
  armed = λ u. refl;
  disks = λ u other. ap (λ (b : Bool). b && is_io_fault environment) (elsewhere (receiver s l) u other);
  entropies = λ u other. refl;
}

forges_one : (s : Site) (l : Lane) (octets : List ℕ) (environment : Environment) → ChangesOne s (Forge l octets environment) (receiver s l)
forges_one s l octets environment = record { nodes = λ u other. elsewhere (receiver s l) u other; lanes = λ k. refl; links = λ link. refl; sends = refl }

forges_counted : (s : Site) (l : Lane) (octets : List ℕ) (environment : Environment) → CountsOne s (Forge l octets environment) (receiver s l) (is_io_fault environment) false
forges_counted s l octets environment = record {
  disk = here_too (receiver s l == receiver s l) (is_io_fault environment) (eq_same (receiver s l));
  entropy = refl;
  armed = λ u. refl;
  disks = λ u other. ap (λ (b : Bool). b && is_io_fault environment) (elsewhere (receiver s l) u other);
  entropies = λ u other. refl;
}

may_flip_there : (net : Network) (w : World) (l : Lane) (number bit : ℕ) → is_lane net.site l ≡ true → is_enabled net w (Flip l number bit Fine) ≡ true
unfolding is_enabled
may_flip_there net w l number bit at = at

-- Octets that fit may be forged.

three : (a b c d : Bool) → (a && (b && c) && d) ≡ true → (a && b && c && d) ≡ true
three true true c d h = h
three true false c d h = cc
three false b c d h = cc

may_forge_there : (net : Network) (w : World) (l : Lane) (octets : List ℕ) → is_fit net.site (Forge l octets Fine) ≡ true → is_enabled net w (Forge l octets Fine) ≡ true
unfolding is_enabled
may_forge_there net w l octets fit = three (is_lane net.site l) (nat_le 1 (length octets)) (nat_le (length octets) 600) (list_all (λ b. nat_lt b 256) octets) fit

pub forges_on : (s : Site) (l : Lane) (octets : List ℕ) → is_fit s (Forge l octets Fine) ≡ true → is_lane s l ≡ true
forges_on s l octets fit =
    and_left (is_lane s l) (fits_a_frame (length octets)) (and_left (is_lane s l && fits_a_frame (length octets)) (list_all (λ b. nat_lt b 256) octets) fit)

-- Octets are forged if they match and nobody put them.

module _ (net : Network) (w : World) (l : Lane) (octets : List ℕ) where
  abbrev nobody_put : Bool
  nobody_put = not (is_some (put_as net w l octets))

  with_both : (b : Bool) → (b && true) ≡ b
  with_both true = refl
  with_both false = refl

  pub no_match : false ≡ would_match net w l octets → false ≡ is_forged net w l octets
  no_match is = sym (no_part nobody_put) ∙ ap (λ (t : Bool). nobody_put && t) is

  pub match_of : (put : Bool) → true ≡ would_match net w l octets → put ≡ is_some (put_as net w l octets) → not put ≡ is_forged net w l octets
  match_of put is same = ap not same ∙ sym (with_both nobody_put) ∙ ap (λ (t : Bool). nobody_put && t) is

-- There is no such frame, or it has no such bit.

no_frame : (net : Network) (w : World) (l : Lane) (number bit : ℕ) → slice_get (w.wire l) number ≡ None → step net w (Flip l number bit Fine) ≡ (w, NoFrame (length (w.wire l)))
unfolding step flip
no_frame net w l number bit none = ap (flip_number net w l bit Fine) none

no_bit : (net : Network) (w : World) (l : Lane) (number bit : ℕ) (octets : List ℕ) → IsOnWire net w l number octets → nat_le (8 * length octets) bit ≡ true →
    step net w (Flip l number bit Fine) ≡ (w, NoBit (8 * length octets))
unfolding step flip
no_bit net w l number bit octets seen far =
    ap (flip_number net w l bit Fine) seen.there
    ∙ ap (λ (bytes : List ℕ). flip_octets net w l bytes bit Fine) (sym seen.are)
    ∙ ap (λ (t : Bool). if t then (w, NoBit (8 * length octets)) else tampered net w l (with_flipped octets bit) Fine) far

pub changed_from : (net : Network) (w : World) (l : Lane) (number bit : ℕ) (octets other : List ℕ) → IsOnWire net w l number octets → nat_le (8 * length octets) bit ≡ false → other ≡ with_flipped octets bit →
    IsChanged net w l number bit other
changed_from net w l number bit octets other seen near is = record {
  frame = seen.frame;
  there = seen.there;
  has = ap (λ (bytes : List ℕ). nat_le (8 * length bytes) bit) (sym seen.are) ∙ near;
  are = is ∙ ap (λ (bytes : List ℕ). with_flipped bytes bit) seen.are;
}

module _ {K Q E X : Type 0} (outside : Outside K Q E X) (old : State K Q E X) (net : Network) (w : World) (l : Lane)
    (ready : IsReady (Stands outside) old net w) (fit : is_lane (site_of old.site) l ≡ true) where
  at : is_lane net.site l ≡ true
  at = lane_at outside old net w l ready fit

  abbrev v : ℕ
  v = receiver net.site l

  -- what the post is asked for

  module _ (p : Post K E) (there : slice_get old.posts.items v ≡ Some p) where
    pub receiver_stands : ReceiverStands outside.disk outside.entropy net w l p
    receiver_stands = record { running = ready.stands.running; stands = ready.stands.posts v p there; at = at }

  module _ (octets : List ℕ) (forged : Bool) (is : forged ≡ is_forged net w l octets) (p : Post K E) (there : slice_get old.posts.items v ≡ Some p) where
    tampers : MayTamper outside.disk outside.entropy net w l p octets forged old.up
    tampers = record { there = receiver_stands p there; is = is; links = ready.stands.up }

    pub may_flip : (number bit : ℕ) → IsChanged net w l number bit octets → MayFlip outside.disk outside.entropy net w l number bit p octets forged old.up
    may_flip number bit changed = record { tampers = tampers; frame = changed.frame; there = changed.there; has = changed.has; are = changed.are }

    pub may_forge : is_fit (site_of old.site) (Forge l octets Fine) ≡ true → MayForge outside.disk outside.entropy net w l p octets forged old.up
    may_forge made = record {
      tampers = tampers;
      enabled = may_forge_there net w l octets (subst (λ (s : Site). is_fit s (Forge l octets Fine) ≡ true) (sym ready.stands.sited) made);
    }

  -- the outcome

  module _ where
    abbrev Flips : ℕ → ℕ → State K Q E X → Outcome → Type 0
    Flips number bit new outcome = Does (Stands outside) (Tallied outside) old new net w (Flip l number bit Fine) outcome

    stays : (number bit : ℕ) (outcome : Outcome) → step net w (Flip l number bit Fine) ≡ (w, outcome) → Flips number bit old outcome
    stays number bit outcome steps =
        stays_done outside old net w ready (Flip l number bit Fine) outcome
        refl (may_flip_there net w l number bit at) refl steps (λ u. (no_part (v == u), refl, refl)) (record { devices = λ k. refl; wires = λ k. refl })

    pub no_frame_done : (number bit count : ℕ) → count ≡ length (w.wire l) → slice_get (w.wire l) number ≡ None → Flips number bit old (NoFrame count)
    no_frame_done number bit count is none =
        subst (λ (n : ℕ). Flips number bit old (NoFrame n)) (sym is) (stays number bit (NoFrame (length (w.wire l))) (no_frame net w l number bit none))

    pub no_bit_done : (number bit bits : ℕ) (octets : List ℕ) → IsOnWire net w l number octets → nat_le (8 * length octets) bit ≡ true → bits ≡ 8 * length octets → Flips number bit old (NoBit bits)
    no_bit_done number bit bits octets seen far is =
        subst (λ (n : ℕ). Flips number bit old (NoBit n)) (sym is) (stays number bit (NoBit (8 * length octets)) (no_bit net w l number bit octets seen far))

    module _ (p q : Post K E) (new : State K Q E X) (change : OnePost old new v p q) (reply : Option Reply) (outcome : Outcome) (is : outcome ≡ tampered_outcome reply) where
      pub flip_done : (number bit : ℕ) → HasFlipped outside.disk outside.entropy net w l number bit p q reply → Flips number bit new outcome
      flip_done number bit h =
          subst (Flips number bit new) (sym is)
          (happened outside old new net w v p q change ready (λ (environment : Environment). Flip l number bit environment)
          (Flip l number bit Fine) (tampered_outcome reply) (flips_one net.site l number bit) (flips_counted net.site l number bit) (λ environment. record { devices = λ k. refl; wires = λ k. refl }) (λ environment. refl) h)

      pub forge_done : (octets : List ℕ) → HasForged outside.disk outside.entropy net w l octets p q reply →
          Does (Stands outside) (Tallied outside) old new net w (Forge l octets Fine) outcome
      forge_done octets h =
          subst (Does (Stands outside) (Tallied outside) old new net w (Forge l octets Fine)) (sym is)
          (happened outside old new net w v p q change ready (λ (environment : Environment). Forge l octets environment)
          (Forge l octets Fine) (tampered_outcome reply) (forges_one net.site l octets) (forges_counted net.site l octets) (λ environment. record { devices = λ k. refl; wires = λ k. refl }) (λ environment. refl) h)
