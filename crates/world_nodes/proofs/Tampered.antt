-- The outcome of octets that anybody may have made or changed.
use Rattle.std.proofs.Common.{◌≡◌, ℕ, ◌*◌, Bool, true, false, not, ◌&&◌, List, length, refl, sym, ap, subst, ◌∙◌}
use Rattle.std.specs.Prelude.{nat_le, slice_get, is_some, Option, Some, None, Result, Ok, Err, IfOk, if◌then◌else◌}
use Rattle.qkd_base.specs.declared.lane.Lane.{Lane}
use Rattle.net_model.specs.declared.event.Event.TheVariants.{Heard}
use Rattle.net_model.specs.declared.reply.Reply.{Reply}
use Rattle.net_model.specs.declared.reply.Reply.TheVariants as replies
use Rattle.net_model.specs.Site.{receiver}
use Rattle.net_model.specs.World.{Network, World}
use Rattle.net_model.specs.View.{View, port_of, incoming_octets}
use Rattle.net_model.specs.Needed.{view_of}
use Rattle.net_model.specs.Decide.{random_need}
use Rattle.net_model.specs.Events.{is_lane}
use Rattle.net_model.specs.Frames.{frame_octets, octets_received, with_flipped, tampered, flip_number, flip}
use Rattle.net_model.specs.Action.{Environment, Outcome, NoBit, Forge, Flip, is_shown, is_io_fault, is_entropy_fault, Ok as Fine}
use Rattle.net_model.specs.Step.{step, is_enabled}
use Rattle.declared_site.specs.declared.site.Site.{Site as Declared}
use Rattle.hop_frames.specs.Opening.{open_of}
use Rattle.law_base.proofs.Base.{and_both}
use Rattle.kme_store.specs.Passed.{is_match}
use Rattle.kme_store.specs.Manager.{ManagerForm, is_up}
use Rattle.kme_store.specs.declared.manager_state.Standing.{Standing}
use Rattle.kme_store.specs.declared.manager_state.Standing.TheVariants.{Up, Down, Between}
use Rattle.kme_store.specs.declared.post.Post.{Post}
use Rattle.kme_store.specs.declared.post.Post.TheVariants.{On}
use Rattle.world_nodes.specs.Stands.{StandingStands, PostStands}
use Rattle.world_nodes.specs.Handled.{MayHandle, Handled}
use Rattle.world_nodes.specs.Tampering.{put_as, would_match, ReceiverStands, MayTamper, tampered_outcome, HasTampered, MayForge, MayFlip, HasForged, HasFlipped}
use Rattle.world_nodes.proofs.Counted.{post_disk, unchanged, spared, not_asked, none_heard}
use Rattle.world_nodes.proofs.Delivered.{hearing_valid}
use Rattle.world_nodes.proofs.Hears.{received}
use Rattle.world_nodes.proofs.Tampers.{IsHeard, put_heard, wrong_heard, match_found, tampered_down}
use Rattle.disk_model.specs.declared.disk.Disk as Disk
use Rattle.source_devices.specs.declared.entropy.Entropy as Entropy

module _ {K E : Type 0} (disk_says : Disk.Ghosts K) (entropy_says : Entropy.Ghosts E) (net : Network) (w : World) (l : Lane) (post : Post K E)
    (m : ReceiverStands disk_says entropy_says net w l post) (octets : List ℕ) where
  -- the tag, as the manager checks it
  match_by : (site : Declared) (view : View) (s : Standing K) → StandingStands disk_says net w (receiver net.site l) site view s →
      (is_up s && is_match (open_of l (incoming_octets l (port_of view l.link)) octets)) ≡ would_match net w l octets
  match_by site view (Up journal) u =
      ap (λ (bytes : List ℕ). is_match (open_of l bytes octets)) (ap (λ (a : View). incoming_octets l (port_of a l.link)) u.sees ∙ received net w m.running l m.at)
      ∙ ap (λ (t : Bool). t && is_match (open_of l (octets_received net w l) octets)) (sym u.up)
  match_by site view (Down disk) h = ap (λ (t : Bool). t && is_match (open_of l (octets_received net w l) octets)) (sym h.down)
  match_by site view Between h = absurd h

  pub match_here : (manager : ManagerForm K E) → post ≡ On manager →
      (is_up manager.standing && is_match (open_of l (incoming_octets l (port_of manager.view l.link)) octets)) ≡ would_match net w l octets
  match_here manager is =
      let h = subst (λ (p : Post K E). PostStands disk_says entropy_says net w (receiver net.site l) p) is m.stands in match_by manager.site manager.view manager.standing h.standing

  matched_by : {T : Type 0} (r : Result Bool T) (a : Bool) → a ≡ would_match net w l octets → IfOk r (λ d. d ≡ a) → IfOk r (λ d. d ≡ would_match net w l octets)
  matched_by (Ok d) a same h = h ∙ same
  matched_by (Err e) a same h = tt

  pub would_match_here : {T : Type 0} (r : Result Bool T) (manager : ManagerForm K E) → post ≡ On manager →
      IfOk r (λ d. d ≡ (is_up manager.standing && is_match (open_of l (incoming_octets l (port_of manager.view l.link)) octets))) → IfOk r (λ d. d ≡ would_match net w l octets)
  would_match_here r manager is h = matched_by r _ (match_here manager is) h

module _ {K E : Type 0} (disk_says : Disk.Ghosts K) (entropy_says : Entropy.Ghosts E) (net : Network) (w : World) (l : Lane) (old : Post K E) (octets : List ℕ) (forged : Bool) (up : ℕ)
    (m : MayTamper disk_says entropy_says net w l old octets forged up) where
  abbrev v : ℕ
  v = receiver net.site l

  abbrev right : Bool
  right = is_match (open_of l (octets_received net w l) octets)

  abbrev on_wire : Bool
  on_wire = is_some (put_as net w l octets)

  -- octets that may be heard
  is_heard_by : (t wrong : Bool) → on_wire ≡ t → w.up v ≡ true → right ≡ wrong → (not t && (true && wrong)) ≡ false → IsHeard net w m.there.running l m.there.at octets
  is_heard_by true wrong put at is h = put_heard net w m.there.running l m.there.at octets put
  is_heard_by false true put at is h = absurd (cc h)
  is_heard_by false false put at is h = wrong_heard net w m.there.running l m.there.at octets put at is

  pub is_heard : w.up v ≡ true → forged ≡ false → IsHeard net w m.there.running l m.there.at octets
  is_heard at h = is_heard_by on_wire right refl at refl (ap (λ (t : Bool). not on_wire && (t && right)) (sym at) ∙ sym m.is ∙ h)

  pub may_handle : w.up v ≡ true → forged ≡ false → MayHandle disk_says entropy_says net w v old (Heard l octets) up
  may_handle at h = record {
    running = m.there.running;
    stands = m.there.stands;
    valid = hearing_valid net l octets m.there.at;
    goes = (is_heard at h).goes;
    fits = (is_heard at h).fits;
    links = m.links;
  }

  module _ where
    abbrev Tampered : Post K E → Option Reply → Type 0
    Tampered new reply = HasTampered disk_says entropy_says net w l octets old new reply

    stays : (reply : Option Reply) → ((environment : Environment) → tampered net w l octets environment ≡ (w, tampered_outcome reply)) → Tampered old reply
    stays reply is = record {
      environment = Fine;
      shown = refl;
      said = ap (λ (x : World × Outcome). x.1) (is Fine);
      stands = subst (λ (x : World × Outcome). PostStands disk_says entropy_says net x.0 v old) (sym (is Fine)) m.there.stands;
      counts = let d = post_disk disk_says net w v entropy_says old m.there.stands in unchanged disk_says entropy_says old d.0 d.1;
    }

    pub says_down : w.up v ≡ false → Tampered old (Some replies.Down)
    says_down down = stays (Some replies.Down) (tampered_down net w m.there.running l m.there.at octets down)

    found_by : (t at wrong : Bool) → on_wire ≡ t → w.up v ≡ at → right ≡ wrong → (not t && (at && wrong)) ≡ true → Tampered old None
    found_by true at wrong put here is h = absurd (cc h)
    found_by false false wrong put here is h = absurd (cc h)
    found_by false true false put here is h = absurd (cc h)
    found_by false true true put here is h = stays None (match_found net w m.there.running l m.there.at octets put here is)

    pub says_match : forged ≡ true → Tampered old None
    says_match h = found_by on_wire (w.up v) right refl refl refl (sym m.is ∙ h)

    pub says_heard : w.up v ≡ true → forged ≡ false → (new : Post K E) (reply : Reply) →
        Handled disk_says entropy_says net w v (Heard l octets) old new reply → Tampered new (Some reply)
    says_heard at none new reply h =
        let same = (is_heard at none).heard h.environment in
        record {
          environment = h.environment;
          shown = h.shown;
          said = ap (λ (x : World × Outcome). x.1) same ∙ h.said;
          stands = subst (λ (x : World × Outcome). PostStands disk_says entropy_says net x.0 v new) (sym same) h.stands;
          counts = spared disk_says entropy_says (is_io_fault h.environment) (is_entropy_fault h.environment) false old new
              (not_asked h.environment (random_need (view_of net w v) (Heard l octets)) (none_heard (view_of net w v) l octets) h.entropy_asked) h.counts;
        }

-- the outcomes, as actions of the network

module _ (net : Network) (w : World) (l : Lane) where
  forge_enabled : (octets : List ℕ) → is_enabled net w (Forge l octets Fine) ≡ true → (environment : Environment) → is_enabled net w (Forge l octets environment) ≡ true
  unfolding is_enabled
  forge_enabled octets h environment = h

  forges : (octets : List ℕ) (environment : Environment) → step net w (Forge l octets environment) ≡ tampered net w l octets environment
  unfolding step
  forges octets environment = refl

  flip_enabled : (number bit : ℕ) → is_lane net.site l ≡ true → (environment : Environment) → is_enabled net w (Flip l number bit environment) ≡ true
  unfolding is_enabled
  flip_enabled number bit h environment = h

  flips : (number bit frame : ℕ) (octets : List ℕ) → slice_get (w.wire l) number ≡ Some frame → nat_le (8 * length (frame_octets net w l (slice_get (w.frames l) frame))) bit ≡ false →
      octets ≡ with_flipped (frame_octets net w l (slice_get (w.frames l) frame)) bit → (environment : Environment) → step net w (Flip l number bit environment) ≡ tampered net w l octets environment
  unfolding step flip
  flips number bit frame octets there has are environment =
      let f : List ℕ = frame_octets net w l (slice_get (w.frames l) frame) in
      ap (flip_number net w l bit environment) there
      ∙ ap (λ (t : Bool). if t then (w, NoBit (8 * length f)) else tampered net w l (with_flipped f bit) environment) has
      ∙ ap (λ (bs : List ℕ). tampered net w l bs environment) (sym are)

module _ {K E : Type 0} (disk_says : Disk.Ghosts K) (entropy_says : Entropy.Ghosts E) (net : Network) (w : World) (l : Lane) (old new : Post K E) (octets : List ℕ)
    (forged : Bool) (up : ℕ) (reply : Option Reply) (h : HasTampered disk_says entropy_says net w l octets old new reply) where
  pub has_forged : MayForge disk_says entropy_says net w l old octets forged up → HasForged disk_says entropy_says net w l octets old new reply
  has_forged m =
      let same = forges net w l octets h.environment in
      record {
        environment = h.environment;
        may = and_both (is_enabled net w (Forge l octets h.environment)) (is_shown h.environment (step net w (Forge l octets h.environment)).1) (forge_enabled net w l octets m.enabled h.environment)
            (ap (λ (x : World × Outcome). is_shown h.environment x.1) same ∙ ap (is_shown h.environment) h.said ∙ h.shown);
        said = ap (λ (x : World × Outcome). x.1) same ∙ h.said;
        stands = subst (λ (x : World × Outcome). PostStands disk_says entropy_says net x.0 (receiver net.site l) new) (sym same) h.stands;
        counts = h.counts;
      }

  pub has_flipped : (number bit : ℕ) → MayFlip disk_says entropy_says net w l number bit old octets forged up → HasFlipped disk_says entropy_says net w l number bit old new reply
  has_flipped number bit m =
      let same = flips net w l number bit m.frame octets m.there m.has m.are h.environment in
      record {
        environment = h.environment;
        may = and_both (is_enabled net w (Flip l number bit h.environment)) (is_shown h.environment (step net w (Flip l number bit h.environment)).1) (flip_enabled net w l number bit m.tampers.there.at h.environment)
            (ap (λ (x : World × Outcome). is_shown h.environment x.1) same ∙ ap (is_shown h.environment) h.said ∙ h.shown);
        said = ap (λ (x : World × Outcome). x.1) same ∙ h.said;
        stands = subst (λ (x : World × Outcome). PostStands disk_says entropy_says net x.0 (receiver net.site l) new) (sym same) h.stands;
        counts = h.counts;
      }
