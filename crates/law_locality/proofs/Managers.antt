-- Other nodes don't see what a manager does.
use Rattle.std.proofs.Common.{◌≡◌, ◌≢◌, ℕ, Bool, false, List, refl, ◌∙◌, ap, subst, Option, Some, None}
use Rattle.std.specs.Prelude.{◌==◌, slice_get, if◌then◌else◌}
use Rattle.qkd_base.specs.Family.{number_set}
use Rattle.qkd_base.specs.declared.lane.Lane.{Lane}
use Rattle.net_model.specs.declared.event.Event.{Event}
use Rattle.net_model.specs.declared.payload.Payload.{Payload}
use Rattle.net_model.specs.declared.placing.Placing.{Placing}
use Rattle.net_model.specs.Item.{payload}
use Rattle.net_model.specs.Site.{receiver}
use Rattle.net_model.specs.World.{Network, World, Allocation}
use Rattle.net_model.specs.Needed.{view_of}
use Rattle.net_model.specs.Relay.{receive}
use Rattle.net_model.specs.Decision.{Effect}
use Rattle.net_model.specs.Decide.{random_need}
use Rattle.net_model.specs.Invariant.{Conserved}
use Rattle.net_model.specs.Action.{Environment}
use Rattle.net_model.specs.Handle.{commit, stopped, perform, handle}
use Rattle.net_model.specs.Frames.{receive_item}
use Rattle.law_base.proofs.Base.{eq_from, eq_same, not_false, not_both}
use Rattle.law_base.proofs.Walks.{perform_walk, handle_walk}
use Rattle.law_invariant.specs.May.{decided}
use Rattle.law_locality.proofs.Views.{view_same}
use Rattle.law_locality.proofs.Performs.{IsTurn, performs_unseen}
use Rattle.law_locality.proofs.Turns.{IsTurnDecision, receive_turn}
use Rattle.law_locality.specs.Touched.{StaysAt}

-- Changing the value at one number changes no other number's value.
pub elsewhere : {A : Type 0} (f : ℕ → A) (k u : ℕ) (x : A) → u ≢ k → number_set f k x u ≡ f u
elsewhere f k u x apart = ap (λ (t : Bool). if t then x else f u) (not_false (u == k) (λ e. apart (eq_from u k e)))

-- If the test says that an action doesn't touch node u, its node isn't u.
pub untouched : (k u : ℕ) → (k == u) ≡ false → u ≢ k
untouched k u h e = not_both (k == u) (ap (λ (n : ℕ). k == n) e ∙ eq_same k) h

pub stays : (net : Network) (u : ℕ) (w : World) → StaysAt net u w w
stays net u w =
    record {
      manager = record { view = refl; up = refl; drawn = refl; journal = refl; interrupted = refl; in_doubt = refl; volatile = refl };
      placings = refl;
    }

-- The state of node u on which no other manager's turn depends, and which none of them changes.
record IsKept (u : ℕ) (w after : World) : Type 0 where
  interrupted : after.interrupted u ≡ w.interrupted u
  in_doubt : after.in_doubt u ≡ w.in_doubt u
  placings : after.placings u ≡ w.placings u

module _ (net : Network) (w : World) (c : Conserved net w) (u k : ℕ) (apart : u ≢ k) where
  stopped_kept : (octets : ℕ) (e : Effect) → IsKept u w (stopped w k octets e)
  unfolding stopped
  stopped_kept octets e = record { interrupted = refl; in_doubt = elsewhere w.in_doubt k u _ apart; placings = refl }

  commit_kept : (octets : ℕ) (e : Effect) → IsKept u w (commit net.site w k octets e)
  unfolding commit
  commit_kept octets e = record { interrupted = refl; in_doubt = refl; placings = refl }

  performed_kept : (octets : ℕ) (e : Effect) (environment : Environment) → IsKept u w (perform net w k octets environment e).0
  performed_kept octets e environment =
      perform_walk net w (IsKept u w) (record { interrupted = refl; in_doubt = refl; placings = refl }) k octets environment e
      (λ numbered fits. stopped_kept octets e) (λ numbered fits. commit_kept octets e)

  pub effect_unseen : (octets : ℕ) (e : Effect) (environment : Environment) → IsTurn net w k e → StaysAt net u w (perform net w k octets environment e).0
  effect_unseen octets e environment turn =
      let same = performs_unseen net u k apart w c octets e turn environment in
      let kept = performed_kept octets e environment in
      record {
        manager = record {
          view = view_same net u w _ c same;
          up = same.up;
          drawn = same.drawn;
          journal = same.journal;
          interrupted = kept.interrupted;
          in_doubt = kept.in_doubt;
          volatile = same.volatile;
        };
        placings = kept.placings;
      }

  pub event_unseen : (event : Event) (environment : Environment) → IsTurnDecision net w k (decided net w k event) → StaysAt net u w (handle net w k event environment).0
  event_unseen event environment turn =
      handle_walk net w (StaysAt net u w) (stays net u w) k event environment
      (λ up e is. effect_unseen (random_need (view_of net w k) event) e environment (subst (IsTurnDecision net w k) is turn))

-- Only its receiver sees that a frame came.
pub item_unseen : (net : Network) (w : World) → Conserved net w → (u : ℕ) (l : Lane) → u ≢ receiver net.site l → (environment : Environment) (j : ℕ) (a : Allocation) →
    slice_get (w.frames l) j ≡ Some a → (o : Option Payload) → payload w.durable.facts a.item ≡ o → StaysAt net u w (receive_item net w l a.offset environment o).0
item_unseen net w c u l apart environment j a at None e = stays net u w
item_unseen net w c u l apart environment j a at (Some p) e =
    effect_unseen net w c u (receiver net.site l) apart 0 (receive net.site (view_of net w (receiver net.site l)) l a.offset p) environment (receive_turn net w c l j a p at e)

-- Changing the notes that wait for other managers changes nothing for this one.
pub placings_aside : (net : Network) (u : ℕ) (w after : World) (placings : ℕ → List Placing) → placings u ≡ w.placings u → StaysAt net u w after →
    StaysAt net u w (record after { placings = placings })
unfolding view_of
placings_aside net u w after placings same h =
    let m = h.manager in
    record {
      manager = record { view = m.view; up = m.up; drawn = m.drawn; journal = m.journal; interrupted = m.interrupted; in_doubt = m.in_doubt; volatile = m.volatile };
      placings = same;
    }
