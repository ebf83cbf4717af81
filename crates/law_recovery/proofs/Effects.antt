-- An effect adds its batch to the node's journal, or leaves it in doubt, or changes nothing. Other nodes don't see
-- it.
use Rattle.std.proofs.Common.{◌≡◌, ◌≢◌, ℕ, Bool, true, false, List, refl, sym, ◌∙◌, ap, subst, None, inl, inr}
use Rattle.std.specs.Prelude.{◌==◌, if◌then◌else◌}
use Rattle.std.specs.List.{list_all}
use Rattle.qkd_base.specs.Family.{number_set}
use Rattle.net_model.specs.declared.record.Record.{Record}
use Rattle.net_model.specs.World.{Network, World, InDoubt}
use Rattle.net_model.specs.Needed.{view_of}
use Rattle.net_model.specs.Doubt.{MayReplay}
use Rattle.net_model.specs.Decision.{Effect}
use Rattle.net_model.specs.Invariant.{Conserved}
use Rattle.net_model.specs.Action.{Environment}
use Rattle.net_model.specs.Handle.{is_numbered, commit, stopped, perform}
use Rattle.net_model.specs.Fold.{view_after, view_restarted}
use Rattle.law_base.proofs.Base.{number_set_same, eq_from, eq_same, not_false}
use Rattle.law_base.proofs.Walks.{perform_walk}
use Rattle.law_base.proofs.Extending.{extends_same}
use Rattle.law_recovery.specs.Fitting.{AllFit}
use Rattle.law_locality.proofs.Durables.{other_replay}
use Rattle.law_recovery.proofs.Restarting.{batch_restarts, after_restarts}
use Rattle.law_recovery.specs.Saved.{saved, Moves}
use Rattle.law_recovery.proofs.Views.{saved_same, restarted_fits}

pub stays : (net : Network) (w : World) (v : ℕ) → Moves net w w v
stays net w v = inl (record { view = refl; doubt = refl })

-- Lemmas on changes that leave the durable part of a node as it is.
pub durable_stays : (net : Network) (w after : World) (v : ℕ) → saved net after v ≡ saved net w v → (after.in_doubt v).batch ≡ (w.in_doubt v).batch → Moves net w after v
durable_stays net w after v view doubt = inl (record { view = view; doubt = doubt })

-- What holds at this node and at each other node holds at every node.
pub here_or_there : (P : ℕ → Type 0) (u v : ℕ) → P u → (v ≢ u → P v) → P v
here_or_there P u v here there = elim (v == u) as (λ t. (v == u) ≡ t → P v) [
  | true ↦ λ e. subst P (sym (eq_from v u e)) here
  | false ↦ λ e. there (λ is. let same : (v == u) ≡ true = ap (λ (n : ℕ). n == u) is ∙ eq_same u in cc)
] refl

pub other_set : {A : Type 0} (f : ℕ → A) (u v : ℕ) (x : A) → v ≢ u → number_set f u x v ≡ f v
other_set f u v x apart = ap (λ (t : Bool). if t then x else f v) (not_false (v == u) (λ e. apart (eq_from v u e)))

-- The conditions on an effect: its records are permitted, they fit the node's view, and the view after it is what the
-- effect makes of it.
pub record Goes (net : Network) (w : World) (u octets : ℕ) (e : Effect) : Type 0 where
  pub may : list_all is_numbered e.batch ≡ true → MayReplay net.site w.durable u e.batch
  pub fits : AllFit net (view_of net w u) e.batch
  pub view : list_all is_numbered e.batch ≡ true → view_of net (commit net.site w u octets e) u ≡ view_after (view_of net w u) e

module _ (net : Network) (w : World) (c : Conserved net w) (u octets : ℕ) (up : w.up u ≡ true) (e : Effect) (goes : Goes net w u octets e) where
  commit_here : list_all is_numbered e.batch ≡ true → Moves net w (commit net.site w u octets e) u
  unfolding commit
  commit_here numbered = inr (inr (record {
    batch = e.batch;
    view = ap view_restarted (goes.view numbered) ∙ after_restarts (view_of net w u) e ∙ batch_restarts (view_of net w u) e.batch;
    none = ap (λ (d : InDoubt). d.batch) (c.doubtful u up);
  }))

  commit_there : list_all is_numbered e.batch ≡ true → (v : ℕ) → v ≢ u → Moves net w (commit net.site w u octets e) v
  unfolding commit
  commit_there numbered v apart =
      let d = other_replay net.site v u apart w.durable w.frames w.unclaimed c.now e.batch (goes.may numbered) in
      durable_stays net w (commit net.site w u octets e) v (saved_same net v w (commit net.site w u octets e) d.extends d.acked d.closed d.handed) refl

  stopped_view : (v : ℕ) → saved net (stopped w u octets e) v ≡ saved net w v
  unfolding stopped
  stopped_view v = saved_same net v w (stopped w u octets e) (extends_same net.site v w.durable) refl refl refl

  stopped_here : Moves net w (stopped w u octets e) u
  unfolding stopped
  stopped_here =
      let left : InDoubt = record { batch = e.batch; checkpointed = None } in
      let doubt : ((stopped w u octets e).in_doubt u).batch ≡ e.batch = ap (λ (d : InDoubt). d.batch) (number_set_same w.in_doubt u left) in
      inr (inl (record {
        view = stopped_view u;
        fits = subst (λ (rs : List Record). AllFit net (saved net (stopped w u octets e) u) rs) (sym doubt)
            (subst (λ a. AllFit net a e.batch) (sym (stopped_view u)) (restarted_fits net e.batch (view_of net w u) goes.fits));
      }))

  stopped_there : (v : ℕ) → v ≢ u → Moves net w (stopped w u octets e) v
  unfolding stopped
  stopped_there v apart =
      durable_stays net w (stopped w u octets e) v (stopped_view v)
      (ap (λ (d : InDoubt). d.batch) (other_set w.in_doubt u v (record { batch = e.batch; checkpointed = None }) apart))

  pub effect_moves : (environment : Environment) (v : ℕ) → Moves net w (perform net w u octets environment e).0 v
  effect_moves environment v =
      perform_walk net w (λ (x : World). Moves net w x v) (stays net w v) u octets environment e
      (λ numbered room. here_or_there (Moves net w (stopped w u octets e)) u v stopped_here (stopped_there v))
      (λ numbered room. here_or_there (Moves net w (commit net.site w u octets e)) u v (commit_here numbered) (commit_there numbered v))
