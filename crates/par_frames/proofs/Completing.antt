-- What a note keeps of every node's disk and entropy.
use Rattle.std.proofs.Common.{◌≡◌, ℕ, ◌+◌, true, false, List, [], refl, sym, ap, subst, ◌∙◌, arith}
use Rattle.std.specs.Prelude.{◌==◌, nat_lt, if◌then◌else◌}
use Rattle.qkd_base.specs.Family.{number_set}
use Rattle.net_model.specs.declared.event.Event.TheVariants.{Note}
use Rattle.net_model.specs.declared.placing.Placing.{Placing}
use Rattle.net_model.specs.declared.reply.Reply.TheVariants as replies
use Rattle.net_model.specs.Premises.{IsNetwork}
use Rattle.net_model.specs.Invariant.{Conserved}
use Rattle.net_model.specs.World.{Network, World}
use Rattle.net_model.specs.View.{View}
use Rattle.net_model.specs.Needed.{view_of}
use Rattle.net_model.specs.Fold.{view_records, view_batch, view_after, view_restarted}
use Rattle.net_model.specs.Journal.{journal_limit}
use Rattle.net_model.specs.Window.{complete}
use Rattle.net_model.specs.Decision.{Effect}
use Rattle.net_model.specs.Decide.{decide, random_need}
use Rattle.net_model.specs.Handle.{commit, perform, handle}
use Rattle.net_model.specs.Action.{Complete, Outcome, Replies, Ok as Fine}
use Rattle.net_model.specs.Step.{step, is_enabled}
use Rattle.law_base.proofs.Base.{by_test, number_set_same, eq_from}
use Rattle.law_locality.proofs.ManagerSteps.{step_unseen}
use Rattle.law_recovery.proofs.Asked.{note_goes}
use Rattle.law_recovery.proofs.Restarting.{after_restarts, batch_restarts, masked_twice}

-- what a disk and an entropy keep
pub record Keeps (net : Network) (v : ℕ) (w x : World) : Type 0 where
  pub drawn : x.drawn v ≡ w.drawn v
  pub journal : x.journal v ≡ w.journal v
  pub doubt : x.in_doubt v ≡ w.in_doubt v
  pub view : view_restarted (view_of net x v) ≡ view_restarted (view_of net w v)

pub keeps_same : (net : Network) (v : ℕ) (w : World) → Keeps net v w w
keeps_same net v w = record { drawn = refl; journal = refl; doubt = refl; view = refl }

pub keeps_both : (net : Network) (v : ℕ) (w x y : World) → Keeps net v w x → Keeps net v x y → Keeps net v w y
keeps_both net v w x y h k = record { drawn = k.drawn ∙ h.drawn; journal = k.journal ∙ h.journal; doubt = k.doubt ∙ h.doubt; view = k.view ∙ h.view }

-- the views with the batch in doubt and without it
pub doubted : (a b : View) (batch : List _) → view_restarted a ≡ view_restarted b → view_restarted (view_batch a batch) ≡ view_restarted (view_batch b batch)
doubted a b batch same = batch_restarts a batch ∙ ap (λ (x : View). view_restarted (view_batch x batch)) same ∙ sym (batch_restarts b batch)

no_more : (n : ℕ) → n + 0 ≡ n
no_more n = omega arith

module _ (net : Network) (w : World) (v : ℕ) (network : IsNetwork net) (c : Conserved net w) where
  abbrev effect : List Placing → Effect
  effect ps = record { batch = []; volatile = complete (view_of net w v).acked (view_of net w v).volatile ps; orders = []; repeats = []; reply = replies.Noted }

  seen : (ps : List Placing) → view_of net (commit net.site w v 0 (effect ps)) v ≡ view_after (view_of net w v) (effect ps)
  unfolding decide
  seen ps = note_goes net w v network c ps (effect ps) 0 refl

  masked_seen : view_batch (view_of net w v) [] ≡ view_of net w v
  unfolding view_of view_records
  masked_seen = masked_twice _

  committed : (ps : List Placing) → Keeps net v w (commit net.site w v 0 (effect ps))
  unfolding commit
  committed ps = record {
    drawn = number_set_same w.drawn v (w.drawn v + 0) ∙ no_more (w.drawn v);
    journal = number_set_same w.journal v _ ∙ λ i. record (w.journal v) { length' = no_more ((w.journal v).length') i };
    doubt = refl;
    view = ap view_restarted (seen ps) ∙ after_restarts (view_of net w v) (effect ps) ∙ ap view_restarted masked_seen;
  }

  abbrev noted : List Placing → World × Outcome
  noted ps =
      if nat_lt journal_limit ((w.journal v).length' + 0) then (w, Replies (replies.JournalFull (w.journal v).length' 0))
      else (commit net.site w v 0 (effect ps), Replies replies.Noted)

  by : (ps : List Placing) → handle net w v (Note ps) Fine ≡ (if w.up v then noted ps else (w, Replies replies.Down))
  unfolding handle perform decide random_need
  by ps = refl

  handled : (ps : List Placing) → Keeps net v w (handle net w v (Note ps) Fine).0
  handled ps =
      subst (λ (r : World × Outcome). Keeps net v w r.0) (sym (by ps))
      (by_test (λ (r : World × Outcome). Keeps net v w r.0) (w.up v) _ _
      (λ up. by_test (λ (r : World × Outcome). Keeps net v w r.0) (nat_lt journal_limit ((w.journal v).length' + 0)) _ _ (λ full. keeps_same net v w) (λ fits. committed ps))
      (λ down. keeps_same net v w))

  placings_aside : (x : World) (placings : ℕ → List Placing) → Keeps net v w x → Keeps net v w (record x { placings = placings })
  unfolding view_of
  placings_aside x placings h = record { drawn = h.drawn; journal = h.journal; doubt = h.doubt; view = h.view }

  own : Keeps net v w (step net w (Complete v)).0
  unfolding step
  own = placings_aside (handle net w v (Note (w.placings v)) Fine).0 (number_set w.placings v []) (handled (w.placings v))

pub complete_keeps : (net : Network) (w : World) → IsNetwork net → Conserved net w → (v u : ℕ) → is_enabled net w (Complete v) ≡ true → Keeps net u w (step net w (Complete v)).0
complete_keeps net w network c v u may =
    elim (v == u) as (λ t. (v == u) ≡ t → Keeps net u w (step net w (Complete v)).0) [
      | true ↦ λ e. subst (λ (n : ℕ). Keeps net u w (step net w (Complete n)).0) (sym (eq_from v u e)) (own net w u network c)
      | false ↦ λ e.
          let other = (step_unseen net w network c u (Complete v) may e).manager in
          record { drawn = other.drawn; journal = other.journal; doubt = other.in_doubt; view = ap view_restarted other.view }
    ] refl
