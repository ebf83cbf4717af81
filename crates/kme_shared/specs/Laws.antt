-- What holds of each turn of a machine holds of each reply in its history.
use Rattle.std.proofs.Common.{◌≡◌, ℕ, List, [], ◌∷◌, Option, sym, ap, subst, ◌∙◌, arith}
use Rattle.net_model.specs.declared.reply.Reply.{Reply}
use Rattle.net_model.specs.Site.{Site}
use Rattle.world_state.specs.Passed.{Post}
use Rattle.run_ops.specs.declared.job.Job.{Job}
use Rattle.lane_shares.specs.declared.share.Share.{Share}
use Rattle.lane_shares.specs.declared.shares.Shares.{Shares}
use Rattle.lane_shares.specs.declared.view.View.{View}
use Rattle.turnstile.specs.Turns.{Leads}
use Rattle.shared_objects.specs.Calling.{HasTurned}
use Rattle.par_managers.specs.PlanTaking.{TookPlanTurn}
use Rattle.kme_shared.specs.Granting.{IsGranted}
use Rattle.disk_model.specs.declared.disk.Disk as Disk
use Rattle.source_devices.specs.declared.entropy.Entropy as Entropy

module _ {M C Q A : Type 0} {turn : M → Q → A → M → Type 0} (charter : M → C) (kept : (m : M) (q : Q) (a : A) (n : M) → turn m q a n → charter n ≡ charter m) where
  -- what no turn changes is the same after any history
  stays : (m n : M) (log : List (Q × A)) → Leads turn m log n → charter n ≡ charter m
  stays m n [] is = sym (ap charter is)
  stays m n (e ∷ es) (k, turned, leads) = stays k n es leads ∙ kept m e.0 e.1 k turned

module _ {M C Q A : Type 0} {turn : M → Q → A → M → Type 0} (charter : M → C) (Holds : C → A → Type 0) (kept : (m : M) (q : Q) (a : A) (n : M) → turn m q a n → charter n ≡ charter m)
    (holds : (m : M) (q : Q) (a : A) (n : M) → turn m q a n → Holds (charter m) a) where
  -- if each turn's reply has the property, so has a reply at any time, under the first charter
  pub always : (m : M) (q : Q) (a : A) → HasTurned turn m q a → Holds (charter m) a
  always m q a t = subst (λ (c : C). Holds c a) (stays charter kept m t.before t.earlier t.leads) (holds t.before q a t.after t.turned)

-- the manager grants the bytes for what its reply wants put
pub granted_by : {K E : Type 0} {disk_says : Disk.Ghosts K} {entropy_says : Entropy.Ghosts E}
    {s : Site} {v linked : ℕ} {old : Post K E} {shares : List Shares} {place : ℕ} {job : Job} {octets : Option (List ℕ)} {given : List Share} {reply : Reply} {gives : List Share} {linked' : ℕ} {new : Post K E} →
    TookPlanTurn disk_says entropy_says s v linked old shares place job octets given reply gives linked' new → IsGranted s v shares reply gives
granted_by t = record {
  can = t.can;
  few = t.few;
  fits = t.fits;
  bytes = λ i. let is = ap (λ (w : View). w.amount) (t.granted i) in omega (arith, is);
}
