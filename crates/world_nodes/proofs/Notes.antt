-- A node notes what became of its frames.
use Rattle.std.proofs.Common.{◌≡◌, ℕ, ◌+◌, Bool, true, false, List, [], refl, sym, ap, subst, ◌∙◌}
use Rattle.std.specs.Prelude.{nat_lt, if◌then◌else◌}
use Rattle.qkd_base.specs.Family.{number_set}
use Rattle.net_model.specs.declared.event.Event.TheVariants.{Note}
use Rattle.net_model.specs.declared.placing.Placing.{Placing}
use Rattle.net_model.specs.declared.reply.Reply.{Reply}
use Rattle.net_model.specs.declared.reply.Reply.TheVariants as replies
use Rattle.net_model.specs.World.{Network, World}
use Rattle.net_model.specs.Needed.{view_of}
use Rattle.net_model.specs.Journal.{journal_limit}
use Rattle.net_model.specs.Window.{complete}
use Rattle.net_model.specs.Decision.{Effect}
use Rattle.net_model.specs.Decide.{decide, random_need}
use Rattle.net_model.specs.Handle.{commit, perform, handle}
use Rattle.net_model.specs.Action.{Environment, OutOfMemory, EntropyFault, IoFault, DeviceFault, Outcome, Replies, Complete, is_entropy_fault, is_io_fault, is_shown, Ok as Fine}
use Rattle.net_model.specs.Step.{step, is_enabled}
use Rattle.law_base.proofs.Base.{and_both}
use Rattle.law_locality.specs.Touched.{ManagerStays}
use Rattle.law_recovery.proofs.Asked.{note_goes}
use Rattle.law_recovery.proofs.Steps.{note_effect}
use Rattle.kme_store.specs.declared.post.Post.{Post}
use Rattle.world_nodes.specs.Stands.{PostStands}
use Rattle.world_nodes.specs.Handled.{MayHandle, Handled}
use Rattle.world_nodes.specs.Noting.{MayNote, HasNoted, is_memory}
use Rattle.world_nodes.specs.Counts.{Counts}
use Rattle.world_nodes.proofs.Events.{down_says}
use Rattle.world_nodes.proofs.Going.{post_on}
use Rattle.disk_model.specs.declared.disk.Disk as Disk
use Rattle.source_devices.specs.declared.entropy.Entropy as Entropy

wants : Outcome → Bool
wants (Replies reply) = is_memory reply
wants _ = false

module _ (net : Network) (w : World) (v : ℕ) (ps : List Placing) where
  abbrev effect : Effect
  effect = record { batch = []; volatile = complete (view_of net w v).acked (view_of net w v).volatile ps; orders = []; repeats = []; reply = replies.Noted }

  abbrev noted_if : Bool → World × Outcome
  noted_if t = if t then (w, Replies (replies.JournalFull (w.journal v).length' 0)) else (commit net.site w v 0 effect, Replies replies.Noted)

  abbrev noted : World × Outcome
  noted = noted_if (nat_lt journal_limit ((w.journal v).length' + 0))

  abbrev noted_by : Environment → World × Outcome
  noted_by OutOfMemory = (w, Replies replies.Memory)
  noted_by _ = noted

  -- A note draws and writes nothing, so only a lack of memory can prevent it.
  by : (environment : Environment) → w.up v ≡ true → handle net w v (Note ps) environment ≡ noted_by environment
  unfolding handle perform decide random_need
  by Fine up = ap (λ (t : Bool). if t then noted else (w, Replies replies.Down)) up
  by OutOfMemory up = ap (λ (t : Bool). if t then (w, Replies replies.Memory) else (w, Replies replies.Down)) up
  by EntropyFault up = ap (λ (t : Bool). if t then noted else (w, Replies replies.Down)) up
  by IoFault up = ap (λ (t : Bool). if t then noted else (w, Replies replies.Down)) up
  by DeviceFault up = ap (λ (t : Bool). if t then noted else (w, Replies replies.Down)) up

  wants_none : (t : Bool) → wants (noted_if t).1 ≡ false
  unfolding wants
  wants_none true = refl
  wants_none false = refl

  said_as : (reply : Reply) (environment : Environment) → w.up v ≡ true → (handle net w v (Note ps) environment).1 ≡ Replies reply → is_memory reply ≡ wants (noted_by environment).1
  unfolding wants
  said_as reply environment up said = sym (ap wants (sym (ap (λ (x : World × Outcome). x.1) (by environment up)) ∙ said))

  none : (reply : Reply) → is_memory reply ≡ wants noted.1 → is_memory reply ≡ false
  none reply h = h ∙ wants_none (nat_lt journal_limit ((w.journal v).length' + 0))

  up_fine : (reply : Reply) (environment : Environment) → w.up v ≡ true → is_memory reply ≡ wants (noted_by environment).1 → is_memory reply ≡ false →
      handle net w v (Note ps) environment ≡ handle net w v (Note ps) Fine
  unfolding wants
  up_fine reply Fine up h isnt = refl
  up_fine reply OutOfMemory up h isnt = (let bad : true ≡ false = sym h ∙ isnt in absurd (cc bad))
  up_fine reply EntropyFault up h isnt = by EntropyFault up ∙ sym (by Fine up)
  up_fine reply IoFault up h isnt = by IoFault up ∙ sym (by Fine up)
  up_fine reply DeviceFault up h isnt = by DeviceFault up ∙ sym (by Fine up)

  up_kept : (reply : Reply) (environment : Environment) → w.up v ≡ true → is_memory reply ≡ wants (noted_by environment).1 → is_memory reply ≡ true → (handle net w v (Note ps) environment).0 ≡ w
  up_kept reply OutOfMemory up h is = ap (λ (x : World × Outcome). x.0) (by OutOfMemory up)
  up_kept reply Fine up h is = (let bad : true ≡ false = sym is ∙ none reply h in absurd (cc bad))
  up_kept reply EntropyFault up h is = (let bad : true ≡ false = sym is ∙ none reply h in absurd (cc bad))
  up_kept reply IoFault up h is = (let bad : true ≡ false = sym is ∙ none reply h in absurd (cc bad))
  up_kept reply DeviceFault up h is = (let bad : true ≡ false = sym is ∙ none reply h in absurd (cc bad))

  module _ (reply : Reply) (environment : Environment) (said : (handle net w v (Note ps) environment).1 ≡ Replies reply) where
    as_fine : (t : Bool) → w.up v ≡ t → is_memory reply ≡ false → handle net w v (Note ps) environment ≡ handle net w v (Note ps) Fine
    as_fine true up isnt = up_fine reply environment up (said_as reply environment up said) isnt
    as_fine false down isnt = down_says net w v (Note ps) environment down ∙ sym (down_says net w v (Note ps) Fine down)

    kept : (t : Bool) → w.up v ≡ t → is_memory reply ≡ true → (handle net w v (Note ps) environment).0 ≡ w
    kept true up is = up_kept reply environment up (said_as reply environment up said) is
    kept false down is = ap (λ (x : World × Outcome). x.0) (down_says net w v (Note ps) environment down)

  -- A note asks neither the disk nor the entropy, so neither of them fails in it.

  hides_disk : (t : Bool) → is_shown IoFault (noted_if t).1 ≡ false
  hides_disk true = refl
  hides_disk false = refl

  hides_entropy : (t : Bool) → is_shown EntropyFault (noted_if t).1 ≡ false
  hides_entropy true = refl
  hides_entropy false = refl

  no_disk : (t : Bool) → w.up v ≡ t → is_shown IoFault (handle net w v (Note ps) IoFault).1 ≡ false
  no_disk true up = ap (λ (x : World × Outcome). is_shown IoFault x.1) (by IoFault up) ∙ hides_disk (nat_lt journal_limit ((w.journal v).length' + 0))
  no_disk false down = ap (λ (x : World × Outcome). is_shown IoFault x.1) (down_says net w v (Note ps) IoFault down)

  no_entropy : (t : Bool) → w.up v ≡ t → is_shown EntropyFault (handle net w v (Note ps) EntropyFault).1 ≡ false
  no_entropy true up = ap (λ (x : World × Outcome). is_shown EntropyFault x.1) (by EntropyFault up) ∙ hides_entropy (nat_lt journal_limit ((w.journal v).length' + 0))
  no_entropy false down = ap (λ (x : World × Outcome). is_shown EntropyFault x.1) (down_says net w v (Note ps) EntropyFault down)

  no_fault : (reply : Reply) (environment : Environment) → (handle net w v (Note ps) environment).1 ≡ Replies reply → is_shown environment (Replies reply) ≡ true →
      (is_io_fault environment ≡ false) × (is_entropy_fault environment ≡ false)
  no_fault reply Fine said shown = (refl, refl)
  no_fault reply OutOfMemory said shown = (refl, refl)
  no_fault reply DeviceFault said shown = (refl, refl)
  no_fault reply EntropyFault said shown = (let bad : true ≡ false = sym shown ∙ sym (ap (is_shown EntropyFault) said) ∙ no_entropy (w.up v) refl in absurd (cc bad))
  no_fault reply IoFault said shown = (let bad : true ≡ false = sym shown ∙ sym (ap (is_shown IoFault) said) ∙ no_disk (w.up v) refl in absurd (cc bad))

-- Placings are no part of what a post stands for.
aside : (net : Network) (v : ℕ) (w : World) (placings : ℕ → List Placing) → ManagerStays net v w (record w { placings = placings })
unfolding view_of
aside net v w placings = record { view = refl; up = refl; drawn = refl; journal = refl; interrupted = refl; in_doubt = refl; volatile = refl }

completes : (net : Network) (w : World) (v : ℕ) → step net w (Complete v) ≡
    (record ((handle net w v (Note (w.placings v)) Fine).0) { placings = number_set w.placings v [] }, (handle net w v (Note (w.placings v)) Fine).1)
unfolding step
completes net w v = refl

module _ {K E : Type 0} (disk_says : Disk.Ghosts K) (entropy_says : Entropy.Ghosts E)
    (net : Network) (w : World) (v : ℕ) (old : Post K E) (placings : List Placing) (up : ℕ) (m : MayNote disk_says entropy_says net w v old placings up) where
  pub may_handle : MayHandle disk_says entropy_says net w v old (Note placings) up
  may_handle = record {
    running = m.running;
    stands = m.stands;
    valid = m.sized;
    goes = λ octets e is numbered. note_goes net w v m.running.network m.running.conserved placings e octets is;
    fits = λ e is. (note_effect net w m.running.network m.running.conserved v 0 placings e is).fits;
    links = m.links;
  }

  module _ (new : Post K E) (reply : Reply) (h : Handled disk_says entropy_says net w v (Note placings) old new reply) where
    abbrev Stands : World → Type 0
    Stands x = PostStands disk_says entropy_says net x v new

    -- The note raises no count of faults, and leaves the disk armed as it was.
    pub counts : Counts disk_says entropy_says false false old new
    counts =
        let none = no_fault net w v placings reply h.environment h.said h.shown in
        subst (λ (f : Bool). Counts disk_says entropy_says f false old new) none.0
        (subst (λ (f : Bool). Counts disk_says entropy_says (is_io_fault h.environment) f old new) none.1 h.counts)

    pub has_noted : is_memory reply ≡ false → HasNoted disk_says entropy_says net w v old new reply
    has_noted isnt =
        let here : handle net w v (Note placings) h.environment ≡ handle net w v (Note (w.placings v)) Fine =
        as_fine net w v placings reply h.environment h.said (w.up v) refl isnt ∙ ap (λ (ps : List Placing). handle net w v (Note ps) Fine) m.are in
        let out : World × Outcome = handle net w v (Note (w.placings v)) Fine in
        let done = completes net w v in
        record {
          may = and_both (is_enabled net w (Complete v)) true m.enabled refl;
          said = ap (λ (x : World × Outcome). x.1) done ∙ ap (λ (x : World × Outcome). x.1) (sym here) ∙ h.said;
          stands = subst (λ (x : World × Outcome). Stands x.0) (sym done)
              (post_on disk_says entropy_says net out.0 (record (out.0) { placings = number_set w.placings v [] }) v (aside net v out.0 (number_set w.placings v [])) new
              (subst (λ (x : World × Outcome). Stands x.0) here h.stands));
          counts = counts;
        }

    pub has_stayed : is_memory reply ≡ true → Stands w
    has_stayed is = subst Stands (kept net w v placings reply h.environment h.said (w.up v) refl is) h.stands
