-- What an event may do to the view of a manager that is up: one of three things.
use Rattle.std.proofs.Common.{◌≡◌, ℕ, ◌<◌, true, not, ◌&&◌, ◌||◌, refl, sym, subst, inl, inr}
use Rattle.std.specs.Prelude.{◌+◌, nat_lt}
use Rattle.std.specs.List.{list_all}
use Rattle.net_model.specs.declared.event.Event.{Event}
use Rattle.net_model.specs.declared.reply.Reply.TheVariants.{Down}
use Rattle.net_model.specs.World.{Network, World}
use Rattle.net_model.specs.OctetSequence.{has_octets}
use Rattle.net_model.specs.Journal.{added_len, is_nil, journal_limit}
use Rattle.net_model.specs.Action.{Environment, Outcome, Replies, is_no_memory, is_entropy_fault, is_io_fault}
use Rattle.net_model.specs.Invariant.{Conserved}
use Rattle.net_model.specs.Premises.{IsNetwork}
use Rattle.net_model.specs.Events.{is_valid_event}
use Rattle.net_model.specs.Step.{is_asked}
use Rattle.net_model.specs.Needed.{view_of}
use Rattle.net_model.specs.Decision.{Decision, Refuses, Does, Effect}
use Rattle.net_model.specs.Decide.{random_need}
use Rattle.net_model.specs.Handle.{is_numbered, commit, perform, resolve, handle}
use Rattle.net_model.specs.Fold.{view_after}
use Rattle.law_base.proofs.Base.{when_true}
use Rattle.law_base.proofs.Walks.{perform_walk}
use Rattle.law_invariant.specs.May.{decided}
use Rattle.law_recovery.specs.Turns.{GoesBy}
use Rattle.law_recovery.proofs.Asked.{event_goes}
use Rattle.law_recovery.proofs.Doubtful.{stopped_view}

perform_goes : (net : Network) (w : World) (v octets : ℕ) (environment : Environment) (e : Effect) →
    (list_all is_numbered e.batch ≡ true → view_of net (commit net.site w v octets e) v ≡ view_after (view_of net w v) e) →
    GoesBy net w v (Does e) (perform net w v octets environment e).0
perform_goes net w v octets environment e h =
    perform_walk net w (GoesBy net w v (Does e)) (inl refl) v octets environment e (λ numbered fits. inr (inl (stopped_view net w v octets e))) (λ numbered fits. inr (inr (h numbered)))

pub ask_goes : (net : Network) (w : World) (v : ℕ) (event : Event) (environment : Environment) → IsNetwork net → Conserved net w → v < net.site.nodes → w.up v ≡ true →
    is_asked event ≡ true → is_valid_event net.site v event ≡ true → GoesBy net w v (decided net w v event) (handle net w v event environment).0
unfolding handle
ask_goes net w v event environment good c here up asked valid =
    let octets : ℕ = random_need (view_of net w v) event in
    let x : Decision = decided net w v event in
    let all : GoesBy net w v x (resolve net w v octets environment x).0 =
    elim x as (λ y. x ≡ y → GoesBy net w v y (resolve net w v octets environment y).0) [
      | Refuses reply ↦ λ is. refl
      | Does e ↦ λ is. perform_goes net w v octets environment e (λ numbered. event_goes net w v good c here event e octets asked valid is numbered)
    ] refl in
    subst (λ (r : World × Outcome). GoesBy net w v x (r.0)) (sym (when_true (w.up v) (resolve net w v octets environment x) (w, Replies Down) up)) all
