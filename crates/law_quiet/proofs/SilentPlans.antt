-- A plan in a settle that reports nothing is idle.
use Rattle.std.proofs.Common.{◌≡◌, ℕ, ◌+◌, true, not, ◌&&◌, ◌||◌, List, [], ◌∷◌, refl, sym, ◌∙◌, ap, subst}
use Rattle.qkd_base.specs.declared.lane.Lane.{Lane}
use Rattle.std.specs.Prelude.{nat_lt}
use Rattle.std.specs.List.{list_all}
use Rattle.net_model.specs.declared.event.Event.TheVariants.{Plan}
use Rattle.net_model.specs.declared.order.Order.{Order}
use Rattle.net_model.specs.declared.repeat.Repeat.{Repeat}
use Rattle.net_model.specs.declared.short_of.ShortOf.{ShortOf}
use Rattle.net_model.specs.declared.reply.Reply.TheVariants.{Planned}
use Rattle.net_model.specs.Journal.{journal_limit, added_len, is_nil}
use Rattle.net_model.specs.OctetSequence.{has_octets}
use Rattle.net_model.specs.World.{Network, World, Transmission}
use Rattle.net_model.specs.Decision.{Effect}
use Rattle.net_model.specs.Decide.{decide, random_need}
use Rattle.net_model.specs.Plan.{plan}
use Rattle.net_model.specs.Action.{Environment, Ok, OutOfMemory, EntropyFault, IoFault, DeviceFault, Action, Ask, Complete, Outcome, Replies, is_no_memory, is_entropy_fault, is_io_fault, is_shown, Allocate, Transmit}
use Rattle.net_model.specs.Handle.{is_numbered, commit, perform, handle}
use Rattle.net_model.specs.Step.{step, is_enabled, IsStep}
use Rattle.run_model.specs.Outcomes.{plan_items}
use Rattle.run_model.specs.Play.{plain}
use Rattle.law_base.proofs.Base.{by_test, and_right}
use Rattle.law_quiet.specs.Silent.{IsIdle}
use Rattle.law_quiet.proofs.IdlePlans.{effect}

-- Actions that a script asks for, whatever the outside answers.

pub record IsAsked (a : Action) (v : ℕ) : Type 0 where
  pub environment : Environment
  pub is : a ≡ Ask v Plan environment

pub asked_plan : (a : Action) (v : ℕ) → plain a ≡ Ask v Plan Ok → IsAsked a v
asked_plan (Ask u event environment) v h = record { environment = environment; is = cc }
asked_plan _ v h = cc

pub asked_note : (a : Action) (v : ℕ) → plain a ≡ Complete v → a ≡ Complete v
asked_note (Complete u) v h = h
asked_note _ v h = cc

pub asked_put : (a : Action) (l : Lane) (j : ℕ) → plain a ≡ Transmit l j Ok → (environment : Environment) × (a ≡ Transmit l j environment)
asked_put (Transmit k i environment) l j h = (environment, cc)
asked_put _ l j h = cc

pub asked_claim : (a : Action) (t : Transmission) → plain a ≡ Allocate t → a ≡ Allocate t
asked_claim (Allocate u) t h = h
asked_claim _ t h = cc

-- An answer of the outside that shows isn't a plan.
pub shown_plan : (environment : Environment) (o : List Order) (r : List Repeat) (s : List ShortOf) → is_shown environment (Replies (Planned o r s)) ≡ true → environment ≡ Ok
shown_plan Ok o r s h = refl
shown_plan OutOfMemory o r s h = cc
shown_plan EntropyFault o r s h = cc
shown_plan IoFault o r s h = cc
shown_plan DeviceFault o r s h = cc

module _ (net : Network) (w : World) (v : ℕ) where
  -- If nothing is reported, the plan is idle.
  abbrev Tells : World × Outcome → Type 0
  Tells r = plan_items true v r.1 ≡ [] → r.1 ≡ Replies (Planned [] [] [])

  planned_none : (o : List Order) (r : List Repeat) (s : List ShortOf) → plan_items true v (Replies (Planned o r s)) ≡ [] → Replies (Planned o r s) ≡ Replies (Planned [] [] [])
  planned_none [] [] [] h = refl
  planned_none [] [] (x ∷ s) h = cc
  planned_none [] (x ∷ r) s h = cc
  planned_none (x ∷ o) r s h = cc

  committed : (octets : ℕ) → Tells (commit net.site w v octets (effect net w v), Replies (effect net w v).reply)
  unfolding plan
  committed octets h = planned_none _ _ _ h

  performed : (octets : ℕ) (environment : Environment) → Tells (perform net w v octets environment (effect net w v))
  unfolding perform
  performed octets environment =
      let e : Effect = effect net w v in
      by_test Tells (is_no_memory environment || not (list_all is_numbered e.batch)) _ _ (λ t h. cc)
      (λ t. by_test Tells (nat_lt journal_limit ((w.journal v).length' + added_len (w.journal v).version e.batch)) _ _ (λ t h. cc)
      (λ t. by_test Tells (nat_lt 0 octets && (not (has_octets (net.entropy v) (w.drawn v + octets)) || is_entropy_fault environment)) _ _ (λ t h. cc)
      (λ t. by_test Tells (is_io_fault environment && not (is_nil e.batch)) _ _ (λ t h. cc) (λ t. committed octets))))

  tells : (environment : Environment) → Tells (step net w (Ask v Plan environment))
  unfolding step handle decide random_need
  tells environment = by_test Tells (w.up v) _ _ (λ t. performed 0 environment) (λ t h. cc)

  -- So it is with an outside that does all that is asked.
  pub silent_plan : (environment : Environment) → IsStep net w (Ask v Plan environment) → plan_items true v (step net w (Ask v Plan environment)).1 ≡ [] →
      (environment ≡ Ok) × IsIdle net w v
  silent_plan environment may none =
      let said = tells environment none in
      let is = shown_plan environment [] [] [] (ap (is_shown environment) (sym said) ∙ and_right (is_enabled net w (Ask v Plan environment)) _ may) in
      (is, subst (λ (e : Environment). (step net w (Ask v Plan e)).1 ≡ Replies (Planned [] [] [])) is said)
