-- A tick of an idle node leaves the table and all other managers as they were, and the network quiet.
use Rattle.std.proofs.Common.{◌≡◌, ℕ, ◌+◌, true, ◌&&◌, List, [], ◌∷◌, refl, sym, ◌∙◌, ap, subst}
use Rattle.std.specs.Prelude.{nat_lt, if◌then◌else◌}
use Rattle.qkd_base.specs.declared.lane.Lane.{Lane}
use Rattle.net_model.specs.declared.event.Event.TheVariants.{Plan, Note}
use Rattle.net_model.specs.declared.placing.Placing.{Placing}
use Rattle.net_model.specs.declared.reply.Reply.TheVariants.{Noted, JournalFull, Down}
use Rattle.net_model.specs.Journal.{journal_limit, added_len}
use Rattle.net_model.specs.Premises.{IsNetwork}
use Rattle.net_model.specs.Events.{is_valid_event}
use Rattle.net_model.specs.Site.{outgoing_lanes}
use Rattle.net_model.specs.World.{Network, World, Volatile}
use Rattle.net_model.specs.Needed.{masked, view_of}
use Rattle.net_model.specs.Records.{replay}
use Rattle.net_model.specs.Window.{complete}
use Rattle.net_model.specs.Decision.{Effect}
use Rattle.net_model.specs.Decide.{decide, random_need}
use Rattle.net_model.specs.Tick.{tick_order}
use Rattle.net_model.specs.Invariant.{Conserved}
use Rattle.net_model.specs.Action.{Ok, Ask, Complete, Outcome, Replies}
use Rattle.net_model.specs.Handle.{commit, perform, handle}
use Rattle.net_model.specs.Step.{step, is_node, is_asked, is_enabled, IsStep}
use Rattle.law_base.proofs.Base.{by_number, by_test, and_both, number_set_same}
use Rattle.law_invariant.proofs.Steps.{step_keeps}
use Rattle.law_locality.specs.Quiet.{IsQuiet}
use Rattle.law_locality.specs.Sending.{Sends}
use Rattle.law_locality.proofs.Completing.{may_complete, completes}
use Rattle.law_locality.proofs.Managers.{elsewhere}
use Rattle.law_locality.proofs.Planning.{plan_goes, plan_noted}
use Rattle.law_quiet.specs.Silent.{IsIdle, ticked}
use Rattle.law_quiet.proofs.IdlePlans.{IsSameTable, effect, IsPlanned, plan_leaves}

-- A manager that is told of no placing changes nothing.
module _ (net : Network) (x : World) (v : ℕ) where
  pub record IsTold (new : World) : Type 0 where
    pub table : IsSameTable x.durable new.durable
    pub up : new.up ≡ x.up
    pub links : new.link_up ≡ x.link_up
    pub volatile : (u : ℕ) → new.volatile u ≡ x.volatile u

  abbrev Told : World × Outcome → Type 0
  Told r = IsTold r.0

  same : (outcome : Outcome) → Told (x, outcome)
  same outcome = record { table = record { facts = refl; known = refl; acked = refl }; up = refl; links = refl; volatile = λ u. refl }

  abbrev nothing : Effect
  nothing = record { batch = []; volatile = x.volatile v; orders = []; repeats = []; reply = Noted }

  noted : Told (commit net.site x v 0 nothing, Replies Noted)
  unfolding commit replay
  noted = record {
    table = record { facts = refl; known = refl; acked = refl };
    up = refl;
    links = refl;
    volatile = by_number (λ u t. (if t then x.volatile v else x.volatile u) ≡ x.volatile u) v refl (λ u ne. refl);
  }

  performed : Told (perform net x v 0 Ok nothing)
  unfolding perform
  performed =
      by_test Told (nat_lt journal_limit ((x.journal v).length' + added_len (x.journal v).version []))
      (x, Replies (JournalFull (x.journal v).length' (added_len (x.journal v).version []))) (commit net.site x v 0 nothing, Replies Noted) (λ t. same (Replies (JournalFull (x.journal v).length' (added_len (x.journal v).version [])))) (λ t. noted)

  told_nothing : Told (handle net x v (Note []) Ok)
  unfolding handle decide random_need complete view_of masked
  told_nothing = by_test Told (x.up v) _ _ (λ up. performed) (λ down. same (Replies Down))

  told : (ps : List Placing) → ps ≡ [] → Told (handle net x v (Note ps) Ok)
  told ps none = subst (λ (qs : List Placing). Told (handle net x v (Note qs) Ok)) (sym none) told_nothing

pub none_ticked : (ls : List Lane) → tick_order ls [] [] ≡ []
unfolding tick_order
none_ticked [] = refl
none_ticked (l ∷ ls) = none_ticked ls

-- What a tick without frames leaves.
pub record IsTick (net : Network) (w : World) (v : ℕ) (new : World) : Type 0 where
  pub conserved : Conserved net new
  pub quiet : IsQuiet new
  pub table : IsSameTable w.durable new.durable
  pub up : new.up ≡ w.up
  pub links : new.link_up ≡ w.link_up
  pub mine : new.volatile v ≡ (effect net w v).volatile
  pub others : (u : ℕ) → (u ≡ v → ⊥) → new.volatile u ≡ w.volatile u

module _ (net : Network) (w : World) (network : IsNetwork net) (c : Conserved net w) (quiet : IsQuiet w) (v : ℕ) (node : is_node net v ≡ true) (idle : IsIdle net w v) where
  abbrev between : World
  between = (step net w (Ask v Plan Ok)).0

  pub planned : IsPlanned net w v between
  planned = plan_leaves net w v idle

  may_plan : IsStep net w (Ask v Plan Ok)
  unfolding is_enabled is_valid_event
  may_plan = and_both (is_enabled net w (Ask v Plan Ok)) true (and_both (is_node net v && is_asked Plan) true (and_both (is_node net v) (is_asked Plan) node refl) refl) refl

  sends : Sends net between v []
  sends = subst (Sends net between v) (none_ticked (outgoing_lanes net.site v)) (plan_goes net w v Ok [] [] [] network c quiet may_plan idle)

  may_note : IsStep net between (Complete v)
  may_note = and_both (is_enabled net between (Complete v)) true (may_complete net between v sends) refl

  heard : IsTold net between v (ticked net w v)
  unfolding step
  heard =
      let h = told net between v (between.placings v) (plan_noted net w v Ok v quiet) in
      record { table = h.table; up = h.up; links = h.links; volatile = h.volatile }

  pub ticks : IsTick net w v (ticked net w v)
  ticks = record {
    conserved = step_keeps net between (Complete v) network may_note (step_keeps net w (Ask v Plan Ok) network may_plan c);
    quiet = completes net between v sends;
    table = record {
      facts = heard.table.facts ∙ planned.table.facts;
      known = heard.table.known ∙ planned.table.known;
      acked = heard.table.acked ∙ planned.table.acked;
    };
    up = heard.up ∙ planned.up;
    links = heard.links ∙ planned.links;
    mine = heard.volatile v ∙ ap (λ (f : ℕ → Volatile). f v) planned.volatile ∙ number_set_same w.volatile v (effect net w v).volatile;
    others = λ u apart. heard.volatile u ∙ ap (λ (f : ℕ → Volatile). f u) planned.volatile ∙ elsewhere w.volatile v u (effect net w v).volatile apart;
  }
