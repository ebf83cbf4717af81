-- The turns that were taken so far, and those that are still to be taken.
use Rattle.std.proofs.Common.{◌≡◌, ℕ, true, List, [], ◌∷◌, ◌++◌, map, refl, sym, ap, subst, ◌∙◌, append_assoc}
use Rattle.std.specs.Prelude.{slice_get, Some}
use Rattle.std.proofs.lemmas.List.{map-append}
use Rattle.net_model.specs.declared.reply.Reply.{Reply}
use Rattle.net_model.specs.World.{Network, World}
use Rattle.net_model.specs.Action.{Environment, Action, Ok, Outcome, is_shown, environment_of}
use Rattle.net_model.specs.Step.{step, is_enabled, run, IsRun}
use Rattle.run_model.specs.Play.{plain}
use Rattle.run_model.specs.Works.{Work, Done, actions_in, plain_work, done_from}
use Rattle.run_ops.specs.declared.job.Job.{Job}
use Rattle.run_ops.specs.declared.job.Job.TheVariants as jobs
use Rattle.run_ops.specs.declared.done_block.Turned.{Turned}
use Rattle.run_ops.specs.Together.{turned, turn_done}
use Rattle.law_base.proofs.Base.{and_left}
use Rattle.law_locality.proofs.Runs.{one_more, nothing_runs, run_none, run_one, runs-append, run-append}
use Rattle.world_state.proofs.Disks.{has_disks}
use Rattle.world_state.proofs.Tallies.{none_tallied, tallied_more}
use Rattle.world_state.specs.Stands.{Stands}
use Rattle.world_state.specs.declared.state.State.{State}
use Rattle.world_state.specs.Tallied.{Tallied}
use Rattle.par_managers.specs.declared.next.Next.{Next}
use Rattle.par_managers.specs.Order.{AreDue}
use Rattle.par_managers.specs.TurnTaking.{TookTurn}
use Rattle.par_managers.specs.Turning.{asked_with, action_at, work_of}
use Rattle.par_managers.proofs.Histories.{done-append}
use Rattle.par_managers.proofs.Due.{due_still}
use Rattle.par_managers.proofs.Turning.{noted_still}
use Rattle.world_state.specs.Outside.{Outside}

plain_asked : (job : Job) (environment : Environment) → plain (asked_with job environment) ≡ asked_with job Ok
plain_asked jobs.Nothing environment = refl
plain_asked (jobs.Ask node event) environment = refl
plain_asked (jobs.Pass lane number) environment = refl

-- the outcome of a turn
abbrev done_by : Network → World → Work → Done
done_by net w x = record { work = x; before = w; outcome = (step net w x.action).1 }

done_one : (net : Network) (w : World) (x : Work) → done_from net w (x ∷ []) ≡ done_by net w x ∷ []
unfolding done_from
done_one net w x = refl

module _ {K Q E X : Type 0} (outside : Outside K Q E X)
    (old : State K Q E X) (net : Network) (w : World) (all : List Job) (order : List Work) where
  abbrev StandsAt : State K Q E X → World → Type 0
  StandsAt s u = Stands outside s net u

  -- From a quiet network on, these turns were taken, with these replies, and the rest is still to be taken. Together they are in the given order.
  pub record Far (now : State K Q E X) (rest : List Next) (done : List Turned) : Type 0 where
    pub works : List Work
    pub is : IsRun net w (actions_in works)
    pub asked : map plain_work works ++ map (work_of all) rest ≡ order
    pub said : map turned done ≡ map turn_done (done_from net w works)
    pub stands : StandsAt now (run net w (actions_in works))
    pub tallied : Tallied outside old now net.site (actions_in works)
    pub due : AreDue net (run net w (actions_in works)) all rest
    pub noted : (v : ℕ) → (run net w (actions_in works)).placings v ≡ []

  none_said : ◌≡◌ {A = List (ℕ × Outcome)} [] (map turn_done (done_from net w []))
  unfolding done_from
  none_said = refl

  -- No turn was taken.
  pub far_none : (rest : List Next) → StandsAt old w → ((v : ℕ) → w.placings v ≡ []) → map (work_of all) rest ≡ order → AreDue net w all rest → Far old rest []
  far_none rest stands noted asked due =
      let same : w ≡ run net w [] = sym (run_none net w) in
      record {
        works = [];
        is = nothing_runs net w;
        asked = asked;
        said = none_said;
        stands = subst (StandsAt old) same stands;
        tallied = none_tallied outside net.site old (has_disks outside old net w stands);
        due = subst (λ (x : World). AreDue net x all rest) same due;
        noted = λ v. ap (λ (x : World). x.placings v) (sym same) ∙ noted v;
      }

  -- One more turn is taken.

  module _ (mid : State K Q E X) (next : Next) (rest : List Next) (done : List Turned) (so : Far mid (next ∷ rest) done) (new : State K Q E X) (job : Job) (reply : Reply) (there : slice_get all next.place ≡ Some job)
      (took : TookTurn outside mid new net (run net w (actions_in so.works)) job reply) where
    abbrev here : World
    here = run net w (actions_in so.works)

    abbrev a : Action
    a = asked_with job took.environment

    abbrev after : World
    after = (step net here a).0

    abbrev x : Work
    x = record { place = next.place; action = a }

    abbrev more : List Work
    more = so.works ++ x ∷ []

    abbrev one : Turned
    one = record { place = next.place; reply = reply }

    actions_more : actions_in more ≡ actions_in so.works ++ a ∷ []
    actions_more = map-append (λ (y : Work). y.action) so.works (x ∷ [])

    over : run net w (actions_in more) ≡ after
    over = ap (run net w) actions_more ∙ run-append net (actions_in so.works) (a ∷ []) w ∙ run_one net here a [] ∙ run_none net after

    enabled : is_enabled net here a ≡ true
    enabled = and_left (is_enabled net here a) (is_shown (environment_of a) (step net here a).1) took.may

    runs : IsRun net w (actions_in more)
    runs = subst (IsRun net w) (sym actions_more) (runs-append net (actions_in so.works) (a ∷ []) w so.is (one_more net here a [] took.may (nothing_runs net after)))

    same_work : plain_work x ≡ work_of all next
    same_work i = record { place = next.place; action = (plain_asked job took.environment ∙ sym (ap action_at there)) i }

    asked_more : map plain_work more ++ map (work_of all) rest ≡ order
    asked_more =
        ap (λ (ys : List Work). ys ++ map (work_of all) rest) (map-append plain_work so.works (x ∷ []) ∙ ap (λ (y : Work). map plain_work so.works ++ y ∷ []) same_work)
        ∙ append_assoc (map plain_work so.works) (work_of all next ∷ []) (map (work_of all) rest) ∙ so.asked

    done_more : done_from net w more ≡ done_from net w so.works ++ done_by net here x ∷ []
    done_more = done-append net w so.works (x ∷ []) ∙ ap (λ (ds : List Done). done_from net w so.works ++ ds) (done_one net here x)

    said_one : turned one ≡ turn_done (done_by net here x)
    said_one i = (next.place, sym took.said i)

    said_more : map turned (done ++ one ∷ []) ≡ map turn_done (done_from net w more)
    said_more =
        map-append turned done (one ∷ []) ∙ ap (λ (ys : List (ℕ × Outcome)). ys ++ turned one ∷ []) so.said
        ∙ ap (λ (y : ℕ × Outcome). map turn_done (done_from net w so.works) ++ y ∷ []) said_one
        ∙ sym (ap (map turn_done) done_more ∙ map-append turn_done (done_from net w so.works) (done_by net here x ∷ []))

    pub far_more : Far new rest (done ++ one ∷ [])
    far_more = record {
      works = more;
      is = runs;
      asked = asked_more;
      said = said_more;
      stands = subst (StandsAt new) (sym over) took.stands;
      tallied = subst (λ (xs : List Action). Tallied outside old new net.site xs) (sym actions_more)
          (tallied_more outside net.site old mid new (actions_in so.works) (a ∷ []) so.tallied took.tallied);
      due = subst (λ (y : World). AreDue net y all rest) (sym over)
          (due_still net here so.stands.running.network so.stands.running.conserved job took.environment enabled all rest so.due.1);
      noted = λ v. ap (λ (y : World). y.placings v) over ∙ noted_still net here job took.environment v ∙ so.noted v;
    }
