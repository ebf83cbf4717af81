-- What is done to a part of a state is done to the whole state, which stands for the same world as its part.
use Rattle.std.proofs.Common.{ℕ, List, inl, inr}
use Rattle.std.specs.Prelude.{Result, Ok, Err, IfOk, OnErr}
use Rattle.declared_site.specs.declared.site.Site.{Site as Declared}
use Rattle.net_model.specs.Site.{Site}
use Rattle.net_model.specs.World.{Network, World}
use Rattle.net_model.specs.Action.{Action, Outcome}
use Rattle.run_types.specs.declared.item.Item.{Item}
use Rattle.run_model.specs.Script.{Script}
use Rattle.run_ops.specs.Acting.{IsReady, Does, Begins, Plays}
use Rattle.run_ops.specs.declared.done_block.DoneBlock.{DoneBlock}
use Rattle.run_ops.specs.declared.job.Job.{Job}
use Rattle.run_ops.specs.Doing.{MayTogether, DidTogether}
use Rattle.run_ops.specs.Together.{DoesTogether, LeftTogether}

module _ {S T : Type 0} (part : T → S) (R : S → Network → World → Type 0) where
  abbrev Whole : T → Network → World → Type 0
  Whole t = R (part t)

  ready_in : (t : T) (net : Network) (w : World) → IsReady Whole t net w → IsReady R (part t) net w
  ready_in t net w h = record { stands = h.stands; quiet = h.quiet }

  ready_out : (t : T) (net : Network) (w : World) → IsReady R (part t) net w → IsReady Whole t net w
  ready_out t net w h = record { stands = h.stands; quiet = h.quiet }

  module _ (G : S → S → Site → List Action → Type 0) (old new : T) where
    abbrev Told : T → T → Site → List Action → Type 0
    Told a b = G (part a) (part b)

    done_out : (net : Network) (w : World) (asked : Action) (outcome : Outcome) → Does R G (part old) (part new) net w asked outcome → Does Whole Told old new net w asked outcome
    done_out net w asked outcome h = record { action = h.action; is = h.is; may = h.may; said = h.said; ready = ready_out new net _ h.ready; tallied = h.tallied }

    pub ok_out : {A E : Type 0} (r : Result A E) (asked : Action) (outcome : A → Outcome) →
        IfOk r (λ a. (net : Network) (w : World) → IsReady R (part old) net w → Does R G (part old) (part new) net w asked (outcome a)) →
        IfOk r (λ a. (net : Network) (w : World) → IsReady Whole old net w → Does Whole Told old new net w asked (outcome a))
    ok_out (Ok a) asked outcome h = λ net w ready. done_out net w asked (outcome a) (h net w (ready_in old net w ready))
    ok_out (Err e) asked outcome h = tt

    -- a script that was done to its end
    pub plays_out : {E : Type 0} (r : Result (List Item) E) (script : Network → Script) →
        IfOk r (λ items. (net : Network) (w : World) → IsReady R (part old) net w → Plays R G (part old) (part new) net w (script net) items) →
        IfOk r (λ items. (net : Network) (w : World) → IsReady Whole old net w → Plays Whole Told old new net w (script net) items)
    plays_out (Ok items) script h = λ net w ready.
        let p = h net w (ready_in old net w ready) in
        record { actions = p.actions; after = p.after; is = p.is; said = p.said; ready = ready_out new net p.after p.ready; tallied = p.tallied }
    plays_out (Err e) script h = tt

    -- when the run ends early, what is left of the part is what is left of the whole
    pub err_out : (L : S → Network → World → Type 0) {A E : Type 0} (r : Result A E) (script : Network → Script) →
        OnErr r ((net : Network) (w : World) → IsReady R (part old) net w → Begins L G (part old) (part new) net w (script net)) →
        OnErr r ((net : Network) (w : World) → IsReady Whole old net w → Begins (λ t. L (part t)) Told old new net w (script net))
    err_out L (Ok a) script h = tt
    err_out L (Err e) script h = λ net w ready. let b = h net w (ready_in old net w ready) in record { actions = b.actions; is = b.is; rests = b.rests; tallied = b.tallied }

    left_whole : (L : S → Network → World → Type 0) (net : Network) (workers : ℕ) (w : World) (jobs : List Job) → LeftTogether L G (part old) (part new) net workers w jobs →
        LeftTogether (λ t. L (part t)) Told old new net workers w jobs
    left_whole L net workers w jobs (inl before) = inl before
    left_whole L net workers w jobs (inr b) = inr (record { works = b.works; are = b.are; rests = b.rests; tallied = b.tallied })

    -- a block

    done_whole : {F : Type 0} (r : Result DoneBlock F) (workers : ℕ) (jobs : List Job) →
        IfOk r (λ done. (net : Network) (w : World) → IsReady R (part old) net w → DoesTogether R G (part old) (part new) net workers w jobs done) →
        IfOk r (λ done. (net : Network) (w : World) → IsReady Whole old net w → DoesTogether Whole Told old new net workers w jobs done)
    done_whole (Ok done) workers jobs h = λ net w ready.
        let b = h net w (ready_in old net w ready) in
        record { works = b.works; are = b.are; turns = b.turns; frames = b.frames; ready = ready_out new net _ b.ready; tallied = b.tallied }
    done_whole (Err e) workers jobs h = tt

    ended_whole : (L : S → Network → World → Type 0) {F : Type 0} (r : Result DoneBlock F) (workers : ℕ) (jobs : List Job) →
        OnErr r ((net : Network) (w : World) → IsReady R (part old) net w → LeftTogether L G (part old) (part new) net workers w jobs) →
        OnErr r ((net : Network) (w : World) → IsReady Whole old net w → LeftTogether (λ t. L (part t)) Told old new net workers w jobs)
    ended_whole L (Ok done) workers jobs h = tt
    ended_whole L (Err e) workers jobs h = λ net w ready. left_whole L net workers w jobs (h net w (ready_in old net w ready))

    pub together_out : (site : S → Declared) (L : S → Network → World → Type 0) (armed : S → ℕ) {F : Type 0} (r : Result DoneBlock F) (workers : ℕ) (jobs : List Job) →
        DidTogether site R L G armed (part old) (part new) workers jobs r →
        DidTogether (λ t. site (part t)) Whole (λ t. L (part t)) Told (λ t. armed (part t)) old new workers jobs r
    together_out site L armed r workers jobs h =
        record { sited = h.sited; armed_as = h.armed_as; done = done_whole r workers jobs h.done; left = ended_whole L r workers jobs h.left }

  -- what may be done to the whole may be done to the part
  pub together_in : (site : S → Declared) (t : T) (workers : ℕ) (jobs : List Job) → MayTogether (λ t. site (part t)) Whole t workers jobs → MayTogether site R (part t) workers jobs
  together_in site t workers jobs h = record {
    some = h.some;
    few = h.few;
    fit = h.fit;
    there = λ net w ready. h.there net w (ready_out t net w ready);
    ready = (h.ready.0, h.ready.1, ready_in t h.ready.0 h.ready.1 h.ready.2);
  }
