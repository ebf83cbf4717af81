-- The images that a run leaves are images of its last world.
use Rattle.std.proofs.Common.{◌≡◌, ℕ, ◌<◌, Bool, true, false, List, [], ◌++◌, refl, sym, subst, Some}
use Rattle.net_model.specs.declared.record.Record.{Record}
use Rattle.net_model.specs.Premises.{IsNetwork}
use Rattle.net_model.specs.World.{Network, World, Journal}
use Rattle.net_model.specs.Needed.{view_of}
use Rattle.net_model.specs.Journal.{is_blank}
use Rattle.net_model.specs.Invariant.{IsJournal}
use Rattle.net_model.specs.Action.{Action}
use Rattle.net_model.specs.Step.{run, IsRun}
use Rattle.run_model.specs.Left.{batches_made, with_doubt, IsFoldOf}
use Rattle.run_types.specs.declared.scenario.Scenario.{Scenario}
use Rattle.run_model.specs.Turn.{HttpTexts}
use Rattle.run_model.specs.Begin.{MayBegin}
use Rattle.run_model.specs.Bench.{DiskBatches, Seen}
use Rattle.run_model.specs.Course.{Words, Course, whole_run, last_world}
use Rattle.run_model.specs.Headline.{Stop, Given, Headline}
use Rattle.net_model.specs.Start.{may_resolve}
use Rattle.law_recovery.specs.GivesBack.{GivesBack}
use Rattle.law_recovery.specs.Saved.{DoubtsFit}
use Rattle.law_recovery.proofs.Runs.{run_held}
use Rattle.law_run.proofs.Folds.{doubt_gives_back, fold_gives_back}
use Rattle.law_run.proofs.Resting.{rest_fits, gives_back}
use Rattle.law_lives.specs.Images.{IsImage, AreImages}
use Rattle.law_lives.specs.Left.{AreLeft, AreCurrent, HasOneWorld}
use Rattle.law_lives.specs.OneWorld.{IsOneWorld}
use Rattle.law_lives.proofs.Choices.{choice, choice_holds}
use Rattle.law_lives.proofs.Unstarted.{unstarted_given, unstarted_may}
use Rattle.law_lives.proofs.Worlds.{images_have_one_world}

module _ (net : Network) (begin : World) (actions : List Action) (network : IsNetwork net) (begins : MayBegin net begin) (r : IsRun net begin actions) where
  abbrev last : World
  last = run net begin actions

  fits : DoubtsFit net begin
  fits = rest_fits net begin begins.rest

  -- Whichever doubts are chosen, there are batches that have just these.
  pub any_choice : (made : ℕ → Bool) → ((v : ℕ) → v < net.site.nodes → may_resolve (last.in_doubt v) (made v) ≡ true) →
      (images : ℕ → List (List Record)) × ((v : ℕ) → v < net.site.nodes → IsImage net last v (made v) (images v))
  any_choice made may =
      let P : ℕ → List (List Record) → Type 0 = λ v images. IsImage net last v (made v) images in
      let each : (v : ℕ) → v < net.site.nodes → (images : List (List Record)) × P v images = λ v less.
      let g = begins.given v less in (
        g.0 ++ with_doubt (made v) (last.in_doubt v) (batches_made net v begin actions),
        record { may = may v less; back = doubt_gives_back net begin actions v g.0 network begins.conserved fits (gives_back net begin v g.0 g.1) r (made v) },
      ) in
      (choice net.site.nodes P [] each, choice_holds net.site.nodes P [] each)

  module _ (current : AreCurrent net begin) (images : ℕ → List (List Record)) (left : AreLeft net begin actions images) where
    Read : ℕ → Type 0
    Read v = (made : Bool) × IsImage net last v made (images v)

    fold_read : (v : ℕ) → v < net.site.nodes → IsFoldOf net begin actions last v (images v) → Read v
    unfolding Read
    fold_read v less f =
        let g = begins.given v less in (
          f.committed,
          record { may = f.may; back = fold_gives_back net begin actions v g.0 network begins.conserved fits (gives_back net begin v g.0 g.1) r (images v) f },
        )

    none_read : (v : ℕ) → v < net.site.nodes → is_blank (last.journal v) ≡ true → images v ≡ [] → Read v
    unfolding Read
    none_read v less blank none = (
      false,
      record {
        may = unstarted_may net begin actions begins current v blank;
        back = subst (λ (bs : List (List Record)). GivesBack net.site v bs (view_of net last v)) (sym none) (unstarted_given net begin actions v network begins current r less blank);
      },
    )

    read : AreImages net last images
    unfolding Read
    read v less = elim (is_blank (last.journal v)) as (λ t. is_blank (last.journal v) ≡ t → Read v) [
      | true ↦ λ e. none_read v less e (left.unstarted v less e)
      | false ↦ λ e. fold_read v less (left.started v less e)
    ] refl

    pub left_have_one_world : (journals : ℕ → Journal) → ((v : ℕ) → IsJournal (journals v)) → (made : ℕ → Bool) × IsOneWorld net last images journals made
    left_have_one_world journals sized =
        let h = run_held net network actions begin (record { conserved = begins.conserved; fits = fits }) r in images_have_one_world net last images journals h.conserved h.fits read sized

module _ (words : Words) (stop : Stop) (http : HttpTexts) (reading : DiskBatches) (scenario : Scenario) (seen : Seen) (old new : Given) (c : Course)
    (h : Headline words stop http reading scenario seen old new c) (current : AreCurrent c.net c.begin) where
  record IsRead (v : ℕ) (batches : List (List Record)) : Type 0 where
    read : is_blank ((last_world c).journal v) ≡ false → reading (seen.disk v) ≡ Some batches
    fold : is_blank ((last_world c).journal v) ≡ false → IsFoldOf c.net c.begin (whole_run c) (last_world c) v batches
    unstarted : is_blank ((last_world c).journal v) ≡ true → batches ≡ []

  one_read : (v : ℕ) → v < c.net.site.nodes → (batches : List (List Record)) × IsRead v batches
  one_read v less = elim (is_blank ((last_world c).journal v)) as (λ t. is_blank ((last_world c).journal v) ≡ t → (batches : List (List Record)) × IsRead v batches) [
    | true ↦ λ e. ([], record { read = λ no. cc; fold = λ no. cc; unstarted = λ yes. refl })
    | false ↦ λ e. let d = h.disks v less e in (d.0, record { read = λ no. d.1; fold = λ no. d.2; unstarted = λ yes. cc })
  ] refl

  pub headline_has_one_world : (journals : ℕ → Journal) → ((v : ℕ) → IsJournal (journals v)) → HasOneWorld reading seen c journals
  headline_has_one_world journals sized =
      let images = choice c.net.site.nodes IsRead [] one_read in
      let are = choice_holds c.net.site.nodes IsRead [] one_read in
      let left : AreLeft c.net c.begin (whole_run c) images = record { started = λ v less. (are v less).fold; unstarted = λ v less. (are v less).unstarted } in
      let world = left_have_one_world c.net c.begin (whole_run c) h.run.network h.run.begins h.run.steps current images left journals sized in
      record {
        images = images;
        read = λ v less. (are v less).read;
        unstarted = λ v less. (are v less).unstarted;
        made = world.0;
        world = world.1;
        life = record { network = h.run.network; steps = h.run.steps; read = world.1.as_read; sized = sized };
      }
