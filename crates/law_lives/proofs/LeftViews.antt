-- The views of what a run leaves belong to one network.
use Rattle.std.proofs.Common.{◌≡◌, ℕ, ◌<◌, Bool, true, false, List, [], length, refl, sym, ◌∙◌, ap, subst, arith, Some, inl}
use Rattle.std.specs.Prelude.{slice_get}
use Rattle.std.proofs.lemmas.Option.{slice_get_past}
use Rattle.net_model.specs.declared.record.Record.{Record}
use Rattle.net_model.specs.OctetSequence.{OctetSequence, first_blocks}
use Rattle.net_model.specs.Premises.{IsNetwork}
use Rattle.net_model.specs.Sealing.{Sealing}
use Rattle.net_model.specs.Site.{Site}
use Rattle.net_model.specs.World.{Network, World, Journal, no_journal}
use Rattle.net_model.specs.Journal.{is_blank}
use Rattle.net_model.specs.View.{View, Port}
use Rattle.net_model.specs.Needed.{view_of}
use Rattle.net_model.specs.Fold.{recovered_view}
use Rattle.net_model.specs.Action.{Action}
use Rattle.net_model.specs.Step.{run, IsRun}
use Rattle.net_model.specs.Invariant.{Conserved}
use Rattle.run_types.specs.declared.scenario.Scenario.{Scenario}
use Rattle.run_model.specs.Begin.{MayBegin}
use Rattle.run_model.specs.Left.{IsFoldOf}
use Rattle.run_model.specs.Turn.{HttpTexts}
use Rattle.run_model.specs.Bench.{DiskBatches, Seen}
use Rattle.run_model.specs.Course.{Words, Course, last_world, whole_run}
use Rattle.run_model.specs.Headline.{Stop, Given, Headline}
use Rattle.law_recovery.proofs.Runs.{run_held}
use Rattle.law_run.proofs.Resting.{rest_fits}
use Rattle.law_lives.specs.AtRest.{at_rest}
use Rattle.law_lives.specs.Belongs.{view_or, view_in, names_of, AreRead, Belongs, NothingBehind}
use Rattle.law_lives.specs.KeptWorld.{kept_durable, kept_network, kept_world}
use Rattle.law_lives.specs.Left.{AreLeft, AreCurrent}
use Rattle.law_lives.specs.OneWorld.{IsOneWorld}
use Rattle.law_lives.proofs.Behind.{run_behind, rest_behind}
use Rattle.law_lives.proofs.Courses.{left_have_one_world}
use Rattle.law_lives.proofs.KeptViews.{is_read, view_read}
use Rattle.law_lives.proofs.WorldViews.{world_belongs}

pub views_belong : (net : Network) (w : World) (batches : ℕ → List (List Record)) (views : List View) → Conserved net w → NothingBehind net w → AreRead net.site batches views →
    ((v : ℕ) → v < net.site.nodes → view_of net w v ≡ recovered_view net.site v (batches v)) → Belongs net.site net.device views
views_belong net w batches views c behind read given =
    world_belongs net w c behind views (is_read net.site batches views read) read.all (λ v less. view_read net.site batches views read v less ∙ sym (given v less))

pub left_belong : (net : Network) (begin : World) (actions : List Action) (images : ℕ → List (List Record)) (views : List View) → IsNetwork net → MayBegin net begin →
    AreCurrent net begin → NothingBehind net begin → IsRun net begin actions → AreLeft net begin actions images → AreRead net.site images views → Belongs net.site net.device views
left_belong net begin actions images views network begins current behind r left read =
    let journals : ℕ → Journal = λ v. no_journal in
    let world = left_have_one_world net begin actions network begins r current images left journals (λ v. inl refl) in
    let made : ℕ → Bool = world.0 in
    let one : IsOneWorld net (run net begin actions) images journals made = world.1 in
    let held = run_held net network actions begin (record { conserved = begins.conserved; fits = rest_fits net begin begins.rest }) r in
    let last = rest_behind net (run net begin actions) held.conserved held.fits made journals (run_behind net network actions begin begins.conserved r behind) in
    views_belong net (at_rest net.site made journals (run net begin actions)) images views one.conserved last read one.given

pub seen_belong : (words : Words) (stop : Stop) (http : HttpTexts) (reading : DiskBatches) (scenario : Scenario) (seen : Seen) (old new : Given) (c : Course)
    (images : ℕ → List (List Record)) (views : List View) → Headline words stop http reading scenario seen old new c → AreCurrent c.net c.begin → NothingBehind c.net c.begin →
    ((v : ℕ) → v < c.net.site.nodes → is_blank ((last_world c).journal v) ≡ false → reading (seen.disk v) ≡ Some (images v)) →
    ((v : ℕ) → v < c.net.site.nodes → is_blank ((last_world c).journal v) ≡ true → images v ≡ []) → AreRead c.net.site images views → Belongs c.net.site c.net.device views
seen_belong words stop http reading scenario seen old new c images views h current behind at none read =
    left_belong c.net c.begin (whole_run c) images views h.run.network h.run.begins current behind h.run.steps (record { started = started; unstarted = none }) read
  where
    started : (v : ℕ) → v < c.net.site.nodes → is_blank ((last_world c).journal v) ≡ false → IsFoldOf c.net c.begin (whole_run c) (last_world c) v (images v)
    started v less e =
        let d = h.disks v less e in
        let both : Some d.0 ≡ Some (images v) = sym d.1 ∙ at v less e in
        let is : d.0 ≡ images v = cc in
        subst (IsFoldOf c.net c.begin (whole_run c) (last_world c) v) is d.2

-- Devices that have given more don't matter.
pub later_belong : (s : Site) (earlier later : ℕ → OctetSequence) (views : List View) → Belongs s earlier views →
    ((v k : ℕ) (p : Port) → slice_get (view_in views v).ports k ≡ Some p → first_blocks (later p.lane.link) (length p.blocks) ≡ first_blocks (earlier p.lane.link) (length p.blocks)) →
    Belongs s later views
later_belong s earlier later views b same = record {
  blocks = λ v k p h. b.blocks v k p h ∙ sym (same v k p h);
  formed = b.formed;
  agree = b.agree;
  needed = b.needed;
  makers = b.makers;
  entitled = b.entitled;
  chunks = b.chunks;
  parts = b.parts;
  spread = b.spread;
  acked = b.acked;
  stored = b.stored;
  handings = b.handings;
}

pub kept_behind : (s : Site) (sealing : Sealing) (devices entropies : ℕ → OctetSequence) (batches : ℕ → List (List Record)) (views : List View) (journals : ℕ → Journal) →
    AreRead s batches views → NothingBehind (kept_network s sealing devices entropies views) (kept_world s views journals)
unfolding kept_world kept_durable
kept_behind s sealing devices entropies batches views journals read v past =
    let count = read.all in
    ap (λ (view : View). names_of view.facts) (ap view_or (slice_get_past views v (omega (arith, past, count))))
