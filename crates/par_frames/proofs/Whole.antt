-- What the workers did is a block of the network, which is noted and reported.
use Rattle.std.proofs.Common.{◌≡◌, ℕ, true, List, [], map, refl, sym, ◌∙◌, ap, subst, Vec, Global}
use Rattle.std.specs.List.{list_all, flat_map}
use Rattle.declared_site.specs.SiteOf.{site_of}
use Rattle.net_model.specs.Site.{Site, count_up}
use Rattle.net_model.specs.World.{Network, World}
use Rattle.net_model.specs.Action.{Action}
use Rattle.net_model.specs.Events.{is_lane}
use Rattle.net_model.specs.BlockOrder.{completions}
use Rattle.run_model.specs.Lines.{all_lanes}
use Rattle.run_model.specs.Works.{block_run}
use Rattle.run_model.specs.Block.{puts_on}
use Rattle.run_ops.specs.declared.job.Job.{Job}
use Rattle.run_ops.specs.declared.done_block.PutFrame.{PutFrame}
use Rattle.run_ops.specs.Together.{put_done, DoesTogether, EndsTogether}
use Rattle.law_parallel.specs.Remaining.{Remains}
use Rattle.law_parallel.specs.InOrder.{turns_over}
use Rattle.law_parallel.specs.Puts.{reported_on, placings_on}
use Rattle.law_parallel.specs.LaneWorks.{IsLaneBlock, works_of, world_after}
use Rattle.law_parallel.proofs.LaneOneBlock.{one_block}
use Rattle.world_state.proofs.Disks.{has_disks}
use Rattle.world_state.specs.Rests.{Rests}
use Rattle.world_state.specs.Stands.{Stands}
use Rattle.world_state.specs.declared.state.State.{State}
use Rattle.world_state.specs.Tallied.{Tallied}
use Rattle.par_frames.specs.declared.log.Log.{Log}
use Rattle.par_frames.specs.Adding.{IsEmpty}
use Rattle.par_frames.specs.NodeFrames.{MayNoteAll}
use Rattle.par_frames.specs.FrameNoting.{NotesAll, EndsNotes}
use Rattle.par_frames.proofs.AllNote.{all_note}
use Rattle.world_state.proofs.Tallies.{tallied_more}
use Rattle.par_frames.proofs.RestsOver.{rests_over, notes_still}
use Rattle.par_lanes.specs.declared.emitted.Emitted.{Emitted}
use Rattle.par_frames.specs.declared.worked.Worked.{Worked}
use Rattle.par_frames.specs.Frames.{frame_done}
use Rattle.par_frames.specs.Recording.{AreRecorded}
use Rattle.par_frames.specs.Noting.{MayNoteFrames, NotesFrames}
use Rattle.par_frames.specs.NoteWorking.{HasWorked, CameFrom}
use Rattle.par_frames.proofs.Nodes.{lanes_there, in_order, noted_by_nodes, all_reported}
use Rattle.par_frames.proofs.NoteSizes.{all_sized}
use Rattle.par_frames.proofs.Tallied.{noted_apart}
use Rattle.world_state.specs.Outside.{Outside}

module _ {K Q E X : Type 0} (outside : Outside K Q E X) where
  abbrev StandsHere : State K Q E X → Network → World → Type 0
  StandsHere = Stands outside

  abbrev RestsHere : State K Q E X → Network → World → Type 0
  RestsHere = Rests outside

  -- ---- frames are recorded and noted

  module _ (s : State K Q E X) (net : Network) (w : World) (put : List Emitted) (may : MayNoteFrames outside s net w put) where
    pub site_lanes : list_all (λ (e : Emitted). is_lane (site_of s.site) e.lane) put ≡ true
    site_lanes = subst (λ (site : Site). list_all (λ (e : Emitted). is_lane site e.lane) put ≡ true) may.stands.sited may.lanes

    -- a log that was empty before the frames were recorded
    pub site_recorded : (n : ℕ) (a b : Log) → n ≡ net.site.nodes → (a.is_whole ≡ true → IsEmpty n a) → (b.is_whole ≡ true → a.is_whole ≡ true) →
        (b.is_whole ≡ true → IsEmpty (site_of s.site).nodes a → AreRecorded (site_of s.site) put b) → b.is_whole ≡ true → AreRecorded net.site put b
    site_recorded n a b many empty whole recorded is =
        subst (λ (site : Site). AreRecorded site put b) (sym may.stands.sited)
        (recorded is (subst (λ (m : ℕ). IsEmpty m a) (many ∙ ap (λ (site : Site). site.nodes) may.stands.sited) (empty (whole is))))

    pub may_note_all : (log : Log) → AreRecorded net.site put log → MayNoteAll outside s net w log.placings.items
    may_note_all log r = record {
      stands = may.stands;
      remains = may.remains;
      noted = record { nodes' = r.nodes; each = λ v xs at. r.notes v xs at ∙ sym (may.notes v) };
      sized = may.sized;
    }

    pub frames_noted : (new : State K Q E X) (log : Log) → AreRecorded net.site put log →
        NotesAll outside s new net w →
        NotesFrames outside s new net w put log.frames.items
    frames_noted new log r k = record { reports = r.reports; stands = k.stands; tallied = k.tallied }

    -- memory ran out before any node noted its frames
    pub frames_left : EndsNotes outside s s net w
    frames_left = record {
      rests = rests_over outside net s (count_up net.site.nodes) w (all_note net w may.remains) may.stands;
      tallied = notes_still outside net.site s (has_disks outside s net w may.stands) (count_up net.site.nodes);
    }

  -- ---- the block

  module _ (old mid : State K Q E X) (net : Network) (w : World) (workers : ℕ) (jobs : List Job) (worked : Worked)
      (came : CameFrom outside old mid net w workers jobs worked) where
    abbrev h : HasWorked outside old mid net w workers jobs worked
    h = came.worked'

    b : IsLaneBlock net workers w jobs h.histories h.logs
    b = one_block net came.ready.stands.running.network workers came.some w came.ready.stands.running.conserved came.ready.quiet jobs h.histories h.logs h.are

    abbrev turned' : World
    turned' = turns_over net w h.histories

    -- the world after what the lanes did
    abbrev pub behind : World
    behind = world_after net turned' h.logs

    abbrev all : List Action
    all = block_run net (works_of net w h.histories h.logs)

    none_remains : Remains net behind []
    none_remains = record { each = tt; unclaimed = λ l. refl; outgoing = λ l. refl }

    noted_all : worked.is_whole ≡ true → MayNoteFrames outside mid net behind worked.frames.items
    noted_all is = record {
      stands = h.stands;
      remains = none_remains;
      lanes = lanes_there net.site worked.frames.items (h.in_lanes is);
      order = in_order net.site worked.frames.items (h.in_lanes is);
      notes = λ v. noted_by_nodes net.site worked.frames.items (h.in_lanes is) (λ l. placings_on net turned' l (h.logs l)) (h.noted is) v;
      sized = all_sized net turned' h.logs h.stands.running b.lanes;
    }

    pub may_note : worked.is_whole ≡ true → (put : List Emitted) → put ≡ worked.frames.items → MayNoteFrames outside mid net behind put
    may_note is put same = subst (MayNoteFrames outside mid net behind) (sym same) (noted_all is)

    counted_all : (new : State K Q E X) → Tallied outside mid new net.site (completions net) →
        Tallied outside old new net.site all
    counted_all new k =
        noted_apart outside old new net all
        (tallied_more outside net.site old mid new all (completions net) h.tallied k)

    pub block_done : worked.is_whole ≡ true → (put : List Emitted) → put ≡ worked.frames.items → (new : State K Q E X) (reported : Vec PutFrame Global) →
        NotesFrames outside mid new net behind put reported.items →
        DoesTogether StandsHere (Tallied outside) old new net workers w jobs (record { turns = worked.turns; frames = reported })
    block_done is put same new reported k = record {
      works = works_of net w h.histories h.logs;
      are = b.are;
      turns = h.said is ∙ sym b.turns;
      frames = k.reports ∙ ap (λ (es : List Emitted). map put_done (flat_map (puts_on (map frame_done es)) (all_lanes net.site))) same
          ∙ ap (map put_done) (all_reported net.site worked.frames.items (λ l. reported_on turned' l (h.logs l)) (h.reported is) ∙ sym b.reported);
      ready = record { stands = subst (λ (x : World). StandsHere new net x) (sym b.after) k.stands; quiet = b.quiet };
      tallied = counted_all new k.tallied;
    }

    -- memory ran out while the frames were recorded or noted
    pub block_ends : (new : State K Q E X) → EndsNotes outside mid new net behind →
        EndsTogether RestsHere (Tallied outside) old new net workers w jobs
    block_ends new k = record {
      works = works_of net w h.histories h.logs;
      are = b.are;
      rests = subst (λ (x : World). RestsHere new net x) (sym b.after) k.rests;
      tallied = counted_all new k.tallied;
    }

    -- memory ran out while the workers did their jobs
    pub block_left : EndsTogether RestsHere (Tallied outside) old mid net workers w jobs
    block_left = block_ends mid (record {
      rests = rests_over outside net mid (count_up net.site.nodes) behind (all_note net behind none_remains) h.stands;
      tallied = notes_still outside net.site mid (has_disks outside mid net behind h.stands) (count_up net.site.nodes);
    })
