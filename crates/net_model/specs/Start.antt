-- Starts: a journal is read back, the batch in doubt is settled, and each lane goes on at the end of its lease.
use Rattle.std.specs.Prelude.{ℕ, ◌-◌, ◌==◌, ◌&&◌, ◌||◌, not, Bool, true, false, List, ◌++◌, length, replicate, is_none, Option, Some, None, if◌then◌else◌}
use Rattle.qkd_base.specs.Family.{number_set}
use Rattle.qkd_base.specs.declared.lane.Lane.{Lane}
use Rattle.net_model.specs.Site.{Site, sender}
use Rattle.net_model.specs.Events.{is_lane}
use Rattle.net_model.specs.World.{Network, World, Durable, Owner, Burnt, Journal, InDoubt, no_doubt, no_volatile}
use Rattle.net_model.specs.Needed.{view_of}
use Rattle.net_model.specs.Records.{replay}
use Rattle.net_model.specs.Journal.{added_len, is_nil, is_blank, new_journal, extended, checkpoint_need, is_checkpoint_due, checkpointed, recovered_journal}
use Rattle.net_model.specs.Action.{Recovery, Recovers, Resumes, Interrupted, NoMemory, Foreign, Outcome, Started, WasUp, StartStopped, StartMemory, ForeignAt}

-- the durable state after the batch in doubt is settled: it was made durable, or it was not
abbrev pub resolved_durable : Site → World → ℕ → Bool → Durable
resolved_durable site w v committed = if committed then replay site v (w.in_doubt v).batch w.durable else w.durable

-- The journal as a start reads it. A first start makes a new one. A batch in doubt that was made durable adds its
-- octets.
abbrev pub resolved_journal : World → ℕ → Bool → Journal
resolved_journal w v committed =
    if is_blank (w.journal v) then new_journal
    else extended (w.journal v) (if committed && is_none (w.in_doubt v).checkpointed then added_len (w.journal v).version (w.in_doubt v).batch else 0)

abbrev pub resolved : Site → World → ℕ → Bool → World
resolved site w v committed = record w { durable = resolved_durable site w v committed; journal = number_set w.journal v (resolved_journal w v committed) }

-- the octets of the checkpoint that a start in this world makes
abbrev pub need_at : Network → World → ℕ → ℕ
need_at net w v = checkpoint_need (view_of net w v)

-- all bytes below the leased end that nobody owns are given up
abbrev pub burnt_to : ℕ → List Owner → List Owner
burnt_to lease own = own ++ replicate (lease - length own) Burnt

-- a lane of the network that leaves this node
abbrev pub leaves : Site → ℕ → Lane → Bool
leaves site v l = is_lane site l && (sender site l == v)

-- A manager is up again, with just what its journal tells. If a checkpoint is due, it is made.
unfoldable pub restarted : Network → World → ℕ → World
restarted net w v =
    record w {
      durable = record (w.durable) { own = λ l. if leaves net.site v l then burnt_to (w.durable.lease l) (w.durable.own l) else w.durable.own l };
      recovered = λ l. if leaves net.site v l then w.durable.lease l else w.recovered l;
      up = number_set w.up v true;
      journal = number_set w.journal v (recovered_journal (w.journal v) (need_at net w v));
      interrupted = number_set w.interrupted v false;
      in_doubt = number_set w.in_doubt v no_doubt;
      volatile = number_set w.volatile v no_volatile;
    }

-- A start that is stopped leaves the manager down. If it had made a checkpoint, this stays, and settles the batch in
-- doubt. If it reported none, a later start may still find one. On a blank disk it may leave an incomplete header.
abbrev pub interrupted_start : Network → World → ℕ → Option Bool → World
interrupted_start net w v None = record w { interrupted = number_set w.interrupted v true }
interrupted_start net w v (Some committed) =
    let next = resolved net.site w v committed in
    record w {
      journal = number_set w.journal v (checkpointed (next.journal v) (need_at net next v));
      in_doubt = number_set w.in_doubt v (record (w.in_doubt v) { checkpointed = Some committed });
    }

-- A start that finds the checkpoint of a stopped one goes on from the journal that this one left. It may make a further
-- checkpoint.
abbrev pub recovers : Network → World → ℕ → Recovery → World × Outcome
recovers net w v (Recovers committed) = (restarted net (resolved net.site w v committed) v, Started)
recovers net w v (Resumes committed) = (restarted net (resolved net.site (interrupted_start net w v (Some committed)) v committed) v, Started)
recovers net w v (Interrupted made) = (interrupted_start net w v made, StartStopped)
recovers net w v NoMemory = (w, StartMemory)
recovers net w v Foreign = (w, ForeignAt 16)

unfoldable pub start : Network → World → ℕ → Recovery → World × Outcome
start net w v recovery = if w.up v then (w, WasUp) else recovers net w v recovery

-- which answers about a batch in doubt are possible

abbrev pub agrees : Option Bool → Bool → Bool → Bool
agrees None has_batch committed = not committed || has_batch
agrees (Some true) has_batch committed = committed
agrees (Some false) has_batch committed = not committed

-- a batch in doubt is committed only if there is one; if a checkpoint was made, the answer is what the checkpoint has
abbrev pub may_resolve : InDoubt → Bool → Bool
may_resolve d committed = agrees d.checkpointed (not (is_nil d.batch)) committed

-- a stopped start made a checkpoint only if one was due
abbrev pub may_checkpoint : Network → World → ℕ → Bool → Bool
may_checkpoint net w v committed =
    let next = resolved net.site w v committed in
    not (is_blank (w.journal v)) && is_checkpoint_due (next.journal v) (need_at net next v)

-- a start may find a checkpoint that was not reported only after a stopped start that reported none
unfoldable pub may_recover : Network → World → ℕ → Recovery → Bool
may_recover net w v (Recovers committed) = may_resolve (w.in_doubt v) committed
may_recover net w v (Resumes committed) = w.interrupted v && may_resolve (w.in_doubt v) committed && may_checkpoint net w v committed
may_recover net w v (Interrupted None) = true
may_recover net w v (Interrupted (Some committed)) = may_resolve (w.in_doubt v) committed && may_checkpoint net w v committed
may_recover net w v NoMemory = true
may_recover net w v Foreign = is_blank (w.journal v) && w.interrupted v

-- a manager that is up asks nothing of its disk when it is started
abbrev pub is_plain : Recovery → Bool
is_plain (Recovers false) = true
is_plain _ = false
