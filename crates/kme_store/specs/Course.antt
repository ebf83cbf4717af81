-- How an event changes one manager: the model's rule, without the other nodes. It depends on the manager's view, its journal, and the
-- next octets of its entropy.
use Rattle.std.specs.Prelude.{ℕ, ◌+◌, ◌&&◌, ◌||◌, not, nat_lt, Bool, if◌then◌else◌}
use Rattle.std.specs.List.{list_all}
use Rattle.net_model.specs.declared.event.Event.{Event}
use Rattle.net_model.specs.declared.reply.Reply.{Reply}
use Rattle.net_model.specs.declared.reply.Reply.TheVariants.{Stopped, Memory, JournalFull, NoRandom}
use Rattle.net_model.specs.Site.{Site}
use Rattle.net_model.specs.OctetSequence.{OctetSequence, has_octets, octets_from}
use Rattle.net_model.specs.World.{Network, World, Journal}
use Rattle.net_model.specs.View.{View}
use Rattle.net_model.specs.Journal.{added_len, is_nil, journal_limit}
use Rattle.net_model.specs.Decision.{Decision, Refuses, Does, Effect}
use Rattle.net_model.specs.Decide.{decide, random_need}
use Rattle.net_model.specs.Handle.{is_numbered, commit, stopped}
use Rattle.net_model.specs.Action.{Environment, Outcome, Replies, is_no_memory, is_entropy_fault, is_io_fault}
use Rattle.hop_frames.specs.Sealing.{hop_sealing}

-- the manager stays as it is; or it stops during an effect for which `octets` were drawn; or the effect takes place
pub data Course : Type 0 where
  Stays : (reply : Reply) → Course
  Stops : (octets : ℕ) (effect : Effect) → Course
  Goes : (octets : ℕ) (effect : Effect) → Course

-- the course of an effect that draws `octets`, by what its environment answers
unfoldable pub performed : Journal → OctetSequence → ℕ → Environment → Effect → Course
performed journal rest octets environment effect =
    let added = added_len journal.version effect.batch in
    if is_no_memory environment || not (list_all is_numbered effect.batch) then Stays Memory
    else if nat_lt journal_limit (journal.length' + added) then Stays (JournalFull journal.length' added)
    else if nat_lt 0 octets && (not (has_octets rest octets) || is_entropy_fault environment) then Stays NoRandom
    else if is_io_fault environment && not (is_nil effect.batch) then Stops octets effect
    else Goes octets effect

abbrev pub resolved : Journal → OctetSequence → ℕ → Environment → Decision → Course
resolved journal rest octets environment (Refuses reply) = Stays reply
resolved journal rest octets environment (Does effect) = performed journal rest octets environment effect

-- the decision with the next octets of the entropy, if there are enough
abbrev pub decided : Site → (ℕ → Bool) → View → OctetSequence → Event → Decision
decided site is_up view rest event = decide site hop_sealing is_up view (octets_from rest.octet 0 (random_need view event)) event

abbrev pub course : Site → (ℕ → Bool) → View → Journal → OctetSequence → Event → Environment → Course
course site is_up view journal rest event environment = resolved journal rest (random_need view event) environment (decided site is_up view rest event)

-- the world of the model after this course of one manager
abbrev pub in_world : Network → World → ℕ → Course → World × Outcome
in_world net w v (Stays reply) = (w, Replies reply)
in_world net w v (Stops octets effect) = (stopped w v octets effect, Replies Stopped)
in_world net w v (Goes octets effect) = (commit net.site w v octets effect, Replies effect.reply)
