-- The calls that a caller has made of a node's manager, and how many it may still make.
use Rattle.std.specs.Prelude.{◌≡◌, ℕ, ◌+◌, List, map, length, slice_get, Some}
use Rattle.net_model.specs.declared.event.Event.{Event}
use Rattle.declared_site.specs.declared.site.Site.{Site}
use Rattle.turnstile.specs.declared.machine.Machine.{Ghosts}
use Rattle.turnstile.specs.declared.turnstile.Turnstile.{Turnstile}
use Rattle.turnstile.specs.declared.seat.Seat.{Seat}
use Rattle.turnstile.specs.Names.{opening, knows, Fits}
use Rattle.turnstile.specs.Views.{Stands}
use Rattle.shared_objects.specs.Rising.{Rises}
use Rattle.kme_serve.specs.declared.turn.Turn.{Turn}
use Rattle.net_serve.specs.declared.answered.Answered.{Answered}
use Rattle.net_serve.specs.Serving.{Said, Call, IsNextCall}

-- one call: the event that came back, and the reply
abbrev pub said_in : Event × Answered → Said
said_in entry = (entry.1.event, entry.1.reply)

abbrev pub call_in : ℕ × (Event × Answered) → Call
call_in c = (c.0, said_in c.1)

module _ {M C : Type 0} {g : Ghosts M Event Answered C} where
  -- the calls that were made with a seat
  abbrev pub calls_by : Seat M Event Answered C g → List Call
  calls_by seat = map call_in (knows seat).mine

-- The seat belongs to the turnstile of a node of the site. Its calls are in the manager's history as far as it has seen it, at increasing places.
pub record IsSeated {M : Type 0} {g : Ghosts M Event Answered (Site × ℕ)} (charter : M → Site × ℕ) (site : Site) (turnstiles : List (Turnstile M Event Answered (Site × ℕ))) (node : ℕ)
    (seat : Seat M Event Answered (Site × ℕ) g) : Type 0 where
  pub turnstile : Turnstile M Event Answered (Site × ℕ)
  pub there : slice_get turnstiles node ≡ Some turnstile
  pub of : charter (opening turnstile) ≡ (site, node)
  pub fits : Fits turnstile seat
  pub stands : Stands (knows seat).mine (knows seat).seen
  pub rises : Rises (knows seat).mine

-- The caller made one more call to the same node, after its earlier calls. The calls made plus the calls left are as many as before.
pub record IsNextPass {M C : Type 0} {g : Ghosts M Event Answered C} (node : ℕ) (seat : Seat M Event Answered C g) (turn : Turn) (node' : ℕ) (seat' : Seat M Event Answered C g) : Type 0 where
  pub same : node' ≡ node
  pub call : IsNextCall (calls_by seat) turn (calls_by seat')
  pub share : (knows seat').budget + length (calls_by seat') ≡ (knows seat).budget + length (calls_by seat)
