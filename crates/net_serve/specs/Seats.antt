-- The workers' seats, each at the turnstile of one node.
use Rattle.std.specs.Prelude.{◌≡◌, ℕ, ◌==◌, if◌then◌else◌, List, []}
use Rattle.net_model.specs.declared.event.Event.{Event}
use Rattle.declared_site.specs.declared.site.Site.{Site}
use Rattle.turnstile.specs.declared.machine.Machine.{Ghosts}
use Rattle.turnstile.specs.declared.turnstile.Turnstile.{Turnstile}
use Rattle.turnstile.specs.declared.seat.Seat.{Seat}
use Rattle.turnstile.specs.Names.{knows}
use Rattle.net_serve.specs.declared.answered.Answered.{Answered}
use Rattle.net_serve.specs.Passes.{IsSeated}

module _ {M Q A C : Type 0} {g : Ghosts M Q A C} where
  -- the calls made with a seat, and the calls that it has left, if it is at node v

  abbrev pub calls_if : (v node : ℕ) → Seat M Q A C g → List (ℕ × (Q × A))
  calls_if v node seat = if node == v then (knows seat).mine else []

  abbrev pub budget_if : (v node : ℕ) → Seat M Q A C g → ℕ
  budget_if v node seat = if node == v then (knows seat).budget else 0

-- a new seat at node v, with `calls` calls left
pub record HasSeat {M : Type 0} {g : Ghosts M Event Answered (Site × ℕ)} (charter : M → Site × ℕ) (site : Site) (turnstiles : List (Turnstile M Event Answered (Site × ℕ))) (calls v node : ℕ)
    (seat : Seat M Event Answered (Site × ℕ) g) : Type 0 where
  pub at : node ≡ v
  pub none : (knows seat).mine ≡ []
  pub budget : (knows seat).budget ≡ calls
  pub seated : IsSeated charter site turnstiles node seat
