-- When nothing is to be put on a lane, and when nothing is in flight there either.
use Rattle.std.specs.Prelude.{◌≡◌, ℕ, ◌&&◌, ◌||◌, not, nat_le, Bool, false, [], map}
use Rattle.std.specs.List.{list_any, list_all}
use Rattle.qkd_base.specs.Lane.{lane_eq, reverse_lane}
use Rattle.qkd_base.specs.declared.lane.Lane.{Lane}
use Rattle.net_model.specs.Site.{sender, receiver}
use Rattle.net_model.specs.World.{Network, World, Transmission, Entry, PendingAck, Volatile}
use Rattle.net_model.specs.Needed.{view_of}
use Rattle.net_model.specs.Window.{is_data_entry, age, repeats_on}
use Rattle.net_model.specs.Relay.{owed}
use Rattle.net_model.specs.Plan.{wanted_on}

-- A plan of the lane's sender would put nothing there: once the window has aged, no frame is due, and nothing new is
-- wanted. Nor is the plan short of bytes there.
pub record PutsNothing (net : Network) (w : World) (l : Lane) : Type 0 where
  pub due : repeats_on (map age (w.volatile (sender net.site l)).window) l ≡ []
  pub wanted : wanted_on net.site (view_of net w (sender net.site l)) l ≡ []

-- No order for the lane awaits its placing.
abbrev pub none_awaits : Lane → Volatile → Bool
none_awaits l vol = not (list_any (λ (t : Transmission). lane_eq t.lane l) vol.awaiting)

-- The entry is of a fact that went over the lane and has no acknowledgement yet: it is in flight.
abbrev pub flies_on : Lane → Entry → Bool
flies_on l e = lane_eq e.transmission.lane l && is_data_entry e

-- Since it was put last, each fact in flight on the lane has seen at least so many plans.
abbrev pub in_flight_for : ℕ → Lane → Volatile → Bool
in_flight_for k l vol = list_all (λ (e : Entry). not (flies_on l e) || nat_le k e.age) vol.window

-- The lane's sender owes its receiver nothing, has nothing in flight there, and no acknowledgement to send there.
pub record IsStill (net : Network) (w : World) (l : Lane) : Type 0 where
  pub owes : owed (view_of net w (sender net.site l)) (receiver net.site l) ≡ []
  pub flies : list_any (flies_on l) (w.volatile (sender net.site l)).window ≡ false
  pub answers : list_any (λ (a : PendingAck). lane_eq a.lane (reverse_lane l)) (w.volatile (sender net.site l)).pending_acks ≡ false
