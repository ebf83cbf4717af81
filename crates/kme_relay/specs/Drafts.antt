-- What fits on a lane, order by order.
use Rattle.std.specs.Prelude.{ℕ, ◌+◌, nat_lt, true, List, [], ◌∷◌, ◌++◌, if◌then◌else◌}
use Rattle.qkd_base.specs.declared.lane.Lane.{Lane}
use Rattle.net_model.specs.declared.fact.Fact.{Fact}
use Rattle.net_model.specs.Item.{payload, need}
use Rattle.net_model.specs.World.{Transmission}
use Rattle.net_model.specs.Plan.{spelled_order}
use Rattle.kme_relay.specs.declared.draft.Draft.{Draft}

-- One more order is added, if the lane has enough bytes for it. The first order that needs more is listed as short, and none is added
-- after it.
abbrev pub with_one : List Fact → Lane → ℕ → Draft → Transmission → Draft
with_one facts l received d t =
    if d.is_full then d
    else if nat_lt received (d.used + need facts t.item)
    then record d { shorts = d.shorts ++ record { lane = l; used = d.used; need = need facts t.item; received = received } ∷ []; is_full = true }
    else record d { orders = d.orders ++ spelled_order t d.used (payload facts t.item); used = d.used + need facts t.item }

-- all these orders are added, in turn
abbrev pub with_all : List Fact → Lane → ℕ → Draft → List Transmission → Draft
with_all facts l received d [] = d
with_all facts l received d (t ∷ ts) = with_all facts l received (with_one facts l received d t) ts
