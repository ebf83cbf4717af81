-- The bytes of a lane that its sender received: unused ones, those spent by the hash key and by frames, and those burnt
-- at starts.
use Rattle.std.specs.Prelude.{◌-◌, Bool, true, false, length, count_by}
use Rattle.qkd_base.specs.declared.lane.Lane.{Lane}
use Rattle.net_model.specs.declared.counts.Counts4.{Counts4}
use Rattle.net_model.specs.World.{World, Owner, HashKey, Frame, Burnt, received}

abbrev pub is_spent : Owner → Bool
is_spent HashKey = true
is_spent (Frame j) = true
is_spent Burnt = false

abbrev pub is_burnt : Owner → Bool
is_burnt HashKey = false
is_burnt (Frame j) = false
is_burnt Burnt = true

-- received is the sum of unused, spent and burnt, since no more bytes of a lane are owned than were received
unfoldable pub ledger : World → Lane → Counts4
ledger w l =
    record {
      received = received w.durable l;
      unused = received w.durable l - length (w.durable.own l);
      spent = count_by is_spent (w.durable.own l);
      burnt = count_by is_burnt (w.durable.own l);
    }
