-- The rounds of a settle, told by the order of its items. A round is its ticks and then the passes of their frames, and each
-- round that another one follows has a pass. So a round begins at a tick behind a pass of the same line.
use Rattle.std.specs.Prelude.{ℕ, suc, ◌==◌, ◌&&◌, Bool, true, false, if◌then◌else◌}
use Rattle.run_types.specs.declared.item.Item.{Item}
use Rattle.run_types.specs.declared.item.Item.TheVariants as items
use Rattle.run_types.specs.declared.item.NumberedItem.{NumberedItem}
use Rattle.report_json.specs.declared.place.Place.{Place}

abbrev pub is_tick : Item → Bool
is_tick (items.Ticked v fresh again) = true
is_tick (items.NotTicked v refusal) = true
is_tick _ = false

abbrev pub is_pass : Item → Bool
is_pass (items.Passed l number result) = true
is_pass _ = false

-- before the first item
abbrev pub start : Place
start = record { line = 0; round = 1; passed = false }

-- The round of the next item, from 1. Each line begins with round 1, and only a settle has more.
abbrev pub round_of : Place → NumberedItem → ℕ
round_of place told =
    if place.line == told.number then (if place.passed && is_tick told.item then suc place.round else place.round) else 1

abbrev pub behind : Place → NumberedItem → Place
behind place told = record { line = told.number; round = round_of place told; passed = is_pass told.item }
