-- The rules of the audit. Each is a test of an item and of the items before it, of which the last one stands first.
use Rattle.std.specs.Prelude.{ℕ, ◌+◌, Bool, true, false, not, ◌&&◌, ◌==◌, nat_le, if◌then◌else◌, List, [], ◌∷◌, Option, Some, None, is_some}
use Rattle.std.specs.List.{list_all}
use Rattle.run_types.specs.declared.scenario.Scenario.{Scenario}
use Rattle.run_types.specs.declared.item.Item.{Item}
use Rattle.run_types.specs.declared.item.Item.TheVariants as items
use Rattle.run_types.specs.declared.item.NumberedItem.{NumberedItem}
use Rattle.run_audit.specs.declared.verdict.Verdict.{Verdict}
use Rattle.run_audit.specs.declared.verdict.Verdict.TheVariants as verdicts
use Rattle.run_audit.specs.Kinds.{kind_at}
use Rattle.run_audit.specs.Rows.{gives_at, is_on_link}
use Rattle.run_audit.specs.declared.frames.Frame.{Frame}
use Rattle.run_audit.specs.Frames.{frame_of, frames, sent_on, agrees, places, how_many}
use Rattle.run_audit.specs.declared.contents.Content.{Content}
use Rattle.run_audit.specs.Contents.{content_of, contents, matches}
use Rattle.run_audit.specs.Tellings.{Telling, tellings_of, tellings, all_fit, onto}
use Rattle.run_audit.specs.Takings.{taking_of, takings, is_first, was_there}
use Rattle.run_audit.specs.Ledgers.{is_true_ledger}

-- Rule 1: the item's line gives such items, and each link that the item names is declared.
abbrev pub is_of_line : Scenario → NumberedItem → Bool
is_of_line s told = gives_at (kind_at s told.number) told.item && is_on_link s.site.routes told.item

-- Rule 2: the frames of a lane's wire are numbered from 0.
abbrev pub is_next : Option Frame → List Frame → Bool
is_next None fs = true
is_next (Some f) fs = f.number == sent_on f.lane fs

-- No frame uses the hash key. Two frames of a lane have the same place, or no byte in common.
abbrev pub keeps_apart : Option Frame → List Frame → Bool
keeps_apart None fs = true
keeps_apart (Some f) fs = nat_le 8 f.offset && list_all (agrees f) fs

-- Of the frames at one offset of a lane, no two kinds and no two names are told.
abbrev pub carries_one : Option Content → List Content → Bool
carries_one None cs = true
carries_one (Some c) cs = list_all (matches c) cs

-- Rule 3: no byte of a lane masks two different things.
abbrev pub masks_once : List NumberedItem → Item → Bool
masks_once before item = keeps_apart (frame_of item) (frames before) && carries_one (content_of item (frames before)) (contents before)

-- Rule 4: each key and chunk has one value, and goes at most once to each application, and only to those that may have it.
abbrev pub hands_out : Scenario → List NumberedItem → NumberedItem → Bool
hands_out s before told = all_fit s.site.entitlements (tellings s before) (tellings_of (kind_at s told.number) told.item)

-- Rule 5: a frame that is taken was sent, and its name is new to the node.
abbrev pub takes_new : Scenario → List NumberedItem → NumberedItem → Bool
takes_new s before told = was_there told.item (frames before) && is_first (taking_of s.site.routes told.item) (takings s.site.routes before)

-- Rule 6: each ledger is true.
abbrev pub balances : List NumberedItem → Item → Bool
balances before (items.Counted l counts) = is_true_ledger before l counts
balances before _ = true

-- the least rule that the item breaks, given the items before it
abbrev pub broken : Scenario → List NumberedItem → NumberedItem → Option ℕ
broken s before told =
    if not (is_of_line s told) then Some 1
    else if not (is_next (frame_of told.item) (frames before)) then Some 2
    else if not (masks_once before told.item) then Some 3
    else if not (hands_out s before told) then Some 4
    else if not (takes_new s before told) then Some 5
    else if not (balances before told.item) then Some 6
    else None

-- ---- the verdict

-- A delivery is a telling with a caller: an application got the bytes.
abbrev pub is_delivery : Telling → Bool
is_delivery t = is_some t.caller

abbrev pub deliveries : Scenario → List NumberedItem → ℕ
deliveries s before = how_many is_delivery (tellings s before)

abbrev pub is_counted : Item → Bool
is_counted (items.Counted l counts) = true
is_counted _ = false

abbrev pub ledgers : List NumberedItem → ℕ
ledgers before = how_many (λ (t : NumberedItem). is_counted t.item) before

-- the verdict on a report in which no rule is broken
abbrev pub all_sound : Scenario → List NumberedItem → Verdict
all_sound s told = verdicts.Yes (places (frames told)) (deliveries s told) (ledgers told)

-- the verdict for a broken rule, if there is one, or else that of the items that follow
abbrev pub judged : (line : ℕ) → Option ℕ → Verdict → Verdict
judged line None follows = follows
judged line (Some rule) follows = verdicts.No line rule

-- the verdict on the items from this line on, given the items before it
abbrev pub verdict_from : Scenario → (before : List NumberedItem) → (line : ℕ) → List NumberedItem → Verdict
verdict_from s before line [] = all_sound s before
verdict_from s before line (t ∷ told) = judged line (broken s before t) (verdict_from s (t ∷ before) (line + 1) told)

-- The verdict on a report whose first item stands on line `first`: the first item that breaks a rule, with the least such rule, or yes.
unfoldable pub verdict_of : Scenario → List NumberedItem → (first : ℕ) → Verdict
verdict_of s told first = verdict_from s [] first told

-- how many deliveries a report has
abbrev pub deliveries_in : Scenario → List NumberedItem → ℕ
deliveries_in s told = deliveries s (onto [] told)
