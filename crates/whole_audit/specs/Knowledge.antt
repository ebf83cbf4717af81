-- Rule 14, as to facts: who sends one, or acknowledges it, knows it.
use Rattle.std.specs.Prelude.{ℕ, ◌==◌, Bool, true, false, ◌&&◌, ◌||◌, if◌then◌else◌, List, [], ◌∷◌, Option, Some, None}
use Rattle.qkd_base.specs.declared.lane.Lane.{Lane}
use Rattle.qkd_base.specs.Lane.{reverse_lane}
use Rattle.qkd_base.specs.Name.{Name, name_eq}
use Rattle.declared_site.specs.declared.site.Site.{Site}
use Rattle.run_types.specs.declared.frame_result.FrameResult.{FrameResult}
use Rattle.run_types.specs.declared.frame_result.FrameResult.TheVariants as results
use Rattle.run_types.specs.declared.item.Item.{Item}
use Rattle.run_types.specs.declared.item.Item.TheVariants as items
use Rattle.run_types.specs.declared.scenario.Scenario.{Scenario}
use Rattle.run_types.specs.declared.item.NumberedItem.{NumberedItem}
use Rattle.run_audit.specs.Rows.{same}
use Rattle.run_audit.specs.Takings.{receiver, is_ack}
use Rattle.item_audit.specs.Sayings.{sender}
use Rattle.whole_audit.specs.declared.knowledge.Heard.{Heard}
use Rattle.whole_audit.specs.Arrivals.{has_arrived}
use Rattle.whole_audit.specs.Managers.{was_stopped}

-- ---- what a node took

abbrev pub heard_on : Site → Lane → FrameResult → Option Heard
heard_on site l (results.Taken kind name) = Some (record { node = receiver site.routes l; is_ack = is_ack kind; name = name })
heard_on site l _ = None

abbrev pub heard_of : Site → Item → Option Heard
heard_of site (items.Passed l number result) = heard_on site l result
heard_of site (items.Flipped l number bit result) = heard_on site l result
heard_of site (items.Forged l result) = heard_on site l result
heard_of site _ = None

abbrev pub heard_eq : Heard → Heard → Bool
heard_eq a b = (a.node == b.node) && same a.is_ack b.is_ack && name_eq a.name b.name

abbrev pub is_heard : Option Heard → Heard → Bool
is_heard None h = false
is_heard (Some g) h = heard_eq g h

-- The node took the name, as a fact or as an acknowledgement.
abbrev pub has_heard : Scenario → List NumberedItem → Heard → Bool
has_heard s [] h = false
has_heard s (t ∷ before) h = is_heard (heard_of s.site t.item) h || has_heard s before h

-- ---- what a node may know

-- A node that stopped may have taken a name in that event.
abbrev pub may_have_heard : Scenario → List NumberedItem → (node : ℕ) → (is_ack : Bool) → Name → Bool
may_have_heard s before v ack n = has_heard s before (record { node = v; is_ack = ack; name = n }) || was_stopped s v before

-- Who acknowledges a fact took it over the same link, or may have.
abbrev pub may_answer : Scenario → List NumberedItem → Lane → Name → Bool
may_answer s before l n = has_arrived before (reverse_lane l) n || was_stopped s (sender s.site l) before

-- The node made the fact, or took it.
abbrev pub may_know : Scenario → List NumberedItem → (node : ℕ) → Name → Bool
may_know s before v n = (n.node == v) || may_have_heard s before v false n

-- ---- the rule

-- Who sends a fact knows it. Who acknowledges it took it over the same link, from one who knows it.
abbrev pub may_tell : Scenario → List NumberedItem → Lane → (is_ack : Bool) → Name → Bool
may_tell s before l ack n =
    if ack then may_answer s before l n && may_know s before (receiver s.site.routes l) n
    else may_know s before (sender s.site l) n

-- What comes again was taken before.
abbrev pub result_is_known : Scenario → List NumberedItem → Lane → FrameResult → Bool
result_is_known s before l (results.Taken kind name) = may_tell s before l (is_ack kind) name
result_is_known s before l (results.Again kind name) =
    may_tell s before l (is_ack kind) name && may_have_heard s before (receiver s.site.routes l) (is_ack kind) name
result_is_known s before l (results.Refused refusal) = true

abbrev pub is_known : Scenario → List NumberedItem → Item → Bool
is_known s before (items.Passed l number result) = result_is_known s before l result
is_known s before (items.Flipped l number bit result) = result_is_known s before l result
is_known s before (items.Forged l result) = result_is_known s before l result
is_known s before _ = true
