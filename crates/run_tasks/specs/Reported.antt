-- The line numbers under which a block reports.
use Rattle.std.specs.Prelude.{ℕ, List, [], ◌∷◌, slice_get, Option, Some, None}
use Rattle.std.specs.List.{flat_map}
use Rattle.run_types.specs.declared.item.NumberedItem.{NumberedItem}
use Rattle.run_model.specs.Turn.{HttpTexts}
use Rattle.run_model.specs.Play.{numbered}
use Rattle.run_ops.specs.declared.job.Job.{Job}
use Rattle.run_ops.specs.declared.done_block.Turned.{Turned}
use Rattle.run_ops.specs.declared.done_block.PutFrame.{PutFrame}
use Rattle.run_tasks.specs.declared.prepared.Place.{Place}
use Rattle.run_tasks.specs.Prepared.{tells}

abbrev pub number_of : Option Place → ℕ
number_of None = 0
number_of (Some place) = place.number

-- the number of the line at a place
abbrev pub number_in : List Place → ℕ → ℕ
number_in places place = number_of (slice_get places place)

abbrev pub reply_told : HttpTexts → Turned → Option Job → Option Place → List NumberedItem
reply_told http turned None place = []
reply_told http turned (Some job) None = []
reply_told http turned (Some job) (Some place) = numbered place.number (tells http job place.telling turned.reply)

abbrev pub turn_told : HttpTexts → List Job → List Place → Turned → List NumberedItem
turn_told http jobs places turned = reply_told http turned (slice_get jobs turned.place) (slice_get places turned.place)

abbrev pub turns_told : HttpTexts → List Job → List Place → List Turned → List NumberedItem
turns_told http jobs places turns = flat_map (turn_told http jobs places) turns

abbrev pub frames_told : List Place → List PutFrame → List NumberedItem
frames_told places frames = flat_map (λ (f : PutFrame). numbered (number_in places f.place) (f.item ∷ [])) frames
