-- The headline: what the top call promises of a run. A plain sentence precedes each field.
use Rattle.std.specs.Prelude.{◌≡◌, ℕ, ◌<◌, ◌≤◌, Bool, true, false, List, [], ◌∷◌, ◌++◌, map, filter, drop, Option, Some, None, length}
use Rattle.std.specs.List.{flat_map}
use Rattle.qkd_base.specs.declared.lane.Lane.{Lane}
use Rattle.net_model.specs.declared.record.Record.{Record}
use Rattle.net_model.specs.OctetSequence.{sequence_of}
use Rattle.net_model.specs.Journal.{is_blank}
use Rattle.net_model.specs.Faults.{is_disk_fault, is_random_fault, is_block_fault, is_wire_fault, armings}
use Rattle.run_types.specs.declared.scenario.Scenario.{Scenario}
use Rattle.run_types.specs.declared.item.Item.{Item}
use Rattle.run_types.specs.declared.item.Item.TheVariants.{Counted, NotCounted}
use Rattle.run_types.specs.declared.item.NumberedItem.{NumberedItem}
use Rattle.run_types.specs.Texts.{line_text, handed_text, served_text}
use Rattle.run_model.specs.Play.{Ending, Whole, ForgedAt}
use Rattle.run_model.specs.Left.{wire_octets, IsFoldOf, to_masters, to_slaves}
use Rattle.run_model.specs.Turn.{HttpTexts}
use Rattle.run_model.specs.Bench.{DiskBatches, Seen, RoseWith, IsArmedWith}
use Rattle.run_model.specs.Course.{Words, Run, Load, Serve, served_by, Course, whole_run, last_world, lines_played, handed_out, IsCourseOf}
use Rattle.run_model.specs.Keys.{KeysAndBytes}

-- how the call ended
pub data Stop : Type 0 where
  Done : Stop
  ForgedMatch : (line : ℕ) → Stop
  ListenFault : Stop
  WriteFault : Stop
  Memory : Stop

-- ---- what the sink took

-- What a sink was given, as far as contracts know it: its octets, and its pieces. A piece is the text of a write that
-- succeeded.
pub record Given : Type 0 where
  pub octets : Option (List ℕ)
  pub pieces : Option (List (List ℕ))

abbrev pub given_to : {S : Type 0} → (taken : S → Option (List ℕ)) → (pieces : S → Option (List (List ℕ))) → S → Given
given_to taken pieces sink = record { octets = taken sink; pieces = pieces sink }

-- contracts know nothing of it
abbrev pub unknown : Given
unknown = record { octets = None; pieces = None }

-- texts one after another
abbrev pub joined : List (List ℕ) → List ℕ
joined texts = flat_map (λ text. text) texts

-- if the list is known, these were added to it
abbrev pub Gained : {A : Type 0} → (old new : Option (List A)) → List A → Type 0
Gained {A = A} old new more = (before : List A) → old ≡ Some before → new ≡ Some (before ++ more)

-- The sink took these texts, one piece each and no other piece. Its octets are theirs.
pub record Took (old new : Given) (texts : List (List ℕ)) : Type 0 where
  pub octets : Gained old.octets new.octets (joined texts)
  pub pieces : Gained old.pieces new.pieces texts

-- The sink took these texts, one piece each and no other piece. Behind their octets are those of a write that failed.
pub record TookUpTo (old new : Given) (texts : List (List ℕ)) (part : List ℕ) : Type 0 where
  pub octets : Gained old.octets new.octets (joined texts ++ part)
  pub pieces : Gained old.pieces new.pieces texts

-- the beginning of the next text; nothing if no text is left
abbrev pub IsBeginning : (part : List ℕ) → (left : List (List ℕ)) → Type 0
IsBeginning part [] = part ≡ []
IsBeginning part (text ∷ more) = (rest : List ℕ) × (text ≡ part ++ rest)

-- The sink took the first of these texts, one piece each. Of the next one it may have taken a part, which is no piece.
pub record TookFirst (old new : Given) (texts : List (List ℕ)) : Type 0 where
  pub first : List (List ℕ)
  pub left : List (List ℕ)
  pub split : texts ≡ first ++ left
  pub part : List ℕ
  pub begins : IsBeginning part left
  pub took : TookUpTo old new first part

abbrev pub is_ledger : Item → Bool
is_ledger (Counted lane counts) = true
is_ledger (NotCounted lane refusal) = true
is_ledger _ = false

-- the items that are written: for a generated load, those of the ledgers alone
abbrev pub written_of : Words → List NumberedItem → List NumberedItem
written_of (Load rounds) items = filter (λ (i : NumberedItem). is_ledger i.item) items
written_of _ items = items

-- The pieces of a report: the text of each item. The text of the report is their concatenation.
unfoldable pub report_pieces : (nodes : List (List ℕ)) → List NumberedItem → List (List ℕ)
report_pieces nodes told = map (line_text nodes) told

abbrev pub lines_pieces : Words → HttpTexts → Scenario → Course → List (List ℕ)
lines_pieces words http scenario c = report_pieces scenario.site.nodes (written_of words (lines_played http scenario c).items)

-- The piece after the lines. For a generated load it says how many keys were handed to masters and to slaves. For
-- `serve` it says how many connections were served.
abbrev pub last_pieces : Words → Scenario → Course → List (List ℕ)
last_pieces (Run workers) scenario c = []
last_pieces (Load rounds) scenario c = handed_text (to_masters (last_world c) (handed_out c)) (to_slaves (last_world c) (handed_out c)) ∷ []
last_pieces (Serve workers connections port) scenario c = served_text (served_by (Serve workers connections port) (length scenario.site.nodes)) ∷ []

abbrev pub after_all : Ending → List (List ℕ) → List (List ℕ)
after_all Whole texts = texts
after_all _ texts = []

-- the report so far; once all lines are done, it includes the piece after them
abbrev pub pieces_so_far : Words → HttpTexts → Scenario → Course → List (List ℕ)
pieces_so_far words http scenario c =
    lines_pieces words http scenario c ++ after_all (lines_played http scenario c).ending (last_pieces words scenario c)

abbrev pub IsServe : Words → Type 0
IsServe (Serve workers connections port) = Unit {0}
IsServe _ = ⊥

-- What the sink took, by how the call ended. Done: exactly the pieces of the run. ForgedMatch: those of the lines up to
-- the forged match. ListenFault: those of all lines. WriteFault or Memory: the first pieces of the run so far, and
-- perhaps a part of the next one.
abbrev pub IsReported : Words → Stop → HttpTexts → Scenario → Course → (old new : Given) → Type 0
IsReported words Done http scenario c old new = ((lines_played http scenario c).ending ≡ Whole) × Took old new (pieces_so_far words http scenario c)
IsReported words (ForgedMatch line) http scenario c old new =
    ((lines_played http scenario c).ending ≡ ForgedAt line) × Took old new (lines_pieces words http scenario c)
IsReported words ListenFault http scenario c old new =
    IsServe words × ((lines_played http scenario c).ending ≡ Whole) × Took old new (lines_pieces words http scenario c)
IsReported words WriteFault http scenario c old new = TookFirst old new (pieces_so_far words http scenario c)
IsReported words Memory http scenario c old new = TookFirst old new (pieces_so_far words http scenario c)

-- ---- the headline of one run, for what was seen of the bench after it

pub record Headline (words : Words) (stop : Stop) (http : HttpTexts) (reading : DiskBatches) (scenario : Scenario) (seen : Seen) (old new : Given) (course : Course) : Type 0 where
  -- the run is one of this scenario
  pub run : IsCourseOf words http scenario course
  -- the sink took the report of this run: the text of each item as one piece, in order
  pub reported : IsReported words stop http scenario course old new
  -- each wire whose frames are known has exactly the frames of its lane, in order; a wire of no link has none
  pub wires : (l : Lane) (frames : List (List ℕ)) → seen.wire l ≡ Some frames → frames ≡ wire_octets course.net (last_world course) l
  -- The disk of each node that was ever started encodes batches. Their fold is that of the batches of the node's
  -- events, over what the node saw at the beginning. A batch in doubt may or may not be among these.
  pub disks : (v : ℕ) → v < course.net.site.nodes → is_blank ((last_world course).journal v) ≡ false →
      (batches : List (List Record)) × (reading (seen.disk v) ≡ Some batches) × IsFoldOf course.net course.begin (whole_run course) (last_world course) v batches
  -- the disk of a number that no node has is empty, as it was before
  pub other_disks : (v : ℕ) → course.net.site.nodes ≤ v → seen.disk v ≡ []
  -- What is left of an entropy is what it had, without the octets that its node drew. Those drawn before the beginning
  -- count, too.
  pub left : (v : ℕ) (told rest : List ℕ) → course.net.entropy v ≡ sequence_of told → seen.entropy v ≡ Some rest → rest ≡ drop ((last_world course).drawn v) told
  -- all that is promised of keys and of lane bytes
  pub keys : KeysAndBytes course
  -- Failures have causes, each in its own action. The count of faults of a part went through the actions of the whole
  -- run, one by one: an action that reports a fault of the part raised it, or left it at its greatest value, and any
  -- other action left it as it was. A fault of its disk is reported where a node answers `stopped`, at a start or later;
  -- a fault of its entropy where it answers `no-random` though enough octets were left; a fault of a link's device is
  -- the answer `device-fault`, and one of a lane's wire `wire-fault`. Only the first and the last count are seen, so of
  -- those in between the clauses say that there are such.
  pub disk_faults : (v : ℕ) → RoseWith (seen.disk_count v) (map (is_disk_fault course.net.site v) (whole_run course))
  pub entropy_faults : (v : ℕ) → RoseWith (seen.entropy_count v) (map (is_random_fault v) (whole_run course))
  pub device_faults : (link : ℕ) → RoseWith (seen.device_count link) (map (is_block_fault link) (whole_run course))
  pub wire_faults : (l : Lane) → RoseWith (seen.wire_count l) (map (is_wire_fault l) (whole_run course))
  -- each disk was armed with exactly the faults of those `cut` and `fail` lines of its node that were run, in order
  pub armed : (v : ℕ) → IsArmedWith (seen.arming v) (armings v (whole_run course))
