-- Journals, and the checkpoints that starts make.
use Rattle.std.specs.Prelude.{◌≡◌, ◌∷◌, ◌++◌, ℕ, ◌+◌, [], Bool, true, false, List, map, Some, None}
use Rattle.net_model.specs.declared.record.Record.TheVariants.{Handed as Handed', Acked, Closed}
use Rattle.net_model.specs.Site.{count_up}
use Rattle.net_model.specs.World.{Journal, Network, World}
use Rattle.net_model.specs.Needed.{view_of}
use Rattle.net_model.specs.Journal.{checkpoint_need, recovered_journal, new_journal, body_len}
use Rattle.net_model.specs.Action.{IoFault, Recovers, Interrupted, Recovery}
use Rattle.run_types.specs.declared.command.Command.TheVariants.{Bits, Fill, Settle, Crash, Start, Enc, Dec}
use Rattle.run_types.specs.declared.end.Ends.TheVariants.{Both}
use Rattle.run_types.specs.declared.item.NumberedItem.{NumberedItem}
use Rattle.run_model.specs.Play.{Whole, Ending}
use Rattle.model_examples.specs.Networks.{key, stream, octets_on, two_nodes}
use Rattle.model_examples.specs.Row.{line, line_by, at, Says, Finds, Step, ran, ran_from, Ran, no_http, reported}
use Rattle.model_examples.specs.Runs.{restart, one_key}
use Rattle.run_types.specs.declared.item.Item.TheVariants as items
use Rattle.run_types.specs.declared.refusal.Refusal.TheVariants as refusals

abbrev pub journal_after : Network → List Step → Journal
journal_after net steps = (ran net steps).world.journal 0

abbrev pub many_blocks : List Step
many_blocks = line (Bits 0 Both 64) ∷ []

-- 64 blocks, then a start that writes a checkpoint after them, then a start that writes one before it
abbrev pub Checkpoints : Type 0
Checkpoints =
    (journal_after (two_nodes []) many_blocks ∷ journal_after (two_nodes []) (many_blocks ++ restart) ∷ journal_after (two_nodes []) (many_blocks ++ restart ++ restart) ∷ []) ≡
    (record { length' = 66385; start = 16; generation = 0; moved = false; version = 2 } ∷
    record { length' = 132313; start = 66385; generation = 0; moved = true; version = 2 } ∷
    record { length' = 65978; start = 50; generation = 1; moved = true; version = 2 } ∷ [])

abbrev pub start_by : Recovery → Step
start_by recovery = line_by (Start 0) (Finds recovery ∷ [])

abbrev pub doubtful : List Step
doubtful = many_blocks ++ line_by (Fill 0 1 256 1) (Says IoFault ∷ []) ∷ []

-- a start stops at a checkpoint that includes the batch in doubt, and the next start includes it too
abbrev pub CheckpointInDoubt : Type 0
CheckpointInDoubt =
    (journal_after (two_nodes (octets_on 0 64)) (doubtful ++ start_by (Interrupted (Some true)) ∷ []) ∷
    journal_after (two_nodes (octets_on 0 64)) (doubtful ++ start_by (Interrupted (Some true)) ∷ start_by (Recovers true) ∷ []) ∷
    journal_after (two_nodes (octets_on 0 64)) (doubtful ++ start_by (Interrupted (Some false)) ∷ start_by (Recovers false) ∷ []) ∷
    journal_after (two_nodes (octets_on 0 64)) (doubtful ++ start_by (Interrupted None) ∷ start_by (Recovers true) ∷ []) ∷ []) ≡
    (record { length' = 132442; start = 66453; generation = 0; moved = true; version = 2 } ∷
    record { length' = 66039; start = 50; generation = 1; moved = true; version = 2 } ∷
    record { length' = 65978; start = 50; generation = 1; moved = true; version = 2 } ∷
    record { length' = 132442; start = 66453; generation = 0; moved = true; version = 2 } ∷ [])

-- a network whose journals have this state after the nodes were started
abbrev pub with_journal : World → Journal → World
with_journal w j = record w { journal = λ v. j }

abbrev pub ran_with : Network → Journal → List Step → Ran
ran_with net j steps = ran_from no_http net (with_journal (ran net []).world j) steps

-- one key in a journal of version 1, and the journal after a start; the same in version 2
abbrev pub journals_of : Ran → List Journal
journals_of r = r.world.journal 0 ∷ recovered_journal (r.world.journal 0) (checkpoint_need (view_of (two_nodes (octets_on 0 32)) r.world 0)) ∷ []

abbrev pub Migration : Type 0
Migration =
    (journals_of (ran_with (two_nodes (octets_on 0 32)) (record new_journal { version = 1 }) one_key) ++
    journals_of (ran (two_nodes (octets_on 0 32)) one_key)) ≡
    (record { length' = 2247; start = 16; generation = 0; moved = false; version = 1 } ∷
    record { length' = 4434; start = 2247; generation = 0; moved = true; version = 2 } ∷
    record { length' = 2238; start = 16; generation = 0; moved = false; version = 2 } ∷
    record { length' = 2238; start = 16; generation = 0; moved = false; version = 2 } ∷ [])

-- a start was stopped after it wrote a checkpoint of a journal of version 1: the next start writes none, and adds nothing
abbrev pub settled_journal : Bool → Journal
settled_journal committed =
    (ran_with (two_nodes (octets_on 0 32)) (record new_journal { length' = 85; version = 1 })
    (line_by (Fill 0 1 256 1) (Says IoFault ∷ []) ∷ start_by (Interrupted (Some committed)) ∷ start_by (Recovers committed) ∷ [])).world.journal 0

abbrev pub CheckpointOnce : Type 0
CheckpointOnce =
    (settled_journal true ∷ settled_journal false ∷ []) ≡
    (record { length' = 222; start = 153; generation = 0; moved = true; version = 2 } ∷
    record { length' = 86; start = 85; generation = 0; moved = true; version = 2 } ∷ [])

-- a disk with just a header and a closed gate of version 1 is blank: a start makes a new journal on it, without a checkpoint
abbrev pub blank_of_version_1 : Journal
blank_of_version_1 = record new_journal { version = 1 }

abbrev pub over_blank : List Step → Ran
over_blank steps = ran_with (two_nodes (octets_on 0 32)) blank_of_version_1 steps

abbrev pub BlankOfVersion1 : Type 0
BlankOfVersion1 =
    ((over_blank restart).world.journal 0 ∷ recovered_journal blank_of_version_1 1 ∷ [] ≡ new_journal ∷ blank_of_version_1 ∷ [])
    × ((over_blank (line (Crash 0) ∷ start_by (Interrupted (Some false)) ∷ [])).legal ≡ false)

-- a full journal is reported before a short entropy, and a batch that just fits is accepted
abbrev pub full_by : ℕ → List NumberedItem × Ending × Bool
full_by length' =
    reported (ran_with (two_nodes (octets_on 0 31)) (record new_journal { length' = length' })
    (line (Fill 0 1 256 1) ∷ line_by (Fill 0 1 64 1) (Says IoFault ∷ []) ∷ []))

abbrev pub FullJournal : Type 0
FullJournal =
    (full_by 33554365 ∷ full_by 33554364 ∷ []) ≡
    ((at 1 (items.Refused (refusals.JournalFull 33554365 68)) ∷ at 2 (items.Refused refusals.Stopped) ∷ [], Whole, true) ∷
    (at 1 (items.Refused refusals.NoRandom) ∷ at 2 (items.Refused refusals.Stopped) ∷ [], Whole, true) ∷ [])

-- handings in version 2: a run of 128 names, and the next run
abbrev pub handing_len : ℕ → ℕ
handing_len n = body_len 2 (map (λ (i : ℕ). Handed' (key i) 0) (count_up n))

abbrev pub HandingRuns : Type 0
HandingRuns =
    (handing_len 1 ∷ handing_len 2 ∷ handing_len 128 ∷ handing_len 129 ∷ body_len 2 (Handed' (key 1) 0 ∷ Handed' (key 2) 1 ∷ Handed' (key 3) 1 ∷ Acked (key 1) ∷ Handed' (key 4) 1 ∷ Closed (stream 1) 1 ∷ []) ∷ []) ≡
    (14 ∷ 21 ∷ 903 ∷ 915 ∷ (2 + 12 + 19 + 8 + 12 + 10) ∷ [])

-- the sizes of the checkpoints of a manager that has handed one of two keys, and of one that has handed both: used keys are stored without their bytes
abbrev pub used_keys : List Step
used_keys = line (Bits 0 Both 2) ∷ line (Fill 0 1 256 2) ∷ line (Settle 10) ∷ line (Enc 0 0 1 1 256) ∷ line (Dec 1 1 0 (key 1 ∷ key 2 ∷ [])) ∷ []

abbrev pub needs_of : Ran → List ℕ
needs_of r = map (λ (v : ℕ). checkpoint_need (view_of (two_nodes (octets_on 0 64)) r.world v)) (count_up 2)

abbrev pub UsedKeys : Type 0
UsedKeys = needs_of (ran (two_nodes (octets_on 0 64)) used_keys) ≡ (2275 ∷ 2250 ∷ [])
