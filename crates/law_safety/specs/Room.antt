-- Room in the journal of a node.
use Rattle.std.specs.Prelude.{ℕ, ◌+◌, ◌≤◌, List}
use Rattle.net_model.specs.declared.record.Record.{Record}
use Rattle.net_model.specs.Journal.{journal_limit, added_len}
use Rattle.net_model.specs.World.{World}

-- The octets that the batch adds fit into the journal.
abbrev pub HasRoomAt : World → ℕ → List Record → Type 0
HasRoomAt w v batch = (w.journal v).length' + added_len (w.journal v).version batch ≤ journal_limit
