-- Names of lower crates, passed on to the crates above that don't depend on them directly.
pub use Rattle.kme_journal.specs.BatchRecovery.{AreReadAs, IsReadAs}
pub use Rattle.kme_journal.specs.Drafts.{with_octets}
pub use Rattle.kme_journal.specs.Frames.{is_match}
pub use Rattle.kme_journal.specs.Putting.{checkpoint_bodies}
pub use Rattle.kme_journal.specs.Recovery.{GivesBack, HasCheckpoint, HasRead, IsAfter, IsLeft, Leaves, LeavesOneKind}
pub use Rattle.kme_journal.specs.Spelled.{IsBody, IsSpelling, added, batch_in_doubt, body, version_named, with_batch}
pub use Rattle.kme_journal.specs.Unread.{IsUnreadable}
pub use Rattle.kme_journal.specs.declared.manager_recovery.Recovered.{Recovered}
pub use Rattle.kme_journal.specs.declared.refusal.RecoverRefusal.{RecoverRefusal}
pub use Rattle.kme_node.specs.Holdings.{view}
