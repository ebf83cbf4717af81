-- Names of lower crates, passed on to the crates above that don't depend on them directly.
pub use Rattle.kme_journal.proofs.Bodies.{body_added, body_in_doubt, body_with, body_written}
pub use Rattle.kme_journal.proofs.ReadBack.{nothing_read, read_more}
pub use Rattle.kme_journal.proofs.Whole.{bodies_need}
