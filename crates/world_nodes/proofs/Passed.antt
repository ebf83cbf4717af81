-- Names of lower crates, passed on to the crates above that don't depend on them directly.
pub use Rattle.kme_store.proofs.Sent.{post_field}
