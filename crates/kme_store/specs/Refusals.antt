-- The names of a recovery's refusals, for crates whose own refusals have the same names.
pub use Rattle.kme_journal.specs.declared.refusal.RecoverRefusal.TheVariants.{Foreign, Memory, Stopped}
