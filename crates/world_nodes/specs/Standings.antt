-- The standing of a manager, under a name for crates that also have the lanes' `Up` and `Down`.
pub use Rattle.kme_store.specs.declared.manager_state.Standing.TheVariants.{Between, Down, Up}
