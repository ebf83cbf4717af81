-- Names of lower crates, passed on to the crates above that don't depend on them directly.
pub use Rattle.kme_store.specs.Manager.{HasDisk, ManagerForm, WhereUp, is_up, lease_of}
pub use Rattle.kme_store.specs.declared.post.Post.{Post}
pub use Rattle.kme_store.specs.declared.post.Post.TheVariants.{Off, On}
pub use Rattle.kme_store.specs.declared.manager_state.Standing.{Standing}
pub use Rattle.kme_store.specs.declared.manager_state.Standing.TheVariants.{Between, Down, Up}
