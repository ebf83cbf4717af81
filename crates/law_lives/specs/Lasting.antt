-- What is on disks stays there.
use Rattle.std.specs.Prelude.{◌≡◌, ℕ, ◌<◌, ◌≤◌, true, Some, slice_get}
use Rattle.qkd_base.specs.Name.{Name, has}
use Rattle.qkd_base.specs.declared.lane.Lane.{Lane}
use Rattle.net_model.specs.declared.fact.Fact.{Fact}
use Rattle.net_model.specs.Table.{fact_at, was_handed}
use Rattle.net_model.specs.World.{World, Durable}
use Rattle.net_model.specs.Ownership.{covers}

-- No fact, mark or block is lost.
pub record Lasts (before after : Durable) : Type 0 where
  pub facts : (n : Name) (f : Fact) → fact_at before.facts n ≡ Some f → fact_at after.facts n ≡ Some f
  pub known : (v : ℕ) (n : Name) → has (before.known v) n ≡ true → has (after.known v) n ≡ true
  pub acked : (v : ℕ) (n : Name) → has (before.acked v) n ≡ true → has (after.acked v) n ≡ true
  pub handed : (n : Name) (sae : ℕ) → was_handed before.handed n sae ≡ true → was_handed after.handed n sae ≡ true
  pub closed : (v : ℕ) (n : Name) (sae : ℕ) → was_handed (before.closed v) n sae ≡ true → was_handed (after.closed v) n sae ≡ true
  pub blocks : (l : Lane) → before.blocks l ≤ after.blocks l

-- No lane's leased end goes back.
abbrev pub LeasesLast : (before after : Durable) → Type 0
LeasesLast before after = (l : Lane) → before.lease l ≤ after.lease l

-- Each byte of a frame is below the end at which its lane goes on.
abbrev pub FramesAreBelow : (before after : World) → Type 0
FramesAreBelow before after = (l : Lane) (j x : ℕ) → covers before.durable.facts (slice_get (before.frames l) j) x ≡ true → x < after.durable.lease l
