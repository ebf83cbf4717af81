-- Well-formed records.
use Rattle.std.specs.Prelude.{◌≡◌, true, length}
use Rattle.qkd_base.specs.declared.key_name.NameKind.TheVariants.{Stream as StreamKind}
use Rattle.net_model.specs.declared.fact.Fact.{Fact}
use Rattle.net_model.specs.declared.record.Record.{Record}
use Rattle.net_model.specs.declared.record.Record.TheVariants.{Block, Lease, Learned, Acked, Handed, Closed, Bare}
use Rattle.net_model.specs.Facts.{IsWellFormedFact}
use Rattle.net_model.specs.Table.{is_secret, bytes_of, zeros_for}

-- a fact that is kept without its bytes
pub record IsBareFact (f : Fact) : Type 0 where
  pub secret : is_secret f ≡ true
  pub formed : IsWellFormedFact f
  pub zeros : bytes_of f ≡ zeros_for (bytes_of f)

abbrev pub IsWellFormedRecord : Record → Type 0
IsWellFormedRecord (Block link number bytes) = length bytes ≡ 1024
IsWellFormedRecord (Lease lane end) = Unit {0}
IsWellFormedRecord (Learned f) = IsWellFormedFact f
IsWellFormedRecord (Acked n) = Unit {0}
IsWellFormedRecord (Handed n sae) = Unit {0}
IsWellFormedRecord (Closed stream sae) = stream.kind ≡ StreamKind
IsWellFormedRecord (Bare f) = IsBareFact f
