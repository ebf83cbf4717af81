-- When all that a manager keeps can be written as records.
use Rattle.std.specs.Prelude.{◌≡◌, ℕ}
use Rattle.std.specs.List.{All}
use Rattle.qkd_base.specs.Name.{Name}
use Rattle.qkd_base.specs.declared.key_name.NameKind.TheVariants.{Stream as StreamKind}
use Rattle.net_model.specs.Facts.{IsWellFormedFact}
use Rattle.net_model.specs.View.{View}

-- the pair is that of a stream's end
abbrev pub IsOfStream : Name × ℕ → Type 0
IsOfStream h = h.0.kind ≡ StreamKind

-- the names and sizes of facts are those of their kinds, and all closed ends are those of streams
pub record IsFormed (v : View) : Type 0 where
  pub facts : All IsWellFormedFact v.facts
  pub closed : All IsOfStream v.closed
