-- Connections without end.
use Rattle.std.specs.Prelude.{ℕ, ◌^◌}

-- so many connections that no worker comes to their end
abbrev pub endless : ℕ
endless = 2 ^ 48
