-- How many keys may be asked for, and of which size (ETSI GS QKD 014 V1.1.1, Key request).
use Rattle.std.specs.Prelude.{ℕ, ◌%◌, ◌==◌, ◌&&◌, nat_le, if◌then◌else◌, Option, Some, None}

abbrev pub number_at : ℕ → Option ℕ
number_at n = if nat_le 1 n && nat_le n 128 then Some n else None

abbrev pub size_at : ℕ → Option ℕ
size_at n = if nat_le 64 n && nat_le n 4096 && (n % 8 == 0) then Some n else None
