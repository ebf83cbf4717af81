-- The invariant of a table without links.
use Rattle.std.proofs.Common.{◌≡◌, ℕ, zero, suc, get_or, replicate, Option, Some, None, refl}
use Rattle.route_table.specs.Table.{no_links, ends_of, IsTable}

abbrev absent : Option (ℕ × ℕ)
absent = None

no_ends : (n link : ℕ) → get_or (replicate n absent) link absent ≡ absent
no_ends zero link = refl
no_ends (suc n) zero = refl
no_ends (suc n) (suc link) = no_ends n link

nowhere : (link : ℕ) (e : ℕ × ℕ) → ends_of no_links link ≡ Some e → ⊥
nowhere link e h = let is = no_ends 32 link in cc

pub table_first : IsTable no_links
table_first = record {
  places = refl;
  lower_first = λ link v w h. absurd (nowhere link (v, w) h);
  nodes = λ link v w h. absurd (nowhere link (v, w) h);
  one_each = λ link other v w h k. absurd (nowhere link (v, w) h);
}
