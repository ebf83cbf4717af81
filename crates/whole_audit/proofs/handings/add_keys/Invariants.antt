use Rattle.std.proofs.Common.{◌≡◌, ℕ, ◌&&◌, ◌||◌, eqb, drop}
use Rattle.ordered_set.specs.Entries.{has_entry}
use Rattle.qkd_base.specs.Name.{Name}
use Rattle.whole_audit.specs.Handings.{has_key}
use Rattle.whole_audit.specs.Kept.{key_entry}
use Rattle.whole_audit.proofs.handings.add_keys.Given as goal

-- The set so far and the keys still to be added have what the first set and all keys have.
abbrev pub invariant-loop-key : goal.invariant-loop-key
invariant-loop-key l = (n : Name) (there : ℕ) →
    ((eqb l.place there && has_key (drop l.key-index l.keys) n) || has_entry l.set (key_entry n there)) ≡ ((eqb l.place there && has_key l.keys n) || has_entry l.initial.set (key_entry n there))
