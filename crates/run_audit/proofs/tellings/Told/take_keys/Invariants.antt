use Rattle.std.proofs.Common.{◌≡◌, List, map, drop}
use Rattle.run_audit.specs.Tellings.{Telling, handed_key, onto, all_fit}
use Rattle.run_audit.specs.Kept.{AreTold}
use Rattle.run_audit.proofs.tellings.Told.take_keys.Given as goal

-- The record holds the tellings so far. All keys fit exactly if those that are left do, and then the same tellings are recorded.
abbrev pub invariant-loop-name : goal.invariant-loop-name
invariant-loop-name l = (ts : List Telling) → AreTold l.initial.self ts →
    (us : List Telling)
    × AreTold l.self us
    × (all_fit l.grants us (map (handed_key l.caller l.master) (drop l.name-index l.keys)) ≡ all_fit l.grants ts (map (handed_key l.caller l.master) l.keys))
    × (onto us (map (handed_key l.caller l.master) (drop l.name-index l.keys)) ≡ onto ts (map (handed_key l.caller l.master) l.keys))
