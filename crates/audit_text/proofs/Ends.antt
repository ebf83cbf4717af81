-- Where the scenario of a text ends, found line by line.
use Rattle.std.proofs.Common.{◌≡◌, ℕ, suc, ◌+◌, ◌<◌, Bool, cond, List, [], ◌∷◌, length, refl, ap, ◌∙◌, arith}
use Rattle.scenario_text.specs.Text.{parts_of}
use Rattle.audit_text.specs.Input.{is_end, octets_to_end, lines_to_end}
use Rattle.audit_text.proofs.Cuts.{some_part}

octets_first : (part : List ℕ) (parts : List (List ℕ)) → 0 < length parts → octets_to_end (part ∷ parts) ≡ length part + 1 + cond (is_end part) 0 (octets_to_end parts)
octets_first part [] h = absurd (omega arith)
octets_first part (next ∷ parts) h = refl

lines_first : (part : List ℕ) (parts : List (List ℕ)) → 0 < length parts → lines_to_end (part ∷ parts) ≡ cond (is_end part) 1 (suc (lines_to_end parts))
lines_first part [] h = absurd (omega arith)
lines_first part (next ∷ parts) h = refl

pub octets_on : (text part behind : List ℕ) (ended : Bool) → parts_of text ≡ part ∷ parts_of behind → ended ≡ is_end part → octets_to_end (parts_of text) ≡ length part + 1 + cond ended 0 (octets_to_end (parts_of behind))
octets_on text part behind ended e is = rw is (ap octets_to_end e ∙ octets_first part (parts_of behind) (some_part behind))

pub lines_on : (text part behind : List ℕ) (ended : Bool) → parts_of text ≡ part ∷ parts_of behind → ended ≡ is_end part → lines_to_end (parts_of text) ≡ cond ended 1 (suc (lines_to_end (parts_of behind)))
lines_on text part behind ended e is = rw is (ap lines_to_end e ∙ lines_first part (parts_of behind) (some_part behind))
