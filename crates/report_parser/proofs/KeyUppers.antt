-- The upper bound for the row of keys, which has a name and octets for each key.
use Rattle.std.proofs.Common.{◌≡◌, ℕ, zero, suc, ◌+◌, ◌≤◌, ◌<◌, Bool, true, false, cond, eqb, List, [], ◌∷◌, ◌++◌, length, drop, refl, ap, length-drop, arith}
use Rattle.std.specs.List.{flat_map}
use Rattle.hex.specs.Hex.{encode_lower}
use Rattle.qkd_base.specs.Name.{Name}
use Rattle.run_types.specs.Words.{name_text}
use Rattle.run_types.specs.Texts.{key_words}
use Rattle.report_grammar.specs.Tellable.{AreKeys}
use Rattle.report_parser.specs.declared.part.Part.{Part}
use Rattle.report_parser.specs.declared.part.Part.TheVariants as parts
use Rattle.report_parser.specs.Runs.{common, plain_len, end_reach}
use Rattle.report_parser.specs.Fits.{is_text}
use Rattle.report_parser.specs.Walk.{part_reach, space_reach, parts_reach}
use Rattle.report_parser.specs.Rows.{keys_from, keys_reach}
use Rattle.report_parser.proofs.Upper.{Upper, spaced, end_upper, parts_upper}
use Rattle.report_parser.proofs.PartUppers.{octets_fits}
use Rattle.report_parser.proofs.NameUppers.{name_fits}

-- ---- the text behind a word is shorter

shorter : (bs : List ℕ) (n : ℕ) → length (drop n bs) < suc (length bs)
shorter bs n = omega (arith, length-drop n bs)

agree : (nodes : List (List ℕ)) (p : Part) (f g : List ℕ → ℕ) (text : List ℕ) → ((t : List ℕ) → length t < length text → f t ≡ g t) → space_reach (part_reach nodes p f) text ≡ space_reach (part_reach nodes p g) text
unfolding part_reach
agree nodes p f g [] h = refl
agree nodes p f g (b ∷ bs) h =
    ap (λ (m : ℕ). cond (eqb b 32) (1 + m) 0) (at (is_text nodes p _) (plain_len bs) _ (h (drop (plain_len bs) bs) (shorter bs (plain_len bs))))
  where
    at : (c : Bool) (n other : ℕ) → f (drop (plain_len bs) bs) ≡ g (drop (plain_len bs) bs) → cond c (n + f (drop (plain_len bs) bs)) other ≡ cond c (n + g (drop (plain_len bs) bs)) other
    at c n other e = ap (λ (m : ℕ). cond c (n + m) other) e

abbrev key_parts : List Part
key_parts = parts.Name ∷ parts.Octets ∷ []

keys_agree : (nodes : List (List ℕ)) (f g : List ℕ → ℕ) (text : List ℕ) → ((t : List ℕ) → length t < length text → f t ≡ g t) → parts_reach nodes key_parts f text ≡ parts_reach nodes key_parts g text
keys_agree nodes f g text h = agree nodes parts.Name (parts_reach nodes (parts.Octets ∷ []) f) (parts_reach nodes (parts.Octets ∷ []) g) text (λ t lt. agree nodes parts.Octets f g t (λ u lu. h u (omega arith)))

-- The reach allows for at most n keys. Any n from the text's length on gives the same reach.
enough : (nodes : List (List ℕ)) (n m : ℕ) (text : List ℕ) → length text ≤ n → length text ≤ m → keys_from nodes n text ≡ keys_from nodes m text
enough nodes zero zero text h k = refl
enough nodes zero (suc m) [] h k = refl
enough nodes zero (suc m) (b ∷ bs) h k = absurd (omega arith)
enough nodes (suc n) zero [] h k = refl
enough nodes (suc n) zero (b ∷ bs) h k = absurd (omega arith)
enough nodes (suc n) (suc m) text h k =
    ap (λ (x : ℕ). cond (eqb (end_reach text) 1) 1 x) (keys_agree nodes (keys_from nodes n) (keys_from nodes m) text (λ t lt. enough nodes n m t (omega arith) (omega arith)))

-- ---- keys

last_at : (b : Bool) (reach other total : ℕ) → eqb reach 1 ≡ b → reach ≤ 1 → total ≤ reach → total ≤ cond b 1 other
last_at true reach other total e le h = omega arith
last_at false reach other total e le h = let none : reach ≡ 0 = grind (arith, e) in omega arith

end_short : (text : List ℕ) → end_reach text ≤ 1
end_short [] = omega arith
end_short (b ∷ bs) = at (eqb b 10)
  where
    at : (c : Bool) → cond c 1 0 ≤ 1
    at true = omega arith
    at false = omega arith

-- A text that begins with a space does not begin with the end of a line.
space_at : (b : ℕ) (c : Bool) (m one : ℕ) → eqb b 10 ≡ c → cond (eqb b 10) one 0 ≡ one → 1 ≤ one → cond (eqb 32 b) (1 + m) 0 ≤ 1
space_at b true m one s f le = let other : eqb 32 b ≡ false = grind (arith, s) in rw other (omega arith)
space_at b false m one s f le = let g : cond false one 0 ≡ one = rw s at f in absurd (omega arith)

space_first : (x text : List ℕ) → end_reach text ≡ 1 → common (32 ∷ x) text ≤ 1
space_first x [] e = omega arith
space_first x (b ∷ bs) e = space_at b (eqb b 10) (common x bs) 1 refl e (omega arith)

key_at : (b : Bool) (reach other total : ℕ) → eqb reach 1 ≡ b → (reach ≡ 1 → total ≤ 1) → total ≤ other → total ≤ cond b 1 other
key_at true reach other total e h k = h (grind (arith, e))
key_at false reach other total e h k = k

from_upper : (nodes : List (List ℕ)) (keys : List (Name × List ℕ)) (n : ℕ) → length keys ≤ n → AreKeys keys → Upper (spaced (flat_map key_words keys) (10 ∷ [])) (keys_from nodes n)
from_upper nodes [] zero le h text = end_upper text
from_upper nodes [] (suc n) le h text = last_at (eqb (end_reach text) 1) (end_reach text) (parts_reach nodes key_parts (keys_from nodes n) text) (common (10 ∷ []) text) refl (end_short text) (end_upper text)
from_upper nodes (k ∷ ks) zero le h text = absurd (omega arith)
from_upper nodes (k ∷ ks) (suc n) le h text =
    key_at (eqb (end_reach text) 1) (end_reach text) (parts_reach nodes key_parts (keys_from nodes n) text) (common (spaced (flat_map key_words (k ∷ ks)) (10 ∷ [])) text) refl (space_first _ text) (one (flat_map key_words ks) (from_upper nodes ks n (omega arith) h.2) text)
  where
    one : (ws : List (List ℕ)) → Upper (spaced ws (10 ∷ [])) (keys_from nodes n) → Upper (spaced (key_words k) (spaced ws (10 ∷ []))) (parts_reach nodes key_parts (keys_from nodes n))
    one [] u = parts_upper nodes key_parts (name_text k.0 ∷ encode_lower k.1 ∷ []) 10 [] (keys_from nodes n) refl (name_fits nodes k.0 h.0, (octets_fits nodes k.1 h.1, tt)) u
    one (w ∷ ws) u = parts_upper nodes key_parts (name_text k.0 ∷ encode_lower k.1 ∷ []) 32 (w ++ spaced ws (10 ∷ [])) (keys_from nodes n) refl (name_fits nodes k.0 h.0, (octets_fits nodes k.1 h.1, tt)) u

pub keys_upper : (nodes : List (List ℕ)) (keys : List (Name × List ℕ)) → AreKeys keys → Upper (spaced (flat_map key_words keys) (10 ∷ [])) (keys_reach nodes)
unfolding keys_reach
keys_upper nodes keys h text =
    let u = from_upper nodes keys (length keys + length text) (omega arith) h text in
    let e = enough nodes (length keys + length text) (length text) text (omega arith) (omega arith) in
    rw e at u
