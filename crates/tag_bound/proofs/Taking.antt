-- Reading line by line.
use Rattle.std.proofs.Common.{◌≡◌, ℕ, List, [], ◌∷◌, Option, Ok, Err, sym, ap, ◌∙◌}
use Rattle.std.specs.Str.Lines.{lines}
use Rattle.tag_bound.specs.declared.text_refusal.KeysRefusal.{KeysRefusal}
use Rattle.tag_bound.specs.declared.text_refusal.KeysRefusal.TheVariants.{BadLine, Memory}
use Rattle.tag_bound.specs.Words.{number_of}
use Rattle.tag_bound.specs.KeyLines.{Meaning, key_behind, then_key, keys_from, Takes, Refuses}

taken : (keys new : List ℕ) (key : Option ℕ) (follows : List ℕ → Meaning) (done : Unit {0}) → Takes keys new key (Ok done) → then_key keys key follows ≡ follows new
taken keys new key follows done takes = ap (λ (o : Option ℕ). then_key keys o follows) takes.1 ∙ ap follows (sym takes.2)

not_taken : (keys new : List ℕ) (key : Option ℕ) (follows : List ℕ → Meaning) (refusal : KeysRefusal) → Takes keys new key (Err refusal) → Refuses refusal (then_key keys key follows)
not_taken keys new key follows (BadLine n) takes = ap (λ (o : Option ℕ). then_key keys o follows) takes.0 ∙ ap (λ (n : ℕ). Err n) (sym takes.1)
not_taken keys new key follows Memory takes = tt

at_line : (keys rest line behind : List ℕ) (meaning : Meaning) → lines rest ≡ line ∷ lines behind → keys_from keys (lines rest) ≡ meaning →
    then_key keys (key_behind keys (number_of line)) (λ all. keys_from all (lines behind)) ≡ meaning
at_line keys rest line behind meaning split so_far = ap (keys_from keys) (sym split) ∙ so_far

-- the line has a key, and reading goes on after it
pub goes_on : (keys new rest line behind : List ℕ) (meaning : Meaning) (done : Unit {0}) → lines rest ≡ line ∷ lines behind → keys_from keys (lines rest) ≡ meaning →
    Takes keys new (key_behind keys (number_of line)) (Ok done) → keys_from new (lines behind) ≡ meaning
goes_on keys new rest line behind meaning done split so_far takes =
    sym (taken keys new (key_behind keys (number_of line)) (λ all. keys_from all (lines behind)) done takes) ∙ at_line keys rest line behind meaning split so_far

along : (refusal : KeysRefusal) (m n : Meaning) → m ≡ n → Refuses refusal m → Refuses refusal n
along (BadLine k) m n e h = sym e ∙ h
along Memory m n e h = tt

-- the line is refused
pub refused_at : (keys new rest line behind : List ℕ) (meaning : Meaning) (refusal : KeysRefusal) → lines rest ≡ line ∷ lines behind → keys_from keys (lines rest) ≡ meaning →
    Takes keys new (key_behind keys (number_of line)) (Err refusal) → Refuses refusal meaning
refused_at keys new rest line behind meaning refusal split so_far takes =
    along refusal _ _ (at_line keys rest line behind meaning split so_far) (not_taken keys new (key_behind keys (number_of line)) (λ all. keys_from all (lines behind)) refusal takes)

-- no line is left
pub all_taken : (keys rest : List ℕ) (meaning : Meaning) → rest ≡ [] → keys_from keys (lines rest) ≡ meaning → meaning ≡ Ok keys
all_taken keys rest meaning none so_far = sym so_far ∙ ap (λ (text : List ℕ). keys_from keys (lines text)) none
