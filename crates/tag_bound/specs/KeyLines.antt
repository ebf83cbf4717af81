-- The keys that a text lists: one on each line, no two equal, and at most 10,000.
use Rattle.std.specs.Prelude.{◌≡◌, ℕ, ◌+◌, Bool, ◌||◌, ◌==◌, nat_le, if◌then◌else◌, List, [], ◌∷◌, ◌++◌, length, Option, Some, None, Result, Ok, Err}
use Rattle.std.specs.List.{list_any}
use Rattle.std.specs.Str.Lines.{lines}
use Rattle.tag_bound.specs.declared.text_refusal.KeysRefusal.{KeysRefusal}
use Rattle.tag_bound.specs.declared.text_refusal.KeysRefusal.TheVariants.{BadLine, Memory}
use Rattle.tag_bound.specs.Words.{number_of}

abbrev pub is_among : List ℕ → ℕ → Bool
is_among keys key = list_any (λ k. k == key) keys

-- The key of the next line, if it may follow these keys: it must not repeat one of them, and must not be the 10,001st.
abbrev pub key_behind : List ℕ → Option ℕ → Option ℕ
key_behind keys None = None
key_behind keys (Some key) = if is_among keys key || nat_le 10000 (length keys) then None else Some key

-- the keys that a text lists, or the number of the first line that is refused
abbrev pub Meaning : Type 0
Meaning = Result (List ℕ) ℕ

-- What follows from one more line, after lines with these keys. If the line is refused, its number is one more than the
-- number of keys.
abbrev pub then_key : List ℕ → Option ℕ → (List ℕ → Meaning) → Meaning
then_key keys None follows = Err (length keys + 1)
then_key keys (Some key) follows = follows (keys ++ key ∷ [])

abbrev pub keys_from : List ℕ → List (List ℕ) → Meaning
keys_from keys [] = Ok keys
keys_from keys (line ∷ more) = then_key keys (key_behind keys (number_of line)) (λ all. keys_from all more)

unfoldable pub keys_of : List ℕ → Meaning
keys_of text = keys_from [] (lines text)

-- The refusal agrees with the meaning of the text. When memory runs out, nothing is claimed.
abbrev pub Refuses : KeysRefusal → Meaning → Type 0
Refuses (BadLine n) meaning = meaning ≡ Err n
Refuses Memory meaning = Unit {0}

-- A set holds exactly the keys of a list.
abbrev pub IsSeen : (ℕ → Bool) → List ℕ → Type 0
IsSeen has keys = (key : ℕ) → has key ≡ is_among keys key

-- The effect of one line on the keys before it: its key is appended, or the line is refused.
abbrev pub Takes : List ℕ → List ℕ → Option ℕ → Result (Unit {0}) KeysRefusal → Type 0
Takes old new key (Ok done) = (k : ℕ) × (key ≡ Some k) × (new ≡ old ++ k ∷ [])
Takes old new key (Err (BadLine n)) = (key ≡ None) × (n ≡ length old + 1)
Takes old new key (Err Memory) = Unit {0}
