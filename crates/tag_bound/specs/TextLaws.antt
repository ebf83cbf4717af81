-- Laws on the lines of a text, and on the prefix that determines its meaning.
use Rattle.std.specs.Prelude.{◌≡◌, ℕ, ◌+◌, ◌≤◌, ◌⊎◌, ◌↔◌, true, List, ◌∷◌, ◌++◌, length, map, Some, None, Ok, Err}
use Rattle.std.specs.Str.Lines.{lines}
use Rattle.tag_bound.specs.Keys.{AreDistinct}
use Rattle.tag_bound.specs.Words.{number_of}
use Rattle.tag_bound.specs.KeyLines.{is_among, keys_of}

-- each of these lines has a key, no two keys are equal, and there are at most 10,000
pub record HaveKeys (all : List (List ℕ)) (keys : List ℕ) : Type 0 where
  pub each : map number_of all ≡ map (λ (n : ℕ). Some n) keys
  pub distinct : AreDistinct keys
  pub few : length keys ≤ 10000

-- a line that is refused after lines with these keys: it has no key, it is one too many, or it repeats a key
abbrev pub IsNoFurtherKey : List ℕ → List ℕ → Type 0
IsNoFurtherKey keys line = (number_of line ≡ None) ⊎ ((10000 ≤ length keys) ⊎ ((key : ℕ) × (number_of line ≡ Some key) × (is_among keys key ≡ true)))

-- the first line that is refused has this number, counted from 1
pub record IsFirstBad (all : List (List ℕ)) (n : ℕ) : Type 0 where
  pub front : List (List ℕ)
  pub line : List ℕ
  pub behind : List (List ℕ)
  pub keys : List ℕ
  pub cut : all ≡ front ++ line ∷ behind
  pub good : HaveKeys front keys
  pub number : n ≡ length front + 1
  pub bad : IsNoFurtherKey keys line

abbrev pub KeysMeant : Type 0
KeysMeant = (text keys : List ℕ) → (keys_of text ≡ Ok keys) ↔ HaveKeys (lines text) keys

abbrev pub FirstBadLine : Type 0
FirstBadLine = (text : List ℕ) (n : ℕ) → (keys_of text ≡ Err n) ↔ IsFirstBad (lines text) n

abbrev pub LongTexts : Type 0
LongTexts = (front behind : List ℕ) → 180018 ≤ length front → keys_of (front ++ behind) ≡ keys_of front
