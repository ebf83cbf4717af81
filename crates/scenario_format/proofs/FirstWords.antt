-- What one more line adds to the lines of a kind: the line itself if its first word is that kind's, and nothing else.
use Rattle.std.proofs.Common.{◌≡◌, ◌∙◌, ℕ, Bool, true, false, ◌||◌, List, [], ◌∷◌, ◌++◌, refl, ap, append-nil, append_assoc}
use Rattle.std.specs.Prelude.{if◌then◌else◌, filter}
use Rattle.std.specs.Str.{bytes_eq}
use Rattle.std.proofs.lemmas.List.{map-append}
use Rattle.std.proofs.lemmas.List.Elements.{filter-append}
use Rattle.std.proofs.lemmas.List.Folds.{list_any-append}
use lib.Chars.{codes}
use Rattle.scenario_text.specs.Words.{Word}
use Rattle.scenario_format.specs.Form.{Said, first_is, numbers, words, is_pair, is_allowed_in, one_case, low_second, low_third, put}

abbrev pub more : List Said → ℕ → Word → List Word → List Said
more lines n w ws = lines ++ (n, w ∷ ws) ∷ []

taken : (b : Bool) (line : Said) → b ≡ true → (if b then line ∷ [] else []) ≡ line ∷ []
taken b line e = rw e refl

left_out : (b : Bool) (line : Said) → b ≡ false → (if b then line ∷ [] else []) ≡ []
left_out b line e = rw e refl

module _ (test : Word → Bool) (lines : List Said) (n : ℕ) (w : Word) (ws : List Word) where
  kept : test w ≡ true → filter (first_is test) (more lines n w ws) ≡ filter (first_is test) lines ++ (n, w ∷ ws) ∷ []
  kept e = filter-append (first_is test) lines ((n, w ∷ ws) ∷ []) ∙ ap (λ (xs : List Said). filter (first_is test) lines ++ xs) (taken (test w) (n, w ∷ ws) e)

  dropped : test w ≡ false → filter (first_is test) (more lines n w ws) ≡ filter (first_is test) lines
  dropped e =
      filter-append (first_is test) lines ((n, w ∷ ws) ∷ []) ∙ ap (λ (xs : List Said). filter (first_is test) lines ++ xs) (left_out (test w) (n, w ∷ ws) e)
      ∙ append-nil (filter (first_is test) lines)

  pub kept_words : test w ≡ true → words (filter (first_is test) (more lines n w ws)) ≡ words (filter (first_is test) lines) ++ (w ∷ ws) ∷ []
  kept_words e = ap words (kept e) ∙ map-append (λ (line : Said). line.1) (filter (first_is test) lines) ((n, w ∷ ws) ∷ [])

  pub kept_numbers : test w ≡ true → numbers (filter (first_is test) (more lines n w ws)) ≡ numbers (filter (first_is test) lines) ++ n ∷ []
  kept_numbers e = ap numbers (kept e) ∙ map-append (λ (line : Said). line.0) (filter (first_is test) lines) ((n, w ∷ ws) ∷ [])

  pub same_words : test w ≡ false → words (filter (first_is test) (more lines n w ws)) ≡ words (filter (first_is test) lines)
  same_words e = ap words (dropped e)

  pub same_numbers : test w ≡ false → numbers (filter (first_is test) (more lines n w ws)) ≡ numbers (filter (first_is test) lines)
  same_numbers e = ap numbers (dropped e)

-- ---- allowed pairs

or_false : (b : Bool) → (b || false) ≡ b
or_false true = refl
or_false false = refl

pub one_pair : (lines : List Said) (n : ℕ) (w : Word) (ws : List Word) (m s : Word) → is_allowed_in (more lines n w ws) m s ≡ (is_allowed_in lines m s || is_pair m s (w ∷ ws))
one_pair lines n w ws m s =
    list_any-append (λ (line : Said). is_pair m s line.1) lines ((n, w ∷ ws) ∷ [])
    ∙ ap (λ (b : Bool). is_allowed_in lines m s || b) (or_false (is_pair m s (w ∷ ws)))

no_pair : (w : Word) (ws : List Word) (m s : Word) → bytes_eq w (codes "allow") ≡ false → is_pair m s (w ∷ ws) ≡ false
no_pair w [] m s e = refl
no_pair w (a ∷ []) m s e = refl
no_pair w (a ∷ b ∷ []) m s e = rw e refl
no_pair w (a ∷ b ∷ c ∷ ws) m s e = refl

pub same_pairs : (lines : List Said) (n : ℕ) (w : Word) (ws : List Word) (m s : Word) → bytes_eq w (codes "allow") ≡ false → is_allowed_in (more lines n w ws) m s ≡ is_allowed_in lines m s
same_pairs lines n w ws m s e =
    one_pair lines n w ws m s ∙ ap (λ (b : Bool). is_allowed_in lines m s || b) (no_pair w ws m s e) ∙ or_false (is_allowed_in lines m s)

-- ---- lower-case digits leave a line's first word as it is

pub record Begins (w : Word) (ws : List Word) : Type 0 where
  pub rest : List Word
  pub is : one_case (w ∷ ws) ≡ w ∷ rest

begins_by : (h f : Bool) (w : Word) (ws : List Word) → bytes_eq w (codes "http") ≡ h → bytes_eq w (codes "forge") ≡ f → Begins w ws
begins_by true f w ws http forge = record { rest = low_second ws; is = rw http refl }
begins_by false true w ws http forge = record { rest = low_third ws; is = rw (http, forge) refl }
begins_by false false w ws http forge = record { rest = ws; is = rw (http, forge) refl }

pub begins : (w : Word) (ws : List Word) → Begins w ws
begins w ws = begins_by (bytes_eq w (codes "http")) (bytes_eq w (codes "forge")) w ws refl refl

pub put_before : (lines : List Said) (n : ℕ) (ws : List Word) (others : List Said) → (lines ++ put n ws []) ++ others ≡ lines ++ put n ws others
put_before lines n [] others = ap (λ (xs : List Said). xs ++ others) (append-nil lines)
put_before lines n (w ∷ ws) others = append_assoc lines ((n, w ∷ ws) ∷ []) others
