-- A list of words is written as its first word, and behind it each other word with a space before it.
use Rattle.std.proofs.Common.{◌≡◌, ℕ, suc, ◌+◌, ◌<◌, ◌≤◌, List, [], ◌∷◌, ◌++◌, length, get_or, drop, sym, ◌∙◌, ap, append_assoc, append-nil, add-one}
use Rattle.std.specs.List.{flat_map}
use Rattle.std.proofs.Math.Seq.{drop-cons}
use Rattle.std.proofs.lemmas.List.{drop_all}
use Rattle.hex.specs.Hex.{encode_lower}
use Rattle.qkd_base.specs.Name.{Name}
use Rattle.run_types.specs.Words.{words, name_text}
use Rattle.run_types.specs.Texts.{key_words}

abbrev pub spaced : List (List ℕ) → List ℕ
spaced [] = []
spaced (w ∷ ws) = 32 ∷ w ++ spaced ws

words_spaced : (w : List ℕ) (ws : List (List ℕ)) → words (w ∷ ws) ≡ w ++ spaced ws
words_spaced w [] = sym (append-nil w)
words_spaced w (v ∷ ws) = rw (words_spaced v ws) (simp append_assoc)

-- the text so far, and behind it the words of the keys that are still to be written
abbrev pub written : List ℕ → List (Name × List ℕ) → List ℕ
written text keys = text ++ spaced (flat_map key_words keys)

step : (text : List ℕ) (left : List (Name × List ℕ)) (k : Name × List ℕ) →
    written (text ++ 32 ∷ name_text k.0 ++ 32 ∷ encode_lower k.1) left ≡ written text (k ∷ left)
step text left k = simp append_assoc

-- Once one key more is written, the text so far and the keys left still give the same text.
pub one_more : (old new : List ℕ) (keys : List (Name × List ℕ)) (i : ℕ) (k : Name × List ℕ) → i < length keys → k ≡ get_or keys i k →
    new ≡ old ++ 32 ∷ name_text k.0 ++ 32 ∷ encode_lower k.1 → written new (drop (i + 1) keys) ≡ written old (drop i keys)
one_more old new keys i k within there e =
    let at : drop i keys ≡ k ∷ drop (i + 1) keys = rw add-one (drop-cons keys i k within ∙ ap (λ (x : Name × List ℕ). x ∷ drop (suc i) keys) (sym there)) in
    rw (e, at) (step old (drop (i + 1) keys) k)

-- Once all keys are written, the text ends with the words of all keys.
pub all_keys : (text old first : List ℕ) (keys : List (Name × List ℕ)) (i : ℕ) → length keys ≤ i → written text (drop i keys) ≡ written (old ++ 32 ∷ first) keys →
    text ≡ old ++ 32 ∷ words (first ∷ flat_map key_words keys)
all_keys text old first keys i past e =
    let none : drop i keys ≡ [] = drop_all i keys past in
    let whole : text ++ [] ≡ written (old ++ 32 ∷ first) keys = rw none at e in
    rw (words_spaced first (flat_map key_words keys)) (sym (append-nil text) ∙ (whole ∙ simp append_assoc))
