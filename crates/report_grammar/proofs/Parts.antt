-- How a text is cut into its words from the front, and joined from them again.
use Rattle.std.proofs.Common.{◌≡◌, ℕ, suc, ◌+◌, ◌-◌, ◌<◌, ◌≤◌, length, Bool, true, false, eqb, List, [], ◌∷◌, ◌++◌, take, drop, Option, Some, None, refl, sym, ap, ◌∙◌, append_assoc, arith}
use Rattle.std.proofs.Math.Seq.{take-length}
use lib.Chars.{codes}
use Rattle.std.specs.List.{slice_split, onto_first, join_with_byte}
use Rattle.std.proofs.lemmas.List.Splits.{join_with_byte-slice_split}
use Rattle.qkd_base.specs.Name.{Name}
use Rattle.scenario_text.specs.Words.{Word, is_space, len_to, first_of}
use Rattle.scenario_text.specs.Fields.{name_of}
use Rattle.run_types.specs.Words.{words}
use Rattle.report_grammar.specs.Words.{words_in}
use Rattle.report_grammar.specs.Fields.{octets_of}
use Rattle.report_grammar.specs.Rows.{keys_after}

one_more : (n : ℕ) → 1 + n ≡ suc n
one_more n = omega arith

abbrev Parts : List ℕ → Type 0
Parts bs = slice_split is_space bs ≡ take (len_to 32 bs) bs ∷ words_in (drop (len_to 32 bs) bs)

onto : (x : ℕ) (b : Bool) (xs : List ℕ) → eqb x 32 ≡ b → Parts xs → Parts (x ∷ xs)
unfolding words_in
onto x true xs e h = rw e refl
onto x false xs e h = rw (e, one_more (len_to 32 xs)) (ap (onto_first x) h)

-- The first word of a text ends at the next space.
pub first_part : (bs : List ℕ) → Parts bs
unfolding words_in
first_part [] = refl
first_part (x ∷ xs) = onto x (eqb x 32) xs refl (first_part xs)

words_joined : (ws : List Word) → words ws ≡ join_with_byte 32 ws
words_joined [] = refl
words_joined (w ∷ []) = refl
words_joined (w ∷ v ∷ ws) = append_assoc w (codes " ") (words (v ∷ ws)) ∙ ap (λ (rest : List ℕ). w ++ 32 ∷ rest) (words_joined (v ∷ ws))

-- The words of a text, joined by spaces, are the text.
pub joined_again : (bs : List ℕ) → words (slice_split is_space bs) ≡ bs
joined_again bs = words_joined (slice_split is_space bs) ∙ join_with_byte-slice_split 32 bs

-- A text without an octet has no word.
pub nothing_in : (text : List ℕ) → length text < 1 → words_in text ≡ []
unfolding words_in
nothing_in [] h = refl
nothing_in (b ∷ bs) h = absurd (omega arith)

-- A text of words begins with a space, and its first word stands behind that.
whole_rest : (bs : List ℕ) → take (suc (length bs) - 1) bs ≡ bs
whole_rest bs = let e : suc (length bs) - 1 ≡ length bs = omega arith in rw e (take-length bs)

pub first_in : (text rest : List ℕ) (size : ℕ) → 1 ≤ length text → rest ≡ take (length text - 1) (drop 1 text) → size ≡ len_to 32 rest → words_in text ≡ take size rest ∷ words_in (drop size rest)
unfolding words_in
first_in [] rest size h r e = absurd (omega arith)
first_in (b ∷ bs) rest size h r e = let all : rest ≡ bs = r ∙ whole_rest bs in rw (e, all) (first_part bs)

-- The words of a text, joined by spaces, are the text without its leading space.
pub body_none : (text : List ℕ) → length text ≡ 0 → text ≡ words (words_in text)
unfolding words_in
body_none [] h = refl
body_none (b ∷ bs) h = absurd (omega arith)

pub body_some : (text : List ℕ) → 1 ≤ length text → drop 1 text ≡ words (words_in text)
unfolding words_in
body_some [] h = absurd (omega arith)
body_some (b ∷ bs) h = sym (joined_again bs)

abbrev Cut : Type 0
Cut = Word × List Word

cut_parts : (a b : Cut) → Some a ≡ Some b → (a.0 ≡ b.0) × (a.1 ≡ b.1)
cut_parts a b e = let p : a ≡ b = cc in (ap (λ (x : Cut). x.0) p, ap (λ (x : Cut). x.1) p)

no_cut : (a : Cut) → Some a ≡ None → ⊥
no_cut a e = cc

-- Once one key is read from its two words, the keys so far and the words left still give the same list.
pub one_key : (before new : List (Name × List ℕ)) (left mid rest : List Word) (n h : Word) (name : Name) (octets : List ℕ) (total : Option (List (Name × List ℕ))) → Some (n, mid) ≡ first_of left → Some (h, rest) ≡ first_of mid
    → Some name ≡ name_of n → octets_of h ≡ Some octets → new ≡ before ++ (name, octets) ∷ [] → keys_after before left ≡ total → keys_after new rest ≡ total
one_key before new [] mid rest n h name octets total a b c d e so_far = absurd (no_cut (n, mid) a)
one_key before new (w ∷ []) mid rest n h name octets total a b c d e so_far = let p = cut_parts (n, mid) (w, []) a in absurd (no_cut (h, rest) (b ∙ ap first_of p.1))
one_key before new (w ∷ v ∷ ws) mid rest n h name octets total a b c d e so_far =
    let p = cut_parts (n, mid) (w, v ∷ ws) a in
    let q = cut_parts (h, rest) (v, ws) (b ∙ ap first_of p.1) in
    let named : name_of w ≡ Some name = ap name_of (sym p.0) ∙ sym c in
    let given : octets_of v ≡ Some octets = ap octets_of (sym q.0) ∙ d in
    rw (e, q.1) (rw (named, given) at so_far)
