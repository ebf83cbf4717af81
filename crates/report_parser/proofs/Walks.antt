-- The loops over parts and keys compute the reach that the definitions give.
use Rattle.std.proofs.Common.{◌≡◌, ℕ, suc, ◌+◌, ◌-◌, ◌<◌, ◌≤◌, Bool, true, false, not, eqb, List, [], ◌∷◌, length, get_or, take, drop, refl, sym, ap, ◌∙◌, arith, rules}
use Rattle.std.specs.List.{common_prefix_len}
use Rattle.std.proofs.lemmas.List.{drop_more, take_rest, drop_all, drop-drop}
use Rattle.report_parser.specs.declared.part.Part.{Part}
use Rattle.report_parser.specs.declared.part.Part.TheVariants as parts
use Rattle.report_parser.specs.declared.part.Reach.{Reach}
use Rattle.report_parser.specs.Runs.{end_reach}
use Rattle.report_parser.specs.Walk.{part_reach, space_reach, parts_reach, go_on}
use Rattle.report_parser.specs.Rows.{keys_from}

-- No octet is shared with the empty text.
nothing : (e : ℕ → ℕ → Bool) (xs : List ℕ) → common_prefix_len e xs [] ≡ 0
nothing e [] = refl
nothing e (x ∷ xs) = refl

pub all_passed : (e : ℕ → ℕ → Bool) (xs ys : List ℕ) (i : ℕ) → length ys ≤ i → common_prefix_len e xs ys ≡ i + common_prefix_len e (drop i xs) (drop i ys) → i ≡ common_prefix_len e xs ys
all_passed e xs ys i past so_far =
    let none : drop i ys ≡ [] = drop_all i ys past in
    let zero_left : common_prefix_len e (drop i xs) (drop i ys) ≡ 0 = rw none (nothing e (drop i xs)) in
    omega (arith, so_far, zero_left)

-- ---- going on behind the octets that fit

stops : (r : Reach) (k : List ℕ → ℕ) (text : List ℕ) → not r.whole ≡ true → go_on r k text ≡ r.octets
stops r k text h = at r.whole h
  where
    at : (b : Bool) → not b ≡ true → go_on (record r { whole = b }) k text ≡ r.octets
    at true h = absurd cc
    at false h = refl

goes : (r : Reach) (k : List ℕ → ℕ) (text : List ℕ) → not r.whole ≡ false → go_on r k text ≡ r.octets + k (drop r.octets text)
goes r k text h = at r.whole h
  where
    at : (b : Bool) → not b ≡ false → go_on (record r { whole = b }) k text ≡ r.octets + k (drop r.octets text)
    at true h = refl
    at false h = absurd cc

one_part : (nodes : List (List ℕ)) (ps : List Part) (i at : ℕ) (d : Part) (text rest : List ℕ) (r : Reach) → i < length ps → rest ≡ drop at text
    → ((k : List ℕ → ℕ) → space_reach (part_reach nodes (get_or ps i d) k) rest ≡ go_on r k rest) → ((k : List ℕ → ℕ) → parts_reach nodes ps k text ≡ at + parts_reach nodes (drop i ps) k (drop at text))
    → (k : List ℕ → ℕ) → parts_reach nodes ps k text ≡ at + go_on r (parts_reach nodes (drop (i + 1) ps) k) (drop at text)
one_part nodes ps i at d text rest r lt e one so_far k =
    so_far k ∙ ap (λ (n : ℕ). at + n) (ap (λ (qs : List Part). parts_reach nodes qs k (drop at text)) (drop_more ps i d lt) ∙ rw e at (one (parts_reach nodes (drop (i + 1) ps) k)))

pub part_stops : (nodes : List (List ℕ)) (ps : List Part) (i at : ℕ) (d : Part) (text : List ℕ) (r : Reach) → i < length ps
    → ((k : List ℕ → ℕ) → space_reach (part_reach nodes (get_or ps i d) k) (take (length text - at) (drop at text)) ≡ go_on r k (take (length text - at) (drop at text)))
    → ((k : List ℕ → ℕ) → parts_reach nodes ps k text ≡ at + parts_reach nodes (drop i ps) k (drop at text)) → not r.whole ≡ true → (k : List ℕ → ℕ) → parts_reach nodes ps k text ≡ at + r.octets
part_stops nodes ps i at d text r lt one so_far h k =
    one_part nodes ps i at d text _ r lt (take_rest text at) one so_far k ∙ ap (λ (n : ℕ). at + n) (stops r (parts_reach nodes (drop (i + 1) ps) k) (drop at text) h)

onward : (at octets rest total : ℕ) → total ≡ at + (octets + rest) → total ≡ at + octets + rest
onward at octets rest total e = omega arith

pub part_goes : (nodes : List (List ℕ)) (ps : List Part) (i at : ℕ) (d : Part) (text : List ℕ) (r : Reach) → i < length ps
    → ((k : List ℕ → ℕ) → space_reach (part_reach nodes (get_or ps i d) k) (take (length text - at) (drop at text)) ≡ go_on r k (take (length text - at) (drop at text)))
    → ((k : List ℕ → ℕ) → parts_reach nodes ps k text ≡ at + parts_reach nodes (drop i ps) k (drop at text)) → not r.whole ≡ false
    → (k : List ℕ → ℕ) → parts_reach nodes ps k text ≡ at + r.octets + parts_reach nodes (drop (i + 1) ps) k (drop (at + r.octets) text)
part_goes nodes ps i at d text r lt one so_far h k =
    onward at r.octets _ _
    (one_part nodes ps i at d text _ r lt (take_rest text at) one so_far k
    ∙ ap (λ (n : ℕ). at + n)
    (goes r (parts_reach nodes (drop (i + 1) ps) k) (drop at text) h ∙ ap (λ (rest : List ℕ). r.octets + parts_reach nodes (drop (i + 1) ps) k rest) (drop-drop r.octets at text)))

-- ---- keys

no_end : (nodes : List (List ℕ)) (count : ℕ) (text : List ℕ) (b : Bool) → eqb (end_reach text) 1 ≡ b → b ≡ false → keys_from nodes (suc count) text ≡ parts_reach nodes (parts.Name ∷ parts.Octets ∷ []) (keys_from nodes count) text
no_end nodes count text b e h = rw (e, h) refl

one_key : (nodes : List (List ℕ)) (n i at : ℕ) (text rest : List ℕ) (r : Reach) → i < n → rest ≡ drop at text → eqb (end_reach rest) 1 ≡ false
    → ((k : List ℕ → ℕ) → parts_reach nodes (parts.Name ∷ parts.Octets ∷ []) k rest ≡ go_on r k rest) → keys_from nodes n text ≡ at + keys_from nodes (n - i) (drop at text)
    → keys_from nodes n text ≡ at + go_on r (keys_from nodes (n - (i + 1))) (drop at text)
one_key nodes n i at text rest r lt e open_end one so_far =
    let left : n - i ≡ suc (n - (i + 1)) = omega arith in
    let here : eqb (end_reach (drop at text)) 1 ≡ false = rw e at open_end in
    so_far
    ∙ ap (λ (n : ℕ). at + n)
    (ap (λ (m : ℕ). keys_from nodes m (drop at text)) left ∙ no_end nodes (n - (i + 1)) (drop at text) _ here refl ∙ rw e at (one (keys_from nodes (n - (i + 1)))))

pub key_stops : (nodes : List (List ℕ)) (n i at : ℕ) (text : List ℕ) (r : Reach) → i < n → eqb (end_reach (take (length text - at) (drop at text))) 1 ≡ false
    → ((k : List ℕ → ℕ) → parts_reach nodes (parts.Name ∷ parts.Octets ∷ []) k (take (length text - at) (drop at text)) ≡ go_on r k (take (length text - at) (drop at text)))
    → keys_from nodes n text ≡ at + keys_from nodes (n - i) (drop at text) → not r.whole ≡ true → at + r.octets ≡ keys_from nodes n text
key_stops nodes n i at text r lt open_end one so_far h =
    sym (one_key nodes n i at text _ r lt (take_rest text at) open_end one so_far ∙ ap (λ (m : ℕ). at + m) (stops r (keys_from nodes (n - (i + 1))) (drop at text) h))

pub key_goes : (nodes : List (List ℕ)) (n i at : ℕ) (text : List ℕ) (r : Reach) → i < n → eqb (end_reach (take (length text - at) (drop at text))) 1 ≡ false
    → ((k : List ℕ → ℕ) → parts_reach nodes (parts.Name ∷ parts.Octets ∷ []) k (take (length text - at) (drop at text)) ≡ go_on r k (take (length text - at) (drop at text)))
    → keys_from nodes n text ≡ at + keys_from nodes (n - i) (drop at text) → not r.whole ≡ false → keys_from nodes n text ≡ at + r.octets + keys_from nodes (n - (i + 1)) (drop (at + r.octets) text)
key_goes nodes n i at text r lt open_end one so_far h =
    onward at r.octets _ _
    (one_key nodes n i at text _ r lt (take_rest text at) open_end one so_far
    ∙ ap (λ (m : ℕ). at + m)
    (goes r (keys_from nodes (n - (i + 1))) (drop at text) h ∙ ap (λ (rest : List ℕ). r.octets + keys_from nodes (n - (i + 1)) rest) (drop-drop r.octets at text)))

pub not_one : (n : ℕ) → (n ≡ 1 → ⊥) → eqb n 1 ≡ false
not_one n h = at (eqb n 1) refl
  where
    at : (b : Bool) → eqb n 1 ≡ b → eqb n 1 ≡ false
    at true e = absurd (h (search (rules, e)))
    at false e = e
