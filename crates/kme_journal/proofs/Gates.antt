-- The offsets of the gates of a journal's batches.
use Rattle.std.proofs.Common.{◌≡◌, ℕ, ◌+◌, ◌<◌, ◌≤◌, List, [], ◌∷◌, ◌++◌, length, take, drop, get_or, sym, ap, ◌∙◌, arith}
use Rattle.std.proofs.lemmas.List.{length-append, take_more, take-append-drop}
use Rattle.range_journal.specs.Batches.{spelled}

-- a batch on the disk is a gate, four octets of length, and the body
spelled_long : (body : List ℕ) (bodies : List (List ℕ)) → length (spelled (body ∷ bodies)) ≡ 5 + length body + length (spelled bodies)
spelled_long body bodies = omega (arith, length-append body (spelled bodies))

spelled_both : (some more : List (List ℕ)) → length (spelled (some ++ more)) ≡ length (spelled some) + length (spelled more)
spelled_both [] more = omega arith
spelled_both (body ∷ some) more = omega (arith, spelled_long body (some ++ more), spelled_long body some, spelled_both some more)

pub one_more : (bodies : List (List ℕ)) (i : ℕ) (body : List ℕ) → i < length bodies → body ≡ get_or bodies i body → length (spelled (take (i + 1) bodies)) ≡ length (spelled (take i bodies)) + (5 + length body)
one_more bodies i body within is =
    ap (λ (bs : List (List ℕ)). length (spelled bs)) (take_more bodies i body within) ∙ spelled_both (take i bodies) (get_or bodies i body ∷ []) ∙
    ap (λ (n : ℕ). length (spelled (take i bodies)) + n) (spelled_long (get_or bodies i body) [] ∙ ap (λ (b : List ℕ). 5 + length b + 0) (sym is) ∙ omega arith)

pub fewer : (bodies : List (List ℕ)) (i : ℕ) → length (spelled (take i bodies)) ≤ length (spelled bodies)
fewer bodies i = omega (arith, spelled_both (take i bodies) (drop i bodies), ap (λ (bs : List (List ℕ)). length (spelled bs)) (take-append-drop i bodies))
