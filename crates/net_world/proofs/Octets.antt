-- Octets, one at a time.
use Rattle.std.proofs.Common.{◌≡◌, ℕ, zero, suc, ◌+◌, ◌-◌, ◌<◌, ◌≤◌, Bool, true, false, List, [], ◌∷◌, ◌++◌, length, take, drop, get_or, set, refl, sym, ap, ◌∙◌, arith}
use Rattle.std.specs.Prelude.{◌==◌, if◌then◌else◌}
use Rattle.net_world.specs.Veiled.{complement, differences}

-- one more octet is inverted
pub turn_more : (room octets : List ℕ) (i : ℕ) → i < length octets → room ≡ complement (take i octets) ++ drop i octets →
    set room i (255 - get_or room i 0) ≡ complement (take (i + 1) octets) ++ drop (i + 1) octets
turn_more room octets i lt is =
    let next : i + 1 ≡ suc i = omega arith in
    ap (λ (l : List ℕ). set l i (255 - get_or l i 0)) is ∙ go octets i lt ∙ ap (λ (n : ℕ). complement (take n octets) ++ drop n octets) (sym next)
  where
    go : (octets : List ℕ) (i : ℕ) → i < length octets → set (complement (take i octets) ++ drop i octets) i (255 - get_or (complement (take i octets) ++ drop i octets) i 0) ≡
        complement (take (suc i) octets) ++ drop (suc i) octets
    go [] i lt = absurd (omega (arith, lt))
    go (o ∷ os) zero lt = refl
    go (o ∷ os) (suc i) lt = ap (λ (l : List ℕ). (255 - o) ∷ l) (go os i (omega (arith, lt)))

pub turned_whole : (octets : List ℕ) (n : ℕ) → n ≡ length octets → complement (take n octets) ++ drop n octets ≡ complement octets
turned_whole octets n is = ap (λ (k : ℕ). complement (take k octets) ++ drop k octets) is ∙ go octets
  where
    go : (octets : List ℕ) → complement (take (length octets) octets) ++ drop (length octets) octets ≡ complement octets
    go [] = refl
    go (o ∷ os) = ap (λ (l : List ℕ). (255 - o) ∷ l) (go os)

-- one more place is compared
pub differences_more : (a b : List ℕ) (i : ℕ) → i < length a → length a ≡ length b →
    differences (drop i a) (drop i b) ≡ (if get_or a i 0 == get_or b i 0 then 0 else 1) + differences (drop (i + 1) a) (drop (i + 1) b)
differences_more a b i lt e =
    let next : i + 1 ≡ suc i = omega arith in
    go a b i lt e ∙ ap (λ (n : ℕ). (if get_or a i 0 == get_or b i 0 then 0 else 1) + differences (drop n a) (drop n b)) (sym next)
  where
    go : (a b : List ℕ) (i : ℕ) → i < length a → length a ≡ length b →
        differences (drop i a) (drop i b) ≡ (if get_or a i 0 == get_or b i 0 then 0 else 1) + differences (drop (suc i) a) (drop (suc i) b)
    go [] b i lt e = absurd (omega (arith, lt))
    go (x ∷ xs) [] i lt e = absurd (omega (arith, e))
    go (x ∷ xs) (y ∷ ys) zero lt e = refl
    go (x ∷ xs) (y ∷ ys) (suc i) lt e = go xs ys i (omega (arith, lt)) (omega (arith, e))

pub none_past : (a b : List ℕ) (n : ℕ) → length a ≤ n → differences (drop n a) (drop n b) ≡ 0
none_past [] b zero le = refl
none_past [] b (suc n) le = refl
none_past (x ∷ xs) b zero le = absurd (omega (arith, le))
none_past (x ∷ xs) [] (suc n) le = drop_none xs n
  where
    drop_none : (xs : List ℕ) (n : ℕ) → differences (drop n xs) [] ≡ 0
    drop_none [] zero = refl
    drop_none [] (suc n) = refl
    drop_none (x ∷ xs) zero = refl
    drop_none (x ∷ xs) (suc n) = drop_none xs n
none_past (x ∷ xs) (y ∷ ys) (suc n) le = none_past xs ys n (omega (arith, le))

-- ---- marks

pub marked : List Bool → ℕ
marked [] = 0
marked (b ∷ bs) = (if b then 1 else 0) + marked bs

pub marked_few : (bs : List Bool) → marked bs ≤ length bs
unfolding marked
marked_few [] = omega arith
marked_few (true ∷ bs) = let rest = marked_few bs in omega (arith, rest)
marked_few (false ∷ bs) = let rest = marked_few bs in omega (arith, rest)

pub mark_more : (bs : List Bool) (i : ℕ) → marked bs ≤ marked (set bs i true)
unfolding marked
mark_more [] i = omega arith
mark_more (true ∷ bs) zero = omega arith
mark_more (false ∷ bs) zero = omega arith
mark_more (true ∷ bs) (suc i) = let rest = mark_more bs i in omega (arith, rest)
mark_more (false ∷ bs) (suc i) = let rest = mark_more bs i in omega (arith, rest)

pub mark_new : (bs : List Bool) (i : ℕ) → i < length bs → get_or bs i false ≡ false → marked bs + 1 ≤ marked (set bs i true)
unfolding marked
mark_new [] i lt h = absurd (omega (arith, lt))
mark_new (true ∷ bs) zero lt h = absurd (cc)
mark_new (false ∷ bs) zero lt h = omega arith
mark_new (true ∷ bs) (suc i) lt h = let rest = mark_new bs i (omega (arith, lt)) h in omega (arith, rest)
mark_new (false ∷ bs) (suc i) lt h = let rest = mark_new bs i (omega (arith, lt)) h in omega (arith, rest)
