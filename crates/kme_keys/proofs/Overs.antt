-- The same new keys, made of other octets.
use Rattle.std.proofs.Common.{◌≡◌, ℕ, zero, suc, ◌+◌, ◌*◌, ◌≤◌, Bool, true, false, not, List, [], ◌∷◌, ◌++◌, length, refl, ◌∙◌, ap, arith, take, drop, Option, Some, None, length-drop}
use Rattle.std.specs.Prelude.{◌/◌, nat_lt, if◌then◌else◌}
use Rattle.std.proofs.Math.Nat.{mul-suc}
use Rattle.std.proofs.lemmas.List.{length-take}
use Rattle.qkd_base.specs.declared.key_name.NameKind.TheVariants.{Key as KeyKind}
use Rattle.net_model.specs.declared.fact.Fact.TheVariants.{Key}
use Rattle.net_model.specs.declared.record.Record.{Record}
use Rattle.net_model.specs.declared.record.Record.TheVariants.{Learned}
use Rattle.net_model.specs.declared.reply.Reply.TheVariants.{NotAllowed, PoolFull, MadeKeys}
use Rattle.net_model.specs.Site.{Site}
use Rattle.net_model.specs.Routes.{route}
use Rattle.net_model.specs.View.{View}
use Rattle.net_model.specs.Decision.{Refuses, makes, fresh_name}
use Rattle.net_model.specs.Pools.{is_entitled, unhanded, new_keys, filled, fill}
use Rattle.kme_base.specs.Random.{over, with_random, decision_over}

drop_past : (n : ℕ) (xs : List ℕ) → length xs ≤ n → drop n xs ≡ []
drop_past n [] le = drop_none n
  where
    drop_none : (n : ℕ) → drop {A = ℕ} n [] ≡ []
    drop_none zero = refl
    drop_none (suc n) = refl
drop_past zero (x ∷ xs) le = absurd (omega arith)
drop_past (suc n) (x ∷ xs) le = drop_past n xs (omega arith)

append_nil : (xs : List ℕ) → xs ++ [] ≡ xs
append_nil [] = refl
append_nil (x ∷ xs) = ap (λ (ys : List ℕ). x ∷ ys) (append_nil xs)

taken : (size : ℕ) (xs : List ℕ) → size ≤ length xs → length (take size xs) ≡ size
taken size xs le = let e = length-take size xs in omega arith

-- replacing octets by as many others
pub over_as_many : (size : ℕ) (zeros random : List ℕ) → size ≤ length zeros → size ≤ length random → over random (take size zeros) ≡ take size random
over_as_many size zeros random z r =
    let t = taken size zeros z in
    ap (λ (k : ℕ). take k random ++ drop (length random) (take size zeros)) t
    ∙ ap (λ (rest : List ℕ). take size random ++ rest) (drop_past (length random) (take size zeros) (omega arith))
    ∙ append_nil (take size random)

-- a multiple of a size, split into its first part and the rest
pub in_front : (size k len : ℕ) → size * suc k ≤ len → size ≤ len
in_front size k len le = let e = mul-suc size k in omega arith

pub behind : (size k : ℕ) (xs : List ℕ) → size * suc k ≤ length xs → size * k ≤ length (drop size xs)
behind size k xs le = let e = mul-suc size k in let l = length-drop size xs in omega arith

pub keys_over : (v : View) (m s : ℕ) (way : List ℕ) (size : ℕ) (zeros random : List ℕ) (more count : ℕ) → size * count ≤ length zeros → size * count ≤ length random →
    with_random random (new_keys v m s way size zeros more count) ≡ new_keys v m s way size random more count
keys_over v m s way size zeros random more zero z r = refl
keys_over v m s way size zeros random more (suc k) z r =
    let bytes = over_as_many size zeros random (in_front size k (length zeros) z) (in_front size k (length random) r) in
    let spent = taken size zeros (in_front size k (length zeros) z) in
    let rest = ap (λ (n : ℕ). with_random (drop n random) (new_keys v m s way size (drop size zeros) (more + 1) k)) spent
    ∙ keys_over v m s way size (drop size zeros) (drop size random) (more + 1) k (behind size k zeros z) (behind size k random r) in
    (λ i. Learned (Key (fresh_name v KeyKind more) m s way (bytes i)) ∷ rest i)

filled_over : (v : View) (m s bits count : ℕ) (zeros random : List ℕ) (way : Option (List ℕ)) → bits / 8 * count ≤ length zeros → bits / 8 * count ≤ length random →
    decision_over random (filled v m s bits count zeros way) ≡ filled v m s bits count random way
filled_over v m s bits count zeros random None z r = refl
filled_over v m s bits count zeros random (Some way) z r = by (nat_lt 4096 (unhanded v m s bits + count))
  where
    by : (full : Bool) → decision_over random (if full then Refuses PoolFull else makes v (new_keys v m s way (bits / 8) zeros 0 count) (MadeKeys count (fresh_name v KeyKind 0)))
        ≡ (if full then Refuses PoolFull else makes v (new_keys v m s way (bits / 8) random 0 count) (MadeKeys count (fresh_name v KeyKind 0)))
    by true = refl
    by false = ap (λ (batch : List Record). makes v batch (MadeKeys count (fresh_name v KeyKind 0))) (keys_over v m s way (bits / 8) zeros random 0 count z r)

pub fill_over : (site : Site) (up : ℕ → Bool) (v : View) (m s bits count : ℕ) (zeros random : List ℕ) → bits / 8 * count ≤ length zeros → bits / 8 * count ≤ length random →
    decision_over random (fill site up v m s bits count zeros) ≡ fill site up v m s bits count random
unfolding fill
fill_over site up v m s bits count zeros random z r = by (is_entitled site v m m s)
  where
    by : (entitled : Bool) → decision_over random (if not entitled then Refuses NotAllowed else filled v m s bits count zeros (route site up v.me (site.home s)))
        ≡ (if not entitled then Refuses NotAllowed else filled v m s bits count random (route site up v.me (site.home s)))
    by false = refl
    by true = filled_over v m s bits count zeros random (route site up v.me (site.home s)) z r
