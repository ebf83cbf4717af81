-- Lists of new parts, one more at a time, and what they make of a bench.
use Rattle.std.proofs.Common.{◌≡◌, ℕ, zero, suc, ◌<◌, List, [], ◌∷◌, ◌++◌, length, get_or, sym, subst, ◌∙◌, arith}
use Rattle.std.specs.List.{All}
use Rattle.std.proofs.lemmas.List.Elements.{All-push}
use Rattle.disk_model.specs.MemForm.{MemForm, images_of}
use Rattle.disk_model.specs.Images.{Only}
use Rattle.network_tests.specs.Fresh.{AreOctets, IsBlank}

pub of_places : (octets : List ℕ) → ((i : ℕ) → i < length octets → get_or octets i 0 < 256) → AreOctets octets
of_places [] below i = omega arith
of_places (x ∷ xs) below zero = below 0 (omega arith)
of_places (x ∷ xs) below (suc i) = of_places xs (λ j lt. below (suc j) (omega arith)) i

pub one_more : {X : Type 0} (P : X → Type 0) (old new : List X) (x : X) → All P old → P x → new ≡ old ++ x ∷ [] → All P new
one_more P old new x all this is = subst (All P) (sym is) (All-push P old x all this)

only_first : (first : List ℕ) (d : MemForm) → d.first ≡ first → d.used ≡ [] → Only first (images_of d (length d.used))
only_first first d is none =
    subst (λ us. Only first (λ c. images_of (record d { used = us }) (length us) c)) (sym none) (λ c same. same ∙ is)

is_empty : (d : MemForm) → IsBlank d → Only [] (images_of d (length d.used))
is_empty d b = only_first [] d b.first b.used

pub unarmed : (disks : List MemForm) → All IsBlank disks → All (λ (d : MemForm). d.armings.count ≡ 0) disks
unarmed disks blank = λ k d lt. (blank k d lt).armed
