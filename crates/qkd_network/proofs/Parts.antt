-- Lists of new parts, one at a time, and the bench that they make.
use Rattle.std.proofs.Common.{◌≡◌, ℕ, ◌+◌, ◌<◌, List, [], length, sym, subst, ◌∙◌, arith}
use Rattle.disk_model.specs.MemForm.{MemForm, images_of}
use Rattle.disk_model.specs.Images.{Only}
use Rattle.net_model.specs.Premises.{IsOctetSequence}
use Rattle.source_devices.specs.KeyStream.{StreamForm, stream_octet, told_from, device_told}
use Rattle.qkd_network.specs.Fresh.{IsBlank}

pub below_256 : (letter number place : ℕ) → stream_octet letter number place < 256
unfolding stream_octet
below_256 letter number place = omega arith

pub entropy_octets : (s : StreamForm) → IsOctetSequence (told_from s)
entropy_octets s = λ i. below_256 s.letter s.number (s.place + i)

pub device_octets : (link : ℕ) → IsOctetSequence (device_told link)
device_octets link = λ i. below_256 0x4c link i

only_first : (first : List ℕ) (d : MemForm) → d.first ≡ first → d.used ≡ [] → Only first (images_of d (length d.used))
only_first first d is none =
    subst (λ us. Only first (λ c. images_of (record d { used = us }) (length us) c)) (sym none) (λ c same. same ∙ is)

pub is_empty : (d : MemForm) → IsBlank d → Only [] (images_of d (length d.used))
is_empty d b = only_first [] d b.first b.used
