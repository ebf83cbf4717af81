-- The octets of a generator: a key stream of ChaCha20 (RFC 8439, with a block counter of 64 bits).
use Rattle.std.specs.Prelude.{ℕ, ◌+◌, ◌*◌, ◌/◌, ◌%◌, ◌^◌, List, ◌∷◌, replicate, Some, None}
use Rattle.rand_chacha.specs.ChaCha.{word_at, key_of}
use Rattle.net_model.specs.OctetSequence.{OctetSequence, octets_from}

-- the generator's key of 32 octets: a letter, a number and thirty zeros
abbrev pub seed : ℕ → ℕ → List ℕ
seed letter number = letter ∷ number ∷ replicate 30 0

-- the words of stream 0 under this key, from word 0 on
abbrev pub stream_word : ℕ → ℕ → ℕ → ℕ
stream_word letter number place = word_at 10 (key_of (seed letter number)) 0 place

-- An octet of a word. Octet 0 is the lowest.
abbrev pub octet_of : ℕ → ℕ → ℕ
octet_of word place = word / 2 ^ (8 * place) % 2 ^ 8

-- The octet at a place below 2^70. Each word gives four octets.
abbrev pub octet_at : ℕ → ℕ → ℕ → ℕ
octet_at letter number place = octet_of (stream_word letter number (place / 4)) (place % 4)

-- The stream's octet at any place. The stream has 2^68 words and then repeats.
unfoldable pub stream_octet : ℕ → ℕ → ℕ → ℕ
stream_octet letter number place = octet_at letter number (place % 2 ^ 70)

-- a generator's key, and the place of its next octet
pub record StreamForm : Type 0 where
  pub letter : ℕ
  pub number : ℕ
  pub place : ℕ

-- the generator's next n octets
abbrev pub next_octets : StreamForm → ℕ → List ℕ
next_octets s n = octets_from (stream_octet s.letter s.number) s.place n

abbrev pub moved : StreamForm → ℕ → StreamForm
moved s n = record s { place = (s.place + n) % 2 ^ 70 }

-- the octets of a generator from its place on, without end
abbrev pub told_from : StreamForm → OctetSequence
told_from s = record { octet = λ i. stream_octet s.letter s.number (s.place + i); end = None }

-- the octets of a link's generated device: 1,048,576 of them. Its letter is L (0x4c).
abbrev pub device_told : ℕ → OctetSequence
device_told link = record { octet = stream_octet 0x4c link; end = Some 1048576 }

-- the octets of a node's generated entropy, without end. Its letter is E (0x45).
abbrev pub entropy_told : ℕ → OctetSequence
entropy_told node = record { octet = stream_octet 0x45 node; end = None }
