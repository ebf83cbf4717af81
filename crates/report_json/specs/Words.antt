-- Members of objects, and the words and numbers of refusals.
use Rattle.std.specs.Prelude.{ℕ, List, [], ◌∷◌}
use lib.Chars.{codes}
use Rattle.serde_json.specs.Data.{Data, array, number, string, unsigned}
use Rattle.serde_json.specs.View.{items_of}
use Rattle.run_types.specs.Words.{tag_text}
use Rattle.run_types.specs.declared.refusal.Refusal.{Refusal}
use Rattle.run_types.specs.declared.refusal.Refusal.TheVariants as refusals

-- a member of an object: its name, and its value
abbrev pub Field : Type 0
Field = List ℕ × Data

abbrev pub says : (name text : List ℕ) → Field
says name text = (name, string text)

abbrev pub count_of : ℕ → Data
count_of count = number (unsigned count)

abbrev pub counts : (name : List ℕ) → (count : ℕ) → Field
counts name count = (name, count_of count)

unfoldable pub refusal_word : Refusal → List ℕ
refusal_word refusals.Down = codes "down"
refusal_word refusals.Stopped = codes "stopped"
refusal_word refusals.Memory = codes "memory"
refusal_word refusals.LinkFull = codes "link-full"
refusal_word refusals.NoBlock = codes "no-bits"
refusal_word refusals.DeviceFault = codes "device-fault"
refusal_word refusals.NotAllowed = codes "not-allowed"
refusal_word refusals.NoRoute = codes "no-route"
refusal_word refusals.PoolFull = codes "pool-full"
refusal_word refusals.UnknownStream = codes "unknown-stream"
refusal_word (refusals.JournalFull length need) = codes "journal-full"
refusal_word refusals.NoRandom = codes "no-random"
refusal_word (refusals.NoFrame count) = codes "no-frame"
refusal_word (refusals.NoBit bits) = codes "no-bit"
refusal_word (refusals.BadFrame place) = codes "bad-frame"
refusal_word (refusals.WrongLane link way) = codes "wrong-lane"
refusal_word (refusals.NoBits have) = codes "no-bits"
refusal_word (refusals.BadTag given computed) = codes "bad-tag"
refusal_word (refusals.Few count) = codes "few"
refusal_word (refusals.Unknown place) = codes "unknown"
refusal_word (refusals.Repeated place) = codes "repeated"
refusal_word (refusals.Handed place) = codes "handed"

-- what a refusal tells beside its word, in the report's order
unfoldable pub refusal_numbers : Refusal → List Data
refusal_numbers refusals.LinkFull = count_of 1024 ∷ []
refusal_numbers refusals.PoolFull = count_of 4096 ∷ []
refusal_numbers (refusals.JournalFull length need) = count_of length ∷ count_of need ∷ []
refusal_numbers (refusals.NoFrame count) = count_of count ∷ []
refusal_numbers (refusals.NoBit bits) = count_of bits ∷ []
refusal_numbers (refusals.BadFrame place) = count_of place ∷ []
refusal_numbers (refusals.WrongLane link way) = count_of link ∷ count_of way ∷ []
refusal_numbers (refusals.NoBits have) = count_of have ∷ []
refusal_numbers (refusals.BadTag given computed) = string (tag_text given) ∷ string (tag_text computed) ∷ []
refusal_numbers (refusals.Few count) = count_of count ∷ []
refusal_numbers (refusals.Unknown place) = count_of place ∷ []
refusal_numbers (refusals.Repeated place) = count_of place ∷ []
refusal_numbers (refusals.Handed place) = count_of place ∷ []
refusal_numbers _ = []

abbrev pub refusal_fields : Refusal → List Field
refusal_fields refusal = says (codes "refusal") (refusal_word refusal) ∷ (codes "numbers", array (items_of (refusal_numbers refusal))) ∷ []
