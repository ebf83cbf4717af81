-- What a refusal says.
use Rattle.std.specs.Prelude.{ℕ, List, ◌++◌, codes}
use Rattle.std.specs.Fmt.{decimal}
use Rattle.pad_veil.specs.declared.veil_refusal.VeilRefusal.{VeilRefusal}
use Rattle.pad_veil.specs.declared.veil_refusal.VeilRefusal.TheVariants.{Unequal, Outside, Overlap, Memory}

abbrev pub said_of : VeilRefusal → List ℕ
said_of (Unequal place) = codes "frame " ++ decimal place ++ codes " has payloads of two lengths"
said_of (Outside place) = codes "frame " ++ decimal place ++ codes " lies outside of the lane"
said_of (Overlap place) = codes "frame " ++ decimal place ++ codes " meets an earlier one"
said_of Memory = codes "out of memory"
