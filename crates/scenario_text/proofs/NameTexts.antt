-- A name is text, and a word that isn't a UUID is the name of nothing.
use Rattle.std.proofs.Common.{◌≡◌, ℕ, zero, suc, ◌<◌, ◌&&◌, List, [], ◌∷◌, get_or, Bool, true, false, Option, Some, None, refl, sym, arith, lit<}
use Rattle.std.specs.List.{list_all}
use Rattle.std.specs.Str.{IsUtf8}
use Rattle.std.proofs.lemmas.Str.{IsUtf8-from_ascii}
use Rattle.uuid.specs.Text.{parsed}
use Rattle.scenario_text.specs.Words.{is_name, is_name_octet}
use Rattle.scenario_text.specs.Fields.{name_of}

and_left : (a b : Bool) → (a && b) ≡ true → a ≡ true
and_left true b h = refl
and_left false b h = h

and_right : (a b : Bool) → (a && b) ≡ true → b ≡ true
and_right true b h = h
and_right false b h = cc

octet_below : (x : ℕ) → is_name_octet x ≡ true → x < 128
octet_below x h = grind arith

ascii : (w : List ℕ) → list_all is_name_octet w ≡ true → (i : ℕ) → get_or w i 0 < 128
ascii [] h i = lit< tt
ascii (x ∷ xs) h zero = octet_below x (and_left (is_name_octet x) (list_all is_name_octet xs) h)
ascii (x ∷ xs) h (suc i) = ascii xs (and_right (is_name_octet x) (list_all is_name_octet xs) h) i

pub name_is_text : (most : ℕ) (w : List ℕ) → is_name most w ≡ true → IsUtf8 w
unfolding is_name
name_is_text most w h = IsUtf8-from_ascii w (ascii w (and_right _ (list_all is_name_octet w) h))

none_by : (word : List ℕ) (p : Option (List ℕ)) → p ≡ parsed word → ((u : List ℕ) × (parsed word ≡ Some u) → false ≡ true) → parsed word ≡ None
none_by word None e nothing = sym e
none_by word (Some u) e nothing = let f : false ≡ true = nothing (u, sym e) in cc

pub names_nothing : (word : List ℕ) → ((u : List ℕ) × (parsed word ≡ Some u) → false ≡ true) → name_of word ≡ None
unfolding name_of
names_nothing word nothing = let e : parsed word ≡ None = none_by word (parsed word) refl nothing in rw e refl
