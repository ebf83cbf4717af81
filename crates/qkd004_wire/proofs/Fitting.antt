-- The loop that counts how many leading words fit their fields counts as its definition does.
use Rattle.std.proofs.Common.{◌≡◌, ℕ, suc, ◌+◌, ◌<◌, ◌≤◌, true, false, List, [], ◌∷◌, length, get_or, drop, Some, None, refl, ap, add-one, arith}
use Rattle.std.proofs.Math.Seq.{drop-cons}
use Rattle.std.proofs.lemmas.List.{drop_all}
use Rattle.declared_site.specs.declared.site.Site.{Site}
use Rattle.scenario_text.specs.Words.{Word, first_of}
use Rattle.qkd004_wire.specs.declared.field.Field.{Field}
use Rattle.qkd004_wire.specs.Call.{fits, fitting}

-- From place i on, a list of fields is the field at i and those behind it.
from : (fields : List Field) (i : ℕ) (d : Field) → i < length fields → drop i fields ≡ get_or fields i d ∷ drop (i + 1) fields
from fields i d within = rw add-one (drop-cons fields i d within)

no_word : (ws : List Word) → None ≡ first_of ws → ws ≡ []
no_word [] e = refl
no_word (w ∷ ws) e = cc

one_word : (ws : List Word) (w : Word) (others : List Word) → Some (w, others) ≡ first_of ws → ws ≡ w ∷ others
one_word [] w others e = cc
one_word (v ∷ ws) w others e =
    let p : ◌≡◌ {A = Word × List Word} (w, others) (v, ws) = cc in
    let a : w ≡ v = ap (λ (x : Word × List Word). x.0) p in
    let b : others ≡ ws = ap (λ (x : Word × List Word). x.1) p in
    cc

-- If no word is left for the field at i, the count is i.
pub none_left : (site : Site) (fields : List Field) (i : ℕ) (d : Field) (ws : List Word) (total : ℕ) → i < length fields → None ≡ first_of ws → total ≡ i + fitting site (drop i fields) ws → i ≡ total
none_left site fields i d ws total within e so_far =
    let empty : ws ≡ [] = no_word ws e in
    let h : total ≡ i + 0 = rw (from fields i d within, empty) at so_far in
    omega arith

-- If the next word doesn't fit the field at i, the count is i.
pub stops : (site : Site) (fields : List Field) (i : ℕ) (d : Field) (w : Word) (ws others : List Word) (total : ℕ) → i < length fields → Some (w, others) ≡ first_of ws → fits site (get_or fields i d) w ≡ false
    → total ≡ i + fitting site (drop i fields) ws → i ≡ total
stops site fields i d w ws others total within e other so_far =
    let is : ws ≡ w ∷ others = one_word ws w others e in
    let h : total ≡ i + 0 = rw (from fields i d within, is, other) at so_far in
    omega arith

-- If the next word fits the field at i, the count goes on with the next field and the next word.
pub goes_on : (site : Site) (fields : List Field) (i : ℕ) (d : Field) (w : Word) (ws others : List Word) (total : ℕ) → i < length fields → Some (w, others) ≡ first_of ws → fits site (get_or fields i d) w ≡ true
    → total ≡ i + fitting site (drop i fields) ws → total ≡ i + 1 + fitting site (drop (i + 1) fields) others
goes_on site fields i d w ws others total within e same so_far =
    let is : ws ≡ w ∷ others = one_word ws w others e in
    let h : total ≡ i + suc (fitting site (drop (i + 1) fields) others) = rw (from fields i d within, is, same) at so_far in
    omega arith

-- If all fields have their words, the count is the number of fields.
pub all_fit : (site : Site) (fields : List Field) (i : ℕ) (ws : List Word) (total : ℕ) → length fields ≤ i → i ≤ length fields → total ≡ i + fitting site (drop i fields) ws → length fields ≡ total
all_fit site fields i ws total past within so_far = let h : total ≡ i + 0 = rw (drop_all i fields past) at so_far in omega arith
