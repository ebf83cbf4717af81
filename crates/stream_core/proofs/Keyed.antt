-- The map of tallies, by stream.
use Rattle.std.proofs.Common.{◌≡◌, ℕ, Bool, true, false, List, refl, sym, ◌∙◌, ap, Some, None}
use Rattle.std.specs.Prelude.{slice_index}
use Rattle.std.specs.Ordering.{nat_cmp, is_eq}
use Rattle.std.specs.Cmp.Lexicographic.{slice_cmp}
use Rattle.std.specs.BTreeMap.{BTreeMap, Updates, get}
use Rattle.std.proofs.lemmas.Slice.Eq.{bytes_eq-Decides}
use Rattle.std.proofs.lemmas.Map.Text.{is_eq-slice_cmp}
use Rattle.qkd_base.specs.Name.{Name, name_eq}
use Rattle.relay_core.proofs.Names.{same_name, names_same}
use Rattle.stream_core.specs.declared.tallies.Tally.{Tally}
use Rattle.stream_core.specs.Tallied.{stream_key, tally_at, IsPut}

pub false_from : (a b : Bool) → (a ≡ true → b ≡ true) → b ≡ false → a ≡ false
false_from true b h miss = let t : true ≡ false = sym (h refl) ∙ miss in t
false_from false b h miss = refl

-- streams with equal keys are equal
key_names : (s r : Name) → stream_key s ≡ stream_key r → s ≡ r
key_names s r e = same_name s r (ap (λ (l : List ℕ). slice_index l 0) e) (ap (λ (l : List ℕ). slice_index l 1) e) (ap (λ (l : List ℕ). slice_index l 2) e)

apart : (s r : Name) → name_eq s r ≡ false → is_eq (slice_cmp nat_cmp (stream_key s) (stream_key r)) ≡ false
apart s r miss =
    false_from (is_eq (slice_cmp nat_cmp (stream_key s) (stream_key r))) (name_eq s r)
    (λ h. names_same s r (key_names s r ((bytes_eq-Decides (stream_key s) (stream_key r)).0 (sym (is_eq-slice_cmp (stream_key s) (stream_key r)) ∙ h))))
    miss

some_same : (t u : Tally) → Some t ≡ Some u → u ≡ t
some_same t u h = cc

pub was_put : (m n : BTreeMap (List ℕ) Tally) (s : Name) (t : Tally) → Updates (slice_cmp nat_cmp) m n (stream_key s) (Some t) → IsPut m.entries n.entries s t
was_put m n s t updates = record {
  own = λ u h. some_same t u (sym updates.1 ∙ h);
  others = λ r miss. updates.2 (stream_key r) (apart s r miss);
}

none_there : (t u : Tally) → ◌≡◌ {A = _} None (Some u) → u ≡ t
none_there t u h = cc

pub was_not_put : (m n : BTreeMap (List ℕ) Tally) (s : Name) (t : Tally) → get (slice_cmp nat_cmp) m (stream_key s) ≡ None → n.entries ≡ m.entries → IsPut m.entries n.entries s t
was_not_put m n s t absent same = record {
  own = λ u h. none_there t u (sym absent ∙ sym (ap (λ (es : List (List ℕ × Tally)). tally_at es s) same) ∙ h);
  others = λ r miss. ap (λ (es : List (List ℕ × Tally)). tally_at es r) same;
}
