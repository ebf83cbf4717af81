-- Writing in pieces: the bytes that were taken are a prefix of those that were to be written.
use Rattle.std.proofs.Common.{◌≡◌, ℕ, ◌+◌, ◌≤◌, List, ◌++◌, length, take, drop, refl, sym, ap, subst, ◌∙◌, arith, length-append}
use Rattle.std.specs.Prelude.{Option}
use Rattle.std.specs.Io.KnownBytes.{Appends, Keeps}
use Rattle.std.proofs.KnownBytes.{Appends-nil, Appends-trans, Appends-kept}
use Rattle.std.proofs.lemmas.List.{take-append-drop, length-take-le, take_at, append_assoc, take_all}
use Rattle.edge_io.specs.Writes.{AppendsPrefix}

-- `rest` is still to be written, and the bytes before it were taken
pub record Wrote (old now : Option (List ℕ)) (bytes rest : List ℕ) : Type 0 where
  pub count : ℕ
  pub front : bytes ≡ take count bytes ++ rest
  pub taken : Appends old now (take count bytes)
  pub short : count ≤ length bytes

pub wrote_none : (old : Option (List ℕ)) (bytes : List ℕ) → Wrote old old bytes bytes
wrote_none old bytes = record { count = 0; front = refl; taken = Appends-nil old; short = omega arith }

front_more : (bytes rest : List ℕ) (n k : ℕ) → bytes ≡ take n bytes ++ rest → n ≤ length bytes → k ≤ length rest → take (n + k) bytes ≡ take n bytes ++ take k rest
front_more bytes rest n k front short le =
    let all : bytes ≡ (take n bytes ++ take k rest) ++ drop k rest = front ∙ ap (λ (x : List ℕ). take n bytes ++ x) (sym (take-append-drop k rest)) ∙ sym (append_assoc (take n bytes) (take k rest) (drop k rest)) in
    let size : length (take n bytes ++ take k rest) ≡ n + k = simp (length-append, length-take-le n bytes short, length-take-le k rest le) in
    ap (take (n + k)) all ∙ take_at (take n bytes ++ take k rest) (drop k rest) (n + k) size

pub wrote_more : (old now next : Option (List ℕ)) (bytes rest : List ℕ) (k : ℕ) → k ≤ length rest → Appends now next (take k rest) → Wrote old now bytes rest → Wrote old next bytes (drop k rest)
wrote_more old now next bytes rest k le more w =
    let e = front_more bytes rest w.count k w.front w.short le in
    record {
      count = w.count + k;
      front = w.front ∙ ap (λ (x : List ℕ). take w.count bytes ++ x) (sym (take-append-drop k rest)) ∙ sym (append_assoc (take w.count bytes) (take k rest) (drop k rest)) ∙ ap (λ (x : List ℕ). x ++ drop k rest) (sym e);
      taken = subst (Appends old next) (sym e) (Appends-trans old now next _ _ w.taken more);
      short = omega (arith, ap length w.front, length-append (take w.count bytes) rest, length-take-le w.count bytes w.short);
    }

pub wrote_prefix : (old now : Option (List ℕ)) (bytes rest : List ℕ) → Wrote old now bytes rest → AppendsPrefix old now bytes
wrote_prefix old now bytes rest w = (w.count, w.taken)

-- a step that keeps the known bytes keeps what was written
pub prefix_kept : (old now next : Option (List ℕ)) (bytes rest : List ℕ) → Wrote old now bytes rest → Keeps now next → Wrote old next bytes rest
prefix_kept old now next bytes rest w k = record { count = w.count; front = w.front; taken = Appends-kept old now next _ w.taken k; short = w.short }

pub wrote_all : (old now : Option (List ℕ)) (bytes rest : List ℕ) → length rest ≡ 0 → Wrote old now bytes rest → Appends old now bytes
wrote_all old now bytes rest none w =
    subst (Appends old now) (take_all w.count bytes (omega (arith, none, ap length w.front, length-append (take w.count bytes) rest, length-take-le w.count bytes w.short))) w.taken
