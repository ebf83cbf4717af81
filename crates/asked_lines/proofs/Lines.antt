-- The asked ones of the first lines, from line to line.
use Rattle.std.proofs.Common.{◌≡◌, ℕ, ◌+◌, ◌<◌, List, [], ◌∷◌, ◌++◌, length, get_or, take, drop, refl, sym, ap, subst, ◌∙◌, inl, inr, arith}
use Rattle.std.specs.Prelude.{Bool, true, false, Option}
use Rattle.std.specs.Bool.{MatchBool}
use Rattle.std.proofs.lemmas.List.{take_more, append-nil, take-append-drop}
use Rattle.std.proofs.lemmas.List.Concat.{flat_map-append}
use Rattle.std.specs.Io.KnownBytes.{Appends}
use Rattle.edge_io.specs.Writes.{AppendsPrefix, Adds}
use Rattle.run_model.specs.Headline.{Given, given_to}
use Rattle.run_lines.proofs.Taking.{took_on, took_of, first_of, first_all, first_after}
use Rattle.asked_lines.specs.Telling.{IsWanted, IsLeftOut, AreAsked, text_of, TookAsked, TookSome}

asked_more : (nodes lines asked : List (List ℕ)) (line : List ℕ) → AreAsked nodes lines asked → IsWanted nodes line → AreAsked nodes (lines ++ line ∷ []) (asked ++ line ∷ [])
asked_more nodes [] asked line h w = inr ([], ap (λ (ls : List (List ℕ)). ls ++ line ∷ []) h, w, refl)
asked_more nodes (l ∷ lines) asked line (inl h) w = inl (h.0, asked_more nodes lines asked line h.1 w)
asked_more nodes (l ∷ lines) asked line (inr h) w = inr (h.0 ++ line ∷ [], ap (λ (ls : List (List ℕ)). ls ++ line ∷ []) h.1, h.2, asked_more nodes lines h.0 line h.3 w)

asked_same : (nodes lines asked : List (List ℕ)) (line : List ℕ) → AreAsked nodes lines asked → IsLeftOut nodes line → AreAsked nodes (lines ++ line ∷ []) asked
asked_same nodes [] asked line h out = inl (out, h)
asked_same nodes (l ∷ lines) asked line (inl h) out = inl (h.0, asked_same nodes lines asked line h.1 out)
asked_same nodes (l ∷ lines) asked line (inr h) out = inr (h.0, h.1, h.2, asked_same nodes lines h.0 line h.3 out)

-- the text of one line more
pub text_more : (lines : List (List ℕ)) (line : List ℕ) → text_of (lines ++ line ∷ []) ≡ text_of lines ++ line
text_more lines line = flat_map-append (λ (l : List ℕ). l) lines (line ∷ []) ∙ ap (λ (bs : List ℕ). text_of lines ++ bs) (append-nil line)

module _ {S : Type 0} (taken : S → Option (List ℕ)) (pieces : S → Option (List (List ℕ))) (nodes : List (List ℕ)) where
  abbrev given : S → Given
  given s = given_to taken pieces s

  -- a wanted line was written
  one_asked : (lines : List (List ℕ)) (line : List ℕ) (a b c : S) → TookAsked taken pieces nodes lines a b → IsWanted nodes line → Appends (taken b) (taken c) line → Adds (pieces b) (pieces c) (line ∷ []) →
      TookAsked taken pieces nodes (lines ++ line ∷ []) a c
  one_asked lines line a b c h w bytes piece = record {
    asked = h.asked ++ line ∷ [];
    are = asked_more nodes lines h.asked line h.are w;
    took = took_on (given a) (given b) (given c) h.asked (line ∷ []) h.took (took_of (given b) (given c) line bytes piece);
  }

  -- a line was left out
  one_left_out : (lines : List (List ℕ)) (line : List ℕ) (a b : S) → TookAsked taken pieces nodes lines a b → IsLeftOut nodes line → TookAsked taken pieces nodes (lines ++ line ∷ []) a b
  one_left_out lines line a b h out = record { asked = h.asked; are = asked_same nodes lines h.asked line h.are out; took = h.took }

  -- ---- at the line of a place

  module _ (i : ℕ) (lines : List (List ℕ)) (line d : List ℕ) (below : i < length lines) (is : line ≡ get_or lines i d) (a b : S) (h : TookAsked taken pieces nodes (take i lines) a b) where
    front_is : take (i + 1) lines ≡ take i lines ++ line ∷ []
    front_is = take_more lines i d below ∙ ap (λ (l : List ℕ). take i lines ++ l ∷ []) (sym is)

    pub asked_at : (c : S) → IsWanted nodes line → Appends (taken b) (taken c) line → Adds (pieces b) (pieces c) (line ∷ []) → TookAsked taken pieces nodes (take (i + 1) lines) a c
    asked_at c w bytes piece = subst (λ (ls : List (List ℕ)). TookAsked taken pieces nodes ls a c) (sym front_is) (one_asked (take i lines) line a b c h w bytes piece)

    pub left_out_at : IsLeftOut nodes line → TookAsked taken pieces nodes (take (i + 1) lines) a b
    left_out_at out = subst (λ (ls : List (List ℕ)). TookAsked taken pieces nodes ls a b) (sym front_is) (one_left_out (take i lines) line a b h out)

    -- the sink failed at this line
    pub failed_at : (c : S) → IsWanted nodes line → AppendsPrefix (taken b) (taken c) line → Adds (pieces b) (pieces c) [] → TookSome taken pieces nodes lines a c
    failed_at c w bytes piece = record {
      front = take i lines ++ line ∷ [];
      rest = drop (i + 1) lines;
      lines_are = sym (take-append-drop (i + 1) lines) ∙ ap (λ (ls : List (List ℕ)). ls ++ drop (i + 1) lines) front_is;
      asked = h.asked ++ line ∷ [];
      are = asked_more nodes (take i lines) h.asked line h.are w;
      took = first_after (given a) (given b) (given c) h.asked (line ∷ []) h.took (first_of (given b) (given c) line bytes piece);
    }

  -- the call stopped at a place
  pub some_asked : (i : ℕ) (lines : List (List ℕ)) (a b : S) → TookAsked taken pieces nodes (take i lines) a b → TookSome taken pieces nodes lines a b
  some_asked i lines a b h = record {
    front = take i lines;
    rest = drop i lines;
    lines_are = sym (take-append-drop i lines);
    asked = h.asked;
    are = h.are;
    took = first_all (given a) (given b) h.asked h.took;
  }

  -- all lines were told
  pub all_asked : (lines : List (List ℕ)) (a b : S) → TookAsked taken pieces nodes lines a b → TookSome taken pieces nodes lines a b
  all_asked lines a b h = record { front = lines; rest = []; lines_are = sym (append-nil lines); asked = h.asked; are = h.are; took = first_all (given a) (given b) h.asked h.took }

-- whether a line is wanted, by the answer

pub wanted_of : (answer : Bool) (A B : Type 0) → answer ≡ true → MatchBool answer A B → A
wanted_of true A B is h = h
wanted_of false A B is h = absurd (cc is)

pub left_out_of : (answer : Bool) (A B : Type 0) → answer ≡ false → MatchBool answer A B → B
left_out_of true A B is h = absurd (cc is)
left_out_of false A B is h = h

-- there is no place in a list without lines
pub no_place : (lines : List (List ℕ)) (i : ℕ) → i < length lines → lines ≡ [] → ⊥
no_place lines i below none = omega (arith, below, ap length none)
