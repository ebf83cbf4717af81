-- The texts that a sink took, in order.
use Rattle.std.proofs.Common.{◌≡◌, ℕ, List, [], ◌∷◌, ◌++◌, take, drop, refl, sym, ap, subst, ◌∙◌}
use Rattle.std.specs.Prelude.{Option, Some, None}
use Rattle.std.proofs.lemmas.List.{append_assoc, append-nil, map-append, take-append-drop}
use Rattle.std.proofs.lemmas.List.Concat.{flat_map-append}
use Rattle.std.specs.Io.KnownBytes.{Appends}
use Rattle.edge_io.specs.Writes.{AppendsPrefix, Adds}
use Rattle.run_types.specs.declared.item.Item.{Item}
use Rattle.run_types.specs.declared.item.NumberedItem.{NumberedItem}
use Rattle.run_types.specs.Texts.{line_text}
use Rattle.run_model.specs.Play.{numbered}
use Rattle.run_model.specs.Headline.{Given, joined, Gained, Took, TookUpTo, IsBeginning, TookFirst, report_pieces}

-- ---- what was added to a list

pub gained_none : {A : Type 0} (a : Option (List A)) → Gained a a []
gained_none {A = A} a = λ before is. is ∙ ap (λ (xs : List A). Some xs) (sym (append-nil before))

pub gained_on : {A : Type 0} (a b c : Option (List A)) (x y : List A) → Gained a b x → Gained b c y → Gained a c (x ++ y)
gained_on {A = A} a b c x y p q = λ before is. q (before ++ x) (p before is) ∙ ap (λ (xs : List A). Some xs) (append_assoc before x y)

pub gained_bytes : (a b : Option (List ℕ)) (x : List ℕ) → Appends a b x → Gained a b x
gained_bytes None b x h = λ before is. cc
gained_bytes (Some xs) None x h = absurd h
gained_bytes (Some xs) (Some ys) x h = λ before is. cc

pub gained_pieces : (a b : Option (List (List ℕ))) (x : List (List ℕ)) → Adds a b x → Gained a b x
gained_pieces None b x h = λ before is. cc
gained_pieces (Some xs) b x h = λ before is. h ∙ ap (λ (ys : List (List ℕ)). Some (ys ++ x)) (let e : xs ≡ before = cc in e)

pub joined_on : (x y : List (List ℕ)) → joined (x ++ y) ≡ joined x ++ joined y
joined_on x y = flat_map-append (λ (text : List ℕ). text) x y

-- ---- texts that were taken

pub took_none : (a : Given) → Took a a []
took_none a = record { octets = gained_none a.octets; pieces = gained_none a.pieces }

pub took_on : (a b c : Given) (x y : List (List ℕ)) → Took a b x → Took b c y → Took a c (x ++ y)
took_on a b c x y p q = record {
  octets = subst (Gained a.octets c.octets) (sym (joined_on x y)) (gained_on a.octets b.octets c.octets (joined x) (joined y) p.octets q.octets);
  pieces = gained_on a.pieces b.pieces c.pieces x y p.pieces q.pieces;
}

-- one write
pub took_of : (a b : Given) (x : List ℕ) → Appends a.octets b.octets x → Adds a.pieces b.pieces (x ∷ []) → Took a b (x ∷ [])
took_of a b x bytes piece = record {
  octets = subst (Gained a.octets b.octets) (sym (append-nil x)) (gained_bytes a.octets b.octets x bytes);
  pieces = gained_pieces a.pieces b.pieces (x ∷ []) piece;
}

none_is : {A : Type 0} (x : A) → None ≡ Some x → ⊥
none_is x e = cc

-- nothing is known of what was taken
pub took_unknown : (a b : Given) (x : List (List ℕ)) → a.octets ≡ None → a.pieces ≡ None → Took a b x
took_unknown a b x bytes pieces = record {
  octets = λ before is. absurd (none_is before (sym bytes ∙ is));
  pieces = λ before is. absurd (none_is before (sym pieces ∙ is));
}

-- whole texts, and a part of one more

pub up_to : (a b : Given) (x : List (List ℕ)) → Took a b x → TookUpTo a b x []
up_to a b x p = record { octets = subst (Gained a.octets b.octets) (sym (append-nil (joined x))) p.octets; pieces = p.pieces }

pub up_to_after : (a b c : Given) (x y : List (List ℕ)) (part : List ℕ) → Took a b x → TookUpTo b c y part → TookUpTo a c (x ++ y) part
up_to_after a b c x y part p q = record {
  octets = subst (Gained a.octets c.octets) (sym (append_assoc (joined x) (joined y) part) ∙ ap (λ (bs : List ℕ). bs ++ part) (sym (joined_on x y)))
      (gained_on a.octets b.octets c.octets (joined x) (joined y ++ part) p.octets q.octets);
  pieces = gained_on a.pieces b.pieces c.pieces x y p.pieces q.pieces;
}

-- ---- the first of some texts

-- one write that failed
pub first_of : (a b : Given) (x : List ℕ) → AppendsPrefix a.octets b.octets x → Adds a.pieces b.pieces [] → TookFirst a b (x ∷ [])
first_of a b x h none = record {
  first = [];
  left = x ∷ [];
  split = refl;
  part = take h.0 x;
  begins = (drop h.0 x, sym (take-append-drop h.0 x));
  took = record { octets = gained_bytes a.octets b.octets (take h.0 x) h.1; pieces = gained_pieces a.pieces b.pieces [] none };
}

none_begins : (x : List (List ℕ)) → IsBeginning [] x
none_begins [] = refl
none_begins (text ∷ more) = (text, refl)

-- the first texts, as whole ones
pub first_whole : (a b : Given) (x y : List (List ℕ)) → Took a b x → TookFirst a b (x ++ y)
first_whole a b x y p = record { first = x; left = y; split = refl; part = []; begins = none_begins y; took = up_to a b x p }

pub first_all : (a b : Given) (x : List (List ℕ)) → Took a b x → TookFirst a b x
first_all a b x p = subst (TookFirst a b) (append-nil x) (first_whole a b x [] p)

pub first_none : (a : Given) (x : List (List ℕ)) → TookFirst a a x
first_none a x = first_whole a a [] x (took_none a)

begins_within : (part : List ℕ) (x y : List (List ℕ)) → IsBeginning part x → IsBeginning part (x ++ y)
begins_within part [] y h = subst (λ (p : List ℕ). IsBeginning p y) (sym h) (none_begins y)
begins_within part (text ∷ more) y h = h

pub first_within : (a b : Given) (x y : List (List ℕ)) → TookFirst a b x → TookFirst a b (x ++ y)
first_within a b x y h = record {
  first = h.first;
  left = h.left ++ y;
  split = ap (λ (texts : List (List ℕ)). texts ++ y) h.split ∙ append_assoc h.first h.left y;
  part = h.part;
  begins = begins_within h.part h.left y h.begins;
  took = h.took;
}

pub first_after : (a b c : Given) (x y : List (List ℕ)) → Took a b x → TookFirst b c y → TookFirst a c (x ++ y)
first_after a b c x y p q = record {
  first = x ++ q.first;
  left = q.left;
  split = ap (λ (texts : List (List ℕ)). x ++ texts) q.split ∙ sym (append_assoc x q.first q.left);
  part = q.part;
  begins = q.begins;
  took = up_to_after a b c x q.first q.part p q.took;
}

-- ---- the pieces of items

pub pieces_on : (nodes : List (List ℕ)) (xs ys : List NumberedItem) → report_pieces nodes (xs ++ ys) ≡ report_pieces nodes xs ++ report_pieces nodes ys
unfolding report_pieces
pieces_on nodes xs ys = map-append (line_text nodes) xs ys

pub pieces_none : (nodes : List (List ℕ)) → report_pieces nodes [] ≡ []
unfolding report_pieces
pieces_none nodes = refl

pub pieces_one : (nodes : List (List ℕ)) (number : ℕ) (item : Item) → report_pieces nodes (numbered number (item ∷ [])) ≡ line_text nodes (record { number = number; item = item }) ∷ []
unfolding report_pieces
pieces_one nodes number item = refl

pub numbered_on : (number : ℕ) (xs ys : List Item) → numbered number (xs ++ ys) ≡ numbered number xs ++ numbered number ys
numbered_on number xs ys = map-append (λ (item : Item). record { number = number; item = item }) xs ys
