-- How the sets of keys that were handed out change with an item.
use Rattle.std.proofs.Common.{◌≡◌, ℕ, zero, suc, ◌+◌, ◌<◌, ◌≤◌, Bool, true, false, ◌&&◌, ◌||◌, eqb, List, [], ◌∷◌, length, get_or, drop, Option, Some, None, refl, sym, ap, ◌∙◌, arith}
use Rattle.std.specs.Str.{bytes_eq}
use Rattle.std.proofs.lemmas.List.{at_drop_more}
use Rattle.ordered_set.specs.Entries.{has_entry}
use Rattle.qkd_base.specs.Name.{Name, name_eq, kind_number}
use Rattle.run_types.specs.declared.command.Command.{Command}
use Rattle.run_types.specs.declared.item.Item.{Item}
use Rattle.run_types.specs.declared.scenario.Scenario.{Scenario}
use Rattle.run_types.specs.declared.item.NumberedItem.{NumberedItem}
use Rattle.whole_audit.specs.Lines.{command_at}
use Rattle.whole_audit.specs.Managers.{is_this}
use Rattle.whole_audit.specs.Handings.{has_key, keys_of, hands_there, was_handed, unnamed, has_unnamed}
use Rattle.whole_audit.specs.Kept.{number_entry, has_number, key_entry, AreHanded, AreUnnamed}
use Rattle.whole_audit.proofs.Walking.{number_entries}

in_order : (c n k p : Bool) → (c && (n && (k && (p && true)))) ≡ (p && (n && k && c))
in_order true true true true = refl
in_order true true true false = refl
in_order true true false true = refl
in_order true true false false = refl
in_order true false true true = refl
in_order true false true false = refl
in_order true false false true = refl
in_order true false false false = refl
in_order false true true true = refl
in_order false true true false = refl
in_order false true false true = refl
in_order false true false false = refl
in_order false false true true = refl
in_order false false true false = refl
in_order false false false true = refl
in_order false false false false = refl

pub key_entries : (n m : Name) (p q : ℕ) → bytes_eq (key_entry n p) (key_entry m q) ≡ (eqb p q && name_eq n m)
key_entries n m p q = in_order (eqb n.count m.count) (eqb n.node m.node) (eqb (kind_number n.kind) (kind_number m.kind)) (eqb p q)

one_more : (p b l h : Bool) → ((p && l) || ((p && b) || h)) ≡ ((p && (b || l)) || h)
one_more true true true h = refl
one_more true true false h = refl
one_more true false true h = refl
one_more true false false h = refl
one_more false true true h = refl
one_more false true false h = refl
one_more false false true h = refl
one_more false false false h = refl

-- The keys from a place on are the one there, and those behind it.
pub key_there : (keys : List (Name × List ℕ)) (k : ℕ) (key : Name × List ℕ) → k < length keys → key ≡ get_or keys k key → (n : Name) → has_key (drop k keys) n ≡ (name_eq key.0 n || has_key (drop (k + 1) keys) n)
key_there keys k key inside is n =
    at_drop_more (λ (ks : List (Name × List ℕ)). has_key ks n) keys k key inside
    ∙ ap (λ (first : Name × List ℕ). has_key (first ∷ drop (k + 1) keys) n) (sym is)

pub key_added : (old new : List (List ℕ)) (keys : List (Name × List ℕ)) (k place : ℕ) (key : Name × List ℕ) → k < length keys → key ≡ get_or keys k key
    → ((e : List ℕ) → has_entry new e ≡ (bytes_eq (key_entry key.0 place) e || has_entry old e)) → (n : Name) (there : ℕ)
    → ((eqb place there && has_key (drop (k + 1) keys) n) || has_entry new (key_entry n there)) ≡ ((eqb place there && has_key (drop k keys) n) || has_entry old (key_entry n there))
key_added old new keys k place key inside is put n there =
    ap (λ (b : Bool). (eqb place there && has_key (drop (k + 1) keys) n) || b) (put (key_entry n there) ∙ ap (λ (b : Bool). b || has_entry old (key_entry n there)) (key_entries key.0 n place there))
    ∙ one_more (eqb place there) (name_eq key.0 n) (has_key (drop (k + 1) keys) n) (has_entry old (key_entry n there))
    ∙ ap (λ (b : Bool). (eqb place there && b) || has_entry old (key_entry n there)) (sym (key_there keys k key inside is n))

drop_end : (keys : List (Name × List ℕ)) (k : ℕ) → length keys ≤ k → drop k keys ≡ []
drop_end [] zero h = refl
drop_end [] (suc k) h = refl
drop_end (y ∷ ys) zero h = absurd (omega arith)
drop_end (y ∷ ys) (suc k) h = drop_end ys k (omega arith)

and_false : (b : Bool) → (b && false) ≡ false
and_false true = refl
and_false false = refl

pub no_key_left : (keys : List (Name × List ℕ)) (k : ℕ) (b h : Bool) (n : Name) → length keys ≤ k → h ≡ ((b && has_key (drop k keys) n) || h)
no_key_left keys k b h n ends = sym (ap (λ (ks : List (Name × List ℕ)). (b && has_key ks n) || h) (drop_end keys k ends) ∙ ap (λ (c : Bool). c || h) (and_false b))

module _ (place : Option Command → Option ℕ) (s : Scenario) (old : List (List ℕ)) (told : NumberedItem) (before : List NumberedItem) (handed : AreHanded place s old before) where
  pub none_handed : None ≡ place (command_at s told.number) → AreHanded place s old (told ∷ before)
  none_handed none n there = handed n there ∙ ap (λ (o : Option ℕ). hands_there o told.item n there || was_handed place s before n there) none

  pub some_handed : (new : List (List ℕ)) (p : ℕ) (item : Item) → told.item ≡ item → Some p ≡ place (command_at s told.number) → ((n : Name) (there : ℕ) → has_entry new (key_entry n there) ≡ ((eqb p there && has_key (keys_of item) n) || has_entry old (key_entry n there))) → AreHanded place s new (told ∷ before)
  some_handed new p item same some put n there =
      put n there
      ∙ ap (λ (b : Bool). (eqb p there && has_key (keys_of item) n) || b) (handed n there)
      ∙ ap (λ (i : Item). (eqb p there && has_key (keys_of i) n) || was_handed place s before n there) (sym same)
      ∙ ap (λ (o : Option ℕ). hands_there o told.item n there || was_handed place s before n there) some

module _ (s : Scenario) (old : List (List ℕ)) (told : NumberedItem) (before : List NumberedItem) (kept : (node : ℕ) → has_number old node ≡ has_unnamed s node before) where
  pub none_unnamed : None ≡ unnamed s told → AreUnnamed s old (told ∷ before)
  none_unnamed none k = kept k ∙ ap (λ (o : Option ℕ). is_this o k || has_unnamed s k before) none

  pub some_unnamed : (new : List (List ℕ)) (node : ℕ) → Some node ≡ unnamed s told → ((e : List ℕ) → has_entry new e ≡ (bytes_eq (number_entry node) e || has_entry old e)) → AreUnnamed s new (told ∷ before)
  some_unnamed new node is put k =
      put (number_entry k)
      ∙ ap (λ (b : Bool). b || has_number old k) (number_entries node k)
      ∙ ap (λ (b : Bool). eqb node k || b) (kept k)
      ∙ ap (λ (o : Option ℕ). is_this o k || has_unnamed s k before) is
