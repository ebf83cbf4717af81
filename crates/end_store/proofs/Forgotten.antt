-- A key waits whether its bytes are overwritten or not.
use Rattle.std.proofs.Common.{◌≡◌, ℕ, zero, suc, Bool, ◌&&◌, ◌||◌, List, [], ◌∷◌, length, refl, sym, ◌∙◌, ap, subst, arith, take, Some, ◌⊎◌, inl, inr}
use Rattle.std.specs.Prelude.{slice_get, ◌==◌}
use Rattle.std.specs.List.{list_any}
use Rattle.std.proofs.lemmas.List.{length-replicate}
use Rattle.net_model.specs.declared.fact.Fact.{Fact}
use Rattle.net_model.specs.declared.fact.Fact.TheVariants.{Key, Chunk, Stored, Open, Joined, Part}
use Rattle.net_model.specs.Table.{without_bytes, zeros_for, is_stored_about}
use Rattle.qkd_base.specs.Name.{Name, name_eq}
use Rattle.relay_core.specs.Knowledge.{forgotten}
use Rattle.end_store.specs.declared.pool.Pool.{Pool}
use Rattle.end_store.specs.declared.pool.Line.{Line}
use Rattle.end_store.specs.declared.pool.Line.TheVariants.{Stock, Keys, Parts}
use Rattle.end_store.specs.Waiting.{own, is_in, stands, is_taken, is_noted, AreWaiting}

pub in_stays : (p : Pool) (m s : ℕ) (bytes : List ℕ) → is_in p m s (zeros_for bytes) ≡ is_in p m s bytes
in_stays p m s bytes = ap (λ (k : ℕ). (m == p.master) && (s == p.slave) && (k == p.octets)) (length-replicate (length bytes) 0)

stands_stays : (me : ℕ) (l : Line) (c i : ℕ) (f : Fact) → stands me l c i (without_bytes f) ≡ stands me l c i f
stands_stays me (Stock p) c i (Key name m s route bytes) = ap (λ (b : Bool). b && (i == c)) (in_stays p m s bytes)
stands_stays me (Keys p) c i (Key name m s route bytes) = ap (λ (b : Bool). b && name_eq name (own me c)) (in_stays p m s bytes)
stands_stays me (Parts p) c i (Part name key m s route bytes) = ap (λ (b : Bool). b && name_eq key (own me c)) (in_stays p m s bytes)
stands_stays me (Stock p) c i (Part name key m s route bytes) = refl
stands_stays me (Keys p) c i (Part name key m s route bytes) = refl
stands_stays me (Parts p) c i (Key name m s route bytes) = refl
stands_stays me (Stock p) c i (Chunk name stream index route bytes) = refl
stands_stays me (Keys p) c i (Chunk name stream index route bytes) = refl
stands_stays me (Parts p) c i (Chunk name stream index route bytes) = refl
stands_stays me l c i (Stored note about route) = refl
stands_stays me l c i (Open stream source peer size route) = refl
stands_stays me l c i (Joined note about route) = refl

taken_stays : (handed : List (Name × ℕ)) (f : Fact) → is_taken handed (without_bytes f) ≡ is_taken handed f
taken_stays handed (Key name m s route bytes) = refl
taken_stays handed (Chunk name stream index route bytes) = refl
taken_stays handed (Stored note about route) = refl
taken_stays handed (Open stream source peer size route) = refl
taken_stays handed (Joined note about route) = refl
taken_stays handed (Part name key m s route bytes) = refl

pub note_stays : (n : Name) (f : Fact) → is_stored_about n (without_bytes f) ≡ is_stored_about n f
note_stays n (Key name m s route bytes) = refl
note_stays n (Chunk name stream index route bytes) = refl
note_stays n (Stored note about route) = refl
note_stays n (Open stream source peer size route) = refl
note_stays n (Joined note about route) = refl
note_stays n (Part name key m s route bytes) = refl

pub notes_stay : (n : Name) (facts : List Fact) (p : ℕ) → list_any (is_stored_about n) (forgotten facts p) ≡ list_any (is_stored_about n) facts
notes_stay n [] p = refl
notes_stay n (x ∷ xs) zero = ap (λ (b : Bool). b || list_any (is_stored_about n) xs) (note_stays n x)
notes_stay n (x ∷ xs) (suc p) = ap (λ (b : Bool). is_stored_about n x || b) (notes_stay n xs p)

front_notes : (n : Name) (facts : List Fact) (p c : ℕ) → list_any (is_stored_about n) (take c (forgotten facts p)) ≡ list_any (is_stored_about n) (take c facts)
front_notes n [] p c = refl
front_notes n (x ∷ xs) zero zero = refl
front_notes n (x ∷ xs) (suc p) zero = refl
front_notes n (x ∷ xs) zero (suc c) = ap (λ (b : Bool). b || list_any (is_stored_about n) (take c xs)) (note_stays n x)
front_notes n (x ∷ xs) (suc p) (suc c) = ap (λ (b : Bool). is_stored_about n x || b) (front_notes n xs p c)

noted_stays : (me : ℕ) (facts : List Fact) (l : Line) (c p count : ℕ) → is_noted me (take count (forgotten facts p)) l c ≡ is_noted me (take count facts) l c
noted_stays me facts (Stock q) c p count = refl
noted_stays me facts (Keys q) c p count = front_notes (own me c) facts p count
noted_stays me facts (Parts q) c p count = refl

-- after bytes are overwritten, each place has the same fact as before, perhaps without its bytes
record StoodAt (facts : List Fact) (i : ℕ) (f : Fact) : Type 0 where
  pub old : Fact
  pub there : slice_get facts i ≡ Some old
  pub same : (f ≡ old) ⊎ (f ≡ without_bytes old)

stood : (facts : List Fact) (p i : ℕ) (f : Fact) → slice_get (forgotten facts p) i ≡ Some f → StoodAt facts i f
stood [] p i f h = cc
stood (x ∷ xs) zero zero f h = record { old = x; there = refl; same = inr (let e : f ≡ without_bytes x = cc in e) }
stood (x ∷ xs) zero (suc i) f h = record { old = f; there = h; same = inl refl }
stood (x ∷ xs) (suc p) zero f h = record { old = f; there = h; same = inl refl }
stood (x ∷ xs) (suc p) (suc i) f h = let at = stood xs p i f h in record { old = at.old; there = at.there; same = at.same }

length_stays : (facts : List Fact) (p : ℕ) → length (forgotten facts p) ≡ length facts
length_stays [] p = refl
length_stays (x ∷ xs) zero = refl
length_stays (x ∷ xs) (suc p) = let e = length_stays xs p in omega arith

waiting_stays : (me : ℕ) (facts : List Fact) (handed : List (Name × ℕ)) (es : List (List ℕ)) (count p : ℕ) → AreWaiting me facts handed es count → AreWaiting me (forgotten facts p) handed es count
waiting_stays me facts handed es count p w = record {
  within = let k = w.within in let e = length_stays facts p in omega arith;
  complete = λ l c i f lt there at free noted.
      let was = stood facts p i f there in
      w.complete l c i was.old lt was.there
      (sym (as_it_stood (stands me l c i) f was.old (stands_stays me l c i was.old) was.same) ∙ at)
      (sym (as_it_stood (is_taken handed) f was.old (taken_stays handed was.old) was.same) ∙ free)
      (sym (noted_stays me facts l c p count) ∙ noted);
}
  where
    as_it_stood : (t : Fact → Bool) (f g : Fact) → t (without_bytes g) ≡ t g → (f ≡ g) ⊎ (f ≡ without_bytes g) → t f ≡ t g
    as_it_stood t f g e (inl same) = ap t same
    as_it_stood t f g e (inr bare) = ap t bare ∙ e

pub waiting_forgotten : (me : ℕ) (facts after : List Fact) (handed : List (Name × ℕ)) (es : List (List ℕ)) (count p : ℕ) → AreWaiting me facts handed es count → after ≡ forgotten facts p →
    AreWaiting me after handed es count
waiting_forgotten me facts after handed es count p w e = subst (λ (fs : List Fact). AreWaiting me fs handed es count) (sym e) (waiting_stays me facts handed es count p w)
