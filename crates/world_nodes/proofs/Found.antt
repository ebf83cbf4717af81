-- What an opening finds on an image.
use Rattle.std.proofs.Common.{◌≡◌, ◌≤◌, ◌<◌, inl, inr, ℕ, zero, suc, Bool, true, false, List, [], ◌∷◌, ◌++◌, length, take, map, refl, sym, ap, subst, ◌∙◌, arith, Some, Ok, length-append}
use Rattle.std.specs.Prelude.{slice_get, nat_le, not, ◌&&◌}
use Rattle.std.specs.List.{All}
use Rattle.std.proofs.lemmas.List.Elements.{All-tail}
use Rattle.std.proofs.lemmas.Bool.{false≢true}
use Rattle.std.proofs.lemmas.Bool.Decides.{nat_tests}
use Rattle.net_model.specs.declared.record.Record.{Record}
use Rattle.net_model.specs.Site.{Site}
use Rattle.net_model.specs.View.{View}
use Rattle.net_model.specs.Fold.{view_restarted, recovered_view}
use Rattle.range_journal.specs.Batches.{spelled, Stands}
use Rattle.range_journal.specs.Header.{new_header, is_blank}
use Rattle.journal_records.specs.Grammar.{IsBatch}
use Rattle.journal_records.specs.Layout.{batch_of}
use Rattle.journal_records.proofs.Bodies.{batch_again}
use Rattle.journal_snapshot.specs.declared.live.Live.{Live}
use Rattle.journal_snapshot.specs.Layout.{live_of, is_moved}
use Rattle.journal_snapshot.specs.Standing.{HasBatches, Holds, new_live}
use Rattle.journal_snapshot.specs.Opening.{IsOpened}
use Rattle.journal_snapshot.specs.Snapshots.{SnapshotForm}
use Rattle.journal_snapshot.proofs.Fronts.{start_floor}
use Rattle.journal_snapshot.proofs.Once.{opened_again}
use Rattle.journal_snapshot.proofs.Standings.{batches_of, stands_long, new_says}
use Rattle.kme_store.specs.Passed.{body, version_named, IsReadAs, AreReadAs, GivesBack, IsUnreadable}
use Rattle.world_nodes.specs.Stands.{HasStory}

-- The same bodies spell only one story.

same_body : (version : ℕ) (a b : List Record) → IsBatch (version_named version) a → IsBatch (version_named version) b → body version a ≡ body version b → a ≡ b
same_body version a b is_a is_b e =
    let v = version_named version in
    let read : Ok a ≡ Ok b = sym (batch_again v a is_a) ∙ ap (batch_of v) e ∙ batch_again v b is_b in
    cc

pub same_story : (version : ℕ) (one other : List (List Record)) → All (IsBatch (version_named version)) one → All (IsBatch (version_named version)) other → map (body version) one ≡ map (body version) other → one ≡ other
same_story version [] [] a b e = refl
same_story version [] (y ∷ ys) a b e = absurd (cc e)
same_story version (x ∷ xs) [] a b e = absurd (cc e)
same_story version (x ∷ xs) (y ∷ ys) a b e =
    let heads : body version x ≡ body version y = cc in
    let tails : map (body version) xs ≡ map (body version) ys = cc in
    let first = same_body version x y (a 0 x (omega arith)) (b 0 y (omega arith)) heads in
    let rest = same_story version xs ys (All-tail (IsBatch (version_named version)) x xs a) (All-tail (IsBatch (version_named version)) y ys b) tails in
    λ i. first i ∷ rest i

-- the view that the bodies restore
pub same_manager : {K : Type 0} (site : Site) (v version : ℕ) (bodies : List (List ℕ)) (view : View) (old : SnapshotForm K) (a : View) → old.live.version ≡ version → old.batches ≡ bodies →
    GivesBack site v old a → HasStory site v version bodies view → a ≡ view_restarted view
same_manager site v version bodies view old a same_version same_bodies back told =
    let here : AreReadAs version bodies back.story = subst (λ (n : ℕ). AreReadAs n bodies back.story) same_version (subst (λ (bs : List (List ℕ)). AreReadAs old.live.version bs back.story) same_bodies back.spelled) in
    let story : back.story ≡ told.0 = same_story version back.story told.0 here.each told.1.read.each (sym here.spelled ∙ told.1.read.spelled) in
    back.view ∙ ap (recovered_view site v) story ∙ told.1.back

-- Each body can be read.
each_read : (version : ℕ) (bodies : List (List ℕ)) (story : List (List Record)) → bodies ≡ map (body version) story → All (IsBatch (version_named version)) story → (place : ℕ) (octets : List ℕ) →
    slice_get bodies place ≡ Some octets → (batch : List Record) × IsReadAs version octets batch
each_read version bodies [] is each place octets there = (let none : slice_get [] place ≡ Some octets = ap (λ (bs : List (List ℕ)). slice_get bs place) (sym is) ∙ there in absurd (cc none))
each_read version bodies (x ∷ xs) is each zero octets there =
    let at : Some (body version x) ≡ Some octets = ap (λ (bs : List (List ℕ)). slice_get bs 0) (sym is) ∙ there in
    (x, record { is = cc; grammar = each 0 x (omega arith) })
each_read version bodies (x ∷ xs) is each (suc place) octets there =
    each_read version (map (body version) xs) xs refl (All-tail (IsBatch (version_named version)) x xs each) place octets (ap (λ (bs : List (List ℕ)). slice_get bs (suc place)) (sym is) ∙ there)

pub is_readable : (version start : ℕ) (bodies : List (List ℕ)) (story : List (List Record)) (gate : ℕ) → AreReadAs version bodies story → IsUnreadable version start bodies gate → ⊥
is_readable version start bodies story gate read u =
    let there = each_read version bodies story read.spelled read.each u.place u.octets u.there in
    u.none there.0 there.1

-- What is opened is what the image has.
pub opened_is : (read : List ℕ) (live other : Live) (batches more : List (List ℕ)) → IsOpened read live batches → HasBatches other more read → is_blank read ≡ false → (live ≡ other) × (batches ≡ more)
opened_is read live other batches more o h plain =
    let again = opened_again read live other batches more o h in
    (elim again.1 [ inl blank ↦ absurd (false≢true (sym plain ∙ blank)) | inr same ↦ same ], again.0)

-- An image of a new journal's header, with any gate, opens as a new journal without batches.

headed : (gate : ℕ) → is_blank (new_header ++ gate ∷ []) ≡ false
headed gate = refl

none_there : (batches : List (List ℕ)) (gate : ℕ) → Stands (take 16 (new_header ++ gate ∷ [])) batches (new_header ++ gate ∷ []) → batches ≡ []
none_there [] gate s = refl
none_there (b ∷ bs) gate s = absurd (omega (arith, ap length s.is, length-append (new_header ++ spelled (b ∷ bs)) (s.gate ∷ s.rest), length-append new_header (spelled (b ∷ bs))))

pub header_opened : (gate : ℕ) (live : Live) (batches : List (List ℕ)) → IsOpened (new_header ++ gate ∷ []) live batches → (live ≡ new_live) × (batches ≡ [])
header_opened gate live batches (inl new) = absurd (false≢true (sym (headed gate) ∙ new.0))
header_opened gate live batches (inr o) =
    let says : live ≡ new_live = o.1 ∙ new_says (new_header ++ gate ∷ []) refl in
    (says, none_there batches gate (subst (λ (l : Live). Stands (take l.start (new_header ++ gate ∷ [])) batches (new_header ++ gate ∷ [])) says o.2.stands))

-- An image whose area was moved isn't blank.
pub moved_plain : (live : Live) (bodies doubt : List (List ℕ)) (image : List ℕ) → Holds live bodies doubt image → is_moved live.area ≡ true → is_blank image ≡ false
moved_plain live bodies doubt image h moved =
    let has = batches_of live bodies doubt image h in
    let far : 50 ≤ (live_of image).start = start_floor image (length image) h.placed (ap (λ (l : Live). is_moved l.area) h.says ∙ moved) in
    let long : live.start < length image = stands_long live.start image bodies has.stands in
    let many : nat_le (length image) 17 ≡ false = (let most : 17 < length image = omega (arith, far, long, ap (λ (l : Live). l.start) h.says) in grind (arith, nat_tests)) in
    ap (λ (t : Bool). t && not (Rattle.range_journal.specs.Header.is_new image)) many
