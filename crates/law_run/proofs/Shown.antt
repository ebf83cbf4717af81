-- Bytes that an operator is shown under a name are those of the table.
use Rattle.std.proofs.Common.{◌≡◌, ◌∙◌, ◌⊎◌, inl, inr, ℕ, ◌+◌, not, Bool, true, false, ◌&&◌, ◌||◌, List, [], ◌∷◌, cond, refl, sym, ap, Option, Some, None}
use Rattle.std.specs.Prelude.{◌==◌, nat_lt, filter, find, if◌then◌else◌}
use Rattle.std.specs.List.{list_all}
use Rattle.qkd_base.specs.Name.{Name}
use Rattle.net_model.specs.declared.event.Event.TheVariants.{Show}
use Rattle.net_model.specs.declared.fact.Fact.{Fact}
use Rattle.net_model.specs.declared.fact.Fact.TheVariants.{Key, Chunk, Stored, Open, Joined, Part}
use Rattle.net_model.specs.declared.held.Held.{Held}
use Rattle.net_model.specs.declared.held.Held.TheVariants.{Absent}
use Rattle.net_model.specs.declared.reply.Reply.{Reply}
use Rattle.net_model.specs.declared.reply.Reply.TheVariants.{Shown, Down, Memory, Stopped, NoRandom, JournalFull}
use Rattle.net_model.specs.Table.{name_of, bytes_of, origin, target, fact_at, parts_of, is_part_of, is_secret}
use Rattle.net_model.specs.Site.{Site}
use Rattle.net_model.specs.World.{Network, World, Durable}
use Rattle.net_model.specs.View.{View}
use Rattle.net_model.specs.Needed.{is_needed, view_of}
use Rattle.net_model.specs.Show.{needed_bytes, shown_one, shown_part, shown_group, shown_at_target, bytes_shown, shown, show}
use Rattle.net_model.specs.Decision.{Effect}
use Rattle.net_model.specs.Decide.{decide, random_need}
use Rattle.net_model.specs.OctetSequence.{has_octets}
use Rattle.net_model.specs.Journal.{added_len, is_nil, journal_limit}
use Rattle.net_model.specs.Action.{Environment, Ask, Outcome, Replies, is_no_memory, is_entropy_fault, is_io_fault}
use Rattle.net_model.specs.Handle.{is_numbered, perform, handle}
use Rattle.net_model.specs.Step.{step}
use Rattle.run_model.specs.Keys.{AreBytesOf}
use Rattle.law_base.proofs.Base.{by_test, or_right, and_left}
use Rattle.law_base.proofs.Masked.{masked_same}
use Rattle.law_base.proofs.Seen.{Sees, IsSeen, seen_found, seen_at, seen_needed, found_passes, view_sees, bare_view}
use Rattle.law_recovery.proofs.Shapes.{IsLike, needed_like, needed_blind, masked_shapes, shapes}

-- Lemmas on lists.

find_filter : (p q : Fact → Bool) (xs : List Fact) → find q (filter p xs) ≡ find (λ x. p x && q x) xs
find_filter p q [] = refl
find_filter p q (x ∷ xs) = elim (p x) as (λ t. find q (cond t (x ∷ filter p xs) (filter p xs)) ≡ (if t && q x then Some x else find (λ x. p x && q x) xs)) [
  | true ↦ elim (q x) as (λ t. (if t then Some x else find q (filter p xs)) ≡ (if t then Some x else find (λ x. p x && q x) xs)) [ true ↦ refl | false ↦ find_filter p q xs ]
  | false ↦ find_filter p q xs
]

first_of_filter : (p : Fact → Bool) (xs : List Fact) (f : Fact) (fs : List Fact) → filter p xs ≡ f ∷ fs → find p xs ≡ Some f
first_of_filter p [] f fs h = cc
first_of_filter p (x ∷ xs) f fs h = elim (p x) as (λ t. cond t (x ∷ filter p xs) (filter p xs) ≡ f ∷ fs → (if t then Some x else find p xs) ≡ Some f) [
  | true ↦ λ e. cc
  | false ↦ λ e. first_of_filter p xs f fs e
] h

secret_of : (f : Fact) (b : ℕ) (bytes : List ℕ) → bytes_of f ≡ b ∷ bytes → is_secret f ≡ true
secret_of (Key name master slave route octets) b bytes h = refl
secret_of (Chunk name stream index route octets) b bytes h = refl
secret_of (Stored note about route) b bytes h = cc
secret_of (Open stream source peer size route) b bytes h = cc
secret_of (Joined note about route) b bytes h = cc
secret_of (Part name key master slave route octets) b bytes h = refl

-- Bytes that are shown belong to a fact that is needed.

needed_is : (v : View) (f : Fact) (b : ℕ) (bytes : List ℕ) → needed_bytes v f ≡ b ∷ bytes → (is_needed v f ≡ true) × (bytes_of f ≡ b ∷ bytes)
needed_is v f b bytes h = elim (is_needed v f) as (λ t. (if t then bytes_of f else []) ≡ b ∷ bytes → (t ≡ true) × (bytes_of f ≡ b ∷ bytes)) [ true ↦ λ e. (refl, e) | false ↦ λ e. cc ] h

shown_bytes : (s held : Held) (xs ys : List ℕ) → Shown s xs ≡ Shown held ys → xs ≡ ys
shown_bytes s held xs ys h = cc

one_is : (v : View) (f : Fact) (held : Held) (ys : List ℕ) → shown_one v f ≡ Shown held ys → needed_bytes v f ≡ ys
one_is v f held ys =
    by_test (λ (r : Reply). r ≡ Shown held ys → needed_bytes v f ≡ ys) (origin f == v.me) _ _ (λ at. shown_bytes _ held (needed_bytes v f) ys)
    (λ away. by_test (λ (r : Reply). r ≡ Shown held ys → needed_bytes v f ≡ ys) (target f == v.me) _ _ (λ at. shown_bytes _ held (needed_bytes v f) ys) (λ other. shown_bytes _ held (needed_bytes v f) ys))

part_is : (v : View) (f : Fact) (held : Held) (b : ℕ) (ys : List ℕ) → shown_part v f ≡ Shown held (b ∷ ys) → needed_bytes v f ≡ b ∷ ys
part_is v f held b ys =
    by_test (λ (r : Reply). r ≡ Shown held (b ∷ ys) → needed_bytes v f ≡ b ∷ ys) ((origin f == v.me) || (target f == v.me)) _ _ (λ at h. absurd (none (shown_bytes _ held [] (b ∷ ys) h)))
    (λ other. shown_bytes _ held (needed_bytes v f) (b ∷ ys))
  where
    none : [] ≡ b ∷ ys → ⊥
    none h = cc

none_shown : (held : Held) (b : ℕ) (bytes : List ℕ) → Shown Absent [] ≡ Shown held (b ∷ bytes) → ⊥
none_shown held b bytes e = cc

module _ (s : Site) (d : Durable) (see bare : View) (h : Sees s d see bare) where
  -- A fact that is seen as needed is the table's fact, with its bytes.
  like : IsLike see bare
  like = record { me = sym h.bare_me; acked = sym h.bare_acked; handed = sym h.bare_handed; facts = ap shapes h.facts ∙ masked_shapes bare _ ∙ ap shapes (sym h.bare_facts) }

  seen_whole : (g : Fact) (x : IsSeen d see.me bare g) → is_needed see g ≡ true → g ≡ x.fact
  seen_whole g x e =
      seen_needed s d see bare h g x (sym (masked_same (is_needed bare) (needed_blind bare) bare x.fact) ∙ ap (is_needed bare) (sym x.is) ∙ sym (needed_like see bare like g) ∙ e)

  bytes_are : (n : Name) (g : Fact) (x : IsSeen d see.me bare g) (b : ℕ) (bytes : List ℕ) → (name_of g ≡ n) ⊎ (is_part_of n g ≡ true) → needed_bytes see g ≡ b ∷ bytes →
      AreBytesOf d.facts n (b ∷ bytes)
  bytes_are n g x b bytes is e =
      let needed = needed_is see g b bytes e in
      let whole : g ≡ x.fact = seen_whole g x needed.0 in
      let same : bytes_of x.fact ≡ b ∷ bytes = ap bytes_of (sym whole) ∙ needed.1 in
      record {
        name = name_of g;
        fact = x.fact;
        there = x.there;
        is_secret = secret_of x.fact b bytes same;
        is = elim is [
          | inl named ↦ inl named
          | inr part ↦ inr (or_right _ (is_part_of n x.fact) (ap (is_part_of n) (sym whole) ∙ part))
        ];
        bytes_are = sym same;
      }

  -- Lemmas on the target of parts.
  at_target : (n : Name) (qs : List Fact) (held : Held) (b : ℕ) (bytes : List ℕ) → ((f : Fact) → find (is_needed see) qs ≡ Some f → (is_part_of n f ≡ true) × IsSeen d see.me bare f) →
      shown_at_target see qs ≡ Shown held (b ∷ bytes) → AreBytesOf d.facts n (b ∷ bytes)
  at_target n [] held b bytes all e = absurd (none_shown held b bytes e)
  at_target n (q ∷ qs) held b bytes all e = found_bytes (find (is_needed see) (q ∷ qs)) refl (shown_bytes _ held _ (b ∷ bytes) e)
    where
      found_bytes : (o : Option Fact) → find (is_needed see) (q ∷ qs) ≡ o → bytes_shown see o ≡ b ∷ bytes → AreBytesOf d.facts n (b ∷ bytes)
      found_bytes None at e = cc
      found_bytes (Some f) at e =
          let x = all f at in
          bytes_are n f x.1 b bytes (inr x.0) (ap (λ (t : Bool). if t then bytes_of f else []) (found_passes (is_needed see) (q ∷ qs) f at) ∙ e)

  in_group : (n : Name) (ps : List Fact) → parts_of see.facts n ≡ ps → (held : Held) (b : ℕ) (bytes : List ℕ) → shown_group see n ps ≡ Shown held (b ∷ bytes) → AreBytesOf d.facts n (b ∷ bytes)
  in_group n [] is held b bytes = λ e. absurd (none_shown held b bytes e)
  in_group n (p ∷ ps) is held b bytes =
      by_test (λ (r : Reply). r ≡ Shown held (b ∷ bytes) → AreBytesOf d.facts n (b ∷ bytes)) (origin p == see.me) _ _
      (λ at e.
      let x = seen_found s d see bare h (is_part_of n) p (first_of_filter (is_part_of n) see.facts p ps is) in
      bytes_are n p x.1 b bytes (inr x.0) (shown_bytes _ held (needed_bytes see p) (b ∷ bytes) e))
      (λ away. at_target n (filter (λ f. target f == see.me) (p ∷ ps)) held b bytes (λ f found.
      let all : find (λ g. is_part_of n g && ((target g == see.me) && is_needed see g)) see.facts ≡ Some f =
      sym (find_filter (is_part_of n) (λ g. (target g == see.me) && is_needed see g) see.facts) ∙
      ap (find (λ g. (target g == see.me) && is_needed see g)) is ∙ sym (find_filter (λ g. target g == see.me) (is_needed see) (p ∷ ps)) ∙ found in
      let x = seen_found s d see bare h (λ g. is_part_of n g && ((target g == see.me) && is_needed see g)) f all in
      (and_left (is_part_of n f) _ x.0, x.1)))

  pub shows : (n : Name) (o : Option Fact) → fact_at see.facts n ≡ o → (held : Held) (b : ℕ) (bytes : List ℕ) → shown see n o ≡ Shown held (b ∷ bytes) → AreBytesOf d.facts n (b ∷ bytes)
  shows n None at held b bytes e = in_group n (parts_of see.facts n) refl held b bytes e
  shows n (Some (Key name master slave route octets)) at held b bytes e =
      let f : Fact = Key name master slave route octets in
      let x = seen_at s d see bare h n f at in bytes_are n f x.1 b bytes (inl x.0) (one_is see f held (b ∷ bytes) e)
  shows n (Some (Chunk name stream index route octets)) at held b bytes e =
      let f : Fact = Chunk name stream index route octets in
      let x = seen_at s d see bare h n f at in bytes_are n f x.1 b bytes (inl x.0) (one_is see f held (b ∷ bytes) e)
  shows n (Some (Part name key master slave route octets)) at held b bytes e =
      let f : Fact = Part name key master slave route octets in
      let x = seen_at s d see bare h n f at in bytes_are n f x.1 b bytes (inl x.0) (part_is see f held b bytes e)
  shows n (Some (Stored note about route)) at held b bytes e = in_group n (parts_of see.facts n) refl held b bytes e
  shows n (Some (Open stream source peer size route)) at held b bytes e = in_group n (parts_of see.facts n) refl held b bytes e
  shows n (Some (Joined note about route)) at held b bytes e = in_group n (parts_of see.facts n) refl held b bytes e

-- If the reply shows bytes, it is the one that the manager decided on.

abbrev IsShown : Held → List ℕ → World × Outcome → Type 0
IsShown held ys r = r.1 ≡ Replies (Shown held ys)

other_reply : (held : Held) (ys : List ℕ) (r : Reply) → (Shown held ys ≡ r → ⊥) → Replies r ≡ Replies (Shown held ys) → ⊥
other_reply held ys r other h = other (sym (ap reply_of h))
  where
    reply_of : Outcome → Reply
    reply_of (Replies r) = r
    reply_of _ = r

same_reply : (held : Held) (ys : List ℕ) (r : Reply) → Replies r ≡ Replies (Shown held ys) → r ≡ Shown held ys
same_reply held ys r h = ap reply_of h
  where
    reply_of : Outcome → Reply
    reply_of (Replies r) = r
    reply_of _ = r

not_memory : (held : Held) (ys : List ℕ) → Shown held ys ≡ Memory → ⊥
not_memory held ys h = cc

not_full : (held : Held) (ys : List ℕ) (length' need : ℕ) → Shown held ys ≡ JournalFull length' need → ⊥
not_full held ys length' need h = cc

not_random : (held : Held) (ys : List ℕ) → Shown held ys ≡ NoRandom → ⊥
not_random held ys h = cc

not_stopped : (held : Held) (ys : List ℕ) → Shown held ys ≡ Stopped → ⊥
not_stopped held ys h = cc

not_down : (held : Held) (ys : List ℕ) → Shown held ys ≡ Down → ⊥
not_down held ys h = cc

performed_reply : (net : Network) (w : World) (v octets : ℕ) (environment : Environment) (e : Effect) (held : Held) (ys : List ℕ) → IsShown held ys (perform net w v octets environment e) →
    e.reply ≡ Shown held ys
unfolding perform
performed_reply net w v octets environment e held ys =
    let P : World × Outcome → Type 0 = λ r. IsShown held ys r → e.reply ≡ Shown held ys in
    let added : ℕ = added_len (w.journal v).version e.batch in
    by_test P (is_no_memory environment || not (list_all is_numbered e.batch)) _ _ (λ x h. absurd (other_reply held ys Memory (not_memory held ys) h))
    (λ x. by_test P (nat_lt journal_limit ((w.journal v).length' + added)) _ _
    (λ y h. absurd (other_reply held ys (JournalFull (w.journal v).length' added) (not_full held ys (w.journal v).length' added) h))
    (λ y. by_test P (nat_lt 0 octets && (not (has_octets (net.entropy v) (w.drawn v + octets)) || is_entropy_fault environment)) _ _
    (λ z h. absurd (other_reply held ys NoRandom (not_random held ys) h))
    (λ z. by_test P (is_io_fault environment && not (is_nil e.batch)) _ _ (λ u h. absurd (other_reply held ys Stopped (not_stopped held ys) h)) (λ u h. same_reply held ys e.reply h))))

pub shown_reply : (net : Network) (w : World) (v : ℕ) (n : Name) (environment : Environment) (held : Held) (ys : List ℕ) →
    (step net w (Ask v (Show n) environment)).1 ≡ Replies (Shown held ys) → show (view_of net w v) n ≡ Shown held ys
unfolding step handle decide random_need
shown_reply net w v n environment held ys =
    by_test (λ (r : World × Outcome). IsShown held ys r → show (view_of net w v) n ≡ Shown held ys) (w.up v) _ _ (λ up h. performed_reply net w v 0 environment _ held ys h) (λ down h. absurd (other_reply held ys Down (not_down held ys) h))

pub shown_in : (net : Network) (w : World) (v : ℕ) (n : Name) (environment : Environment) (held : Held) (b : ℕ) (bytes : List ℕ) →
    (step net w (Ask v (Show n) environment)).1 ≡ Replies (Shown held (b ∷ bytes)) → AreBytesOf w.durable.facts n (b ∷ bytes)
unfolding show
shown_in net w v n environment held b bytes h =
    shows net.site w.durable (view_of net w v) (bare_view net w v) (view_sees net w v) n (fact_at (view_of net w v).facts n) refl held b bytes (shown_reply net w v n environment held (b ∷ bytes) h)
