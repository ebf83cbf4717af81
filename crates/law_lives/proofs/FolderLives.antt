-- What holds of one life's end holds of all later lives over the folder, and their frames take later bytes.
use Rattle.std.proofs.Common.{◌≡◌, ℕ, zero, suc, ◌<◌, Bool, true, false, ◌&&◌, List, [], ◌∷◌, ◌++◌, length, length-append, refl, sym, ◌∙◌, ap, subst, arith, Option, Some, None, ◌⊎◌, inl, inr}
use Rattle.std.specs.Prelude.{slice_get}
use Rattle.std.specs.List.{list_any}
use Rattle.qkd_base.specs.Name.{Name, name_eq, has}
use Rattle.qkd_base.specs.Lane.{lane_eq}
use Rattle.qkd_base.specs.declared.lane.Lane.{Lane}
use Rattle.net_model.specs.declared.fact.Fact.{Fact}
use Rattle.net_model.specs.Table.{PartOf, part_of, is_part_of, name_of, is_secret, bytes_of, fact_at, has_fact, was_handed, sae_at}
use Rattle.net_model.specs.Site.{Site, outgoing_lanes}
use Rattle.net_model.specs.declared.record.Record.{Record}
use Rattle.net_model.specs.OctetSequence.{OctetSequence}
use Rattle.net_model.specs.Sealing.{Sealing}
use Rattle.net_model.specs.View.{View}
use Rattle.net_model.specs.Action.{Action}
use Rattle.net_model.specs.World.{Network, World, Durable, Owner, Journal}
use Rattle.net_model.specs.Ownership.{covers}
use Rattle.net_model.specs.Handings.{is_single, MayHave}
use Rattle.net_model.specs.Invariant.{Conserved}
use Rattle.net_model.specs.Deliveries.{Delivery, is_of_name}
use Rattle.law_base.proofs.Base.{and_left, and_right, and_both, or_cases, or_left, name_eq_from, name_eq_same, not_both}
use Rattle.law_base.proofs.Tables.{found_name, is_some_of_some}
use Rattle.law_invariant.specs.HandedName.{handed_name}
use Rattle.law_run.proofs.Continuing.{frames_above}
use Rattle.law_lives.specs.Belongs.{IsLike, NothingBehind, AreRead, Belongs}
use Rattle.law_lives.specs.KeptWorld.{with_bytes, kept_network, kept_world}
use Rattle.law_lives.specs.FolderLives.{BeginsLife, IsNextOver, FollowOver, AreLivesOver, IsEarlierOver}
use Rattle.law_lives.specs.Lasting.{Lasts}
use Rattle.law_lives.specs.Lives.{Life, end_of, rest_of, handed_in}
use Rattle.law_lives.specs.SameViews.{SeeTheSame, HasAllOf}
use Rattle.law_lives.proofs.Behind.{run_behind, rest_behind}
use Rattle.law_lives.proofs.KeptGiven.{given_back}
use Rattle.law_lives.proofs.KeptViews.{view_read}
use Rattle.law_lives.proofs.LeftViews.{views_belong}
use Rattle.law_lives.proofs.LikeTables.{IsThere, HasAll, single_blind, one_moves, sae_moves, same_secret}
use Rattle.law_lives.proofs.Lives.{Begins, kept, grown, owns, handed_new, rests, rest_after}
use Rattle.law_lives.proofs.SameViews.{each_has_all, same_back, all_facts, like_there}
use Rattle.law_lives.proofs.Groups.{HasNoNewPart, part_owned, part_batches, master_home, group_still}
use Rattle.law_lives.proofs.Handed.{IsAllHanded, IsGroupHanded, IsUnneededAt, single_secret, same_end, search, all_handed, group_handed}
use Rattle.law_lives.proofs.Permitted.{run_permitted, rest_permitted}
use Rattle.law_lives.proofs.WorldViews.{part_named}
use Rattle.law_lives.proofs.LikeFacts.{AreAlike, alike_same, alike_is, handed_blind, part_like, part_key, part_secret}
use Rattle.law_lives.proofs.Lastings.{lasts_then, rest_leases}
use Rattle.law_lives.proofs.Worlds.{one_world}

-- What an earlier life had is in this world, but for bytes. Its frames' bytes are below those that are free.
record IsBeforeIn (a : Life) (w : World) : Type 0 where
  facts : HasAll (end_of a).durable.facts w.durable.facts
  known : (v : ℕ) (n : Name) → has ((end_of a).durable.known v) n ≡ true → has (w.durable.known v) n ≡ true
  handed : (n : Name) (sae : ℕ) → was_handed (end_of a).durable.handed n sae ≡ true → was_handed w.durable.handed n sae ≡ true
  below : (u : ℕ) (l : Lane) (j x : ℕ) → u < a.net.site.nodes → list_any (λ k. lane_eq k l) (outgoing_lanes a.net.site u) ≡ true →
      covers (end_of a).durable.facts (slice_get ((end_of a).frames l) j) x ≡ true → x < length (w.durable.own l)
  -- a key or chunk has its bytes, or is in use no more
  secrets : (n : Name) (f : Fact) → fact_at (end_of a).durable.facts n ≡ Some f → is_single f ≡ true → (fact_at w.durable.facts n ≡ Some f) ⊎ IsAllHanded w.durable n
  -- so is a part, or its group key
  groups : (n : Name) (f : Fact) (p : PartOf) → fact_at (end_of a).durable.facts n ≡ Some f → part_of f ≡ Some p → (fact_at w.durable.facts n ≡ Some f) ⊎ IsGroupHanded w.durable p.key

-- What both ends have got they still have when more is known.
handed_still : (net : Network) (v w : World) → Conserved net v → Lasts v.durable w.durable → (n : Name) (f : Fact) → fact_at v.durable.facts n ≡ Some f → is_single f ≡ true →
    IsAllHanded v.durable n → IsAllHanded w.durable n
handed_still net v w c lasts n f at single h at_first g sae there e =
    let same : Some g ≡ Some f = sym there ∙ lasts.facts n f at in
    let is : g ≡ f = cc in
    lasts.handed n sae (h at_first f sae at (same_end net v c w.durable.facts lasts.facts n f at single at_first sae (ap (sae_at w.durable.facts at_first) (sym is) ∙ e)))

single_alike : (f g : Fact) → AreAlike f g → is_single g ≡ true → is_single f ≡ true
single_alike f g h single = alike_same is_single single_blind f g h ∙ single

-- Of the same names, what both ends have got in one world they have got in the other one, where each node sees the same.
handed_same : (a b : Network) (v w : World) → SeeTheSame a b v w → (n : Name) → IsAllHanded v.durable n → IsAllHanded w.durable n
handed_same a b v w s n h at_first g sae there e =
    let back = all_facts b a w v s.second s.second_behind (same_back a b v w s).sees in
    let x = back n g there in
    (each_has_all a b v w s).handed n sae (h at_first x.fact sae x.there (sae_moves w.durable.facts v.durable.facts back at_first x.fact g sae x.alike e))

group_same : (a b : Network) (v w : World) → SeeTheSame a b v w → (n : Name) → IsGroupHanded v.durable n → IsGroupHanded w.durable n
group_same a b v w s n h k f p at is key =
    let back = all_facts b a w v s.second s.second_behind (same_back a b v w s).sees in
    let x = back k f at in
    let q = part_like x.fact f x.alike p is in
    let r = h k x.fact q.part x.there q.is (q.key ∙ key) in
    let handed = (each_has_all a b v w s).handed in (
      ap (was_handed w.durable.handed n) (sym q.master) ∙ handed n q.part.master r.0,
      ap (was_handed w.durable.handed n) (sym q.slave) ∙ handed n q.part.slave r.1,
    )

-- A secret of a world, in another one in which each node sees the same: it has its bytes there, or no node needs these.
exact_or_unneeded : (a b : Network) (v w : World) → SeeTheSame a b v w → (n : Name) (f : Fact) → fact_at v.durable.facts n ≡ Some f → is_secret f ≡ true →
    (fact_at w.durable.facts n ≡ Some f) ⊎ ((u : ℕ) → u < b.site.nodes → IsUnneededAt b w (handed_name f) u)
exact_or_unneeded a b v w s n f at secret =
    let x = all_facts a b v w s.first s.first_behind s.sees n f at in
    elim (search b w (handed_name f)) [
      | inr nowhere ↦ inr nowhere
      | inl need ↦
          let other : fact_at v.durable.facts need.name ≡ Some need.fact = (each_has_all b a w v (same_back a b v w s)).needed need.node need.name need.fact need.there need.knows need.need in
          let named : handed_name f ≡ handed_name need.fact = sym need.named in
          let named2 : handed_name x.fact ≡ handed_name need.fact = alike_same handed_name handed_blind x.fact f x.alike ∙ sym need.named in
          let bytes : bytes_of f ≡ bytes_of x.fact =
          same_secret v.durable.facts s.first.now.groups n need.name f need.fact at other named ∙ sym (same_secret w.durable.facts s.second.now.groups n need.name x.fact need.fact x.there need.there named2) in
          let is : x.fact ≡ f = sym (alike_is x.fact f x.alike) ∙ ap (with_bytes f) (sym bytes) ∙ alike_is f f refl in
          inl (x.there ∙ ap (λ (y : Fact). Some y) is)
    ]

kept_or_handed : (a b : Network) (v w : World) → SeeTheSame a b v w → (n : Name) (f : Fact) → fact_at v.durable.facts n ≡ Some f → is_single f ≡ true →
    (fact_at w.durable.facts n ≡ Some f) ⊎ IsAllHanded w.durable n
kept_or_handed a b v w s n f at single = elim (exact_or_unneeded a b v w s n f at (single_secret f single)) [
  | inl there ↦ inl there
  | inr nowhere ↦
      let x = all_facts a b v w s.first s.first_behind s.sees n f at in
      let named = alike_same handed_name handed_blind x.fact f x.alike in
      inr (all_handed b w s.second s.second_behind n x.fact x.there (single_alike x.fact f x.alike single) (λ u less m g there knows secret name. nowhere u less m g there knows secret (name ∙ named)))
]

kept_or_group : (a b : Network) (v w : World) → SeeTheSame a b v w → (n : Name) (f : Fact) (p : PartOf) → fact_at v.durable.facts n ≡ Some f → part_of f ≡ Some p →
    (fact_at w.durable.facts n ≡ Some f) ⊎ IsGroupHanded w.durable p.key
kept_or_group a b v w s n f p at is = elim (exact_or_unneeded a b v w s n f at (part_secret f p is)) [
  | inl there ↦ inl there
  | inr nowhere ↦ inr (group_handed b w s.second s.second_behind p.key (λ u less m g there knows secret name. nowhere u less m g there knows secret (name ∙ sym (part_key f p is))))
]

all_then : (T U V : List Fact) → HasAll T U → ((n : Name) (f : Fact) → fact_at U n ≡ Some f → fact_at V n ≡ Some f) → HasAll T V
all_then T U V h more n f at = let x = h n f at in record { fact = x.fact; there = more n x.fact x.there; alike = x.alike }

like_found : (f : Fact) (T : List Fact) (n : Name) (o : Option Fact) → fact_at T n ≡ o → IsLike f o → IsThere T n f
like_found f T n None e h = absurd h
like_found f T n (Some g) e h = record { fact = g; there = e; alike = sym h }

all_both : (T U V : List Fact) → HasAll T U → ((n : Name) (f : Fact) → fact_at U n ≡ Some f → IsLike f (fact_at V n)) → HasAll T V
all_both T U V h more n f at =
    let x = h n f at in
    let y = like_found x.fact V n (fact_at V n) refl (more n x.fact x.there) in
    record { fact = y.fact; there = y.there; alike = y.alike ∙ x.alike }

module _ (l : Life) (h : BeginsLife l) where
  begun : Begins l
  begun = record { rest = h.begins.rest; conserved = h.begins.conserved }

  end_behind : NothingBehind l.net (end_of l)
  end_behind = run_behind l.net h.life.network l.actions l.begin h.begins.conserved h.life.steps h.behind

  left_behind : NothingBehind l.net (rest_of l)
  left_behind = let k = kept l begun h.life in rest_behind l.net (end_of l) k.conserved k.fits l.made l.journals end_behind

  after_end : IsBeforeIn l (rest_of l)
  after_end =
      let r = rest_after l begun h.life in
      record { facts = λ n f at. record { fact = f; there = r.lasts.facts n f at; alike = refl }; known = r.lasts.known; handed = r.lasts.handed; below = λ u k j x less listed covered. r.below k j x covered; secrets = λ n f at single. inl (r.lasts.facts n f at); groups = λ n f p at is. inl (r.lasts.facts n f at) }

  -- No part is added to a group key that all had got when the life began.

  module _ (n k : Name) (x : Fact) (q : PartOf) (at : fact_at l.begin.durable.facts k ≡ Some x) (is : part_of x ≡ Some q) (key : q.key ≡ n) (done : IsGroupHanded l.begin.durable n) where
    at_home : l.net.site.home q.master ≡ n.node
    at_home = master_home l.net l.begin h.begins.conserved k x q at is ∙ ap (λ (m : Name). m.node) key

    abbrev OldParts : Durable → Type 0
    OldParts = HasNoNewPart l.net.site l.begin.durable.facts n q.master at_home

    begin_old : OldParts l.begin.durable
    begin_old = record { handed = (done k x q at is key).0; parts = λ m f p there has_part named. there }

    end_old : OldParts (end_of l).durable
    end_old =
        run_permitted l.net h.life.network OldParts (part_owned l.net.site l.begin.durable.facts n q.master at_home) (part_batches l.net.site l.begin.durable.facts n q.master at_home)
        l.actions l.begin h.begins.conserved h.life.steps begin_old

    left_old : OldParts (rest_of l).durable
    left_old =
        let held = kept l begun h.life in
        rest_permitted l.net h.life.network OldParts (part_owned l.net.site l.begin.durable.facts n q.master at_home) (part_batches l.net.site l.begin.durable.facts n q.master at_home)
        (end_of l) held.conserved held.fits l.made end_old l.journals

    group_stays : IsGroupHanded (rest_of l).durable n
    group_stays =
        let g = grown l begun h.life in
        let r = rest_after l begun h.life in
        group_still l.net.site l.begin.durable (rest_of l).durable n q.master at_home (lasts_then l.begin.durable (end_of l).durable (rest_of l).durable g r.lasts) left_old done

    -- What this life hands out of it was not handed to all before.
    not_all : (sae : ℕ) → was_handed l.begin.durable.handed n sae ≡ false → MayHave l.net.site (end_of l).durable.facts (end_of l).durable.known n sae → ⊥
    not_all sae fresh (inl one) =
        let c = (kept l begun h.life).conserved in
        let free = c.now.groups.free k x q ((grown l begun h.life).facts k x at) is in
        let there = is_some_of_some (fact_at (end_of l).durable.facts n) one.fact one.there in
        not_both (has_fact (end_of l).durable.facts n) there (ap (has_fact (end_of l).durable.facts) (sym key) ∙ free)
    not_all sae fresh (inr group) =
        let old = end_old.parts group.name group.one.fact group.one.part group.one.there group.one.is group.one.key in
        let both = done group.name group.one.fact group.one.part old group.one.is group.one.key in
        elim group.is_end [
          | inl master ↦ not_both (was_handed l.begin.durable.handed n sae) (ap (was_handed l.begin.durable.handed n) (sym master.0) ∙ both.0) fresh
          | inr slave ↦ not_both (was_handed l.begin.durable.handed n sae) (ap (was_handed l.begin.durable.handed n) (sym slave.0) ∙ both.1) fresh
        ]

  -- A life that began behind an earlier one leaves what was before that one.
  still_before : (a : Life) → IsBeforeIn a l.begin → IsBeforeIn a (rest_of l)
  still_before a before =
      let k = kept l begun h.life in
      let g = grown l begun h.life in
      let r = rest_after l begun h.life in
      record {
        facts = all_then (end_of a).durable.facts l.begin.durable.facts (rest_of l).durable.facts before.facts (λ n f at. r.lasts.facts n f (g.facts n f at));
        known = λ v n e. r.lasts.known v n (g.known v n (before.known v n e));
        handed = λ n sae e. r.lasts.handed n sae (g.handed n sae (before.handed n sae e));
        below = λ u m j x less listed covered.
            let low = before.below u m j x less listed covered in
            let more = owns l begun h.life m in
            let longer : length ((end_of l).durable.own m) ≡ length (l.begin.durable.own m ++ more.0) = ap (λ (os : List Owner). length os) more.1 in
            let room = k.conserved.now.room m in
            let lease = rest_leases l.net (end_of l) k.conserved k.fits l.made l.journals m in
            let owned = (rests l begun h.life).0.owned m in
            omega (arith, low, longer, length-append (l.begin.durable.own m) more.0, room.planned, lease, owned);
        secrets = λ n f at single. elim (before.secrets n f at single) [
          | inl there ↦ inl (r.lasts.facts n f (g.facts n f there))
          | inr done ↦
              let x = before.facts n f at in
              let lasts : Lasts l.begin.durable (rest_of l).durable = lasts_then l.begin.durable (end_of l).durable (rest_of l).durable g r.lasts in
              inr (handed_still l.net l.begin (rest_of l) h.begins.conserved lasts n x.fact x.there (single_alike x.fact f x.alike single) done)
        ];
        groups = λ n f p at is. elim (before.groups n f p at is) [
          | inl there ↦ inl (r.lasts.facts n f (g.facts n f there))
          | inr done ↦
              let x = before.facts n f at in
              let q = part_like x.fact f x.alike p is in
              inr (group_stays p.key n x.fact q.part x.there q.is q.key done)
        ];
      }

  at_end : (a : Life) → IsBeforeIn a l.begin → HasAll (end_of a).durable.facts (end_of l).durable.facts
  at_end a before = let g = grown l begun h.life in all_then (end_of a).durable.facts l.begin.durable.facts (end_of l).durable.facts before.facts g.facts

  -- What this life hands out of a key or chunk was not handed to both ends before.
  not_done : (n : Name) (x : Fact) (sae : ℕ) → fact_at l.begin.durable.facts n ≡ Some x → is_single x ≡ true → IsAllHanded l.begin.durable n → was_handed l.begin.durable.handed n sae ≡ false →
      MayHave l.net.site (end_of l).durable.facts (end_of l).durable.known n sae → ⊥
  not_done n x sae at single done fresh (inr group) =
      let k = (kept l begun h.life).conserved in
      let free = k.now.groups.free group.name group.one.fact group.one.part group.one.there group.one.is in
      let there = is_some_of_some (fact_at (end_of l).durable.facts n) x ((grown l begun h.life).facts n x at) in
      not_both (has_fact (end_of l).durable.facts n) there (ap (has_fact (end_of l).durable.facts) (sym group.one.key) ∙ free)
  not_done n x sae at single done fresh (inl one) =
      let g = grown l begun h.life in
      let same : Some one.fact ≡ Some x = sym one.there ∙ g.facts n x at in
      let is : one.fact ≡ x = cc in
      let end' : (at_first : Bool) → sae_at (end_of l).durable.facts at_first one.fact ≡ Some sae → was_handed l.begin.durable.handed n sae ≡ true =
      λ at_first e. done at_first x sae at (same_end l.net l.begin h.begins.conserved (end_of l).durable.facts g.facts n x at single at_first sae (ap (sae_at (end_of l).durable.facts at_first) (sym is) ∙ e)) in
      elim one.is_end [
        | inl first ↦ not_both (was_handed l.begin.durable.handed n sae) (end' true first.0) fresh
        | inr last ↦ not_both (was_handed l.begin.durable.handed n sae) (end' false last) fresh
      ]

  single_bytes : (a : Life) → BeginsLife a → IsBeforeIn a l.begin → (i j : ℕ) (d e : Delivery) (f : Fact) → slice_get (handed_in a) i ≡ Some d → slice_get (handed_in l) j ≡ Some e →
      d.name ≡ e.name → fact_at (end_of a).durable.facts d.name ≡ Some f → is_single f ≡ true → d.bytes ≡ e.bytes
  single_bytes a y before i j d e f at at2 name there single =
      let n : Name = d.name in
      let first = (handed_new a (record { rest = y.begins.rest; conserved = y.begins.conserved }) y.life i d at).bytes in
      let new = handed_new l begun h.life j e at2 in
      let named : name_of f ≡ d.name = found_name (end_of a).durable.facts d.name f there in
      let mine : is_of_name d.name f ≡ true = or_left (is_single f && name_eq (name_of f) d.name) _ (and_both (is_single f) (name_eq (name_of f) d.name) single (ap (λ (m : Name). name_eq m d.name) named ∙ name_eq_same d.name)) in
      elim (before.secrets d.name f there single) [
        | inl kept' ↦
            first.bytes d.name f there mine ∙
            sym (new.bytes.bytes d.name f ((grown l begun h.life).facts d.name f kept') (ap (λ (m : Name). is_of_name m f) (sym name) ∙ mine))
        | inr done ↦
            let x = before.facts d.name f there in
            let fresh : was_handed l.begin.durable.handed d.name e.sae ≡ false = ap (λ (m : Name). was_handed l.begin.durable.handed m e.sae) name ∙ new.fresh in
            let marked : was_handed (end_of l).durable.handed d.name e.sae ≡ true = ap (λ (m : Name). was_handed (end_of l).durable.handed m e.sae) name ∙ new.marked in
            absurd (not_done d.name x.fact e.sae x.there (single_alike x.fact f x.alike single) done fresh ((kept l begun h.life).conserved.now.handings.entitled d.name e.sae marked))
      ]

  part_bytes : (a : Life) → BeginsLife a → IsBeforeIn a l.begin → (i j : ℕ) (d e : Delivery) (k : Name) (f : Fact) (p : PartOf) → slice_get (handed_in a) i ≡ Some d → slice_get (handed_in l) j ≡ Some e →
      d.name ≡ e.name → fact_at (end_of a).durable.facts k ≡ Some f → part_of f ≡ Some p → p.key ≡ d.name → is_of_name d.name f ≡ true → d.bytes ≡ e.bytes
  part_bytes a y before i j d e k f p at at2 name there is key mine =
      let first = (handed_new a (record { rest = y.begins.rest; conserved = y.begins.conserved }) y.life i d at).bytes in
      let new = handed_new l begun h.life j e at2 in
      elim (before.groups k f p there is) [
        | inl kept' ↦
            first.bytes k f there mine ∙ sym (new.bytes.bytes k f ((grown l begun h.life).facts k f kept') (ap (λ (m : Name). is_of_name m f) (sym name) ∙ mine))
        | inr done ↦
            let x = before.facts k f there in
            let q = part_like x.fact f x.alike p is in
            let fresh : was_handed l.begin.durable.handed d.name e.sae ≡ false = ap (λ (m : Name). was_handed l.begin.durable.handed m e.sae) name ∙ new.fresh in
            let marked : was_handed (end_of l).durable.handed d.name e.sae ≡ true = ap (λ (m : Name). was_handed (end_of l).durable.handed m e.sae) name ∙ new.marked in
            absurd (not_all d.name k x.fact q.part x.there q.is (q.key ∙ key) (subst (IsGroupHanded l.begin.durable) key done) e.sae fresh
            ((kept l begun h.life).conserved.now.handings.entitled d.name e.sae marked))
      ]

  equal_bytes : (a : Life) → BeginsLife a → IsBeforeIn a l.begin → (i j : ℕ) (d e : Delivery) → slice_get (handed_in a) i ≡ Some d → slice_get (handed_in l) j ≡ Some e → d.name ≡ e.name → d.bytes ≡ e.bytes
  equal_bytes a y before i j d e at at2 name =
      let first = (handed_new a (record { rest = y.begins.rest; conserved = y.begins.conserved }) y.life i d at).bytes in
      elim (or_cases (is_single first.fact && name_eq (name_of first.fact) d.name) (is_part_of d.name first.fact) first.is) [
        | inl one ↦
            let single = and_left (is_single first.fact) (name_eq (name_of first.fact) d.name) one in
            let named = name_eq_from (name_of first.fact) d.name (and_right (is_single first.fact) (name_eq (name_of first.fact) d.name) one) in
            let place : first.name ≡ d.name = sym (found_name (end_of a).durable.facts first.name first.fact first.there) ∙ named in
            single_bytes a y before i j d e first.fact at at2 name (ap (fact_at (end_of a).durable.facts) (sym place) ∙ first.there) single
        | inr part ↦ let q = part_named d.name first.fact part in part_bytes a y before i j d e first.name first.fact q.0 at at2 name first.there q.1 q.2 first.is
      ]

  is_earlier : (a : Life) → BeginsLife a → IsBeforeIn a l.begin → IsEarlierOver a l
  is_earlier a y before =
      let g = grown l begun h.life in
      let all = at_end a before in
      let known : (v : ℕ) (n : Name) → has ((end_of a).durable.known v) n ≡ true → has ((end_of l).durable.known v) n ≡ true = λ v n e. g.known v n (before.known v n e) in
      record {
        facts = λ n f at. like_there (end_of l).durable.facts n f (all n f at);
        known = known;
        handed = λ n sae e. g.handed n sae (before.handed n sae e);
        ready = λ s n sae may. one_moves (end_of a).durable.facts (end_of l).durable.facts all (end_of a).durable.known (end_of l).durable.known known s n sae may;
        apart = λ u m i j x less listed early late.
            let low = before.below u m i x less listed early in
            let high = frames_above l.net l.begin (end_of l) h.begins.rest h.begins.conserved (kept l begun h.life).conserved (owns l begun h.life) m j x late in
            let owned = h.begins.rest.owned m in
            omega (arith, low, high, owned);
        once = λ i j d e at at2 name sae.
            let marked : was_handed l.begin.durable.handed d.name d.sae ≡ true =
            before.handed d.name d.sae (handed_new a (record { rest = y.begins.rest; conserved = y.begins.conserved }) y.life i d at).marked in
            let same : was_handed l.begin.durable.handed d.name d.sae ≡ was_handed l.begin.durable.handed e.name e.sae = (λ p. was_handed l.begin.durable.handed (name p) (sae p)) in
            not_both (was_handed l.begin.durable.handed e.name e.sae) (sym same ∙ marked) (handed_new l begun h.life j e at2).fresh;
        equal = equal_bytes a y before;
      }

  -- The next life begins where each node sees what this one left it.
  module _ (next : Life) (k : BeginsLife next) (n : IsNextOver l next) where
    next_same : SeeTheSame l.net next.net (rest_of l) next.begin
    next_same =
        let held = kept l begun h.life in
        let one = one_world l.net (end_of l) held.conserved held.fits l.made l.journals l.images h.life.sized h.life.read in
        record {
          first = (rests l begun h.life).1;
          second = k.begins.conserved;
          first_behind = left_behind;
          second_behind = k.behind;
          site = n.site;
          sees = λ u less. n.sees u less ∙ sym (one.given u less);
        }

    to_next : (a : Life) → a.net.site ≡ l.net.site → IsBeforeIn a (rest_of l) → IsBeforeIn a next.begin
    to_next a site before =
        let all : HasAllOf l.net (rest_of l) next.begin = each_has_all l.net next.net (rest_of l) next.begin next_same in
        record {
          facts = all_both (end_of a).durable.facts (rest_of l).durable.facts next.begin.durable.facts before.facts all.facts;
          known = λ v m e. all.known v m (before.known v m e);
          handed = λ m sae e. all.handed m sae (before.handed m sae e);
          below = λ u m j x less listed covered.
              let low = before.below u m j x less listed covered in
              let lane = all.lanes u m (subst (λ (s : Site). u < s.nodes) site less) (subst (λ (s : Site). list_any (λ q. lane_eq q m) (outgoing_lanes s u) ≡ true) site listed) in
              let lease = lane.1 in
              let owned = (rests l begun h.life).0.owned m in
              let owned2 = k.begins.rest.owned m in
              omega (arith, low, lease, owned, owned2);
          secrets = λ m f at single. elim (before.secrets m f at single) [
            | inl there ↦ kept_or_handed l.net next.net (rest_of l) next.begin next_same m f there single
            | inr done ↦ inr (handed_same l.net next.net (rest_of l) next.begin next_same m done)
          ];
          groups = λ m f p at is. elim (before.groups m f p at is) [
            | inl there ↦ kept_or_group l.net next.net (rest_of l) next.begin next_same m f p there is
            | inr done ↦ inr (group_same l.net next.net (rest_of l) next.begin next_same p.key done)
          ];
        }

all_later : (ls : List Life) (l : Life) → BeginsLife l → FollowOver l ls → (a : Life) → BeginsLife a → a.net.site ≡ l.net.site → IsBeforeIn a (rest_of l) → (j : ℕ) (m : Life) →
    slice_get ls j ≡ Some m → IsEarlierOver a m
all_later [] l h f a y site before j m at = absurd (cc)
all_later (n ∷ ls) l h f a y site before zero m at =
    let is : n ≡ m = cc in
    subst (IsEarlierOver a) is (is_earlier n f.1 a y (to_next l h n f.1 f.0 a site before))
all_later (n ∷ ls) l h f a y site before (suc j) m at =
    all_later ls n f.1 f.2 a y (site ∙ sym f.0.site) (still_before n f.1 a (to_next l h n f.1 f.0 a site before)) j m at

following : (ls : List Life) (l : Life) → BeginsLife l → FollowOver l ls → (i j : ℕ) (a m : Life) → i < j → slice_get (l ∷ ls) i ≡ Some a → slice_get (l ∷ ls) j ≡ Some m → IsEarlierOver a m
following ls l h f i zero a m less at at2 = absurd (omega (arith, less))
following ls l h f zero (suc j) a m less at at2 = let is : l ≡ a = cc in subst (λ (x : Life). IsEarlierOver x m) is (all_later ls l h f l h refl (after_end l h) j m at2)
following [] l h f (suc i) (suc j) a m less at at2 = absurd (cc)
following (n ∷ ls) l h f (suc i) (suc j) a m less at at2 = following ls n f.1 f.2 i j a m (omega (arith, less)) at at2

pub earlier_over : (ls : List Life) → AreLivesOver ls → (i j : ℕ) (a b : Life) → i < j → slice_get ls i ≡ Some a → slice_get ls j ≡ Some b → IsEarlierOver a b
earlier_over [] h i j a b less at at2 = absurd (cc)
earlier_over (l ∷ ls) h i j a b less at at2 = following ls l h.0 h.1 i j a b less at at2

-- The views of what a life left belong to one network.
pub life_belongs : (l : Life) (views : List View) → BeginsLife l → AreRead l.net.site l.images views → Belongs l.net.site l.net.device views
life_belongs l views h read =
    let held = kept l (begun l h) h.life in
    let one = one_world l.net (end_of l) held.conserved held.fits l.made l.journals l.images h.life.sized h.life.read in
    views_belong l.net (rest_of l) l.images views one.conserved (left_behind l h) read one.given

pub kept_next : (l : Life) (sealing : Sealing) (devices entropies : ℕ → OctetSequence) (views : List View) (journals : ℕ → Journal) (actions : List Action)
    (images : ℕ → List (List Record)) (made : ℕ → Bool) (later : ℕ → Journal) → AreRead l.net.site l.images views → Belongs l.net.site devices views →
    IsNextOver l (record { net = kept_network l.net.site sealing devices entropies views; begin = kept_world l.net.site views journals; actions = actions; images = images; made = made; journals = later })
kept_next l sealing devices entropies views journals actions images made later read b = record {
  site = refl;
  sees = λ v less. given_back l.net.site sealing devices entropies l.images views read b journals v less ∙ view_read l.net.site l.images views read v less;
}
