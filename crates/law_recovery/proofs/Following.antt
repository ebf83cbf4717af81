-- A view that follows what a node knows differs from it only in bytes that aren't needed. Each record that fits keeps
-- this so.
use Rattle.std.proofs.Common.{◌≡◌, ℕ, Bool, true, false, cond, ◌&&◌, ◌||◌, List, [], ◌∷◌, ◌++◌, refl, sym, ◌∙◌, ap, subst, Option, Some, None, inl, inr, map}
use Rattle.std.specs.Prelude.{if◌then◌else◌, ◌==◌, is_some}
use Rattle.std.specs.List.{list_any, cons_option}
use Rattle.std.proofs.lemmas.List.Elements.{filter-append}
use Rattle.qkd_base.specs.Name.{Name, name_eq, has}
use Rattle.qkd_base.specs.Family.{number_set}
use Rattle.net_model.specs.declared.fact.Fact.{Fact}
use Rattle.net_model.specs.declared.record.Record.TheVariants.{Acked, Handed, Closed}
use Rattle.net_model.specs.Table.{PartOf, is_named, parts_of, name_of, fact_at, has_fact, facts_of, was_handed}
use Rattle.net_model.specs.Site.{Site}
use Rattle.net_model.specs.World.{Network, World, Durable}
use Rattle.net_model.specs.Records.{apply_record}
use Rattle.net_model.specs.View.{View, handed_at}
use Rattle.net_model.specs.Needed.{is_needed, masked_fact}
use Rattle.net_model.specs.Fold.{owes, is_end_of, is_handed_by, is_stream_of, marked, view_record}
use Rattle.law_base.proofs.Base.{name_eq_from, eq_from, eq_same, and_right, or_cases, or_first, or_second, or_left, or_right, number_set_same, when_true, when_false}
use Rattle.law_base.proofs.Tables.{found_name, has-push}
use Rattle.law_base.proofs.Keeping.{handed-push}
use Rattle.law_base.proofs.Seen.{bare_view}
use Rattle.law_recovery.proofs.Shapes.{shapes, IsLike, masked_shapes, AllStay, still_masked}
use Rattle.law_recovery.proofs.Staying.{owed_all, needed_stays}

pub record Follows (a b : View) : Type 0 where
  pub me : a.me ≡ b.me
  pub acked : a.acked ≡ b.acked
  pub handed : a.handed ≡ b.handed
  pub closed : a.closed ≡ b.closed
  pub ports : a.ports ≡ b.ports
  pub facts : map (masked_fact b) a.facts ≡ map (masked_fact b) b.facts

pub same_shapes : (a b : View) → Follows a b → shapes a.facts ≡ shapes b.facts
same_shapes a b h = sym (masked_shapes b a.facts) ∙ ap shapes h.facts ∙ masked_shapes b b.facts

pub follows_like : (a b : View) → Follows a b → IsLike a b
follows_like a b h = record { me = h.me; acked = h.acked; handed = h.handed; facts = same_shapes a b h }

-- If no fact of the table becomes needed, no known fact does.
pub listed_stay : (T : List Fact) (b c : View) → ((f : Fact) → fact_at T (name_of f) ≡ Some f → is_needed b f ≡ false → is_needed c f ≡ false) → (ns : List Name) →
    AllStay b c (facts_of T ns)
listed_stay T b c h [] = tt
listed_stay T b c h (n ∷ ns) =
    elim (fact_at T n) as (λ o. fact_at T n ≡ o → AllStay b c (cons_option o (facts_of T ns))) [
      | None ↦ λ e. listed_stay T b c h ns
      | Some f ↦ λ e. (h f (ap (fact_at T) (found_name T n f e) ∙ e), listed_stay T b c h ns)
    ] refl

-- A fact that isn't known isn't among the facts of known names.
pub unlisted : (T : List Fact) (ns : List Name) (n : Name) → has ns n ≡ false → has_fact (facts_of T ns) n ≡ false
unlisted T [] n h = refl
unlisted T (m ∷ ns) n h =
    let other : name_eq m n ≡ false = or_first (name_eq m n) (has ns n) h in
    let rest = unlisted T ns n (or_second (name_eq m n) (has ns n) h) in
    elim (fact_at T m) as (λ o. fact_at T m ≡ o → has_fact (cons_option o (facts_of T ns)) n ≡ false) [
      | None ↦ λ e. rest
      | Some f ↦ λ e.
          ap (λ (t : Bool). is_some (if t then Some f else fact_at (facts_of T ns) n)) (ap (λ (x : Name). name_eq x n) (found_name T m f e) ∙ other) ∙ rest
    ] refl

pub handed_only : (s : Site) (v : ℕ) (hs : List (Name × ℕ)) (n : Name) (sae : ℕ) → was_handed (handed_at s v hs) n sae ≡ true →
    (s.home sae ≡ v) × (was_handed hs n sae ≡ true)
handed_only s v [] n sae h = cc
handed_only s v (x ∷ hs) n sae h =
    elim (s.home x.1 == v) as (λ t. (s.home x.1 == v) ≡ t → was_handed (cond t (x ∷ handed_at s v hs) (handed_at s v hs)) n sae ≡ true →
    (s.home sae ≡ v) × ((name_eq x.0 n && (x.1 == sae)) || was_handed hs n sae) ≡ true) [
      | true ↦ λ e k. elim (or_cases (name_eq x.0 n && (x.1 == sae)) (was_handed (handed_at s v hs) n sae) k) [
        | inl one ↦ (
          ap s.home (sym (eq_from x.1 sae (and_right (name_eq x.0 n) (x.1 == sae) one))) ∙ eq_from (s.home x.1) v e,
          or_left (name_eq x.0 n && (x.1 == sae)) (was_handed hs n sae) one,
        )
        | inr later ↦ let r = handed_only s v hs n sae later in (r.0, or_right (name_eq x.0 n && (x.1 == sae)) (was_handed hs n sae) r.1)
      ]
      | false ↦ λ e k. let r = handed_only s v hs n sae k in (r.0, or_right (name_eq x.0 n && (x.1 == sae)) (was_handed hs n sae) r.1)
    ] refl h

handed_at-push : (s : Site) (v : ℕ) (hs : List (Name × ℕ)) (n : Name) (sae : ℕ) → s.home sae ≡ v → handed_at s v (hs ++ (n, sae) ∷ []) ≡ handed_at s v hs ++ (n, sae) ∷ []
handed_at-push s v hs n sae at =
    let home : (s.home sae == v) ≡ true = ap (λ (u : ℕ). u == v) at ∙ eq_same v in
    filter-append (λ h. s.home h.1 == v) hs ((n, sae) ∷ []) ∙ ap (λ (t : Bool). handed_at s v hs ++ cond t ((n, sae) ∷ []) []) home

pub part_named : (o : Option PartOf) (n : Name) → is_named o n ≡ true → (q : PartOf) × (o ≡ Some q) × (q.key ≡ n)
part_named None n h = cc
part_named (Some q) n h = (q, refl, name_eq_from q.key n h)

module _ (net : Network) (w : World) (v : ℕ) where
  -- The world with another durable state, and what the node knows in it.
  abbrev pub seen : Durable → View
  seen d = bare_view net (record w { durable = d }) v

  pub acked_follows : (d : Durable) (a : View) (n : Name) → Follows a (seen d) → owes a n ≡ true → Follows (view_record (Acked n) a) (seen (apply_record net.site v (Acked n) d))
  unfolding view_record apply_record is_needed
  acked_follows d a n h fits =
      let more : number_set d.acked v (d.acked v ++ n ∷ []) v ≡ d.acked v ++ n ∷ [] = number_set_same d.acked v (d.acked v ++ n ∷ []) in
      subst (λ (x : View). Follows x (seen (apply_record net.site v (Acked n) d))) (sym (when_true (owes a n) (record a { acked = a.acked ++ n ∷ [] }) a fits)) (record {
        me = h.me;
        acked = ap (λ (ns : List Name). ns ++ n ∷ []) h.acked ∙ sym more;
        handed = h.handed;
        closed = h.closed;
        ports = h.ports;
        facts = still_masked (seen d) (seen (apply_record net.site v (Acked n) d)) a.facts (facts_of d.facts (d.known v)) h.facts (listed_stay d.facts (seen d)
            (seen (apply_record net.site v (Acked n) d)) (λ f there. stays f more) (d.known v));
      })
    where
      stays : (f : Fact) → number_set d.acked v (d.acked v ++ n ∷ []) v ≡ d.acked v ++ n ∷ [] → is_needed (seen d) f ≡ false → is_needed (seen (apply_record net.site v (Acked n) d)) f ≡ false
      stays f more =
          let known : List Fact = facts_of d.facts (d.known v) in
          let acks : (m : Name) → has (d.acked v) m ≡ true → has (number_set d.acked v (d.acked v ++ n ∷ []) v) m ≡ true =
          λ m k. ap (λ (ns : List Name). has ns m) more ∙ has-push (d.acked v) n m ∙ or_left (has (d.acked v) m) (name_eq n m) k in
          needed_stays v known known (d.acked v) (number_set d.acked v (d.acked v ++ n ∷ []) v) (handed_at net.site v d.handed) (handed_at net.site v d.handed)
          (λ m g k. k) acks (λ m sae k. k) f (λ p is at has' none. owed_all v known known (d.acked v) (number_set d.acked v (d.acked v ++ n ∷ []) v)
          (handed_at net.site v d.handed) (handed_at net.site v d.handed) (λ m g k. k) acks (λ m sae k. k) (parts_of known p.key) none)

  pub handed_follows : (d : Durable) (a : View) (n : Name) (sae : ℕ) → Follows a (seen d) → list_any (λ f. is_end_of a f && is_handed_by n sae f) a.facts ≡ true →
      was_handed a.handed n sae ≡ false → net.site.home sae ≡ v → Follows (view_record (Handed n sae) a) (seen (apply_record net.site v (Handed n sae) d))
  unfolding view_record apply_record is_needed
  handed_follows d a n sae h fits fresh home =
      let push = handed_at-push net.site v d.handed n sae home in
      subst (λ (x : View). Follows x (seen (apply_record net.site v (Handed n sae) d)))
      (sym (when_true (list_any (λ f. is_end_of a f && is_handed_by n sae f) a.facts) (record a { handed = marked a.handed n sae }) a fits)) (record {
        me = h.me;
        acked = h.acked;
        handed = when_false (was_handed a.handed n sae) a.handed (a.handed ++ (n, sae) ∷ []) fresh ∙ ap (λ (hs : List (Name × ℕ)). hs ++ (n, sae) ∷ []) h.handed ∙ sym push;
        closed = h.closed;
        ports = h.ports;
        facts = still_masked (seen d) (seen (apply_record net.site v (Handed n sae) d)) a.facts (facts_of d.facts (d.known v)) h.facts (listed_stay d.facts (seen d)
            (seen (apply_record net.site v (Handed n sae) d)) (λ f there. stays f push) (d.known v));
      })
    where
      stays : (f : Fact) → handed_at net.site v (d.handed ++ (n, sae) ∷ []) ≡ handed_at net.site v d.handed ++ (n, sae) ∷ [] → is_needed (seen d) f ≡ false →
          is_needed (seen (apply_record net.site v (Handed n sae) d)) f ≡ false
      stays f push =
          let known : List Fact = facts_of d.facts (d.known v) in
          let hands : (m : Name) (t : ℕ) → was_handed (handed_at net.site v d.handed) m t ≡ true → was_handed (handed_at net.site v (d.handed ++ (n, sae) ∷ [])) m t ≡ true =
          λ m t k. ap (λ (hs : List (Name × ℕ)). was_handed hs m t) push ∙ handed-push (handed_at net.site v d.handed) n sae m t ∙
          or_left (was_handed (handed_at net.site v d.handed) m t) (name_eq n m && (sae == t)) k in
          needed_stays v known known (d.acked v) (d.acked v) (handed_at net.site v d.handed) (handed_at net.site v (d.handed ++ (n, sae) ∷ [])) (λ m g k. k) (λ m k. k) hands f
          (λ p is at has' none. none)

  pub closed_follows : (d : Durable) (a : View) (n : Name) (sae : ℕ) → Follows a (seen d) → list_any (λ f. is_end_of a f && is_stream_of n f) a.facts ≡ true →
      was_handed a.closed n sae ≡ false → Follows (view_record (Closed n sae) a) (seen (apply_record net.site v (Closed n sae) d))
  unfolding view_record apply_record is_needed
  closed_follows d a n sae h fits fresh =
      subst (λ (x : View). Follows x (seen (apply_record net.site v (Closed n sae) d)))
      (sym (when_true (list_any (λ f. is_end_of a f && is_stream_of n f) a.facts) (record a { closed = marked a.closed n sae }) a fits)) (record {
        me = h.me;
        acked = h.acked;
        handed = h.handed;
        closed = when_false (was_handed a.closed n sae) a.closed (a.closed ++ (n, sae) ∷ []) fresh ∙ ap (λ (hs : List (Name × ℕ)). hs ++ (n, sae) ∷ []) h.closed ∙
            sym (number_set_same d.closed v (d.closed v ++ (n, sae) ∷ []));
        ports = h.ports;
        facts = h.facts;
      })
