-- A new fact that a node makes under the next count of its names.
use Rattle.std.proofs.Common.{◌≡◌, ℕ, ◌+◌, ◌<◌, ◌≤◌, true, false, List, [], ◌∷◌, ◌++◌, refl, sym, ◌∙◌, ap, subst, arith, Option, Some, None, inl, inr}
use Rattle.std.specs.Prelude.{◌==◌}
use Rattle.std.specs.List.{list_any}
use Rattle.qkd_base.specs.Name.{Name, name_eq, has}
use Rattle.qkd_base.specs.Route.{first_of, is_route}
use Rattle.qkd_base.proofs.Routes.{two_of}
use Rattle.qkd_base.specs.declared.lane.Lane.{Lane}
use Rattle.net_model.specs.declared.fact.Fact.{Fact}
use Rattle.net_model.specs.declared.fact.Fact.TheVariants.{Key, Chunk, Stored, Open, Joined, Part}
use Rattle.net_model.specs.declared.record.Record.TheVariants.{Learned}
use Rattle.net_model.specs.Facts.{IsWellFormedFact}
use Rattle.net_model.specs.Ranges.{IsRangedFact, IsRoute}
use Rattle.net_model.specs.Table.{PartOf, part_of, name_of, route_of, fact_at, was_handed}
use Rattle.net_model.specs.Site.{Site}
use Rattle.net_model.specs.World.{Durable, Allocation, Transmission}
use Rattle.net_model.specs.Records.{apply_record}
use Rattle.net_model.specs.Knowledge.{IsEntitled, IsOn, chunks_known}
use Rattle.net_model.specs.Streams.{is_chunk_at}
use Rattle.net_model.specs.Invariant.{Invariant}
use Rattle.net_model.specs.Doubt.{MayNote, IsPartAmong, MayApply}
use Rattle.net_model.specs.Decision.{last_count}
use Rattle.net_model.specs.View.{View}
use Rattle.law_base.proofs.Base.{eq_same, number_set_same, name_eq_from, not_false, or_left, or_cases}
use Rattle.law_base.proofs.Tables.{has-push, learned_cases}
use Rattle.law_base.proofs.Seen.{Sees, count_seen, group_seen}

-- All names that the node gave have at most this count.
pub record IsBelow (d : Durable) (v c : ℕ) : Type 0 where
  pub table : (n : Name) (f : Fact) → fact_at d.facts n ≡ Some f → n.node ≡ v → n.count ≤ c
  pub known : (n : Name) → has (d.known v) n ≡ true → n.node ≡ v → n.count ≤ c
  pub keys : (n : Name) (f : Fact) (p : PartOf) → fact_at d.facts n ≡ Some f → part_of f ≡ Some p → n.node ≡ v → p.key.node ≡ v → p.key.count ≤ c

pub is_below : (s : Site) (d : Durable) (frames : Lane → List Allocation) (unclaimed : Lane → List Transmission) → Invariant s d frames unclaimed →
    (see bare : View) → Sees s d see bare → IsBelow d see.me (last_count see.me see.facts)
is_below s d frames unclaimed inv see bare h =
    let here : (n : Name) (f : Fact) → fact_at d.facts n ≡ Some f → n.node ≡ see.me → has (d.known see.me) n ≡ true =
    λ n f e at. subst (λ (u : ℕ). has (d.known u) n ≡ true) at (inv.table n f e).made in
    record {
      table = λ n f e at. count_seen s d see bare h n f e (here n f e at) at;
      known = λ n k at. let x = inv.knowledge.each see.me n k in count_seen s d see bare h n x.fact x.there k at;
      keys = λ n f p e is mine at. group_seen s d see bare h n f p e (here n f e mine) is at;
    }

pub below_weaker : (d : Durable) (v b c : ℕ) → b ≤ c → IsBelow d v b → IsBelow d v c
below_weaker d v b c le h =
    record {
      table = λ n f e at. let x = h.table n f e at in omega arith;
      known = λ n e at. let x = h.known n e at in omega arith;
      keys = λ n f p e is mine at. let x = h.keys n f p e is mine at in omega arith;
    }

-- After one more fact with the next count, all names have at most that next count.
pub below_more : (s : Site) (d : Durable) (v c : ℕ) (f : Fact) → (name_of f).count ≡ c + 1 → ((p : PartOf) → part_of f ≡ Some p → p.key.count ≤ c + 1) →
    IsBelow d v c → IsBelow (apply_record s v (Learned f) d) v (c + 1)
unfolding apply_record
below_more s d v c f at key b =
    record {
      table = λ n g e mine. elim (learned_cases d.facts f n g e) [
        | inl old ↦ let x = b.table n g old mine in omega arith
        | inr (is, same) ↦ let y = ap (λ (m : Name). m.count) is in omega arith
      ];
      known = λ n e mine.
          let e2 : has (d.known v ++ name_of f ∷ []) n ≡ true = sym (ap (λ (ns : List Name). has ns n) (number_set_same d.known v (d.known v ++ name_of f ∷ []))) ∙ e in
          elim (or_cases (has (d.known v) n) (name_eq (name_of f) n) (sym (has-push (d.known v) (name_of f) n) ∙ e2)) [
            | inl old ↦ let x = b.known n old mine in omega arith
            | inr is ↦ let y = ap (λ (m : Name). m.count) (name_eq_from (name_of f) n is) in omega arith
          ];
      keys = λ n g p e is mine node. elim (learned_cases d.facts f n g e) [
        | inl old ↦ let x = b.keys n g p old is mine node in omega arith
        | inr (name, same) ↦ key p (sym (ap part_of same) ∙ is)
      ];
    }

pub ranged_route : (f : Fact) → IsRangedFact f → IsRoute (route_of f)
ranged_route (Key name master slave route bytes) h = h.3
ranged_route (Chunk name stream index route bytes) h = h.3
ranged_route (Stored note about route) h = h.2
ranged_route (Open stream source peer size route) h = h.3
ranged_route (Joined note about route) h = h.2
ranged_route (Part name key master slave route bytes) h = h.4

pub on_first : (way : List ℕ) (v : ℕ) → is_route way ≡ true → first_of way ≡ v → IsOn way v
on_first [] v h e = let x = two_of [] h in absurd (omega arith)
on_first (x ∷ xs) v h e = or_left (x == v) (list_any (λ u. u == v) xs) (ap (λ (u : ℕ). u == v) e ∙ eq_same v)

-- The conditions on a new fact, apart from its name.
pub record IsNew (s : Site) (d : Durable) (v : ℕ) (f : Fact) : Type 0 where
  pub formed : IsWellFormedFact f
  pub ranged : IsRangedFact f
  pub starts : first_of (route_of f) ≡ v
  pub entitled : IsEntitled s d.facts f
  pub note : MayNote d.facts d.known v f
  pub next : (stream : Name) (index : ℕ) → is_chunk_at stream index f ≡ true → index ≡ chunks_known d.facts (d.known v) stream
  pub part : (p : PartOf) → part_of f ≡ Some p → IsPartAmong d.facts v f p
  pub unhanded : (p : PartOf) → part_of f ≡ Some p → (sae : ℕ) → s.home sae ≡ v → was_handed d.handed p.key sae ≡ false

-- A new name isn't in the table yet.
pub new_free : (d : Durable) (v c : ℕ) (f : Fact) → (name_of f).node ≡ v → c < (name_of f).count → IsBelow d v c → fact_at d.facts (name_of f) ≡ None
new_free d v c f mine at b = free (fact_at d.facts (name_of f)) refl
  where
    free : (o : Option Fact) → fact_at d.facts (name_of f) ≡ o → fact_at d.facts (name_of f) ≡ None
    free None e = e
    free (Some g) e = let y = b.table (name_of f) g e mine in absurd (omega arith)

pub new_unknown : (d : Durable) (v c : ℕ) (f : Fact) → (name_of f).node ≡ v → c < (name_of f).count → IsBelow d v c → has (d.known v) (name_of f) ≡ false
new_unknown d v c f mine at b = not_false (has (d.known v) (name_of f)) (λ e. let y = b.known (name_of f) e mine in absurd (omega arith))

pub made_may : (s : Site) (d : Durable) (v c : ℕ) (f : Fact) → (name_of f).node ≡ v → c < (name_of f).count → IsBelow d v c → IsNew s d v f →
    MayApply s d v (Learned f)
made_may s d v c f mine at b x = (
  new_unknown d v c f mine at b,
  inr (record {
    formed = x.formed;
    ranged = x.ranged;
    free = new_free d v c f mine at b;
    mine = mine;
    starts = x.starts;
    on = on_first (route_of f) v (ranged_route f x.ranged).0 x.starts;
    entitled = x.entitled;
    note = x.note;
    unused = λ m g p node there is same.
        let z = b.keys m g p there is node (ap (λ (n : Name). n.node) same ∙ mine) in
        let y = ap (λ (n : Name). n.count) same in
        absurd (omega arith);
    next = x.next;
    part = x.part;
    unhanded = x.unhanded;
  }),
)
