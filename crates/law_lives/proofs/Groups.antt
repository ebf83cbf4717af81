-- No part is added to a group key that its master has got, so a group key that all have got stays so.
use Rattle.std.proofs.Common.{◌≡◌, ℕ, true, false, List, [], ◌∷◌, sym, ◌∙◌, ap, subst, Some, inl, inr}
use Rattle.qkd_base.specs.Name.{Name}
use Rattle.qkd_base.specs.declared.lane.Lane.{Lane}
use Rattle.net_model.specs.declared.fact.Fact.{Fact}
use Rattle.net_model.specs.declared.record.Record.{Record}
use Rattle.net_model.specs.declared.record.Record.TheVariants.{Learned}
use Rattle.net_model.specs.Table.{PartOf, part_of, name_of, fact_at, was_handed}
use Rattle.net_model.specs.Site.{Site}
use Rattle.net_model.specs.World.{Network, World, Durable, Owner}
use Rattle.net_model.specs.Records.{apply_record, replay}
use Rattle.net_model.specs.Doubt.{MayApply, MayReplay}
use Rattle.net_model.specs.Invariant.{Conserved}
use Rattle.law_base.proofs.Base.{not_both}
use Rattle.law_base.proofs.Growing.{apply_cases}
use Rattle.law_base.proofs.Parts.{part_starts}
use Rattle.law_base.proofs.Tables.{found_name}
use Rattle.law_lives.specs.Lasting.{Lasts}
use Rattle.law_lives.proofs.Lastings.{replay_lasts}
use Rattle.law_lives.proofs.Handed.{IsGroupHanded}

module _ (s : Site) (T : List Fact) (n : Name) (m : ℕ) (home : s.home m ≡ n.node) where
  -- The application has got the group key, and all its parts were there before.
  pub record HasNoNewPart (d : Durable) : Type 0 where
    pub handed : was_handed d.handed n m ≡ true
    pub parts : (k : Name) (f : Fact) (p : PartOf) → fact_at d.facts k ≡ Some f → part_of f ≡ Some p → p.key ≡ n → fact_at T k ≡ Some f

  pub part_owned : (d : Durable) (own : Lane → List Owner) → HasNoNewPart d → HasNoNewPart (record d { own = own })
  part_owned d own q = record { handed = q.handed; parts = q.parts }

  learned_old : (v : ℕ) (d : Durable) (k : Name) (f : Fact) (p : PartOf) → MayApply s d v (Learned f) → HasNoNewPart d → name_of f ≡ k → part_of f ≡ Some p → p.key ≡ n → fact_at d.facts k ≡ Some f
  learned_old v d k f p may q named is key = elim may.1 [
    | inl came ↦ ap (fact_at d.facts) (sym named) ∙ came.there
    | inr made ↦
        let at : s.home m ≡ v = home ∙ ap (λ (x : Name). x.node) (sym key) ∙ (made.part p is).mine in
        let no : was_handed d.handed n m ≡ false = ap (λ (x : Name). was_handed d.handed x m) (sym key) ∙ made.unhanded p is m at in
        absurd (not_both (was_handed d.handed n m) q.handed no)
  ]

  one_part : (v : ℕ) (r : Record) (d : Durable) → MayApply s d v r → HasNoNewPart d → HasNoNewPart (apply_record s v r d)
  unfolding replay
  one_part v r d may q = record {
    handed = (replay_lasts s v (r ∷ []) d).handed n m q.handed;
    parts = λ k f p at is key. elim (apply_cases s v r d may k f at) [
      | inl old ↦ q.parts k f p old is key
      | inr learned ↦ q.parts k f p (learned_old v d k f p (subst (MayApply s d v) learned may) q (found_name (apply_record s v r d).facts k f at) is key) is key
    ];
  }

  pub part_batches : (v : ℕ) (rs : List Record) (d : Durable) → MayReplay s d v rs → HasNoNewPart d → HasNoNewPart (replay s v rs d)
  unfolding replay
  part_batches v [] d may q = q
  part_batches v (r ∷ rs) d may q = part_batches v rs (apply_record s v r d) may.1 (one_part v r d may.0 q)

-- The master of a group key is at home where the key's name is from.
pub master_home : (net : Network) (w : World) → Conserved net w → (k : Name) (f : Fact) (p : PartOf) → fact_at w.durable.facts k ≡ Some f → part_of f ≡ Some p → net.site.home p.master ≡ p.key.node
master_home net w c k f p at is = sym ((c.now.groups.own k f p at is).0 ∙ part_starts net.site w.durable.facts f p is (c.now.table k f at).entitled)

-- What all have got they still have, where no part is new.
pub group_still : (s : Site) (d e : Durable) (n : Name) (m : ℕ) (home : s.home m ≡ n.node) → Lasts d e → HasNoNewPart s d.facts n m home e → IsGroupHanded d n → IsGroupHanded e n
group_still s d e n m home lasts q h k f p at is key =
    let r = h k f p (q.parts k f p at is key) is key in (lasts.handed n p.master r.0, lasts.handed n p.slave r.1)
