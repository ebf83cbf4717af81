-- Lists of names: the names that a node gave, sublists of them, and their handing out.
use Rattle.std.proofs.Common.{◌≡◌, ℕ, zero, suc, ◌+◌, ◌≤◌, Bool, true, false, cond, ◌&&◌, ◌||◌, List, [], ◌∷◌, ◌++◌, refl, sym, ◌∙◌, ap, arith, take, inl, inr}
use Rattle.std.specs.Prelude.{◌==◌, filter}
use Rattle.qkd_base.specs.Name.{Name, name_eq, has}
use Rattle.qkd_base.specs.declared.key_name.NameKind.{NameKind}
use Rattle.net_model.specs.declared.record.Record.TheVariants.{Handed}
use Rattle.net_model.specs.Table.{was_handed}
use Rattle.net_model.specs.Site.{Site}
use Rattle.net_model.specs.World.{Durable}
use Rattle.net_model.specs.Records.{apply_record}
use Rattle.net_model.specs.Knowledge.{AllDiffer}
use Rattle.net_model.specs.Handings.{MayHave}
use Rattle.net_model.specs.Doubt.{MayReplay}
use Rattle.net_model.specs.Pools.{names_up_to, hand_to}
use Rattle.law_base.proofs.Base.{name_eq_from, name_eq_same, and_left, or_cases, or_left, or_right, or_both, not_false, not_both}
use Rattle.law_base.proofs.Knowing.{differ_push}
use Rattle.law_base.proofs.Tables.{has-push}

pub has_take : (ns : List Name) (i : ℕ) (n : Name) → has (take i ns) n ≡ true → has ns n ≡ true
has_take ns zero n h = cc
has_take [] (suc i) n h = h
has_take (x ∷ ns) (suc i) n h = elim (or_cases (name_eq x n) (has (take i ns) n) h) [
  | inl e ↦ or_left (name_eq x n) (has ns n) e
  | inr e ↦ or_right (name_eq x n) (has ns n) (has_take ns i n e)
]

pub differ_take : (ns : List Name) (i : ℕ) → AllDiffer ns → AllDiffer (take i ns)
differ_take ns zero d = tt
differ_take [] (suc i) d = tt
differ_take (x ∷ ns) (suc i) d = (not_false (has (take i ns) x) (λ e. not_both (has ns x) (has_take ns i x e) d.0), differ_take ns i d.1)

pub has_filter : (p : Name → Bool) (ns : List Name) (n : Name) → has (filter p ns) n ≡ true → (has ns n ≡ true) × (p n ≡ true)
has_filter p [] n h = cc
has_filter p (x ∷ ns) n h = elim (p x) as (λ t. p x ≡ t → has (cond t (x ∷ filter p ns) (filter p ns)) n ≡ true → ((name_eq x n || has ns n) ≡ true) × (p n ≡ true)) [
  | true ↦ λ e y. elim (or_cases (name_eq x n) (has (filter p ns) n) y) [
    | inl is ↦ (or_left (name_eq x n) (has ns n) is, ap p (sym (name_eq_from x n is)) ∙ e)
    | inr later ↦ let r = has_filter p ns n later in (or_right (name_eq x n) (has ns n) r.0, r.1)
  ]
  | false ↦ λ e y. let r = has_filter p ns n y in (or_right (name_eq x n) (has ns n) r.0, r.1)
] refl h

pub differ_filter : (p : Name → Bool) (ns : List Name) → AllDiffer ns → AllDiffer (filter p ns)
differ_filter p [] d = tt
differ_filter p (x ∷ ns) d = elim (p x) as (λ t. AllDiffer (cond t (x ∷ filter p ns) (filter p ns))) [
  | true ↦ (not_false (has (filter p ns) x) (λ e. not_both (has ns x) (has_filter p ns x e).0 d.0), differ_filter p ns d.1)
  | false ↦ differ_filter p ns d.1
]

counts_to : (me : ℕ) (kind : NameKind) (c : ℕ) (n : Name) → has (names_up_to me kind c) n ≡ true → n.count ≤ c
counts_to me kind zero n h = cc
counts_to me kind (suc c) n h =
    elim (or_cases (has (names_up_to me kind c) n) (name_eq (record { node = me; kind = kind; count = c + 1 }) n)
    (sym (has-push (names_up_to me kind c) (record { node = me; kind = kind; count = c + 1 }) n) ∙ h)) [
      | inl old ↦ let r = counts_to me kind c n old in omega arith
      | inr is ↦ let e = ap (λ (x : Name). x.count) (name_eq_from (record { node = me; kind = kind; count = c + 1 }) n is) in omega arith
    ]

pub differ_up_to : (me : ℕ) (kind : NameKind) (c : ℕ) → AllDiffer (names_up_to me kind c)
differ_up_to me kind zero = tt
differ_up_to me kind (suc c) = differ_push (names_up_to me kind c) (record { node = me; kind = kind; count = c + 1 }) (differ_up_to me kind c)
    (not_false (has (names_up_to me kind c) (record { node = me; kind = kind; count = c + 1 })) (λ e.
    let r = counts_to me kind c (record { node = me; kind = kind; count = c + 1 }) e in absurd (omega arith)))

pub handed-push : (hs : List (Name × ℕ)) (m n : Name) (t sae : ℕ) → was_handed (hs ++ (m, t) ∷ []) n sae ≡ (was_handed hs n sae || (name_eq m n && (t == sae)))
handed-push [] m n t sae = or_nothing (name_eq m n && (t == sae))
  where
    or_nothing : (b : Bool) → (b || false) ≡ b
    or_nothing true = refl
    or_nothing false = refl
handed-push (x ∷ hs) m n t sae = elim (name_eq x.0 n && (x.1 == sae)) as (λ b. (b || was_handed (hs ++ (m, t) ∷ []) n sae) ≡ ((b || was_handed hs n sae) || (name_eq m n && (t == sae)))) [
  | true ↦ refl
  | false ↦ handed-push hs m n t sae
]

-- Different keys that an application may have, and was not handed before, may all be handed to it.
pub hand_all : (s : Site) (d : Durable) (v m : ℕ) (ns : List Name) → s.home m ≡ v → AllDiffer ns →
    ((n : Name) → has ns n ≡ true → (was_handed d.handed n m ≡ false) × MayHave s d.facts d.known n m) → MayReplay s d v (hand_to m ns)
unfolding apply_record
hand_all s d v m [] at differ h = tt
hand_all s d v m (n ∷ ns) at differ h =
    let first = h n (or_left (name_eq n n) (has ns n) (name_eq_same n)) in (
      (at, first.0, first.1),
      hand_all s (apply_record s v (Handed n m) d) v m ns at differ.1 (λ x e.
          let r = h x (or_right (name_eq n x) (has ns x) e) in (
            handed-push d.handed n x m m ∙ or_both (was_handed d.handed x m) (name_eq n x && (m == m)) r.0
                (not_false (name_eq n x && (m == m)) (λ y. let is : n ≡ x = name_eq_from n x (and_left (name_eq n x) (m == m) y) in
                not_both (has ns x) e (ap (has ns) (sym is) ∙ differ.0))),
            r.1,
          )),
    )
