-- A basket struck by a cut: the slots with its records and the others, and the highest complete version. Assumes nothing.
use mathlib.Core.Path.{◌≡◌, refl, sym, ap, ◌∙◌}
use mathlib.Core.Bool.{Bool, true, false}
use mathlib.Core.List.{List}
use Prim.Native.Nat.{ℕ, ◌≤◌, ◌<◌}
use native.Mathlib.Omega.{arith}
use lib.ListN.{length}
use Rattle.layout.specs.Content.{Table, broken, highest_whole_in}
use Rattle.prelude.specs.Members.{In, Slot}
use Rattle.prelude.proofs.defs.Among.{member}
use Rattle.prelude.proofs.Among.{member_in, not_member, in_member, count-member}
use Rattle.prelude.proofs.Choice.{is_false, true-false, same_test}
use Rattle.prelude.proofs.Count.{count_fewer}
use Rattle.prelude.proofs.Lists.{some_element}
use Rattle.table.specs.Complete.{SizeFields, size_field_for, has_version, sharers, highest_complete}
use Rattle.table.specs.Table.{is_record}
use Rattle.table.proofs.defs.Basket.{Basket}
use Rattle.table.proofs.defs.Struck.{Struck, SlotAfter, kept, lost, done}
use Rattle.table.proofs.defs.Write.{Free}
use Rattle.table.proofs.Complete.{has-version, version_top, version_record, highest_complete_is, HighestComplete, none_complete, completed}
use Rattle.table.proofs.Complete.{not_void_below, version_same}
use Rattle.table.proofs.OneSlot.{broken_no_record}
use Rattle.table.proofs.Shared.{agreed_apart}
use Rattle.table.proofs.Takeable.{may_free, may_higher, higher, Higher}

module _ {f f' : Table} {num num' : SizeFields} {n w : ℕ} {taken : List ℕ} {new : Table}
    (b : Basket f num n w taken new) (st : Struck f f' num num' n taken new) where
  -- a slot now: as it was, broken, or with its new record
  data Now (t : ℕ) : Type 0 where
    as_was : f' t ≡ f t → num' t ≡ num t → Now t
    broke : In t taken → (x : ℕ) → f' t ≡ broken x → Now t
    wrote : In t taken → f' t ≡ new t → num' t ≡ size_field_for (length taken) → Now t

  now : (t : ℕ) → Slot n t → Now t
  now t i = go (member taken t) refl
    where
      by : In t taken → SlotAfter (f t) (new t) (f' t) (num t) (size_field_for (length taken)) (num' t) → Now t
      by j (kept e d) = as_was e d
      by j (lost x e) = broke j x e
      by j (done e d) = wrote j e d

      go : (x : Bool) → member taken t ≡ x → Now t
      go true e = by (member_in taken t e) (st.after t (member_in taken t e))
      go false e = as_was (st.outside t i (not_member taken t e)) (st.numbers t i (not_member taken t e))

  -- the slots with version w are those with their new record
  pub data NewOrOld (t : ℕ) : Type 0 where
    is_new : In t taken → f' t ≡ new t → num' t ≡ size_field_for (length taken) → has_version f' w t ≡ true → NewOrOld t
    is_old : has_version f' w t ≡ false → (is_record (f' t) ≡ true → (f' t ≡ f t) × (num' t ≡ num t)) → NewOrOld t

  pub new_version : (t : ℕ) → In t taken → f' t ≡ new t → has_version f' w t ≡ true
  new_version t j e = has-version f' w t (ap is_record e ∙ (b.records t j).counted) (ap highest_whole_in e ∙ (b.records t j).tops)

  pub new_or_old : (t : ℕ) → Slot n t → NewOrOld t
  new_or_old t i = go (now t i)
    where
      go : Now t → NewOrOld t
      go (as_was e d) =
          is_old (is_false (has_version f' w t) (λ c. omega (arith, version_top f' w t c, ap highest_whole_in e, b.above t i))) (λ c. (e, d))
      go (broke j x e) =
          is_old (is_false (has_version f' w t) (λ c. true-false (version_record f' w t c) (broken_no_record (f' t) x e)))
          (λ c. absurd (true-false c (broken_no_record (f' t) x e)))
      go (wrote j e d) = is_new j e d (new_version t j e)

  pub old_same : (t : ℕ) → Slot n t → has_version f' w t ≡ false → is_record (f' t) ≡ true → (f' t ≡ f t) × (num' t ≡ num t)
  old_same t i e c = go (new_or_old t i)
    where
      go : NewOrOld t → (f' t ≡ f t) × (num' t ≡ num t)
      go (is_new j q d a) = absurd (true-false a e)
      go (is_old a h) = h c

  pub new_is : (t : ℕ) → Slot n t → has_version f' w t ≡ true → (j : In t taken) × (f' t ≡ new t) × (num' t ≡ size_field_for (length taken))
  new_is t i e = go (new_or_old t i)
    where
      go : NewOrOld t → (j : In t taken) × (f' t ≡ new t) × (num' t ≡ size_field_for (length taken))
      go (is_new j q d a) = (j, q, d)
      go (is_old a h) = absurd (true-false e a)

  -- every valid version is at most w, and below it but for the new records
  pub version_most : (t : ℕ) → Slot n t → is_record (f' t) ≡ true → highest_whole_in (f' t) ≤ w
  version_most t i c = go (new_or_old t i)
    where
      go : NewOrOld t → highest_whole_in (f' t) ≤ w
      go (is_new j q d a) = omega (arith, version_top f' w t a)
      go (is_old a h) = omega (arith, ap highest_whole_in (h c).0, b.above t i)

  -- versions are not 0
  w_some : 0 < w
  w_some = let s = some_element taken b.some in omega (arith, b.above s.0 (b.slot s.0 s.1))

  -- any part of the slots taken may be lost
  pub taken_free : (C : ℕ → Bool) → ((t : ℕ) → C t ≡ true → member taken t ≡ true) → Free f n C
  taken_free C h =
      may_free f n C (agreed_apart f num n b.agreed) (λ s c. b.slot s (member_in taken s (h s c)))
      (λ s c. b.spare s (member_in taken s (h s c))) (λ s c. b.may s (member_in taken s (h s c)))

  pub sharers_most : sharers f' n w ≤ length taken
  unfolding sharers
  sharers_most =
      omega (arith, count_fewer (member taken) (has_version f' w) n (λ t i e. in_member taken t (new_is t i e).0), count-member taken n b.once b.slot)

  pub highest_below : highest_complete f num n < w
  highest_below = go (highest_complete_is f num n)
    where
      go : HighestComplete f num n → highest_complete f num n < w
      go (none_complete z) = omega (arith, w_some)
      go (completed s i e q) = omega (arith, b.above s i)

  -- the slots of the highest complete version before the call are not taken
  pub highest_kept : (t : ℕ) → Slot n t → is_record (f t) ≡ true → highest_whole_in (f t) ≡ highest_complete f num n → In t taken → ⊥
  highest_kept t i c e j = go (may_higher f n t (b.may t j) c)
    where
      go : Higher f n (highest_whole_in (f t)) → ⊥
      go (higher s k d l) = omega (arith, not_void_below f num n s (b.none_void s k) d)

  pub not_taken : (t : ℕ) → Slot n t → (In t taken → ⊥) → (f' t ≡ f t) × (num' t ≡ num t)
  not_taken t i h = (st.outside t i h, st.numbers t i h)

  -- they still have it, and no others do
  pub highest_has_version : (t : ℕ) → Slot n t → has_version f' (highest_complete f num n) t ≡ has_version f (highest_complete f num n) t
  highest_has_version t i = same_test _ _ forth back
    where
      forth : has_version f' (highest_complete f num n) t ≡ true → has_version f (highest_complete f num n) t ≡ true
      forth e =
          let c = version_record f' (highest_complete f num n) t e in
          let a : has_version f' w t ≡ false = is_false (has_version f' w t)
          (λ d. omega (arith, version_top f' w t d, version_top f' (highest_complete f num n) t e, highest_below)) in
          sym (version_same f f' (highest_complete f num n) t (old_same t i a c).0) ∙ e

      back : has_version f (highest_complete f num n) t ≡ true → has_version f' (highest_complete f num n) t ≡ true
      back e =
          version_same f f' (highest_complete f num n) t
          (not_taken t i (highest_kept t i (version_record f (highest_complete f num n) t e) (version_top f (highest_complete f num n) t e))).0 ∙ e
