-- A basket of which not all records are written: nothing of it is there. Assumes nothing.
use mathlib.Core.Path.{◌≡◌, refl, sym, ap, ◌∙◌}
use mathlib.Core.Bool.{Bool, true, false, not, ◌&&◌}
use mathlib.Core.List.{List}
use Prim.Native.Nat.{ℕ, ◌≤◌, ◌<◌}
use native.Mathlib.Omega.{arith}
use lib.ListN.{length}
use borrow.Author.Tests.{not-true}
use Rattle.layout.specs.Content.{Table, highest_whole_in}
use Rattle.prelude.specs.Members.{Slot, In}
use Rattle.prelude.specs.Range.{count}
use Rattle.prelude.proofs.defs.Among.{member}
use Rattle.prelude.proofs.Among.{in_member, count-member, not_member}
use Rattle.prelude.proofs.Choice.{is_false, true-false, same_test, both, both_left, both_right}
use Rattle.prelude.proofs.Count.{count_less}
use Rattle.table.specs.Complete.{SizeFields, sharers, has_version, complete, basket_size, highest_complete, is_void, settled}
use Rattle.table.specs.Table.{is_record, map_of, live, live_count}
use Rattle.table.proofs.defs.Basket.{Basket}
use Rattle.table.proofs.defs.Struck.{Struck, Unfinished, unfinished}
use Rattle.table.proofs.defs.Write.{Outside, NoRecord}
use Rattle.table.proofs.Complete.{complete_enough, version_top, said_for, highest_complete_least, complete_record, not_void_below, highest_complete_is}
use Rattle.table.proofs.Complete.{complete_is, HighestComplete, none_complete, completed, sharers_same, highest_complete_above, void_record}
use Rattle.table.proofs.Complete.{void_above, void_is, version_record, settled_void, settled_same}
use Rattle.table.proofs.Map.{map_kept, live_kept, live_record}
use Rattle.table.proofs.OneSlot.{broken_no_record, no_record_weight}
use Rattle.prelude.proofs.Count.{count_same}
use Rattle.table.proofs.Struck.{new_is, old_same, not_taken, highest_kept, highest_has_version, highest_below, taken_free}

module _ {f f' : Table} {num num' : SizeFields} {n w : ℕ} {taken : List ℕ} {new : Table}
    (b : Basket f num n w taken new) (st : Struck f f' num num' n taken new) (u : Unfinished f' taken new) where
  pub sharers_less : sharers f' n w < length taken
  unfolding sharers
  sharers_less = go u
    where
      go : Unfinished f' taken new → count (has_version f' w) n < length taken
      go (unfinished s j h) =
          omega (
            arith,
            count_less (member taken) (has_version f' w) n s (b.slot s j)
                (is_false (has_version f' w s) (λ e. h (new_is b st s (b.slot s j) e).1)) (in_member taken s j)
                (λ t i e. in_member taken t (new_is b st t i e).0),
            count-member taken n b.once b.slot,
          )

  incomplete : (t : ℕ) → Slot n t → has_version f' w t ≡ true → complete f' num' n t ≡ false
  incomplete t i e =
      is_false (complete f' num' n t)
      (λ c. omega (
        arith,
        complete_enough f' num' n t c,
        ap (sharers f' n) (version_top f' w t e),
        ap basket_size (new_is b st t i e).2,
        said_for (length taken) b.some,
        sharers_less,
      ))

  -- THE HIGHEST COMPLETE VERSION STAYS
  pub unfinished_highest_complete : highest_complete f' num' n ≡ highest_complete f num n
  unfinished_highest_complete = omega (arith, at_most, at_least)
    where
      at_most : highest_complete f' num' n ≤ highest_complete f num n
      at_most = highest_complete_least f' num' n (highest_complete f num n) (λ t i c. go t i c (has_version f' w t) refl)
        where
          go : (t : ℕ) → Slot n t → complete f' num' n t ≡ true → (x : Bool) → has_version f' w t ≡ x → highest_whole_in (f' t) ≤ highest_complete f num n
          go t i c true e = absurd (true-false c (incomplete t i e))
          go t i c false e =
              let q = (old_same b st t i e (complete_record f' num' n t c)).0 in
              omega (arith, ap highest_whole_in q, not_void_below f num n t (b.none_void t i) (sym (ap is_record q) ∙ complete_record f' num' n t c))

      at_least : highest_complete f num n ≤ highest_complete f' num' n
      at_least = go (highest_complete_is f num n)
        where
          go : HighestComplete f num n → highest_complete f num n ≤ highest_complete f' num' n
          go (none_complete z) = omega arith
          go (completed s i e q) =
              let c = complete_record f num n s e in
              let k = not_taken b st s i (highest_kept b st s i c q) in
              let same = sharers_same f f' n (highest_complete f num n) (highest_has_version b st) in
              omega (
                arith,
                ap highest_whole_in k.0,
                highest_complete_above f' num' n s i (complete_is f' num' n s (ap is_record k.0 ∙ c)
                    (omega (
                      arith,
                      complete_enough f num n s e,
                      ap basket_size k.1,
                      ap (sharers f n) q,
                      ap (sharers f' n) (ap highest_whole_in k.0 ∙ q),
                      same,
                    ))),
              )

  -- THE RECORDS WRITTEN ARE VOID, and no others
  pub unfinished_void : (t : ℕ) → Slot n t → is_void f' num' n t ≡ has_version f' w t
  unfinished_void t i = same_test _ _ forth back
    where
      forth : is_void f' num' n t ≡ true → has_version f' w t ≡ true
      forth e = go (has_version f' w t) refl
        where
          go : (x : Bool) → has_version f' w t ≡ x → has_version f' w t ≡ true
          go true a = a
          go false a =
              let c = void_record f' num' n t e in
              let q = (old_same b st t i a c).0 in
              absurd (omega (
                arith,
                void_above f' num' n t e,
                unfinished_highest_complete,
                ap highest_whole_in q,
                not_void_below f num n t (b.none_void t i) (sym (ap is_record q) ∙ c),
              ))

      back : has_version f' w t ≡ true → is_void f' num' n t ≡ true
      back e =
          void_is f' num' n t (version_record f' w t e) (omega (arith, version_top f' w t e, unfinished_highest_complete, highest_below b st))

  -- the slots taken that the settled table has lost
  unfoldable lost_slots : ℕ → Bool
  lost_slots t = member taken t && not (is_record (settled f' num' n t))

  lost_taken : (t : ℕ) → lost_slots t ≡ true → member taken t ≡ true
  unfolding lost_slots
  lost_taken t e = both_left (member taken t) _ e

  record_kept : (t : ℕ) → Slot n t → is_record (settled f' num' n t) ≡ true → settled f' num' n t ≡ f t
  record_kept t i c = go (is_void f' num' n t) refl
    where
      go : (x : Bool) → is_void f' num' n t ≡ x → settled f' num' n t ≡ f t
      go true e = absurd (true-false c (broken_no_record _ _ (settled_void f' num' n t e)))
      go false e =
          let q = settled_same f' num' n t e in
          q ∙ (old_same b st t i (sym (unfinished_void t i) ∙ e) (sym (ap is_record q) ∙ c)).0

  pub unfinished_outside : (t : ℕ) → Slot n t → (In t taken → ⊥) → settled f' num' n t ≡ f t
  unfinished_outside t i h =
      settled_same f' num' n t (unfinished_void t i ∙ is_false (has_version f' w t) (λ e. h (new_is b st t i e).0)) ∙ (not_taken b st t i h).0

  -- a slot that it has not lost is as before
  pub unfinished_same : (t : ℕ) → Slot n t → member taken t && not (is_record (settled f' num' n t)) ≡ false → settled f' num' n t ≡ f t
  unfinished_same t i e = go (member taken t) refl (is_record (settled f' num' n t)) refl
    where
      go : (x : Bool) → member taken t ≡ x → (y : Bool) → is_record (settled f' num' n t) ≡ y → settled f' num' n t ≡ f t
      go false p y q = unfinished_outside t i (not_member taken t p)
      go true p true q = record_kept t i q
      go true p false q = absurd (true-false (both (member taken t) _ p (ap not q)) e)

  lost_outside : Outside f (settled f' num' n) n lost_slots
  unfolding lost_slots
  lost_outside t i e = unfinished_same t i e

  lost_no_record : (t : ℕ) → lost_slots t ≡ true → is_record (settled f' num' n t) ≡ false
  unfolding lost_slots
  lost_no_record t e = not-true (is_record (settled f' num' n t)) (both_right (member taken t) _ e)

  lost_none : (k : ℕ) → NoRecord (settled f' num' n) n lost_slots k
  lost_none k t i e = no_record_weight k (settled f' num' n t) (lost_no_record t e)

  -- THE MAP IS THE OLD MAP
  pub unfinished_map : (k : ℕ) → map_of (settled f' num' n) n k ≡ map_of f n k
  unfinished_map k = map_kept f (settled f' num' n) n lost_slots (taken_free b st lost_slots lost_taken) lost_outside k (lost_none k)

  -- and the live slots are the old ones
  pub unfinished_live : (t : ℕ) → Slot n t → live (settled f' num' n) n t ≡ live f n t
  unfinished_live t i = go (lost_slots t) refl
    where
      go : (x : Bool) → lost_slots t ≡ x → live (settled f' num' n) n t ≡ live f n t
      go false e = live_kept f (settled f' num' n) n lost_slots (taken_free b st lost_slots lost_taken) lost_outside t i e (λ u k v q. lost_none k)
      go true e =
          is_false (live (settled f' num' n) n t) (λ l. true-false (live_record (settled f' num' n) n t l) (lost_no_record t e))
          ∙ sym ((taken_free b st lost_slots lost_taken).spare t i e)

  pub unfinished_count : live_count (settled f' num' n) n ≡ live_count f n
  unfolding live_count
  unfinished_count = count_same (live (settled f' num' n) n) (live f n) n unfinished_live
