-- Room for a single call: from a formatted image on some slot may be taken. Assumes nothing.
use mathlib.Core.Path.{◌≡◌, refl, sym, ap, ◌∙◌}
use mathlib.Core.Bool.{Bool, true, false, not, ◌&&◌}
use mathlib.Core.List.{List, [], ◌∷◌}
use Prim.Native.Nat.{ℕ, zero, suc, ◌<◌}
use native.Mathlib.Omega.{arith}
use lib.ListN.{take, length}
use borrow.Author.Tests.{not-true}
use Rattle.layout.specs.Content.{Table, highest_whole_in}
use Rattle.prelude.specs.Filter.{filter}
use Rattle.prelude.specs.Members.{Slot, In}
use Rattle.prelude.proofs.defs.Among.{member}
use Rattle.prelude.proofs.Among.{out_member, member_in, not_member}
use Rattle.prelude.proofs.Any.{passing, Passing, passes, none_passes}
use Rattle.prelude.proofs.Choice.{both, both_right, is_false, true-false, both_left}
use Rattle.prelude.proofs.Count.{gap, Gap}
use Rattle.sorting.proofs.Order.{in_filter}
use Rattle.table.specs.Complete.{SizeFields, settled}
use Rattle.table.specs.Table.{live, is_record, live_count, map_of, key_in}
use Rattle.table.specs.Takeable.{highest_valid, may_take, taken_of}
use Rattle.table.proofs.defs.Basket.{Basket, HeldRemoved}
use Rattle.table.proofs.defs.Reuse.{Spares}
use Rattle.table.proofs.defs.Room.{Takeable, takeable, RoomToTake, room_at}
use Rattle.table.proofs.defs.Struck.{Struck, Unfinished, Finished}
use Rattle.table.proofs.defs.Write.{holder}
use Rattle.table.proofs.Finished.{finished_over, finished_own, finished_highest_valid}
use Rattle.table.proofs.Held.{Holder, holder_is, is_holder, held_holder}
use Rattle.table.proofs.LiveCount.{room_spare}
use Rattle.table.proofs.Map.{live_record}
use Rattle.table.proofs.Alike.{alike_live, alike_highest}
use Rattle.table.proofs.Struck.{not_taken}
use Rattle.table.proofs.Takeable.{Barred, of_highest, has_older, older_below, older_idle, barred}
use Rattle.table.proofs.Unfinished.{unfinished_same}

-- ---- room gives a slot

module _ (f : Table) (n : ℕ) where
  -- from a spare slot below the highest valid version down through older records of a key, to one that may be taken
  down : (fuel s : ℕ) → highest_whole_in (f s) < fuel → Slot n s → live f n s ≡ false → (is_record (f s) ≡ true → highest_whole_in (f s) < highest_valid f n)
      → Takeable f n
  down zero s l i idle low = absurd (omega arith)
  down (suc m) s l i idle low = go (may_take f n s) refl (λ t. down m t)
    where
      next : Barred f n s
          → ((t : ℕ) → highest_whole_in (f t) < m → Slot n t → live f n t ≡ false → (is_record (f t) ≡ true → highest_whole_in (f t) < highest_valid f n)
          → Takeable f n)
          → Takeable f n
      next (of_highest r e) ih = absurd (omega (arith, low r))
      next (has_older r e t j o) ih =
          ih t (omega (arith, older_below f s t o)) j (older_idle f n s t i r o) (λ a. omega (arith, low r, older_below f s t o))

      go : (x : Bool) → may_take f n s ≡ x
          → ((t : ℕ) → highest_whole_in (f t) < m → Slot n t → live f n t ≡ false → (is_record (f t) ≡ true → highest_whole_in (f t) < highest_valid f n)
          → Takeable f n)
          → Takeable f n
      go true e ih = takeable s i idle e
      go false e ih = next (barred f n s i e) ih

  -- ROOM GIVES A SLOT THAT MAY BE TAKEN
  pub room_takes : RoomToTake f n → Takeable f n
  room_takes (room_at t i idle low) = down (suc (highest_whole_in (f t))) t (omega arith) i idle low

-- so a single call finds its slot in the reuse chain: of 28 only the live count is left
pub room_reuse : (f : Table) (n : ℕ) (reuse : List ℕ) → RoomToTake f n → Spares f n reuse → length (taken_of f n 1 reuse) ≡ 1
unfolding taken_of
room_reuse f n reuse r sp = go (room_takes f n r)
  where
    one : (l : List ℕ) (t : ℕ) → In t l → length (take 1 l) ≡ 1
    one [] t i = absurd i
    one (x ∷ l) t i = refl

    go : Takeable f n → length (take 1 (filter (may_take f n) reuse)) ≡ 1
    go (takeable t i idle may) = one (filter (may_take f n) reuse) t (in_filter (may_take f n) t reuse (sp.all t i idle) may)

-- ---- what keeps room

-- a table equal at its slots
pub room_same : (f f' : Table) (n : ℕ) → ((t : ℕ) → Slot n t → f' t ≡ f t) → RoomToTake f n → RoomToTake f' n
room_same f f' n h (room_at t i idle low) =
    room_at t i (alike_live f f' n h t i ∙ idle)
    (λ c. omega (arith, ap highest_whole_in (h t i), alike_highest f f' n h, low (sym (ap is_record (h t i)) ∙ c)))

module _ {f f' : Table} {num num' : SizeFields} {n w : ℕ} {taken : List ℕ} {new : Table}
    (b : Basket f num n w taken new) (st : Struck f f' num num' n taken new) where
  -- a cut keeps it: a slot taken that has no record now may be taken, or the settled table is as before
  pub unfinished_room : Unfinished f' taken new → RoomToTake f n → RoomToTake (settled f' num' n) n
  unfinished_room u r = go (passing (λ t. member taken t && not (is_record (settled f' num' n t))) n)
    where
      go : Passing (λ t. member taken t && not (is_record (settled f' num' n t))) n → RoomToTake (settled f' num' n) n
      go (passes s i q) =
          let e = not-true (is_record (settled f' num' n s)) (both_right (member taken s) _ q) in
          room_at s i (is_false (live (settled f' num' n) n s) (λ l. true-false (live_record (settled f' num' n) n s l) e)) (λ c. absurd (true-false c e))
      go (none_passes h) = room_same f (settled f' num' n) n (λ t i. unfinished_same b st u t i (h t i)) r

  -- and so does a call that is done, where a slot is left that is not live and only held keys are removed
  pub finished_room : Finished f' num' taken new → live_count f' n < n → HeldRemoved taken new (map_of f n) → RoomToTake f' n
  finished_room z left held-only = go (passing (λ t. not (member taken t) && not (live f' n t)) n)
    where
      -- the old slot of a removed key is spare
      old_left : (s : ℕ) → In s taken → Holder f n (key_in (new s)) → ((t : ℕ) → Slot n t → not (member taken t) && not (live f' n t) ≡ false) → ⊥
      old_left s j (holder_is i l p) none =
          let o = holder f n (key_in (new s)) in
          let away : In o taken → ⊥ = λ a. true-false l (b.spare o a) in
          true-false (both (not (member taken o)) _ (ap not (out_member taken o away)) (ap not (finished_over b st z o s i away j p))) (none o i)

      by_gap : ((t : ℕ) → Slot n t → not (member taken t) && not (live f' n t) ≡ false) → Gap (live f' n) n → ⊥
      by_gap none (gap s i e) = at (member taken s) refl
        where
          at : (x : Bool) → member taken s ≡ x → ⊥
          at false q = true-false (both (not (member taken s)) _ (ap not q) (ap not e)) (none s i)
          at true q =
              let j = member_in taken s q in
              old_left s j (is_holder f n (key_in (new s)) (held_holder f n (key_in (new s)) (held-only s j (sym (finished_own b st z s j) ∙ e)))) none

      go : Passing (λ t. not (member taken t) && not (live f' n t)) n → RoomToTake f' n
      go (passes s i q) =
          let out = not_member taken s (not-true (member taken s) (both_left (not (member taken s)) _ q)) in
          room_at s i (not-true (live f' n s) (both_right (not (member taken s)) _ q))
          (λ c. omega (arith, ap highest_whole_in (not_taken b st s i out).0, b.above s i, finished_highest_valid b st z))
      go (none_passes none) = absurd (by_gap none (room_spare f' n left))
