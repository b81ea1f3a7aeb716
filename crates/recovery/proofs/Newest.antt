-- The slot that recovery's state names as the newest: of the highest valid version, where any slot is valid. Assumes nothing.
use mathlib.Core.Path.{◌≡◌, refl, ap}
use mathlib.Core.Logic.{inl, inr}
use mathlib.Core.List.{List, [], ◌∷◌}
use Prim.Native.Nat.{ℕ, ◌+◌, ◌≤◌, ◌<◌}
use native.Mathlib.Omega.{arith}
use Rattle.prelude.specs.Members.{In, Slot, slot_numbers}
use Rattle.prelude.specs.Range.{topmost}
use Rattle.prelude.proofs.defs.Members.{Rising}
use Rattle.prelude.proofs.Lists.{slots-in, in_slots}
use Rattle.prelude.proofs.Most.{First, nowhere, there, first_is, greatest_above, greatest_least}
use Rattle.layout.specs.Content.{Content, broken, empty, put_record, remove_record, Table, highest_whole_in}
use Rattle.sorting.proofs.Order.{sorted_in, in_sorted, rising_sorted}
use Rattle.table.specs.Table.{is_record}
use Rattle.table.specs.Order.{rank_of, ordered}
use Rattle.table.specs.Takeable.{valid_version, highest_valid, IsNewest}
use Rattle.index.specs.Chained.{last_of}
use Rattle.recovery.specs.Recover.{newest_slot}

-- where the ranks never fall, the last element has the greatest
last_greatest : (g : ℕ → ℕ) (xs : List ℕ) → Rising g xs → (y : ℕ) → In y xs → In (last_of xs) xs × (g y ≤ g (last_of xs))
unfolding last_of
last_greatest g [] r y x'' = elim x'' [ ]
last_greatest g (x ∷ []) r y (inl e) = (inl refl, omega (arith, ap g e))
last_greatest g (x ∷ []) r y (inr m) = absurd m
last_greatest g (x ∷ z ∷ xs) r y (inl e) =
    let q = last_greatest g (z ∷ xs) r.1 z (inl refl) in (inr q.0, omega (arith, ap g e, r.0 z (inl refl), q.1))
last_greatest g (x ∷ z ∷ xs) r y (inr m) = let q = last_greatest g (z ∷ xs) r.1 y m in (inr q.0, q.1)

-- a rank above 2 is that of a valid slot, two above its version
rank_version : (c : Content) → 2 < rank_of c → rank_of c ≡ 2 + valid_version c
unfolding rank_of valid_version is_record highest_whole_in
rank_version (broken top) h = absurd (omega arith)
rank_version empty h = absurd (omega arith)
rank_version (put_record version key value) h = refl
rank_version (remove_record version key) h = refl

version_rank : (c : Content) → 0 < valid_version c → rank_of c ≡ 2 + valid_version c
unfolding rank_of valid_version is_record highest_whole_in
version_rank (broken top) h = absurd (omega arith)
version_rank empty h = absurd (omega arith)
version_rank (put_record version key value) h = refl
version_rank (remove_record version key) h = refl

-- RECOVERY NAMES A SLOT OF THE HIGHEST VALID VERSION
pub recovery_newest : (f : Table) (n : ℕ) → IsNewest f n (newest_slot f n)
unfolding newest_slot ordered highest_valid
recovery_newest f n some = go (topmost version n) (first_is version n)
  where
    version : ℕ → ℕ
    version s = valid_version (f s)

    rank : ℕ → ℕ
    rank s = rank_of (f s)

    go : (t : ℕ) → First version n t → Slot n (last_of (ordered f (slot_numbers n))) × (version (last_of (ordered f (slot_numbers n))) ≡ highest_valid f n)
    go t (nowhere e z) = absurd (omega (arith, greatest_least version n 0 (λ s i. omega (arith, z s i))))
    go t (there i p h b) =
        let q = last_greatest rank (ordered f (slot_numbers n)) (rising_sorted rank (slot_numbers n)) t (in_sorted rank t (slot_numbers n) (in_slots n t i)) in
        let s = slots-in n _ (sorted_in rank _ (slot_numbers n) q.0) in
        let r = version_rank (f t) p in (
          s,
          omega (
            arith,
            q.1,
            r,
            rank_version (f (last_of (ordered f (slot_numbers n)))) (omega (arith, q.1)),
            greatest_least version n (version t) h,
            greatest_above version n _ s,
          ),
        )
