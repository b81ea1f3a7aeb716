-- The order of the reuse chain after a call that is done: older records first, the highest version last. Assumes nothing.
use mathlib.Core.Path.{◌≡◌, refl, sym, ap, ◌∙◌}
use mathlib.Core.Bool.{Bool, true, false, not}
use mathlib.Core.Logic.{inl, inr}
use mathlib.Core.List.{List, [], ◌∷◌, ◌++◌}
use Prim.Native.Nat.{ℕ, zero, suc, ◌<◌}
use native.Mathlib.Omega.{arith}
use Rattle.layout.specs.Content.{Table, highest_whole_in}
use Rattle.prelude.specs.Members.{Slot, Once, In}
use Rattle.prelude.proofs.defs.Among.{member}
use Rattle.prelude.proofs.Choice.{true-false}
use Rattle.prelude.proofs.Lists.{in_at}
use Rattle.table.specs.Complete.{SizeFields}
use Rattle.table.specs.Reuse.{HighestLast, OlderFirst}
use Rattle.table.specs.Table.{live, rank_for_key, key_in, map_of}
use Rattle.table.specs.Takeable.{is_remove, highest_valid, older}
use Rattle.table.proofs.defs.Basket.{Basket, HeldRemoved}
use Rattle.table.proofs.defs.Reuse.{joins, appended, Spares}
use Rattle.table.proofs.defs.ReuseAfter.{joins_of, reuse_after, left_of}
use Rattle.table.proofs.defs.Struck.{Struck, Finished}
use Rattle.table.proofs.defs.Write.{holder}
use Rattle.table.specs.Class.{is_put}
use Rattle.table.proofs.Appended.{joined, Joined, from_old, from_own}
use Rattle.table.proofs.Finished.{new_top, finished_highest_valid}
use Rattle.table.proofs.Held.{is_holder, Holder, holder_is, held_holder}
use Rattle.table.proofs.Joins.{old, joins_from, From, own_slot}
use Rattle.table.proofs.Map.{live_is, Live, lives}
use Rattle.table.proofs.OneSlot.{weight_key}
use Rattle.table.proofs.ReuseAfter.{left_same, left-in}
use Rattle.table.proofs.ReuseOrder.{older_append, older_carry, older_filter, remove_is_record}
use Rattle.table.proofs.Struck.{not_taken}
use Rattle.table.proofs.Takeable.{older_below, older_key, older_idle, older_same}

-- a live slot has no remove record
live_no_remove : (f : Table) (n t : ℕ) → live f n t ≡ true → is_remove (f t) ≡ true → ⊥
unfolding is_remove
live_no_remove f n t l e = go (live_is f n t l)
  where
    go : Live f n t → ⊥
    go (lives w k v q d) = true-false e (ap is_remove q)

-- ---- the first slot is below a version

abbrev FirstBelow : Table → ℕ → List ℕ → Type 0
FirstBelow f v [] = Unit
FirstBelow f v (x ∷ l) = highest_whole_in (f x) < v

below_last : (f : Table) (n : ℕ) (l : List ℕ) → FirstBelow f (highest_valid f n) l → HighestLast f n l
below_last f n [] h = tt
below_last f n (x ∷ l) h = λ e top t i. absurd (omega arith)

-- ---- after a call

module _ {f f' : Table} {num num' : SizeFields} {n w : ℕ} {taken : List ℕ} {new : Table}
    (b : Basket f num n w taken new) (st : Struck f f' num num' n taken new) (z : Finished f' num' taken new) where
  -- the old slot of a key: its put, below w
  data Old (k o : ℕ) : Type 0 where
    old_slot : Slot n o → live f n o ≡ true → 0 < rank_for_key k (f o) → f' o ≡ f o → Old k o

  old_is : (k o : ℕ) → 0 < o → o ≡ holder f n k → Old k o
  old_is k o p e = go (is_holder f n k (omega arith))
    where
      go : Holder f n k → Old k o
      go (holder_is i a x) =
          let l : live f n o ≡ true = ap (live f n) e ∙ a in
          let j : Slot n o = omega arith in
          old_slot j l (omega (arith, ap (λ (y : ℕ). rank_for_key k (f y)) e)) (not_taken b st o j (λ t. true-false l (b.spare o t))).0

  -- what is appended for the records of l, which are some of the basket's
  joins_older : (l : List ℕ) → Once l → ((t : ℕ) → In t l → In t taken) → OlderFirst f' (joins_of f n l new)
  unfolding joins_of appended
  joins_older [] o sub = tt
  joins_older (x ∷ l) once sub =
      older_append f' (joins f n x (key_in (new x)) (new x)) (joins_of f n l new) (own (holder f n (key_in (new x))) refl (is_put (new x)))
      (joins_older l once.1 (λ t i. sub t (inr i)))
      (λ y t i j e o. cross y t (joined (holder f n (key_in (new x))) (is_put (new x)) x y i) (joins_from f n l new t j) e o)
    where
      old_put : (y : ℕ) → 0 < y → y ≡ holder f n (key_in (new x)) → is_remove (f' y) ≡ true → ⊥
      old_put y p e r = go (old_is (key_in (new x)) y p e)
        where
          go : Old (key_in (new x)) y → ⊥
          go (old_slot i a q s) = live_no_remove f n y a (sym (ap is_remove s) ∙ r)

      own : (o : ℕ) → o ≡ holder f n (key_in (new x)) → (p : Bool) → OlderFirst f' (appended o p x)
      own zero e true = tt
      own zero e false = ((λ t i r o. absurd i), tt)
      own (suc o) e true = ((λ t i r q. absurd i), tt)
      own (suc o) e false = ((λ t i r q. old_put (suc o) (omega arith) e r), ((λ t i r q. absurd i), tt))

      cross : (y t : ℕ) → Joined (holder f n (key_in (new x))) (is_put (new x)) x y → From f n l new t → is_remove (f' y) ≡ true → older f' y t ≡ true → ⊥
      cross y t (from_old p e) from r o = old_put y (omega arith) e r
      cross y t (from_own p e) (own_slot j q) r o =
          omega (arith, older_below f' y t o, new_top b st z t (sub t (inr j)), ap (λ (a : ℕ). highest_whole_in (f' a)) e, new_top b st z x (sub x (inl refl)))
      cross y t (from_own p e) (old s j q d) r o = go (old_is (key_in (new s)) t (omega arith) d)
        where
          key : key_in (f' y) ≡ key_in (new x)
          key = ap (λ (a : ℕ). key_in (f' a)) e ∙ ap key_in (z x (sub x (inl refl))).0

          go : Old (key_in (new s)) t → ⊥
          go (old_slot i a v same) =
              let one : key_in (new s) ≡ key_in (new x) = sym (weight_key (key_in (new s)) (f t) v) ∙ sym (ap key_in same) ∙ older_key f' y t o ∙ key in
              once.0 (in_at s x l (b.keys s x (sub s (inr j)) (sub x (inl refl)) one) j)

  -- where only held keys are removed the first of these is the old slot of a key
  joins_first : HeldRemoved taken new (map_of f n) → (l : List ℕ) → ((t : ℕ) → In t l → In t taken) → FirstBelow f' w (joins_of f n l new)
  unfolding joins_of appended
  joins_first held-only [] sub = tt
  joins_first held-only (x ∷ l) sub =
      go (holder f n (key_in (new x))) refl (is_put (new x)) refl (joins_first held-only l (λ t i. sub t (inr i)))
    where
      below : (o : ℕ) → 0 < o → o ≡ holder f n (key_in (new x)) → highest_whole_in (f' o) < w
      below o p e = by (old_is (key_in (new x)) o p e)
        where
          by : Old (key_in (new x)) o → highest_whole_in (f' o) < w
          by (old_slot i a v same) = omega (arith, ap highest_whole_in same, b.above o i)

      go : (o : ℕ) → o ≡ holder f n (key_in (new x)) → (p : Bool) → is_put (new x) ≡ p → FirstBelow f' w (joins_of f n l new)
          → FirstBelow f' w (appended o p x ++ joins_of f n l new)
      go zero e true q ih = ih
      go zero e false q ih = absurd (omega (arith, held_holder f n (key_in (new x)) (held-only x (sub x (inl refl)) q)))
      go (suc o) e true q ih = below (suc o) (omega arith) e
      go (suc o) e false q ih = below (suc o) (omega arith) e

  module _ {reuse : List ℕ} (sp : Spares f n reuse) where
    pub finished_older : OlderFirst f reuse → OlderFirst f' (reuse_after f n taken new reuse)
    unfolding reuse_after left_of
    finished_older a =
        older_append f' (left_of taken reuse) (joins_of f n taken new)
        (older_carry f f' (left_of taken reuse) (left_same b st z sp) (older_filter f (λ t. not (member taken t)) reuse a))
        (joins_older taken b.once (λ t i. i))
        (λ x t i j e o. cross x t i (joins_from f n taken new t j) e o)
      where
        cross : (x t : ℕ) → In x (left_of taken reuse) → From f n taken new t → is_remove (f' x) ≡ true → older f' x t ≡ true → ⊥
        cross x t i (own_slot j q) e o =
            omega (
              arith,
              older_below f' x t o,
              new_top b st z t j,
              ap highest_whole_in (left_same b st z sp x i),
              b.above x
                  (sp.slot x (left-in b st z sp x i)),
            )
        cross x t i (old s j q d) e o = go (old_is (key_in (new s)) t (omega arith) d)
          where
            go : Old (key_in (new s)) t → ⊥
            go (old_slot k l v same) =
                true-false l (older_idle f n x t (sp.slot x (left-in b st z sp x i))
                (remove_is_record (f x) (sym (ap is_remove (left_same b st z sp x i)) ∙ e))
                (sym (older_same f f' x t (left_same b st z sp x i) same) ∙ o))

    -- where only held keys are removed the first slot is left over or the old slot of a key, below w
    pub finished_highest_last : HeldRemoved taken new (map_of f n) → HighestLast f' n (reuse_after f n taken new reuse)
    unfolding reuse_after
    finished_highest_last held-only =
        below_last f' n (left_of taken reuse ++ joins_of f n taken new)
        (rw (finished_highest_valid b st z) (left_first (left_of taken reuse) (λ t i. i) (joins_first held-only taken (λ t i. i))))
      where
        left_first : (l : List ℕ) → ((t : ℕ) → In t l → In t (left_of taken reuse)) → FirstBelow f' w (joins_of f n taken new)
            → FirstBelow f' w (l ++ joins_of f n taken new)
        left_first [] sub h = h
        left_first (x ∷ l) sub h =
            omega (arith, ap highest_whole_in (left_same b st z sp x (sub x (inl refl))), b.above x (sp.slot x (left-in b st z sp x (sub x (inl refl)))))
