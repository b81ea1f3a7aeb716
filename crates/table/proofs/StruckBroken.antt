-- The broken and void slots stay at most eight. Assumes nothing.
use mathlib.Core.Path.{◌≡◌, refl, sym, ap, ◌∙◌}
use mathlib.Core.Bool.{Bool, true, false, cond, not, ◌&&◌}
use mathlib.Core.Logic.{◌⊎◌, inl, inr, ⊎_elim}
use mathlib.Core.List.{List, [], ◌∷◌}
use Prim.Native.Nat.{ℕ, zero, suc, ◌≤◌}
use native.Mathlib.Omega.{arith}
use lib.ListN.{take}
use borrow.Author.Tests.{not-true, not-false}
use Rattle.layout.specs.Content.{Table}
use Rattle.prelude.specs.Filter.{filter}
use Rattle.prelude.specs.Members.{Slot, In}
use Rattle.prelude.specs.Range.{count}
use Rattle.prelude.proofs.defs.Among.{member}
use Rattle.prelude.proofs.Among.{member_in, not_member, count-member, in_member}
use Rattle.prelude.proofs.Any.{passing, Passing, passes, none_passes}
use Rattle.prelude.proofs.Choice.{both, both_right, both_left, is_false, true-false, pick_false}
use Rattle.prelude.proofs.Count.{count_same, count_fewer}
use Rattle.table.specs.Complete.{SizeFields, settled}
use Rattle.table.specs.Reuse.{BrokenFirst}
use Rattle.table.specs.Table.{is_broken, broken_count, broken_limit, is_record}
use Rattle.table.specs.Takeable.{may_take, taken_of, takeable_if}
use Rattle.table.proofs.defs.Basket.{Basket}
use Rattle.table.proofs.defs.Reuse.{Spares}
use Rattle.table.proofs.defs.ReuseAfter.{BrokenTaken}
use Rattle.table.proofs.defs.Struck.{Struck, Finished, Unfinished}
use Rattle.table.proofs.Broken.{record_whole, broken_idle}
use Rattle.table.proofs.Complete.{settled_same}
use Rattle.table.proofs.Finished.{finished_or, finished_settled}
use Rattle.table.proofs.Struck.{not_taken}
use Rattle.table.proofs.Unfinished.{unfinished_outside}

module _ {f f' : Table} {num num' : SizeFields} {n w : ℕ} {taken : List ℕ} {new : Table}
    (b : Basket f num n w taken new) (st : Struck f f' num num' n taken new) where
  -- outside the slots taken nothing becomes void or broken
  pub settled_outside : (t : ℕ) → Slot n t → (In t taken → ⊥) → settled f' num' n t ≡ f t
  settled_outside t i h = go (finished_or b st)
    where
      go : Finished f' num' taken new ⊎ Unfinished f' taken new → settled f' num' n t ≡ f t
      go (inl z) = finished_settled b st z t i ∙ (not_taken b st t i h).0
      go (inr u) = unfinished_outside b st u t i h

  -- what is broken or void now was taken or was broken
  broken_from : (t : ℕ) → Slot n t → is_broken (settled f' num' n t) ≡ true → In t taken ⊎ (is_broken (f t) ≡ true)
  broken_from t i e = go (member taken t) refl
    where
      go : (x : Bool) → member taken t ≡ x → In t taken ⊎ (is_broken (f t) ≡ true)
      go true q = inl (member_in taken t q)
      go false q = inr (sym (ap is_broken (settled_outside t i (not_member taken t q))) ∙ e)

  broken_before : broken_count (settled f num n) n ≡ count (λ t. is_broken (f t)) n
  unfolding broken_count
  broken_before =
      count_same (λ t. is_broken (settled f num n t)) (λ t. is_broken (f t)) n (λ t i. ap is_broken (settled_same f num n t (b.none_void t i)))

  -- AT MOST EIGHT: a broken slot is left, and what is taken was broken; or none is, and what is broken now is taken
  pub struck_broken : BrokenTaken f n taken → broken_count (settled f num n) n ≤ broken_limit → broken_count (settled f' num' n) n ≤ broken_limit
  unfolding broken_count broken_limit
  struck_broken first few = go (passing (λ t. is_broken (f t) && not (member taken t)) n)
    where
      now : ℕ → Bool
      now t = is_broken (settled f' num' n t)

      go : Passing (λ t. is_broken (f t) && not (member taken t)) n → count now n ≤ broken_limit
      go (passes s k q) = omega (arith, count_fewer (λ t. is_broken (f t)) now n each, broken_before, few)
        where
          out : In s taken → ⊥
          out = not_member taken s (not-true (member taken s) (both_right (is_broken (f s)) _ q))

          each : (t : ℕ) → Slot n t → now t ≡ true → is_broken (f t) ≡ true
          each t i e = ⊎_elim (first s t k (both_left (is_broken (f s)) _ q) out) (λ d. d) (broken_from t i e)
      go (none_passes h) = omega (arith, count_fewer (member taken) now n each, count-member taken n b.once b.slot, b.few)
        where
          each : (t : ℕ) → Slot n t → now t ≡ true → member taken t ≡ true
          each t i e =
              ⊎_elim (in_member taken t)
              (λ q. not-false (member taken t) (is_false (not (member taken t)) (λ k. true-false (both (is_broken (f t)) _ q k) (h t i))))
              (broken_from t i e)

-- ---- what the reuse chain gives

-- a broken slot may always be taken
broken_may : (f : Table) (n s : ℕ) → is_broken (f s) ≡ true → may_take f n s ≡ true
unfolding may_take takeable_if
broken_may f n s e =
    pick_false (is_record (f s)) _ true (is_false (is_record (f s)) (λ r. true-false e (record_whole (f s) r)))

-- the first m slots of a list that pass a test which broken slots pass: broken ones first
taken_broken : (f : Table) (p : ℕ → Bool) (l : List ℕ) (m x t : ℕ) → ((s : ℕ) → is_broken (f s) ≡ true → p s ≡ true) → BrokenFirst f l
    → In x l → is_broken (f x) ≡ true → (In x (take m (filter p l)) → ⊥) → In t (take m (filter p l)) → is_broken (f t) ≡ true
unfolding filter
taken_broken f p [] m x t h o i e out j = absurd i
taken_broken f p (y ∷ l) m x t h o i e out j = go (p y) refl m i out j (λ k. taken_broken f p l k x t h o.1)
  where
    go : (c : Bool) → p y ≡ c → (m : ℕ) → In x (y ∷ l) → (In x (take m (cond c (y ∷ filter p l) (filter p l))) → ⊥)
        → In t (take m (cond c (y ∷ filter p l) (filter p l)))
        → ((k : ℕ) → In x l → is_broken (f x) ≡ true → (In x (take k (filter p l)) → ⊥) → In t (take k (filter p l)) → is_broken (f t) ≡ true)
        → is_broken (f t) ≡ true
    go true q zero i out j ih = absurd j
    go true q (suc m) (inl z) out j ih = absurd (out (inl z))
    go true q (suc m) (inr k) out (inl z) ih = ap (λ (s : ℕ). is_broken (f s)) z ∙ o.0 x k e
    go true q (suc m) (inr k) out (inr j) ih = ih m k e (λ a. out (inr a)) j
    go false q m (inl z) out j ih = absurd (true-false (h y (sym (ap (λ (s : ℕ). is_broken (f s)) z) ∙ e)) q)
    go false q m (inr k) out j ih = ih m k e out j

-- while a broken slot is left the slots taken are broken
pub reuse_broken : (f : Table) (n m : ℕ) (reuse : List ℕ) → Spares f n reuse → BrokenFirst f reuse → BrokenTaken f n (taken_of f n m reuse)
unfolding taken_of
reuse_broken f n m reuse sp o x t i e out j =
    taken_broken f (may_take f n) reuse m x t (broken_may f n) o (sp.all x i (broken_idle f n x e)) e out j
