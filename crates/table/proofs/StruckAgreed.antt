-- Whatever a cut leaves of a basket, the sharers of each version agree. Assumes nothing.
use mathlib.Core.Path.{◌≡◌, sym, ap, ◌∙◌}
use mathlib.Core.Bool.{true, false}
use mathlib.Core.List.{List}
use Prim.Native.Nat.{ℕ, ◌≤◌, ◌<◌}
use native.Mathlib.Omega.{arith}
use lib.ListN.{length}
use Rattle.layout.specs.Content.{Table, highest_whole_in}
use Rattle.prelude.specs.Members.{Slot}
use Rattle.prelude.proofs.Choice.{is_false}
use Rattle.prelude.proofs.Count.{count_fewer}
use Rattle.table.specs.Complete.{SizeFields, sharers, has_version, basket_size}
use Rattle.table.specs.Table.{is_record, key_in}
use Rattle.table.proofs.defs.Basket.{Basket}
use Rattle.table.proofs.defs.Shared.{Agreed}
use Rattle.table.proofs.defs.Struck.{Struck}
use Rattle.table.proofs.Complete.{version_top, version_same, version_record, said_for}
use Rattle.table.proofs.Struck.{NewOrOld, new_or_old, old_same, is_new, is_old, sharers_most}

module _ {f f' : Table} {num num' : SizeFields} {n w : ℕ} {taken : List ℕ} {new : Table}
    (b : Basket f num n w taken new) (st : Struck f f' num num' n taken new) where
  abbrev View : ℕ → Type 0
  View t = NewOrOld b st t

  view : (t : ℕ) → Slot n t → View t
  view t i = new_or_old b st t i

  -- an old version has no more sharers than it had
  old_sharers : (v : ℕ) → v < w → sharers f' n v ≤ sharers f n v
  unfolding sharers
  old_sharers v l = count_fewer (has_version f v) (has_version f' v) n each
    where
      each : (t : ℕ) → Slot n t → has_version f' v t ≡ true → has_version f v t ≡ true
      each t i e =
          let a : has_version f' w t ≡ false = is_false (has_version f' w t) (λ d. omega (arith, version_top f' w t d, version_top f' v t e)) in
          sym (version_same f f' v t (old_same b st t i a (version_record f' v t e)).0) ∙ e

  -- 7 IS NOT DUE
  pub struck_agreed : Agreed f' num' n
  struck_agreed = record {
    numbers = λ s t i j p q e. numbers s t i j p q e (view s i) (view t j);
    few = λ s i p. few s i p (view s i);
    keys = λ s t i j ne p q e k. keys s t i j ne p q e k (view s i) (view t j);
  }
    where
      numbers : (s t : ℕ) → Slot n s → Slot n t → is_record (f' s) ≡ true → is_record (f' t) ≡ true → highest_whole_in (f' s) ≡ highest_whole_in (f' t) → View s
          → View t → num' s ≡ num' t
      numbers s t i j p q e (is_new a c d l) (is_new x y z m) = d ∙ sym z
      numbers s t i j p q e (is_new a c d l) (is_old m h) = absurd (omega (arith, version_top f' w s l, ap highest_whole_in (h q).0, b.above t j))
      numbers s t i j p q e (is_old l g) (is_new x y z m) = absurd (omega (arith, version_top f' w t m, ap highest_whole_in (g p).0, b.above s i))
      numbers s t i j p q e (is_old l g) (is_old m h) =
          (g p).1
          ∙ b.agreed.numbers s t i j (sym (ap is_record (g p).0) ∙ p) (sym (ap is_record (h q).0) ∙ q)
          (sym (ap highest_whole_in (g p).0) ∙ e ∙ ap highest_whole_in (h q).0)
          ∙ sym (h q).1

      few : (s : ℕ) → Slot n s → is_record (f' s) ≡ true → View s → sharers f' n (highest_whole_in (f' s)) ≤ basket_size (num' s)
      few s i p (is_new a c d l) =
          omega (arith, ap (sharers f' n) (version_top f' w s l), sharers_most b st, ap basket_size d, said_for (length taken) b.some)
      few s i p (is_old l g) =
          omega (
            arith,
            ap (sharers f' n) (ap highest_whole_in (g p).0),
            old_sharers (highest_whole_in (f s)) (b.above s i),
            b.agreed.few s i (sym (ap is_record (g p).0) ∙ p),
            ap basket_size (g p).1,
          )

      keys : (s t : ℕ) → Slot n s → Slot n t → (s ≡ t → ⊥) → is_record (f' s) ≡ true → is_record (f' t) ≡ true
          → highest_whole_in (f' s) ≡ highest_whole_in (f' t)
          → key_in (f' s) ≡ key_in (f' t) → View s → View t → ⊥
      keys s t i j ne p q e k (is_new a c d l) (is_new x y z m) = ne (b.keys s t a x (sym (ap key_in c) ∙ k ∙ ap key_in y))
      keys s t i j ne p q e k (is_new a c d l) (is_old m h) = omega (arith, version_top f' w s l, ap highest_whole_in (h q).0, b.above t j)
      keys s t i j ne p q e k (is_old l g) (is_new x y z m) = omega (arith, version_top f' w t m, ap highest_whole_in (g p).0, b.above s i)
      keys s t i j ne p q e k (is_old l g) (is_old m h) =
          b.agreed.keys s t i j ne (sym (ap is_record (g p).0) ∙ p) (sym (ap is_record (h q).0) ∙ q)
          (sym (ap highest_whole_in (g p).0) ∙ e ∙ ap highest_whole_in (h q).0)
          (sym (ap key_in (g p).0) ∙ k ∙ ap key_in (h q).0)
