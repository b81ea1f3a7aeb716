-- Recovery's stores, any of them played: the settled table stays. Assumes nothing.
use mathlib.Core.Path.{◌≡◌, refl, sym, ap, ◌∙◌, fun_ext}
use mathlib.Core.Bool.{Bool, true, false}
use Prim.Native.Nat.{ℕ, ◌≤◌}
use native.Mathlib.Omega.{arith}
use Rattle.layout.specs.Content.{Table, broken, highest_whole_in, Content}
use Rattle.prelude.specs.Members.{Slot}
use Rattle.prelude.proofs.Choice.{true-false, same_test}
use Rattle.prelude.proofs.Count.{count_fewer}
use Rattle.table.specs.Complete.{SizeFields, highest_complete, has_version, sharers, basket_size, settled, is_void, NoneVoid}
use Rattle.table.specs.Table.{is_record, key_in, broken_count, live_count}
use Rattle.table.proofs.defs.Shared.{Agreed}
use Rattle.table.proofs.defs.Struck.{Opened, shut, opened, AcceptedTable}
use Rattle.table.proofs.Complete.{void_above, version_same, version_record, sharers_same, version_top, highest_complete_is, complete_is}
use Rattle.table.proofs.Complete.{highest_complete_least, complete_record, highest_complete_above, complete_enough, HighestComplete, none_complete}
use Rattle.table.proofs.Complete.{completed, settled_void, void_is, void_record, settled_same, not_void, not_void_below}
use Rattle.table.proofs.OneSlot.{broken_no_record}

module _ {f f' : Table} {num num' : SizeFields} {n : ℕ} (o : (t : ℕ) → Opened f f' num num' n t) where
  -- what is still a record is as it was
  still : (t : ℕ) → is_record (f' t) ≡ true → (f' t ≡ f t) × (num' t ≡ num t)
  still t c = go (o t)
    where
      go : Opened f f' num num' n t → (f' t ≡ f t) × (num' t ≡ num t)
      go (shut e d) = (e, d)
      go (opened v e) = absurd (true-false c (broken_no_record (f' t) (highest_whole_in (f t)) e))

  -- what is not void too
  safe : (t : ℕ) → highest_whole_in (f t) ≤ highest_complete f num n → (f' t ≡ f t) × (num' t ≡ num t)
  safe t l = go (o t)
    where
      go : Opened f f' num num' n t → (f' t ≡ f t) × (num' t ≡ num t)
      go (shut e d) = (e, d)
      go (opened v e) = absurd (omega (arith, void_above f num n t v))

  fewer : (v t : ℕ) → has_version f' v t ≡ true → has_version f v t ≡ true
  fewer v t e = sym (version_same f f' v t (still t (version_record f' v t e)).0) ∙ e

  sharers_fewer : (v : ℕ) → sharers f' n v ≤ sharers f n v
  unfolding sharers
  sharers_fewer v = count_fewer (has_version f v) (has_version f' v) n (λ t i. fewer v t)

  sharers_safe : (v : ℕ) → v ≤ highest_complete f num n → sharers f' n v ≡ sharers f n v
  sharers_safe v l =
      sharers_same f f' n v (λ t i. same_test _ _ (fewer v t) (λ e. version_same f f' v t (safe t (omega (arith, version_top f v t e))).0 ∙ e))

  -- THE HIGHEST COMPLETE VERSION STAYS
  pub opened_highest_complete : highest_complete f' num' n ≡ highest_complete f num n
  opened_highest_complete = omega (arith, at_most, at_least (highest_complete_is f num n))
    where
      at_most : highest_complete f' num' n ≤ highest_complete f num n
      at_most =
          highest_complete_least f' num' n (highest_complete f num n)
          (λ t i c.
          let e = still t (complete_record f' num' n t c) in
          omega (
            arith,
            ap highest_whole_in e.0,
            highest_complete_above f num n t i (complete_is f num n t (sym (ap is_record e.0) ∙ complete_record f' num' n t c)
                (omega (
                  arith,
                  complete_enough f' num' n t c,
                  ap basket_size e.1,
                  ap (sharers f' n) (ap highest_whole_in e.0),
                  sharers_fewer
                      (highest_whole_in (f t)),
                ))),
          ))

      at_least : HighestComplete f num n → highest_complete f num n ≤ highest_complete f' num' n
      at_least (none_complete z) = omega arith
      at_least (completed s i e q) =
          let k = safe s (omega arith) in
          omega (
            arith,
            ap highest_whole_in k.0,
            highest_complete_above f' num' n s i (complete_is f' num' n s (ap is_record k.0 ∙ complete_record f num n s e)
                (omega (
                  arith,
                  complete_enough f num n s e,
                  ap basket_size k.1,
                  ap (sharers f' n) (ap highest_whole_in k.0),
                  sharers_safe
                      (highest_whole_in (f s)) (omega arith),
                ))),
          )

  pub opened_settled_at : (t : ℕ) → settled f' num' n t ≡ settled f num n t
  opened_settled_at t = go (o t) (is_void f num n t) refl
    where
      go : Opened f f' num num' n t → (x : Bool) → is_void f num n t ≡ x → settled f' num' n t ≡ settled f num n t
      go (shut e d) true v =
          settled_void f' num' n t (void_is f' num' n t (ap is_record e ∙ void_record f num n t v)
          (omega (arith, ap highest_whole_in e, opened_highest_complete, void_above f num n t v)))
          ∙ ap (λ (c : Content). broken (highest_whole_in c)) e ∙ sym (settled_void f num n t v)
      go (shut e d) false v =
          settled_same f' num' n t (not_void f' num' n t
          (λ c. omega (arith, ap highest_whole_in e, opened_highest_complete, not_void_below f num n t v (sym (ap is_record e) ∙ c))))
          ∙ e ∙ sym (settled_same f num n t v)
      go (opened v e) x q =
          settled_same f' num' n t (not_void f' num' n t (λ c. absurd (true-false c (broken_no_record (f' t) (highest_whole_in (f t)) e))))
          ∙ e ∙ sym (settled_void f num n t v)

  -- THE SETTLED TABLE STAYS
  pub opened_settled : settled f' num' n ≡ settled f num n
  opened_settled = fun_ext opened_settled_at

  -- 7 is still not due
  pub opened_agreed : Agreed f num n → Agreed f' num' n
  opened_agreed a = record {
    numbers = λ s t i j p q e.
        (still s p).1 ∙ a.numbers s t i j (was s p) (was t q) (tops s t p q e) ∙ sym (still t q).1;
    few = λ s i p.
        omega (
          arith,
          ap (sharers f' n) (ap highest_whole_in (still s p).0),
          sharers_fewer (highest_whole_in (f s)),
          a.few s i (was s p),
          ap basket_size
              (still s p).1,
        );
    keys = λ s t i j ne p q e k.
        a.keys s t i j ne (was s p) (was t q) (tops s t p q e) (sym (ap key_in (still s p).0) ∙ k ∙ ap key_in (still t q).0);
  }
    where
      was : (t : ℕ) → is_record (f' t) ≡ true → is_record (f t) ≡ true
      was t c = sym (ap is_record (still t c).0) ∙ c

      tops : (s t : ℕ) → is_record (f' s) ≡ true → is_record (f' t) ≡ true → highest_whole_in (f' s) ≡ highest_whole_in (f' t)
          → highest_whole_in (f s) ≡ highest_whole_in (f t)
      tops s t p q e = sym (ap highest_whole_in (still s p).0) ∙ e ∙ ap highest_whole_in (still t q).0

  -- 7, 25 and 8 are not due where they were not
  pub opened_accepted : AcceptedTable f num n → AcceptedTable f' num' n
  opened_accepted a =
      record {
        agreed = opened_agreed a.agreed;
        few = omega (arith, ap (λ (g : Table). broken_count g n) opened_settled, a.few);
        idle = omega (arith, ap (λ (g : Table). live_count g n) opened_settled, a.idle);
      }

  -- AFTER ALL OF THEM NONE IS VOID, and the table is the settled one
  module _ (all : (t : ℕ) → Slot n t → is_void f num n t ≡ true → f' t ≡ broken (highest_whole_in (f t))) where
    pub opened_none_void : NoneVoid f' num' n
    opened_none_void t i = go (is_void f num n t) refl
      where
        go : (x : Bool) → is_void f num n t ≡ x → is_void f' num' n t ≡ false
        go true v = not_void f' num' n t (λ c. absurd (true-false c (broken_no_record (f' t) (highest_whole_in (f t)) (all t i v))))
        go false v =
            not_void f' num' n t (λ c. let e = (still t c).0 in omega
            (arith, ap highest_whole_in e, opened_highest_complete, not_void_below f num n t v (sym (ap is_record e) ∙ c)))
