-- A slot whose line A is opened by one store: it is broken with the version that it had. Assumes nothing.
use mathlib.Core.Path.{◌≡◌, sym, ap, ap₂, ◌∙◌}
use mathlib.Core.Bool.{true, false, cond, true≢false}
use mathlib.Core.Logic.{◌⊎◌, inl, inr, by_cases}
use mathlib.Core.List.{List}
use Prim.Native.Nat.{ℕ, ◌+◌, ◌*◌, ◌%◌, ◌≤◌, ◌<◌}
use native.Mathlib.Decide.{dec_lt}
use native.Mathlib.Omega.{arith}
use borrow.Author.Tests.{ne_eqb}
use Rattle.prelude.proofs.Choice.{pick_false, split}
use Rattle.layout.specs.Line.{line, whole, first_word}
use Rattle.layout.specs.Slot.{paired, highest_whole_of, line_verdict, is_valid}
use Rattle.layout.specs.Record.{Layout, size_field}
use Rattle.layout.specs.Content.{broken, content_of, content, highest_whole_in}
use Rattle.layout.specs.Fault.{fault_of, record_fault}
use Rattle.layout.proofs.Content.{top_whole, top_open, a_pair, unpaired, verdict_broken, broken_content, top_content}
use Rattle.stores.specs.Store.{Store, stored}
use Rattle.stores.specs.Invalidation.{invalidating_store}
use Rattle.stores.specs.Cut.{after_cut, SlotInvalidated, shut, opened}
use Rattle.stores.proofs.defs.Cut.{Opens}
use Rattle.stores.proofs.StandingStores.{line_out, line_none, line_one}
use Rattle.stores.proofs.Line.{stored_there, stored_off}

-- ---- a slot by its lines: A and B before, A' after, B stays

module _ (l : ℕ) (A A' B : ℕ → ℕ) (open_A : whole (A' 0) (A' 7) ≡ false) where
  no_pair : paired (A' 0) (A' 7) (B 0) (B 7) ≡ false
  no_pair = unpaired (A' 0) (A' 7) (B 0) (B 7) (λ x y r. true≢false (sym x ∙ open_A))

  -- line B carries the version of a slot that was not broken
  same_top : paired (A 0) (A 7) (B 0) (B 7) ≡ true → highest_whole_of A' B ≡ highest_whole_of A B
  unfolding highest_whole_of
  same_top p =
      let both = a_pair (A 0) (A 7) (B 0) (B 7) p in
      omega
      (arith, top_open (A' 0) (A' 7) open_A, top_whole (A 0) (A 7) both.first, top_whole (B 0) (B 7) both.second, both.one_version)

  open_content : ((t : ℕ) → content_of l A B ≡ broken t → ⊥) → content_of l A' B ≡ broken (highest_whole_in (content_of l A B))
  open_content sound = go (split (paired (A 0) (A 7) (B 0) (B 7)))
    where
      go : (paired (A 0) (A 7) (B 0) (B 7) ≡ true) ⊎ (paired (A 0) (A 7) (B 0) (B 7) ≡ false)
          → content_of l A' B ≡ broken (highest_whole_in (content_of l A B))
      go (inl p) = broken_content l A' B no_pair ∙ ap broken (same_top p ∙ sym (top_content l A B))
      go (inr p) = absurd (sound (highest_whole_of A B) (broken_content l A B p))

  open_fault : cond (is_valid (line_verdict A' B)) (fault_of l A' B) 0 ≡ 0
  unfolding is_valid
  open_fault = pick_false (is_valid (line_verdict A' B)) _ _ (ap is_valid (verdict_broken A' B no_pair))

-- ---- any stores that open slot s

module _ (l : ℕ) (counts m : ℕ → ℕ) (ss : List Store) (s : ℕ) (has : Opens m ss s) where
  same_B : line (after_cut counts ss m) (2 * s + 1) ≡ line m (2 * s + 1)
  same_B = line_out counts m ss (2 * s + 1) has.line_B

  same_A : counts (2 * s) ≡ 0 → line (after_cut counts ss m) (2 * s) ≡ line m (2 * s)
  same_A = line_none counts m ss (2 * s)

  module _ (h : 0 < counts (2 * s)) where
    now_A : (i : ℕ) → line (after_cut counts ss m) (2 * s) i ≡ stored (invalidating_store m s) m (8 * (2 * s) + i % 8)
    now_A = line_one counts m ss (2 * s) (invalidating_store m s) has.line_A h

    open_mark : line (after_cut counts ss m) (2 * s) 0 ≡ first_word (line m (2 * s) 7)
    unfolding invalidating_store
    open_mark = now_A 0 ∙ ap (stored (invalidating_store m s) m) (omega arith) ∙ stored_there (16 * s) (first_word (line m (2 * s) 7)) m

    same_word : (i : ℕ) → 0 < i → i < 8 → line (after_cut counts ss m) (2 * s) i ≡ line m (2 * s) i
    unfolding invalidating_store
    same_word i p q =
        now_A i ∙ stored_off (16 * s) (first_word (line m (2 * s) 7)) m (8 * (2 * s) + i % 8) (λ (e : 8 * (2 * s) + i % 8 ≡ 16 * s). omega arith)

    open_line : whole (line (after_cut counts ss m) (2 * s) 0) (line (after_cut counts ss m) (2 * s) 7) ≡ false
    open_line =
        ap₂ whole open_mark (same_word 7 (omega arith) (omega arith))
        ∙ ne_eqb (first_word (line m (2 * s) 7)) (line m (2 * s) 7 % 2) (λ e. omega arith)

  pub slot_opened : Layout l → ((t : ℕ) → content l m s ≡ broken t → ⊥) → SlotInvalidated l m (after_cut counts ss m) s (counts (2 * s))
  unfolding content
  slot_opened lay sound =
      by_cases (dec_lt 0 (counts (2 * s)))
      (λ h.
      opened h
      (ap (content_of l (line (after_cut counts ss m) (2 * s))) same_B
      ∙ open_content l (line m (2 * s)) (line (after_cut counts ss m) (2 * s)) (line m (2 * s + 1)) (open_line h) sound)
      (ap size_field (same_word h (l + 1) (omega arith) (omega (arith, lay.high)))))
      (λ h.
      let e : counts (2 * s) ≡ 0 = omega arith in
      shut e (ap₂ (content_of l) (same_A e) same_B) (ap (λ (A : ℕ → ℕ). size_field (A (l + 1))) (same_A e)))

  pub opened_fault : record_fault l m s ≡ 0 → record_fault l (after_cut counts ss m) s ≡ 0
  unfolding record_fault
  opened_fault fine =
      by_cases (dec_lt 0 (counts (2 * s)))
      (λ h.
      ap (λ (B : ℕ → ℕ). fault_by (line (after_cut counts ss m) (2 * s)) B) same_B
      ∙ open_fault l (line m (2 * s)) (line (after_cut counts ss m) (2 * s)) (line m (2 * s + 1)) (open_line h))
      (λ h. ap₂ fault_by (same_A (omega arith)) same_B ∙ fine)
    where
      fault_by : (A B : ℕ → ℕ) → ℕ
      fault_by A B = cond (is_valid (line_verdict A B)) (fault_of l A B) 0

  pub opened_mark : line m (2 * s) 0 ≤ 1 → line (after_cut counts ss m) (2 * s) 0 ≤ 1
  opened_mark low =
      by_cases (dec_lt 0 (counts (2 * s))) (λ h. omega (arith, open_mark h))
      (λ h. omega (arith, ap (λ (A : ℕ → ℕ). A 0) (same_A (omega arith))))
