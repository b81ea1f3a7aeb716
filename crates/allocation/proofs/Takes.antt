-- The refusal of a call by the slots that it takes, from walks by what is known of the highest valid version. Assumes nothing.
use mathlib.Core.Path.{◌≡◌, refl, sym, ap, ◌∙◌, fun_ext}
use mathlib.Core.Bool.{Bool, true, false, cond, not, ◌&&◌, true≢false}
use mathlib.Core.List.{List, []}
use Prim.Native.Nat.{ℕ, ◌-◌, ◌≤◌, ◌<◌}
use native.Mathlib.Omega.{arith}
use lib.Dec.{ltb}
use borrow.Author.Tests.{lt-ltb, ltb-true}
use Rattle.words.specs.Word.{word}
use Rattle.prelude.specs.Range.{any_of, greatest}
use Rattle.prelude.proofs.Choice.{both_left, both_right}
use Rattle.prelude.proofs.Most.{greatest_above}
use Rattle.layout.specs.Content.{highest_whole_in, Table, content, contents_of}
use Rattle.index.specs.Allocation.{allocate_from}
use Rattle.table.specs.Table.{is_record}
use Rattle.table.specs.Takeable.{highest_valid, is_remove, older, may_take, may_take_after, takeable_if}
use Rattle.table.proofs.TakeableAfter.{may_after}
use Rattle.allocation.specs.Allocation.{allocation_by_rule, allocation_chosen}
use Rattle.allocation.specs.inner.Walk.{take_fault, walk_fault}
use Rattle.allocation.specs.inner.Takeable.{slot_version, takeable, low_put, OpenFirst}
use Rattle.allocation.proofs.Walks.{walk-fault, walk_taken, end_good, still_fine}
use Rattle.allocation.proofs.Contents.{slot_holds, held_version}
use Rattle.allocation.proofs.Tested.{may_low}

-- ---- the highest valid version

-- by the slots' versions
pub highest_is : (l : ℕ) (m : ℕ → ℕ) (n : ℕ) → greatest (slot_version m) n ≡ highest_valid (content l m) n
unfolding highest_valid
highest_is l m n = sym (ap (λ (g : ℕ → ℕ). greatest g n) (fun_ext (λ s. held_version (content l m) s _ _ _ (slot_holds l m s))))

-- a slot's version is none above it
pub version_within : (m : ℕ → ℕ) (n s v : ℕ) → v ≡ slot_version m s → (s ≡ 0 → ⊥) → s ≤ n → v ≤ greatest (slot_version m) n
version_within m n s v e low high = omega (arith, greatest_above (slot_version m) n s (omega arith, high), e)

-- ---- a slot that may be taken by less than the highest version, and without looking for older records, may be taken

module _ (f : Table) (n : ℕ) where
  exactly : takeable f n (highest_valid f n) true ≡ may_take f n
  unfolding may_take takeable takeable_if
  exactly = refl

  surely : (top s : ℕ) → top ≤ highest_valid f n → takeable f n top false s ≡ true → may_take f n s ≡ true
  unfolding may_take takeable takeable_if
  surely top s h e = go (is_record (f s)) (is_remove (f s)) e
    where
      go : (a b : Bool) → cond a (ltb (highest_whole_in (f s)) top && not (b && true)) true ≡ true
          → cond a (ltb (highest_whole_in (f s)) (highest_valid f n) && not (b && any_of (older f s) 1 n)) true ≡ true
      go false b q = refl
      go true true q = absurd (true≢false (sym (both_right (ltb (highest_whole_in (f s)) top) false q)))
      go true false q =
          let low = ltb-true (highest_whole_in (f s)) top (both_left (ltb (highest_whole_in (f s)) top) true q) in
          ap (λ (x : Bool). x && true) (lt-ltb (highest_whole_in (f s)) (highest_valid f n) (omega arith))

-- ---- the refusal

module _ (l : ℕ) (image next : List ℕ) (n first : ℕ) where
  pub walked : (wanted : ℕ) → 0 < wanted → walk_fault (may_take (contents_of l image) n) next n n wanted first
      ≡ take_fault (allocation_by_rule l image next n first wanted)
  unfolding allocation_by_rule allocate_from
  walked wanted some = sym (walk-fault (may_take (contents_of l image) n) next n n wanted 0 first [] some)

  module _ (wanted : ℕ) (some : 0 < wanted) where
    -- a walk among the first slots, by a version that is none above the highest: not refused
    pub taken_ahead : (top few k : ℕ) → top ≤ greatest (slot_version (word image)) n → few ≤ n
        → k ≡ walk_fault (takeable (contents_of l image) n top false) next n few wanted first → k ≡ 0
        → k ≡ take_fault (allocation_by_rule l image next n first wanted)
    unfolding allocation_by_rule allocate_from
    taken_ahead top few k h q e z =
        z ∙ sym
        (still_fine (takeable (contents_of l image) n top false) (λ c. may_take (contents_of l image) n) next n
        (λ c w s. surely (contents_of l image) n top s (omega (arith, highest_is l (word image) n))) few n wanted wanted 0 first [] (λ t i. absurd i) q some
        (omega arith) (sym e ∙ z))

    -- a walk among them by line A alone, by such a version: not refused
    pub taken_low : (top few k : ℕ) → top ≤ greatest (slot_version (word image)) n → few ≤ n
        → k ≡ walk_fault (low_put l (word image) top) next n few wanted first → k ≡ 0
        → k ≡ take_fault (allocation_by_rule l image next n first wanted)
    unfolding allocation_by_rule allocate_from
    taken_low top few k h m e z =
        z ∙ sym
        (still_fine (low_put l (word image) top) (λ c. may_take (contents_of l image) n) next n
        (λ c w s q.
        surely (contents_of l image) n top s (omega (arith, highest_is l (word image) n)) (sym (may_low l (word image) n top false s _ refl q))) few n wanted
        wanted 0 first []
        (λ t i. absurd i) m some (omega arith) (sym e ∙ z))

    -- a walk along the chain, by the highest version
    pub taken_by_all : (top r : ℕ) → top ≡ greatest (slot_version (word image)) n
        → r ≡ walk_fault (takeable (contents_of l image) n top true) next n n wanted first → r ≡ take_fault (allocation_by_rule l image next n first wanted)
    taken_by_all top r h e =
        e ∙ ap (λ (t : ℕ). walk_fault (takeable (contents_of l image) n t true) next n n wanted first) (h ∙ highest_is l (word image) n)
        ∙ ap (λ (may : ℕ → Bool). walk_fault may next n n wanted first) (exactly (contents_of l image) n) ∙ walked wanted some

    -- the slots of a basket that the rule does not refuse
    pub choice_fine : take_fault (allocation_by_rule l image next n first wanted) ≡ 0 → take_fault (allocation_chosen l image next n first wanted) ≡ 0
    unfolding allocation_chosen allocate_from
    choice_fine z =
        still_fine (may_take (contents_of l image) n) (may_take_after (contents_of l image) n) next n (may_after (contents_of l image) n) n n wanted wanted 0
        first []
        (λ t i. absurd i) (omega arith) some (omega arith) (walked wanted some ∙ z)

  -- the first slot may be taken, by a version that is none above the highest
  pub taken-first : (top : ℕ) → top ≤ greatest (slot_version (word image)) n → 2 ≤ n → OpenFirst l (word image) next n top first
      → 0 ≡ take_fault (allocation_by_rule l image next n first 1)
  taken-first top h some o =
      taken_low 1 (omega arith) top n 0 h (omega arith)
      (sym (walk_taken (low_put l (word image) top) next n n 1 first (omega arith) o.low o.high o.put refl ∙ end_good n (n - 1) _ (omega arith) o.link)) refl
