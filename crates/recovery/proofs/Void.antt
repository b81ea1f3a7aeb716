-- Judging along the order by rank, the lists of the settled table, and how many slots are void. Assumes nothing.
use mathlib.Core.Path.{◌≡◌, refl, sym, ap, ap₂, ◌∙◌}
use mathlib.Core.Bool.{Bool, true, false, cond}
use mathlib.Core.List.{List}
use Prim.Native.Nat.{ℕ, zero, suc, ◌+◌, ◌-◌, ◌≤◌, ◌<◌}
use native.Mathlib.Omega.{arith}
use lib.Dec.{ltb, leb}
use lib.ListN.{length, get_or}
use borrow.Author.Tests.{eq-eqb, eqb-true, ltb-true, ltb-false, le-leb, leb-true}
use Rattle.prelude.specs.Range.{count}
use Rattle.prelude.specs.Members.{Slot, slot_numbers}
use Rattle.prelude.proofs.Choice.{pick_true, pick_false, true-false, is_false, both, both_left, both_right}
use Rattle.prelude.proofs.Count.{count_both, count-filter}
use Rattle.layout.specs.Content.{put_record, highest_whole_in, content, size_field_in, Table}
use Rattle.sorting.specs.Sorted.{sorted}
use Rattle.sorting.proofs.Order.{Compared, low, high, compared}
use Rattle.table.specs.Table.{is_record, is_broken, key_in, broken_count, broken_limit, many_broken}
use Rattle.table.specs.Complete.{SizeFields, basket_size, sharers, complete, highest_complete, is_void, settled}
use Rattle.table.specs.Order.{rank_of}
use Rattle.table.proofs.defs.Shared.{Agreed}
use Rattle.table.proofs.Broken.{record_whole, many_few}
use Rattle.table.proofs.Ranks.{void_rank, settled_rank}
use Rattle.table.proofs.Complete.{complete_is, complete_record, complete_enough, highest_complete_above, highest_complete_least, void_record, settled_void}
use Rattle.table.proofs.Complete.{settled_same}
use Rattle.recovery.specs.Invalidation.{void_slots}
use Rattle.recovery.specs.inner.Scan.{put_place, key_at, Listed}
use Rattle.recovery.specs.inner.Decide.{entry_at, full_run, judged_rank, Cleared}
use Rattle.sorting.proofs.Positions.{rising_at}
use Rattle.sorting.proofs.Runs.{Span}
use Rattle.recovery.proofs.Neighbours.{said_some, whole, slot_at, rising, counting, rank-of, run_at}

-- ---- the test of a full run as facts

full_is : (num : SizeFields) (ranks order : List ℕ) (i : ℕ) → full_run num ranks order i ≡ true
    → (basket_size (num (get_or order i 0)) ≤ i + 1) × (entry_at ranks order (i + 1 - basket_size (num (get_or order i 0))) ≡ entry_at ranks order i)
unfolding full_run
full_is num ranks order i t = (
  leb-true (basket_size (num (get_or order i 0))) (i + 1) (both_left (leb (basket_size (num (get_or order i 0))) (i + 1)) _ t),
  eqb-true (entry_at ranks order (i + 1 - basket_size (num (get_or order i 0)))) (entry_at ranks order i)
      (both_right (leb (basket_size (num (get_or order i 0))) (i + 1)) _ t),
)

is-full : (num : SizeFields) (ranks order : List ℕ) (i : ℕ) → basket_size (num (get_or order i 0)) ≤ i + 1
    → entry_at ranks order (i + 1 - basket_size (num (get_or order i 0))) ≡ entry_at ranks order i → full_run num ranks order i ≡ true
unfolding full_run
is-full num ranks order i h e =
    both (leb (basket_size (num (get_or order i 0))) (i + 1)) _ (le-leb (basket_size (num (get_or order i 0))) (i + 1) h)
    (eq-eqb (entry_at ranks order (i + 1 - basket_size (num (get_or order i 0)))) (entry_at ranks order i) e)

-- ---- judging

module _ (f : Table) (num : SizeFields) (n : ℕ) (ranks order : List ℕ) (rank_at : (s : ℕ) → 0 < s → s ≤ n → get_or ranks s 0 ≡ rank_of (f s))
    (o : order ≡ sorted (λ x. get_or ranks x 0) (slot_numbers n)) where
  abbrev at : ℕ → ℕ
  at i = get_or order i 0

  size : length order ≡ n
  size = (whole f n ranks order rank_at o).size

  -- where judging from position i − 1 down ends: nowhere, or at a slot with a full run
  data End (i : ℕ) : Type 0 where
    nowhere : judged_rank num ranks order i ≡ 2 → End i
    ends : (j : ℕ) → j < i → judged_rank num ranks order i ≡ entry_at ranks order j → 2 ≤ entry_at ranks order j → full_run num ranks order j ≡ true → End i

  end_of : (i : ℕ) → End i
  unfolding judged_rank
  end_of zero = nowhere refl
  end_of (suc i) = go (ltb (entry_at ranks order i) 2) refl (full_run num ranks order i) refl (end_of i)
    where
      go : (x : Bool) → ltb (entry_at ranks order i) 2 ≡ x → (y : Bool) → full_run num ranks order i ≡ y → End i → End (suc i)
      go true p y q e = nowhere (pick_true (ltb (entry_at ranks order i) 2) _ _ p)
      go false p true q e =
          ends i (omega arith) (pick_false (ltb (entry_at ranks order i) 2) _ _ p ∙ pick_true (full_run num ranks order i) _ _ q)
          (ltb-false (entry_at ranks order i) 2 p) q
      go false p false q (nowhere e) = nowhere (pick_false (ltb (entry_at ranks order i) 2) _ _ p ∙ pick_false (full_run num ranks order i) _ _ q ∙ e)
      go false p false q (ends j h e b t) =
          ends j (omega arith) (pick_false (ltb (entry_at ranks order i) 2) _ _ p ∙ pick_false (full_run num ranks order i) _ _ q ∙ e) b t

  -- a full run is not above that end
  full_below : (i : ℕ) → i ≤ n → (j : ℕ) → j < i → 2 ≤ entry_at ranks order j → full_run num ranks order j ≡ true
      → entry_at ranks order j ≤ judged_rank num ranks order i
  unfolding judged_rank
  full_below zero h j k b t = absurd (omega arith)
  full_below (suc i) h j k b t = go (ltb (entry_at ranks order i) 2) refl (full_run num ranks order i) refl (compared i j) (full_below i (omega arith) j)
    where
      -- position j is not after position i
      upto : entry_at ranks order j ≤ entry_at ranks order i
      upto = rising_at (λ x. get_or ranks x 0) order j i (rising f n ranks order rank_at o) (omega arith) (omega (arith, size))

      go : (x : Bool) → ltb (entry_at ranks order i) 2 ≡ x → (y : Bool) → full_run num ranks order i ≡ y → Compared i j
          → (j < i → 2 ≤ entry_at ranks order j → full_run num ranks order j ≡ true → entry_at ranks order j ≤ judged_rank num ranks order i)
          → entry_at ranks order j
          ≤ cond (ltb (entry_at ranks order i) 2) 2 (cond (full_run num ranks order i) (entry_at ranks order i) (judged_rank num ranks order i))
      go true p y q c ih = absurd (omega (arith, ltb-true (entry_at ranks order i) 2 p, upto))
      go false p true q c ih =
          omega (
            arith,
            pick_false (ltb (entry_at ranks order i) 2) 2 (cond (full_run num ranks order i) (entry_at ranks order i) (judged_rank num ranks order i)) p,
            pick_true (full_run num ranks order i) (entry_at ranks order i) (judged_rank num ranks order i) q,
            upto,
          )
      go false p false q (low a u) ih =
          let z : i ≡ j = omega arith in
          absurd (true-false t (sym (ap (full_run num ranks order) z) ∙ q))
      go false p false q (high a u) ih =
          omega (
            arith,
            pick_false (ltb (entry_at ranks order i) 2) 2 (cond (full_run num ranks order i) (entry_at ranks order i) (judged_rank num ranks order i)) p,
            pick_false (full_run num ranks order i) (entry_at ranks order i) (judged_rank num ranks order i) q,
            ih u b t,
          )

  -- a slot with a full run is complete
  full_complete : (i : ℕ) → i < n → 2 ≤ entry_at ranks order i → full_run num ranks order i ≡ true → complete f num n (at i) ≡ true
  full_complete i h b t = complete_is f num n (at i) counts (omega (arith, inside, after, said_some (num (at i)), full.0))
    where
      full : (basket_size (num (at i)) ≤ i + 1) × (entry_at ranks order (i + 1 - basket_size (num (at i))) ≡ entry_at ranks order i)
      full = full_is num ranks order i t

      slot : Slot n (at i)
      slot = slot_at f n ranks order rank_at o i h

      counts : is_record (f (at i)) ≡ true
      counts = counting f n ranks order rank_at o (at i) slot b

      top : entry_at ranks order i ≡ 2 + highest_whole_in (f (at i))
      top = rank-of f n ranks order rank_at o (at i) slot counts

      r : Span (λ x. get_or ranks x 0) (2 + highest_whole_in (f (at i))) order (sharers f n (highest_whole_in (f (at i))))
      r = run_at f n ranks order rank_at o (highest_whole_in (f (at i)))

      after : i < r.lo + sharers f n (highest_whole_in (f (at i)))
      after = (r.inside i (omega (arith, size)) top).1

      inside : r.lo ≤ i + 1 - basket_size (num (at i))
      inside = (r.inside (i + 1 - basket_size (num (at i))) (omega (arith, size, said_some (num (at i)), full.0)) (full.1 ∙ top)).0

  -- and where the sharers agree a complete slot's run is full at its last position
  complete_full : Agreed f num n → (s : ℕ) → Slot n s → complete f num n s ≡ true → 2 + highest_whole_in (f s) ≤ judged_rank num ranks order n
  complete_full g s i c = omega (arith, full_below n (omega arith) last inside (omega (arith, here)) full, here)
    where
      counts : is_record (f s) ≡ true
      counts = complete_record f num n s c

      enough : basket_size (num s) ≤ sharers f n (highest_whole_in (f s))
      enough = complete_enough f num n s c

      some : 1 ≤ basket_size (num s)
      some = said_some (num s)

      r : Span (λ x. get_or ranks x 0) (2 + highest_whole_in (f s)) order (sharers f n (highest_whole_in (f s)))
      r = run_at f n ranks order rank_at o (highest_whole_in (f s))

      last : ℕ
      last = r.lo + sharers f n (highest_whole_in (f s)) - 1

      inside : last < n
      inside = omega (arith, r.end, size, enough, some)

      here : entry_at ranks order last ≡ 2 + highest_whole_in (f s)
      here = r.equal last (omega (arith, enough, some)) (omega (arith, enough, some))

      slot : Slot n (at last)
      slot = slot_at f n ranks order rank_at o last inside

      counts_last : is_record (f (at last)) ≡ true
      counts_last = counting f n ranks order rank_at o (at last) slot (omega (arith, here))

      number : basket_size (num (at last)) ≡ basket_size (num s)
      number =
          ap basket_size
          (g.numbers (at last) s slot i counts_last counts (omega (arith, here, rank-of f n ranks order rank_at o (at last) slot counts_last)))

      first : ℕ
      first = last + 1 - basket_size (num (at last))

      full : full_run num ranks order last ≡ true
      full =
          is-full num ranks order last (omega (arith, number, enough, some))
          (r.equal first (omega (arith, number, enough, some)) (omega (arith, number, enough, some)) ∙ sym here)

  -- JUDGING along the order ends at the highest complete version
  pub judged_is : Agreed f num n → judged_rank num ranks order n ≡ 2 + highest_complete f num n
  judged_is g = go (end_of n)
    where
      least : highest_complete f num n ≤ judged_rank num ranks order n - 2
      least =
          highest_complete_least f num n (judged_rank num ranks order n - 2)
          (λ s i c. omega (arith, complete_full g s i c))

      go : End n → judged_rank num ranks order n ≡ 2 + highest_complete f num n
      go (nowhere e) = omega (arith, e, least)
      go (ends j h e b t) =
          let slot = slot_at f n ranks order rank_at o j h in
          omega (
            arith,
            e,
            least,
            rank-of f n ranks order rank_at o (at j) slot (counting f n ranks order rank_at o (at j) slot b),
            highest_complete_above f num n (at j) slot (full_complete j h b t),
          )

-- ---- the settled table

-- a record of the settled table is not void
pub settled_put : (f : Table) (num : SizeFields) (n s : ℕ) (w k : ℕ) (v : List ℕ) → settled f num n s ≡ put_record w k v → f s ≡ put_record w k v
unfolding is_record
settled_put f num n s w k v e = go (is_void f num n s) refl
  where
    go : (x : Bool) → is_void f num n s ≡ x → f s ≡ put_record w k v
    go true d = absurd (true-false refl (ap is_record (sym e ∙ settled_void f num n s d)))
    go false d = sym (settled_same f num n s d) ∙ e

module _ (f : Table) (num : SizeFields) (n b limit : ℕ) (ranks lows highs places ranks' places' : List ℕ) (h : Listed f n b ranks lows highs places)
    (e : limit ≡ 2 + highest_complete f num n) where
  -- the slots above the limit are the void ones
  pub above_void : (s : ℕ) → Slot n s → ltb limit (get_or ranks s 0) ≡ is_void f num n s
  above_void s i = ap₂ ltb e (h.rank_at s i.0 i.1) ∙ sym (void_rank f num n s)

  -- the lists without the ranks and places of void slots are those of the settled table
  pub settled_listed : Cleared limit n ranks places ranks' places' → Listed (settled f num n) n b ranks' lows highs places'
  unfolding put_place
  settled_listed c =
      record {
        rank_at = λ s p q. ranked s (p, q) (is_void f num n s) refl;
        key-at = λ s p q r. keyed s (p, q) r (is_void f num n s) refl;
        place_at = λ s p q. placed s (p, q) (is_void f num n s) refl;
      }
    where
      lost : (s : ℕ) → Slot n s → is_void f num n s ≡ true → (x y : ℕ) → cond (ltb limit (get_or ranks s 0)) x y ≡ x
      lost s i d x y = pick_true (ltb limit (get_or ranks s 0)) x y (above_void s i ∙ d)

      kept : (s : ℕ) → Slot n s → is_void f num n s ≡ false → (x y : ℕ) → cond (ltb limit (get_or ranks s 0)) x y ≡ y
      kept s i d x y = pick_false (ltb limit (get_or ranks s 0)) x y (above_void s i ∙ d)

      low_rank : (s : ℕ) → is_void f num n s ≡ true → rank_of (settled f num n s) ≡ 0
      low_rank s d =
          settled_rank f num n s
          ∙ pick_true (ltb (2 + highest_complete f num n) (rank_of (f s))) 0 (rank_of (f s)) (sym (void_rank f num n s) ∙ d)

      ranked : (s : ℕ) → Slot n s → (x : Bool) → is_void f num n s ≡ x → get_or ranks' s 0 ≡ rank_of (settled f num n s)
      ranked s i true d = c.rank_at s i.0 i.1 ∙ lost s i d 0 _ ∙ sym (low_rank s d)
      ranked s i false d =
          c.rank_at s i.0 i.1 ∙ kept s i d 0 _ ∙ h.rank_at s i.0 i.1 ∙ sym (ap rank_of (settled_same f num n s d))

      placed : (s : ℕ) → Slot n s → (x : Bool) → is_void f num n s ≡ x → get_or places' s 0 ≡ put_place b (settled f num n s)
      placed s i true d = c.place_at s i.0 i.1 ∙ lost s i d 0 _ ∙ sym (ap (put_place b) (settled_void f num n s d))
      placed s i false d =
          c.place_at s i.0 i.1 ∙ kept s i d 0 _ ∙ h.place_at s i.0 i.1 ∙ sym (ap (put_place b) (settled_same f num n s d))

      keyed : (s : ℕ) → Slot n s → 2 ≤ rank_of (settled f num n s) → (x : Bool) → is_void f num n s ≡ x
          → key_at lows highs s ≡ key_in (settled f num n s)
      keyed s i r true d = absurd (omega (arith, low_rank s d))
      keyed s i r false d =
          let same = settled_same f num n s d in
          h.key-at s i.0 i.1 (omega (arith, ap rank_of same)) ∙ sym (ap key_in same)

-- ---- how many are void

pub broken_with_void : (f : Table) (num : SizeFields) (n : ℕ) → broken_count (settled f num n) n ≡ broken_count f n + count (is_void f num n) n
unfolding broken_count is_broken
broken_with_void f num n =
    count_both (λ s. is_broken (f s)) (is_void f num n) (λ s. is_broken (settled f num n s)) n (λ t i. go t (is_void f num n t) refl) apart
  where
    go : (t : ℕ) → (x : Bool) → is_void f num n t ≡ x → is_broken (settled f num n t) ≡ cond (is_broken (f t)) true (is_void f num n t)
    go t true e =
        ap is_broken (settled_void f num n t e)
        ∙ sym (pick_false (is_broken (f t)) true (is_void f num n t) (record_whole (f t) (void_record f num n t e)) ∙ e)
    go t false e = ap is_broken (settled_same f num n t e) ∙ or_false (is_broken (f t)) (is_void f num n t) e
      where
        or_false : (x y : Bool) → y ≡ false → x ≡ cond x true y
        or_false true y d = refl
        or_false false y d = sym d

    apart : (t : ℕ) → Slot n t → is_broken (f t) ≡ true → is_void f num n t ≡ false
    apart t i e = is_false (is_void f num n t) (λ d. true-false e (record_whole (f t) (void_record f num n t d)))

-- AT MOST EIGHT: where 25 is not due there are no more void slots
pub few_void : (l : ℕ) (m : ℕ → ℕ) (n : ℕ) → many_broken (settled (content l m) (size_field_in l m) n) n ≡ false → length (void_slots l m n) ≤ 8
unfolding void_slots broken_limit
few_void l m n e =
    omega (
      arith,
      many_few (settled (content l m) (size_field_in l m) n) n e,
      broken_with_void (content l m) (size_field_in l m) n,
      count-filter (is_void (content l m) (size_field_in l m) n) n,
    )
