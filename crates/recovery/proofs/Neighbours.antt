-- 7 along the orders: a run of one rank whose numbers differ or that is too long, and one key twice in a version. Assumes nothing.
use mathlib.Core.Path.{◌≡◌, refl, sym, ap, ◌∙◌, subst}
use mathlib.Core.Bool.{Bool, true, false, cond, ◌&&◌}
use mathlib.Core.List.{List}
use Prim.Native.Nat.{ℕ, ◌+◌, ◌-◌, ◌≤◌, ◌<◌}
use native.Mathlib.Omega.{arith}
use lib.Dec.{eqb, ltb}
use lib.ListN.{length, get_or}
use borrow.Author.Tests.{eq-eqb, eqb-true, eqb-false, ltb-false, ltb-true, lt-ltb, le-ltb}
use Rattle.prelude.specs.Range.{any_of}
use Rattle.prelude.specs.Members.{Slot, slot_numbers}
use Rattle.prelude.specs.Filter.{filter}
use Rattle.prelude.proofs.defs.Members.{Rising}
use Rattle.prelude.proofs.Any.{any_none_at, any_clear_at, or_none}
use Rattle.prelude.proofs.Choice.{pick_true, pick_false, true-false, is_false, both, both_left, both_right}
use Rattle.prelude.proofs.Lists.{AllSlots, slots-in}
use Rattle.layout.specs.Content.{Content, highest_whole_in, Table}
use Rattle.sorting.specs.Sorted.{sorted}
use Rattle.sorting.proofs.Order.{Compared, low, high, compared, sorted_alike, at_in, rising_sorted}
use Rattle.sorting.proofs.Positions.{once_at, RisingByKey, sorted_by_key}
use Rattle.sorting.proofs.Runs.{SameRank, SameKey, rank_swap, key_swap, rank_between, key_between, no_two, in_common, Span, span, count-sorted}
use Rattle.table.specs.Table.{is_record, key_in}
use Rattle.table.specs.Complete.{SizeFields, basket_size, sharers, has_version}
use Rattle.table.specs.Shared.{sharers_fault}
use Rattle.table.specs.Order.{rank_of, ordered}
use Rattle.table.proofs.defs.Shared.{Agreed}
use Rattle.table.proofs.Shared.{fault_agreed, agreed_fault}
use Rattle.table.proofs.Ranks.{record_rank, low_rank, sharer_rank, rank_sharer}
use Rattle.recovery.specs.inner.Scan.{key_at, Listed}
use Rattle.recovery.specs.inner.Decide.{entry_at, equal_neighbours, too_many, run_fault, followed, key_twice}
use Rattle.recovery.proofs.Orders.{whole_order}
use Rattle.recovery.proofs.Decides.{ByKey, by_key_is, followed-key, is_followed}

pub rank_record : (c : Content) → 2 ≤ rank_of c → is_record c ≡ true
rank_record c l = go (is_record c) refl
  where
    go : (b : Bool) → is_record c ≡ b → b ≡ true
    go true e = refl
    go false e = absurd (omega (arith, low_rank c e))

pub said_some : (number : ℕ) → 1 ≤ basket_size number
unfolding basket_size
said_some number = go (eqb number 0) refl
  where
    go : (b : Bool) → eqb number 0 ≡ b → 1 ≤ cond b 1 number
    go true e = let z : 1 ≤ 1 = omega arith in z
    go false e = let z : 1 ≤ number = omega (arith, eqb-false number 0 e) in z

-- the test of two neighbours as facts

pub neighbours_are : (ranks order : List ℕ) (i : ℕ) → equal_neighbours ranks order i ≡ true
    → SameRank (λ x. get_or ranks x 0) 2 (get_or order i 0) (get_or order (i + 1) 0)
unfolding equal_neighbours
neighbours_are ranks order i t = go (ltb (entry_at ranks order i) 2) refl t
  where
    go : (b : Bool) → ltb (entry_at ranks order i) 2 ≡ b → cond b false (eqb (entry_at ranks order i) (entry_at ranks order (i + 1))) ≡ true
        → SameRank (λ x. get_or ranks x 0) 2 (get_or order i 0) (get_or order (i + 1) 0)
    go true e q = absurd (true-false q refl)
    go false e q = (ltb-false (entry_at ranks order i) 2 e, eqb-true (entry_at ranks order i) (entry_at ranks order (i + 1)) q)

pub are_neighbours : (ranks order : List ℕ) (i : ℕ) → 2 ≤ entry_at ranks order i → entry_at ranks order i ≡ entry_at ranks order (i + 1)
    → equal_neighbours ranks order i ≡ true
unfolding equal_neighbours
are_neighbours ranks order i h e =
    pick_false (ltb (entry_at ranks order i) 2) _ _ (le-ltb (entry_at ranks order i) 2 h)
    ∙ eq-eqb (entry_at ranks order i) (entry_at ranks order (i + 1)) e

-- and the test of a run that is too long

is_too_many : (num : SizeFields) (ranks order : List ℕ) (i : ℕ) → i + basket_size (num (get_or order i 0)) < length order
    → entry_at ranks order (i + basket_size (num (get_or order i 0))) ≡ entry_at ranks order i → too_many num ranks order i ≡ true
unfolding too_many
is_too_many num ranks order i h e =
    both (ltb (i + basket_size (num (get_or order i 0))) (length order)) _ (lt-ltb (i + basket_size (num (get_or order i 0))) (length order) h)
    (eq-eqb (entry_at ranks order (i + basket_size (num (get_or order i 0)))) (entry_at ranks order i) e)

too_many_is : (num : SizeFields) (ranks order : List ℕ) (i : ℕ) → too_many num ranks order i ≡ true
    → (i + basket_size (num (get_or order i 0)) < length order) × (entry_at ranks order (i + basket_size (num (get_or order i 0))) ≡ entry_at ranks order i)
unfolding too_many
too_many_is num ranks order i t = (
  ltb-true (i + basket_size (num (get_or order i 0))) (length order) (both_left (ltb (i + basket_size (num (get_or order i 0))) (length order)) _ t),
  eqb-true (entry_at ranks order (i + basket_size (num (get_or order i 0)))) (entry_at ranks order i)
      (both_right (ltb (i + basket_size (num (get_or order i 0))) (length order)) _ t),
)

pub run_first : (num : SizeFields) (ranks order : List ℕ) (i : ℕ) → run_fault num ranks order i ≡ true → equal_neighbours ranks order i ≡ true
unfolding run_fault
run_first num ranks order i t = both_left (equal_neighbours ranks order i) _ t

run_second : (num : SizeFields) (ranks order : List ℕ) (i : ℕ) → num (get_or order i 0) ≡ num (get_or order (i + 1) 0) → run_fault num ranks order i ≡ true
    → too_many num ranks order i ≡ true
unfolding run_fault
run_second num ranks order i e t =
    sym (pick_true (eqb (num (get_or order i 0)) (num (get_or order (i + 1) 0))) _ _ (eq-eqb (num (get_or order i 0)) (num (get_or order (i + 1) 0)) e))
    ∙ both_right (equal_neighbours ranks order i) _ t

pub twice_is : (key : ℕ → ℕ) (ranks order : List ℕ) (i : ℕ) → key_twice key ranks order i ≡ true
    → (followed key order i ≡ true) × (equal_neighbours ranks order i ≡ true)
unfolding key_twice
twice_is key ranks order i t = (both_left (followed key order i) _ t, both_right (followed key order i) _ t)

both_false : (a b : Bool) → (a ≡ false → b ≡ false) → (b ≡ false → a ≡ false) → a ≡ b
both_false true true f g = refl
both_false true false f g = g refl
both_false false b f g = sym (f refl)

-- slots that are listed, in order by rank
module _ (f : Table) (n : ℕ) (ranks order : List ℕ) (rank_at : (s : ℕ) → 0 < s → s ≤ n → get_or ranks s 0 ≡ rank_of (f s))
    (o : order ≡ sorted (λ x. get_or ranks x 0) (slot_numbers n)) where
  pub whole : AllSlots n order
  whole = whole_order (λ x. get_or ranks x 0) n order o

  pub by_content : order ≡ sorted (λ t. rank_of (f t)) (slot_numbers n)
  by_content =
      o ∙ sorted_alike (λ x. get_or ranks x 0) (λ t. rank_of (f t)) (slot_numbers n) (λ x i. let t = slots-in n x i in rank_at x t.0 t.1)

  pub slot_at : (i : ℕ) → i < n → Slot n (get_or order i 0)
  slot_at i h = whole.within (get_or order i 0) (at_in order i (omega (arith, whole.size)))

  pub rising : Rising (λ x. get_or ranks x 0) order
  rising = rw o (rising_sorted (λ x. get_or ranks x 0) (slot_numbers n))

  -- a slot that counts by its rank, and a record's rank
  pub counting : (s : ℕ) → Slot n s → 2 ≤ get_or ranks s 0 → is_record (f s) ≡ true
  counting s i h = rank_record (f s) (omega (arith, rank_at s i.0 i.1))

  pub rank-of : (s : ℕ) → Slot n s → is_record (f s) ≡ true → get_or ranks s 0 ≡ 2 + highest_whole_in (f s)
  rank-of s i c = rank_at s i.0 i.1 ∙ record_rank (f s) c

  -- the sharers of version v stand together
  pub run_at : (v : ℕ) → Span (λ x. get_or ranks x 0) (2 + v) order (sharers f n v)
  unfolding sharers
  run_at v =
      subst (λ (m : ℕ). Span (λ x. get_or ranks x 0) (2 + v) order m)
      (sym (count-sorted (has_version f v) (λ x. get_or ranks x 0) n ∙ ap (λ (l : List ℕ). length (filter (has_version f v) l)) (sym o)))
      (span (λ x. get_or ranks x 0) (2 + v) (has_version f v) order rising
      (λ t i e. let j = whole.within t i in rank_at t j.0 j.1 ∙ sharer_rank f v t e)
      (λ t i e. let j = whole.within t i in rank_sharer f v t (sym (rank_at t j.0 j.1) ∙ e)))

  module _ (num : SizeFields) where
    -- the test of the runs finds nothing
    module _ (none : any_of (run_fault num ranks order) 0 (n - 1) ≡ false) where
      -- neighbours of one rank: one number, and no run that is too long
      pair : (i : ℕ) → i + 1 < length order → SameRank (λ x. get_or ranks x 0) 2 (get_or order i 0) (get_or order (i + 1) 0)
          → (num (get_or order i 0) ≡ num (get_or order (i + 1) 0)) × (too_many num ranks order i ≡ false)
      unfolding run_fault
      pair i h e =
          go (eqb (num (get_or order i 0)) (num (get_or order (i + 1) 0))) refl
          (sym (pick_first (equal_neighbours ranks order i) _ (are_neighbours ranks order i e.0 e.1))
          ∙ any_none_at (run_fault num ranks order) (n - 1) none i (omega (arith, whole.size)))
        where
          pick_first : (x y : Bool) → x ≡ true → x && y ≡ y
          pick_first true y q = refl
          pick_first false y q = absurd (true-false q refl)

          go : (x : Bool) → eqb (num (get_or order i 0)) (num (get_or order (i + 1) 0)) ≡ x → cond x (too_many num ranks order i) true ≡ false
              → (num (get_or order i 0) ≡ num (get_or order (i + 1) 0)) × (too_many num ranks order i ≡ false)
          go true q t = (eqb-true (num (get_or order i 0)) (num (get_or order (i + 1) 0)) q, t)
          go false q t = absurd (true-false refl t)

      same_numbers : (s t : ℕ) → Slot n s → Slot n t → SameRank (λ x. get_or ranks x 0) 2 s t → num s ≡ num t
      same_numbers s t i j =
          in_common order (SameRank (λ x. get_or ranks x 0) 2) (rank_swap (λ x. get_or ranks x 0) 2)
          (rank_between (λ x. get_or ranks x 0) 2 order rising) num (λ k h e. (pair k h e).0) s t (whole.all s i) (whole.all t j)

      few_share : (s : ℕ) → Slot n s → is_record (f s) ≡ true → sharers f n (highest_whole_in (f s)) ≤ basket_size (num s)
      few_share s i c = go (compared (sharers f n (highest_whole_in (f s))) (basket_size (num s)))
        where
          r : Span (λ x. get_or ranks x 0) (2 + highest_whole_in (f s)) order (sharers f n (highest_whole_in (f s)))
          r = run_at (highest_whole_in (f s))

          go : Compared (sharers f n (highest_whole_in (f s))) (basket_size (num s)) → sharers f n (highest_whole_in (f s)) ≤ basket_size (num s)
          go (low a h) = h
          go (high a h) =
              absurd (true-false long (pair r.lo (omega (arith, r.end, some)) (omega (arith, first), first ∙ sym second)).1)
            where
              some : 1 ≤ basket_size (num s)
              some = said_some (num s)

              first : entry_at ranks order r.lo ≡ 2 + highest_whole_in (f s)
              first = r.equal r.lo (omega arith) (omega arith)

              second : entry_at ranks order (r.lo + 1) ≡ 2 + highest_whole_in (f s)
              second = r.equal (r.lo + 1) (omega arith) (omega (arith, some))

              number : basket_size (num (get_or order r.lo 0)) ≡ basket_size (num s)
              number =
                  ap basket_size
                  (same_numbers (get_or order r.lo 0) s (slot_at r.lo (omega (arith, r.end, whole.size))) i
                  (omega (arith, first), first ∙ sym (rank-of s i c)))

              reach : r.lo + basket_size (num (get_or order r.lo 0)) < r.lo + sharers f n (highest_whole_in (f s))
              reach = omega (arith, number)

              long : too_many num ranks order r.lo ≡ true
              long =
                  is_too_many num ranks order r.lo (omega (arith, reach, r.end))
                  (r.equal (r.lo + basket_size (num (get_or order r.lo 0))) (omega arith) reach ∙ sym first)

    -- where the sharers agree the test of the runs finds nothing
    agreed_runs : Agreed f num n → any_of (run_fault num ranks order) 0 (n - 1) ≡ false
    agreed_runs g = any_clear_at (run_fault num ranks order) (n - 1) (λ i h. is_false (run_fault num ranks order i) (no_run i (omega arith)))
      where
        no_run : (i : ℕ) → i + 1 < n → run_fault num ranks order i ≡ true → ⊥
        no_run i h t = omega (arith, g.few s slot cs, inside, after)
          where
            near : SameRank (λ x. get_or ranks x 0) 2 (get_or order i 0) (get_or order (i + 1) 0)
            near = neighbours_are ranks order i (run_first num ranks order i t)

            s : ℕ
            s = get_or order i 0

            next : ℕ
            next = get_or order (i + 1) 0

            slot : Slot n s
            slot = slot_at i (omega arith)

            cs : is_record (f s) ≡ true
            cs = counting s slot near.0

            cn : is_record (f next) ≡ true
            cn = counting next (slot_at (i + 1) h) (omega (arith, near))

            top : get_or ranks s 0 ≡ 2 + highest_whole_in (f s)
            top = rank-of s slot cs

            same : num s ≡ num next
            same =
                g.numbers s next slot (slot_at (i + 1) h) cs cn (omega (arith, top, rank-of next (slot_at (i + 1) h) cn, near.1))

            long : (i + basket_size (num s) < length order) × (entry_at ranks order (i + basket_size (num s)) ≡ entry_at ranks order i)
            long = too_many_is num ranks order i (run_second num ranks order i same t)

            r : Span (λ x. get_or ranks x 0) (2 + highest_whole_in (f s)) order (sharers f n (highest_whole_in (f s)))
            r = run_at (highest_whole_in (f s))

            inside : r.lo ≤ i
            inside = (r.inside i (omega (arith, whole.size)) top).0

            after : i + basket_size (num s) < r.lo + sharers f n (highest_whole_in (f s))
            after = (r.inside (i + basket_size (num s)) long.0 (long.1 ∙ top)).1

-- 7, BY THE ORDERS: the test of the runs and that of the keys find what document 02's rule names
module _ (f : Table) (num : SizeFields) (n b : ℕ) (ranks lows highs places order by_key : List ℕ) (h : Listed f n b ranks lows highs places)
    (o : order ≡ sorted (λ x. get_or ranks x 0) (slot_numbers n)) (k : by_key ≡ sorted (key_at lows highs) order) where
  abbrev key : ℕ → ℕ
  key = key_at lows highs

  abbrev rank : ℕ → ℕ
  rank x = get_or ranks x 0

  keyed : ByKey f n (key_at lows highs) by_key
  unfolding ordered
  keyed = by_key_is f n key order by_key h.key-at (by_content f n ranks order h.rank_at o) k

  by_rank : RisingByKey (key_at lows highs) (λ x. get_or ranks x 0) by_key
  by_rank = rw k (sorted_by_key key rank order (rising f n ranks order h.rank_at o))

  slot_in : (i : ℕ) → i < n → Slot n (get_or by_key i 0)
  slot_in i l = keyed.whole.within (get_or by_key i 0) (at_in by_key i (omega (arith, keyed.whole.size)))

  no_key_twice : any_of (key_twice key ranks by_key) 0 (n - 1) ≡ false → (s t : ℕ) → Slot n s → Slot n t → (s ≡ t → ⊥) → is_record (f s) ≡ true
      → is_record (f t) ≡ true → highest_whole_in (f s) ≡ highest_whole_in (f t) → key_in (f s) ≡ key_in (f t) → ⊥
  unfolding key_twice
  no_key_twice none s t i j ne p q e d =
      no_two by_key (SameKey key rank 2) (key_swap key rank 2) (key_between key rank 2 by_key keyed.rising by_rank)
      (λ x u c. true-false
      (both (followed key by_key x) _ (is_followed key by_key x u c.0) (are_neighbours ranks by_key x c.1.0 c.1.1))
      (any_none_at (key_twice key ranks by_key) (n - 1) none x (omega (arith, keyed.whole.size))))
      s t (keyed.whole.all s i) (keyed.whole.all t j) ne (
        h.key-at s i.0 i.1 (omega (arith, record_rank (f s) p)) ∙ d ∙ sym (h.key-at t j.0 j.1 (omega (arith, record_rank (f t) q))),
        (omega (arith, rs), omega (arith, rs, rt, e)),
      )
    where
      rs : get_or ranks s 0 ≡ 2 + highest_whole_in (f s)
      rs = rank-of f n ranks order h.rank_at o s i p

      rt : get_or ranks t 0 ≡ 2 + highest_whole_in (f t)
      rt = rank-of f n ranks order h.rank_at o t j q

  agreed_keys : Agreed f num n → any_of (key_twice key ranks by_key) 0 (n - 1) ≡ false
  agreed_keys g = any_clear_at (key_twice key ranks by_key) (n - 1) (λ i u. is_false (key_twice key ranks by_key i) (no_pair i (omega arith)))
    where
      no_pair : (i : ℕ) → i + 1 < n → key_twice key ranks by_key i ≡ true → ⊥
      no_pair i u t =
          g.keys s next slot slot_next
          (λ q. omega (arith, once_at by_key i (i + 1) keyed.whole.once (omega (arith, keyed.whole.size)) (omega (arith, keyed.whole.size)) q))
          cs cn (omega (arith, top s slot cs, top next slot_next cn, near.1))
          (sym (keyed.key_is s slot (omega (arith, record_rank (f s) cs))) ∙ followed-key key by_key i pair.0
          ∙ keyed.key_is next slot_next (omega (arith, record_rank (f next) cn)))
        where
          pair : (followed key by_key i ≡ true) × (equal_neighbours ranks by_key i ≡ true)
          pair = twice_is key ranks by_key i t

          near : SameRank (λ x. get_or ranks x 0) 2 (get_or by_key i 0) (get_or by_key (i + 1) 0)
          near = neighbours_are ranks by_key i pair.1

          s : ℕ
          s = get_or by_key i 0

          next : ℕ
          next = get_or by_key (i + 1) 0

          slot : Slot n s
          slot = slot_in i (omega arith)

          slot_next : Slot n next
          slot_next = slot_in (i + 1) u

          top : (x : ℕ) → Slot n x → is_record (f x) ≡ true → get_or ranks x 0 ≡ 2 + highest_whole_in (f x)
          top = rank-of f n ranks order h.rank_at o

          cs : is_record (f s) ≡ true
          cs = counting f n ranks order h.rank_at o s slot near.0

          cn : is_record (f next) ≡ true
          cn = counting f n ranks order h.rank_at o next slot_next (omega (arith, near))

  orders_agreed : cond (any_of (run_fault num ranks order) 0 (n - 1)) true (any_of (key_twice key ranks by_key) 0 (n - 1)) ≡ false → Agreed f num n
  orders_agreed e =
      let t = or_none (any_of (run_fault num ranks order) 0 (n - 1)) (any_of (key_twice key ranks by_key) 0 (n - 1)) e in
      record {
        numbers = λ x y i j p q d.
            let a = rank-of f n ranks order h.rank_at o x i p in
            let c = rank-of f n ranks order h.rank_at o y j q in
            same_numbers f n ranks order h.rank_at o num t.0 x y i j (omega (arith, a), omega (arith, a, c, d));
        few = few_share f n ranks order h.rank_at o num t.0;
        keys = no_key_twice t.1;
      }

  pub orders_shared : cond (any_of (run_fault num ranks order) 0 (n - 1)) true (any_of (key_twice key ranks by_key) 0 (n - 1)) ≡ sharers_fault f num n
  orders_shared = both_false _ _ (λ e. agreed_fault f num n (orders_agreed e)) (λ e. back (fault_agreed f num n e))
    where
      back : Agreed f num n → cond (any_of (run_fault num ranks order) 0 (n - 1)) true (any_of (key_twice key ranks by_key) 0 (n - 1)) ≡ false
      back g = pick_false (any_of (run_fault num ranks order) 0 (n - 1)) _ _ (agreed_runs f n ranks order h.rank_at o num g) ∙ agreed_keys g
