-- The six counts: they add up to N, and they follow from the classes that each slot alone tells, the live count and the void records. Assumes nothing.
use mathlib.Core.Path.{◌≡◌, refl, sym, ap, ap₂, ◌∙◌}
use mathlib.Core.Bool.{Bool, true, false, cond, not, ◌&&◌}
use Prim.Native.Nat.{ℕ, ◌+◌, ◌-◌, ◌≤◌}
use native.Mathlib.Omega.{arith}
use Rattle.prelude.specs.Range.{count}
use Rattle.prelude.proofs.Choice.{pick_true, pick_false, true-false, is_false, both_left, false_left}
use Rattle.prelude.proofs.Count.{count_same, count_fewer, count_both}
use Rattle.layout.specs.Size.{slots_in}
use Rattle.layout.specs.Content.{Content, broken, empty, put_record, remove_record, Table, contents_of, size_fields_of}
use Rattle.table.specs.Table.{is_record, live, live_count}
use Rattle.table.specs.Class.{is_empty, is_put}
use Rattle.table.specs.Takeable.{is_remove}
use Rattle.table.specs.Complete.{SizeFields, is_void, settled}
use Rattle.table.proofs.Classes.{classes_add}
use Rattle.table.proofs.Complete.{void_record, settled_void, settled_same}
use Rattle.table.proofs.Map.{Live, lives, live_is}
use Rattle.recovery.specs.inner.Scan.{Classed}
use Rattle.recovery.specs.declared.Classes.{Classes}
use Rattle.recovery.proofs.Void.{broken_with_void}
use Rattle.slot_counts.specs.Count.{hidden_put, counts_of, counts_in, SixAddUp}
use Rattle.slot_counts.specs.inner.Countable.{void_removes}

-- ---- one slot

record_not_empty : (c : Content) → is_record c ≡ true → is_empty c ≡ false
unfolding is_record is_empty
record_not_empty (broken top) e = refl
record_not_empty empty e = absurd (true-false e refl)
record_not_empty (put_record version key value) e = refl
record_not_empty (remove_record version key) e = refl

live_is_put : (f : Table) (n s : ℕ) → live f n s ≡ true → is_put (f s) ≡ true
unfolding is_put
live_is_put f n s e = go (live_is f n s e)
  where
    go : Live f n s → is_put (f s) ≡ true
    go (lives w k v q d) = ap is_put q

-- ---- the puts are the live and the hidden ones

puts_split : (f : Table) (n : ℕ) → count (λ s. is_put (f s)) n ≡ live_count f n + count (hidden_put f n) n
unfolding live_count hidden_put
puts_split f n = count_both (live f n) (hidden_put f n) (λ s. is_put (f s)) n (λ s i. go s (live f n s) refl) (λ s i e. none s e)
  where
    and_not : (a b : Bool) → b ≡ false → a ≡ cond b true (a && not b)
    and_not true b e = sym (pick_false b true (not b) e ∙ ap not e)
    and_not false b e = sym (pick_false b true false e)

    go : (s : ℕ) (x : Bool) → live f n s ≡ x → is_put (f s) ≡ cond (live f n s) true (is_put (f s) && not (live f n s))
    go s true e = live_is_put f n s e ∙ sym (pick_true (live f n s) true _ e)
    go s false e = and_not (is_put (f s)) (live f n s) e

    none : (s : ℕ) → live f n s ≡ true → is_put (f s) && not (live f n s) ≡ false
    none s e = go_none (is_put (f s)) (ap not e)
      where
        go_none : (a : Bool) → not (live f n s) ≡ false → a && not (live f n s) ≡ false
        go_none true d = d
        go_none false d = refl

module _ (f : Table) (num : SizeFields) (n : ℕ) where
  -- ---- void records stand apart from the others

  empty_same : count (λ s. is_empty (settled f num n s)) n ≡ count (λ s. is_empty (f s)) n
  unfolding is_empty
  empty_same = count_same (λ s. is_empty (settled f num n s)) (λ s. is_empty (f s)) n (λ s i. go s (is_void f num n s) refl)
    where
      go : (s : ℕ) (x : Bool) → is_void f num n s ≡ x → is_empty (settled f num n s) ≡ is_empty (f s)
      go s true e = ap is_empty (settled_void f num n s e) ∙ sym (record_not_empty (f s) (void_record f num n s e))
      go s false e = ap is_empty (settled_same f num n s e)

  removes_split : count (λ s. is_remove (f s)) n ≡ count (λ s. is_remove (settled f num n s)) n + void_removes f num n
  unfolding is_remove void_removes
  removes_split =
      count_both (λ s. is_remove (settled f num n s)) (λ s. is_void f num n s && is_remove (f s)) (λ s. is_remove (f s)) n
      (λ s i. go s (is_void f num n s) refl) (λ s i e. apart s e)
    where
      gone : (s : ℕ) → is_void f num n s ≡ true → is_remove (settled f num n s) ≡ false
      gone s e = ap is_remove (settled_void f num n s e)

      or_false : (a b : Bool) → b ≡ false → a ≡ cond a true b
      or_false true b e = refl
      or_false false b e = sym e

      go : (s : ℕ) (x : Bool) → is_void f num n s ≡ x
          → is_remove (f s) ≡ cond (is_remove (settled f num n s)) true (is_void f num n s && is_remove (f s))
      go s true e =
          sym (pick_false (is_remove (settled f num n s)) true _ (gone s e) ∙ ap (λ (v : Bool). v && is_remove (f s)) e)
      go s false e =
          ap is_remove (sym (settled_same f num n s e))
          ∙ or_false (is_remove (settled f num n s)) _ (false_left (is_void f num n s) (is_remove (f s)) e)

      apart : (s : ℕ) → is_remove (settled f num n s) ≡ true → is_void f num n s && is_remove (f s) ≡ false
      apart s e =
          false_left (is_void f num n s) (is_remove (f s)) (is_false (is_void f num n s) (λ d. true-false e (gone s d)))

  void_removes_few : void_removes f num n ≤ count (is_void f num n) n
  unfolding void_removes
  void_removes_few =
      count_fewer (is_void f num n) (λ s. is_void f num n s && is_remove (f s)) n (λ s i e. both_left (is_void f num n s) _ e)

  -- ---- all slots

  add_up : (counts_of f num n).live + (counts_of f num n).hidden + (counts_of f num n).removes + (counts_of f num n).void + (counts_of f num n).broken
      + (counts_of f num n).empty
      ≡ n
  unfolding counts_of
  add_up = omega (arith, classes_add (settled f num n) n, broken_with_void f num n, empty_same, puts_split (settled f num n) n)

  -- the puts among the void records are those that are no removes
  module _ (c : Classes) (g : Classed f n c) (live-count void removes : ℕ) (p : live-count ≡ live_count (settled f num n) n)
      (q : void ≡ count (is_void f num n) n) (r : removes ≡ void_removes f num n) where
    pub void_split : removes ≤ void
    void_split = omega (arith, void_removes_few)

    hidden_is : c.puts ≡ live-count + (counts_of f num n).hidden + (void - removes)
    unfolding counts_of
    hidden_is =
        omega (
          arith,
          g.broken_is,
          g.empty_is,
          g.puts_are,
          g.removes_are,
          classes_add f n,
          classes_add (settled f num n) n,
          broken_with_void f num n,
          empty_same,
          removes_split,
          void_removes_few,
          puts_split (settled f num n) n,
        )

    removes_is : c.removes ≡ (counts_of f num n).removes + removes
    unfolding counts_of
    removes_is = omega (arith, g.removes_are, removes_split)

    pub puts_left : void - removes ≤ c.puts
    puts_left = omega (arith, hidden_is)

    pub live_left : live-count ≤ c.puts - (void - removes)
    live_left = omega (arith, hidden_is)

    pub removes_left : removes ≤ c.removes
    removes_left = omega (arith, removes_is)

    pub counted_is : record {
      live = live-count;
      hidden = c.puts - (void - removes) - live-count;
      removes = c.removes - removes;
      void = void;
      broken = c.broken;
      empty = c.empty;
    }
        ≡ counts_of f num n
    unfolding counts_of
    counted_is =
        ap₂ (λ (x y : ℕ). record { live = x; hidden = y; removes = c.removes - removes; void = void; broken = c.broken; empty = c.empty }) p
        (omega (arith, hidden_is))
        ∙ ap₂ (λ (x y : ℕ). record {
          live = live_count (settled f num n) n;
          hidden = count (hidden_put (settled f num n) n) n;
          removes = x;
          void = y;
          broken =
              c.broken;
          empty = c.empty;
        })
        (omega (arith, removes_is)) q
        ∙ ap₂ (λ (x y : ℕ). record {
          live = live_count (settled f num n) n;
          hidden = count (hidden_put (settled f num n) n) n;
          removes = count
              (λ s. is_remove (settled f num n s)) n;
          void = count (is_void f num n) n;
          broken = x;
          empty = y;
        })
        g.broken_is g.empty_is

-- THE SIX ADD UP to N
pub six_add_up : SixAddUp
unfolding counts_in
six_add_up l image = add_up (contents_of l image) (size_fields_of l image) (slots_in image)
