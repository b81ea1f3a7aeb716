-- The scan of the slots: a record's chain, what is kept of one slot by its verdict, and the scan slot by slot. Assumes nothing.
use mathlib.Core.Path.{◌≡◌, refl, sym, ap, ap₂, ◌∙◌, subst}
use mathlib.Core.Bool.{Bool, true, false, cond}
use mathlib.Core.Logic.{by_cases}
use mathlib.Core.List.{List}
use Prim.Native.Nat.{ℕ, zero, suc, ◌+◌, ◌-◌, ◌*◌, ◌/◌, ◌%◌, ◌^◌, ◌≤◌, ◌<◌, max}
use native.Mathlib.Decide.{ℕ_discrete}
use native.Mathlib.Omega.{arith}
use lib.Dec.{eqb, ltb}
use lib.ListN.{length, get_or, set, length-set}
use lib.Seq.{get_or-set_same, get_or-set_other}
use borrow.Author.Tests.{eq-eqb, ne_eqb, lt-ltb, le-ltb}
use Rattle.words.specs.Word.{AreBytes, word}
use Rattle.words.proofs.Laws.{word_range}
use Rattle.prelude.proofs.Any.{any_last}
use Rattle.prelude.proofs.Choice.{pick_true, pick_false}
use Rattle.prelude.specs.Refusal.{refuse_if, or_else}
use Rattle.prelude.specs.Range.{any_of, greatest, lowest, at_lowest, count}
use Rattle.prelude.proofs.Lowest.{at_lowest_next}
use Rattle.layout.specs.Line.{line_a, line_b, whole_version}
use Rattle.layout.specs.Slot.{paired, verdict_of, line_verdict, slot_verdict, is_valid}
use Rattle.layout.specs.Record.{Layout, kind_of, key_of, key_with, value_of}
use Rattle.layout.specs.inner.Key.{high_word}
use Rattle.layout.specs.Content.{Content, broken, empty, put_record, remove_record, content_of_record, content_by, content_of, content, highest_whole_in, Table}
use Rattle.layout.specs.Fault.{mark_fault, fault_of, record_fault}
use Rattle.layout.specs.declared.Verdict.{Verdict}
use Rattle.layout.specs.declared.Verdict.TheVariants.{Valid, Empty, Broken}
use Rattle.layout.proofs.KeyWords.{no_high, key_parts}
use Rattle.table.specs.Table.{key_in, broken_count}
use Rattle.table.specs.Class.{is_put}
use Rattle.table.specs.Takeable.{is_remove}
use Rattle.table.proofs.Broken.{rank_broken}
use Rattle.table.proofs.Classes.{rank_empty, classes_add}
use Rattle.table.specs.Order.{rank_of}
use Rattle.index.specs.Index.{head_of}
use Rattle.recovery.specs.inner.Scan.{put_place, Scannable, valid_summary, Summed, is_remove_by, ClassesWith, slots_counted, ScanWith, key_at, Classed, Scanned}
use Rattle.recovery.specs.inner.Decide.{NoneOrAll}
use Rattle.recovery.specs.declared.Summary.{Summary}
use Rattle.recovery.specs.declared.Classes.{Classes}
use Rattle.recovery.specs.declared.Scan.{Scan}
use Rattle.recovery.proofs.Orders.{no_highs}

-- ---- a record's chain

-- ---- what is kept of one slot

abbrev kept : (version : ℕ) → (mark : Bool) → (low high place fault : ℕ) → Summary
kept version mark low high place fault =
    record { rank = 2 + version; low = low; high = high; place = place; top = version; mark = mark; fault = fault }

pub valid_is : (l : ℕ) (m : ℕ → ℕ) (s b version : ℕ) (mark : Bool) (low high kind place fault : ℕ) → Layout l → low ≡ line_a m s 1
    → high ≡ high_word l (line_a m s) → kind ≡ kind_of (line_a m s (l + 1))
    → ((h : ℕ) → place ≡ cond (eqb kind 2) 0 (head_of (key_with low h) b + 1)) → fault ≡ fault_of l (line_a m s) (line_b m s)
    → record { rank = 2 + version; low = low; high = high; place = place; top = version; mark = mark; fault = fault }
    ≡ valid_summary l m s b version mark
unfolding valid_summary
valid_is l m s b version mark low high kind place fault lay k h x p f =
    ap (λ (q : ℕ). kept version mark low high q fault) (p high ∙ ap₂ (λ (u v : ℕ). cond (eqb u 2) 0 (head_of v b + 1)) x key)
    ∙ ap₂ (λ (u v : ℕ). kept version mark u v place' fault) k h ∙ ap (kept version mark (line_a m s 1) (high_word l (line_a m s)) place') f
  where
    place' : ℕ
    place' = cond (eqb (kind_of (line_a m s (l + 1))) 2) 0 (head_of (key_of l (line_a m s)) b + 1)

    key : key_with low high ≡ key_of l (line_a m s)
    key = ap₂ (λ (u v : ℕ). key_with u v) k h ∙ sym (key_parts l (line_a m s) lay)

-- a record's rank, key, place and top
record_parts : (remove_record? : Bool) (v k b : ℕ) (x : List ℕ)
    → (2 + v ≡ rank_of (cond remove_record? (remove_record v k) (put_record v k x))) × (k ≡ key_in (cond remove_record? (remove_record v k) (put_record v k x)))
    × (cond remove_record? 0 (head_of k b + 1) ≡ put_place b (cond remove_record? (remove_record v k) (put_record v k x)))
    × (v ≡ highest_whole_in (cond remove_record? (remove_record v k) (put_record v k x)))
unfolding rank_of key_in put_place highest_whole_in
record_parts true v k b x = (refl, refl, refl, refl)
record_parts false v k b x = (refl, refl, refl, refl)

module _ (l : ℕ) (m : ℕ → ℕ) (s b : ℕ) (verdict : Verdict) (e : verdict ≡ slot_verdict m s) (mark : Bool) (f : mark ≡ mark_fault m s) where
  content-by : (v : Verdict) → verdict ≡ v → content_by l (line_a m s) (line_b m s) v ≡ content l m s
  unfolding content content_of slot_verdict
  content-by v h = ap (content_by l (line_a m s) (line_b m s)) (sym h ∙ e)

  fault-by : (v : Verdict) → verdict ≡ v → cond (is_valid v) (fault_of l (line_a m s) (line_b m s)) 0 ≡ record_fault l m s
  unfolding record_fault slot_verdict
  fault-by v h = ap (λ (w : Verdict). cond (is_valid w) (fault_of l (line_a m s) (line_b m s)) 0) (sym h ∙ e)

  pub summed_valid : (version : ℕ) → verdict ≡ Valid version → Layout l → (r : Summary) → r ≡ valid_summary l m s b version mark → Summed l m s b r
  unfolding content_by content_of_record is_valid valid_summary
  summed_valid version v lay r x =
      let here = record_parts (eqb (kind_of (line_a m s (l + 1))) 2) version (key_of l (line_a m s)) b (value_of l (line_a m s) (line_b m s)) in
      let it = content-by (Valid version) v in
      record {
        rank_is = ap (λ (y : Summary). y.rank) x ∙ here.0 ∙ ap rank_of it;
        key_is = ap (λ (y : Summary). key_with y.low y.high) x ∙ sym (key_parts l (line_a m s) lay) ∙ here.1 ∙ ap key_in it;
        no_high = λ one. ap (λ (y : Summary). y.high) x ∙ sym (no_high l (line_a m s) one);
        place_is = ap (λ (y : Summary). y.place) x ∙ here.2 ∙ ap (put_place b) it;
        top_is = ap (λ (y : Summary). y.top) x ∙ here.3 ∙ ap highest_whole_in it;
        mark_is = ap (λ (y : Summary). y.mark) x ∙ f;
        fault_is = ap (λ (y : Summary). y.fault) x ∙ fault-by (Valid version) v;
      }

  pub summed_empty : verdict ≡ Empty → Summed l m s b (record { rank = 1; low = 0; high = 0; place = 0; top = 0; mark = mark; fault = 0 })
  unfolding content_by is_valid rank_of key_in put_place highest_whole_in
  summed_empty v =
      let it = content-by Empty v in
      record {
        rank_is = ap rank_of it;
        key_is = ap key_in it;
        no_high = λ one. refl;
        place_is = ap (put_place b) it;
        top_is = ap highest_whole_in it;
        mark_is = f;
        fault_is = fault-by Empty v;
      }

  pub summed_broken : (top : ℕ) → verdict ≡ Broken top
      → Summed l m s b (record { rank = 0; low = 0; high = 0; place = 0; top = top; mark = mark; fault = 0 })
  unfolding content_by is_valid rank_of key_in put_place highest_whole_in
  summed_broken top v =
      let it = content-by (Broken top) v in
      record {
        rank_is = ap rank_of it;
        key_is = ap key_in it;
        no_high = λ one. refl;
        place_is = ap (put_place b) it;
        top_is = ap highest_whole_in it;
        mark_is = f;
        fault_is = fault-by (Broken top) v;
      }

-- the version of a valid verdict, 0 of another
version_in : Verdict → ℕ
version_in (Valid version) = version
version_in Empty = 0
version_in (Broken top) = 0

version_at_most : (pair zero? : Bool) (v t : ℕ) → version_in (cond pair (cond zero? Empty (Valid v)) (Broken t)) ≤ v
unfolding version_in
version_at_most true true v t = let z : 0 ≤ v = omega arith in z
version_at_most true false v t = let z : v ≤ v = omega arith in z
version_at_most false zero? v t = let z : 0 ≤ v = omega arith in z

version_of_lines : (ma sa mb sb : ℕ) → version_in (verdict_of ma sa mb sb) ≤ sa / 2
unfolding verdict_of
version_of_lines ma sa mb sb =
    version_at_most (paired ma sa mb sb) (eqb (sa / 2) 0) (sa / 2) (max (whole_version ma sa) (whole_version mb sb))

version-in : (m : ℕ → ℕ) (s : ℕ) → version_in (slot_verdict m s) ≤ line_a m s 7 / 2
unfolding slot_verdict line_verdict
version-in m s = version_of_lines (line_a m s 0) (line_a m s 7) (line_b m s 0) (line_b m s 7)

pub version_small : (image : List ℕ) (s version : ℕ) (verdict : Verdict) → AreBytes image → verdict ≡ slot_verdict (word image) s
    → verdict ≡ Valid version → version < 2 ^ 63
unfolding version_in
version_small image s version verdict bytes e v =
    let low : version ≤ line_a (word image) s 7 / 2 =
    subst (λ (w : Verdict). version_in w ≤ line_a (word image) s 7 / 2) (sym e ∙ v) (version-in (word image) s)
    in
    omega (arith, low, word_range image (8 * (2 * s) + 7 % 8) bytes)

-- ---- slot by slot

-- a list with entry k + 1 set has its first k entries from before and the entry set
entries_next : (g : ℕ → ℕ) (xs : List ℕ) (k x : ℕ) → suc k < length xs → x ≡ g (suc k) → ((s : ℕ) → 0 < s → s ≤ k → get_or xs s 0 ≡ g s)
    → (s : ℕ) → 0 < s → s ≤ suc k → get_or (set xs (suc k) x) s 0 ≡ g s
entries_next g xs k x l e h s p q = by_cases (ℕ_discrete s (suc k)) same other
  where
    same : s ≡ suc k → get_or (set xs (suc k) x) s 0 ≡ g s
    same i = ap (λ (j : ℕ). get_or (set xs (suc k) x) j 0) i ∙ get_or-set_same xs (suc k) x 0 l ∙ e ∙ ap g (sym i)

    other : (s ≡ suc k → ⊥) → get_or (set xs (suc k) x) s 0 ≡ g s
    other i = get_or-set_other xs (suc k) s x 0 i ∙ h s p (omega arith)

-- the list of high words, with entry s set or in layout 1 left without entries

pub high_inside : (l n s : ℕ) (highs : List ℕ) → l ≡ 2 → length highs ≡ (l - 1) * (n + 1) → s ≤ n → s < length highs
high_inside l n s highs two e h =
    let z : (l - 1) * (n + 1) ≡ 1 * (n + 1) = ap (λ (k : ℕ). (k - 1) * (n + 1)) two in omega (arith, e, z)

highs_none : (l n : ℕ) (highs : List ℕ) → l ≡ 1 → length highs ≡ (l - 1) * (n + 1) → length highs ≡ 0
highs_none l n highs one e =
    let z : (l - 1) * (n + 1) ≡ 0 * (n + 1) = ap (λ (k : ℕ). (k - 1) * (n + 1)) one in omega (arith, e, z)

pub highs_all : (l n : ℕ) (highs : List ℕ) → Layout l → length highs ≡ (l - 1) * (n + 1) → NoneOrAll highs n
highs_all l n highs lay e some = by_cases (ℕ_discrete l 2) (λ two. high_inside l n n highs two e (omega arith)) other
  where
    other : (l ≡ 2 → ⊥) → n < length highs
    other ne = let one : l ≡ 1 = omega (arith, lay.low, lay.high, ne) in absurd (omega (arith, highs_none l n highs one e))

-- after is highs with this high word of slot s, and is as long
pub record HighSet (highs after : List ℕ) (s high : ℕ) : Type 0 where
  pub size : length after ≡ length highs
  pub here : get_or after s 0 ≡ high
  pub others : (t : ℕ) → (t ≡ s → ⊥) → get_or after t 0 ≡ get_or highs t 0

pub high-set : (l n s high : ℕ) (highs after : List ℕ) → l ≡ 2 → length highs ≡ (l - 1) * (n + 1) → s ≤ n → after ≡ set highs s high
    → HighSet highs after s high
high-set l n s high highs after two e h d =
    record {
      size = ap (λ (t : List ℕ). length t) d ∙ length-set highs s high;
      here = ap (λ (t : List ℕ). get_or t s 0) d ∙ get_or-set_same highs s high 0 (high_inside l n s highs two e h);
      others = λ t ne. ap (λ (r : List ℕ). get_or r t 0) d ∙ get_or-set_other highs s t high 0 ne;
    }

pub high_left : (l n s high : ℕ) (highs after : List ℕ) → Layout l → (l ≡ 2 → ⊥) → length highs ≡ (l - 1) * (n + 1) → (l ≡ 1 → high ≡ 0)
    → after ≡ highs → HighSet highs after s high
high_left l n s high highs after lay other e z d =
    let one : l ≡ 1 = omega (arith, lay.low, lay.high, other) in
    record {
      size = ap (λ (t : List ℕ). length t) d;
      here = ap (λ (t : List ℕ). get_or t s 0) d ∙ no_highs highs s (highs_none l n highs one e) ∙ sym (z one);
      others = λ t ne. ap (λ (r : List ℕ). get_or r t 0) d;
    }

-- the same of the keys of records, whose rank is 2 or more: entry k + 1 of lows is set, and that of highs by HighSet
keys_next : (rank g : ℕ → ℕ) (lows highs after : List ℕ) (k low high : ℕ) → suc k < length lows → key_with low high ≡ g (suc k)
    → HighSet highs after (suc k) high → ((s : ℕ) → 0 < s → s ≤ k → 2 ≤ rank s → key_at lows highs s ≡ g s)
    → (s : ℕ) → 0 < s → s ≤ suc k → 2 ≤ rank s → key_at (set lows (suc k) low) after s ≡ g s
unfolding key_at
keys_next rank g lows highs after k low high l e w h s p q r = by_cases (ℕ_discrete s (suc k)) same other
  where
    same : s ≡ suc k → key_with (get_or (set lows (suc k) low) s 0) (get_or after s 0) ≡ g s
    same i =
        ap (λ (j : ℕ). key_with (get_or (set lows (suc k) low) j 0) (get_or after j 0)) i
        ∙ ap₂ (λ (x y : ℕ). key_with x y) (get_or-set_same lows (suc k) low 0 l) w.here ∙ e ∙ ap g (sym i)

    other : (s ≡ suc k → ⊥) → key_with (get_or (set lows (suc k) low) s 0) (get_or after s 0) ≡ g s
    other i = ap₂ (λ (x y : ℕ). key_with x y) (get_or-set_other lows (suc k) s low 0 i) (w.others s i) ∙ h s p (omega arith) r

-- ---- the classes

put_by : (b : ℕ) (c : Content) → ltb 0 (put_place b c) ≡ is_put c
unfolding put_place is_put
put_by b (broken top) = refl
put_by b empty = refl
put_by b (put_record version key value) = lt-ltb 0 (head_of key b + 1) (omega arith)
put_by b (remove_record version key) = refl

remove_by : (b : ℕ) (c : Content) → is_remove_by (rank_of c) (put_place b c) ≡ is_remove c
unfolding is_remove_by rank_of put_place is_remove
remove_by b (broken top) = refl
remove_by b empty = refl
remove_by b (put_record version key value) =
    pick_false _ _ _ (le-ltb (2 + version) 2 (omega arith)) ∙ ne_eqb (head_of key b + 1) 0 (λ e. omega arith)
remove_by b (remove_record version key) = pick_false _ _ _ (le-ltb (2 + version) 2 (omega arith))

classed_next : (f : Table) (k b : ℕ) (classes next : Classes) (rank place : ℕ) → Classed f k classes → rank ≡ rank_of (f (suc k))
    → place ≡ put_place b (f (suc k)) → ClassesWith classes rank place next → Classed f (suc k) next
unfolding broken_count count
classed_next f k b classes next rank place g r p j =
    record {
      broken_is = j.broken_is ∙ ap₂ more (ap (λ (x : ℕ). eqb x 0) r ∙ rank_broken (f (suc k))) g.broken_is;
      empty_is = j.empty_is ∙ ap₂ more (ap (λ (x : ℕ). eqb x 1) r ∙ rank_empty (f (suc k))) g.empty_is;
      puts_are = j.puts_are ∙ ap₂ more (ap (ltb 0) p ∙ put_by b (f (suc k))) g.puts_are;
      removes_are = j.removes_are ∙ ap₂ more (ap₂ is_remove_by r p ∙ remove_by b (f (suc k))) g.removes_are;
    }
  where
    more : Bool → ℕ → ℕ
    more x y = cond x (suc y) y

-- ---- slot by slot: the scan

scanned_none : (l : ℕ) (m : ℕ → ℕ) (b : ℕ) (ranks lows highs places : List ℕ)
    → Scanned l m 0 b ranks lows highs places
    (record { mark = false; fault = 0; slot = 0; classes = record { broken = 0; empty = 0; puts = 0; removes = 0 }; top = 0 })
unfolding any_of greatest lowest at_lowest refuse_if broken_count count
scanned_none l m b ranks lows highs places =
    record {
      listed =
          record { rank_at = λ s p q. absurd (omega arith); key-at = λ s p q r. absurd (omega arith); place_at = λ s p q. absurd (omega arith) };
      marks_are = refl;
      fault_is = refl;
      slot_is = refl;
      classed = record { broken_is = refl; empty_is = refl; puts_are = refl; removes_are = refl };
      top_is = refl;
    }

scanned_next : (l : ℕ) (m : ℕ → ℕ) (k b : ℕ) (ranks lows highs places after : List ℕ) (all next : Scan) (slot : Summary)
    → Scanned l m k b ranks lows highs places all → suc k < length ranks → suc k < length lows → suc k < length places
    → HighSet highs after (suc k) slot.high → Summed l m (suc k) b slot → ScanWith all slot (suc k) next
    → Scanned l m (suc k) b (set ranks (suc k) slot.rank) (set lows (suc k) slot.low) after (set places (suc k) slot.place) next
unfolding greatest lowest
scanned_next l m k b ranks lows highs places after all next slot g r y p w here j =
    record {
      listed =
          record {
            rank_at = entries_next (λ i. rank_of (content l m i)) ranks k slot.rank r here.rank_is g.listed.rank_at;
            key-at =
                keys_next (λ i. rank_of (content l m i)) (λ i. key_in (content l m i)) lows highs after k slot.low slot.high y here.key_is w
                g.listed.key-at;
            place_at = entries_next (λ i. put_place b (content l m i)) places k slot.place p here.place_is g.listed.place_at;
          };
      marks_are = j.mark_is ∙ ap₂ (λ (u v : Bool). cond u true v) g.marks_are here.mark_is ∙ with_last;
      fault_is = j.fault_is ∙ ap₂ or_else g.fault_is here.fault_is ∙ sym (at_lowest_next (record_fault l m) k);
      slot_is = j.slot_is ∙ ap₂ (λ (x y : ℕ). or_else x (refuse_if (eqb y 0) 0 (suc k))) g.slot_is here.fault_is;
      classed = classed_next (content l m) k b _ _ _ _ g.classed here.rank_is here.place_is j.classes_are;
      top_is = j.top_is ∙ ap₂ max g.top_is here.top_is;
    }
  where
    with_last : cond (any_of (mark_fault m) 1 k) true (mark_fault m (suc k)) ≡ any_of (mark_fault m) 1 (suc k)
    with_last = ap (λ (i : ℕ). cond (any_of (mark_fault m) 1 k) true (mark_fault m i)) (omega arith) ∙ sym (any_last (mark_fault m) 1 k)

scanned_at : (l : ℕ) (m : ℕ → ℕ) (i j b : ℕ) (ranks lows highs places : List ℕ) (all : Scan) → i ≡ j
    → Scanned l m i b ranks lows highs places all → Scanned l m j b ranks lows highs places all
scanned_at l m i j b ranks lows highs places all e g = subst (λ (k : ℕ). Scanned l m k b ranks lows highs places all) e g

-- the slots before s are scanned
pub record Scanning (l : ℕ) (m : ℕ → ℕ) (n b : ℕ) (ranks lows highs places : List ℕ) (all : Scan) (s : ℕ) : Type 0 where
  pub low : 1 ≤ s
  pub high : s ≤ n + 1
  pub ranks_size : length ranks ≡ n + 1
  pub lows_size : length lows ≡ n + 1
  pub highs_size : length highs ≡ (l - 1) * (n + 1)
  pub places_size : length places ≡ n + 1
  pub so_far : Scanned l m (s - 1) b ranks lows highs places all

pub scan_start : (image : List ℕ) (l : ℕ) (ranks lows highs places : List ℕ) (n b : ℕ) → Scannable image l ranks lows highs places n b
    → Scanning l (word image) n b ranks lows highs places
    (record { mark = false; fault = 0; slot = 0; classes = record { broken = 0; empty = 0; puts = 0; removes = 0 }; top = 0 }) 1
scan_start image l ranks lows highs places n b g =
    record {
      low = omega arith;
      high = omega arith;
      ranks_size = g.ranks_size;
      lows_size = g.lows_size;
      highs_size = g.highs_size;
      places_size = g.places_size;
      so_far =
          scanned_at l (word image) 0 (1 - 1) b ranks lows highs places _ (omega arith) (scanned_none l (word image) b ranks lows highs places);
    }

pub scan_next : (l : ℕ) (m : ℕ → ℕ) (n b : ℕ) (ranks lows highs places after : List ℕ) (all next : Scan) (slot : Summary) (s : ℕ)
    → Scanning l m n b ranks lows highs places all s → s ≤ n → Summed l m s b slot → HighSet highs after s slot.high → ScanWith all slot s next
    → Scanning l m n b (set ranks s slot.rank) (set lows s slot.low) after (set places s slot.place) next (s + 1)
scan_next l m n b ranks lows highs places after all next slot zero g h here w j = absurd (omega (arith, g.low))
scan_next l m n b ranks lows highs places after all next slot (suc k) g h here w j =
    record {
      low = omega arith;
      high = omega arith;
      ranks_size = length-set ranks (suc k) slot.rank ∙ g.ranks_size;
      lows_size = length-set lows (suc k) slot.low ∙ g.lows_size;
      highs_size = w.size ∙ g.highs_size;
      places_size = length-set places (suc k) slot.place ∙ g.places_size;
      so_far =
          scanned_at l m (suc k) (suc k + 1 - 1) b _ _ _ _ next (omega arith)
          (scanned_next l m k b ranks lows highs places after all next slot
          (scanned_at l m (suc k - 1) k b ranks lows highs places all (omega arith) g.so_far)
          (omega (arith, g.ranks_size)) (omega (arith, g.lows_size)) (omega (arith, g.places_size)) w here j);
    }

-- no slot is counted twice
pub classes_few : (l : ℕ) (m : ℕ → ℕ) (n b : ℕ) (ranks lows highs places : List ℕ) (all : Scan) (s : ℕ)
    → Scanning l m n b ranks lows highs places all s → slots_counted all.classes ≤ n
classes_few l m n b ranks lows highs places all s g =
    let c = g.so_far.classed in
    omega (arith, g.low, g.high, c.broken_is, c.empty_is, c.puts_are, c.removes_are, classes_add (content l m) (s - 1))

pub scan_end : (l : ℕ) (m : ℕ → ℕ) (n b : ℕ) (ranks lows highs places : List ℕ) (all : Scan) (s : ℕ)
    → Scanning l m n b ranks lows highs places all s → n < s → Scanned l m n b ranks lows highs places all
scan_end l m n b ranks lows highs places all s g h =
    scanned_at l m (s - 1) n b ranks lows highs places all (omega (arith, g.low, g.high)) g.so_far
