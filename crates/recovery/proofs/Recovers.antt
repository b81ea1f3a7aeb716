-- What recover needs: its result from what was judged and rebuilt. Assumes nothing.
use mathlib.Core.Path.{◌≡◌, refl, sym, ap, ap₂, ◌∙◌, subst}
use mathlib.Core.Bool.{true, false, cond}
use mathlib.Core.Logic.{◌⊎◌, inl, inr}
use mathlib.Core.List.{List, []}
use Prim.Native.Nat.{ℕ, zero, suc, ◌+◌, ◌-◌, ◌*◌, ◌%◌, ◌^◌, ◌≤◌, ◌<◌}
use native.Mathlib.Nat.{mod-lt, mul-le-mul_right}
use native.Mathlib.Omega.{arith}
use lib.ListN.{length, get_or, take, replicate}
use lib.Seq.{length-take-le}
use lib.Dec.{eqb}
use borrow.Author.Tests.{eq-eqb, ne_eqb}
use Rattle.words.specs.Word.{word}
use Rattle.prelude.proofs.Choice.{pick_true, pick_false, split}
use Rattle.layout.specs.Size.{slots_in}
use Rattle.layout.specs.Header.{lent_fault}
use Rattle.layout.specs.Record.{Layout}
use Rattle.layout.specs.Content.{Table, contents_of, size_fields_of}
use Rattle.table.specs.Complete.{settled, table_of}
use Rattle.prelude.proofs.Refusals.{or_else_first, or_else_later, or_else_zero, taken_leaves, refused_keeps}
use Rattle.table.specs.Table.{key_in, live, next_version}
use Rattle.index.specs.Index.{index_of, with_counts, head_of}
use Rattle.index.specs.Chained.{last_of}
use Rattle.index.specs.inner.Build.{build, place_in, unbuilt, Ordered}
use Rattle.index.specs.declared.State.{State}
use Rattle.layout.proofs.Lents.{lent_sized, lent_heads, lent_slots}
use Rattle.stores.specs.Store.{Store}
use Rattle.stores.specs.Invalidation.{invalidating_stores}
use Rattle.recovery.specs.Invalidation.{void_slots, invalidations_of}
use Rattle.recovery.specs.Recover.{rebuilt_result, refused_result, recover_end, slots_fault, slots_named, recover_fault, recover_slot}
use Rattle.recovery.specs.Recover.{recovered_index, recovered, recover_result}
use Rattle.recovery.specs.inner.Decide.{live_place, Within}
use Rattle.recovery.specs.inner.Judge.{Ready, Roomy, Judgeable, Arranged, Judgement, Left, answer_by}
use Rattle.recovery.specs.inner.Report.{RecoveredWith}
use Rattle.recovery.specs.inner.Scan.{Classed}
use Rattle.recovery.specs.declared.Classes.{Classes}
use Rattle.recovery.specs.declared.Judged.{Judged}
use Rattle.recovery.specs.declared.Invalidations.{Invalidations}
use Rattle.recovery.specs.declared.RecoverAnswer.{RecoverAnswer}
use Rattle.recovery.specs.declared.Recovered.TheVariants.{Rebuilt, Refused}
use Rattle.recovery.proofs.Rebuilt.{arranged_index, arranged_place, ordered_whole}
use Rattle.recovery.proofs.Orders.{whole_within}
use Rattle.recovery.proofs.Lent.{recovery_taken}

abbrev stores : (l : ℕ) → (image : List ℕ) → List Store
stores l image = invalidating_stores (word image) (void_slots l (word image) (slots_in image))

-- the result by the refusal's number and the slot that it names
module _ (l : ℕ) (image heads next : List ℕ) (fault : ℕ) (e : recover_fault l image (length heads) (length next) ≡ fault) where
  result_refused : (slot : ℕ) → recover_slot l image (length heads) (length next) ≡ slot → (fault ≡ 0 → ⊥)
      → refused_result fault slot (invalidations_of []) heads next ≡ recover_result l image heads next
  unfolding recover_result
  result_refused slot d ne =
      sym
      (refused_keeps (recovered (table_of l image) (slots_in image) (length heads) (stores l image)) _
      (recover_fault l image (length heads) (length next)) (λ z. ne (sym e ∙ z))
      ∙ ap₂ (λ (k s : ℕ). refused_result k s (invalidations_of []) heads next) e d)

  result_taken : fault ≡ 0 → recovered (table_of l image) (slots_in image) (length heads) (stores l image) ≡ recover_result l image heads next
  result_taken z = sym (recovery_taken l image heads next (e ∙ z))

-- 1 to 4
pub lent_refused : (l : ℕ) (image heads next : List ℕ) (fault : ℕ) (none : Invalidations) (classes : Classes)
    → fault ≡ lent_fault l image (length heads) (length next) → (fault ≡ 0 → ⊥) → none ≡ invalidations_of []
    → RecoveredWith l image heads next heads next (record { answer = record { recovered = Refused fault 0; invalidations = none }; classes = classes })
unfolding recover_end recover_fault recover_slot
lent_refused l image heads next fault none classes e ne o =
    record {
      result_is =
          ap (λ (x : Invalidations). refused_result fault 0 x heads next) o
          ∙ result_refused l image heads next fault (or_else_first _ _ (λ z. ne (e ∙ z)) ∙ sym e) 0
          (refused_keeps (slots_named l (word image) (slots_in image)) 0 _ (λ z. ne (e ∙ z))) ne;
      classed = λ z. absurd (ne (e ∙ (or_else_zero _ _ z).0));
    }

zero_or_not : (k : ℕ) → (k ≡ 0) ⊎ (k ≡ 0 → ⊥)
zero_or_not zero = inl refl
zero_or_not (suc k) = inr (λ e. omega arith)

-- the refusals of the slots, and the index
module _ (l : ℕ) (image heads next : List ℕ) (n : ℕ) (ready : Ready image l heads next n) where
  by_slots : (fault : ℕ) → fault ≡ slots_fault l (word image) n → recover_fault l image (length heads) (length next) ≡ fault
  unfolding recover_fault
  by_slots fault e = or_else_later _ _ ready.lent ∙ ap (slots_fault l (word image)) ready.sized.slot_count ∙ sym e

  slots_refused : (fault slot : ℕ) → fault ≡ slots_fault l (word image) n → slot ≡ slots_named l (word image) n → (fault ≡ 0 → ⊥)
      → refused_result fault slot (invalidations_of []) heads next ≡ recover_result l image heads next
  unfolding recover_slot
  slots_refused fault slot e d ne =
      result_refused l image heads next fault (by_slots fault e) slot
      (taken_leaves (slots_named l (word image) (slots_in image)) 0 _ ready.lent
      ∙ ap (slots_named l (word image)) ready.sized.slot_count ∙ sym d)
      ne

  slots-taken : (fault : ℕ) → fault ≡ slots_fault l (word image) n → fault ≡ 0 → (order places heads' next' : List ℕ) (live-count top : ℕ) (r : State)
      (invalidations : Invalidations) → Arranged (settled (contents_of l image) (size_fields_of l image) n) n (length heads) order places live-count top
      → invalidations ≡ invalidations_of (invalidating_stores (word image) (void_slots l (word image) n))
      → index_of heads' next' r ≡ with_counts (build (place_in places) (unbuilt (replicate (length heads) 0) (replicate (length next) 0)) order) live-count
      (top + 1) (last_of order)
      → rebuilt_result invalidations (index_of heads' next' r) ≡ recover_result l image heads next
  unfolding recovered
  slots-taken fault e z order places heads' next' live-count top r invalidations a o h =
      ap₂ rebuilt_result o (h ∙ built)
      ∙ ap (λ (k : ℕ). recovered (settled (contents_of l image) (size_fields_of l image) k) k (length heads)
      (invalidating_stores (word image) (void_slots l (word image) k)))
      (sym ready.sized.slot_count)
      ∙ result_taken l image heads next fault (by_slots fault e) z
    where
      f : Table
      f = settled (contents_of l image) (size_fields_of l image) n

      next_is : top + 1 ≡ next_version f n
      next_is = omega (arith, a.top_is)

      built : with_counts (build (place_in places) (unbuilt (replicate (length heads) 0) (replicate (length next) 0)) order) live-count (top + 1)
          (last_of order)
          ≡ recovered_index f n (length heads)
      built =
          ap (λ (k : ℕ). with_counts (build (place_in places) (unbuilt (replicate (length heads) 0) (replicate k 0)) order) live-count (top + 1)
          (last_of order))
          ready.sized.next_size
          ∙ arranged_index f n (length heads) order (place_in places) ready.sized.some_head a.order_is
          (arranged_place f n (length heads) order places live-count top a) live-count (top + 1) a.live_is next_is

-- both ways of a call, by the refusal's number
pub slots_answered : (l : ℕ) (image heads next order places : List ℕ) (n : ℕ) (found : Judged) (heads' next' : List ℕ) (state : State) (r : RecoverAnswer)
    → Ready image l heads next n → Judgement l (word image) n (length heads) order places found
    → Left found.fault heads next order places found.live found.top heads' next' state
    → r ≡ answer_by found.fault found.slot state found.invalidations
    → RecoveredWith l image heads next heads' next' (record { answer = r; classes = found.classes })
unfolding recover_end answer_by
slots_answered l image heads next order places n found heads' next' state r ready j v q =
    record {
      result_is = go (zero_or_not fault);
      classed = λ z. subst (λ (k : ℕ). Classed (contents_of l image) k found.classes) (sym ready.sized.slot_count) j.classed;
    }
  where
    fault : ℕ
    fault = found.fault

    slot : ℕ
    slot = found.slot

    taken : RecoverAnswer
    taken = record { recovered = Rebuilt state; invalidations = found.invalidations }

    refusal : RecoverAnswer
    refusal = record { recovered = Refused fault slot; invalidations = invalidations_of [] }

    says : (w : RecoverAnswer) → cond (eqb fault 0) taken refusal ≡ w
        → recover_end r.recovered r.invalidations heads' next' ≡ recover_end w.recovered w.invalidations heads' next'
    says w u = ap (λ (x : RecoverAnswer). recover_end x.recovered x.invalidations heads' next') (q ∙ u)

    go : (fault ≡ 0) ⊎ (fault ≡ 0 → ⊥) → recover_end r.recovered r.invalidations heads' next' ≡ recover_result l image heads next
    go (inl z) =
        says taken (pick_true (eqb fault 0) taken refusal (eq-eqb fault 0 z))
        ∙ slots-taken l image heads next n ready fault j.fault_is z order places heads' next' found.live found.top state found.invalidations
        (j.arranged z)
        (j.invalidations_are z) (v.rebuilt z)
    go (inr ne) =
        says refusal (pick_false (eqb fault 0) taken refusal (ne_eqb fault 0 ne))
        ∙ ap₂ (λ (h x : List ℕ). refused_result fault slot (invalidations_of []) h x) (v.kept ne).0 (v.kept ne).1
        ∙ slots_refused l image heads next n ready fault slot j.fault_is j.slot_is ne

-- ---- rebuild can write

place_small : (f : Table) (n b s : ℕ) → 1 ≤ b → live_place f n b s ≤ b
unfolding live_place
place_small f n b s few = go (split (live f n s))
  where
    below : (x : ℕ) → x % b < b
    below x = mod-lt x few

    go : (live f n s ≡ true) ⊎ (live f n s ≡ false) → cond (live f n s) (head_of (key_in (f s)) b + 1) 0 ≤ b
    go (inl e) = omega (arith, pick_true (live f n s) (head_of (key_in (f s)) b + 1) 0 e, below (key_in (f s) % 2 ^ 64))
    go (inr e) = omega (arith, pick_false (live f n s) (head_of (key_in (f s)) b + 1) 0 e)

pub rebuild_ordered : (l : ℕ) (image heads next ranks lows highs places₀ order₀ by_key spare order places : List ℕ) (n : ℕ) (found : Judged)
    → Ready image l heads next n → Judgeable image l ranks lows highs places₀ order₀ by_key spare n (length heads)
    → Judgement l (word image) n (length heads) order places found → length places ≡ length places₀ → found.fault ≡ 0
    → Ordered heads next order places
rebuild_ordered l image heads next ranks lows highs places₀ order₀ by_key spare order places n found ready g j same z = ordered_by
  where
    f : Table
    f = settled (contents_of l image) (size_fields_of l image) n

    a : Arranged f n (length heads) order places found.live found.top
    a = j.arranged z

    size : length places ≡ n + 1
    size = same ∙ g.places_size

    few : 1 ≤ length heads
    few = ready.sized.some_head

    wide : length next ≡ n + 1
    wide = ready.sized.next_size

    inside : Within order n
    inside = whole_within order n (ordered_whole f n order a.order_is)

    ordered_by : Ordered heads next order places
    ordered_by =
        record {
          slot_in = λ k h. omega (arith, wide, (inside k h).1);
          place-in = λ k h. omega (arith, size, (inside k h).1);
          head_in =
              λ k h.
              omega (
                arith,
                a.place_is (get_or order k 0) (inside k h).0 (inside k h).1,
                place_small f n (length heads) (get_or order k 0) few,
              );
        }

pub rebuild_top : (l : ℕ) (m : ℕ → ℕ) (n b : ℕ) (order places : List ℕ) (found : Judged) → Judgement l m n b order places found → found.fault ≡ 0
    → found.top < 2 ^ 63
rebuild_top l m n b order places found j z = (j.arranged z).top_fits

-- ---- the fronts of the scratch lists

-- what is lent and not refused with 1 to 4
pub lent_ready : (l : ℕ) (image heads next : List ℕ) (fault n : ℕ) → Layout l → fault ≡ lent_fault l image (length heads) (length next)
    → fault ≡ 0 → n ≡ slots_in image → Ready image l heads next n
lent_ready l image heads next fault n lay e z size =
    record {
      layout = lay;
      lent = sym e ∙ z;
      sized = lent_sized l fault image heads next e z n size;
      heads_high = lent_heads l fault image heads next e z;
      some_slots = omega (arith, lent_slots l fault image heads next e z n size);
    }

pub lent_few : (l : ℕ) (image heads next : List ℕ) (fault n : ℕ) → fault ≡ lent_fault l image (length heads) (length next) → fault ≡ 0
    → n ≡ slots_in image → n < 65536
lent_few l image heads next fault n e z size = omega (arith, (lent_sized l fault image heads next e z n size).few)
