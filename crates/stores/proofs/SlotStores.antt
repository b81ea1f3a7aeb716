-- What stores make of one slot, whatever else they write: a slot into which they write nothing, and one into which they write a record. Assumes nothing.
use mathlib.Core.Path.{◌≡◌, ap, ap₂}
use mathlib.Core.Bool.{cond}
use mathlib.Core.Logic.{◌⊎◌}
use mathlib.Core.List.{List}
use Prim.Native.Nat.{ℕ, ◌+◌, ◌*◌, ◌≤◌, ◌<◌}
use native.Mathlib.Omega.{arith}
use Rattle.layout.specs.Line.{line}
use Rattle.layout.specs.Slot.{highest_whole_of, line_verdict, is_valid}
use Rattle.layout.specs.Record.{size_field}
use Rattle.layout.specs.Content.{content_of_record, content_of, content, highest_whole, size_field_in}
use Rattle.layout.specs.Fault.{fault_of, record_fault}
use Rattle.stores.specs.Store.{Store}
use Rattle.stores.specs.Written.{body_a, body_b, new_a, new_b}
use Rattle.stores.specs.Cut.{after_cut, LineCut, SlotCut, Fields, Lawful, SlotWritten}
use Rattle.stores.proofs.defs.Cut.{Carries, Avoids}
use Rattle.stores.proofs.StandingStores.{line_out, line_none}
use Rattle.stores.proofs.Line.{line_full, line_law}
use Rattle.stores.proofs.Fields.{number_written}
use Rattle.stores.proofs.Slot.{slot_top, slot_top_full, slot_cut, slot_fault}

-- ---- any stores that write nothing into slot t

module _ (l : ℕ) (counts m : ℕ → ℕ) (ss : List Store) (t : ℕ) (none : Avoids ss t) where
  spare_A : line (after_cut counts ss m) (2 * t) ≡ line m (2 * t)
  spare_A = line_out counts m ss (2 * t) none.line_A

  spare_B : line (after_cut counts ss m) (2 * t + 1) ≡ line m (2 * t + 1)
  spare_B = line_out counts m ss (2 * t + 1) none.line_B

  pub spare_content : content l (after_cut counts ss m) t ≡ content l m t
  unfolding content
  spare_content = ap₂ (content_of l) spare_A spare_B

  pub spare_fault : record_fault l (after_cut counts ss m) t ≡ record_fault l m t
  unfolding record_fault
  spare_fault = ap₂ (λ (A B : ℕ → ℕ). cond (is_valid (line_verdict A B)) (fault_of l A B) 0) spare_A spare_B

  pub spare_number : size_field_in l (after_cut counts ss m) t ≡ size_field_in l m t
  spare_number = ap (λ (A : ℕ → ℕ). size_field (A (l + 1))) spare_A

-- ---- any stores that write a record into slot s

module _ (l : ℕ) (counts m : ℕ → ℕ) (ss : List Store) (s key kind number : ℕ) (value : List ℕ) (version : ℕ)
    (has : Carries l m ss s key kind number value version) (fine : Fields l key kind number value) (above : highest_whole m s < version) where
  cut_A : LineCut (line m (2 * s)) (new_a l (line m (2 * s) 7) key kind number value version) (line (after_cut counts ss m) (2 * s)) (counts (2 * s))
  cut_A = line_law counts m ss (2 * s) version (body_a l key kind number value) has.line_A

  cut_B : LineCut (line m (2 * s + 1)) (new_b l (line m (2 * s + 1) 7) value version) (line (after_cut counts ss m) (2 * s + 1)) (counts (2 * s + 1))
  cut_B = line_law counts m ss (2 * s + 1) version (body_b l value) has.line_B

  over : highest_whole_of (line m (2 * s)) (line m (2 * s + 1)) < version
  unfolding highest_whole
  over = above

  carried_content : SlotCut (content l m s) (content_of_record kind version key value) (content l (after_cut counts ss m) s) version (counts (2 * s))
      (counts (2 * s + 1))
  unfolding content
  carried_content = slot_cut l key kind number value version fine _ _ _ _ _ _ (counts (2 * s)) (counts (2 * s + 1)) over cut_A cut_B

  pub carried_fault : Lawful kind number value → record_fault l m s ≡ 0 → record_fault l (after_cut counts ss m) s ≡ 0
  unfolding record_fault
  carried_fault = slot_fault l key kind number value version fine _ _ _ _ _ _ (counts (2 * s)) (counts (2 * s + 1)) over cut_A cut_B

  carried_top : highest_whole (after_cut counts ss m) s ≤ version
  unfolding highest_whole
  carried_top = slot_top l key kind number value version fine _ _ _ _ _ _ (counts (2 * s)) (counts (2 * s + 1)) over cut_A cut_B

  carried_top_full : (8 ≤ counts (2 * s)) ⊎ (8 ≤ counts (2 * s + 1)) → highest_whole (after_cut counts ss m) s ≡ version
  unfolding highest_whole
  carried_top_full = slot_top_full l key kind number value version fine _ _ _ _ _ _ (counts (2 * s)) (counts (2 * s + 1)) over cut_A cut_B

  pub carried : SlotWritten l m (after_cut counts ss m) s key kind number value version (counts (2 * s)) (counts (2 * s + 1))
  carried =
      record {
        cut = carried_content;
        number_old = λ e. ap (λ (A : ℕ → ℕ). size_field (A (l + 1))) (line_none counts m ss (2 * s) e);
        number_new =
            λ h.
            number_written l (line m (2 * s) 7) key kind number value version fine (line (after_cut counts ss m) (2 * s))
            (line_full counts m ss (2 * s) _ has.line_A h (l + 1) (omega (arith, fine.layout.high)));
        top_below = carried_top;
        top_full = carried_top_full;
      }
