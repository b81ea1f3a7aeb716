-- What an accepted image is: its header as laid down, and what holds of its slots. Assumes nothing.
use mathlib.Core.Path.{◌≡◌, sym, ap, ◌∙◌}
use mathlib.Core.Bool.{Bool, false, not}
use mathlib.Core.List.{List}
use Prim.Native.Nat.{ℕ, ◌+◌, ◌-◌, ◌≤◌, ◌<◌}
use native.Mathlib.Omega.{arith}
use lib.Dec.{eqb, ltb}
use lib.ListN.{length}
use borrow.Author.Tests.{eq-eqb, ne_eqb, eqb-true, eqb-false, ltb-false, le-ltb, not-false}
use Rattle.words.specs.Word.{word}
use Rattle.prelude.proofs.Choice.{pick_false}
use Rattle.prelude.specs.Range.{any_of}
use Rattle.layout.specs.Size.{slots_in}
use Rattle.layout.specs.Line.{line_a, line_b}
use Rattle.layout.specs.Content.{content, size_field_in, contents_of, size_fields_of, Table}
use Rattle.table.specs.Complete.{settled, table_of}
use Rattle.layout.specs.Header.{header_word, header_fault, image_fault, index_fault, lent_fault}
use Rattle.layout.specs.Fault.{mark_fault, record_fault}
use Rattle.prelude.proofs.Any.{or_none, any_none, any_clear}
use Rattle.prelude.proofs.Lowest.{all_clear}
use Rattle.prelude.proofs.Refusals.{refuse_if-false, refuse_if_zero, or_else_later, or_else_zero}
use Rattle.layout.proofs.Size.{Long, long}
use Rattle.table.specs.Table.{live_count}
use Rattle.prelude.specs.Members.{Slot}
use Rattle.table.proofs.defs.Write.{ApartByKey}
use Rattle.table.proofs.Shared.{fault_agreed, agreed_fault, agreed_apart}
use Rattle.table.proofs.Settled.{settled_apart}
use Rattle.table.proofs.Broken.{many_few, few_many}
use Rattle.table.proofs.LiveCount.{all_room, room_all}
use Rattle.table.proofs.Right.{BitMarks, RightSlots}
use Rattle.recovery.specs.Recover.{settled_fault, slots_fault, recover_fault}
use Rattle.recovery.proofs.Clear.{slots_clear}
use Rattle.plainmap.specs.Accepted.{Accepted}

-- ---- the header

-- the length has slots, and the header is as laid down for it
pub record RightHeader (l : ℕ) (image : List ℕ) : Type 0 where
  pub sized : slots_in image ≡ 0 → ⊥
  pub words : (i : ℕ) → i < 8 → word image i ≡ header_word l (slots_in image) i

module _ (l : ℕ) (image : List ℕ) where
  abbrev differs : ℕ → Bool
  differs i = not (eqb (word image i) (header_word l (slots_in image) i))

  pub passed_header : image_fault l image ≡ 0 → RightHeader l image
  unfolding image_fault header_fault
  passed_header e =
      let size = refuse_if_zero (eqb (slots_in image) 0) _ _ e (omega arith) in
      let first = refuse_if_zero (eqb (word image 0) 0) _ _ size.1 (omega arith) in
      let rest = refuse_if_zero (any_of differs 0 8) _ _ first.1 (omega arith) in
      record {
        sized = eqb-false (slots_in image) 0 size.0;
        words = λ i h.
            eqb-true (word image i) (header_word l (slots_in image) i)
            (not-false _ (ap differs (omega arith) ∙ any_none differs 0 8 rest.0 i h));
      }

  pub right_header : RightHeader l image → image_fault l image ≡ 0
  unfolding image_fault header_fault header_word
  right_header h =
      refuse_if-false _ _ _ (ne_eqb (slots_in image) 0 h.sized)
      ∙ refuse_if-false _ _ _ (ne_eqb (word image 0) 0 (λ z. h.sized (sym (h.words 0 (omega arith)) ∙ z)))
      ∙ refuse_if-false _ _ _
      (any_clear differs 0 8
      (λ i p. ap not (eq-eqb (word image (0 + i)) (header_word l (slots_in image) (0 + i)) (h.words (0 + i) (omega arith)))))

-- ---- the slots

-- a test over the slots
slots_none : (p : ℕ → Bool) (n : ℕ) → any_of p 1 n ≡ false → (s : ℕ) → Slot n s → p s ≡ false
slots_none p n e s i =
    let at : s ≡ 1 + (s - 1) = omega arith in ap p at ∙ any_none p 1 n e (s - 1) (omega arith)

slots_free : (p : ℕ → Bool) (n : ℕ) → ((s : ℕ) → Slot n s → p s ≡ false) → any_of p 1 n ≡ false
slots_free p n h = any_clear p 1 n (λ i k. h (1 + i) (omega arith))

passed_marks : (m : ℕ → ℕ) (s : ℕ) → mark_fault m s ≡ false → BitMarks m s
unfolding mark_fault
passed_marks m s e =
    let both = or_none (ltb 1 (line_a m s 0)) _ e in
    (ltb-false 1 (line_a m s 0) both.0, ltb-false 1 (line_b m s 0) both.1)

right_marks : (m : ℕ → ℕ) (s : ℕ) → BitMarks m s → mark_fault m s ≡ false
unfolding mark_fault
right_marks m s h =
    pick_false (ltb 1 (line_a m s 0)) _ _ (le-ltb 1 (line_a m s 0) h.0) ∙ le-ltb 1 (line_b m s 0) h.1

module _ (l : ℕ) (m : ℕ → ℕ) (n : ℕ) where
  abbrev F : Table
  F = settled (content l m) (size_field_in l m) n

  pub passed_slots : slots_fault l m n ≡ 0 → RightSlots l m n
  passed_slots e =
      let clear = slots_clear l m n e in
      record {
        marks = λ s i. passed_marks m s (slots_none (mark_fault m) n clear.marks s i);
        records = clear.records;
        table =
            record {
              agreed = fault_agreed (content l m) (size_field_in l m) n clear.sharers;
              few = many_few F n clear.few_broken;
              idle = all_room F n clear.room;
            };
      }

  pub right_slots : RightSlots l m n → slots_fault l m n ≡ 0
  unfolding slots_fault settled_fault
  right_slots h =
      refuse_if-false _ _ _ (slots_free (mark_fault m) n (λ s i. right_marks m s (h.marks s i)))
      ∙ or_else_later _ _ (all_clear (record_fault l m) n h.records)
      ∙ refuse_if-false _ _ _ (agreed_fault (content l m) (size_field_in l m) n h.table.agreed)
      ∙ refuse_if-false _ _ _ (few_many F n h.table.few)
      ∙ refuse_if-false _ _ _ (room_all F n h.table.idle)

-- ---- an accepted image

module _ (l : ℕ) (image : List ℕ) (accepted : Accepted l image) where
  pub accepted_slots : slots_in image ≡ 0 → ⊥
  accepted_slots = (passed_header l image accepted.header).sized

  -- so it has 2 to 65,535 slots
  pub accepted_long : Long (length image)
  accepted_long = long (length image) accepted_slots

  pub accepted_right : RightSlots l (word image) (slots_in image)
  accepted_right = passed_slots l (word image) (slots_in image) accepted.records

  -- no key has two records of one version
  pub accepted_apart : ApartByKey (table_of l image) (slots_in image)
  accepted_apart =
      settled_apart (contents_of l image) (size_fields_of l image) (slots_in image)
      (agreed_apart (contents_of l image) (size_fields_of l image) (slots_in image) accepted_right.table.agreed)

  pub accepted_room : live_count (table_of l image) (slots_in image) < slots_in image
  accepted_room = accepted_right.table.idle

-- ---- recovery

pub accepted_recovers : (l : ℕ) (image : List ℕ) (heads next : ℕ) → Accepted l image → index_fault (slots_in image) heads next ≡ 0
    → recover_fault l image heads next ≡ 0
unfolding recover_fault lent_fault
accepted_recovers l image heads next accepted e =
    or_else_later _ _ (or_else_later _ _ accepted.header ∙ e) ∙ accepted.records

pub recovers_accepted : (l : ℕ) (image : List ℕ) (heads next : ℕ) → recover_fault l image heads next ≡ 0 → Accepted l image
unfolding recover_fault lent_fault
recovers_accepted l image heads next e =
    let parts = or_else_zero (lent_fault l image heads next) _ e in
    record { header = (or_else_zero (image_fault l image) _ parts.0).0; records = parts.1 }

pub recovers_index : (l : ℕ) (image : List ℕ) (heads next : ℕ) → recover_fault l image heads next ≡ 0 → index_fault (slots_in image) heads next ≡ 0
unfolding recover_fault lent_fault
recovers_index l image heads next e = (or_else_zero (image_fault l image) _ (or_else_zero (lent_fault l image heads next) _ e).0).1
