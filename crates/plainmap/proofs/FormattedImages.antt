-- Recovery accepts a formatted image, and what it reads there. Assumes nothing.
use mathlib.Core.Path.{◌≡◌, sym, ap, ap₂, ◌∙◌}
use mathlib.Core.Bool.{true, false, cond}
use Prim.Native.Nat.{ℕ, ◌+◌, ◌*◌, ◌/◌, ◌%◌, ◌^◌, ◌≤◌, ◌<◌}
use native.Mathlib.Omega.{arith}
use lib.Dec.{ltb}
use Rattle.words.specs.Word.{word}
use Rattle.prelude.proofs.Choice.{pick_false}
use Rattle.layout.specs.Size.{slots_of}
use Rattle.layout.specs.Line.{line, line_a, line_b, whole}
use Rattle.layout.specs.Slot.{line_verdict, is_valid}
use Rattle.layout.specs.declared.Verdict.{Verdict}
use Rattle.layout.specs.declared.Verdict.TheVariants.{Empty}
use Rattle.layout.specs.Fault.{mark_fault, fault_of, record_fault}
use Rattle.layout.specs.Content.{contents_of, size_fields_of}
use Rattle.table.specs.Complete.{settled}
use Rattle.prelude.proofs.Refusals.{refuse_if-false, or_else_later}
use Rattle.prelude.proofs.Lowest.{all_clear}
use Rattle.layout.proofs.Content.{verdict_empty, paired-by}
use Rattle.layout.proofs.Size.{long}
use Rattle.prelude.proofs.Any.{any_clear}
use Rattle.recovery.specs.Recover.{slots_fault}
use Rattle.recovery.proofs.defs.Fresh.{Fresh}
use Rattle.recovery.proofs.Unwritten.{unwritten_fine, formatted_recovery}
use Rattle.calls.specs.Format.{formatted}
use Rattle.calls.proofs.Formats.{formatted_later, formatted_content}

-- the words of a formatted image
abbrev words_of : (l len : ℕ) → ℕ → ℕ
words_of l len = word (formatted l len)

module _ (l len : ℕ) (ne : slots_of len ≡ 0 → ⊥) (b : l < 2 ^ 64) (s : ℕ) (h : 1 ≤ s) where
  zero_at : (n i : ℕ) → 2 ≤ n → line (words_of l len) n i ≡ 0
  zero_at n i k = formatted_later l len ne b (8 * n + i % 8) (omega arith)

  no_mark : mark_fault (words_of l len) s ≡ false
  unfolding mark_fault
  no_mark =
      pick_false (ltb 1 (line_a (words_of l len) s 0)) true (ltb 1 (line_b (words_of l len) s 0)) (ap (ltb 1) (zero_at (2 * s) 0 (omega arith)))
      ∙ ap (ltb 1) (zero_at (2 * s + 1) 0 (omega arith))

  is-empty : line_verdict (line_a (words_of l len) s) (line_b (words_of l len) s) ≡ Empty
  is-empty =
      verdict_empty (line_a (words_of l len) s) (line_b (words_of l len) s)
      (paired-by (line_a (words_of l len) s 0) (line_a (words_of l len) s 7) (line_b (words_of l len) s 0) (line_b (words_of l len) s 7)
      (record {
        first = ap₂ whole (zero_at (2 * s) 0 (omega arith)) (zero_at (2 * s) 7 (omega arith));
        second = ap₂ whole (zero_at (2 * s + 1) 0 (omega arith)) (zero_at (2 * s + 1) 7 (omega arith));
        one_version = ap (λ (x : ℕ). x / 2) (zero_at (2 * s) 7 (omega arith) ∙ sym (zero_at (2 * s + 1) 7 (omega arith)));
      }))
      (ap (λ (x : ℕ). x / 2) (zero_at (2 * s) 7 (omega arith)))

  no_record : record_fault l (words_of l len) s ≡ 0
  unfolding record_fault is_valid
  no_record = ap (λ (v : Verdict). cond (is_valid v) (fault_of l (line_a (words_of l len) s) (line_b (words_of l len) s)) 0) is-empty

-- no refusal of the slots is due, and the index is that of a set without records: every slot in reuse, in slot order, live 0, version 1
pub formatted_slots : (l len : ℕ) → (slots_of len ≡ 0 → ⊥) → l < 2 ^ 64 → slots_fault l (word (formatted l len)) (slots_of len) ≡ 0
unfolding slots_fault
formatted_slots l len ne b =
    refuse_if-false _ _ _ (any_clear _ 1 (slots_of len) (λ i h. no_mark l len ne b (1 + i) (omega arith)))
    ∙ or_else_later _ _ (all_clear (record_fault l (word (formatted l len))) (slots_of len) (λ s i. no_record l len ne b s i.0))
    ∙ unwritten_fine (contents_of l (formatted l len)) (size_fields_of l (formatted l len)) (slots_of len) (λ s i. formatted_content l l len s ne b i.0)
    (omega (arith, (long len ne).low))

pub formatted_fresh : (l len : ℕ) → (slots_of len ≡ 0 → ⊥) → l < 2 ^ 64
    → Fresh (settled (contents_of l (formatted l len)) (size_fields_of l (formatted l len)) (slots_of len)) (slots_of len)
formatted_fresh l len ne b =
    formatted_recovery (contents_of l (formatted l len)) (size_fields_of l (formatted l len)) (slots_of len) (λ s i. formatted_content l l len s ne b i.0)
    (omega (arith, (long len ne).low))
