-- Answers of `layout_fields_code::fields::check_record`.
use Rattle.std.proofs.Common.{rules, sym, refl}
use Rattle.refusals.proofs.Numbers.{not_zero, handed_on}
use Rattle.layout.proofs.RecordFields.{within, fault_by_word, fault_by_tail, no_fault}
use Rattle.layout_fields_code.proofs.fields.check_record.Goals as goal

pub returns-in_err-check_kind_word : goal.returns-in_err-check_kind_word
returns-in_err-check_kind_word c =
    record {
      result =
          rw (handed_on _ _ c.from_residual.ensures.1)
          (fault_by_word _ _ _ _ c.slot_kind_word-w.ensures _ c.in_err-check_kind_word.ensures (not_zero _));
    }

pub tail_fault-requires : goal.tail_fault-requires
tail_fault-requires c = (c.requires, within _ _ _ c.length_of.ensures (sym c.in_ok-check_kind_word.ensures))

pub returns-then-tail_fault : goal.returns-then-tail_fault
returns-then-tail_fault c =
    record {
      result = (fault_by_tail _ _ _ _ c.slot_kind_word-w.ensures _ c.in_ok-check_kind_word.ensures refl _
          c.length_of.ensures _ c.tail_fault.ensures c.if-tail_fault.true);
    }

pub returns : goal.returns
returns c =
    record {
      result = (no_fault _ _ _ _ c.slot_kind_word-w.ensures _ c.in_ok-check_kind_word.ensures refl _
          c.length_of.ensures _ c.tail_fault.ensures c.if-tail_fault.false);
    }
