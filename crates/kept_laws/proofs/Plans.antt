-- An append is an append after the highest complete number: their plans are the same. Assumes nothing.
use mathlib.Core.List.{List}
use Prim.Native.Nat.{ℕ}
use Rattle.words.specs.Word.{word}
use Rattle.message_log.specs.Area.{cells_in}
use Rattle.message_log.specs.Message.{highest}
use Rattle.message_log.specs.Append.{next_message, append_stores, append_fault}
use Rattle.message_log.specs.AppendAfter.{append_after_stores, append_after_fault}
use Rattle.kept_laws.specs.inner.Plans.{AppendPlanned, AppendAfterPlanned}

-- the plans are the same
module _ (area message : List ℕ) (ats vals fault number cell pairs count : ℕ) where
  pub planned_highest : AppendAfterPlanned area (highest (cells_in area) (word area)) message ats vals fault number cell pairs count
      → AppendPlanned area message ats vals fault number cell pairs count
  unfolding append_after_stores append_after_fault next_message append_stores append_fault
  planned_highest g =
      record {
        refusal = g.refusal;
        ready = λ z. let r = g.ready z in record { next = r.next; there = r.there; size = r.size; room = r.room };
      }

  pub highest_planned : AppendPlanned area message ats vals fault number cell pairs count
      → AppendAfterPlanned area (highest (cells_in area) (word area)) message ats vals fault number cell pairs count
  unfolding append_after_stores append_after_fault next_message append_stores append_fault
  highest_planned g =
      record {
        refusal = g.refusal;
        ready = λ z. let r = g.ready z in record { next = r.next; there = r.there; size = r.size; room = r.room };
      }
