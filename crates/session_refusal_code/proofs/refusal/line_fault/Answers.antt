-- Answers of `session_refusal_code::refusal::line_fault`.
use Rattle.prelude.proofs.Refusals.{or_else_first, or_else_later}
use Rattle.session.specs.Step.{line_fault}
use borrow.Author.Rules.{rules}
use Rattle.session_refusal_code.proofs.refusal.line_fault.Goals as goal

pub form_fault-form-requires : goal.form_fault-form-requires
unfolding line_fault
form_fault-form-requires c =
    search rules

pub returns-then-form-ne0 : goal.returns-then-form-ne0
unfolding line_fault
returns-then-form-ne0 c =
    record { result = (search (rules, or_else_first, ← c.form_fault-form.ensures)) }

pub slots_for-requires : goal.slots_for-requires
unfolding line_fault
slots_for-requires c =
    search rules

pub size_fault-size-requires : goal.size_fault-size-requires
unfolding line_fault
size_fault-size-requires c =
    search rules

pub returns-then-size-ne0 : goal.returns-then-size-ne0
unfolding line_fault
returns-then-size-ne0 c =
    record {
      result = (search
          (rules, or_else_first, or_else_later, ← c.form_fault-form.ensures, ← c.slots_for.ensures.result, ← c.size_fault-size.ensures));
    }

pub cut_fault-requires : goal.cut_fault-requires
unfolding line_fault
cut_fault-requires c =
    search rules

pub returns : goal.returns
unfolding line_fault
returns c =
    record {
      result = (search (
        rules,
        or_else_later,
        ← c.form_fault-form.ensures,
        ← c.slots_for.ensures.result,
        ← c.size_fault-size.ensures,
      ));
    }
