-- Answers of `session_refusal_code::refusal::form_fault`.
use mathlib.Core.Path.{◌≡◌, refl}
use Rattle.session.specs.Step.{form_fault}
use Rattle.text.specs.declared.Line.{Line}
use Rattle.text.specs.declared.Line.TheVariants.{New, Write, Remove, Get, Cut, Bad}
use Rattle.session_refusal_code.proofs.refusal.form_fault.Goals as goal

-- a line of one of the forms
well_formed : (line : Line) → (line ≡ Bad → ⊥) → 0 ≡ form_fault line
unfolding form_fault
well_formed (New n) other = refl
well_formed (Write key word) other = refl
well_formed (Remove key) other = refl
well_formed (Get key) other = refl
well_formed (Cut a b) other = refl
well_formed Bad other = absurd (other refl)

pub returns-in-Bad : goal.returns-in-Bad
unfolding form_fault
returns-in-Bad c = cc

pub returns-in_default : goal.returns-in_default
returns-in_default c = well_formed _ c.in_default.not-Bad
