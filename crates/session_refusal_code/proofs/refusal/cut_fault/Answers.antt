-- Answers of `session_refusal_code::refusal::cut_fault`.
use mathlib.Core.Path.{◌≡◌, refl}
use Prim.Native.Nat.{ℕ}
use Rattle.session.specs.Step.{cut_fault}
use Rattle.text.specs.declared.Line.{Line}
use Rattle.text.specs.declared.Line.TheVariants.{New, Write, Remove, Get, Cut, Bad}
use Rattle.session_refusal_code.proofs.refusal.cut_fault.Goals as goal

-- a line without counts
no_counts : (line : Line) → ((a b : ℕ) → line ≡ Cut a b → ⊥) → 0 ≡ cut_fault line
unfolding cut_fault
no_counts (New n) other = refl
no_counts (Write key word) other = refl
no_counts (Remove key) other = refl
no_counts (Get key) other = refl
no_counts (Cut a b) other = absurd (other a b refl)
no_counts Bad other = refl

pub returns-in-Cut : goal.returns-in-Cut
unfolding cut_fault
returns-in-Cut c = cc

pub returns-in_default : goal.returns-in_default
returns-in_default c = no_counts _ c.in_default.not-Cut
