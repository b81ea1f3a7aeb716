-- Answers of `trace_step_code::step::without_cut`.
use mathlib.Core.Path.{◌≡◌, refl}
use Prim.Native.Nat.{ℕ}
use Rattle.text.specs.declared.Line.{Line}
use Rattle.text.specs.declared.Line.TheVariants.{New, Write, Remove, Get, Cut, Bad}
use Rattle.trace.specs.Step.{without_cut}
use borrow.Author.Rules.{rules}
use Rattle.trace_step_code.proofs.step.without_cut.Goals as goal

-- a line without c stays as it is
kept : (line : Line) → ((a b : ℕ) → line ≡ Cut a b → ⊥) → line ≡ without_cut line
unfolding without_cut
kept (New n) no_cut = refl
kept (Write key word) no_cut = refl
kept (Remove key) no_cut = refl
kept (Get key) no_cut = refl
kept (Cut a b) no_cut = absurd (no_cut a b refl)
kept Bad no_cut = refl

-- `trace_step_code::step::without_cut` meets its contract. Assumes nothing.
pub returns-in-Cut : goal.returns-in-Cut
unfolding without_cut
returns-in-Cut c =
    record { line = (search (rules, c.in-Cut.is)) }

pub returns-in_default : goal.returns-in_default
returns-in_default c =
    record { line = (kept _ c.in_default.not-Cut) }
