-- Answers of `session_refusal_code::refusal::slots_for`.
use mathlib.Core.Path.{◌≡◌, refl}
use Prim.Native.Nat.{ℕ}
use Rattle.session.specs.Step.{slots_for}
use Rattle.session.specs.declared.Session.{Session}
use Rattle.text.specs.declared.Line.{Line}
use Rattle.text.specs.declared.Line.TheVariants.{New, Write, Remove, Get, Cut, Bad}
use Rattle.session_refusal_code.proofs.refusal.slots_for.Goals as goal

-- a line that makes no new set
same_set : (line : Line) (session : Session) → ((n : ℕ) → line ≡ New n → ⊥) → session.n ≡ slots_for line session
unfolding slots_for
same_set (New n) session other = absurd (other n refl)
same_set (Write key word) session other = refl
same_set (Remove key) session other = refl
same_set (Get key) session other = refl
same_set (Cut a b) session other = refl
same_set Bad session other = refl

pub returns-in-New : goal.returns-in-New
unfolding slots_for
returns-in-New c = record { result = (cc) }

pub returns-in_default : goal.returns-in_default
returns-in_default c = record { result = same_set _ _ c.in_default.not-New }
