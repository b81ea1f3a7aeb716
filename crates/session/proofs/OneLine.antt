-- One line of a session: it answers right, and the set stays the plain map's. Assumes nothing.
use mathlib.Core.Path.{◌≡◌, refl, sym, ap, subst}
use mathlib.Core.Logic.{by_cases}
use Prim.Native.Nat.{ℕ}
use native.Mathlib.Decide.{ℕ_discrete}
use native.Mathlib.Omega.{arith}
use lib.ListN.{replicate}
use Rattle.prelude.proofs.Refusals.{or_else_zero, refused_keeps}
use Rattle.interface.specs.Laws.{SetLaws}
use Rattle.interface.specs.Set.{World, write, remove, get, PlainMap, is_held, write_typed, remove_typed, get_typed}
use Rattle.text.specs.Output.{Printed, no}
use Rattle.session.specs.Step.{StepResult, leaves, no_set, form_fault, slots_for, line_fault, word_bytes, step_result}
use Rattle.session.specs.Stream.{step_after}
use Rattle.text.specs.declared.Line.{Line}
use Rattle.text.specs.declared.Line.TheVariants.{New, Write, Remove, Get, Cut, Bad}
use Rattle.session.specs.declared.Session.{Session}
use Rattle.session.proofs.Steps.{roomy}
use Rattle.session.specs.Lines.{world_of, mode_for, call_in}
use Rattle.session.specs.Rule.{fault_at, map_by_call, map_by_line, map_after, LineCorrect, refused_line, SizedLine, sized_write, sized_remove}
use Rattle.session.proofs.defs.Keeps.{SetKeeps, Keeps, none_yet, kept}
use Rattle.session.proofs.CallEvents.{word-bytes, write_carried, remove_carried, get_carried}
use Rattle.session.proofs.NewLine.{new_goes}
use Rattle.session.proofs.CutLine.{cut_goes}
use Rattle.session.proofs.CallLine.{call_goes}

-- a line answers right, and the plain map stays the set's
abbrev pub Goes : (Inv : World → PlainMap → Type 0) → StepResult → PlainMap → Line → Type 0
Goes Inv r m line = LineCorrect r m line × Keeps Inv (step_after r line) (map_after r m line)

-- ---- a refused line

step_refused : (r : StepResult) (line : Line) → (fault_at r line ≡ 0 → ⊥)
    → step_after r line ≡ leaves (no (fault_at r line)) r.session r.image r.heads r.next
unfolding step_after step_result
step_refused r line ne = refused_keeps _ _ (fault_at r line) ne

pub still_keeps : (Inv : World → PlainMap → Type 0) (r : StepResult) (m : PlainMap) (p : Printed) → Keeps Inv r m
    → Keeps Inv (leaves p r.session r.image r.heads r.next) m
unfolding world_of
still_keeps Inv r m p (none_yet e) = none_yet e
still_keeps Inv r m p (kept k) = kept (record { size = k.size; waits = k.waits; set = k.set })

refused_goes : (Inv : World → PlainMap → Type 0) (r : StepResult) (m : PlainMap) (line : Line) → Keeps Inv r m → (fault_at r line ≡ 0 → ⊥) → Goes Inv r m line
unfolding map_after
refused_goes Inv r m line k ne =
    let e = step_refused r line ne in (
      refused_line ne e,
      subst (λ (x : StepResult). Keeps Inv x (map_after r m line)) (sym e)
          (subst (Keeps Inv (leaves _ r.session r.image r.heads r.next)) (sym (refused_keeps _ _ (fault_at r line) ne)) (still_keeps Inv r m _ k)),
    )

-- a line of no form is always refused
bad_refused : (r : StepResult) → fault_at r Bad ≡ 0 → ⊥
unfolding line_fault form_fault
bad_refused r z = let f : ◌≡◌ {A = ℕ} 16 0 = (or_else_zero 16 _ z).0 in omega arith

-- ---- every line

module _ (Inv : World → PlainMap → Type 0) (laws : SetLaws 1 Inv) where
  -- a line that is carried out on a set has one
  pub has_set : (r : StepResult) (m : PlainMap) (line : Line) → slots_for line r.session ≡ r.session.n → fault_at r line ≡ 0 → Keeps Inv r m
      → SetKeeps Inv r m
  unfolding no_set
  has_set r m line e z (kept k) = k
  has_set r m line e z (none_yet q) =
      absurd
      (let none_there : r.session.n ≡ 0 = ap (λ (s : Session). s.n) q in
      omega (arith, e, none_there, (roomy line r.session _ _ _ _ _ refl z refl).some))

  taken_goes : (r : StepResult) (m : PlainMap) (line : Line) → SizedLine line → Keeps Inv r m → fault_at r line ≡ 0 → Goes Inv r m line
  unfolding slots_for call_in map_by_line map_by_call world_of
  taken_goes r m (New n) s k z = new_goes Inv laws r m n z
  taken_goes r m (Write key x) (sized_write p q) k z =
      let t = has_set r m (Write key x) refl z k in
      call_goes Inv laws r m t (write (mode_for (is_held (m key))) key (word_bytes x)) (write_typed p (word-bytes x)) (Write key x) z refl refl refl
      (write_carried Inv laws r.session _ _ _ m t.set t.waits key x p)
  taken_goes r m (Remove key) (sized_remove p) k z =
      let t = has_set r m (Remove key) refl z k in
      call_goes Inv laws r m t (remove key) (remove_typed p) (Remove key) z refl refl refl
      (remove_carried Inv laws r.session _ _ _ m t.set t.waits key p)
  taken_goes r m (Get key) s k z =
      let t = has_set r m (Get key) refl z k in
      call_goes Inv laws r m t (get key (replicate 80 0)) get_typed (Get key) z refl refl refl
      (get_carried Inv laws r.session _ _ _ m t.set t.waits key)
  taken_goes r m (Cut a b) s k z = cut_goes Inv r m (has_set r m (Cut a b) refl z k) a b z
  taken_goes r m Bad s k z = absurd (bad_refused r z)

  -- ONE LINE
  pub line_goes : (r : StepResult) (m : PlainMap) (line : Line) → SizedLine line → Keeps Inv r m → Goes Inv r m line
  line_goes r m line s k = by_cases (ℕ_discrete (fault_at r line) 0) (taken_goes r m line s k) (refused_goes Inv r m line k)
