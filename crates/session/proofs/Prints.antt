-- What a call's line prints is what the plain map answers. Assumes nothing.
use mathlib.Core.Path.{◌≡◌, refl, sym, ap, ap₂, ◌∙◌}
use mathlib.Core.Logic.{by_cases}
use mathlib.Core.List.{List}
use Prim.Native.Nat.{ℕ}
use native.Mathlib.Decide.{ℕ_discrete}
use Rattle.prelude.specs.Answer.{Answer, gives, absent, refused, refusal_in}
use Rattle.prelude.proofs.Refusals.{taken_leaves, refused_keeps}
use Rattle.interface.specs.Set.{World, Call, write, remove, get, locate, call_result, PlainMap, expected_refusal, CallCorrect}
use Rattle.text.specs.Output.{no}
use Rattle.session.specs.Step.{got_as}
use Rattle.session.specs.Lines.{change_prints, printed_for}
use Rattle.session.specs.Rule.{plain_prints}

-- ---- a call that is right

prints_number : (call : Call) (number : ℕ) (out : List ℕ) → printed_for call (refused number) out ≡ no number
unfolding printed_for change_prints got_as
prints_number (write mode key value) number out = refl
prints_number (remove key) number out = refl
prints_number (get key lent) number out = refl
prints_number (locate key) number out = refl

prints_refusal : (call : Call) (answer : Answer) (out : List ℕ) (k : ℕ) → refusal_in answer ≡ k → (k ≡ 0 → ⊥) → printed_for call answer out ≡ no k
unfolding refusal_in
prints_refusal call (gives values) out k e ne = absurd (ne (sym e))
prints_refusal call absent out k e ne = absurd (ne (sym e))
prints_refusal call (refused number) out k e ne = prints_number call number out ∙ ap no e

pub right_prints : (w : World) (m : PlainMap) (call : Call) → CallCorrect 1 w m call
    → printed_for call (call_result 1 w call).answer (call_result 1 w call).out ≡ plain_prints w m call
unfolding plain_prints
right_prints w m call right =
    by_cases (ℕ_discrete (expected_refusal 1 w m call) 0)
    (λ z. ap₂ (printed_for call) (right.answer z) (right.out z) ∙ sym (taken_leaves _ _ (expected_refusal 1 w m call) z))
    (λ nz. prints_refusal call (call_result 1 w call).answer (call_result 1 w call).out (expected_refusal 1 w m call) right.refusal nz
    ∙ sym (refused_keeps _ _ (expected_refusal 1 w m call) nz))

-- ---- a get
