-- A step is right, whichever way it goes. Assumes nothing.
use mathlib.Core.Path.{◌≡◌, refl, sym, ap, ◌∙◌}
use mathlib.Core.Logic.{by_cases}
use mathlib.Core.Option.{Option, some, none}
use mathlib.Core.List.{List, []}
use Prim.Native.Nat.{ℕ}
use native.Mathlib.Omega.{arith}
use native.Mathlib.Decide.{ℕ_discrete}
use Rattle.prelude.specs.Answer.{Answer, gives, absent, refused, refusal_in}
use Rattle.prelude.proofs.Refusals.{or_else_first, or_else_later, taken_leaves, refused_keeps}
use Rattle.interface.specs.Set.{World, Call, locate, CallResult, call_result, Store, State, PlainMap, CallCorrect, expected_refusal, reads_only, Index}
use Rattle.interface.specs.Event.{Effects, effects_of}
use Rattle.book.specs.Steps.{Step, BookResult, idle, change_answers, as_change}
use Rattle.book.specs.Plain.{step_key, book_fault, step_call, call_fault, step_fault, answer_for, step_answer, refusal_number, book_effects, call_or, call_for}
use Rattle.book.specs.Plain.{StepCorrect}
use Rattle.book.proofs.defs.Ways.{Declines, Repeats, Calls}

absent-gives : (values : List ℕ) → absent ≡ gives values → ⊥
absent-gives values e = let z : ◌≡◌ {A = ℕ} 0 1 = cc in omega arith

-- a call that changes nothing
still_leaving : (ss : List Store) (i i' : Index) → ss ≡ [] → i ≡ i' → ◌≡◌ {A = Effects} (record { stores = ss; index = i }) (record { stores = []; index = i' })
still_leaving ss i i' a b = cc

module _ (l : ℕ) (w : World) (m : PlainMap) (step : Step) where
  -- ---- the number of a step

  first-fault : (number : ℕ) → book_fault m step ≡ number → (number ≡ 0 → ⊥) → step_fault l w m step ≡ number
  unfolding step_fault
  first-fault number e nz = or_else_first (book_fault m step) _ (λ z. nz (sym e ∙ z)) ∙ e

  later_fault : (call : Option Call) → book_fault m step ≡ 0 → step_call m step ≡ call → step_fault l w m step ≡ call_fault l w m call
  unfolding step_fault
  later_fault call z e = or_else_later (book_fault m step) _ z ∙ ap (call_fault l w m) e

  -- ---- the call whose leaving is the step's

  for_refused : (step_fault l w m step ≡ 0 → ⊥) → call_for l w m step ≡ locate (step_key step)
  unfolding call_for
  for_refused nz = refused_keeps _ _ (step_fault l w m step) nz

  for_taken : step_fault l w m step ≡ 0 → call_for l w m step ≡ call_or (step_key step) (step_call m step)
  unfolding call_for
  for_taken z = taken_leaves _ _ (step_fault l w m step) z

  -- a locate leaves all as it is
  still : Effects
  still = record { stores = []; index = w.index }

  locate_leaves : (call : Call) → call ≡ locate (step_key step) → effects_of (call_result l w call) ≡ still
  unfolding call_result reads_only still
  locate_leaves call e = ap (λ (c : Call). effects_of (call_result l w c)) e

  -- ---- a step that the book's rules refuse

  pub declines_right : (number : ℕ) → Declines l w m step number → StepCorrect l w m step
  unfolding refusal_number book_effects idle still
  declines_right number d =
      let fault = first-fault number d.fault d.some in
      let nz : step_fault l w m step ≡ 0 → ⊥ = λ z. d.some (sym fault ∙ z) in
      record {
        refusal = ap (λ (r : BookResult). refusal_number r.answer) d.result ∙ sym fault;
        answer = λ z. absurd (nz z);
        leaves = ap book_effects d.result ∙ sym (locate_leaves _ (for_refused nz));
      }

  -- ---- a step that comes to no call

  pub repeats_right : Repeats l w m step → StepCorrect l w m step
  unfolding call_fault refusal_number book_effects idle still step_answer answer_for call_or
  repeats_right d =
      let fault = later_fault none d.fault d.comes in
      record {
        refusal = ap (λ (r : BookResult). refusal_number r.answer) d.result ∙ sym fault;
        answer = λ z. ap (λ (r : BookResult). r.answer) d.result ∙ sym (ap (answer_for _ _) d.comes);
        leaves = ap book_effects d.result ∙ sym (locate_leaves _ (for_taken fault ∙ ap (call_or (step_key step)) d.comes));
      }

  -- ---- a step that comes to a call

  -- what the step answers and leaves is what the call does
  change_leaves : (c : CallResult) → book_effects (as_change c) ≡ effects_of c
  unfolding book_effects as_change
  change_leaves c = refl

  module _ (call : Call) (c : CallResult) (d : Calls l w m step call c) (right : CallCorrect l w m call) where
    due : step_fault l w m step ≡ expected_refusal l w m call
    unfolding call_fault
    due = later_fault (some call) d.fault d.comes

    answered : c.answer ≡ (call_result l w call).answer
    answered = sym (ap (λ (r : CallResult). r.answer) d.change)

    number_right : (answer : Answer) → answer ≡ (call_result l w call).answer → refusal_number (change_answers answer) ≡ expected_refusal l w m call
    unfolding refusal_number change_answers refusal_in
    number_right (gives values) e = ap refusal_in e ∙ right.refusal
    number_right absent e =
        let z : expected_refusal l w m call ≡ 0 = sym (ap refusal_in e ∙ right.refusal) in
        absurd (absent-gives _ (e ∙ right.answer z ∙ d.answer))
    number_right (refused number) e = ap refusal_in e ∙ right.refusal

    refused_leaves : (expected_refusal l w m call ≡ 0 → ⊥) → effects_of (call_result l w call) ≡ still
    unfolding still
    refused_leaves nz =
        let u = right.refused_still nz in
        still_leaving _ _ _ u.no_stores u.index_kept

    leaves_right : effects_of (call_result l w call) ≡ effects_of (call_result l w (call_for l w m step))
    unfolding call_or
    leaves_right =
        by_cases (ℕ_discrete (step_fault l w m step) 0)
        (λ z. sym (ap (λ (k : Call). effects_of (call_result l w k)) (for_taken z ∙ ap (call_or (step_key step)) d.comes)))
        (λ nz. refused_leaves (λ z. nz (due ∙ z)) ∙ sym (locate_leaves _ (for_refused nz)))

    pub calls_right : StepCorrect l w m step
    unfolding as_change step_answer answer_for change_answers
    calls_right =
        record {
          refusal = ap (λ (r : BookResult). refusal_number r.answer) d.result ∙ number_right c.answer answered ∙ sym due;
          answer = λ z. ap (λ (r : BookResult). r.answer) d.result
              ∙ ap change_answers (answered ∙ right.answer (sym due ∙ z) ∙ d.answer) ∙ sym (ap (answer_for _ _) d.comes);
          leaves = ap book_effects d.result ∙ change_leaves c ∙ ap effects_of (sym d.change) ∙ leaves_right;
        }
