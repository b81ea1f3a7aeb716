-- THE SLOTS THAT A REQUEST TAKES are those of the taking rule, proved from the laws of the set by the one induction over lists. Assumes nothing.
use mathlib.Core.Path.{◌≡◌, refl, sym, ap, subst, ◌∙◌}
use mathlib.Core.List.{List}
use Prim.Native.Nat.{ℕ}
use Rattle.prelude.specs.Members.{All}
use Rattle.prelude.proofs.Histories.{throughout}
use Rattle.interface.specs.Set.{World, PlainMap, slots_in, restarted, CallResult}
use Rattle.interface.specs.Event.{Event, effects_of, request_of, FitsBy}
use Rattle.interface.specs.Laws.{SetLaws}
use Rattle.interface.proofs.SetLaws.{call_laws, set_laws}
use Rattle.book.specs.Steps.{BookResult}
use Rattle.book.specs.Plain.{book_effects, call_for}
use Rattle.cut_rule.specs.Request.{Request, a_call, a_basket, a_step, TypedRequest}
use Rattle.cut_rule.specs.AllocationRule.{RequestByRule, ByRuleThroughout, AllocationRule}
use Rattle.cut_rule.proofs.CutRule.{InvOf, keeps_of, right, typed_request}

module _ (l : ℕ) (Inv : World → PlainMap → Type 0) (laws : SetLaws l Inv) where
  pub by_rule : (w : World) (m : PlainMap) → Inv w m → (request : Request) → TypedRequest l request → RequestByRule l w m request
  by_rule w m i (a_call own call) t = laws.either_call w m i own call ∙ laws.call_by_rule w m i call
  by_rule w m i (a_basket own b) t = laws.either_basket w m i own b ∙ laws.basket-by-rule w m i b
  by_rule w m i (a_step own step) t =
      let r = right l Inv laws w m i (a_step own step) t in
      ap book_effects r.1 ∙ r.0.leaves ∙ ap effects_of (laws.call_by_rule w m i (call_for l w m step))

  throughout_by_rule : (n : ℕ) (w : World) (m : PlainMap) (events : List (Event Request)) → InvOf l Inv laws n w m
      → All (FitsBy (TypedRequest l) n) events → ByRuleThroughout l w m events
  throughout_by_rule n w m events i fit =
      throughout _ _ _ _ (InvOf l Inv laws n) (FitsBy (TypedRequest l) n) (λ v p j. tt)
      (λ v p j event f. by_rule v p j.0 (request_of event) (typed_request l _ event f)) (keeps_of l Inv laws n) w m events i fit

-- THE ALLOCATION RULE
pub allocation_rule : AllocationRule
allocation_rule l layout image start z restart events fit =
    throughout_by_rule l _ (set_laws l layout) (slots_in image) (restarted l image start) _ events
    ((set_laws l layout).after-recovery image start z restart, (call_laws l layout).restart_slots image start) fit
