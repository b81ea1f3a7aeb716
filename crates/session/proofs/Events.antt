-- The event of a call in a session is one that the cut rule allows, and it keeps the number of heads. Assumes nothing.
use mathlib.Core.Path.{◌≡◌, sym, ap, ◌∙◌}
use mathlib.Core.List.{List, [], ◌∷◌}
use Prim.Native.Nat.{ℕ}
use lib.ListN.{length}
use Rattle.prelude.specs.Members.{none_left}
use Rattle.interface.proofs.SetLaws.{layout_1, call_laws}
use Rattle.interface.specs.Set.{World, Call, PlainMap, Store, Typed, call_result, world_after, recovered_world, invalidated_world, restarted, index_fault}
use Rattle.interface.specs.Set.{slots_in}
use Rattle.interface.specs.Event.{done, step, Fits, done_fits, struck_fits, step_by}
use Rattle.interface.specs.Laws.{SetLaws}
use Rattle.session.specs.Waiting.{Waiting}
use Rattle.std.specs.Prelude.{Some, None}
use Rattle.session.specs.Lines.{struck_with, event_in}

module _ (Inv : World → PlainMap → Type 0) (laws : SetLaws 1 Inv) (w : World) (call : Call) where
  struck_heads : (a b : ℕ) (ss : List Store)
      → length (step 1 w (struck_with call a b (call_result 1 w call).index.heads (call_result 1 w call).index.next ss)).index.heads
      ≡ length w.index.heads
  unfolding step_by struck_with restarted invalidated_world recovered_world world_after
  struck_heads a b [] = (call_laws 1 layout_1).call-heads w call
  struck_heads a b (s ∷ ss) =
      (call_laws 1 layout_1).recovery_heads _ (call_result 1 w call).index.heads (call_result 1 w call).index.next ∙ (call_laws 1 layout_1).call-heads w call

  pub event_heads : (waiting : Waiting) → length (step 1 w (event_in w waiting call)).index.heads ≡ length w.index.heads
  unfolding step_by event_in
  event_heads None = (call_laws 1 layout_1).call-heads w call
  event_heads (Some counts) = struck_heads counts.a counts.b (call_result 1 w call).stores

  module _ (m : PlainMap) (i : Inv w m) (s : Typed 1 call) where
    -- the index that the call leaves has the right size
    pub left_size : index_fault (slots_in w.image) (length (call_result 1 w call).index.heads) (length (call_result 1 w call).index.next) ≡ 0
    unfolding step_by
    left_size =
        ap (λ (n : ℕ). index_fault n (length (call_result 1 w call).index.heads) (length (call_result 1 w call).index.next))
        (sym (laws.keeps_slots w m i (done call) (done_fits s)))
        ∙ (laws.lengths (step 1 w (done call)) _ (laws.keeps w m i (done call) (done_fits s))).index

    struck_fit : (a b : ℕ) (ss : List Store)
        → Fits 1 (slots_in w.image) (struck_with call a b (call_result 1 w call).index.heads (call_result 1 w call).index.next ss)
    unfolding struck_with
    struck_fit a b [] = done_fits s
    struck_fit a b (x ∷ ss) = struck_fits s (record { rounds = none_left; size = left_size })

    pub event_fits : (waiting : Waiting) → Fits 1 (slots_in w.image) (event_in w waiting call)
    unfolding event_in
    event_fits None = done_fits s
    event_fits (Some counts) = struck_fit counts.a counts.b (call_result 1 w call).stores
