-- A step of a trace, by what its calls answer. Assumes nothing.
use mathlib.Core.Path.{◌≡◌, refl, sym, ap, ap₂, ◌∙◌}
use mathlib.Core.List.{List, ◌++◌}
use Prim.Native.Nat.{ℕ, ◌+◌, ◌*◌, min}
use native.Mathlib.Omega.{arith}
use lib.ListN.{length, take, drop}
use lib.Seq.{length-take-le}
use Rattle.prelude.specs.Answer.{Answer, gives, absent, refused}
use Rattle.prelude.proofs.Refusals.{taken_leaves, refused_keeps}
use Rattle.interface.specs.Laws.{write_writes, remove_writes}
use Rattle.interface.proofs.SetLaws.{layout_1, call_laws}
use Rattle.interface.specs.Set.{Store, Mode, World, write, remove, call_result, stores_after, buffers_after, write_result, remove_result, CallResult, index_of}
use Rattle.text.specs.Output.{Printed, nothing}
use Rattle.text.specs.declared.Line.{Line}
use Rattle.session.specs.Step.{StepResult, leaves, slots_for, line_fault, change_step, line_step, step_result}
use Rattle.session.specs.declared.Session.{Session}
use Rattle.session.proofs.Steps.{write_left, remove_left, step_done}
use Rattle.trace.specs.Step.{without_cut, answer_counts, change_counts, line_counts, front_counts, counts_printed, printing, trace_result}

-- ---- the stores of a call

-- what is printed by what a call left in the stores lent to it: they are looked at only where it handed stores out
left_counts : (image : List ℕ) (copy later : ℕ) (lent : List Store) (c : CallResult)
    → ((given : List ℕ) → c.answer ≡ gives given → stores_after c.stores lent ≡ c.stores)
    → change_counts image copy later (buffers_after lent c) ≡ change_counts image copy later c
unfolding change_counts answer_counts buffers_after
left_counts image copy later lent c h = go c.answer h
  where
    go : (answer : Answer) → ((given : List ℕ) → answer ≡ gives given → stores_after c.stores lent ≡ c.stores)
        → answer_counts image (stores_after c.stores lent) copy later answer ≡ answer_counts image c.stores copy later answer
    go (gives given) out = ap (λ (ss : List Store). answer_counts image ss copy later (gives given)) (out given refl)
    go absent out = refl
    go (refused number) out = refl

-- the step of a change
abbrev pub change_traced : Session → (image : List ℕ) → (copy later : ℕ) → CallResult → StepResult
change_traced s image copy later c = printing (change_counts image copy later c) (change_step s image c)

module _ (s : Session) (image heads next : List ℕ) (copy later : ℕ) (lent : List Store) where
  abbrev line_world : World
  line_world = record { image = image; index = index_of heads next s.state }

  pub write_traced : (mode : Mode) (key : ℕ) (value : List ℕ)
      → change_traced s image copy later (buffers_after lent (write_result 1 image (index_of heads next s.state) mode key value)) ≡
      change_traced s image copy later (write_result 1 image (index_of heads next s.state) mode key value)
  unfolding call_result
  write_traced mode key value =
      ap₂ printing
      (left_counts image copy later lent _ (λ given e. (call_laws 1 layout_1).hands_out line_world (write mode key value) write_writes given e lent))
      (write_left s image heads next lent mode key value)

  pub remove_traced : (key : ℕ)
      → change_traced s image copy later (buffers_after lent (remove_result 1 image (index_of heads next s.state) key)) ≡
      change_traced s image copy later (remove_result 1 image (index_of heads next s.state) key)
  unfolding call_result
  remove_traced key =
      ap₂ printing
      (left_counts image copy later lent _ (λ given e. (call_laws 1 layout_1).hands_out line_world (remove key) remove_writes given e lent))
      (remove_left s image heads next lent key)

-- a line that prints nothing
pub silent_line : (copy later : ℕ) (line asked : Line) (s : Session) (image heads next : List ℕ) (r : StepResult) → line ≡ asked
    → line_counts copy later asked s image heads next ≡ nothing → r ≡ printing nothing (line_step line s image heads next)
    → r ≡ printing (line_counts copy later line s image heads next) (line_step line s image heads next)
silent_line copy later line asked s image heads next r e z f =
    f ∙ ap (λ (p : Printed). printing p (line_step line s image heads next)) (sym (ap (λ (x : Line). line_counts copy later x s image heads next) e ∙ z))

-- the front of a lent slice that is at most this long
pub front_room : (xs : List ℕ) (bytes room : ℕ) → room ≡ min bytes (length xs) → length (take room xs) ≡ min bytes (length xs)
front_room xs bytes room e = length-take-le room xs (omega (arith, e)) ∙ e

-- ---- the step

-- a step with another answer in place of its own
pub answer_printed : (p q : Printed) (r : StepResult) (said : Printed) (t : Session) (i h x : List ℕ) → leaves said t i h x ≡ r → p ≡ q
    → leaves p t i h x ≡ printing q r
unfolding printing
answer_printed p q r said t i h x e f = ap (printing p) e ∙ ap (λ (y : Printed). printing y r) f

module _ (asked line : Line) (g : asked ≡ without_cut line) (s : Session) (image heads next : List ℕ) (copy later k : ℕ)
    (e : k ≡ line_fault asked s (length image) (length heads) (length next)) where
  abbrev traced : Line → StepResult
  traced a = printing (counts_printed copy later a s image heads next) (step_result a s image heads next)

  -- a refused line prints nothing and changes nothing
  pub trace_refused : (k ≡ 0 → ⊥) → leaves nothing s image heads next ≡ trace_result copy later line s image heads next
  unfolding trace_result printing counts_printed step_result
  trace_refused ne =
      sym
      (ap₂ printing (refused_keeps _ _ _ (λ z. ne (e ∙ z))) (refused_keeps _ _ _ (λ z. ne (e ∙ z))))
      ∙ ap traced g

  module _ (z : k ≡ 0) (n : ℕ) (f : n ≡ slots_for asked s) (room bound : ℕ) (c : room ≡ min (128 * (n + 1)) copy) (d : bound ≡ min (128 * (n + 1)) later)
      (p : Printed) (t : Session) (i h x : List ℕ) where
    abbrev front : StepResult
    front = line_step asked s (take (128 * (n + 1)) image) (take 1 heads) (take (n + 1) next)

    pub trace_done : leaves p t i h x ≡
        printing (line_counts room bound asked s (take (128 * (n + 1)) image) (take 1 heads) (take (n + 1) next))
        (line_step asked s (take (128 * (n + 1)) image) (take 1 heads) (take (n + 1) next))
        → leaves p t (i ++ drop (128 * (n + 1)) image) (h ++ drop 1 heads) (x ++ drop (n + 1) next) ≡ trace_result copy later line s image heads next
    unfolding trace_result printing counts_printed front_counts
    trace_done a =
        ap (printing p) (step_done asked s image heads next k e z n f front.answer t i h x (ap (printing front.answer) a))
        ∙ ap (λ (q : Printed). printing q (step_result asked s image heads next))
        (ap (λ (r : StepResult). r.answer) a
        ∙ ap₂ (λ (y v : ℕ). line_counts y v asked s (take (128 * (n + 1)) image) (take 1 heads) (take (n + 1) next)) c d
        ∙ ap (λ (m : ℕ). front_counts copy later asked s (m + 1) image heads next) f
        ∙ sym (taken_leaves _ _ _ (sym e ∙ z)))
        ∙ ap traced g
