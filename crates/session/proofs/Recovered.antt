-- Recovery within a session accepts, and a new set is the empty plain map. Assumes nothing.
use mathlib.Core.Path.{◌≡◌, refl, ap, ◌∙◌}
use mathlib.Core.Bool.{not}
use mathlib.Core.Option.{none}
use mathlib.Core.List.{List, [], ◌∷◌}
use Prim.Native.Nat.{ℕ, ◌+◌, ◌*◌, ◌≤◌}
use native.Mathlib.Omega.{arith}
use lib.ListN.{length}
use borrow.Author.Tests.{le-ltb, eq-eqb, ne_eqb}
use Rattle.prelude.specs.Refusal.{refuse_if}
use Rattle.prelude.specs.Answer.{Answer, gives}
use Rattle.prelude.specs.Members.{none_left}
use Rattle.prelude.proofs.Refusals.{refuse_if-false, taken_leaves}
use Rattle.interface.proofs.SetLaws.{layout_1, call_laws}
use Rattle.interface.specs.Set.{World, PlainMap, slots_map, RightSize, Played, Accepted, recover_result, world_after, invalidated_world, FormatResult}
use Rattle.interface.specs.Set.{layout_fault, format_fault, formatted, format_result, index_fault, slots_of, slots_in, after_rounds}
use Rattle.interface.specs.Recovers.{Recovers}
use Rattle.interface.specs.Laws.{SetLaws}
use Rattle.text.specs.Output.{Printed, ok}
use Rattle.session.specs.Step.{StepResult, leaves, played_all, recovered_as, recovered_by, recover_step, made_as, made_by, make_step}
use Rattle.std.specs.Prelude.{None}
use Rattle.session.specs.declared.Session.{Session}

-- the session goes on with this set, and no cut waits
abbrev pub goes_on : Printed → (n : ℕ) → World → StepResult
goes_on p n w = leaves p (record { n = n; state = w.index.state; waiting = None }) w.image w.index.heads w.index.next

-- what a format of n slots leaves
abbrev left_bytes : (n : ℕ) → List ℕ → FormatResult
left_bytes n bytes = record { answer = gives (n ∷ []); bytes = bytes }

-- RECOVERY in a session, its invalidating stores played, is the recovery of the cut rule
pub recover-step : (p : Printed) (n : ℕ) (image heads next : List ℕ) (m : PlainMap) → Recovers 1 image m → RightSize image heads next
    → recover_step p n image heads next ≡ goes_on p n (invalidated_world 1 image heads next)
unfolding recover_step recovered_by recovered_as played_all invalidated_world world_after
recover-step p n image heads next m gives-map size =
    ap
    (λ (x : List ℕ).
    recovered_as p n x (recover_result 1 image heads next).index.heads (recover_result 1 image heads next).index.next
    (recover_result 1 image heads next).index.state
    (recover_result 1 image heads next).answer)
    (ap (λ (x : Played). x.bytes) (gives-map.plays_invalidations heads next size))
    ∙ ap
    (λ (answer : Answer).
    recovered_as p n (invalidated_world 1 image heads next).image (recover_result 1 image heads next).index.heads
    (recover_result 1 image heads next).index.next
    (recover_result 1 image heads next).index.state answer)
    ((call_laws 1 layout_1).answers_state image heads next (gives-map.accepts heads next size))

no_layout_fault : layout_fault 1 ≡ 0
unfolding layout_fault refuse_if
no_layout_fault = refl

module _ (Inv : World → PlainMap → Type 0) (laws : SetLaws 1 Inv) where
  -- A NEW SET, on an image and an index of its size
  module _ (n : ℕ) (low : 2 ≤ n) (high : n ≤ 511) (s : Session) (image heads next : List ℕ)
      (i : length image ≡ 128 * (n + 1)) (h : length heads ≡ 1) (x : length next ≡ n + 1) where
    slots_here : slots_in image ≡ n
    slots_here = ap slots_of i ∙ (call_laws 1 layout_1).slots-of n low (omega arith)

    some_slots : slots_in image ≡ 0 → ⊥
    some_slots e = omega (arith, slots_here)

    formats : format_result 1 image ≡ left_bytes n (formatted 1 (length image))
    unfolding format_result format_fault
    formats =
        taken_leaves _ _ _ (refuse_if-false _ _ _ (ne_eqb (slots_in image) 0 some_slots) ∙ no_layout_fault)
        ∙ ap (λ (k : ℕ). left_bytes k (formatted 1 (length image))) slots_here

    index_fits : index_fault (slots_in image) (length heads) (length next) ≡ 0
    unfolding index_fault
    index_fits =
        refuse_if-false _ _ _ (le-ltb (length heads) 1 (omega arith)) ∙ refuse_if-false _ _ _ (le-ltb 65536 (length heads) (omega arith))
        ∙ refuse_if-false _ _ _ (ap not (eq-eqb (length next) (slots_in image + 1) (omega (arith, slots_here))))

    new_set : Accepted 1 (formatted 1 (length image))
        × Inv (invalidated_world 1 (formatted 1 (length image)) heads next) (λ k. none)
    new_set = laws.fresh (length image) heads next some_slots index_fits

    new_size : RightSize (formatted 1 (length image)) heads next
    new_size =
        ap (λ (k : ℕ). index_fault (slots_of k) (length heads) (length next)) ((call_laws 1 layout_1).formatted-length (length image)) ∙ index_fits

    new_recovers : Recovers 1 (formatted 1 (length image)) (slots_map 1 (formatted 1 (length image)))
    unfolding after_rounds
    new_recovers = laws.always (formatted 1 (length image)) new_set.0 [] none_left

    pub new_step : make_step n s image heads next ≡ goes_on (ok (n ∷ [])) n (invalidated_world 1 (formatted 1 (length image)) heads next)
    unfolding make_step made_by made_as
    new_step =
        ap (made_by n s heads next) formats
        ∙ recover-step (ok (n ∷ [])) n (formatted 1 (length image)) heads next _ new_recovers new_size

    pub new_keeps : Inv (invalidated_world 1 (formatted 1 (length image)) heads next) (λ k. none)
    new_keeps = new_set.1
