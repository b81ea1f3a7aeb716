-- What read and its parts compute. Assumes nothing.
use mathlib.Core.Path.{◌≡◌, refl, sym, ap, ap₂, ◌∙◌, subst}
use mathlib.Core.Bool.{Bool, true, false, not}
use mathlib.Core.List.{List, [], ◌∷◌}
use Prim.Native.Nat.{ℕ, ◌+◌, ◌-◌, ◌*◌, ◌%◌, ◌≤◌, ◌<◌}
use native.Mathlib.Nat.{mod-lt}
use native.Mathlib.Omega.{arith}
use lib.ListN.{length, take, drop, length-drop}
use lib.Seq.{length-take-le}
use borrow.Author.Tests.{not-false}
use Rattle.std.specs.Prelude.{Result, Ok, Err}
use Rattle.std.specs.Result.{IsErrAnd}
use Rattle.refusals.specs.declared.Refusal.{Refusal}
use Rattle.refusals.specs.Number.{code_of}
use Rattle.refusals.proofs.Numbers.{not_zero}
use Rattle.message_log.specs.declared.Part.{Part}
use Rattle.prelude.specs.Refusal.{refuse_if}
use Rattle.prelude.specs.Answer.{Answer, gives, refused}
use Rattle.prelude.proofs.Choice.{both_right}
use Rattle.prelude.proofs.Refusals.{refuse_if_zero, or_else_first, or_else_zero, taken_leaves, refused_keeps}
use Rattle.words.specs.Word.{word}
use Rattle.message_log.specs.Area.{cells_in, area_fault, marked_line}
use Rattle.message_log.specs.Message.{in_window, highest, shown, message_start, message_in}
use Rattle.message_log.specs.Read.{read_fault, read_part, read_end, read_says, read_result, part_says, part_result}
use Rattle.message_log.specs.Rule.{PartHolds}
use Rattle.message_log.specs.inner.Needs.{Readable}
use Rattle.message_log.proofs.Cells.{held}
use Rattle.message_log.proofs.Parts.{area_cells, read-fault, read_shown}

-- ---- the refusals

module _ (area : List ℕ) (number : ℕ) where
  pub read_no_area : (fault : ℕ) → fault ≡ area_fault area → (fault ≡ 0 → ⊥) → fault ≡ read_fault area number
  unfolding read_fault
  read_no_area fault u ne = u ∙ sym (or_else_first (area_fault area) _ (λ z. ne (u ∙ z)))

  module _ (fine : 0 ≡ area_fault area) (k : ℕ) (e : k ≡ cells_in area) (t : Bool) (f : t ≡ shown k (word area) number) where
    by_shown : read_fault area number ≡ refuse_if (not t) 31 0
    by_shown =
        read-fault area (sym fine) number ∙ ap (λ (u : Bool). refuse_if (not u) 31 0) (sym (f ∙ ap (λ (j : ℕ). shown j (word area) number) e))

    pub read_accepted : t ≡ true → 0 ≡ read_fault area number
    unfolding refuse_if
    read_accepted q = sym (by_shown ∙ ap (λ (u : Bool). refuse_if (not u) 31 0) q)

    pub read_not_shown : t ≡ false → 31 ≡ read_fault area number
    unfolding refuse_if
    read_not_shown q = sym (by_shown ∙ ap (λ (u : Bool). refuse_if (not u) 31 0) q)

-- ---- the part

module _ (area : List ℕ) (number : ℕ) where
  module _ (fault : ℕ) (u : fault ≡ read_fault area number) (ne : fault ≡ 0 → ⊥) where
    pub part_refused : read_end [] fault ≡ read_result area number
    unfolding read_result read_part
    part_refused = ap₂ read_end (sym (refused_keeps (message_in area (number % cells_in area)) [] (read_fault area number) (λ z. ne (u ∙ z)))) u

    pub find_refused : refused fault ≡ part_result area number
    unfolding part_result
    find_refused = ap refused u ∙ sym (refused_keeps _ (refused (read_fault area number)) (read_fault area number) (λ z. ne (u ∙ z)))

  -- a refusal that a `?` hands on
  module _ (e : Refusal) (u : code_of e ≡ read_fault area number) where
    pub read_handed : {A : Type 0} (bytes : A → List ℕ) (r : Result A Refusal) → IsErrAnd r (λ y. y ≡ e) → read_says bytes r ≡ read_result area number
    unfolding read_says
    read_handed bytes (Ok part) h = absurd h
    read_handed bytes (Err refusal) h = ap (λ (y : Refusal). read_end [] (code_of y)) h ∙ part_refused (code_of e) u (not_zero e)

    pub find_handed : (r : Result Part Refusal) → IsErrAnd r (λ y. y ≡ e) → part_says r ≡ part_result area number
    unfolding part_says
    find_handed (Ok part) h = absurd h
    find_handed (Err refusal) h = ap (λ (y : Refusal). refused (code_of y)) h ∙ find_refused (code_of e) u (not_zero e)

  module _ (accepted : 0 ≡ read_fault area number) where
    fine : area_fault area ≡ 0
    unfolding read_fault
    fine = (or_else_zero _ _ (sym accepted)).0

    is_shown : shown (cells_in area) (word area) number ≡ true
    is_shown = not-false _ (refuse_if_zero _ _ _ (sym (read-fault area fine number) ∙ sym accepted) (omega arith)).0

    module _ (c : ℕ) (p : c ≡ number % cells_in area) where
      pub part_readable : Readable area c
      unfolding shown
      part_readable =
          let all = area_cells area fine in
          let under : number % cells_in area < cells_in area = mod-lt number (omega (arith, all.some)) in
          record {
            inside = omega (arith, p, all.size, under);
            short =
                subst (λ (x : ℕ). marked_line (word area) x 1 ≤ 384) (sym p)
                (held (word area) (number % cells_in area) number
                (both_right (in_window (cells_in area) (highest (cells_in area) (word area)) number) _ is_shown)).size_high;
          }

      pub part_taken : (x : List ℕ) → x ≡ message_in area c → read_end x 0 ≡ read_result area number
      unfolding read_result read_part
      part_taken x r =
          ap₂ read_end
          (r ∙ ap (message_in area) p ∙ sym (taken_leaves (message_in area (number % cells_in area)) [] (read_fault area number) (sym accepted)))
          accepted

      pub find_taken : (r : Answer) → r ≡ gives (message_start c ∷ marked_line (word area) c 1 ∷ []) → r ≡ part_result area number
      unfolding part_result
      find_taken r s =
          s ∙ ap (λ (x : ℕ). gives (message_start x ∷ marked_line (word area) x 1 ∷ [])) p
          ∙ sym (taken_leaves _ (refused (read_fault area number)) (read_fault area number) (sym accepted))

-- ---- what is answered of a number by whether it is shown

module _ (area : List ℕ) (fine : area_fault area ≡ 0) (s : ℕ) where
  -- shown
  module _ (e : shown (cells_in area) (word area) s ≡ true) where
    accepted : read_fault area s ≡ 0
    accepted = sym (read_accepted area s (sym fine) (cells_in area) refl true (sym e) refl)

    is_part : read_part area s ≡ take (marked_line (word area) (s % cells_in area) 1) (drop (message_start (s % cells_in area)) area)
    unfolding message_in
    is_part = read_shown area fine s e

    readable : Readable area (s % cells_in area)
    readable = part_readable area s (sym accepted) (s % cells_in area) refl

    part_length : length (read_part area s) ≡ marked_line (word area) (s % cells_in area) 1
    part_length =
        ap length is_part
        ∙ length-take-le (marked_line (word area) (s % cells_in area) 1) (drop (message_start (s % cells_in area)) area)
        (omega (arith, length-drop (message_start (s % cells_in area)) area, readable.inside, readable.short))

    pub part_holds : PartHolds area (read_part area s) (part_result area s)
    unfolding part_result
    part_holds =
        record {
          start = message_start (s % cells_in area);
          told =
              taken_leaves _ (refused (read_fault area s)) (read_fault area s) accepted
              ∙ ap (λ (n : ℕ). gives (message_start (s % cells_in area) ∷ n ∷ [])) (sym part_length);
          held = ap (λ (n : ℕ). take n (drop (message_start (s % cells_in area)) area)) part_length ∙ sym is_part;
        }

  -- not shown
  pub no_part : shown (cells_in area) (word area) s ≡ false → (read_result area s ≡ read_end [] 31) × (part_result area s ≡ refused 31)
  no_part e =
      let f : 31 ≡ read_fault area s = read_not_shown area s (sym fine) (cells_in area) refl false (sym e) refl in
      (sym (part_refused area s 31 f (λ (z : 31 ≡ 0). omega arith)), sym (find_refused area s 31 f (λ (z : 31 ≡ 0). omega arith)))

-- the part that the code takes
pub part_is : (area : List ℕ) (c size : ℕ) → size ≡ word area (8 * (7 * c) + 1)
    → take (448 * c + 64 + size - (448 * c + 64)) (drop (448 * c + 64) area) ≡ message_in area c
unfolding message_in
part_is area c size e =
    ap (λ (n : ℕ). take n (drop (message_start c) area)) (let z : 448 * c + 64 + size - (448 * c + 64) ≡ size = omega arith in z ∙ e)
