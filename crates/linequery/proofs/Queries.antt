-- What a query leaves, by its refusal and the word that it put into the lent bytes. Assumes nothing.
use mathlib.Core.Path.{◌≡◌, refl, sym, ap, ap₂, ◌∙◌}
use mathlib.Core.List.{List}
use Prim.Native.Nat.{ℕ, ◌^◌, ◌<◌}
use native.Mathlib.Omega.{arith}
use borrow.Author.Tests.{eqb-true, not-false}
use Rattle.words.specs.Word.{set_word}
use Rattle.prelude.proofs.Refusals.{refuse_if_zero, or_else_first, or_else_later, or_else_zero, taken_leaves, refused_keeps}
use Rattle.layout.specs.Line.{version_fault}
use Rattle.layout.proofs.Lents.{version_fine}
use Rattle.linequery.specs.Query.{slice_fault, next_fault, query_end, queried}

-- f is what slice_fault says of two lengths
module _ (f line answer : ℕ) (e : f ≡ slice_fault line answer) where
  pub slices_sized : f ≡ 0 → (line ≡ 64) × (answer ≡ 8)
  unfolding slice_fault
  slices_sized z =
      let a = refuse_if_zero _ _ _ (sym e ∙ z) (omega arith) in
      let b = refuse_if_zero _ _ _ a.1 (omega arith) in
      (eqb-true line 64 (not-false _ a.0), eqb-true answer 8 (not-false _ b.0))

  pub slices_first : (version : ℕ) → (f ≡ 0 → ⊥) → f ≡ next_fault line answer version
  unfolding next_fault
  slices_first version ne = e ∙ sym (or_else_first (slice_fault line answer) (version_fault version) (λ z. ne (e ∙ z)))

  pub version_later : (version r : ℕ) → f ≡ 0 → r ≡ version_fault version → r ≡ next_fault line answer version
  unfolding next_fault
  version_later version r z p = p ∙ sym (or_else_later (slice_fault line answer) (version_fault version) (sym e ∙ z))

-- what next_fault does not refuse
pub next_sized : (f line answer version : ℕ) → f ≡ next_fault line answer version → f ≡ 0 → (line ≡ 64) × (answer ≡ 8) × (version < 2 ^ 63)
unfolding next_fault
next_sized f line answer version e z =
    let a = or_else_zero _ _ (sym e ∙ z) in
    let b = slices_sized 0 line answer (sym a.0) refl in
    (b.0, b.1, version_fine version a.1)

-- f is the refusal that a function found, and g the rule's
module _ (f g value : ℕ) (lent : List ℕ) (e : f ≡ g) where
  pub query_refused : (f ≡ 0 → ⊥) → query_end f lent ≡ queried g value lent
  unfolding queried
  query_refused ne = ap₂ query_end e (sym (refused_keeps _ _ g (λ z. ne (e ∙ z))))

  pub query_put : f ≡ 0 → (out : List ℕ) (w : ℕ) → out ≡ set_word lent 0 w → w ≡ value → query_end 0 out ≡ queried g value lent
  unfolding queried
  query_put z out w p q =
      ap₂ query_end (sym z ∙ e) (p ∙ ap (set_word lent 0) q ∙ sym (taken_leaves _ _ g (sym e ∙ z)))
