-- What recovery answers of an image: its index, or its refusal. Assumes nothing.
use mathlib.Core.Path.{◌≡◌, refl, sym, ap, ap₂, ◌∙◌}
use mathlib.Core.Bool.{not}
use mathlib.Core.Logic.{by_cases}
use mathlib.Core.List.{List}
use Prim.Native.Nat.{ℕ, ◌+◌, ◌≤◌}
use native.Mathlib.Decide.{ℕ_discrete}
use native.Mathlib.Omega.{arith}
use lib.Dec.{eqb, ltb}
use lib.ListN.{length}
use borrow.Author.Tests.{eq-eqb, le-ltb}
use Rattle.words.specs.Word.{word}
use Rattle.prelude.specs.Refusal.{or_else}
use Rattle.prelude.specs.Answer.{refusal_in}
use Rattle.prelude.proofs.Refusals.{refuse_if-false, or_else_zero, refused_keeps}
use Rattle.layout.specs.Size.{slots_in}
use Rattle.layout.specs.Header.{image_fault, index_fault, lent_fault}
use Rattle.table.specs.Complete.{table_of}
use Rattle.index.specs.declared.State.{State}
use Rattle.stores.specs.Store.{Store}
use Rattle.stores.specs.Invalidation.{invalidating_stores}
use Rattle.recovery.specs.Invalidation.{void_slots}
use Rattle.index.specs.Chained.{chained}
use Rattle.recovery.specs.Recover.{recovered_index, Recovery, recover_end, slots_fault, recover_fault, recovered, recover_result}
use Rattle.recovery.specs.declared.Invalidations.{Invalidations}
use Rattle.recovery.specs.declared.Recovered.{Recovered}
use Rattle.recovery.specs.declared.Recovered.TheVariants.{Rebuilt, Refused}
use Rattle.recovery.proofs.Lent.{recovery_taken}
use Rattle.cut_counts.specs.CutCount.{acceptance_fault}
use Rattle.cut_counts.specs.inner.Indexed.{Mapped, IndexedBy, is_map, no_map}
use Rattle.cut_counts.specs.inner.Pairs.{FitsIndex}
use Rattle.cut_counts.specs.declared.Indexed.{Indexed}
use Rattle.cut_counts.specs.declared.Indexed.TheVariants.{Map, Nothing}

-- an index of the right size is not what recovery refuses
pub index_sizes : (n heads next : ℕ) → 1 ≤ heads → heads ≤ 65536 → next ≡ n + 1 → index_fault n heads next ≡ 0
unfolding index_fault
index_sizes n heads next low high e =
    refuse_if-false (ltb heads 1) 4 _ (le-ltb heads 1 low) ∙ refuse_if-false (ltb 65536 heads) 4 _ (le-ltb 65536 heads high)
    ∙ refuse_if-false (not (eqb next (n + 1))) 4 0 (ap not (eq-eqb next (n + 1) e))

pub index_fine : (n : ℕ) → index_fault n 1 (n + 1) ≡ 0
index_fine n = index_sizes n 1 (n + 1) (omega arith) (omega arith) refl

module _ (l : ℕ) (image heads next : List ℕ) (fits : FitsIndex image heads next) where
  abbrev fault : ℕ
  fault = recover_fault l image (length heads) (length next)

  fault_is : fault ≡ acceptance_fault l image
  unfolding acceptance_fault recover_fault lent_fault
  fault_is =
      ap (λ (k : ℕ). or_else (or_else (image_fault l image) k) (slots_fault l (word image) (slots_in image))) (fits.size ∙ sym (index_fine (slots_in image)))

  refusal_is : refusal_in (recover_result l image heads next).answer ≡ fault
  unfolding refusal_in recovered recover_result
  refusal_is =
      by_cases (ℕ_discrete fault 0) (λ z. ap (λ (r : Recovery). refusal_in r.answer) (recovery_taken l image heads next z) ∙ sym z)
      (λ nz. ap (λ (r : Recovery). refusal_in r.answer) (refused_keeps _ _ fault nz))

  pub accepted_clear : refusal_in (recover_result l image heads next).answer ≡ 0 → acceptance_fault l image ≡ 0
  accepted_clear e = sym fault_is ∙ sym refusal_is ∙ e

  module _ (x : Recovered) (o : Invalidations) (heads' next' : List ℕ) (left : recover_end x o heads' next' ≡ recover_result l image heads next) where
    abbrev end_with : Recovered → Recovery
    end_with y = recover_end y o heads' next'

    pub recovery_refused : (number slot : ℕ) → x ≡ Refused number slot → IndexedBy l image heads' next' (Nothing number)
    unfolding recover_end refusal_in recovered
    recovery_refused number slot d = no_map (refusal ∙ fault_is) (λ z. never (sym refusal ∙ z))
      where
        e : end_with (Refused number slot) ≡ recover_result l image heads next
        e = ap end_with (sym d) ∙ left

        refusal : number ≡ fault
        refusal = ap (λ (r : Recovery). refusal_in r.answer) e ∙ refusal_is

        never : fault ≡ 0 → ⊥
        never z =
            let a = ap (λ (r : Recovery). r.answer) (e ∙ recovery_taken l image heads next z) in
            let y : ◌≡◌ {A = ℕ} 0 1 = cc in
            omega arith

    pub recovery_maps : length heads' ≡ length heads → length next' ≡ length next → (s : State) → x ≡ Rebuilt s
        → IndexedBy l image heads' next' (Map s.live)
    unfolding recover_end refusal_in recovered recovered_index chained
    recovery_maps same_heads same_next s d =
        is_map (record {
          index = record {
            clear = ap₂ (recover_fault l image) same_heads same_next ∙ clear;
            heads_are = ap (λ (r : Recovery). r.index.heads) taken;
            next_are = ap (λ (r : Recovery). r.index.next) taken;
          };
          live_is = ap (λ (r : Recovery). r.index.state.live) taken;
        })
      where
        e : end_with (Rebuilt s) ≡ recover_result l image heads next
        e = ap end_with (sym d) ∙ left

        clear : fault ≡ 0
        clear = sym refusal_is ∙ sym (ap (λ (r : Recovery). refusal_in r.answer) e)

        stores : List Store
        stores = invalidating_stores (word image) (void_slots l (word image) (slots_in image))

        taken : end_with (Rebuilt s) ≡ recovered (table_of l image) (slots_in image) (length heads') stores
        taken =
            e ∙ recovery_taken l image heads next clear
            ∙ ap (λ (b : ℕ). recovered (table_of l image) (slots_in image) b stores) (sym same_heads)

-- ---- the two cases

module _ (l : ℕ) (image heads next : List ℕ) where
  pub mapped : (i : Indexed) → IndexedBy l image heads next i → (live : ℕ) → i ≡ Map live → Mapped l image heads next live
  mapped (Map x) (is_map m) live e = let same : x ≡ live = cc in rw same at m
  mapped (Nothing k) (no_map p q) live e = absurd (let z : ◌≡◌ {A = ℕ} 0 1 = cc in omega arith)

  pub not_mapped : (i : Indexed) → IndexedBy l image heads next i → (number : ℕ) → i ≡ Nothing number → (number ≡ acceptance_fault l image) × (number ≡ 0 → ⊥)
  not_mapped (Map x) (is_map m) number e = absurd (let z : ◌≡◌ {A = ℕ} 0 1 = cc in omega arith)
  not_mapped (Nothing k) (no_map p q) number e = let same : k ≡ number = cc in (sym same ∙ p, (λ z. q (same ∙ z)))

  pub mapped_clear : (live : ℕ) → Mapped l image heads next live → acceptance_fault l image ≡ 0
  unfolding recover_fault lent_fault
  mapped_clear live m =
      sym
      (fault_is l image heads next
      (record { size = (or_else_zero (image_fault l image) _ (or_else_zero (lent_fault l image (length heads) (length next)) _ m.index.clear).0).1 }))
      ∙ m.index.clear
