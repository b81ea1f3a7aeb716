-- Counting answers by recovery: with its refusal, or of what it accepted. Assumes nothing.
use mathlib.Core.Path.{◌≡◌, refl, sym, ap, ◌∙◌}
use mathlib.Core.Logic.{by_cases}
use mathlib.Core.List.{List}
use Prim.Native.Nat.{ℕ}
use native.Mathlib.Decide.{ℕ_discrete}
use native.Mathlib.Omega.{arith}
use lib.ListN.{length}
use Rattle.words.specs.Word.{word}
use Rattle.prelude.specs.Answer.{Answer, gives, refused, refusal_in}
use Rattle.prelude.proofs.Refusals.{or_else_zero, taken_leaves, refused_keeps}
use Rattle.layout.specs.Size.{slots_in}
use Rattle.layout.specs.Header.{lent_fault}
use Rattle.layout.specs.Record.{Layout}
use Rattle.layout.specs.Content.{contents_of}
use Rattle.layout.specs.inner.Sized.{Sized}
use Rattle.layout.proofs.Lents.{lent_sized}
use Rattle.table.specs.Complete.{table_of}
use Rattle.index.specs.declared.State.{State}
use Rattle.stores.specs.Store.{Store}
use Rattle.stores.specs.Invalidation.{invalidating_stores}
use Rattle.index.specs.Chained.{chained}
use Rattle.recovery.specs.Recover.{recovered_index, Recovery, recover_end, slots_fault, recover_fault, recover_result, recovered}
use Rattle.recovery.specs.Invalidation.{void_slots}
use Rattle.recovery.specs.inner.Scan.{Classed}
use Rattle.recovery.specs.declared.Classes.{Classes}
use Rattle.recovery.specs.declared.Invalidations.{Invalidations}
use Rattle.recovery.specs.declared.Recovered.{Recovered}
use Rattle.recovery.specs.declared.Recovered.TheVariants.{Rebuilt, Refused}
use Rattle.recovery.proofs.Clear.{slots_clear}
use Rattle.recovery.proofs.Lent.{recovery_taken}
use Rattle.recovery.proofs.Void.{few_void}
use Rattle.slot_counts.specs.Count.{CountResult, count_values, counts_in, count_end, count_says, count_result}
use Rattle.slot_counts.specs.inner.Countable.{Countable}
use Rattle.slot_counts.specs.declared.SlotCounts.{SlotCounts}
use Rattle.slot_counts.specs.declared.CountAnswer.TheVariants.{Counted, Refused as NotCounted}

module _ (l : ℕ) (image heads next : List ℕ) where
  abbrev fault : ℕ
  fault = recover_fault l image (length heads) (length next)

  -- the result of counting with this answer, and with the slot and the index of this recovery
  abbrev with_answer : Answer → Recovery → CountResult
  with_answer a r = record { answer = a; slot = r.slot; lists = record { heads = r.index.heads; next = r.index.next } }

  refused-answer : (fault ≡ 0 → ⊥) → (recover_result l image heads next).answer ≡ refused fault
  unfolding recover_result
  refused-answer nz = ap (λ (r : Recovery). r.answer) (refused_keeps _ _ fault nz)

  refusal_is : refusal_in (recover_result l image heads next).answer ≡ fault
  unfolding refusal_in recovered
  refusal_is =
      by_cases (ℕ_discrete fault 0) (λ z. ap (λ (r : Recovery). refusal_in r.answer) (recovery_taken l image heads next z) ∙ sym z)
      (λ nz. ap refusal_in (refused-answer nz))

  -- a refusal of recovery is one of counting
  module _ (number slot : ℕ) (x : Recovered) (d : x ≡ Refused number slot) (o : Invalidations) (heads' next' : List ℕ)
      (left : recover_end x o heads' next' ≡ recover_result l image heads next) where
    e : recover_end (Refused number slot) o heads' next' ≡ recover_result l image heads next
    e = ap (λ (y : Recovered). recover_end y o heads' next') (sym d) ∙ left

    pub count_refused : count_end (NotCounted number slot) heads' next' ≡ count_result l image heads next
    unfolding recover_end count_end count_result count_says recovered
    count_refused =
        by_cases (ℕ_discrete fault 0) (λ z. absurd (never z))
        (λ nz.
        ap (λ (r : Recovery). with_answer r.answer r) e
        ∙ ap (λ (a : Answer). with_answer a (recover_result l image heads next)) (refused-answer nz ∙ sym (refused_keeps _ _ fault nz)))
      where
        never : fault ≡ 0 → ⊥
        never z =
            let a = ap (λ (r : Recovery). r.answer) (e ∙ recovery_taken l image heads next z) in
            let z : ◌≡◌ {A = ℕ} 0 1 = cc in
            omega arith

  module _ (s : State) (x : Recovered) (d : x ≡ Rebuilt s) (o : Invalidations) (heads' next' : List ℕ)
      (left : recover_end x o heads' next' ≡ recover_result l image heads next) where
    rebuilt : recover_end (Rebuilt s) o heads' next' ≡ recover_result l image heads next
    rebuilt = ap (λ (y : Recovered). recover_end y o heads' next') (sym d) ∙ left

    accepted_fault : fault ≡ 0
    unfolding recover_end refusal_in
    accepted_fault = sym refusal_is ∙ sym (ap (λ (r : Recovery). refusal_in r.answer) rebuilt)

    -- what recovery accepted may be counted
    pub accepted : Layout l → (all : Classes) → (recover_fault l image (length heads) (length next) ≡ 0 → Classed (contents_of l image) (slots_in image) all)
        → Countable image l all s.live o
    unfolding recover_end recovered recovered_index chained recover_fault
    accepted lay all classed =
        record {
          classed = classed accepted_fault;
          live_is = ap (λ (r : Recovery). r.index.state.live) taken;
          opens =
              record {
                layout = lay;
                image-size = size.image-size;
                opened = ap (λ (r : Recovery). r.invalidations) taken;
                few = few_void l (word image) (slots_in image) (slots_clear l (word image) (slots_in image) parts.1).few_broken;
              };
        }
      where
        stores : List Store
        stores = invalidating_stores (word image) (void_slots l (word image) (slots_in image))

        taken : recover_end (Rebuilt s) o heads' next' ≡ recovered (table_of l image) (slots_in image) (length heads) stores
        taken = rebuilt ∙ recovery_taken l image heads next accepted_fault

        parts : (lent_fault l image (length heads) (length next) ≡ 0) × (slots_fault l (word image) (slots_in image) ≡ 0)
        parts = or_else_zero (lent_fault l image (length heads) (length next)) _ accepted_fault

        size : Sized image heads next (slots_in image)
        size = lent_sized l (lent_fault l image (length heads) (length next)) image heads next refl parts.0 (slots_in image) refl

    -- and its counts are the answer
    pub count_taken : (c : SlotCounts) → c ≡ counts_in l image → count_end (Counted c) heads' next' ≡ count_result l image heads next
    unfolding recover_end count_end count_result count_says
    count_taken c same =
        ap (with_answer (gives (count_values c))) rebuilt
        ∙ ap (λ (a : Answer). with_answer a (recover_result l image heads next))
        (ap (λ (y : SlotCounts). gives (count_values y)) same ∙ sym (taken_leaves _ _ fault accepted_fault))
