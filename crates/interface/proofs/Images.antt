-- What recovery gives of an accepted image. Assumes nothing.
use mathlib.Core.Path.{◌≡◌, refl, sym, ap, ◌∙◌, subst, fun_ext}
use mathlib.Core.Logic.{by_cases}
use mathlib.Core.List.{List, []}
use Prim.Native.Nat.{ℕ, ◌≤◌}
use native.Mathlib.Decide.{ℕ_discrete}
use native.Mathlib.Omega.{arith}
use lib.ListN.{length}
use Rattle.words.specs.Word.{word}
use Rattle.prelude.specs.Answer.{gives, refusal_in}
use Rattle.prelude.proofs.Refusals.{or_else_zero, refused_keeps}
use Rattle.layout.specs.Size.{slots_in}
use Rattle.layout.specs.Record.{Layout}
use Rattle.layout.specs.Header.{lent_fault, index_fault}
use Rattle.table.specs.Complete.{table_of}
use Rattle.table.proofs.defs.Keys.{live_keys}
use Rattle.table.proofs.KeyCount.{map_keys, live-keys}
use Rattle.recovery.specs.Invalidation.{void_slots, invalidations_of, stores_in}
use Rattle.recovery.specs.Recover.{Recovery, state_values, recover_fault, recover_slot, recovered, refused_result, recover_result, recover_end}
use Rattle.recovery.specs.declared.Invalidations.{Invalidations}
use Rattle.recovery.specs.declared.Recovered.{Recovered}
use Rattle.recovery.specs.declared.Recovered.TheVariants.{Rebuilt, Refused}
use Rattle.recovery.proofs.Clear.{slots_clear}
use Rattle.recovery.proofs.Lent.{recovery_taken, same_recovery}
use Rattle.recovery.proofs.InvalidatingStores.{invalidations_length}
use Rattle.recovery.proofs.Void.{few_void}
use Rattle.stores.proofs.Bytes.{standing_inside}
use Rattle.stores.proofs.defs.Cut.{StoresInside}
use Rattle.plainmap.specs.World.{world_after, recovered_world, invalidated_world, after_round, Round}
use Rattle.plainmap.specs.Plain.{PlainMap}
use Rattle.plainmap.specs.Accepted.{Accepted, RightSize}
use Rattle.plainmap.specs.Claims.{slots_map, Reads}
use Rattle.plainmap.proofs.AcceptedImages.{accepted_right, accepted_recovers}
use Rattle.plainmap.proofs.Playing.{list_played}
use Rattle.plainmap.proofs.Opens.{handed_out, few_handed, invalidating_stores_inside}
use Rattle.plainmap.proofs.CallLists.{recovered_reads}
use Rattle.stores.specs.Store.{standing}
use Rattle.interface.specs.Plays.{ListPlayLeaves}
use Rattle.interface.specs.Recovers.{Recovers}

recovery_answers : (l : ℕ) (image heads next : List ℕ) → Accepted l image → RightSize image heads next
    → refusal_in (recover_result l image heads next).answer ≡ 0
unfolding recovered refusal_in
recovery_answers l image heads next a s =
    ap (λ (r : Recovery). refusal_in r.answer)
    (recovery_taken l image heads next (accepted_recovers l image (length heads) (length next) a s))

-- the play of the list of the invalidating stores that stand after a cut among them
round_plays : (l : ℕ) → Layout l → (image : List ℕ) → Accepted l image → (r : Round)
    → index_fault (slots_in image) (length r.lent.heads) (length r.lent.next) ≡ 0
    → ListPlayLeaves image (standing r.counts (stores_in (recover_result l image r.lent.heads r.lent.next).invalidations)) (after_round l image r)
unfolding after_round
round_plays l lay image a r fits =
    list_played image _
    (standing_inside r.counts
    (subst (StoresInside (length image)) (sym (handed_out l lay image a r.lent.heads r.lent.next fits)) (invalidating_stores_inside l lay image a)))

pub accepted_gives : (l : ℕ) → Layout l → (image : List ℕ) (m : PlainMap) → Accepted l image → ((k : ℕ) → slots_map l image k ≡ m k) → Recovers l image m
unfolding invalidated_world world_after
accepted_gives l lay image m a h =
    record {
      map = h;
      accepts = λ heads next s. recovery_answers l image heads next a s;
      reads = λ heads next s.
          subst (λ (x : PlainMap). Reads l (recovered_world l image heads next) x) (fun_ext h) (recovered_reads l image heads next a s);
      few_broken = (accepted_right l image a).table.few;
      keys = live_keys (table_of l image) (slots_in image);
      held = map_keys (table_of l image) (slots_in image) m h;
      count = live-keys (table_of l image) (slots_in image) m h;
      plays_invalidations = λ heads next s.
          list_played image (stores_in (recover_result l image heads next).invalidations)
          (subst (StoresInside (length image)) (sym (handed_out l lay image a heads next s)) (invalidating_stores_inside l lay image a));
      plays_some_invalidations = round_plays l lay image a;
      few_invalidations = few_handed l lay image a;
      again = λ heads next heads' next' s p q.
          same_recovery l image heads next heads' next' p q (accepted_recovers l image (length heads) (length next) a s);
    }

-- ---- whatever the image

module _ (l : ℕ) (image heads next : List ℕ) where
  abbrev fault : ℕ
  fault = recover_fault l image (length heads) (length next)

  recovery_refused : (fault ≡ 0 → ⊥)
      → recover_result l image heads next ≡ refused_result fault (recover_slot l image (length heads) (length next)) (invalidations_of []) heads next
  unfolding recover_result
  recovery_refused = refused_keeps _ _ fault

  -- the answer of a recovery that is not refused is the state
  pub state_answered : refusal_in (recover_result l image heads next).answer ≡ 0
      → (recover_result l image heads next).answer ≡ gives (state_values (recover_result l image heads next).index.state)
  unfolding recovered refusal_in
  state_answered e = by_cases (ℕ_discrete fault 0) taken (λ nz. absurd (nz (sym (ap (λ (r : Recovery). refusal_in r.answer) (recovery_refused nz)) ∙ e)))
    where
      taken : fault ≡ 0 → (recover_result l image heads next).answer ≡ gives (state_values (recover_result l image heads next).index.state)
      taken z =
          let t = recovery_taken l image heads next z in
          ap (λ (r : Recovery). r.answer) t ∙ ap (λ (r : Recovery). gives (state_values r.index.state)) (sym t)

  few_invalidations : (recover_result l image heads next).invalidations.count ≤ 8
  unfolding recovered invalidations_of recover_fault
  few_invalidations = by_cases (ℕ_discrete fault 0) taken (λ nz. omega (arith, ap (λ (r : Recovery). r.invalidations.count) (recovery_refused nz)))
    where
      taken : fault ≡ 0 → (recover_result l image heads next).invalidations.count ≤ 8
      taken z =
          omega (
            arith,
            ap (λ (r : Recovery). r.invalidations.count) (recovery_taken l image heads next z),
            invalidations_length (word image) (void_slots l (word image) (slots_in image)),
            few_void l (word image) (slots_in image)
                (slots_clear l (word image) (slots_in image) (or_else_zero (lent_fault l image (length heads) (length next)) _ z).1).few_broken,
          )

  end_invalidations : (r : Recovered) (o : Invalidations) (heads' next' : List ℕ) → (recover_end r o heads' next').invalidations ≡ o
  unfolding recover_end
  end_invalidations (Rebuilt s) o heads' next' = refl
  end_invalidations (Refused number slot) o heads' next' = refl

  -- AT MOST EIGHT INVALIDATING STORES in what a call of recover gave back
  pub few_invalidations_left : (r : Recovered) (o : Invalidations) (heads' next' : List ℕ) → recover_end r o heads' next' ≡ recover_result l image heads next
      → o.count ≤ 8
  few_invalidations_left r o heads' next' e =
      omega (
        arith,
        few_invalidations,
        ap (λ (x : Invalidations). x.count)
            (sym (end_invalidations r o heads' next') ∙ ap (λ (x : Recovery). x.invalidations) e),
      )
