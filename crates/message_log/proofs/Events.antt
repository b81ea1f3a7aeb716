-- One event keeps the area and the plain list together. Assumes nothing.
use mathlib.Core.Path.{◌≡◌, refl, sym, ap, ◌∙◌, subst}
use mathlib.Core.Bool.{Bool, true, false, cond, not}
use mathlib.Core.Logic.{by_cases}
use mathlib.Core.List.{List, [], ◌∷◌, ◌++◌}
use Prim.Native.Nat.{ℕ, zero, suc, ◌+◌, ◌*◌, ◌≤◌, ◌<◌}
use native.Mathlib.Decide.{ℕ_discrete}
use native.Mathlib.Omega.{arith}
use lib.ListN.{length, length-append}
use lib.Dec.{eqb, ltb}
use borrow.Author.Tests.{eq-eqb, ne_eqb, le-ltb}
use Rattle.prelude.specs.Refusal.{unless_refused}
use Rattle.prelude.specs.Answer.{refuses}
use Rattle.prelude.proofs.Choice.{pick_true, pick_false}
use Rattle.prelude.proofs.Any.{any_clear}
use Rattle.prelude.proofs.Refusals.{taken_leaves, refused_keeps, by_refusal}
use Rattle.words.specs.Word.{AreBytes, word}
use Rattle.words.proofs.Laws.{word_range}
use Rattle.stores.specs.Store.{Store, played, standing, on_line}
use Rattle.stores.proofs.StandingStores.{on_few, all-made}
use Rattle.stores.proofs.Bytes.{played-length, played_bytes}
use Rattle.message_log.specs.Area.{cells_in, area_fault}
use Rattle.message_log.specs.LogOutcome.{handing}
use Rattle.message_log.specs.Append.{append_stores, append_fault, append_result}
use Rattle.message_log.specs.Recover.{recovery_stores, log_recover_fault, log_recover_result}
use Rattle.message_log.specs.Event.{LogCall, an_append, a_read, a_recovery, CutRecovery, log_stores, area_done, area_cut, area_again, area_after_all, Messages}
use Rattle.message_log.specs.Event.{expected_log_refusal, is_torn, plain_append, FitsCall, append_fits, read_fits, recovery_fits}
use Rattle.message_log.specs.RuleAfter.{number_given, last_after_call}
use Rattle.message_log.specs.Laws.{Closed, AppendLeaves, whole_there, wholly_absent}
use Rattle.message_log.proofs.Shown.{recovery_closed, done_closed}
use Rattle.message_log.proofs.Parts.{area_cells}
use Rattle.message_log.proofs.Inside.{Accepted, accepted}
use Rattle.message_log.proofs.AnyArea.{recovery_words, recovery_keeps, append_words, all-stand, append_leaves}
use Rattle.message_log.proofs.Claims.{Keeping, recovery_accepted, area_fine, top_in, next-in, append_due, same_keeps, more_keeps}

-- the number that is held after a call that hands out stores
number_handed : (held fault number : ℕ) (ss : List Store) (at value : List ℕ)
    → number_given held (handing fault number ss at value).answer ≡ unless_refused fault number held
unfolding handing unless_refused number_given
number_handed held zero number ss at value = refl
number_handed held (suc f) number ss at value = refl

module _ (cells : ℕ) (low : 2 ≤ cells) (area : List ℕ) (log : Messages) (keep : Keeping cells area log) where
  fine : area_fault area ≡ 0
  fine = area_fine cells low area log keep

  -- ---- recovery

  module _ (counts : ℕ → ℕ) where
    opened_keeps : Keeping cells (played (standing counts (recovery_stores (cells_in area) (word area))) area) log
    opened_keeps =
        same_keeps cells low area log keep _ (played_bytes _ area keep.bytes) (played-length _ area)
        (recovery_keeps area keep.bytes fine counts)

    opened_closed : ((n : ℕ) → 0 < counts n) → Closed (cells_in area) (word (played (standing counts (recovery_stores (cells_in area) (word area))) area))
    opened_closed all =
        subst (Closed (cells_in area)) (sym (recovery_words area keep.bytes fine counts))
        (recovery_closed (cells_in area) (area_cells area fine).some (word area) counts all)

  -- any part of its stores, also of none where it is refused
  pub cut_recovery_keeps : (r : CutRecovery) → Keeping cells (area_again area r) log
  unfolding area_cut log_stores standing played
  cut_recovery_keeps r =
      by_refusal (λ (t : List Store). Keeping cells (played (standing r.counts t) area) log)
      (log_recover_fault area (length r.at) (length r.value)) (recovery_stores (cells_in area) (word area)) [] (opened_keeps r.counts) keep

  abbrev opening : List Store
  opening = recovery_stores (cells_in area) (word area)

  -- all of them
  all_opened : (P : List ℕ → Type 0)
      → P (played (standing (λ n. suc (length (recovery_stores (cells_in area) (word area)))) (recovery_stores (cells_in area) (word area))) area)
      → P (played (recovery_stores (cells_in area) (word area)) area)
  all_opened P p = subst (λ (t : List Store). P (played t area)) (all-made opening (λ n. suc (length opening)) (λ n. omega arith)) p

  opened_all_keeps : Keeping cells (played opening area) log
  opened_all_keeps = all_opened (λ a. Keeping cells a log) (opened_keeps (λ n. suc (length opening)))

  opened_all_closed : Closed (cells_in area) (word (played opening area))
  opened_all_closed = all_opened (λ a. Closed (cells_in area) (word a)) (opened_closed (λ n. suc (length opening)) (λ n. omega arith))

  pub recovery_done_keeps : (at value : List ℕ) → Keeping cells (area_done area (a_recovery at value)) log
  unfolding area_done log_stores played
  recovery_done_keeps at value =
      by_refusal (λ (t : List Store). Keeping cells (played t area) log) (log_recover_fault area (length at) (length value)) opening [] opened_all_keeps keep

  pub recovery_done_closed : Closed (cells_in area) (word area) → (at value : List ℕ) → Closed (cells_in area) (word (area_done area (a_recovery at value)))
  unfolding area_done log_stores played
  recovery_done_closed closed at value =
      by_refusal (λ (t : List Store). Closed (cells_in area) (word (played t area))) (log_recover_fault area (length at) (length value)) opening []
      opened_all_closed closed

  pub restart_closed : (at value : List ℕ) → cells ≤ length at → cells ≤ length value → Closed (cells_in area) (word (area_done area (a_recovery at value)))
  unfolding area_done log_stores
  restart_closed at value p q =
      subst (λ (t : List Store). Closed (cells_in area) (word (played t area)))
      (sym
      (taken_leaves opening [] (log_recover_fault area (length at) (length value))
      (recovery_accepted cells low area log keep.shows.size (length at) (length value) p q)))
      opened_all_closed

  -- ---- the last number

  -- with lists that are long enough recovery answers it, whatever is held
  pub restart_last : (held : ℕ) (at value : List ℕ) → cells ≤ length at → cells ≤ length value → last_after_call area held (a_recovery at value) ≡ length log
  unfolding last_after_call log_recover_result
  restart_last held at value p q =
      number_handed held (log_recover_fault area (length at) (length value)) _ opening at value
      ∙ taken_leaves _ held (log_recover_fault area (length at) (length value))
      (recovery_accepted cells low area log keep.shows.size (length at) (length value) p q)
      ∙ top_in cells low area log keep

  recovery_last : (last : ℕ) → last ≡ length log → (at value : List ℕ) → last_after_call area last (a_recovery at value) ≡ length log
  unfolding last_after_call log_recover_result
  recovery_last last e at value =
      number_handed last (log_recover_fault area (length at) (length value)) _ opening at value
      ∙ by_refusal (λ (n : ℕ). n ≡ length log) (log_recover_fault area (length at) (length value)) _ last (top_in cells low area log keep) e

  -- ---- append

  module _ (message at value : List ℕ) (are-bytes : AreBytes message) (closed : Closed (cells_in area) (word area)) where
    abbrev ss : List Store
    ss = append_stores (cells_in area) (word area) message

    -- refused: nothing changes
    module _ (ne : append_fault area message (length at) (length value) ≡ 0 → ⊥) where
      refused_stores : log_stores area (an_append message at value) ≡ []
      unfolding log_stores
      refused_stores = refused_keeps ss [] (append_fault area message (length at) (length value)) ne

      refused_plain : (missing : Bool) → plain_append (refuses (expected_log_refusal area log (an_append message at value))) missing
          (an_append message at value)
          log ≡ log
      unfolding plain_append refuses
      refused_plain missing =
          pick_true (not (eqb (expected_log_refusal area log (an_append message at value)) 0)) _ _
          (ap not (ne_eqb _ 0 (λ (e : expected_log_refusal area log (an_append message at value) ≡ 0). ne
          (append_due cells low area log keep message at value ∙ e))))

    -- accepted
    module _ (z : append_fault area message (length at) (length value) ≡ 0) where
      ok : Accepted area message
      ok = accepted area message (length at) (length value) z

      taken_stores : log_stores area (an_append message at value) ≡ append_stores (cells_in area) (word area) message
      unfolding log_stores
      taken_stores = taken_leaves ss [] (append_fault area message (length at) (length value)) z

      taken_plain : (missing : Bool)
          → plain_append (refuses (expected_log_refusal area log (an_append message at value))) missing (an_append message at value) log
          ≡ cond missing log (log ++ message ∷ [])
      unfolding plain_append refuses
      taken_plain missing =
          pick_false (not (eqb (expected_log_refusal area log (an_append message at value)) 0)) _ _
          (ap not (eq-eqb _ 0 (sym (append_due cells low area log keep message at value) ∙ z)))

      -- any part of its stores
      part_keeps : (counts : ℕ → ℕ)
          → Keeping cells (played (standing counts (append_stores (cells_in area) (word area) message)) area)
          (cond (is_torn counts (append_stores (cells_in area) (word area) message) (7 * cells_in area)) log (log ++ message ∷ []))
      part_keeps counts = go (is_torn counts ss (7 * cells_in area)) (append_leaves area message keep.bytes are-bytes ok counts closed)
        where
          go : (t : Bool) → AppendLeaves area message (played (standing counts ss) area) t
              → Keeping cells (played (standing counts ss) area) (cond t log (log ++ message ∷ []))
          go true (wholly_absent e) = same_keeps cells low area log keep _ (played_bytes _ area keep.bytes) (played-length _ area) e
          go false (whole_there g) = more_keeps cells low area log keep _ (played_bytes _ area keep.bytes) (played-length _ area) message g

      -- all of them
      abbrev every : ℕ → ℕ
      every n = length ss

      none_torn : is_torn every ss (7 * cells_in area) ≡ false
      unfolding is_torn
      none_torn =
          any_clear (λ k. ltb (length ss) (length (on_line k ss))) 0 (7 * cells_in area)
          (λ i h. le-ltb (length ss) (length (on_line (0 + i) ss)) (on_few (0 + i) ss))

      every_stands : standing every ss ≡ ss
      every_stands = all-made ss every (λ n. omega arith)

      taken_keeps : Keeping cells (played (append_stores (cells_in area) (word area) message) area) (log ++ message ∷ [])
      taken_keeps =
          subst (λ (t : List Store). Keeping cells (played t area) (log ++ message ∷ [])) every_stands
          (subst (Keeping cells (played (standing every ss) area)) (pick_false _ log (log ++ message ∷ []) none_torn) (part_keeps every))

      taken_closed : Closed (cells_in area) (word (played (append_stores (cells_in area) (word area) message) area))
      taken_closed =
          subst (λ (t : List Store). Closed (cells_in area) (word (played t area))) every_stands
          (subst (Closed (cells_in area)) (sym (append_words area message keep.bytes are-bytes ok every))
          (done_closed (cells_in area) (area_cells area fine).some (word area) (λ i. word_range area i keep.bytes) message are-bytes every ok.some
          ok.short
          (all-stand area message keep.bytes are-bytes ok every none_torn) closed))

    append_last : (last : ℕ) → last ≡ length log
        → last_after_call area last (an_append message at value)
        ≡ length (plain_append (refuses (expected_log_refusal area log (an_append message at value))) false (an_append message at value) log)
    unfolding last_after_call append_result
    append_last last e =
        number_handed last fault _ _ at value
        ∙ by_cases (ℕ_discrete fault 0)
        (λ z.
        taken_leaves _ last fault z ∙ next-in cells low area log keep
        ∙ sym (ap length (taken_plain z false) ∙ length-append log (message ∷ []) ∙ omega arith))
        (λ ne. refused_keeps _ last fault ne ∙ e ∙ sym (ap length (refused_plain ne false)))
      where
        fault : ℕ
        fault = append_fault area message (length at) (length value)

    pub append_done_keeps :
        Keeping cells (area_done area (an_append message at value))
        (plain_append (refuses (expected_log_refusal area log (an_append message at value))) false (an_append message at value) log)
    unfolding area_done played
    append_done_keeps =
        by_cases (ℕ_discrete (append_fault area message (length at) (length value)) 0)
        (λ z.
        subst (Keeping cells (area_done area (an_append message at value))) (sym (taken_plain z false))
        (subst (λ (t : List Store). Keeping cells (played t area) (log ++ message ∷ [])) (sym (taken_stores z)) (taken_keeps z)))
        (λ ne.
        subst (Keeping cells (area_done area (an_append message at value))) (sym (refused_plain ne false))
        (subst (λ (t : List Store). Keeping cells (played t area) log) (sym (refused_stores ne)) keep))

    pub append_done_closed : Closed (cells_in area) (word (area_done area (an_append message at value)))
    unfolding area_done played
    append_done_closed =
        by_cases (ℕ_discrete (append_fault area message (length at) (length value)) 0)
        (λ z. subst (λ (t : List Store). Closed (cells_in area) (word (played t area))) (sym (taken_stores z)) (taken_closed z))
        (λ ne. subst (λ (t : List Store). Closed (cells_in area) (word (played t area))) (sym (refused_stores ne)) closed)

    pub append_cut_keeps : (counts : ℕ → ℕ)
        → Keeping cells (area_cut area (an_append message at value) counts)
        (plain_append (refuses (expected_log_refusal area log (an_append message at value)))
        (is_torn counts (log_stores area (an_append message at value)) (7 * cells_in area))
        (an_append message at value) log)
    unfolding area_cut played standing
    append_cut_keeps counts =
        by_cases (ℕ_discrete (append_fault area message (length at) (length value)) 0)
        (λ z.
        subst (Keeping cells (area_cut area (an_append message at value) counts)) (sym (taken_plain z _))
        (subst
        (λ (t : List Store). Keeping cells (played (standing counts t) area) (cond (is_torn counts t (7 * cells_in area)) log (log ++ message ∷ [])))
        (sym (taken_stores z)) (part_keeps z counts)))
        (λ ne.
        subst (Keeping cells (area_cut area (an_append message at value) counts)) (sym (refused_plain ne _))
        (subst (λ (t : List Store). Keeping cells (played (standing counts t) area) log) (sym (refused_stores ne)) keep))

  -- ---- every call

  pub done_keeps : (call : LogCall) → FitsCall call → Closed (cells_in area) (word area)
      → Keeping cells (area_done area call) (plain_append (refuses (expected_log_refusal area log call)) false call log)
  unfolding plain_append area_done log_stores played
  done_keeps (an_append message at value) (append_fits b) closed = append_done_keeps message at value b closed
  done_keeps (a_read number) read_fits closed = keep
  done_keeps (a_recovery at value) recovery_fits closed = recovery_done_keeps at value

  pub done_last : (call : LogCall) → FitsCall call → Closed (cells_in area) (word area) → (last : ℕ) → last ≡ length log
      → last_after_call area last call ≡ length (plain_append (refuses (expected_log_refusal area log call)) false call log)
  unfolding plain_append last_after_call
  done_last (an_append message at value) (append_fits b) closed last e = append_last message at value b closed last e
  done_last (a_read number) read_fits closed last e = e
  done_last (a_recovery at value) recovery_fits closed last e = recovery_last last e at value

  pub done_closed_after : (call : LogCall) → FitsCall call → Closed (cells_in area) (word area) → Closed (cells_in area) (word (area_done area call))
  unfolding area_done log_stores played
  done_closed_after (an_append message at value) (append_fits b) closed = append_done_closed message at value b closed
  done_closed_after (a_read number) read_fits closed = closed
  done_closed_after (a_recovery at value) recovery_fits closed = recovery_done_closed closed at value

  pub cut_keeps : (call : LogCall) (counts : ℕ → ℕ) → FitsCall call → Closed (cells_in area) (word area)
      → Keeping cells (area_cut area call counts)
      (plain_append (refuses (expected_log_refusal area log call)) (is_torn counts (log_stores area call) (7 * cells_in area)) call log)
  unfolding plain_append area_cut log_stores played standing
  cut_keeps (an_append message at value) counts (append_fits b) closed = append_cut_keeps message at value b closed counts
  cut_keeps (a_read number) counts read_fits closed = keep
  cut_keeps (a_recovery at value) counts recovery_fits closed = cut_recovery_keeps (record { at = at; value = value; counts = counts })

-- the recoveries that are cut again
pub again_keeps : (cells : ℕ) → 2 ≤ cells → (rs : List CutRecovery) (area : List ℕ) (log : Messages) → Keeping cells area log
    → Keeping cells (area_after_all area rs) log
unfolding area_after_all
again_keeps cells low [] area log keep = keep
again_keeps cells low (r ∷ rs) area log keep = again_keeps cells low rs (area_again area r) log (cut_recovery_keeps cells low area log keep r)
