-- THE RESTART RULE OF THE LOG, from what each call keeps. Assumes nothing.
use mathlib.Core.Path.{◌≡◌, refl, sym, ap, ◌∙◌, subst}
use mathlib.Core.Bool.{Bool, true, false, cond, not}
use mathlib.Core.Logic.{◌⊎◌, inl, inr, by_cases}
use mathlib.Core.List.{List, [], ◌∷◌}
use Prim.Native.Nat.{ℕ, ◌+◌, ◌*◌, ◌/◌, ◌≤◌, ◌<◌}
use native.Mathlib.Decide.{dec_lt, ℕ_discrete}
use native.Mathlib.Omega.{arith}
use lib.ListN.{length}
use lib.Dec.{ltb}
use borrow.Author.Tests.{le-ltb, lt-ltb}
use Rattle.prelude.specs.Answer.{refuses}
use Rattle.prelude.specs.Members.{All, none_left, one_more}
use Rattle.prelude.proofs.Any.{any_none, any_clear}
use Rattle.prelude.proofs.Choice.{split, true-false}
use Rattle.prelude.proofs.Refusals.{taken_leaves, refused_keeps, by_refusal}
use Rattle.words.specs.Word.{word}
use Rattle.stores.specs.Store.{Store, played, standing, all_stand, on_line}
use Rattle.stores.proofs.defs.Cut.{StoresInside, nil_in, cons_in}
use Rattle.stores.proofs.StandingStores.{on_miss}
use Rattle.stores.proofs.AllStand.{stand_lines, lines_stand}
use Rattle.message_log.specs.Area.{cells_in}
use Rattle.message_log.specs.Append.{append_stores, append_fault}
use Rattle.message_log.specs.Recover.{recovery_stores, log_recover_fault}
use Rattle.message_log.specs.Event.{LogCall, an_append, a_read, a_recovery, log_stores, area_done, area_cut, Messages, expected_log_refusal, is_torn}
use Rattle.message_log.specs.Event.{plain_append, FitsCall}
use Rattle.message_log.specs.Event.{append_fits, read_fits, recovery_fits}
use Rattle.message_log.proofs.Inside.{accepted, append_inside_area, recovery_inside_area}
use Rattle.message_log.proofs.Claims.{Keeping, cells_fine, call_right, call_after_right}
use Rattle.message_log.proofs.Events.{done_keeps, done_last, done_closed_after, cut_keeps, cut_recovery_keeps, recovery_done_keeps, restart_closed}
use Rattle.message_log.proofs.Events.{restart_last}
use Rattle.message_log.proofs.LogRule.{Good, closed_by, closed_in, blank_good}
use Rattle.restart_machine.proofs.defs.Laws.{Inside, Laws}
use Rattle.restart_machine.proofs.RestartRule.{restart_rule}
use Rattle.log_restart.specs.Log.{LentLists, LogRequest, log_library, log_promise, LogRestartRule}
use Rattle.log_restart.specs.LogAfter.{log_library_after, log_promise_after, LogRestartRuleAfter}

-- ---- an append is torn where not all its stores stand

off_line : (ss : List Store) (n k : ℕ) → All (λ (s : Store). s.word / 8 < n) ss → n ≤ k → length (on_line k ss) ≤ 0
unfolding on_line
off_line [] n k none_left h = omega arith
off_line (s ∷ ss) n k (one_more p ps) h =
    omega (arith, off_line ss n k ps h, ap (λ (t : List Store). length t) (on_miss k s ss (λ (e : s.word / 8 ≡ k). omega arith)))

module _ (counts : ℕ → ℕ) (ss : List Store) (n : ℕ) (below : All (λ (s : Store). s.word / 8 < n) ss) where
  abbrev short : ℕ → Bool
  short k = ltb (counts k) (length (on_line k ss))

  torn_stands : is_torn counts ss n ≡ not (all_stand counts ss)
  unfolding is_torn
  torn_stands = go (all_stand counts ss) refl (split (is_torn counts ss n))
    where
      each : is_torn counts ss n ≡ false → (k : ℕ) → length (on_line k ss) ≤ counts k
      each e k =
          by_cases (dec_lt k n)
          (λ h.
          by_cases (dec_lt (counts k) (length (on_line k ss)))
          (λ q. absurd (true-false (lt-ltb (counts k) (length (on_line k ss)) q) (let z : k ≡ 0 + k = omega arith in ap short z ∙ any_none short 0 n e k h)))
          (λ q. omega arith))
          (λ h. omega (arith, off_line ss n k below (omega arith)))

      go : (b : Bool) → all_stand counts ss ≡ b → (is_torn counts ss n ≡ true) ⊎ (is_torn counts ss n ≡ false) → is_torn counts ss n ≡ not b
      go true e t = any_clear short 0 n (λ i h. le-ltb (counts (0 + i)) (length (on_line (0 + i) ss)) (stand_lines counts ss e (0 + i)))
      go false e (inl t) = t
      go false e (inr t) = absurd (true-false (lines_stand counts ss (each t)) e)

-- and then the plain list stays as it is
torn_plain : (torn stand is_refused : Bool) (call : LogCall) (log : Messages) → torn ≡ not stand
    → plain_append is_refused torn call log ≡ cond stand (plain_append is_refused false call log) log
unfolding plain_append
torn_plain torn true is_refused call log e = ap (λ (b : Bool). plain_append is_refused b call log) e
torn_plain torn false is_refused call log e = ap (λ (b : Bool). plain_append is_refused b call log) e ∙ absent is_refused call
  where
    absent : (is_refused : Bool) (call : LogCall) → plain_append is_refused true call log ≡ log
    absent true (an_append message at value) = refl
    absent false (an_append message at value) = refl
    absent is_refused (a_read number) = refl
    absent is_refused (a_recovery at value) = refl

-- ---- the stores of a call are inside the area

words_inside : (n : ℕ) (ss : List Store) → StoresInside n ss → Inside n ss
words_inside n [] nil_in = none_left
words_inside n (s ∷ ss) (cons_in p b r) = one_more p (words_inside n ss r)

module _ (cells : ℕ) (low : 2 ≤ cells) where
  call_inside : (area : List ℕ) (log : Messages) → Keeping cells area log → (call : LogCall) → FitsCall call → StoresInside (length area) (log_stores area call)
  unfolding log_stores
  call_inside area log keep (an_append message at value) (append_fits are-bytes) =
      let fault = append_fault area message (length at) (length value) in
      by_cases (ℕ_discrete fault 0)
      (λ z.
      subst (StoresInside (length area)) (sym (taken_leaves (append_stores (cells_in area) (word area) message) [] fault z))
      (append_inside_area area message keep.bytes are-bytes (accepted area message (length at) (length value) z)))
      (λ ne. subst (StoresInside (length area)) (sym (refused_keeps (append_stores (cells_in area) (word area) message) [] fault ne)) nil_in)
  call_inside area log keep (a_read number) read_fits = nil_in
  call_inside area log keep (a_recovery at value) recovery_fits =
      by_refusal (StoresInside (length area)) (log_recover_fault area (length at) (length value)) (recovery_stores (cells_in area) (word area)) []
      (recovery_inside_area area (cells_fine cells low area log keep.shows.size)) nil_in

  lines_below : (area : List ℕ) (log : Messages) → Keeping cells area log → (ss : List Store) → StoresInside (length area) ss
      → All (λ (s : Store). s.word / 8 < 7 * cells_in area) ss
  lines_below area log keep [] nil_in = none_left
  lines_below area log keep (s ∷ ss) (cons_in p b r) =
      one_more {x = s} (omega (arith, p, keep.size, keep.shows.size)) (lines_below area log keep ss r)

  -- any part of a call's stores
  part_keeps : (area : List ℕ) (log : Messages) → Good cells area log → (call : LogCall) → FitsCall call → (counts : ℕ → ℕ)
      → Keeping cells (played (standing counts (log_stores area call)) area)
      (cond (all_stand counts (log_stores area call)) (plain_append (refuses (expected_log_refusal area log call)) false call log) log)
  unfolding area_cut
  part_keeps area log good call fits counts =
      subst (Keeping cells (played (standing counts (log_stores area call)) area))
      (torn_plain _ (all_stand counts (log_stores area call)) (refuses (expected_log_refusal area log call)) call log
      (torn_stands counts (log_stores area call) (7 * cells_in area)
      (lines_below area log good.keep (log_stores area call) (call_inside area log good.keep call fits))))
      (cut_keeps cells low area log good.keep call counts fits (closed_in cells low area log good))

  -- a good area is kept
  recovery_good : (area : List ℕ) (log : Messages) → Keeping cells area log → (lent : LentLists cells)
      → Good cells (played (log_stores area (a_recovery lent.at lent.value)) area) log
  unfolding area_done
  recovery_good area log keep lent =
      record {
        keep = recovery_done_keeps cells low area log keep lent.at lent.value;
        closed = closed_by cells low area _ log keep (restart_closed cells low area log keep lent.at lent.value lent.enough.0 lent.enough.1);
      }

  request_good : (area : List ℕ) (log : Messages) → Good cells area log → (asked : LogRequest)
      → Good cells (played (log_stores area asked.call) area) (plain_append (refuses (expected_log_refusal area log asked.call)) false asked.call log)
  unfolding area_done
  request_good area log good asked =
      let closed = closed_in cells low area log good in
      record {
        keep = done_keeps cells low area log good.keep asked.call asked.fits closed;
        closed = closed_by cells low area _ log good.keep (done_closed_after cells low area log good.keep asked.call asked.fits closed);
      }

  -- THE LAWS of the log as a library of the machine
  library_laws : Laws (log_library cells) (log_promise cells) (Keeping cells) (λ area held log. Good cells area log)
  unfolding area_cut
  library_laws =
      record {
        recovers = λ area log keep. keep.shows;
        recovery_right = λ area log keep lent. call_right cells low area log keep (a_recovery lent.at lent.value) recovery_fits;
        recovery_inside = λ area log keep lent.
            words_inside (length area) _ (call_inside area log keep (a_recovery lent.at lent.value) recovery_fits);
        recovery_part = λ area log keep lent counts.
            cut_recovery_keeps cells low area log keep (record { at = lent.at; value = lent.value; counts = counts });
        recovery_done = recovery_good;
        use_ready = λ area held log good. good.keep;
        request_right = λ area held log good asked. call_right cells low area log good.keep asked.call asked.fits;
        request_inside = λ area held log good asked. words_inside (length area) _ (call_inside area log good.keep asked.call asked.fits);
        request_part = λ area held log good asked counts. part_keeps area log good asked.call asked.fits counts;
        request_done = λ area held log good asked. request_good area log good asked;
      }

  -- and with what the program holds, which counts the messages
  abbrev InUse : (area : List ℕ) → (held : ℕ) → Messages → Type 0
  InUse area held log = Good cells area log × (held ≡ length log)

  library_laws_after : Laws (log_library_after cells) (log_promise_after cells) (Keeping cells) InUse
  unfolding area_cut
  library_laws_after =
      record {
        recovers = λ area log keep. keep.shows;
        recovery_right = λ area log keep lent. call_right cells low area log keep (a_recovery lent.at lent.value) recovery_fits;
        recovery_inside = λ area log keep lent.
            words_inside (length area) _ (call_inside area log keep (a_recovery lent.at lent.value) recovery_fits);
        recovery_part = λ area log keep lent counts.
            cut_recovery_keeps cells low area log keep (record { at = lent.at; value = lent.value; counts = counts });
        recovery_done = λ area log keep lent. (
          recovery_good area log keep lent,
          restart_last cells low area log keep 0 lent.at lent.value lent.enough.0 lent.enough.1,
        );
        use_ready = λ area held log good. good.0.keep;
        request_right = λ area held log good asked. call_after_right cells low area log good.0.keep held good.1 asked.call asked.fits;
        request_inside = λ area held log good asked. words_inside (length area) _ (call_inside area log good.0.keep asked.call asked.fits);
        request_part = λ area held log good asked counts. part_keeps area log good.0 asked.call asked.fits counts;
        request_done = λ area held log good asked. (
          request_good area log good.0 asked,
          done_last cells low area log good.0.keep asked.call asked.fits (closed_in cells low area log good.0) held good.1,
        );
      }

-- THE RESTART RULE OF THE LOG
pub log_restart_rule : LogRestartRule
log_restart_rule cells low high d done =
    restart_rule (log_promise cells) (log_library cells) _ _ (library_laws cells low) d done _ [] (blank_good cells low high).keep

-- and with append_after
pub log_restart_rule_after : LogRestartRuleAfter
log_restart_rule_after cells low high d done =
    restart_rule (log_promise_after cells) (log_library_after cells) _ _ (library_laws_after cells low) d done _ [] (blank_good cells low high).keep
