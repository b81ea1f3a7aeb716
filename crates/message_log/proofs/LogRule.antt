-- THE LOG RULE, proved by the one induction over lists. Assumes nothing.
use mathlib.Core.Path.{◌≡◌, refl, sym, ap, ◌∙◌, subst}
use mathlib.Core.Bool.{true}
use mathlib.Core.Logic.{inl}
use mathlib.Core.List.{List, [], ◌∷◌}
use Prim.Native.Nat.{ℕ, ◌+◌, ◌*◌, ◌%◌, ◌≤◌}
use native.Mathlib.Omega.{arith}
use lib.ListN.{length, replicate, length-replicate}
use Rattle.prelude.specs.Members.{All, none_left, one_more}
use Rattle.prelude.proofs.Choice.{same_test, both_left}
use Rattle.prelude.proofs.Fills.{zeros}
use Rattle.prelude.proofs.Histories.{throughout}
use Rattle.words.specs.Word.{word}
use Rattle.message_log.specs.Area.{cells_of, cells_in}
use Rattle.message_log.specs.Message.{is_complete, highest, in_window, shown}
use Rattle.message_log.specs.Event.{LogCall, a_recovery, CutRecovery, LogRestart, LogEvent, call_done, call_cut, area_done, area_cut, area_after_all}
use Rattle.message_log.specs.Event.{area_after}
use Rattle.message_log.specs.Event.{Messages, is_missing, messages_after, FitsCall, recovery_fits, FitsEvent, done_fits, cut_fits}
use Rattle.message_log.specs.Rule.{RestartCorrect, EventCorrect, LogHolds, LogRule}
use Rattle.message_log.specs.RuleAfter.{last_after, LogState, state_after, EventAfterCorrect, LogHoldsAfter, LogRuleAfter}
use Rattle.message_log.specs.Laws.{Closed}
use Rattle.message_log.proofs.Cells.{held, highest_by, window}
use Rattle.message_log.proofs.Parts.{cells_sized}
use Rattle.message_log.proofs.Claims.{Keeping, shows_by, call_right, call_after_right, standing_plays}
use Rattle.message_log.proofs.Events.{done_keeps, done_last, done_closed_after, cut_keeps, again_keeps, cut_recovery_keeps, recovery_done_keeps, restart_closed}
use Rattle.message_log.proofs.Events.{restart_last}

-- between events: the list is shown, and no whole marked line is above the highest complete number
pub record Good (cells : ℕ) (area : List ℕ) (log : Messages) : Type 0 where
  pub keep : Keeping cells area log
  pub closed : Closed cells (word area)

-- every element of a list of anything
all_any : (rs : List CutRecovery) → All (λ r. Unit) rs
all_any [] = none_left
all_any (r ∷ rs) = one_more tt (all_any rs)

module _ (cells : ℕ) (low : 2 ≤ cells) where
  -- closed, by the cells of the area that it was
  pub closed_by : (area area' : List ℕ) (log : Messages) → Keeping cells area log → Closed (cells_in area) (word area') → Closed cells (word area')
  closed_by area area' log keep c = subst (λ (k : ℕ). Closed k (word area')) keep.shows.size c

  pub closed_in : (area : List ℕ) (log : Messages) → Good cells area log → Closed (cells_in area) (word area)
  closed_in area log good = subst (λ (k : ℕ). Closed k (word area)) (sym good.keep.shows.size) good.closed

  -- ---- a restart

  module _ (area : List ℕ) (log : Messages) (keep : Keeping cells area log) (restart : LogRestart) where
    abbrev last : List ℕ
    last = area_after_all area restart.again

    last_keeps : Keeping cells last log
    last_keeps = again_keeps cells low restart.again area log keep

    restart_right : RestartCorrect cells area log restart
    restart_right = (
      throughout _ _ _ _ (Keeping cells) (λ r. Unit) (λ a l k. k.shows)
          (λ a l k r u. (
            call_right cells low a l k (a_recovery r.at r.value) recovery_fits,
            standing_plays cells low a l k (a_recovery r.at r.value) recovery_fits r.counts,
          ))
          (λ a l k r u. cut_recovery_keeps cells low a l k r) area log restart.again keep (all_any restart.again),
      call_right cells low last log last_keeps (a_recovery restart.at restart.value) recovery_fits,
    )

    restart_good : cells ≤ length restart.at → cells ≤ length restart.value
        → Good cells (area_done (area_after_all area restart.again) (a_recovery restart.at restart.value)) log
    restart_good p q =
        record {
          keep = recovery_done_keeps cells low last log last_keeps restart.at restart.value;
          closed = closed_by last _ log last_keeps (restart_closed cells low last log last_keeps restart.at restart.value p q);
        }

  -- ---- one event

  module _ (area : List ℕ) (log : Messages) (good : Good cells area log) where
    abbrev keep : Keeping cells area log
    keep = good.keep

    closed : Closed (cells_in area) (word area)
    closed = closed_in area log good

    struck : (call : LogCall) (counts : ℕ → ℕ) (restart : LogRestart) → FitsCall call
        → Keeping cells (area_cut area call counts) (messages_after area log (call_cut call counts restart))
    unfolding is_missing
    struck call counts restart f = cut_keeps cells low area log keep call counts f closed

    event_right : (event : LogEvent) → FitsEvent cells event → EventCorrect cells area log event
    unfolding EventCorrect
    event_right (call_done call) (done_fits f) = call_right cells low area log keep call f
    event_right (call_cut call counts restart) (cut_fits f p q) = (
      call_right cells low area log keep call f,
      restart_right _ _ (struck call counts restart f) restart,
      standing_plays cells low area log keep call f counts,
    )

    event_keeps : (event : LogEvent) → FitsEvent cells event → Good cells (area_after area event) (messages_after area log event)
    unfolding area_after is_missing
    event_keeps (call_done call) (done_fits f) =
        record {
          keep = done_keeps cells low area log keep call f closed;
          closed = closed_by area _ log keep (done_closed_after cells low area log keep call f closed);
        }
    event_keeps (call_cut call counts restart) (cut_fits f p q) = restart_good _ _ (struck call counts restart f) restart p q

  -- EVERY LIST OF EVENTS is right, from any good area
  log_holds : (area : List ℕ) (log : Messages) (events : List LogEvent) → Good cells area log → All (FitsEvent cells) events → LogHolds cells area log events
  log_holds area log events good fit =
      throughout _ _ _ _ (Good cells) (FitsEvent cells) (λ a l g. g.keep.shows) event_right event_keeps area log events good fit

  -- ---- the same with the last number, which counts the messages

  abbrev InUse : LogState → Messages → Type 0
  InUse s log = Good cells s.area log × (s.last ≡ length log)

  module _ (s : LogState) (log : Messages) (in_use : InUse s log) where
    after_right : (event : LogEvent) → FitsEvent cells event → EventAfterCorrect cells s log event
    unfolding EventAfterCorrect
    after_right (call_done call) (done_fits f) = call_after_right cells low s.area log in_use.0.keep s.last in_use.1 call f
    after_right (call_cut call counts restart) (cut_fits f p q) = (
      call_after_right cells low s.area log in_use.0.keep s.last in_use.1 call f,
      restart_right _ _ (struck s.area log in_use.0 call counts restart f) restart,
      standing_plays cells low s.area log in_use.0.keep call f counts,
    )

    last_counts : (event : LogEvent) → FitsEvent cells event → last_after s.area s.last event ≡ length (messages_after s.area log event)
    unfolding last_after is_missing
    last_counts (call_done call) (done_fits f) = done_last cells low s.area log in_use.0.keep call f (closed s.area log in_use.0) s.last in_use.1
    last_counts (call_cut call counts restart) (cut_fits f p q) =
        restart_last cells low _ _ (last_keeps _ _ (struck s.area log in_use.0 call counts restart f) restart) 0 restart.at restart.value p q

    after_keeps : (event : LogEvent) → FitsEvent cells event → InUse (state_after s event) (messages_after s.area log event)
    after_keeps event fits = (event_keeps s.area log in_use.0 event fits, last_counts event fits)

  log_holds_after : (s : LogState) (log : Messages) (events : List LogEvent) → InUse s log → All (FitsEvent cells) events → LogHoldsAfter cells s log events
  log_holds_after s log events in_use fit =
      throughout _ _ _ _ InUse (FitsEvent cells) (λ a l u. record { shows = u.0.keep.shows; counted = u.1 }) after_right after_keeps s log events in_use fit

-- ---- an area of zeros

zero_word : (n i : ℕ) → word (replicate n 0) i ≡ 0
unfolding word
zero_word n i = simp (zeros n)

module _ (cells : ℕ) (low : 2 ≤ cells) (high : cells ≤ 1000) where
  abbrev blank : List ℕ
  blank = replicate (448 * cells) 0

  sized : cells_in blank ≡ cells
  sized = ap cells_of (length-replicate (448 * cells) 0) ∙ cells_sized cells low high

  none_above : (s : ℕ) → is_complete cells (word blank) s ≡ true → s ≤ 0
  none_above s e = omega (arith, (held (word blank) (s % cells) s e).version, zero_word (448 * cells) (8 * (7 * (s % cells)) + 7 % 8))

  none_highest : highest cells (word blank) ≡ 0
  none_highest = highest_by cells (word blank) (omega arith) 0 (record { above = none_above; reached = inl refl })

  no_window : (s : ℕ) → in_window cells 0 s ≡ true → ⊥
  no_window s e = let w = window cells 0 s e in omega (arith, w.low, w.high)

  none_shown : (s : ℕ) → shown cells (word blank) s ≡ in_window cells 0 s
  unfolding shown
  none_shown s =
      same_test (shown cells (word blank) s) (in_window cells 0 s)
      (λ e. ap (λ (n : ℕ). in_window cells n s) (sym none_highest)
      ∙ both_left (in_window cells (highest cells (word blank)) s) (is_complete cells (word blank) s) e)
      (λ e. absurd (no_window s e))

  pub blank_good : Good cells (replicate (448 * cells) 0) []
  blank_good =
      record {
        keep = record {
          size = length-replicate (448 * cells) 0;
          bytes = λ k. omega (arith, zeros (448 * cells) k);
          shows = shows_by cells low blank [] sized none_highest none_shown (λ s e. absurd (no_window s e));
        };
        closed = λ c l w. omega (arith, none_highest, zero_word (448 * cells) (8 * (7 * c) + 7 % 8));
      }

-- THE LOG RULE
pub log_rule : LogRule
log_rule cells low high events fit = log_holds cells low _ [] events (blank_good cells low high) fit

-- THE LOG RULE WITH append_after
pub log_rule_after : LogRuleAfter
log_rule_after cells low high events fit = log_holds_after cells low _ [] events (blank_good cells low high, refl) fit
