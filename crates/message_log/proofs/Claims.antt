-- An area that shows the plain list: each call answers as the plain machine does, and what keeps the list or adds a message to it. Assumes nothing.
use mathlib.Core.Path.{◌≡◌, refl, sym, ap, ap₂, ◌∙◌, subst}
use mathlib.Core.Bool.{Bool, true, false, cond, not}
use mathlib.Core.Logic.{◌⊎◌, inl, inr, by_cases}
use mathlib.Core.List.{List, [], ◌∷◌, ◌++◌}
use Prim.Native.Nat.{ℕ, zero, suc, ◌+◌, ◌-◌, ◌*◌, ◌≤◌, ◌<◌}
use native.Mathlib.Decide.{dec_lt, ℕ_discrete}
use native.Mathlib.Omega.{arith}
use lib.ListN.{length, get_or, take, drop, length-append, get_or-append}
use lib.Seq.{take_at, get_or_at, take_all, take-suc, drop-nil, drop-append-le, length-take-le}
use lib.Dec.{eqb}
use borrow.Author.Tests.{ne_eqb, le-ltb}
use Rattle.prelude.specs.Refusal.{refuse_if, or_else, unless_refused}
use Rattle.prelude.specs.Answer.{gives, refusal_in}
use Rattle.prelude.proofs.Choice.{pick_true, pick_false, same_test, split, both, both_left}
use Rattle.prelude.proofs.Refusals.{refuse_if-false, or_else_later, taken_leaves}
use Rattle.words.specs.Word.{AreBytes, word}
use Rattle.layout.specs.Line.{version_fault}
use Rattle.stores.specs.Store.{Store, zipped, played}
use Rattle.stores.specs.Play.{play_end, word_numbers, values, play_list_result}
use Rattle.stores.proofs.defs.Cut.{StoresInside, nil_in}
use Rattle.stores.proofs.Bytes.{standing_inside}
use Rattle.stores.proofs.Lists.{zipped_back, numbers-length, values_length, list_inside}
use Rattle.message_log.specs.Area.{cells_of, cells_in, area_fault}
use Rattle.message_log.specs.Message.{is_complete, highest, in_window, shown}
use Rattle.message_log.specs.LogOutcome.{short_fault, LogResult, handing, LogListResult, handing_list}
use Rattle.message_log.specs.AppendAfter.{append_after_result}
use Rattle.message_log.specs.Append.{message_fault, next_message, append_stores, append_fault, append_result}
use Rattle.message_log.specs.Recover.{recovery_stores, log_recover_fault, log_recover_result, log_recover_list_result}
use Rattle.message_log.specs.Read.{read_fault, read_part, read_end, read_result, part_result}
use Rattle.message_log.specs.Event.{LogCall, an_append, a_read, a_recovery, log_stores, area_done, area_cut, Messages, expected_log_refusal, FitsCall}
use Rattle.message_log.specs.Event.{append_fits}
use Rattle.message_log.specs.Event.{read_fits, recovery_fits}
use Rattle.message_log.specs.Rule.{shown_up_to, shown_messages, last_messages, PartHolds, Shows, count_given, HandsOut}
use Rattle.message_log.specs.Rule.{LogCallCorrect, StandingPlays}
use Rattle.message_log.specs.RuleAfter.{LogCallAfterCorrect}
use Rattle.message_log.specs.Laws.{ShowsSame, ShowsMore}
use Rattle.message_log.proofs.Cells.{Window, window, in-window}
use Rattle.message_log.proofs.Invalidations.{recovery_few}
use Rattle.message_log.proofs.Parts.{read-fault, read_hidden}
use Rattle.message_log.proofs.Readings.{part_holds, no_part}
use Rattle.message_log.proofs.Lists.{append_agrees, recovery_agrees}
use Rattle.message_log.proofs.Inside.{accepted, append_inside_area, recovery_inside_area}
use Rattle.message_log.proofs.AppendAfter.{after_highest}

-- an area of `cells` cells that shows the last messages of the list
pub record Keeping (cells : ℕ) (area : List ℕ) (log : Messages) : Type 0 where
  pub size : length area ≡ 448 * cells
  pub bytes : AreBytes area
  pub shows : Shows cells area log

-- ---- the messages shown, by their numbers

module _ (cells : ℕ) (low : 2 ≤ cells) (area : List ℕ) (log : Messages)
    (numbers : (s : ℕ) → shown cells (word area) s ≡ in_window cells (length log) s)
    (bytes : (s : ℕ) → in_window cells (length log) s ≡ true → read_part area s ≡ get_or log (s - 1) []) where
  abbrev d : ℕ
  d = length log - (cells - 1)

  near : (n : ℕ) → n < length log → d ≤ n → in_window cells (length log) (suc n) ≡ true
  near n h l = in-window cells (length log) (suc n) (record { low = omega arith; high = omega arith; near = omega arith })

  far : (n : ℕ) → n < d → shown cells (word area) (suc n) ≡ false
  far n h = numbers (suc n) ∙ go (split (in_window cells (length log) (suc n)))
    where
      go : (in_window cells (length log) (suc n) ≡ true) ⊎ (in_window cells (length log) (suc n) ≡ false) → in_window cells (length log) (suc n) ≡ false
      go (inl e) = let w = window cells (length log) (suc n) e in absurd (omega (arith, w.near, w.high))
      go (inr e) = e

  take_short : (n : ℕ) (l : Messages) → length (take n l) ≤ n
  take_short zero l = omega arith
  take_short (suc n) [] = omega arith
  take_short (suc n) (x ∷ l) = omega (arith, take_short n l)

  none_dropped : (n : ℕ) → n ≤ d → drop d (take n log) ≡ []
  none_dropped n h = drop_over d (take n log) (omega (arith, take_short n log))
    where
      drop_over : (k : ℕ) (l : Messages) → length l ≤ k → drop k l ≡ []
      drop_over k [] h = drop-nil k
      drop_over zero (x ∷ l) h = absurd (omega arith)
      drop_over (suc k) (x ∷ l) h = drop_over k l (omega arith)

  up_to : (n : ℕ) → n ≤ length log → shown_up_to cells area n ≡ drop d (take n log)
  unfolding shown_up_to
  up_to zero h = sym (drop-nil d)
  up_to (suc n) h = by_cases (dec_lt n d) (older (up_to n (omega arith))) (newer (up_to n (omega arith)))
    where
      older : shown_up_to cells area n ≡ drop d (take n log) → n < d
          → shown_up_to cells area n ++ cond (shown cells (word area) (suc n)) (read_part area (suc n) ∷ []) [] ≡ drop d (take (suc n) log)
      older ih l =
          ap₂ (λ (x y : Messages). x ++ y) (ih ∙ none_dropped n (omega arith)) (pick_false (shown cells (word area) (suc n)) _ _ (far n l))
          ∙ sym (none_dropped (suc n) (omega arith))

      newer : shown_up_to cells area n ≡ drop d (take n log) → (n < d → ⊥)
          → shown_up_to cells area n ++ cond (shown cells (word area) (suc n)) (read_part area (suc n) ∷ []) [] ≡ drop d (take (suc n) log)
      newer ih l =
          let w = near n (omega arith) (omega arith) in
          ap₂ (λ (x y : Messages). x ++ y) ih
          (pick_true (shown cells (word area) (suc n)) _ _ (numbers (suc n) ∙ w)
          ∙ ap (λ (x : List ℕ). x ∷ []) (bytes (suc n) w ∙ ap (λ (k : ℕ). get_or log k []) (let z : suc n - 1 ≡ n = omega arith in z)))
          ∙ sym (ap (drop d) (take-suc log n [] (omega arith))
          ∙ drop-append-le d (take n log) (get_or log n [] ∷ []) (omega (arith, length-take-le n log (omega arith))))

  list_shown : highest cells (word area) ≡ length log → shown_messages cells area ≡ last_messages (cells - 1) log
  unfolding shown_messages last_messages
  list_shown top = ap (shown_up_to cells area) top ∙ up_to (length log) (omega arith) ∙ ap (drop d) (take_all (length log) log (omega arith))

-- ---- all that is claimed of such an area

module _ (cells : ℕ) (low : 2 ≤ cells) (area : List ℕ) (log : Messages) (size : cells_in area ≡ cells) where
  pub cells_fine : area_fault area ≡ 0
  unfolding area_fault
  cells_fine = refuse_if-false (eqb (cells_in area) 0) 30 0 (ne_eqb _ _ (λ (e : cells_in area ≡ 0). omega (arith, size)))

  -- with lists of K entries recovery is not refused
  pub recovery_accepted : (ats vals : ℕ) → cells ≤ ats → cells ≤ vals → log_recover_fault area ats vals ≡ 0
  unfolding log_recover_fault short_fault
  recovery_accepted ats vals p q =
      or_else_later (area_fault area) _ cells_fine
      ∙ refuse_if-false _ 13 _ (le-ltb ats (length (recovery_stores (cells_in area) (word area))) (omega (arith, few)))
      ∙ refuse_if-false _ 13 0 (le-ltb vals (length (recovery_stores (cells_in area) (word area))) (omega (arith, few)))
    where
      few : length (recovery_stores (cells_in area) (word area)) ≤ cells
      few = omega (arith, size, recovery_few (cells_in area) (word area))

  accepts : (at value : List ℕ) → cells ≤ length at → cells ≤ length value → refusal_in (log_recover_result area at value).answer ≡ 0
  unfolding log_recover_result handing refusal_in
  accepts at value p q =
      ap (λ (r : LogResult). refusal_in r.answer)
      (taken_leaves _ _ (log_recover_fault area (length at) (length value)) (recovery_accepted (length at) (length value) p q))

  accepts_list : (list : List Store) → cells ≤ length list → refusal_in (log_recover_list_result area list).answer ≡ 0
  unfolding log_recover_list_result handing_list refusal_in
  accepts_list list p =
      ap (λ (r : LogListResult). refusal_in r.answer)
      (taken_leaves _ _ (log_recover_fault area (length list) (length list)) (recovery_accepted (length list) (length list) p p))

  pub shows_by : highest cells (word area) ≡ length log → ((s : ℕ) → shown cells (word area) s ≡ in_window cells (length log) s)
      → ((s : ℕ) → in_window cells (length log) s ≡ true → read_part area s ≡ get_or log (s - 1) []) → Shows cells area log
  shows_by top numbers bytes =
      record {
        size = size;
        messages = list_shown cells low area log numbers bytes top;
        top = top;
        numbers = numbers;
        bytes = bytes;
        parts = λ s e. subst (λ (t : List ℕ). PartHolds area t (part_result area s)) (bytes s e) (part_holds area cells_fine s (by_size s ∙ e));
        hidden = λ s e. no_part area cells_fine s (by_size s ∙ e);
        recovers = accepts;
        recovers_list = accepts_list;
      }
    where
      by_size : (s : ℕ) → shown (cells_in area) (word area) s ≡ in_window cells (length log) s
      by_size s = ap (λ (k : ℕ). shown k (word area) s) size ∙ numbers s

-- ---- what a call that hands out stores leaves

module _ (area : List ℕ) (call : LogCall) (ss : List Store) (at value : List ℕ) where
  hands : (f number : ℕ) → log_stores area call ≡ unless_refused f ss [] → (f ≡ 0 → StoresInside (length area) ss)
      → HandsOut area call f number (handing f number ss at value)
  unfolding handing count_given unless_refused area_done zipped word_numbers values
  hands zero number e inside =
      record {
        answer = ap (λ (t : List Store). gives (number ∷ length t ∷ [])) (sym e);
        stores = ap₂ zipped fronts_at fronts_value ∙ zipped_back ss ∙ sym e;
        plays = ap₂ (play_list_result area) fronts_at fronts_value ∙ list_inside area ss (inside refl)
            ∙ ap (λ (t : List Store). play_end 0 (played t area)) (sym e);
      }
    where
      fronts_at : take (length ss) (word_numbers ss ++ drop (length ss) at) ≡ word_numbers ss
      fronts_at = take_at (word_numbers ss) (drop (length ss) at) (length ss) (numbers-length ss)

      fronts_value : take (length ss) (values ss ++ drop (length ss) value) ≡ values ss
      fronts_value = take_at (values ss) (drop (length ss) value) (length ss) (values_length ss)
  hands (suc f) number e inside =
      record {
        answer = refl;
        stores = sym e;
        plays = list_inside area [] nil_in ∙ ap (λ (t : List Store). play_end 0 (played t area)) (sym e);
      }

  -- by the plain machine's refusal and number
  hands_due : (f number due due-number : ℕ) → f ≡ due → number ≡ due-number → log_stores area call ≡ unless_refused f ss []
      → (f ≡ 0 → StoresInside (length area) ss) → HandsOut area call due due-number (handing f number ss at value)
  hands_due f number due due-number p q e inside =
      subst (λ (x : ℕ). HandsOut area call x due-number (handing f number ss at value)) p
      (subst (λ (x : ℕ). HandsOut area call f x (handing f number ss at value)) q (hands f number e inside))

-- ---- each call

inside_unless : {n : ℕ} (f : ℕ) (ss : List Store) → (f ≡ 0 → StoresInside n ss) → StoresInside n (unless_refused f ss [])
unfolding unless_refused
inside_unless zero ss inside = inside refl
inside_unless (suc f) ss inside = nil_in

module _ (cells : ℕ) (low : 2 ≤ cells) (area : List ℕ) (log : Messages) (keep : Keeping cells area log) where
  pub area_fine : area_fault area ≡ 0
  area_fine = cells_fine cells low area log keep.shows.size

  pub top_in : highest (cells_in area) (word area) ≡ length log
  top_in = ap (λ (k : ℕ). highest k (word area)) keep.shows.size ∙ keep.shows.top

  pub next-in : next_message (cells_in area) (word area) ≡ suc (length log)
  unfolding next_message
  next-in = ap suc top_in

  pub append_due : (message at value : List ℕ)
      → append_fault area message (length at) (length value) ≡ expected_log_refusal area log (an_append message at value)
  unfolding append_fault expected_log_refusal
  append_due message at value =
      or_else_later (area_fault area) _ area_fine
      ∙ ap
      (λ (n : ℕ).
      or_else (message_fault (length message))
      (or_else (version_fault n) (short_fault (length (append_stores (cells_in area) (word area) message)) (length at) (length value))))
      next-in

  pub recover_due : (at value : List ℕ) → log_recover_fault area (length at) (length value) ≡ expected_log_refusal area log (a_recovery at value)
  unfolding log_recover_fault expected_log_refusal
  recover_due at value = or_else_later (area_fault area) _ area_fine

  shown_in : (s : ℕ) → shown (cells_in area) (word area) s ≡ in_window (cells_in area) (length log) s
  shown_in s =
      ap (λ (k : ℕ). shown k (word area) s) keep.shows.size ∙ keep.shows.numbers s
      ∙ ap (λ (k : ℕ). in_window k (length log) s) (sym keep.shows.size)

  read_due : (s : ℕ) → read_fault area s ≡ expected_log_refusal area log (a_read s)
  unfolding expected_log_refusal
  read_due s = read-fault area area_fine s ∙ ap (λ (t : Bool). refuse_if (not t) 31 0) (shown_in s)

  read-part : (s : ℕ) → read_part area s ≡ unless_refused (expected_log_refusal area log (a_read s)) (get_or log (s - 1) []) []
  unfolding expected_log_refusal unless_refused refuse_if
  read-part s = go (split (in_window (cells_in area) (length log) s))
    where
      go : (in_window (cells_in area) (length log) s ≡ true) ⊎ (in_window (cells_in area) (length log) s ≡ false)
          → read_part area s ≡ unless_refused (refuse_if (not (in_window (cells_in area) (length log) s)) 31 0) (get_or log (s - 1) []) []
      go (inl e) =
          keep.shows.bytes s (ap (λ (k : ℕ). in_window k (length log) s) (sym keep.shows.size) ∙ e)
          ∙ sym (ap (λ (t : Bool). unless_refused (refuse_if (not t) 31 0) (get_or log (s - 1) []) []) e)
      go (inr e) =
          read_hidden area area_fine s (shown_in s ∙ e)
          ∙ sym (ap (λ (t : Bool). unless_refused (refuse_if (not t) 31 0) (get_or log (s - 1) []) []) e)

  -- EACH CALL IS RIGHT
  pub call_right : (call : LogCall) → FitsCall call → LogCallCorrect area log call
  unfolding LogCallCorrect append_result log_recover_result read_result log_stores
  call_right (an_append message at value) (append_fits are-bytes) = (
    hands_due area (an_append message at value) (append_stores (cells_in area) (word area) message) at value
        (append_fault area message (length at) (length value)) (next_message (cells_in area) (word area)) _ _ (append_due message at value) next-in refl
        (λ z. append_inside_area area message keep.bytes are-bytes (accepted area message (length at) (length value) z)),
    append_agrees area message at value,
  )
  call_right (a_read number) read_fits = ap₂ read_end (read-part number) (read_due number)
  call_right (a_recovery at value) recovery_fits = (
    hands_due area (a_recovery at value) (recovery_stores (cells_in area) (word area)) at value
        (log_recover_fault area (length at) (length value)) (highest (cells_in area) (word area)) _ _ (recover_due at value) top_in refl
        (λ z. recovery_inside_area area area_fine),
    recovery_agrees area at value,
  )

  -- append_after, lent the last number
  after_agrees : (last : ℕ) → last ≡ length log → (message at value : List ℕ)
      → append_after_result area last message at value ≡ append_result area message at value
  after_agrees last e message at value =
      ap (λ (n : ℕ). append_after_result area n message at value) (e ∙ sym top_in) ∙ after_highest.result area message at value

  pub call_after_right : (last : ℕ) → last ≡ length log → (call : LogCall) → FitsCall call → LogCallAfterCorrect area last log call
  unfolding LogCallAfterCorrect
  call_after_right last counted (an_append message at value) fits = (call_right (an_append message at value) fits, after_agrees last counted message at value)
  call_after_right last counted (a_read number) fits = call_right (a_read number) fits
  call_after_right last counted (a_recovery at value) fits = call_right (a_recovery at value) fits

  -- the stores of each call lie in the area, so any part of them is played
  stores_inside : (call : LogCall) → FitsCall call → StoresInside (length area) (log_stores area call)
  unfolding log_stores
  stores_inside (an_append message at value) (append_fits are-bytes) =
      inside_unless (append_fault area message (length at) (length value)) (append_stores (cells_in area) (word area) message)
      (λ z. append_inside_area area message keep.bytes are-bytes (accepted area message (length at) (length value) z))
  stores_inside (a_read number) read_fits = nil_in
  stores_inside (a_recovery at value) recovery_fits =
      inside_unless (log_recover_fault area (length at) (length value)) (recovery_stores (cells_in area) (word area)) (λ z. recovery_inside_area area area_fine)

  pub standing_plays : (call : LogCall) → FitsCall call → (counts : ℕ → ℕ) → StandingPlays area call counts
  unfolding area_cut
  standing_plays call f counts = list_inside area _ (standing_inside counts (stores_inside call f))

  -- ---- the list after it

  module _ (area' : List ℕ) (bytes' : AreBytes area') (same : length area' ≡ length area) where
    size_after : cells_in area' ≡ cells
    size_after = ap cells_of same ∙ keep.shows.size

    by_cells : {x y : Bool} (m : ℕ → ℕ) (s : ℕ) → shown (cells_in area) m s ≡ x → x ≡ y → shown cells m s ≡ y
    by_cells m s p q = ap (λ (k : ℕ). shown k m s) (sym keep.shows.size) ∙ p ∙ q

    -- the same is shown: the list stays
    pub same_keeps : ShowsSame area area' → Keeping cells area' log
    same_keeps e =
        record {
          size = same ∙ keep.size;
          bytes = bytes';
          shows = shows_by cells low area' log size_after same_top same_numbers same-bytes;
        }
      where
        same_top : highest cells (word area') ≡ length log
        same_top = ap (λ (k : ℕ). highest k (word area')) (sym keep.shows.size) ∙ e.top ∙ top_in

        same_numbers : (s : ℕ) → shown cells (word area') s ≡ in_window cells (length log) s
        same_numbers s = by_cells (word area') s (e.numbers s) (ap (λ (k : ℕ). shown k (word area) s) keep.shows.size ∙ keep.shows.numbers s)

        same-bytes : (s : ℕ) → in_window cells (length log) s ≡ true → read_part area' s ≡ get_or log (s - 1) []
        same-bytes s w = e.parts s ∙ keep.shows.bytes s w

    -- one more is shown: the list has it too
    module _ (message : List ℕ) (g : ShowsMore area message area') where
      longer : length (log ++ message ∷ []) ≡ suc (length log)
      longer = length-append log (message ∷ []) ∙ omega arith

      top_after : highest cells (word area') ≡ suc (length log)
      top_after = ap (λ (k : ℕ). highest k (word area')) (sym keep.shows.size) ∙ g.top ∙ next-in

      newest : shown cells (word area') (suc (length log)) ≡ true
      newest = ap₂ (λ (k s : ℕ). shown k (word area') s) (sym keep.shows.size) (sym next-in) ∙ g.newest

      -- a number of the list before is shown just where it was, but for the oldest
      shown_old : (s : ℕ) → s ≤ length log → Window cells (suc (length log)) s → shown (cells_in area) (word area') s ≡ true
      shown_old s p w =
          g.numbers s (subst (λ (x : ℕ). s ≤ x) (sym top_in) p)
          ∙ both _ _
          (shown_in s
          ∙ ap (λ (k : ℕ). in_window k (length log) s) keep.shows.size
          ∙ in-window cells (length log) s (record { low = w.low; high = p; near = omega (arith, w.near) }))
          (ap not (ne_eqb _ _ (λ (q : s + cells_in area ≡ highest (cells_in area) (word area) + 2). omega (arith, top_in, keep.shows.size, w.near))))

      at : (s : ℕ) → in_window cells (length (log ++ message ∷ [])) s ≡ true → Window cells (suc (length log)) s
      at s e = window cells (suc (length log)) s (ap (λ (n : ℕ). in_window cells n s) (sym longer) ∙ e)

      old_or_new : (s : ℕ) → Window cells (suc (length log)) s → (s ≡ suc (length log)) ⊎ (s ≤ length log)
      old_or_new s w = by_cases (ℕ_discrete s (suc (length log))) (λ e. inl e) (λ ne. inr (omega (arith, w.high)))

      numbers_after : (s : ℕ) → shown cells (word area') s ≡ in_window cells (length (log ++ message ∷ [])) s
      unfolding shown
      numbers_after s =
          same_test (shown cells (word area') s) (in_window cells (length (log ++ message ∷ [])) s)
          (λ e.
          ap (λ (n : ℕ). in_window cells n s) (longer ∙ sym top_after)
          ∙ both_left (in_window cells (highest cells (word area')) s) (is_complete cells (word area') s) e)
          (λ e. go (at s e) (old_or_new s (at s e)))
        where
          go : Window cells (suc (length log)) s → (s ≡ suc (length log)) ⊎ (s ≤ length log) → shown cells (word area') s ≡ true
          go w (inl q) = ap (shown cells (word area')) q ∙ newest
          go w (inr p) = by_cells (word area') s (shown_old s p w) refl

      bytes_after : (s : ℕ) → Window cells (suc (length log)) s → (s ≡ suc (length log)) ⊎ (s ≤ length log)
          → read_part area' s ≡ get_or (log ++ message ∷ []) (s - 1) []
      bytes_after s w (inl q) =
          ap (read_part area') (q ∙ sym next-in) ∙ g.newest_part
          ∙ sym (get_or_at log message [] [] (s - 1) (let z : length log ≡ s - 1 = omega arith in z))
      bytes_after s w (inr p) =
          g.parts s (subst (λ (x : ℕ). s ≤ x) (sym top_in) p) (shown_old s p w)
          ∙ keep.shows.bytes s (in-window cells (length log) s (record { low = w.low; high = p; near = omega (arith, w.near) }))
          ∙ sym (get_or-append log (message ∷ []) [] (s - 1) (omega (arith, w.low)))

      parts_after : (s : ℕ) → in_window cells (length (log ++ message ∷ [])) s ≡ true → read_part area' s ≡ get_or (log ++ message ∷ []) (s - 1) []
      parts_after s e = bytes_after s (at s e) (old_or_new s (at s e))

      pub more_keeps : Keeping cells area' (log ++ message ∷ [])
      more_keeps =
          record {
            size = same ∙ keep.size;
            bytes = bytes';
            shows = shows_by cells low area' (log ++ message ∷ []) size_after (top_after ∙ sym longer) numbers_after parts_after;
          }
