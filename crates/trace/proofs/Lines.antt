-- What one line of a trace prints, beside the plain map: a line of counts where its call stores, else nothing. Assumes nothing.
use mathlib.Core.Path.{◌≡◌, refl, sym, ap, ap₂, ◌∙◌, subst}
use mathlib.Core.Logic.{by_cases}
use mathlib.Core.Bool.{Bool, true, false, cond}
use mathlib.Core.Option.{some}
use mathlib.Core.List.{List, [], ◌∷◌}
use Prim.Native.Nat.{ℕ, ◌+◌, ◌*◌, ◌≤◌, min}
use native.Mathlib.Decide.{ℕ_discrete}
use native.Mathlib.Omega.{arith}
use lib.ListN.{length, take, replicate}
use lib.Seq.{length-take-le}
use Rattle.prelude.specs.Answer.{Answer, gives, absent, refused}
use Rattle.prelude.proofs.Refusals.{taken_leaves, refused_keeps}
use Rattle.interface.specs.Laws.{Writes, write_writes, remove_writes, SetLaws}
use Rattle.interface.specs.CutCount.{expected_counts, CutsCounted}
use Rattle.interface.proofs.Stored.{refusal_still}
use Rattle.interface.specs.Set.{Store, word_numbers, values, World, Call, write, remove, get, CallResult, call_result, PlainMap, is_held, Typed, write_typed}
use Rattle.interface.specs.Set.{remove_typed, cut_count_result, earlier_count, later_count, reads_only}
use Rattle.text.specs.Output.{Printed, nothing, text, line_text}
use Rattle.text.specs.declared.Line.{Line}
use Rattle.text.specs.declared.Line.TheVariants.{New, Write, Remove, Get, Cut, Bad}
use Rattle.session.specs.Step.{StepResult, slots_for, word_bytes, word_change}
use Rattle.session.specs.Lines.{world_of, mode_for, call_in}
use Rattle.session.specs.Rule.{fault_at, SizedLine, sized_write, sized_remove}
use Rattle.session.proofs.defs.Keeps.{SetKeeps, Keeps}
use Rattle.session.proofs.Steps.{FitsLent, roomy}
use Rattle.session.proofs.OneLine.{has_set}
use Rattle.session.proofs.CallEvents.{word-bytes, write_called}
use Rattle.trace.specs.Step.{tried_counts, answer_counts, change_counts, line_counts, front_counts, counts_printed}
use Rattle.trace.specs.Rule.{cut_counts, stores_print, call_print, line_print}
use Rattle.trace.proofs.Counts.{counts_given, counts-printed}

min_of : (a b : ℕ) → a ≤ b → min a b ≡ a
min_of a b h = omega arith

no_text : text nothing ≡ []
unfolding text
no_text = refl

-- the counts that a line prints are those of the call's cuts
abbrev pub CountsEach : (Inv : World → PlainMap → Type 0) → (counts : World → PlainMap → Call → List ℕ) → Type 0
CountsEach Inv counts =
    (w : World) (m : PlainMap) → Inv w m → (call : Call) → Typed 1 call → ((call_result 1 w call).stores ≡ [] → ⊥) → cut_counts w call ≡ counts w m call

module _ (Inv : World → PlainMap → Type 0) (laws : SetLaws 1 Inv) (counted : CutsCounted 1 Inv) where
  -- by the cut rule these are 80 and 1, or 81 and 81
  pub due_each : CountsEach Inv (λ w. expected_counts)
  unfolding cut_counts
  due_each w m i call typed some-there =
      counts_given w.image (call_result 1 w call).stores w.image w.image _ (counted w m i call typed some-there w.image w.image refl refl)

  module _ (counts : World → PlainMap → Call → List ℕ) (each : CountsEach Inv counts) where
    -- ---- a call

    module _ (w : World) (m : PlainMap) (i : Inv w m) (call : Call) (typed : Typed 1 call) (writes : Writes call) (copy later : ℕ)
        (c : copy ≡ length w.image) (d : later ≡ length w.image) where
      -- nothing is stored
      none_prints : (call_result 1 w call).stores ≡ [] → text nothing ≡ stores_print counts w m call (call_result 1 w call).stores
      unfolding stores_print text
      none_prints e = sym (ap (stores_print counts w m call) e)

      some_prints : (ss : List Store) → (call_result 1 w call).stores ≡ ss → (ss ≡ [] → ⊥) → line_text (counts w m call) ≡ stores_print counts w m call ss
      unfolding stores_print
      some_prints [] e some-there = absurd (some-there refl)
      some_prints (s ∷ ss) e some-there = refl

      -- the counts are printed
      stored_prints : (ss : List Store) → (call_result 1 w call).stores ≡ ss → ((call_result 1 w call).stores ≡ [] → ⊥)
          → text (tried_counts w.image ss copy later) ≡ stores_print counts w m call (call_result 1 w call).stores
      unfolding cut_counts
      stored_prints ss e some-there =
          ap (λ (x : List Store). text (tried_counts w.image x copy later)) (sym e)
          ∙ ap₂ (λ (x y : ℕ). text (tried_counts w.image (call_result 1 w call).stores x y)) c d
          ∙ counts-printed w.image (call_result 1 w call).stores w.image w.image _
          (counted w m i call typed some-there w.image w.image refl refl)
          ∙ ap line_text (each w m i call typed some-there)
          ∙ some_prints (call_result 1 w call).stores refl some-there

      pub change-prints : (r : CallResult) → call_result 1 w call ≡ r
          → text (change_counts w.image copy later r) ≡ stores_print counts w m call (call_result 1 w call).stores
      unfolding change_counts answer_counts
      change-prints r e = go r.answer (ap (λ (x : CallResult). x.answer) e)
        where
          go : (answer : Answer) → (call_result 1 w call).answer ≡ answer
              → text (answer_counts w.image r.stores copy later answer) ≡ stores_print counts w m call (call_result 1 w call).stores
          go (gives given) a = stored_prints r.stores (ap (λ (x : CallResult). x.stores) e) (laws.some_stores w m i call typed writes given a)
          go absent a = none_prints ((laws.answers w m i call typed).absent_still a).no_stores
          go (refused number) a = none_prints (refusal_still 1 w m call (laws.answers w m i call typed) number a).no_stores

    -- ---- a line

    module _ (r : StepResult) (m : PlainMap) (k : Keeps Inv r m) (copy later : ℕ) (c : 65536 ≤ copy) (d : 65536 ≤ later) where
      -- a line that is not refused, on the fronts of its set
      module _ (line : Line) (same : slots_for line r.session ≡ r.session.n) (z : fault_at r line ≡ 0) where
        abbrev n : ℕ
        n = r.session.n

        fits : FitsLent n (length r.image) (length r.heads) (length r.next)
        fits = roomy line r.session _ _ _ (fault_at r line) n refl z (sym same)

        as_long : (size : ℕ) → 65536 ≤ size → min (128 * (n + 1)) size ≡ length (world_of r).image
        unfolding world_of
        as_long size h =
            let long = length-take-le (128 * (n + 1)) r.image fits.image_room in
            min_of (128 * (n + 1)) size (omega (arith, fits.few)) ∙ sym long

      taken_prints : (line : Line) → SizedLine line → fault_at r line ≡ 0
          → text (front_counts copy later line r.session (slots_for line r.session + 1) r.image r.heads r.next) ≡
          call_print counts (world_of r) m (call_in m line)
      unfolding front_counts line_counts call_print call_in stores_print text call_result reads_only slots_for world_of
      taken_prints (New n) s z = refl
      taken_prints (Write key x) (sized_write p q) z =
          let t = has_set Inv laws r m (Write key x) refl z k in
          change-prints (world_of r) m t.set (write (mode_for (is_held (m key))) key (word_bytes x)) (write_typed p (word-bytes x)) write_writes _ _
          (as_long (Write key x) refl z copy c) (as_long (Write key x) refl z later d) _
          (write_called Inv laws r.session _ _ _ m t.set t.waits key x)
      taken_prints (Remove key) (sized_remove p) z =
          let t = has_set Inv laws r m (Remove key) refl z k in
          change-prints (world_of r) m t.set (remove key) (remove_typed p) remove_writes _ _
          (as_long (Remove key) refl z copy c) (as_long (Remove key) refl z later d) _ refl
      taken_prints (Get key) s z = refl
      taken_prints (Cut a b) s z = refl
      taken_prints Bad s z = refl

      -- ONE LINE
      pub line-prints : (line : Line) → SizedLine line
          → text (counts_printed copy later line r.session r.image r.heads r.next) ≡ line_print counts r m line
      unfolding counts_printed line_print
      line-prints line s =
          by_cases (ℕ_discrete (fault_at r line) 0)
          (λ (z : fault_at r line ≡ 0). ap text (taken_leaves _ _ (fault_at r line) z) ∙ taken_prints line s z ∙ sym (taken_leaves _ _ (fault_at r line) z))
          (λ (ne : fault_at r line ≡ 0 → ⊥). ap text (refused_keeps _ _ (fault_at r line) ne) ∙ no_text ∙ sym (refused_keeps _ _ (fault_at r line) ne))
