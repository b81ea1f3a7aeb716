-- THE OUTPUT OF A TRACE, proved from the laws of the set and the session's. Assumes nothing.
use mathlib.Core.Path.{◌≡◌, refl, sym, ap, ap₂, ◌∙◌}
use mathlib.Core.Bool.{false}
use mathlib.Core.List.{List, [], ◌∷◌, ◌++◌}
use Prim.Native.Nat.{ℕ, ◌≤◌}
use lib.ListN.{length}
use Rattle.interface.specs.Laws.{SetLaws}
use Rattle.interface.specs.CutCount.{expected_counts, CutsCounted}
use Rattle.interface.proofs.SetLaws.{layout_1, set_laws}
use Rattle.interface.proofs.CutCounts.{cuts_counted}
use Rattle.interface.specs.Set.{Store, World, Call, PlainMap}
use Rattle.prelude.specs.Answer.{Answer, gives, absent, refused}
use Rattle.prelude.proofs.Refusals.{by_refusal}
use Rattle.text.specs.Forms.{line_of}
use Rattle.text.specs.Output.{Printed, counted, nothing, text}
use Rattle.text.proofs.Storing.{FewNumbers}
use Rattle.text.specs.declared.Line.{Line}
use Rattle.text.specs.declared.Line.TheVariants.{New, Write, Remove, Get, Cut, Bad}
use Rattle.session.specs.Step.{StepResult, leaves, no_set, step_result}
use Rattle.session.specs.Stream.{lines_of, step_after, joined_reads}
use Rattle.session.specs.Rule.{SizedLine, sized_new, sized_bad, map_after}
use Rattle.session.specs.Lines.{world_of}
use Rattle.session.specs.declared.Session.{Session}
use Rattle.session.proofs.defs.Keeps.{Keeps, none_yet}
use Rattle.session.proofs.defs.Stream.{output_of}
use Rattle.session.proofs.Numbers.{sized_line}
use Rattle.session.proofs.OneLine.{line_goes, still_keeps}
use Rattle.session.proofs.Streams.{output_of_lines}
use Rattle.session.proofs.StreamResults.{output_of_reads}
use Rattle.trace.specs.Step.{without_cut, tried_counts, answer_counts, change_counts, line_counts, front_counts, counts_printed, printing, trace_result}
use Rattle.trace.specs.Rule.{cut_counts, line_print, calls_print, trace_written, TraceRule}
use Rattle.trace.proofs.Lines.{CountsEach, due_each, line-prints}

-- ---- a line prints at most two numbers

answer_few : (image : List ℕ) (ss : List Store) (copy later : ℕ) (answer : Answer) → FewNumbers (answer_counts image ss copy later answer)
unfolding answer_counts tried_counts
answer_few image ss copy later (gives given) = by_refusal FewNumbers _ _ _ tt tt
answer_few image ss copy later absent = tt
answer_few image ss copy later (refused number) = tt

counts_few : (copy later : ℕ) (line : Line) (s : Session) (image heads next : List ℕ) → FewNumbers (line_counts copy later line s image heads next)
unfolding line_counts change_counts
counts_few copy later (New n) s image heads next = tt
counts_few copy later (Write key w) s image heads next = answer_few image _ copy later _
counts_few copy later (Remove key) s image heads next = answer_few image _ copy later _
counts_few copy later (Get key) s image heads next = tt
counts_few copy later (Cut a b) s image heads next = tt
counts_few copy later Bad s image heads next = tt

trace_few : (copy later : ℕ) (line : Line) (s : Session) (image heads next : List ℕ) → FewNumbers (trace_result copy later line s image heads next).answer
unfolding trace_result printing counts_printed front_counts
trace_few copy later line s image heads next = by_refusal FewNumbers _ _ _ (counts_few _ _ (without_cut line) s _ _ _) tt

-- ---- every list of lines

sized_without : (line : Line) → SizedLine line → SizedLine (without_cut line)
unfolding without_cut
sized_without (New n) s = sized_new
sized_without (Write key x) s = s
sized_without (Remove key) s = s
sized_without (Get key) s = s
sized_without (Cut a b) s = sized_bad
sized_without Bad s = sized_bad

-- what follows does not ask for the last answer
any_answer : (counts : World → PlainMap → Call → List ℕ) (p : Printed) (r : StepResult) (m : PlainMap) (lines : List (List ℕ))
    → calls_print counts (printing p r) m lines ≡ calls_print counts r m lines
unfolding calls_print printing line_print step_after map_after world_of
any_answer counts p r m [] = refl
any_answer counts p r m (line ∷ lines) = refl

module _ (Inv : World → PlainMap → Type 0) (laws : SetLaws 1 Inv) (cuts : CutsCounted 1 Inv) (counts : World → PlainMap → Call → List ℕ)
    (each : CountsEach Inv counts) (copy later : ℕ) (c : 65536 ≤ copy) (d : 65536 ≤ later) where
  lines_print : (r : StepResult) (m : PlainMap) → Keeps Inv r m → (lines : List (List ℕ))
      → output_of (trace_result copy later) r lines ≡ calls_print counts r m lines
  unfolding output_of calls_print trace_result printing step_after
  lines_print r m k [] = refl
  lines_print r m k (line ∷ lines) =
      let asked = without_cut (line_of line) in
      let sized = sized_without (line_of line) (sized_line line) in
      ap₂ (λ (x y : List ℕ). x ++ y) (line-prints Inv laws cuts counts each r m k copy later c d asked sized)
      (lines_print (printing _ (step_after r asked)) (map_after r m asked)
      (still_keeps Inv (step_after r asked) (map_after r m asked) _ (line_goes Inv laws r m asked sized k).1) lines
      ∙ any_answer counts _ (step_after r asked) (map_after r m asked) lines)

  -- ---- every input

  module _ (image heads next output : List ℕ) (room : 64 ≤ length output) (p : Printed) (m : PlainMap) (reads : List (List ℕ)) where
    written_prints : trace_written copy later image heads next output reads ≡
        calls_print counts (leaves p no_set image heads next) m (lines_of (joined_reads reads))
    written_prints =
        output_of_reads (trace_result copy later) (trace_few copy later) p image heads next output reads room
        ∙ output_of_lines (trace_result copy later) (leaves p no_set image heads next) (joined_reads reads)
        ∙ lines_print (leaves p no_set image heads next) m (none_yet refl) (lines_of (joined_reads reads))

-- THE OUTPUT OF A TRACE
pub trace_rule : TraceRule
trace_rule copy later image heads next output c d room p m reads =
    let laws = set_laws 1 layout_1 in
    let cuts = cuts_counted 1 layout_1 in (
      written_prints _ laws cuts (λ w m. cut_counts w) (λ w m i call typed some-there. refl) copy later c d image heads next output room p m reads,
      written_prints _ laws cuts (λ w. expected_counts) (due_each _ laws cuts) copy later c d image heads next output room p m reads,
    )
