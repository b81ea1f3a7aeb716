-- What the functions of the report ask and leave.
use Rattle.std.specs.Prelude.{◌≡◌, Option, Some, None, List, ℕ, ◌+◌, ◌-◌, ◌*◌, ◌/◌, ◌≤◌, length}
use Rattle.prelude.specs.Answer.{Answer}
use Rattle.text.specs.inner.Output.{Wrote}
use Rattle.report_text.specs.Report.{image_answer, answer_text, totals_with}
use Rattle.report_text.specs.Blocks.{TotalsBounded}
use Rattle.report_text.specs.declared.ReportProgress.{ReportProgress}
use Rattle.report_text.specs.declared.ImageReport.{ImageReport}
use Rattle.report_text.specs.declared.FrontReport.{FrontReport}

-- one image more
unfoldable pub progress_with : Answer → ReportProgress → ReportProgress
progress_with a p = record { left = p.left - 1; totals = totals_with a p.totals }

-- the image is one of 2 to 511 slots, there is an entry of next for each, and room for a line
pub record Reportable (image next : List ℕ) (p : ReportProgress) (out : List ℕ) (at : ℕ) : Type 0 where
  pub slots : ℕ
  pub low : 2 ≤ slots
  pub high : slots ≤ 511
  pub size : length image ≡ 128 * (slots + 1)
  pub next_size : length next ≡ 512
  pub some_left : 1 ≤ p.left
  pub held : TotalsBounded p
  pub room : at + 128 ≤ length out

-- its line was stored, and it was counted
pub record ImageReported (image : List ℕ) (p : ReportProgress) (old : List ℕ) (at : ℕ) (new : List ℕ) (r : ImageReport) : Type 0 where
  pub wrote : Wrote old new at r.end (answer_text (image_answer image))
  pub progress_is : r.progress ≡ progress_with (image_answer image) p
  pub held : TotalsBounded r.progress

-- a block of input, and room for the lines of its images and for two more
pub record BlockLent (input : List ℕ) (p : ReportProgress) (out : List ℕ) : Type 0 where
  pub held : TotalsBounded p
  pub room : length input + 768 ≤ 3 * length out

-- what the program keeps between reads: the first `have` bytes of the input are not read yet
pub record Buffers (p : ReportProgress) (have : ℕ) (input out : List ℕ) : Type 0 where
  pub held : TotalsBounded p
  pub inside : have ≤ length input
  pub room : length input / 3 + 257 ≤ length out

-- it was not refused
abbrev pub IsReported : Option FrontReport → Type 0
IsReported (Some r) = Unit {0}
IsReported None = ⊥
