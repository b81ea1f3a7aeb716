-- The report block by block, and that the blocks of an input together print its report.
use Rattle.std.specs.Prelude.{Option, Some, None}
use Rattle.std.specs.Prelude.{◌≡◌, Bool, true, false, cond, ◌&&◌, List, [], ◌++◌, ℕ, ◌+◌, ◌-◌, ◌*◌, ◌/◌, ◌^◌, ◌≤◌, eqb, ltb, leb, length, take, drop}
use Rattle.report_text.specs.Report.{image_size, whole_size, no_totals, report_from, report_of}
use Rattle.report_text.specs.declared.SlotTotals.{SlotTotals}
use Rattle.report_text.specs.declared.ReportProgress.{ReportProgress}
use Rattle.report_text.specs.declared.Block.{Block}
use Rattle.report_text.specs.declared.FrontReport.{FrontReport}

-- no total is above this bound
pub record Below (t : SlotTotals) (bound : ℕ) : Type 0 where
  pub live_low : t.live ≤ bound
  pub hidden_low : t.hidden ≤ bound
  pub removes_low : t.removes ≤ bound
  pub void_low : t.void ≤ bound
  pub broken_low : t.broken ≤ bound
  pub empty_low : t.empty ≤ bound

-- at most a million images are read in all, and each adds less than 2^32 to a total
pub record TotalsBounded (p : ReportProgress) : Type 0 where
  pub few : p.left ≤ 1000000
  pub low : Below p.totals (2 ^ 32 * (1000000 - p.left))

-- the size of a whole image at the start, if one may still be read, else 0
unfoldable pub readable : (left : ℕ) → (input : List ℕ) → ℕ
readable left input = cond (eqb left 0) 0 (whole_size input)

-- `Below` as a test
unfoldable pub is_below : SlotTotals → (bound : ℕ) → Bool
is_below t bound =
    cond (ltb bound t.live) false
    (cond (ltb bound t.hidden) false
    (cond (ltb bound t.removes) false
    (cond (ltb bound t.void) false
    (cond (ltb bound t.broken) false (leb t.empty bound)))))

-- `TotalsBounded` as a test
unfoldable pub is_bounded : ReportProgress → Bool
is_bounded p = cond (ltb 1000000 p.left) false (is_below p.totals (2 ^ 32 * (1000000 - p.left)))

-- the first `have` bytes of a buffer of this size can be reported: they are there, there is room for a line of 128
-- bytes for each 384 bytes of the buffer and for two lines more, and the totals are bounded
unfoldable pub is_lent : (have size room : ℕ) → ReportProgress → Bool
is_lent have size room p = cond (ltb size have) false (cond (ltb room (size / 3 + 257)) false (is_bounded p))

-- WHATEVER INPUT FOLLOWS, the output goes on with what is left; no whole image is left that may be read
pub record BlockReported (input : List ℕ) (p : ReportProgress) (out : List ℕ) (b : Block) : Type 0 where
  pub inside : b.used ≤ length input
  -- what is printed is at most a third of what is read: a line of at most 128 bytes for each image of at least 384
  pub thirds : 3 * b.end ≤ b.used
  pub held : TotalsBounded b.progress
  -- at what is left no whole image stands, or no more images may be read
  pub none_left : readable b.progress.left (drop b.used input) ≡ 0
  pub goes-on : (more : List ℕ)
      → report_from p.left (input ++ more) p.totals
      ≡ take b.end out ++ report_from b.progress.left (drop b.used input ++ more) b.progress.totals

-- the reading ends here, whatever follows: no image may be read, or a word 0 is there that is outside
unfoldable pub ends_reading : (left : ℕ) → (rest : List ℕ) → Bool
ends_reading left rest = cond (eqb left 0) true (leb 8 (length rest) && eqb (image_size rest) 0)

-- the first `have` bytes of a buffer are reported, and what is not read of them is carried over to its front; the bytes
-- after the `carried` ones may be any
pub record FrontReported (old : List ℕ) (have : ℕ) (p : ReportProgress) (new out : List ℕ) (r : FrontReport) : Type 0 where
  pub reported : BlockReported (take have old) p out r.block
  pub printed : r.block.end ≤ length out
  pub carried_size : r.carried ≡ have - r.block.used
  pub carried_over : take r.carried new ≡ drop r.block.used (take have old)
  pub ended_is : r.ended ≡ ends_reading r.block.progress.left (drop r.block.used (take have old))

-- what is reported; none exactly where the bytes cannot be reported, and then no byte is changed
abbrev pub FrontAnswered : (old : List ℕ) → (have : ℕ) → ReportProgress → (oldOut new out : List ℕ) → Option FrontReport → Type 0
FrontAnswered old have p oldOut new out (Some r) = (is_lent have (length old) (length oldOut) p ≡ true) × FrontReported old have p new out r
FrontAnswered old have p oldOut new out None = (is_lent have (length old) (length oldOut) p ≡ false) × (new ≡ old) × (out ≡ oldOut)

-- the report from here to the end of the input; nothing where the sizes or the progress are none that a report can go
-- on with
unfoldable pub last_text : (input : List ℕ) → (room : ℕ) → ReportProgress → List ℕ
last_text input room p = cond (is_lent (length input) (length input) room p) (report_from p.left input p.totals) []

-- what is printed of an input, from this progress on, by the promises of `report_front` and `report_last`: block by
-- block, each the front of what is not read yet, and then the last one, at the end of the input or where the reading
-- ends
pub data Prints : ReportProgress → (input output : List ℕ) → Type 0 where
  block : (p : ReportProgress) (front more output out : List ℕ) (b : Block) → BlockReported front p out b
      → Prints b.progress (drop b.used front ++ more) output → Prints p (front ++ more) (take b.end out ++ output)
  last : (p : ReportProgress) (input out : List ℕ) (r : ℕ) → take r out ≡ report_from p.left input p.totals → Prints p input (take r out)
  ended : (p : ReportProgress) (rest more out : List ℕ) (r : ℕ) → ends_reading p.left rest ≡ true → take r out ≡ report_from p.left rest p.totals
      → Prints p (rest ++ more) (take r out)

-- HOWEVER THE INPUT COMES, its report is printed
abbrev pub PrintsReport : Type 0
PrintsReport = (input output : List ℕ) → Prints (record { left = 1000000; totals = no_totals }) input output → output ≡ report_of input
