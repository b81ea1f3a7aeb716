-- The reads of `report::main` are counted, and what is kept between them is what a report can go on with.
use Rattle.std.proofs.Common.{◌≡◌, length}
use Rattle.report_text.specs.inner.Images.{Buffers}
use Rattle.report.proofs.main.Given as goal

abbrev pub invariant-loop-reads : goal.invariant-loop-reads
invariant-loop-reads l = record {
  input : length l.input ≡ 98304;
  out : length l.out ≡ 33280;
  kept : Buffers l.s.progress l.s.have l.input l.out;
}

abbrev pub decreases-loop-reads : goal.decreases-loop-reads
decreases-loop-reads l = l.reads
