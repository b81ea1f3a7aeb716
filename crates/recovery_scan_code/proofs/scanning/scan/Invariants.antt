-- The invariant of `recovery_scan_code::scanning::scan`.
use Rattle.words.specs.Word.{word}
use Rattle.recovery.proofs.Scans.{Scanning}
use Rattle.recovery_scan_code.proofs.scanning.scan.Given as goal

abbrev pub invariant-loop-s : goal.invariant-loop-s
invariant-loop-s l = Scanning l.l (word l.image) l.n l.b l.ranks l.lows l.highs l.places l.all l.s
