-- The invariant of `recovery_judge_code::settling::judged_rank`.
use Rattle.words.specs.Word.{word}
use Rattle.layout.specs.Content.{size_field_in}
use Rattle.recovery.proofs.Settles.{Judging}
use Rattle.recovery_judge_code.proofs.settling.judged_rank.Given as goal

abbrev pub invariant-loop-i : goal.invariant-loop-i
invariant-loop-i l = Judging (size_field_in l.l (word l.image)) l.ranks l.order l.n l.i
