-- THE SESSION RULE, proved from the laws of the set by the one induction over lists. Assumes nothing.
use mathlib.Core.Path.{refl}
use mathlib.Core.List.{List}
use Rattle.prelude.specs.Members.{All}
use Rattle.prelude.proofs.Histories.{throughout}
use Rattle.interface.specs.Set.{World, PlainMap}
use Rattle.interface.specs.Laws.{SetLaws}
use Rattle.interface.proofs.SetLaws.{layout_1, set_laws}
use Rattle.text.specs.declared.Line.{Line}
use Rattle.session.specs.Step.{StepResult}
use Rattle.session.specs.Lines.{world_of}
use Rattle.session.specs.Rule.{Between, no-set, a_set, SessionHolds, SessionRule, SizedLine}
use Rattle.session.proofs.defs.Keeps.{Keeps, none_yet, kept}
use Rattle.session.proofs.OneLine.{line_goes}

module _ (Inv : World → PlainMap → Type 0) (laws : SetLaws 1 Inv) where
  between : (r : StepResult) (m : PlainMap) → Keeps Inv r m → Between r m
  between r m (none_yet e) = no-set e
  between r m (kept k) =
      a_set
      (record {
        size = k.size;
        waits = k.waits;
        recovers = laws.recovers (world_of r) m k.set;
        reads = laws.reads (world_of r) m k.set;
      })

  -- from any session whose set has the invariant of sets with the plain map m
  pub session_keeps : (r : StepResult) (m : PlainMap) → Keeps Inv r m → (lines : List Line) → All SizedLine lines → SessionHolds r m lines
  session_keeps r m k lines sized =
      throughout _ _ _ _ (Keeps Inv) SizedLine between (λ q p i line s. (line_goes Inv laws q p line s i).0)
      (λ q p i line s. (line_goes Inv laws q p line s i).1) r m lines k sized

-- THE SESSION RULE
pub session_rule : SessionRule
session_rule p image heads next m lines sized = session_keeps _ (set_laws 1 layout_1) _ m (none_yet refl) lines sized
