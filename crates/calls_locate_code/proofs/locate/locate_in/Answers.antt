-- Answers of `calls_locate_code::locate::locate_in`.
use Rattle.std.proofs.Common.{rules, ◌≡◌, ◌∙◌, length}
use Rattle.layout.specs.Header.{lent_fault}
use mathlib.Core.Path.{ap₂}
use mathlib.Core.List.{[]}
use Prim.Native.Nat.{ℕ}
use native.Mathlib.Omega.{arith}
use Rattle.layout.proofs.Lents.{lent_sized}
use Rattle.prelude.specs.Answer.{Answer}
use Rattle.index.specs.Walk.{compared_in}
use Rattle.calls.specs.Result.{ReadOnlyResult}
use Rattle.calls.specs.Locate.{locate_says}
use Rattle.calls.proofs.Lookups.{lent_inside}
use Rattle.calls.proofs.Locates.{refused_compares, locate_refused, locate_compares, locate_held, locate_not_held, locate_bad}
use Rattle.calls_locate_code.proofs.locate.locate_in.Goals as goal

-- `calls_locate_code::locate::locate_in` meets its contract. Assumes nothing.
-- it has no output
abbrev left : Answer → ℕ → ReadOnlyResult
left answer compared = record { answer = answer; out = []; compared = compared }

pub returns-then-lent-ne0 : goal.returns-then-lent-ne0
unfolding locate_says
returns-then-lent-ne0 c =
    record {
      result = (ap₂ left (locate_refused _ _ _ _ _ _ (c.return_code-lent.ensures.result ∙ c.check_lent.ensures.fault) c.if-lent-ne0.true)
          (refused_compares _ _ _ _ _ _ (c.return_code-lent.ensures.result ∙ c.check_lent.ensures.fault) c.if-lent-ne0.true));
    }

pub find_key-found-requires : goal.find_key-found-requires
find_key-found-requires c =
    let lent : c.return_code-lent.result ≡ lent_fault c.args.l c.args.image.now (length c.args.heads.now) (length c.args.next.now) =
    c.return_code-lent.ensures.result ∙ c.check_lent.ensures.fault in
    search (lent_sized, rules)

pub read_word-requires : goal.read_word-requires
read_word-requires c =
    let inside =
    lent_inside _ _ _ _ _ _ c.if-lent-ne0.false c.slot_count.ensures.result (c.return_code-lent.ensures.result ∙ c.check_lent.ensures.fault) _ _
    c.find_key-found.ensures.result c.requires in
    omega (arith, (rw c.in-At.is at inside).room)

pub returns-in-At : goal.returns-in-At
unfolding locate_says compared_in
returns-in-At c =
    record {
      result = (ap₂ left
          (locate_held _ _ _ _ _ _ (c.return_code-lent.ensures.result ∙ c.check_lent.ensures.fault)
          c.if-lent-ne0.false _ c.find_key-found.ensures.result _ _ _ _ c.in-At.is
          c.read_word.ensures.result)
          (locate_compares _ _ _ _ _ _ (c.return_code-lent.ensures.result ∙ c.check_lent.ensures.fault)
          c.if-lent-ne0.false _ c.find_key-found.ensures.result _ c.in-At.is));
    }

pub returns-in-Missing : goal.returns-in-Missing
unfolding locate_says compared_in
returns-in-Missing c =
    record {
      result = (ap₂ left
          (locate_not_held _ _ _ _ _ _ (c.return_code-lent.ensures.result ∙ c.check_lent.ensures.fault)
          c.if-lent-ne0.false _ c.find_key-found.ensures.result _ _
          c.in-Missing.is)
          (locate_compares _ _ _ _ _ _ (c.return_code-lent.ensures.result ∙ c.check_lent.ensures.fault)
          c.if-lent-ne0.false _ c.find_key-found.ensures.result _ c.in-Missing.is));
    }

pub returns-in-BadChain : goal.returns-in-BadChain
unfolding locate_says compared_in
returns-in-BadChain c =
    record {
      result = (ap₂ left
          (locate_bad _ _ _ _ _ _ (c.return_code-lent.ensures.result ∙ c.check_lent.ensures.fault)
          c.if-lent-ne0.false _ c.find_key-found.ensures.result c.in-BadChain.is)
          (locate_compares _ _ _ _ _ _ (c.return_code-lent.ensures.result ∙ c.check_lent.ensures.fault)
          c.if-lent-ne0.false _ c.find_key-found.ensures.result _ c.in-BadChain.is));
    }
