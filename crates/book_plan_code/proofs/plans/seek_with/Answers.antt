-- Answers of `book_plan_code::plans::seek_with`.
use mathlib.Core.Path.{ap, ◌∙◌}
use borrow.Author.Rules.{rules}
use Rattle.interface.specs.Set.{get_says, ReadOnlyResult}
use Rattle.interface.proofs.SetLaws.{layout_numbered}
use Rattle.book.specs.Steps.{none_there, sought_in}
use Rattle.book.specs.inner.Courses.{seek_says, sought_number}
use Rattle.book.proofs.Seeks.{seek_given, room_left}
use Rattle.book_plan_code.proofs.plans.seek_with.Goals as goal

pub order_in-requires : goal.order_in-requires
order_in-requires c =
    room_left _ (layout_numbered c.args.wide) _ c.requires _ c.get_in_layout.auto.out

pub returns-in-Length : goal.returns-in-Length
unfolding get_says
returns-in-Length c =
    record {
      order = (c.order_in.ensures.result ∙ seek_given _ _ _ _ _ _ c.requires _ c.get_in_layout.ensures.result _
          (ap get_says c.in-Length.is));
    }

pub returns-in-Absent : goal.returns-in-Absent
unfolding get_says seek_says sought_in
returns-in-Absent c =
    record { order = (seek_given _ _ _ _ _ _ c.requires _ c.get_in_layout.ensures.result _ (ap get_says c.in-Absent.is)) }

pub returns-in-Refused : goal.returns-in-Refused
unfolding get_says seek_says sought_in sought_number
returns-in-Refused c =
    record {
      order = (ap none_there c.sought_number.ensures ∙ seek_given _ _ _ _ _ _ c.requires _ c.get_in_layout.ensures.result _
          (ap get_says c.in-Refused.is));
    }
