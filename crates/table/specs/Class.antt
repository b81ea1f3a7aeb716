-- The classes of slots that the content of a slot alone tells: broken (`is_broken` of Table), empty, and of the valid
-- ones put and remove (`is_remove` of Taking).
use Rattle.std.specs.Prelude.{Bool, true, false}
use Rattle.layout.specs.Content.{Content, broken, empty, put_record, remove_record}

unfoldable pub is_empty : Content → Bool
is_empty (broken top) = false
is_empty empty = true
is_empty (put_record version key value) = false
is_empty (remove_record version key) = false

unfoldable pub is_put : Content → Bool
is_put (broken top) = false
is_put empty = false
is_put (put_record version key value) = true
is_put (remove_record version key) = false
