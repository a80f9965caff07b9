-- The worked examples, by computation.
-- Assumes nothing.
use mathlib.Core.Path.{◌≡◌, refl}
use Rattle.radio.specs.Search.{begins_at, first_from, find_call}
use Rattle.radio.specs.Worked.{messages, messages_expected}

pub worked : messages ≡ messages_expected
unfolding begins_at first_from find_call
worked = refl
