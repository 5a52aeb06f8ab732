-- The rows that pin coloured bytes, balance, the order of refusals and the lent buffers hold, all of them computed.
use mathlib.Core.Path.{◌≡◌, refl}
use Rattle.recording.specs.Recording.{items}
use Rattle.recording.specs.Coloured.{coloured, balanced}
use Rattle.recording.specs.Pins.{pins, colours_of, colours_due, balances_of, balances_due, order_of, order_due, after_of, after_due}
use Rattle.buffer.specs.Place.{over}
use Rattle.recording.specs.Outcome.{over_limit, no_room, refusal_of, lent_after}

pub colours_hold : colours_of pins ≡ colours_due pins
unfolding pins coloured items
colours_hold = refl

pub balances_hold : balances_of pins ≡ balances_due pins
unfolding pins balanced items
balances_hold = refl

pub order_holds : order_of ≡ order_due
unfolding order_of refusal_of over_limit no_room
order_holds = refl

pub after_holds : after_of ≡ after_due
unfolding after_of lent_after over
after_holds = refl
